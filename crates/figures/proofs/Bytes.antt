-- Laws of byte strings: what every byte is, a string laid down in a room part by part, a string at the start of another.
use Prim.Native.Nat.{ℕ, suc, ◌+◌, ◌-◌, ◌<◌, ◌≤◌, min}
use mathlib.Core.Path.{◌≡◌, refl, sym, ap, ◌∙◌}
use mathlib.Core.Bool.{Bool, true, false, cond, ◌&&◌, false≢true, and-eq-true_iff, and_assoc}
use mathlib.Core.List.{List, [], ◌∷◌, ◌++◌, append_assoc, append-nil}
use native.Mathlib.Numerals.{add-one}
use native.Mathlib.Omega.{arith}
use borrow.Author.Tests.{ltb-false, eq-eqb, ne_eqb, eqb-true, leb-true, leb-false, le-leb, lt-leb}
use borrow.Rule.Slice.PartMut.{put_mid, mid_of}
use lib.Dec.{eqb, leb, ltb}
use lib.ListN.{length, get_or, set, take, drop, drop_of_length-le, length-drop, length-append}
use lib.Seq.{drop-cons, take-suc, set_at, append_snoc, length-take-le, take_at, drop_at, take_all, drop-drop, take-nil, take-length, drop-length}
use lib.Pointwise.{pointwise}
use Rattle.std.specs.Prelude.{Option, Some, None, not}
use Rattle.std.specs.Option.{unwrap_or}
use Rattle.std.specs.List.{list_all, position_or_len, position}
use Rattle.std.proofs.lemmas.Bool.Decides.{same_from_decides}
use Rattle.std.proofs.lemmas.List.Recursion.{is_position_or_len}
use Rattle.std.proofs.lemmas.Slice.Eq.{bytes_eq-Decides}
use Rattle.figures.specs.Text.{end_bytes}
use Rattle.figures.specs.Bytes.{within, every, run_of, is_other, laid, starts_with, same_bytes}

-- every byte

pub within_bounds : (low high b : ℕ) → within low high b ≡ true → (low ≤ b) × (b ≤ high)
within_bounds low high b e =
    let both = (and-eq-true_iff (leb low b) (leb b high)).0 e in
    (leb-true low b both.0, leb-true b high both.1)

pub bounds_within : (low high b : ℕ) → low ≤ b → b ≤ high → within low high b ≡ true
bounds_within low high b hl hh = rw (le-leb low b hl, le-leb b high hh)

pub below_within : (low high b : ℕ) → b < low → within low high b ≡ false
below_within low high b h = rw (lt-leb low b h)

pub above_within : (low high b : ℕ) → low ≤ b → high < b → within low high b ≡ false
above_within low high b hl hh = rw (le-leb low b hl, lt-leb b high hh)

pub every_append : (p : ℕ → Bool) (a b : List ℕ) → every p (a ++ b) ≡ every p a && every p b
unfolding every
every_append p [] b = refl
every_append p (x ∷ a) b = rw (every_append p a b, and_assoc (p x) (every p a) (every p b))
  where
    and_assoc : (r s t : Bool) → r && (s && t) ≡ (r && s) && t
    and_assoc true s t = refl
    and_assoc false s t = refl

pub every_more : (p : ℕ → Bool) (s : List ℕ) (i : ℕ) → i < length s → p (get_or s i 0) ≡ true → every p (drop i s) ≡ every p (drop (i + 1) s)
unfolding every
every_more p s i h e = rw (drop-cons s i 0 h, e, add-one i)

pub every_not : (p : ℕ → Bool) (s : List ℕ) (i : ℕ) → i < length s → p (get_or s i 0) ≡ false → every p (drop i s) ≡ false
unfolding every
every_not p s i h e = rw (drop-cons s i 0 h, e)

-- the bytes from low to high, so far and from a place on
pub within_on : (low high : ℕ) (s : List ℕ) (i : ℕ) (all : Bool) → i < length s
    → all && every (within low high) (drop i s) ≡ ((all && leb low (get_or s i 0)) && leb (get_or s i 0) high) && every (within low high) (drop (i + 1) s)
unfolding every
within_on low high s i all h =
    let b = get_or s i 0 in
    let rest = every (within low high) (drop (suc i) s) in
    rw (drop-cons s i 0 h, add-one i)
    (sym (ap (λ (t : Bool). t && rest) (and_assoc all (leb low b) (leb b high)) ∙ and_assoc all (leb low b && leb b high) rest))

pub every_all : (p : ℕ → Bool) (s : List ℕ) (i : ℕ) → length s ≤ i → every p (drop i s) ≡ true
unfolding every
every_all p s i h = rw (drop_of_length-le s h)

-- the run at the start, while a loop goes along it

pub run_more : (p : ℕ → Bool) (s : List ℕ) (i : ℕ) → i < length s → p (get_or s i 0) ≡ true → i + run_of p (drop i s) ≡ i + 1 + run_of p (drop (i + 1) s)
unfolding run_of
run_more p s i h e = rw (drop-cons s i 0 h, e, add-one i) (omega arith)

pub run_none : (p : ℕ → Bool) (s : List ℕ) (i : ℕ) → length s ≤ i → run_of p (drop i s) ≡ 0
unfolding run_of
run_none p s i h = rw (drop_of_length-le s h)

pub is_other_lem : (x b : ℕ) → (b ≡ x → ⊥) → is_other x b ≡ true
is_other_lem x b h = rw (ne_eqb b x h)

pub run_most : (p : ℕ → Bool) (s : List ℕ) → run_of p s ≤ length s
unfolding run_of
run_most p [] = omega arith
run_most p (b ∷ s) = by (p b) (run_most p s)
  where
    by : (t : Bool) → run_of p s ≤ length s → cond t (suc (run_of p s)) 0 ≤ suc (length s)
    by true h = omega arith
    by false h = omega arith

pub run_here : (p : ℕ → Bool) (s : List ℕ) (i : ℕ) → i < length s → p (get_or s i 0) ≡ false → run_of p (drop i s) ≡ 0
unfolding run_of
run_here p s i h e = rw (drop-cons s i 0 h, e)

-- what a byte at a place says of the run from there
pub run_below : (low high : ℕ) (s : List ℕ) (i : ℕ) → i < length s → get_or s i 0 < low → run_of (within low high) (drop i s) ≡ 0
run_below low high s i h below = run_here (within low high) s i h (below_within low high _ below)

pub run_above : (low high : ℕ) (s : List ℕ) (i : ℕ) → i < length s → low ≤ get_or s i 0 → high < get_or s i 0 → run_of (within low high) (drop i s) ≡ 0
run_above low high s i h from above = run_here (within low high) s i h (above_within low high _ from above)

pub run_on : (low high : ℕ) (s : List ℕ) (i : ℕ) → i < length s → low ≤ get_or s i 0 → get_or s i 0 ≤ high
    → i + run_of (within low high) (drop i s) ≡ i + 1 + run_of (within low high) (drop (i + 1) s)
run_on low high s i h from to = run_more (within low high) s i h (bounds_within low high _ from to)

-- it is the whole where every byte is so, and otherwise shorter

pub run_every : (p : ℕ → Bool) (s : List ℕ) → every p s ≡ true → run_of p s ≡ length s
unfolding run_of every
run_every p [] e = refl
run_every p (b ∷ s) e = let parts = (and-eq-true_iff (p b) (every p s)).0 e in rw parts.0 (ap suc (run_every p s parts.1))

pub run_other : (p : ℕ → Bool) (s : List ℕ) → every p s ≡ false → run_of p s < length s
unfolding run_of every
run_other p [] e = absurd (false≢true (sym e))
run_other p (b ∷ s) e = by (p b) e (run_other p s)
  where
    by : (t : Bool) → t && every p s ≡ false → (every p s ≡ false → run_of p s < length s) → cond t (suc (run_of p s)) 0 < suc (length s)
    by true h later = omega (arith, later h)
    by false h later = omega arith

pub run_all : (p : ℕ → Bool) (s : List ℕ) → eqb (run_of p s) (length s) ≡ every p s
run_all p s = by (every p s) refl
  where
    by : (t : Bool) → every p s ≡ t → eqb (run_of p s) (length s) ≡ t
    by true e = eq-eqb (run_of p s) (length s) (run_every p s e)
    by false e = ne_eqb (run_of p s) (length s) (λ q. omega (arith, run_other p s e))

-- CR LF or CR
pub end_long : (crlf : Bool) → length (end_bytes crlf) ≤ 2
end_long true = omega arith
end_long false = omega arith

-- laid down

pub laid_fits : (w room : List ℕ) → length w ≤ length room → laid w room ≡ w ++ drop (length w) room
laid_fits w room h = rw (take_all (length room) w h)

pub laid_start : (w room : List ℕ) → length w ≤ length room → take (length w) (laid w room) ≡ w
laid_start w room h = rw (laid_fits w room h) (take_at w (drop (length w) room) (length w) refl)

pub laid_cut : (w room : List ℕ) → length room ≤ length w → laid w room ≡ take (length room) w
laid_cut w room h = rw (drop_of_length-le room h, append-nil)

pub length_laid : (w room : List ℕ) → length (laid w room) ≡ length room
length_laid [] room = rw take-nil
length_laid (x ∷ w) [] = refl
length_laid (x ∷ w) (y ∷ room) = ap suc (length_laid w room)

-- a turn of a loop that writes w from the start of a room
pub lay_more : (w room₀ room : List ℕ) (i : ℕ) → i < length w → i < length room → length room ≡ length room₀ → room ≡ take i w ++ drop i room₀
    → set room i (get_or w i 0) ≡ take (i + 1) w ++ drop (i + 1) room₀
lay_more w room₀ room i hw hr hl e =
    let rest = drop (suc i) room₀ in
    let stored = set_at (take i w) (get_or room₀ i 0) rest (get_or w i 0) i (length-take-le i w (omega arith)) in
    rw (e, drop-cons room₀ i 0 (omega arith), stored, add-one i, take-suc w i 0 hw, append_snoc (take i w) (get_or w i 0) rest)

-- and its two ends: there is no more room, or no more of w
pub lay_cut : (w room : List ℕ) (i : ℕ) → i ≡ length room → i ≤ length w → take i w ++ drop i room ≡ laid w room
lay_cut w room i e h = rw (e, drop-length, append-nil) (sym (laid_cut w room (omega arith)))

pub lay_all : (w room : List ℕ) (i : ℕ) → i ≡ length w → i ≤ length room → take i w ++ drop i room ≡ laid w room
lay_all w room i e h = rw (e, take-length) (sym (laid_fits w room (omega arith)))

-- both in one
pub lay_done : (w room : List ℕ) (n : ℕ) → n ≡ min (length w) (length room) → take n w ++ drop n room ≡ laid w room
lay_done w room n e = by (leb (length w) (length room)) refl
  where
    by : (fits : Bool) → leb (length w) (length room) ≡ fits → take n w ++ drop n room ≡ laid w room
    by true h = lay_all w room n (omega (arith, leb-true (length w) (length room) h)) (omega (arith, leb-true (length w) (length room) h))
    by false h = lay_cut w room n (omega (arith, leb-false (length w) (length room) h)) (omega (arith, leb-false (length w) (length room) h))

-- a room that holds done from its start, and then more after that

pub length_on : (done room₀ room : List ℕ) → length done ≤ length room₀ → room ≡ done ++ drop (length done) room₀ → length room ≡ length room₀
length_on done room₀ room h e = ap length e ∙ omega (arith, length-append done (drop (length done) room₀), length-drop (length done) room₀)

pub length_mid : (a k : ℕ) (room : List ℕ) → a + k ≤ length room → length (mid_of a k room) ≡ k
length_mid a k room h = length-take-le k (drop a room) (omega (arith, length-drop a room))

put_on : (done room₀ room last : List ℕ) (a k : ℕ) → a ≡ length done → room ≡ done ++ drop (length done) room₀
    → put_mid a k room last ≡ done ++ (last ++ drop (length done + k) room₀)
put_on done room₀ room last a k ea e =
    let rest = drop (length done) room₀ in
    rw (ea, e, take_at done rest (length done) refl, drop_at done rest (length done) refl, drop-drop k (length done) room₀)

-- w stands in all that comes after done
pub lay_on : (done w room₀ room last : List ℕ) (a : ℕ) → a ≡ length done → length done + length w ≤ length room₀
    → room ≡ done ++ drop (length done) room₀ → last ≡ w ++ drop (length w) (mid_of a (length room - a) room)
    → put_mid a (length room - a) room last ≡ (done ++ w) ++ drop (length (done ++ w)) room₀
lay_on done w room₀ room last a ea h e el =
    let n = length done in
    let fits = length_on done room₀ room (omega arith) e in
    let rest : drop a room ≡ drop n room₀ = rw (ea, e) (drop_at done (drop n room₀) n refl) in
    let mid : mid_of a (length room - a) room ≡ drop n room₀ = take_all (length room - a) (drop a room) (omega (arith, length-drop a room)) ∙ rest in
    let gone : drop (n + (length room - a)) room₀ ≡ [] = drop_of_length-le room₀ {i = n + (length room - a)} (omega arith) in
    put_on done room₀ room last a (length room - a) ea e ∙ rw (gone, el, mid, drop-drop (length w) n room₀, length-append done w, append-nil, append_assoc)

-- the same, as `lay` ensures it
pub laid_on : (done w room₀ room last : List ℕ) (a : ℕ) → a ≡ length done → length done + length w ≤ length room₀
    → room ≡ done ++ drop (length done) room₀ → last ≡ laid w (mid_of a (length room - a) room)
    → put_mid a (length room - a) room last ≡ (done ++ w) ++ drop (length (done ++ w)) room₀
laid_on done w room₀ room last a ea h e el =
    let fits = length_on done room₀ room (omega arith) e in
    let part = length_mid a (length room - a) room (omega arith) in
    lay_on done w room₀ room last a ea h e (el ∙ laid_fits w (mid_of a (length room - a) room) (omega arith))

-- the k bytes after done are filled whole
pub fill_on : (done room₀ room last : List ℕ) (a k : ℕ) → a ≡ length done → room ≡ done ++ drop (length done) room₀ → length last ≡ k
    → put_mid a k room last ≡ (done ++ last) ++ drop (length (done ++ last)) room₀
fill_on done room₀ room last a k ea e el =
    put_on done room₀ room last a k ea e ∙ rw (length-append done last, el, append_assoc)

-- at the start of another

pub starts_append : (w s : List ℕ) → starts_with w (w ++ s) ≡ true
unfolding starts_with
starts_append [] s = refl
starts_append (x ∷ w) s = rw (eq-eqb x x refl, starts_append w s)

pub starts_refl : (w : List ℕ) → starts_with w w ≡ true
starts_refl w = rw append-nil at (starts_append w [])

pub starts_true : (w s : List ℕ) → starts_with w s ≡ true → take (length w) s ≡ w
unfolding starts_with
starts_true [] s e = refl
starts_true (x ∷ w) [] e = absurd (false≢true e)
starts_true (x ∷ w) (y ∷ s) e =
    let both = (and-eq-true_iff (eqb y x) (starts_with w s)).0 e in
    rw (eqb-true y x both.0, starts_true w s both.1)

pub take_starts : (w s : List ℕ) → take (length w) s ≡ w → starts_with w s ≡ true
unfolding starts_with
take_starts [] s e = refl
take_starts (x ∷ w) [] e = let z : ◌≡◌ {A = ℕ} 0 1 = cc in absurd (omega arith)
take_starts (x ∷ w) (y ∷ s) e =
    let head : y ≡ x = cc in
    let tail : take (length w) s ≡ w = cc in
    rw (eq-eqb y x head, take_starts w s tail)

pub same_refl : (a : List ℕ) → same_bytes a a ≡ true
same_refl a = rw (eq-eqb (length a) (length a) refl) (starts_refl a)

pub same_true : (a b : List ℕ) → same_bytes a b ≡ true → a ≡ b
same_true a b e =
    let both = (and-eq-true_iff (eqb (length a) (length b)) (starts_with b a)).0 e in
    sym (take_all (length b) a (omega (arith, eqb-true (length a) (length b) both.0))) ∙ starts_true b a both.1

-- a byte stored after done
pub store_on : (done room₀ room : List ℕ) (a v : ℕ) → a ≡ length done → length done < length room₀ → room ≡ done ++ drop (length done) room₀
    → set room a v ≡ (done ++ (v ∷ [])) ++ drop (length (done ++ (v ∷ []))) room₀
store_on done room₀ room a v ea h e =
    let n = length done in
    let there = set_at done (get_or room₀ n 0) (drop (suc n) room₀) v n refl in
    rw (ea, e, drop-cons room₀ n 0 h, there, length-append done (v ∷ []), add-one, append_snoc)

pub starts_length : (w s : List ℕ) → starts_with w s ≡ true → length w ≤ length s
unfolding starts_with
starts_length [] s e = omega arith
starts_length (x ∷ w) [] e = absurd (false≢true e)
starts_length (x ∷ w) (y ∷ s) e = omega (arith, starts_length w s ((and-eq-true_iff (eqb y x) (starts_with w s)).0 e).1)

-- the words of std that say the same, so that its methods answer them

pub every_is : (p : ℕ → Bool) (s : List ℕ) → every p s ≡ list_all p s
unfolding every
every_is p [] = refl
every_is p (b ∷ s) = rw (every_is p s)

run_step : (t u : Bool) (n : ℕ) → not u ≡ t → cond t (suc n) 0 ≡ cond u 0 (1 + n)
run_step t true n e = rw (sym e)
run_step t false n e = rw (sym e) (omega arith)

-- the place of the first byte that isn't so, or the length
pub run_is : (p q : ℕ → Bool) → ((b : ℕ) → not (q b) ≡ p b) → (s : List ℕ) → run_of p s ≡ position_or_len q s
unfolding run_of
run_is p q same s = is_position_or_len (run_of p) q refl (λ b l. run_step (p b) (q b) (run_of p l) (same b)) s

or_len : {n m : ℕ} → n ≤ m → (t : Bool) → ltb n m ≡ t → unwrap_or (cond t (Some n) None) m ≡ n
or_len h true e = refl
or_len {n} {m} h false e = omega (arith, ltb-false n m e)

pub run_first : (p q : ℕ → Bool) (s : List ℕ) → ((b : ℕ) → not (q b) ≡ p b) → {o : Option ℕ} {r : ℕ} → o ≡ position q s → r ≡ unwrap_or o (length s)
    → (r ≡ run_of p s) × (r ≤ length s)
run_first p q s same {o} {r} eo er =
    let is = run_is p q same s in
    let most = run_most p s in
    let first : r ≡ run_of p s = rw (eo, ← is) at er ∙ or_len most (ltb (run_of p s) (length s)) refl in
    (first, omega arith)

pub same_is : (a b : List ℕ) → same_bytes a b ≡ pointwise eqb a b
same_is a b = same_from_decides (same_bytes a b) (pointwise eqb a b) (same_true a b, λ e. rw e (same_refl b)) (bytes_eq-Decides a b)

pub starts_is : (w s : List ℕ) → starts_with w s ≡ pointwise eqb w (take (length w) s)
starts_is w s =
    same_from_decides (starts_with w s) (pointwise eqb w (take (length w) s)) (λ e. sym (starts_true w s e), λ e. take_starts w s (sym e))
    (bytes_eq-Decides w (take (length w) s))

-- the same the other way round, as `strip_prefix` says it
pub starts_strip : (w s : List ℕ) → starts_with w s ≡ pointwise eqb (take (length w) s) w
starts_strip w s =
    same_from_decides (starts_with w s) (pointwise eqb (take (length w) s) w) (starts_true w s, take_starts w s) (bytes_eq-Decides (take (length w) s) w)

pub not_not : (t : Bool) → not (not t) ≡ t
not_not true = refl
not_not false = refl
