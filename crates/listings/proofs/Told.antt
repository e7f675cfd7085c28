-- The edits tell the whole difference: the mended bytes are the input's, up to the terminator, with the edits' bytes put in, and the input's again without them.
use Prim.Native.Nat.{ℕ, zero, suc, ◌+◌, ◌-◌, ◌<◌, ◌≤◌}
use mathlib.Core.Path.{◌≡◌, refl, sym, ap, subst, ◌∙◌}
use mathlib.Core.Bool.{Bool, true, false}
use mathlib.Core.List.{List, [], ◌∷◌, ◌++◌, append-nil, append_assoc}
use native.Mathlib.Nat.{add-zero, zero-add, sub_self}
use native.Mathlib.Omega.{arith}
use borrow.Author.Tests.{leb-true, leb-false}
use lib.Dec.{leb}
use lib.ListN.{length, take, drop, length-append, length-drop, drop_of_length-le}
use lib.Seq.{take_all, take-nil, take-length, length-take-le, take-append-add, drop-append-add, take-add, drop-drop}
use Rattle.figures.specs.Text.{cr, lf}
use Rattle.figures.proofs.Tests.{by_test}
use Rattle.words.specs.Records.{width}
use Rattle.blocks.specs.Judging.{is_wide, first_at}
use Rattle.blocks.proofs.Steps.{is_inside}
use Rattle.listings.specs.declared.edits.Edit.{Edit}
use Rattle.listings.specs.Edits.{dot_kind, blank_kind, cr_kind, kind_byte}
use Rattle.listings.specs.Mending.{Mending, copied, put_before, joined, lacks_dot, word_mended, word_taken}
use Rattle.listings.specs.Mending.{is_end, blank_mended, blank_taken, end_mended, to_next, mended_from, mended}
use Rattle.listings.specs.Telling.{put_in, take_out, taken, InOrder}
use Rattle.listings.specs.Keeping.{one_if}
use Rattle.listings.proofs.Seen.{at_is, end_bytes_lem, lacks_long, star_taken, one_most}
use Rattle.listings.proofs.Turns.{end_cases, over, at_end, goes}

-- edits in order

wider : (from from' to to' : ℕ) (es : List Edit) → from ≤ from' → to' ≤ to → InOrder from' es to' → InOrder from es to
unfolding InOrder
wider from from' to to' [] h k o = omega arith
wider from from' to to' (e ∷ es) h k o = (omega arith, omega arith, wider e.place e.place to to' es (omega arith) k o.2)

none_between : (from to : ℕ) (es : List Edit) → to ≤ from → InOrder from es to → es ≡ []
unfolding InOrder
none_between from to [] h o = refl
none_between from to (e ∷ es) h o = absurd (omega arith)

-- what comes before the first of them stays as it is

put_past : (at to : ℕ) (a s : List ℕ) (es : List Edit) → InOrder (at + length a) es to → put_in at es (a ++ s) ≡ a ++ put_in (at + length a) es s
unfolding InOrder put_in
put_past at to a s [] o = refl
put_past at to a s (e ∷ es) o =
    let p = e.place - (at + length a) in
    let q : e.place - at ≡ length a + p = omega arith in
    rw (q, take-append-add a s p, drop-append-add a s p, append_assoc)

take_past : (at to : ℕ) (a t : List ℕ) (es : List Edit) → InOrder (at + length a) es to → take_out at es (a ++ t) ≡ a ++ take_out (at + length a) es t
unfolding InOrder take_out
take_past at to a t [] o = refl
take_past at to a t (e ∷ es) o =
    let p = e.place - (at + length a) in
    let q : e.place - at ≡ length a + p = omega arith in
    let r : length a + p + 1 ≡ length a + (p + 1) = omega arith in
    rw (q, take-append-add a t p, r, drop-append-add a t (p + 1), append_assoc)

-- m's bytes are s with m's edits put in; s starts at that place of the input
record Tells (at : ℕ) (s : List ℕ) (m : Mending) : Type 0 where
  size : length m.bytes ≡ length s + length m.edits
  order : InOrder at m.edits (at + length s)
  goes_in : m.bytes ≡ put_in at m.edits s
  comes_out : take_out at m.edits m.bytes ≡ s

copied_tells : (at : ℕ) (s : List ℕ) → Tells at s (copied s)
unfolding InOrder put_in take_out
copied_tells at s = record { size = omega arith; order = omega arith; goes_in = refl; comes_out = refl }

copy_tells : (at : ℕ) (a s : List ℕ) (m : Mending) → Tells (at + length a) s m → Tells at (a ++ s) (joined (copied a) m)
copy_tells at a s m t = record {
  size = omega (arith, length-append a m.bytes, length-append a s, t.size);
  order = wider at (at + length a) (at + length (a ++ s)) (at + length a + length s) m.edits (omega arith) (omega (arith, length-append a s)) t.order;
  goes_in = ap (λ (b : List ℕ). a ++ b) t.goes_in ∙ sym (put_past at _ a s m.edits t.order);
  comes_out = take_past at _ a m.bytes m.edits t.order ∙ ap (λ (b : List ℕ). a ++ b) t.comes_out;
}

put_tells : (at k : ℕ) (s : List ℕ) (m : Mending) → 0 < length s → Tells at s m → Tells at s (joined (put_before at k) m)
unfolding InOrder put_in take_out
put_tells at k s m h t = record {
  size = omega (arith, t.size);
  order = (omega arith, omega arith, t.order);
  goes_in = rw sub_self (ap (λ (b : List ℕ). kind_byte k ∷ b) t.goes_in);
  comes_out = rw sub_self t.comes_out;
}

-- where the input has ended nothing is put
nothing_told : (at : ℕ) (m : Mending) → Tells at [] m → m ≡ copied []
unfolding put_in
nothing_told at m t =
    let none : m.edits ≡ [] = none_between at (at + 0) m.edits (omega arith) t.order in
    let bytes : m.bytes ≡ [] = rw none at t.goes_in in
    λ i. record { bytes = bytes i; edits = none i }

-- the same of a string that goes on: some first bytes of it, and at least so many, are told
record Told (low at : ℕ) (rest : List ℕ) (m : Mending) : Type 0 where
  n : ℕ
  least : low ≤ n
  most : n ≤ length rest
  tells : Tells at (take n rest) m

fewer : (low low' at : ℕ) (rest : List ℕ) (m : Mending) → low ≤ low' → Told low' at rest m → Told low at rest m
fewer low low' at rest m h t = record { n = t.n; least = omega (arith, t.least); most = t.most; tells = t.tells }

copied_told : (n at : ℕ) (rest : List ℕ) → n ≤ length rest → Told n at rest (copied (take n rest))
copied_told n at rest h = record { n = n; least = omega arith; most = h; tells = copied_tells at (take n rest) }

copy_told : (low at n : ℕ) {low' : ℕ} (rest : List ℕ) (m : Mending) → low ≤ n → low ≤ length rest → Told low' (at + n) (drop n rest) m
    → Told low at rest (joined (copied (take n rest)) m)
copy_told low at n rest m h k t = by_test (leb n (length rest)) within past
  where
    within : leb n (length rest) ≡ true → Told low at rest (joined (copied (take n rest)) m)
    within e =
        let is = leb-true n (length rest) e in
        let long = length-take-le n rest is in
        let next : Tells (at + length (take n rest)) (take t.n (drop n rest)) m = rw long t.tells in record {
          n = n + t.n;
          least = omega arith;
          most = omega (arith, t.most, length-drop n rest);
          tells = rw (take-add n t.n rest) (copy_tells at (take n rest) (take t.n (drop n rest)) m next);
        }

    past : leb n (length rest) ≡ false → Told low at rest (joined (copied (take n rest)) m)
    past e =
        let is = leb-false n (length rest) e in
        let over : take t.n (drop n rest) ≡ [] = rw (drop_of_length-le rest {i = n} (omega arith)) (take-nil t.n) in
        let none : m ≡ copied [] = nothing_told (at + n) m (rw over at t.tells) in
        fewer low (length rest) at rest (joined (copied (take n rest)) m) k
        (rw (none, append-nil, take_all n rest (omega arith)) (rw take-length at (copied_told (length rest) at rest (omega arith))))

put_told : (at k : ℕ) (rest : List ℕ) (m : Mending) → Told 1 at rest m → Told 1 at rest (joined (put_before at k) m)
put_told at k rest m t =
    let long = length-take-le t.n rest t.most in
    record { n = t.n; least = t.least; most = t.most; tells = put_tells at k (take t.n rest) m (omega (arith, t.least)) t.tells }

-- so each part of the walk tells, and the whole

end_told : (at : ℕ) (rest : List ℕ) → Told (one_if (is_end rest)) at rest (end_mended at rest)
end_told at rest =
    let low = one_if (is_end rest) in
    let most = one_most (is_end rest) in
    end_cases (λ (m : Mending). Told low at rest m) at rest
    (λ c l. fewer low 2 at rest _ (omega arith) (rw (end_bytes_lem rest true c l) at (copied_told 2 at rest (is_inside lf rest 1 l))))
    (λ c l. fewer low 1 at rest _ most (rw (end_bytes_lem rest false c l) at (copied_told 1 at rest (is_inside cr rest 0 c))))
    (λ _ l.
    let byte = rw (ap (take 1) (at_is lf rest l)) at (copied_told 1 at rest (is_inside lf rest 0 l)) in
    fewer low 1 at rest _ most (put_told at cr_kind rest (copied (lf ∷ [])) byte)) (λ e. rw e (copied_told 0 at rest (omega arith)))

blank_told : (at : ℕ) (rest : List ℕ) (m : Mending)
    → Told (one_if (is_end (drop (blank_taken rest) rest))) (at + blank_taken rest) (drop (blank_taken rest) rest) m
    → Told 0 at rest (joined (blank_mended at rest) m)
blank_told at rest m h =
    by_test (is_end rest) (λ e.
    let one : Told 1 at rest m = rw (e, add-zero, e) at h in
    rw e (fewer 0 1 at rest (joined (put_before at blank_kind) m) (omega arith) (put_told at blank_kind rest m one)))
    (λ e. rw e (copy_told 0 at 1 rest m (omega arith) (omega arith) (rw e at h)))

word_told : {low : ℕ} (wide : Bool) (at : ℕ) (rest : List ℕ) (m : Mending)
    → Told low (at + word_taken wide rest) (drop (word_taken wide rest) rest) m → Told 0 at rest (joined (word_mended wide at rest) m)
word_told {low} wide at rest m h =
    by_test (lacks_dot rest) (λ e.
    let after = drop 5 rest in
    let long = lacks_long rest e in
    let to : width wide + 6 ≡ 5 + (width wide + 1) = omega arith in
    let place : at + (5 + (width wide + 1)) ≡ at + 5 + (width wide + 1) = omega arith in
    let then : Told low (at + 5 + (width wide + 1)) (drop (width wide + 1) after) m = rw (drop-drop (width wide + 1) 5 rest) (rw (e, to, place) at h) in
    let last : Told 1 (at + 5) after (joined (copied (take (width wide + 1) after)) m) =
    copy_told 1 (at + 5) (width wide + 1) after m (omega arith) (omega (arith, length-drop 5 rest)) then in
    rw (e, append_assoc (take 5 rest)) (copy_told 0 at 5 rest _ (omega arith) (omega arith) (put_told (at + 5) dot_kind after _ last)))
    (λ e. rw e (copy_told 0 at (width wide + 7) rest m (omega arith) (omega arith) (rw e at h)))

-- from one place to the next in two steps
two_steps : (at a b : ℕ) (rest : List ℕ) (m : Mending) → Told (one_if (is_end (drop (a + b) rest))) (at + (a + b)) (drop (a + b) rest) m
    → Told (one_if (is_end (drop b (drop a rest)))) (at + a + b) (drop b (drop a rest)) m
two_steps at a b rest m t = let place : at + (a + b) ≡ at + a + b = omega arith in rw (drop-drop b a rest) (rw place at t)

from_told : (more : ℕ) (wide : Bool) (at : ℕ) (rest : List ℕ) → Told (one_if (is_end rest)) at rest (mended_from more wide at rest)
from_told zero wide at rest = rw (over 0 wide at rest refl) (end_told at rest)
from_told (suc more) wide at rest =
    let word = word_taken wide rest in
    let to = to_next wide rest in
    let next = mended_from more wide (at + to) (drop to rest) in
    by_test (is_end rest) (λ e. rw (at_end (suc more) wide at rest e) (end_told at rest)) (λ e.
    rw (goes more wide at rest e, e)
    (word_told wide at rest (joined (blank_mended (at + word) (drop word rest)) next)
    (blank_told (at + word) (drop word rest) next (two_steps at word (blank_taken (drop word rest)) rest next (from_told more wide (at + to) (drop to rest))))))

mended_told : (s : List ℕ) → Told 0 0 s (mended s)
unfolding mended
mended_told s =
    let first = first_at (is_wide s) in
    let rest = drop first s in
    let next : Told (one_if (is_end rest)) (0 + first) rest (mended_from 32 (is_wide s) first rest) = rw zero-add (from_told 32 (is_wide s) first rest) in
    rw (star_taken s) (copy_told 0 0 first s (mended_from 32 (is_wide s) first rest) (omega arith) (omega arith) next)

taken_told : (s : List ℕ) → taken (mended s) ≡ (mended_told s).n
taken_told s =
    let t = mended_told s in
    omega (arith, t.tells.size, length-take-le t.n s t.most)

pub put_in_lem : (s : List ℕ) → (mended s).bytes ≡ put_in 0 (mended s).edits (take (taken (mended s)) s)
put_in_lem s = rw (taken_told s) (mended_told s).tells.goes_in

pub taken_out : (s : List ℕ) → take_out 0 (mended s).edits (mended s).bytes ≡ take (taken (mended s)) s
taken_out s = rw (taken_told s) (mended_told s).tells.comes_out

-- the edits' places are in order, each that of a byte that was taken
pub in_order : (s : List ℕ) → InOrder 0 (mended s).edits (taken (mended s))
in_order s =
    let t = mended_told s in
    let end : 0 + length (take t.n s) ≡ taken (mended s) = omega (arith, taken_told s, length-take-le t.n s t.most) in
    subst (λ (to : ℕ). InOrder 0 (mended s).edits to) end t.tells.order

-- and what was taken is of the input
pub taken_most : (s : List ℕ) → taken (mended s) ≤ length s
taken_most s = rw (taken_told s) (mended_told s).most
