-- What the walk's tests say of the bytes where they look, and that they look at no others.
use Prim.Native.Nat.{ℕ, suc, ◌+◌, ◌-◌, ◌<◌, ◌≤◌, min}
use mathlib.Core.Path.{◌≡◌, refl, sym, ap, ◌∙◌}
use mathlib.Core.Bool.{Bool, true, false, ◌&&◌, and-false, false≢true}
use mathlib.Core.List.{List, [], ◌∷◌, ◌++◌}
use mathlib.Core.Logic.{◌⊎◌, inl, inr, ⊎_elim}
use native.Mathlib.Omega.{arith}
use borrow.Author.Tests.{eqb-true, ltb-true, ltb-false, leb-true, leb-false, ne_eqb}
use lib.Dec.{eqb, leb, ltb}
use lib.ListN.{length, get_or, take, drop, length-drop, get_or-append, get_or-eq_default}
use lib.Seq.{get_or-take, take_all}
use Rattle.figures.specs.Text.{byte, cr, lf, end_bytes, star_bytes}
use Rattle.figures.specs.Bytes.{within}
use Rattle.figures.proofs.Tests.{both, by_test}
use Rattle.units.specs.Information.{is_dot}
use Rattle.words.specs.Reading.{pos}
use Rattle.blocks.specs.Judging.{is_at, is_wide, first_at}
use Rattle.blocks.proofs.Steps.{is_in, is_past}
use Rattle.listings.specs.Mending.{lacks_dot, is_end}
use Rattle.listings.specs.Keeping.{one_if, part}

-- a byte at a place: past the end there is 0, which is no byte that is looked for

is_there : (s : List ℕ) (i b : ℕ) → get_or s i 0 ≡ suc b → i < length s
is_there s i b e =
    by_test (leb (length s) i) (λ h. absurd (omega (arith, get_or-eq_default s 0 (leb-true (length s) i h)))) (leb-false (length s) i)

pub is_byte : (b : ℕ) (s : List ℕ) (at : ℕ) → 0 < b → is_at b (drop at s) ≡ eqb (get_or s at 0) b
is_byte b s at h =
    by_test (ltb at (length s)) (λ e. is_in b s at (ltb-true at (length s) e))
    (λ e. let past = ltb-false at (length s) e in is_past b s at past ∙ sym (rw (get_or-eq_default s 0 past) (ne_eqb 0 b (λ q. omega arith))))

-- the next byte, whatever follows it

pub is_first : (b x : ℕ) (l : List ℕ) → is_at b (x ∷ l) ≡ eqb x b
is_first b x l = is_in b (x ∷ l) 0 (omega arith)

pub at_is : (b : ℕ) (rest : List ℕ) → is_at b rest ≡ true → rest ≡ b ∷ drop 1 rest
at_is b [] e = absurd (false≢true e)
at_is b (x ∷ rest) e = ap (λ n. n ∷ rest) (eqb-true x b (sym (is_first b x rest) ∙ e))

pub next_is : (b : ℕ) (rest : List ℕ) → is_at b rest ≡ true → get_or rest 0 0 ≡ b
next_is b rest e = ap (λ t. get_or t 0 0) (at_is b rest e)

pub at_on : (b : ℕ) (s rest : List ℕ) → 1 ≤ length s → is_at b (s ++ rest) ≡ is_at b s
at_on b [] rest h = absurd (omega arith)
at_on b (x ∷ s) rest h = is_first b x (s ++ rest) ∙ sym (is_first b x s)

pub ends_on : (s rest : List ℕ) → 1 ≤ length s → is_end (s ++ rest) ≡ is_end s
ends_on s rest h = rw (at_on cr s rest h, at_on lf s rest h)

pub end_first : (x : ℕ) (l l' : List ℕ) → is_end (x ∷ l) ≡ is_end (x ∷ l')
end_first x l l' = ends_on (x ∷ []) l (omega arith) ∙ sym (ends_on (x ∷ []) l' (omega arith))

-- a terminator and the bytes that it has
pub end_bytes_lem : (rest : List ℕ) (crlf : Bool) → is_at cr rest ≡ true → is_at lf (drop 1 rest) ≡ crlf → take (length (end_bytes crlf)) rest ≡ end_bytes crlf
end_bytes_lem rest true e f = rw (at_is cr rest e, at_is lf (drop 1 rest) f)
end_bytes_lem rest false e f = rw (at_is cr rest e)

-- whether a dot is lacking: positions 1-6 tell it

lacks_same : (s t : List ℕ) → ((i : ℕ) → i < 6 → get_or s i 0 ≡ get_or t i 0) → lacks_dot s ≡ lacks_dot t
lacks_same s t e = rw (e 0 (omega arith), e 1 (omega arith), e 2 (omega arith), e 3 (omega arith), e 4 (omega arith), e 5 (omega arith))

pub lacks_on : (w u : List ℕ) → 6 ≤ length w → lacks_dot (w ++ u) ≡ lacks_dot w
lacks_on w u h = lacks_same (w ++ u) w (λ i small. get_or-append w u 0 i (omega arith))

pub lacks_taken : (n : ℕ) (t : List ℕ) → 6 ≤ n → lacks_dot (take n t) ≡ lacks_dot t
lacks_taken n t h = lacks_same (take n t) t (λ i small. get_or-take n t i 0 (omega arith))

outer : (a b c d : Bool) → (a && b) && (c && d) ≡ true → (a ≡ true) × (d ≡ true)
outer a b c d e = let halves = both (a && b) (c && d) e in ((both a b halves.0).0, (both c d halves.1).1)

-- a word that lacks a dot starts with a `4`, and its sixth byte is the `+`
pub lacks_tells : (word : List ℕ) → lacks_dot word ≡ true → (get_or word 0 0 ≡ byte "4") × (get_or word 5 0 ≡ byte "+")
lacks_tells word e =
    let dots = is_dot (pos 3 word) && (is_dot (pos 4 word) && is_dot (pos 5 word)) in
    let ends = outer (eqb (pos 1 word) (byte "4")) (within (byte "2") (byte "9") (pos 2 word)) dots (eqb (pos 6 word) (byte "+")) e in
    (eqb-true (pos 1 word) (byte "4") ends.0, eqb-true (pos 6 word) (byte "+") ends.1)

pub lacks_long : (word : List ℕ) → lacks_dot word ≡ true → 6 ≤ length word
lacks_long word e = is_there word 5 42 (lacks_tells word e).1

pub no_plus : (t : List ℕ) → eqb (pos 6 t) (byte "+") ≡ false → lacks_dot t ≡ false
no_plus t e = rw (e, and-false, and-false)

-- CR, LF and `4` are three bytes

pub end_is : (rest : List ℕ) → is_end rest ≡ true → (get_or rest 0 0 ≡ cr) ⊎ (get_or rest 0 0 ≡ lf)
end_is rest e = by_test (is_at cr rest) (λ c. inl (next_is cr rest c)) (λ c. inr (next_is lf rest (rw c at e)))

pub lf_no_cr : (rest : List ℕ) → is_at lf rest ≡ true → is_at cr rest ≡ false
lf_no_cr rest e = by_test (is_at cr rest) (λ c. absurd (omega (arith, next_is cr rest c, next_is lf rest e))) (λ c. c)

pub lacks_no_end : (word : List ℕ) → lacks_dot word ≡ true → is_end word ≡ false
lacks_no_end word e =
    let four = (lacks_tells word e).0 in
    by_test (is_end word) (λ h. absurd (⊎_elim (λ c. omega (arith, c)) (λ l. omega (arith, l)) (end_is word h))) (λ h. h)

pub no_return : (t : List ℕ) → is_end t ≡ false → is_at cr t ≡ false
no_return t e = by_test (is_at cr t) (λ q. absurd (false≢true (rw q at (sym e)))) (λ q. q)

-- the star is the input's first byte

pub star_taken : (s : List ℕ) → star_bytes (is_wide s) ≡ take (first_at (is_wide s)) s
star_taken [] = refl
star_taken (x ∷ s) = by_test (eqb x 42) (λ e. let is = eqb-true x 42 e in rw (e, is)) (λ e. rw e)

-- as much of a part as there is
pub part_up : (s : List ℕ) (from k : ℕ) → from ≤ length s → part from (min (from + k) (length s)) s ≡ take k (drop from s)
part_up s from k h =
    let size = min (from + k) (length s) - from in
    let long = length-drop from s in
    by_test (leb (from + k) (length s)) (λ e.
    let fits = leb-true (from + k) (length s) e in
    let all : size ≡ k = omega arith in
    rw all) (λ e.
    let short = leb-false (from + k) (length s) e in
    take_all size (drop from s) (omega arith) ∙ sym (take_all k (drop from s) (omega arith)))

pub one_most : (is : Bool) → one_if is ≤ 1
one_most true = omega arith
one_most false = omega arith
