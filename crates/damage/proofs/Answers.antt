-- A word's answer by its bytes: the first that fails its test gives the fault of its position, and where none fails the value is right or not.
use Prim.Native.Nat.{ℕ, suc, ◌+◌, ◌<◌, ◌≤◌}
use mathlib.Core.Path.{◌≡◌, refl, sym, ap, ◌∙◌}
use mathlib.Core.Bool.{Bool, true, false, cond, ◌&&◌}
use mathlib.Core.List.{List, [], ◌∷◌, ◌++◌}
use native.Mathlib.Omega.{arith}
use borrow.Author.Tests.{le-leb, lt-ltb, le-ltb, ne_eqb, eqb-false}
use lib.Dec.{eqb, ltb}
use lib.ListN.{length, get_or, drop}
use Rattle.figures.specs.Decimal.{are_digits}
use Rattle.units.specs.Kinds.{kind_of, index_by, listed_by}
use Rattle.units.specs.Information.{lead_of, sign_right}
use Rattle.units.specs.declared.kinds.Family.{Family}
use Rattle.units.specs.declared.kinds.Kind.{Kind}
use Rattle.words.specs.Records.{width}
use Rattle.words.specs.Reading.{word_size, pos, data_in, index_in, kind_at, lead_in, data_tests, passing, data_at, data_right, value_in, is_counted, record_in, right_word, unless, word_of, OneWord, Judged, judged_right, judged_wrong, judged_in}
use Rattle.words.specs.declared.records.Word.{Word}
use Rattle.words.specs.declared.reading.Fault.{Fault}
use Rattle.words.specs.declared.reading.Fault.TheVariants.{Information, Sign, Characters, Separator, Value}
use Rattle.words.proofs.Checks.{width_bounds, data_length}
use Rattle.words.proofs.Places.{spread_places}
use Rattle.words.proofs.Letters.{passing_most, passing_append}
use Rattle.damage.proofs.Noughts.{tests_length}
use Rattle.damage.proofs.Marks.{first_right, second_right, mode_right, unit_right, marks_each}

abbrev pub is_blank : ℕ → Bool
is_blank b = eqb b 32

-- the tests from position 3 on, of an index whose kind is k and information begins with a
abbrev pub tests_at : Family → Bool → ℕ → Kind → ℕ → List (ℕ → Bool)
tests_at f wide i k a =
    (λ c. first_right f i k (lead_of i c)) ∷ second_right f i k a ∷ mode_right f i k a ∷ unit_right f i k a ∷ sign_right k
    ∷ (data_tests k (width wide) ++ (is_blank ∷ []))

-- they go by positions 1-3
abbrev pub tests_by : Family → Bool → ℕ → ℕ → ℕ → List (ℕ → Bool)
tests_by f wide t o c = let i = index_by f t o c in tests_at f wide i (kind_of f i) (lead_of i c)

abbrev pub tests_in : Family → Bool → List ℕ → List (ℕ → Bool)
tests_in f wide s = tests_by f wide (pos 1 s) (pos 2 s) (pos 3 s)

-- the fault of the byte n places after position 3, of a word with w data
abbrev pub fault_at : ℕ → ℕ → Fault
fault_at w n = cond (ltb n 4) Information (cond (eqb n 4) Sign (cond (ltb n (5 + w)) Characters Separator))

-- the answer where n bytes pass, from position 3 on
abbrev pub told : ℕ → Bool → ℕ → Judged
told w value n = cond (ltb n (6 + w)) (judged_wrong (fault_at w n) (2 + n)) (cond value judged_right (judged_wrong Value 7))

module _ (w : ℕ) (value : Bool) where
  by_head : (n : ℕ) (a b c d e : Bool) (r : OneWord) → judged_in r ≡ told w value (5 + n)
      → judged_in (unless (a && (b && (c && d))) Information (2 + cond a (cond b (cond c 3 2) 1) 0) (unless e Sign 6 r))
      ≡ told w value (cond a (suc (cond b (suc (cond c (suc (cond d (suc (cond e (suc n) 0)) 0)) 0)) 0)) 0)
  by_head n false b c d e r h = rw (lt-ltb 0 (6 + w) (omega arith))
  by_head n true false c d e r h = rw (lt-ltb 1 (6 + w) (omega arith))
  by_head n true true false d e r h = rw (lt-ltb 2 (6 + w) (omega arith))
  by_head n true true true false e r h = rw (lt-ltb 3 (6 + w) (omega arith))
  by_head n true true true true false r h = rw (lt-ltb 4 (6 + w) (omega arith))
  by_head n true true true true true r h = let same : 5 + n ≡ suc (suc (suc (suc (suc n)))) = omega arith in h ∙ ap (told w value) same

  data_told : (n : ℕ) → n ≤ w → told w value (5 + n) ≡ judged_wrong (cond (ltb (5 + n) (5 + w)) Characters Separator) (7 + n)
  data_told n h =
      let at : 7 + n ≡ 2 + (5 + n) = omega arith in
      rw (at, lt-ltb (5 + n) (6 + w) (omega arith), le-ltb (5 + n) 4 (omega arith), ne_eqb (5 + n) 4 (λ q. omega arith))

  by_tail : (right end : Bool) (n : ℕ) (v : Word) → (right ≡ false → n < w)
      → judged_in (unless right Characters (7 + n) (unless end Separator (7 + w) (unless value Value 7 (right_word v))))
      ≡ told w value (5 + cond right (w + cond end 1 0) n)
  by_tail false end n v near = let low = near refl in sym (data_told n (omega arith) ∙ rw (lt-ltb (5 + n) (5 + w) (omega arith)))
  by_tail true false n v near =
      let none : w + 0 ≡ w = omega arith in
      rw none (sym (data_told w (omega arith) ∙ rw (le-ltb (5 + w) (5 + w) (omega arith))))
  by_tail true true n v near = rw (le-ltb (5 + (w + 1)) (6 + w) (omega arith)) (go value)
    where
      go : (t : Bool) → judged_in (unless t Value 7 (right_word v)) ≡ cond t judged_right (judged_wrong Value 7)
      go true = refl
      go false = refl

-- of a whole word whose index is listed
pub word_told : (f : Family) (wide : Bool) (s : List ℕ) → word_size wide ≤ length s → are_digits (pos 1 s) (pos 2 s) ≡ true
    → listed_by f (pos 1 s) (pos 2 s) (pos 3 s) ≡ true
    → judged_in (word_of f wide s) ≡ told (width wide) (is_counted (value_in f wide s)) (passing (tests_in f wide s) (drop 2 s))
word_told f wide s h digits listed =
    let w = width wide in
    let k = kind_at f s in
    let d = data_in wide s in
    let end = get_or s (7 + w) 0 in
    let rest = drop (word_size wide) s in
    let counts = is_counted (value_in f wide s) in
    let least = (width_bounds wide).0 in
    let long = data_length wide s h in
    let all = tests_length k w (omega arith) in
    let bytes : drop 2 s ≡ pos 3 s ∷ pos 4 s ∷ pos 5 s ∷ pos 6 s ∷ pos 7 s ∷ (d ++ (end ∷ rest)) = ap (drop 2) (spread_places wide s h) in
    let on : passing (data_tests k w ++ (is_blank ∷ [])) (d ++ (end ∷ rest)) ≡ cond (data_right k d) (w + cond (is_blank end) 1 0) (data_at k d) =
    passing_append (is_blank ∷ []) (end ∷ rest) (data_tests k w) d (all ∙ sym long) ∙ rw long in
    let near : data_right k d ≡ false → data_at k d < w =
    λ q. omega (arith, passing_most (data_tests k (length d)) d, eqb-false (data_at k d) (length d) q) in
    let tail = by_tail w counts (data_right k d) (is_blank end) (data_at k d) (record_in f wide s) near ∙ ap (λ n. told w counts (5 + n)) (sym on) in
    let a = lead_in f s in
    let i = index_in f s in
    rw (le-leb (word_size wide) (length s) h, digits, listed, marks_each f i k a (pos 4 s) (pos 5 s) (pos 6 s), bytes)
    (by_head w counts (passing (data_tests k w ++ (is_blank ∷ [])) (d ++ (end ∷ rest))) (first_right f i k a) (second_right f i k a (pos 4 s))
    (mode_right f i k a (pos 5 s)) (unit_right f i k a (pos 6 s)) (sign_right k (pos 7 s)) _ tail)
