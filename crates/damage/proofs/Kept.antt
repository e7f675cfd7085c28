-- The bytes before one that is told, with others after them: that word is right, or its value alone is not.
use Prim.Native.Nat.{ℕ, ◌+◌, ◌-◌, ◌<◌, ◌≤◌}
use mathlib.Core.Path.{◌≡◌, refl, sym, ap, ◌∙◌}
use mathlib.Core.Bool.{Bool, true, false, cond, false≢true}
use mathlib.Core.List.{List, [], ◌∷◌, ◌++◌}
use native.Mathlib.Omega.{arith}
use borrow.Author.Tests.{le-ltb, leb-false, eq-eqb}
use lib.Dec.{leb}
use lib.ListN.{length, get_or, take, drop, length-append, length-drop}
use lib.Seq.{take_at, drop_at, drop-drop, drop-cons, take-add, length-take-le}
use Rattle.figures.specs.Decimal.{are_digits}
use Rattle.figures.proofs.Tests.{by_test}
use Rattle.units.specs.Kinds.{kind_of, index_by, listed_by}
use Rattle.units.specs.Information.{lead_of, sign_of}
use Rattle.units.specs.declared.kinds.Family.{Family}
use Rattle.units.specs.declared.kinds.Kind.{Kind}
use Rattle.words.specs.Records.{width}
use Rattle.words.specs.Reading.{fault_number, word_size, pos, data_in, data_tests, passing, value_in, is_counted, word_of, judged_right, judged_wrong, judged_in}
use Rattle.words.specs.declared.reading.Fault.{Fault}
use Rattle.words.specs.declared.reading.Fault.TheVariants.{Value}
use Rattle.words.proofs.Checks.{width_bounds}
use Rattle.damage.specs.Breaks.{Survives, KeptWord}
use Rattle.words.proofs.Letters.{passing_append}
use Rattle.damage.proofs.Passed.{passing_on}
use Rattle.damage.proofs.Noughts.{tests_length, noughts, noughts_length, noughts_pass, noughts_count}
use Rattle.damage.proofs.Marks.{fit_mode, fit_unit, fits, third_right}
use Rattle.damage.proofs.Answers.{is_blank, tests_by, tests_in, word_told}

-- bytes from position 3 on: c, and then what fits
abbrev fill_at : Bool → Kind → ℕ → ℕ → List ℕ
fill_at wide k a c = c ∷ fit_mode k a ∷ fit_mode k a ∷ fit_unit k a ∷ 43 ∷ (noughts k (width wide) ++ (32 ∷ []))

abbrev pub fill_by : Family → Bool → ℕ → ℕ → ℕ → List ℕ
fill_by f wide t o c = let i = index_by f t o c in fill_at wide (kind_of f i) (lead_of i c) c

module _ (f : Family) (wide : Bool) (t o c : ℕ) where
  fill_length : length (fill_by f wide t o c) ≡ 6 + width wide
  fill_length =
      let k = kind_of f (index_by f t o c) in
      let least = width_bounds wide in
      omega (arith, length-append (noughts k (width wide)) (32 ∷ []), noughts_length k (width wide) (omega arith))

  all_length : length (tests_by f wide t o c) ≡ 6 + width wide
  all_length =
      let k = kind_of f (index_by f t o c) in
      let least = width_bounds wide in
      omega (arith, length-append (data_tests k (width wide)) (is_blank ∷ []), tests_length k (width wide) (omega arith))

  fill_passes : third_right f t o c ≡ true → passing (tests_by f wide t o c) (fill_by f wide t o c) ≡ length (tests_by f wide t o c)
  fill_passes right =
      let i = index_by f t o c in
      let k = kind_of f i in
      let least = (width_bounds wide).0 in
      let (listed, second, mode, unit) = fits f i k (lead_of i c) right in
      let long = noughts_length k (width wide) (omega arith) in
      let letters = passing_append (is_blank ∷ []) (32 ∷ []) (data_tests k (width wide)) (noughts k (width wide)) (tests_length k (width wide) (omega arith) ∙ sym long) in
      rw (right, second, mode, unit, letters, noughts_pass k (width wide) (omega arith) listed, long, eq-eqb (width wide) (width wide) refl)
      (omega (arith, all_length))

-- n bytes of x, and then those of y after as many
abbrev mixed : ℕ → List ℕ → List ℕ → List ℕ
mixed n x y = take n x ++ drop n y

module _ (n : ℕ) (x y : List ℕ) (h : n ≤ length x) where
  mixed_length : n ≤ length y → length (mixed n x y) ≡ length y
  mixed_length g = length-append (take n x) (drop n y) ∙ omega (arith, length-take-le n x h, length-drop n y)

  drop_mixed : (m : ℕ) → n ≤ m → drop m (mixed n x y) ≡ drop m y
  drop_mixed m g =
      let at : n + (m - n) ≡ m = omega arith in
      rw (← at, ← drop-drop (m - n) n (mixed n x y), drop_at (take n x) (drop n y) n (length-take-le n x h), drop-drop (m - n) n y)

  take_mixed : take n (mixed n x y) ≡ take n x
  take_mixed = take_at (take n x) (drop n y) n (length-take-le n x h)

survives_by : (x : Fault) (counts : Bool) → (fault_number x < 8 → counts ≡ true) → Survives x (cond counts judged_right (judged_wrong Value 7))
survives_by x true h = tt
survives_by x false h = by_test (leb 8 (fault_number x)) (λ q. rw q) (λ q. absurd (false≢true (h (leb-false 8 (fault_number x) q))))

-- positions 1-2 of s, and n bytes after them, and then what fits with c at position 3: that of s, or another where n is 0
module _ (f : Family) (wide : Bool) (s : List ℕ) (whole : word_size wide ≤ length s) (x : Fault) (n c : ℕ) (near : n < 6 + width wide)
    (digits : are_digits (pos 1 s) (pos 2 s) ≡ true) (listed : listed_by f (pos 1 s) (pos 2 s) c ≡ true) (right : third_right f (pos 1 s) (pos 2 s) c ≡ true)
    (before : n ≤ passing (tests_by f wide (pos 1 s) (pos 2 s) c) (drop 2 s)) where
  abbrev tail : List ℕ
  tail = mixed n (drop 2 s) (fill_by f wide (pos 1 s) (pos 2 s) c)

  abbrev other : List ℕ
  other = pos 1 s ∷ pos 2 s ∷ tail

  pub kept_by : get_or tail 0 0 ≡ c → (fault_number x < 8 → n ≤ 4) → KeptWord f wide s x (2 + n)
  kept_by third early =
      let w = width wide in
      let t = pos 1 s in
      let o = pos 2 s in
      let k = kind_of f (index_by f t o c) in
      let fill = fill_by f wide t o c in
      let least = (width_bounds wide).0 in
      let far : n ≤ length (drop 2 s) = omega (arith, length-drop 2 s) in
      let filled = fill_length f wide t o c in
      let long : length other ≡ word_size wide = omega (arith, mixed_length n (drop 2 s) fill far (omega arith)) in
      let all : passing (tests_in f wide other) tail ≡ 6 + w =
      rw third (passing_on (tests_by f wide t o c) n (drop 2 s) fill before (fill_passes f wide t o c right) ∙ all_length f wide t o c) in
      let end : judged_in (word_of f wide other) ≡ cond (is_counted (value_in f wide other)) judged_right (judged_wrong Value 7) =
      word_told f wide other (omega arith) digits (rw third listed) ∙ rw (all, le-ltb (6 + w) (6 + w) (omega arith)) in
      let counts : fault_number x < 8 → is_counted (value_in f wide other) ≡ true =
      λ q.
      let letters : data_in wide other ≡ noughts k w =
      ap (take w) (drop_mixed n (drop 2 s) fill far 5 (omega (arith, early q)))
      ∙ take_at (noughts k w) (32 ∷ []) w (noughts_length k w (omega arith)) in
      rw (third, letters) (noughts_count k (index_by f t o c) (pos 6 other) (sign_of (pos 7 other)) w) in
      let start : take 2 s ≡ t ∷ o ∷ [] = ap (take 2) (drop-cons s 0 0 (omega arith) ∙ ap (λ l. t ∷ l) (drop-cons s 1 0 (omega arith))) in
      record {
        word = other;
        size = long;
        same = take-add 2 n other ∙ rw (take_mixed n (drop 2 s) fill far, take-add 2 n s, start);
        survives = rw end (survives_by x (is_counted (value_in f wide other)) counts);
      }
