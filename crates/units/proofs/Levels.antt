-- Positions 1-3 where they are an index: which it is and of which kind, a level's by position 3 and by the class of three digits.
use Prim.Native.Nat.{ℕ, ◌<◌, ◌≤◌, ◌/◌}
use mathlib.Core.Path.{◌≡◌, refl, ap}
use mathlib.Core.Bool.{true, false, false≢true}
use native.Mathlib.Omega.{arith}
use borrow.Author.Tests.{eqb-true, ltb-true, ltb-false, lt-ltb, le-ltb}
use lib.Dec.{eqb, ltb}
use Rattle.std.specs.Prelude.{Ok, Err}
use Rattle.figures.specs.Decimal.{is_digit}
use Rattle.figures.proofs.Bytes.{within_bounds}
use Rattle.figures.proofs.Tests.{clash, by_test}
use Rattle.units.specs.Classes.{numbered, class_of}
use Rattle.units.specs.Kinds.{Indexed, station_kind, level_kind, class_kind, kind_of, is_listed, three_of, of_kind, level_at, listed_at, is_index, index_or}
use Rattle.units.specs.declared.kinds.Family.{Family}
use Rattle.units.specs.declared.kinds.Family.TheVariants.{Station, Level}
use Rattle.units.specs.declared.kinds.Unindexed.TheVariants.{Other, Unlisted}
use Rattle.units.specs.declared.kinds.Kind.{Kind}
use Rattle.units.specs.declared.kinds.Kind.TheVariants.{Missing, Numbered}
use Rattle.units.proofs.ThreeDigits.{numbered_kind, class_low}

-- what is an index
pub an_index : (x : Indexed) → is_index x ≡ true → (i : ℕ) × (k : Kind) × (x ≡ Ok (i, k))
an_index (Ok p) e = (p.0, p.1, refl)
an_index (Err w) e = absurd (false≢true e)

-- the kind of what is an index
abbrev kind_or : Indexed → Kind
kind_or (Ok p) = p.1
kind_or (Err w) = Missing

pub of_kind_lem : (i j : ℕ) (k l : Kind) → of_kind i k ≡ Ok (j, l) → (is_listed k ≡ true) × (i ≡ j) × (k ≡ l)
of_kind_lem i j k l e =
    by_test (is_listed k) (λ q. let told : Ok (i, k) ≡ Ok (j, l) = rw q at e in (q, ap index_or told, ap kind_or told))
    (λ q. let told : Err Unlisted ≡ Ok (j, l) = rw q at e in absurd (clash (cc)))

module _ (two third : ℕ) where
  abbrev three : ℕ
  three = three_of two third

  -- three digits are below 1000
  pub three_below : two < 100 → is_digit third ≡ true → three < 1000
  three_below h d = omega (arith, (within_bounds 48 57 third d).1)

  -- the two digits before a block number
  pub two_back : is_digit third ≡ true → three / 10 ≡ two
  two_back d = let low = within_bounds 48 57 third d in omega arith

  -- a level's index: two digits without a third, two with a block number, or three
  pub data Found : ℕ → Kind → Type 0 where
    alone : is_digit third ≡ false → is_listed (level_kind two) ≡ true → Found two (level_kind two)
    block : is_digit third ≡ true → class_of three ≡ numbered → Found two Numbered
    long : is_digit third ≡ true → 100 ≤ three → is_listed (class_kind (class_of three)) ≡ true → Found three (class_kind (class_of three))

  pub found : (i : ℕ) (k : Kind) → level_at two third ≡ Ok (i, k) → Found i k
  found i k e =
      by_test (is_digit third)
      (λ d. by_test (eqb (class_of three) numbered)
      (λ q.
      let told : Ok (two, Numbered) ≡ Ok (i, k) = rw (d, q) at e in
      let index : two ≡ i = ap index_or told in
      let kind : Numbered ≡ k = ap kind_or told in
      rw (← index, ← kind) (block d (eqb-true (class_of three) numbered q)))
      (λ q.
      let (listed, index, kind) = of_kind_lem three i (class_kind (class_of three)) k (rw (d, q) at e) in
      let high : 100 ≤ three = by_test (ltb three 100)
      (λ r. absurd (false≢true (rw (class_low three (ltb-true three 100 r)) at listed))) (λ r. ltb-false three 100 r) in
      rw (← index, ← kind) (long d high listed)))
      (λ d. let (listed, index, kind) = of_kind_lem two i (level_kind two) k (rw d at e) in rw (← index, ← kind) (alone d listed))

  pub found_kind : two < 100 → (i : ℕ) (k : Kind) → Found i k → kind_of Level i ≡ k
  found_kind h i k (alone d listed) = rw (lt-ltb two 100 h)
  found_kind h i k (block d class) = rw (two_back d) at (numbered_kind three (three_below h d) class)
  found_kind h i k (long d high listed) = rw (le-ltb three 100 high)

-- two digits are no other byte

of_other : (i at : ℕ) (k : Kind) → of_kind i k ≡ Err (Other at) → ⊥
of_other i at k e = by_test (is_listed k) (λ q. let told = rw q at e in clash (cc)) (λ q. let told = rw q at e in clash (cc))

pub no_other : (f : Family) (two third at : ℕ) → listed_at f two third ≡ Err (Other at) → ⊥
no_other Station two third at e = of_other two at (station_kind two) e
no_other Level two third at e =
    let three = three_of two third in
    by_test (is_digit third)
    (λ d. by_test (eqb (class_of three) numbered) (λ q. let told = rw (d, q) at e in clash (cc))
    (λ q. of_other three at (class_kind (class_of three)) (rw (d, q) at e)))
    (λ d. of_other two at (level_kind two) (rw d at e))

-- the kind is that of a record with the index
pub listed_kind : (f : Family) (two third i : ℕ) (k : Kind) → two < 100 → listed_at f two third ≡ Ok (i, k) → kind_of f i ≡ k
listed_kind Station two third i k h e = let (listed, index, kind) = of_kind_lem two i (station_kind two) k e in rw (← index) kind
listed_kind Level two third i k h e = found_kind two third h i k (found two third i k e)
