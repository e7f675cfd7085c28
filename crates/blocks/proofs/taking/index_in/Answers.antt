-- What `index_in` returns: a level's index with a digit at position 3 is of two digits exactly where they are 11 or 41.
use Prim.Native.Nat.{ℕ, ◌+◌, ◌-◌, ◌*◌, ◌/◌, ◌<◌, zero-le}
use mathlib.Core.Path.{◌≡◌, refl, sym, ap, ◌∙◌}
use mathlib.Core.Bool.{true, false, cond, false≢true}
use mathlib.Core.List.{[], ◌∷◌}
use mathlib.Core.Logic.{◌⊎◌, ⊎_elim, inl, inr}
use native.Mathlib.Omega.{arith}
use borrow.Author.Tests.{eq-eqb, eqb-true}
use lib.Dec.{eqb}
use Rattle.figures.specs.Bytes.{among}
use Rattle.figures.specs.Decimal.{is_digit, are_digits}
use Rattle.figures.proofs.Tests.{both, by_test, along}
use Rattle.units.specs.Classes.{numbered, class_of}
use Rattle.units.specs.Kinds.{station_kind, level_kind, class_kind, is_listed, index_of, three_of, of_kind, listed_at, is_index, index_or}
use Rattle.units.specs.declared.kinds.Family.{Family}
use Rattle.units.specs.declared.kinds.Family.TheVariants.{Station, Level}
use Rattle.units.specs.declared.kinds.Kind.{Kind}
use Rattle.units.specs.declared.kinds.Kind.TheVariants.{Numbered}
use Rattle.units.proofs.Levels.{three_below, two_back}
use Rattle.units.proofs.Positions.{two_digits}
use Rattle.units.proofs.ThreeDigits.{numbered_class}
use Rattle.words.specs.Reading.{pos}
use Rattle.blocks.proofs.Takes.{neither}
use Rattle.blocks.proofs.taking.index_in.Goals as goal

-- an index that the family has
of_index : (i : ℕ) (k : Kind) → is_index (of_kind i k) ≡ true → i ≡ index_or (of_kind i k)
of_index i k e = by_test (is_listed k) (λ q. rw q) (λ q. absurd (false≢true (rw q at e)))

-- the two digits before a block number
numbered_two : (n : ℕ) → n < 1000 → class_of n ≡ numbered → among (n / 10) (11 ∷ 41 ∷ []) ≡ true
unfolding among
numbered_two n h e =
    sym (rw (eq-eqb (class_of n) numbered e) at (along (λ m. cond (eqb (class_of m) numbered) (among (m / 10) (11 ∷ 41 ∷ [])) true) 0 1000 refl zero-le h))

-- what two digits and position 3 say, where the first two say n
module _ {f : Family} (two third : ℕ) {n : ℕ} (is : n ≡ two) (e : is_index (listed_at f two third) ≡ true) where
  station : f ≡ Station → n ≡ index_or (listed_at f two third)
  station family = is ∙ rw family (of_index two (station_kind two) (rw family at e))

  module _ (family : f ≡ Level) (h : two < 100) where
    alone : is_digit third ≡ false → n ≡ index_or (listed_at f two third)
    alone d = is ∙ rw (family, d) (of_index two (level_kind two) (rw (family, d) at e))

    block : is_digit third ≡ true → (n ≡ 11) ⊎ (n ≡ 41) → n ≡ index_or (listed_at f two third)
    unfolding among
    block d key =
        let kind : level_kind two ≡ Numbered = ⊎_elim (λ q. let at : two ≡ 11 = sym is ∙ q in rw at) (λ q. let at : two ≡ 41 = sym is ∙ q in rw at) key in
        let class = numbered_class (three_of two third) (three_below two third h d) (ap level_kind (two_back two third d) ∙ kind) in
        let same : two ≡ index_or (listed_at f two third) = rw (family, d, eq-eqb (class_of (three_of two third)) numbered class) in
        is ∙ same

    long : {m : ℕ} → is_digit third ≡ true → ((n ≡ 11) ⊎ (n ≡ 41) → ⊥) → m ≡ third - 48 → n * 10 + m ≡ index_or (listed_at f two third)
    long {m} d other last =
        let three = three_of two third in
        let whole : n * 10 + m ≡ three = rw (is, last) in
        by_test (eqb (class_of three) numbered)
        (λ q.
        let among_two = rw (two_back two third d) at (numbered_two three (three_below two third h d) (eqb-true (class_of three) numbered q)) in
        absurd (false≢true (sym (neither two 11 41 (λ p. other (inl (is ∙ p))) (λ p. other (inr (is ∙ p)))) ∙ among_two)))
        (λ q. whole ∙ rw (family, d, q) (of_index three (class_kind (class_of three)) (rw (family, d, q) at e)))

said : {a b x y : ℕ} → a ≡ x → b ≡ y → a * 10 + b ≡ x * 10 + y
said p q = rw (p, q)

small : (a b : ℕ) → are_digits a b ≡ true → index_of a b < 100
small a b e = let (first, second) = both (is_digit a) (is_digit b) e in two_digits a b first second

pub returns-then-not-digit : goal.returns-then-not-digit
returns-then-not-digit c =
    let s = c.args.s.now in
    alone (index_of (pos 1 s) (pos 2 s)) (pos 3 s) (said c.from.ensures c.from-2.ensures) c.requires.1.1 c.in_default.is
    (small (pos 1 s) (pos 2 s) c.requires.1.0) (sym c.digit.ensures ∙ c.if-not-digit.true)

pub returns-in-11 : goal.returns-in-11
returns-in-11 c =
    let s = c.args.s.now in
    block (index_of (pos 1 s) (pos 2 s)) (pos 3 s) (said c.from.ensures c.from-2.ensures) c.requires.1.1 c.in_default.is
    (small (pos 1 s) (pos 2 s) c.requires.1.0) (sym c.digit.ensures ∙ c.if-not-digit.false) c.in-11.is

pub returns-in_default-two : goal.returns-in_default-two
returns-in_default-two c =
    let s = c.args.s.now in
    long (index_of (pos 1 s) (pos 2 s)) (pos 3 s) (said c.from.ensures c.from-2.ensures) c.requires.1.1 c.in_default.is
    (small (pos 1 s) (pos 2 s) c.requires.1.0) (sym c.digit.ensures ∙ c.if-not-digit.false)
    (λ h. ⊎_elim (λ is. grind arith) (λ is. grind arith) h) c.from-in_default-two.ensures
