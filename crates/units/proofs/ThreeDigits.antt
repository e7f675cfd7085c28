-- The classes of a level's three digits: what each says of the index, computed over the whole table.
use Prim.Native.Nat.{ℕ, ◌/◌, ◌<◌, ◌≤◌, zero-le}
use mathlib.Core.Path.{◌≡◌, refl, sym}
use mathlib.Core.Bool.{true, false, cond}
use mathlib.Core.List.{[], ◌∷◌}
use native.Mathlib.Omega.{arith}
use borrow.Author.Tests.{eq-eqb, le-ltb}
use lib.Dec.{eqb, leb}
use Rattle.figures.specs.Bytes.{among, every}
use Rattle.figures.proofs.Bytes.{above_within}
use Rattle.figures.proofs.Tests.{Even, along, among_above}
use Rattle.units.specs.Classes.{none, numbered, class_of}
use Rattle.units.specs.Kinds.{level_kind, kind_of}
use Rattle.units.specs.declared.kinds.Family.TheVariants.{Level}
use Rattle.units.specs.declared.kinds.Kind.{Kind}
use Rattle.units.specs.declared.kinds.Kind.TheVariants.{Missing, Numbered, Text, Angle, Length, Constant, Pair}

-- n where the kind is numbered text, and the class of numbered text where it is another
abbrev by_numbered : Kind → ℕ → ℕ
by_numbered Missing n = numbered
by_numbered Numbered n = n
by_numbered Text n = numbered
by_numbered Angle n = numbered
by_numbered Length n = numbered
by_numbered Constant n = numbered
by_numbered Pair n = numbered

-- what holds of each three digits of a class, by computing it at a thousand numbers
class_says : {A : Type 0} (class : ℕ) (f : ℕ → A) {a : A} → Even (λ m. cond (eqb (class_of m) class) (f m) a) a 0 1000
    → (n : ℕ) → n < 1000 → class_of n ≡ class → f n ≡ a
class_says class f {a} even n h e =
    sym (rw (eq-eqb (class_of n) class e) at (along (λ m. cond (eqb (class_of m) class) (f m) a) 0 1000 even zero-le h))

-- a block number's first digit after 11 or 41
pub numbered_kind : (n : ℕ) → n < 1000 → class_of n ≡ numbered → kind_of Level (n / 10) ≡ Numbered
unfolding among
numbered_kind = class_says numbered (λ m. kind_of Level (m / 10)) refl

pub numbered_class : (n : ℕ) → n < 1000 → level_kind (n / 10) ≡ Numbered → class_of n ≡ numbered
unfolding among
numbered_class n h e =
    sym (rw e at (along (λ m. by_numbered (level_kind (m / 10)) (class_of m)) 0 1000 refl zero-le h))

-- no index of three digits is below 100
pub class_low : (n : ℕ) → n < 100 → class_of n ≡ none
unfolding among
class_low n h = sym (along class_of 0 100 refl zero-le h)

-- and none above 574
pub class_high : (n : ℕ) → 574 < n → class_of n ≡ none
unfolding every
class_high n h =
    let alone : (x : ℕ) → leb x 574 ≡ true → among n (x ∷ []) ≡ false = λ x e. among_above 574 (x ∷ []) (rw e) n h in
    rw (
      above_within 330 336 n (omega arith) (omega arith),
      alone 374 refl,
      above_within 571 574 n (omega arith) (omega arith),
      alone 521 refl,
      above_within 110 119 n (omega arith) (omega arith),
      above_within 410 419 n (omega arith) (omega arith),
    )

-- nor of four
pub four_digits : (n : ℕ) → 1000 ≤ n → kind_of Level n ≡ Missing
four_digits n h = rw (le-ltb n 100 (omega arith), class_high n (omega arith))
