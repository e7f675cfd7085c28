-- Two small laws that the documents name: a promise of the number itself determines what a cast to a wider type gives, and marks that are alike one by one
-- are the same four.
use mathlib.Core.Path.{◌≡◌}
use mathlib.Core.Bool.{Bool}
use Prim.Native.Nat.{ℕ}
use Rattle.figures.specs.Promises.{Determined}
use Rattle.figures.proofs.Determined.{by_equation}
use Rattle.units.specs.Information.{marks}

pub cast_determined : Determined ℕ ℕ (λ n r. r ≡ n)
cast_determined = by_equation ℕ ℕ (λ n. n)

pub four_marks : {a b c d a' b' c' d' : Bool} → a ≡ a' → b ≡ b' → c ≡ c' → d ≡ d' → marks a b c d ≡ marks a' b' c' d'
four_marks p q r s i = marks (p i) (q i) (r i) (s i)
