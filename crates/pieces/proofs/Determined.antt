-- The promises of this crate's public functions determine what comes out.
use mathlib.Core.Path.{◌≡◌}
use mathlib.Core.Bool.{Bool}
use mathlib.Core.List.{List}
use Prim.Native.Nat.{ℕ}
use Rattle.figures.specs.Promises.{Determined}
use Rattle.figures.proofs.Determined.{by_equation}
use Rattle.pieces.specs.Pieces.{cut_of, is_joined, mark_after}
use Rattle.pieces.specs.declared.Mark.{Mark}

pub cut_determined : Determined (List ℕ) ℕ (λ s r. r ≡ cut_of s)
cut_determined = by_equation (List ℕ) ℕ cut_of

pub joins_determined : Determined (Mark × ℕ) Bool (λ i r. r ≡ is_joined i.0 i.1)
joins_determined = by_equation (Mark × ℕ) Bool (λ i. is_joined i.0 i.1)

pub after_determined : Determined (Mark × ℕ) Mark (λ i r. r ≡ mark_after i.0 i.1)
after_determined = by_equation (Mark × ℕ) Mark (λ i. mark_after i.0 i.1)
