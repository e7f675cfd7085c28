-- The promises of this crate's public functions determine what comes out.
use Prim.Native.Nat.{ℕ}
use mathlib.Core.Path.{◌≡◌}
use mathlib.Core.List.{List}
use Rattle.figures.specs.Promises.{Determined}
use Rattle.figures.proofs.Determined.{by_equation}
use Rattle.files.specs.Asked.{asked_by}
use Rattle.files.specs.Counting.{more_of}
use Rattle.std.specs.Prelude.{Option}
use Rattle.units.specs.declared.kinds.Family.{Family}

-- the number of arguments and the first of them go in
pub asked_by_determined : Determined (ℕ × List ℕ) (Option Family) (λ i r. r ≡ asked_by i.0 i.1)
asked_by_determined = by_equation (ℕ × List ℕ) (Option Family) (λ i. asked_by i.0 i.1)

pub more_determined : Determined ℕ ℕ (λ n r. r ≡ more_of n)
more_determined = by_equation ℕ ℕ more_of
