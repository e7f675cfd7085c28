-- The promises of this crate's public functions determine what comes out.
use mathlib.Core.Path.{◌≡◌}
use mathlib.Core.Bool.{Bool}
use mathlib.Core.List.{List}
use Prim.Native.Nat.{ℕ}
use Rattle.figures.specs.Promises.{Determined}
use Rattle.figures.proofs.Determined.{by_equation}
use Rattle.commands.specs.Shapes.{end_of, is_plain, order_of}
use Rattle.std.specs.Prelude.{Result}
use Rattle.commands.specs.declared.shapes.Order.{Order}
use Rattle.commands.specs.declared.shapes.NoOrder.{NoOrder}

pub end_of_determined : Determined (List ℕ) ℕ (λ i r. r ≡ end_of i)
end_of_determined = by_equation (List ℕ) ℕ end_of

pub is_plain_determined : Determined (List ℕ) Bool (λ i r. r ≡ is_plain i)
is_plain_determined = by_equation (List ℕ) Bool is_plain

pub order_of_determined : Determined (List ℕ) (Result Order NoOrder) (λ i r. r ≡ order_of i)
order_of_determined = by_equation (List ℕ) (Result Order NoOrder) order_of
