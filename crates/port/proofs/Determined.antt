-- The promises of this crate's public functions determine what comes out.
use mathlib.Core.Path.{◌≡◌}
use mathlib.Core.Bool.{false}
use mathlib.Core.List.{List}
use Prim.Native.Nat.{ℕ}
use Rattle.figures.specs.Promises.{Determined}
use Rattle.figures.specs.Rooms.{Puts}
use Rattle.figures.proofs.Determined.{by_equation, by_three, put_determined}
use Rattle.lines.specs.Verdicts.{Verdict}
use Rattle.port.specs.Port.{quiet_port, heard, Turns, line_kept}
use Rattle.port.specs.Why.{why_of}
use Rattle.port.specs.declared.Port.{Port}
use Rattle.port.specs.declared.Turn.{Turn}

pub quiet_determined : Determined (Unit {0}) Port (λ i r. r ≡ quiet_port false)
quiet_determined = by_equation (Unit {0}) Port (λ i. quiet_port false)

-- image, port, byte and room go in; the turn, the image and the room come out
pub hear_determined : Determined (List ℕ × Port × ℕ × List ℕ) (Turn × (List ℕ × List ℕ)) (λ i o. Turns i.0 i.1 i.2 i.3 o.0 o.1.0 o.1.1)
hear_determined =
    by_three (List ℕ × Port × ℕ × List ℕ) Turn (List ℕ) (List ℕ) (λ i. (heard i.0 i.1 i.2 i.3).turn) (λ i. (heard i.0 i.1 i.2 i.3).image)
    (λ i. (heard i.0 i.1 i.2 i.3).room)

-- a room, the line's number, the port and the verdict go in; the count of bytes and the room come out
pub put_why_determined : Determined (List ℕ × ℕ × Port × Verdict) (ℕ × List ℕ) (λ i o. Puts i.0 0 (why_of i.1 i.3 (line_kept i.2)) o.0 o.1)
put_why_determined i = put_determined (i.0, 0, why_of i.1 i.3 (line_kept i.2))
