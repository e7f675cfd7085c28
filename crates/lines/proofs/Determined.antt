-- The promises of this crate's public functions determine what comes out.
use mathlib.Core.Path.{◌≡◌}
use mathlib.Core.List.{List}
use Prim.Native.Nat.{ℕ}
use Rattle.figures.specs.Promises.{Determined}
use Rattle.figures.proofs.Determined.{by_equation, by_three}
use Rattle.lines.specs.Verdicts.{verdict_number, verdict_which, verdict_byte}
use Rattle.lines.specs.Machine.{call, Calls}
use Rattle.lines.specs.Verdicts.{Verdict}
use Rattle.lines.specs.declared.machine.Told.{Told}

pub verdict_number_determined : Determined Verdict ℕ (λ i r. r ≡ verdict_number i)
verdict_number_determined = by_equation Verdict ℕ verdict_number

pub verdict_which_determined : Determined Verdict ℕ (λ i r. r ≡ verdict_which i)
verdict_which_determined = by_equation Verdict ℕ verdict_which

pub verdict_byte_determined : Determined Verdict ℕ (λ i r. r ≡ verdict_byte i)
verdict_byte_determined = by_equation Verdict ℕ verdict_byte

-- image, line and room go in; the answer, the image and the room come out
pub line_determined : Determined (List ℕ × List ℕ × List ℕ) (Told × (List ℕ × List ℕ)) (λ i o. Calls i.0 i.1 i.2 o.0 o.1.0 o.1.1)
line_determined =
    by_three (List ℕ × List ℕ × List ℕ) Told (List ℕ) (List ℕ) (λ i. (call i.0 i.1 i.2).answer) (λ i. (call i.0 i.1 i.2).image)
    (λ i. (call i.0 i.1 i.2).room)
