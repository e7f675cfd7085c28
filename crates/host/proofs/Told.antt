-- What the parts of an answer come to at most, whatever is answered.
use Prim.Native.Nat.{ℕ, ◌%◌, ◌<◌, ◌≤◌, zero-le}
use mathlib.Core.Bool.{Bool, true, false}
use native.Mathlib.Nat.{le_refl, mod-lt}
use native.Mathlib.Omega.{arith}
use Rattle.std.specs.Prelude.{Ok, Err}
use Rattle.words.specs.declared.reading.Fault.{Fault}
use Rattle.words.specs.declared.reading.Fault.TheVariants as fault
use Rattle.words.specs.Reading.{fault_number}
use Rattle.blocks.specs.declared.answers.Refusal.{Refusal}
use Rattle.blocks.specs.declared.answers.Refusal.TheVariants as refusal
use Rattle.blocks.specs.Answers.{refusal_number}
use Rattle.lines.specs.Verdicts.{verdict_which, verdict_byte}
use Rattle.lines.specs.declared.machine.Told.{Told}
use Rattle.sheets.specs.declared.answers.SheetRefusal.TheVariants as sheet
use Rattle.sheets.specs.Answers.{Sheeted, sheet_number}
use Rattle.host.specs.Answers.{bit_of}
use Rattle.host.specs.Machine.{line_tells}

pub bit_le : (on : Bool) (weight : ℕ) → bit_of on weight ≤ weight
bit_le true weight = le_refl weight
bit_le false weight = zero-le

fault_small : (f : Fault) → (1 ≤ fault_number f) × (fault_number f ≤ 15)
fault_small fault.Short = (omega arith, omega arith)
fault_small fault.Index = (omega arith, omega arith)
fault_small fault.Unlisted = (omega arith, omega arith)
fault_small fault.Information = (omega arith, omega arith)
fault_small fault.Sign = (omega arith, omega arith)
fault_small fault.Characters = (omega arith, omega arith)
fault_small fault.Separator = (omega arith, omega arith)
fault_small fault.Value = (omega arith, omega arith)

pub number_small : (r : Refusal) → (1 ≤ refusal_number r) × (refusal_number r ≤ 15)
number_small refusal.Empty = (omega arith, omega arith)
number_small (refusal.Wrong fault at) = fault_small fault
number_small refusal.NoWord = (omega arith, omega arith)
number_small (refusal.NoEnd at) = (omega arith, omega arith)
number_small (refusal.NoPlace at) = (omega arith, omega arith)
number_small refusal.Count = (omega arith, omega arith)
number_small (refusal.Record at) = (omega arith, omega arith)
number_small (refusal.Room bytes) = (omega arith, omega arith)

-- what a line tells is below 2^32, each part in its own bits
pub tells_below : (t : Told) → line_tells t < 4294967296
tells_below t =
    let count : t.count % 65536 < 65536 = mod-lt t.count (omega arith) in
    let which : verdict_which t.verdict % 256 < 256 = mod-lt (verdict_which t.verdict) (omega arith) in
    let byte : verdict_byte t.verdict % 256 < 256 = mod-lt (verdict_byte t.verdict) (omega arith) in
    omega arith

pub sheet_small : (a : Sheeted) → sheet_number a ≤ 99
sheet_small (Ok n) = omega arith
sheet_small (Err sheet.NoState) = omega arith
sheet_small (Err sheet.Room) = omega arith
sheet_small (Err (sheet.Wrong at)) = omega arith
sheet_small (Err (sheet.Standing at)) = omega arith
