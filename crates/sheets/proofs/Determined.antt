-- The promises of this crate's public functions determine what comes out.
use mathlib.Core.Path.{◌≡◌}
use mathlib.Core.Bool.{cond}
use mathlib.Core.List.{List}
use Prim.Native.Nat.{ℕ}
use lib.Dec.{leb}
use lib.ListN.{length}
use Rattle.figures.specs.Promises.{Determined}
use Rattle.figures.specs.Bytes.{laid}
use Rattle.figures.proofs.Determined.{by_equation, by_two}
use Rattle.sheets.specs.Answers.{Sheeted, LoadAnswer, refusal_number, refusal_tells, sheet_number, sheet_tells, told_of_load}
use Rattle.sheets.specs.Writing.{written_sheet, WritesSheet, series_named, moved_sheet, MovesSheet}
use Rattle.sheets.specs.Loading.{form_in, loaded, Loads}
use Rattle.sheets.specs.Playing.{printed, Prints}
use Rattle.sheets.specs.declared.answers.SheetRefusal.{SheetRefusal}
use Rattle.sheets.specs.declared.forms.Form.{Form}
use Rattle.instrument.specs.declared.settings.Series.{Series}

pub number_determined : Determined SheetRefusal ℕ (λ i r. r ≡ refusal_number i)
number_determined = by_equation SheetRefusal ℕ refusal_number

pub tells_determined : Determined SheetRefusal ℕ (λ i r. r ≡ refusal_tells i)
tells_determined = by_equation SheetRefusal ℕ refusal_tells

pub sheet_number_determined : Determined Sheeted ℕ (λ i r. r ≡ sheet_number i)
sheet_number_determined = by_equation Sheeted ℕ sheet_number

pub sheet_tells_determined : Determined Sheeted ℕ (λ i r. r ≡ sheet_tells i)
sheet_tells_determined = by_equation Sheeted ℕ sheet_tells

pub told_of_load_determined : Determined LoadAnswer Sheeted (λ i r. r ≡ told_of_load i)
told_of_load_determined = by_equation LoadAnswer Sheeted told_of_load

-- an image and a sheet go in; the answer and the image come out
pub load_determined : Determined (List ℕ × List ℕ) (LoadAnswer × List ℕ) (λ i o. Loads i.0 i.1 o.0 o.1)
load_determined = by_two (List ℕ × List ℕ) LoadAnswer (List ℕ) (λ i. (loaded i.0 i.1).answer) (λ i. (loaded i.0 i.1).image)

-- a form, an image and a room go in; the answer and the room come out
pub write_determined : Determined (Form × List ℕ × List ℕ) (Sheeted × List ℕ) (λ i o. WritesSheet i.0 i.1 i.2 o.0 o.1)
write_determined =
    by_two (Form × List ℕ × List ℕ) Sheeted (List ℕ) (λ i. (written_sheet i.0 i.1 i.2).answer) (λ i. (written_sheet i.0 i.1 i.2).room)

-- a form, a sheet and a room go in; the answer and the room come out
pub move_from_determined : Determined (Form × List ℕ × List ℕ) (Sheeted × List ℕ) (λ i o. MovesSheet i.0 i.1 i.2 o.0 o.1)
move_from_determined =
    by_two (Form × List ℕ × List ℕ) Sheeted (List ℕ) (λ i. (moved_sheet i.0 i.1 i.2).answer) (λ i. (moved_sheet i.0 i.1 i.2).room)

pub form_in_determined : Determined (List ℕ) Form (λ i r. r ≡ form_in i)
form_in_determined = by_equation (List ℕ) Form form_in

pub series_named_determined : Determined (Form × List ℕ) Series (λ i r. r ≡ series_named i.0 i.1)
series_named_determined = by_equation (Form × List ℕ) Series (λ i. series_named i.0 i.1)

-- an input and a room go in; the count and the room come out
pub play_determined : Determined (List ℕ × List ℕ) (ℕ × List ℕ) (λ i o. Prints i.0 i.1 o.0 o.1)
play_determined =
    by_two (List ℕ × List ℕ) ℕ (List ℕ) (λ i. cond (leb (length (printed i.0)) (length i.1)) (length (printed i.0)) 0)
    (λ i. cond (leb (length (printed i.0)) (length i.1)) (laid (printed i.0) i.1) i.1)
