-- The promises of this crate's public functions determine what comes out.
use mathlib.Core.Path.{◌≡◌}
use mathlib.Core.Bool.{cond}
use mathlib.Core.List.{List}
use Prim.Native.Nat.{ℕ, ◌*◌}
use lib.Dec.{eqb}
use lib.ListN.{length}
use Rattle.std.proofs.Common.{Result}
use Rattle.figures.specs.Promises.{Determined}
use Rattle.figures.proofs.Determined.{by_equation, by_two, by_three}
use Rattle.units.specs.declared.kinds.Family.{Family}
use Rattle.words.specs.declared.records.Word.{Word}
use Rattle.blocks.specs.Judging.{judged, filled}
use Rattle.blocks.specs.Composing.{written}
use Rattle.blocks.specs.Judging.{Answer}
use Rattle.blocks.specs.declared.answers.Refusal.{Refusal}
use Rattle.blocks.specs.Composing.{Wrote}
use Rattle.listings.specs.declared.edits.Edit.{Edit}
use Rattle.listings.specs.declared.mending.Mended.{Mended}
use Rattle.listings.specs.Outcome.{outcome, listed}
use Rattle.instrument.specs.declared.settings.Series.{Series}
use Rattle.state.specs.Entries.{factory_state}
use Rattle.state.specs.Image.{image_n, image_of}
use Rattle.lines.specs.Machine.{call}
use Rattle.lines.specs.declared.machine.Told.{Told}
use Rattle.sheets.specs.Writing.{written_sheet, moved_sheet}
use Rattle.sheets.specs.Loading.{loaded}
use Rattle.sheets.specs.declared.forms.Form.{Form}
use Rattle.sheets.specs.Answers.{Sheeted, told_of_load}
use Rattle.host.specs.Answers.{read_told, wrote_told, mended_told, is_yes, ReadsC, WritesC, MendsC}
use Rattle.host.specs.Machine.{told_line, told_sheet, LaysFactory, CallsC, WritesSheetC, LoadsC, MovesC}

pub told_read_determined : Determined Answer ℕ (λ i r. r ≡ read_told i)
told_read_determined = by_equation Answer ℕ read_told

pub told_wrote_determined : Determined Wrote ℕ (λ i r. r ≡ wrote_told i)
told_wrote_determined = by_equation Wrote ℕ wrote_told

pub told_mended_determined : Determined (Result Mended Refusal) ℕ (λ i r. r ≡ mended_told i)
told_mended_determined = by_equation (Result Mended Refusal) ℕ mended_told

-- of either family: `gsi_read` and `gsi_read_level`
pub gsi_read_determined : (f : Family) → Determined (List ℕ × List Word) (ℕ × List Word) (λ i o. ReadsC f i.0 i.1 o.0 o.1)
gsi_read_determined f =
    by_two (List ℕ × List Word) ℕ (List Word) (λ i. read_told (judged f i.0 (length i.1)).answer)
    (λ i. filled (judged f i.0 (length i.1)).words i.1)

pub gsi_write_determined : (f : Family) → Determined (List Word × ℕ × ℕ × List ℕ) (ℕ × List ℕ) (λ i o. WritesC f i.0 i.1 i.2 i.3 o.0 o.1)
gsi_write_determined f =
    by_two (List Word × ℕ × ℕ × List ℕ) ℕ (List ℕ) (λ i. wrote_told (written f i.0 (is_yes i.1) (is_yes i.2) i.3).answer)
    (λ i. (written f i.0 (is_yes i.1) (is_yes i.2) i.3).room)

-- `gsi_mend` and `gsi_mend_level`
pub gsi_mend_determined : (f : Family)
    → Determined (List ℕ × List ℕ × List Edit) (ℕ × (List ℕ × List Edit)) (λ i o. MendsC f i.0 i.1 i.2 o.0 o.1.0 o.1.1)
gsi_mend_determined f =
    by_three (List ℕ × List ℕ × List Edit) ℕ (List ℕ) (List Edit) (λ i. mended_told (outcome f i.0 i.1 (length i.2)).answer)
    (λ i. (outcome f i.0 i.1 (length i.2)).room) (λ i. listed (outcome f i.0 i.1 (length i.2)).edits i.2)

pub told_line_determined : Determined Told ℕ (λ i r. r ≡ told_line i)
told_line_determined = by_equation Told ℕ told_line

pub told_sheet_determined : Determined Sheeted ℕ (λ i r. r ≡ told_sheet i)
told_sheet_determined = by_equation Sheeted ℕ told_sheet

-- of either series: `gsi_image_size` and `gsi_image_size_300`, `gsi_factory` and `gsi_factory_300`
pub gsi_image_size_determined : (k : Series) → Determined (Unit {0}) ℕ (λ i r. r ≡ image_n k)
gsi_image_size_determined k = by_equation (Unit {0}) ℕ (λ i. image_n k)

pub gsi_factory_determined : (k : Series) → Determined (List ℕ) (ℕ × List ℕ) (λ i o. LaysFactory k i o.0 o.1)
gsi_factory_determined k =
    by_two (List ℕ) ℕ (List ℕ) (λ i. cond (eqb (length i) (image_n k)) 0 (31 * 4294967296))
    (λ i. cond (eqb (length i) (image_n k)) (image_of (factory_state k)) i)

pub gsi_line_determined : Determined (List ℕ × List ℕ × List ℕ) (ℕ × (List ℕ × List ℕ)) (λ i o. CallsC i.0 i.1 i.2 o.0 o.1.0 o.1.1)
gsi_line_determined =
    by_three (List ℕ × List ℕ × List ℕ) ℕ (List ℕ) (List ℕ) (λ i. told_line (call i.0 i.1 i.2).answer) (λ i. (call i.0 i.1 i.2).image)
    (λ i. (call i.0 i.1 i.2).room)

-- of each form
pub gsi_sheet_write_determined : (f : Form) → Determined (List ℕ × List ℕ) (ℕ × List ℕ) (λ i o. WritesSheetC f i.0 i.1 o.0 o.1)
gsi_sheet_write_determined f =
    by_two (List ℕ × List ℕ) ℕ (List ℕ) (λ i. told_sheet (written_sheet f i.0 i.1).answer) (λ i. (written_sheet f i.0 i.1).room)

-- from each form
pub gsi_sheet_move_determined : (f : Form) → Determined (List ℕ × List ℕ) (ℕ × List ℕ) (λ i o. MovesC f i.0 i.1 o.0 o.1)
gsi_sheet_move_determined f =
    by_two (List ℕ × List ℕ) ℕ (List ℕ) (λ i. told_sheet (moved_sheet f i.0 i.1).answer) (λ i. (moved_sheet f i.0 i.1).room)

pub gsi_sheet_load_determined : Determined (List ℕ × List ℕ) (ℕ × List ℕ) (λ i o. LoadsC i.0 i.1 o.0 o.1)
gsi_sheet_load_determined =
    by_two (List ℕ × List ℕ) ℕ (List ℕ) (λ i. told_sheet (told_of_load (loaded i.0 i.1).answer)) (λ i. (loaded i.0 i.1).image)
