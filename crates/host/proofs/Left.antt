-- What the stand-in's functions leave where they refuse: the image, and, but for a line's `@W127`, the room; and what their numbers are.
use Prim.Native.Nat.{ℕ, ◌*◌, ◌≤◌}
use mathlib.Core.Path.{◌≡◌, ap, ◌∙◌}
use mathlib.Core.Bool.{Bool, true, false, cond}
use mathlib.Core.List.{List}
use native.Mathlib.Omega.{arith}
use borrow.Author.Tests.{ne_eqb}
use lib.Dec.{eqb}
use lib.ListN.{length}
use Rattle.figures.proofs.Bytes.{bounds_within}
use Rattle.instrument.specs.declared.settings.Series.{Series}
use Rattle.state.specs.Entries.{factory_state}
use Rattle.state.specs.Image.{image_n, image_of}
use Rattle.lines.specs.Verdicts.{verdict_number}
use Rattle.lines.specs.Machine.{call}
use Rattle.lines.specs.declared.machine.Told.{Told}
use Rattle.lines.specs.Verdicts.{Verdict}
use Rattle.lines.proofs.Leaves.{refused_leaves}
use Rattle.lines.proofs.Sorts.{accepted_number}
use Rattle.lines.proofs.Telling.{call_other, call_unanswered}
use Rattle.sheets.specs.Answers.{Sheeted, sheet_number, told_of_load}
use Rattle.sheets.specs.Writing.{written_sheet, moved_sheet}
use Rattle.sheets.specs.Loading.{loaded}
use Rattle.sheets.specs.declared.forms.Form.{Form}
use Rattle.sheets.proofs.Starts.{refused_image}
use Rattle.sheets.proofs.Told.{written_refused, moved_refused}
use Rattle.host.specs.Answers.{packed, answer_number_in}
use Rattle.host.specs.Machine.{told_line, told_sheet, LaysFactory, CallsC, WritesSheetC, LoadsC, MovesC}
use Rattle.host.proofs.Told.{tells_below}
use Rattle.host.proofs.Answered.{gsi_line_whole}

line_number : (t : Told) → answer_number_in (told_line t) ≡ verdict_number t.verdict
line_number t = omega (arith, tells_below t)

sheet_number_lem : (a : Sheeted) → answer_number_in (told_sheet a) ≡ sheet_number a
sheet_number_lem a = omega arith

module _ (image line room : List ℕ) {r : ℕ} {image' room' : List ℕ} (h : CallsC image line room r image' room') where
  abbrev given : Verdict
  given = (call image line room).answer.verdict

  pub gsi_line_number : answer_number_in r ≡ verdict_number given
  gsi_line_number = ap answer_number_in h.0 ∙ line_number (call image line room).answer

  -- "A refused line replies `@W127`, with nothing else altered"
  pub gsi_line_refused : 4294967296 ≤ r → image' ≡ image
  gsi_line_refused high =
      let number = gsi_line_number in
      h.1.0 ∙ refused_leaves image line room (accepted_number given ∙ ne_eqb (verdict_number given) 0 (λ z. omega arith))

  -- 30 and 31: "nothing written or changed", and 0 is told
  pub gsi_line_unanswered : 30 ≤ answer_number_in r → answer_number_in r ≤ 31
      → (r ≡ answer_number_in r * 4294967296) × ((image' ≡ image) × (room' ≡ room))
  gsi_line_unanswered low high =
      let number = gsi_line_number in
      let none = call_unanswered image line room (bounds_within 30 31 (verdict_number given) (omega arith) (omega arith)) in
      let other = call_other image line room (λ e. omega arith) in
      (omega (arith, gsi_line_whole image line room h, none.0, other.0, other.1), (h.1.0 ∙ none.1.0, h.1.1 ∙ none.1.1))

pub gsi_sheet_write_refused : (f : Form) (image room : List ℕ) {r : ℕ} {room' : List ℕ} → WritesSheetC f image room r room' → 4294967296 ≤ r → room' ≡ room
gsi_sheet_write_refused f image room h high =
    let number = ap answer_number_in h.0 ∙ sheet_number_lem (written_sheet f image room).answer in
    h.1 ∙ written_refused f image room (omega arith)

pub gsi_sheet_move_refused : (f : Form) (sheet room : List ℕ) {r : ℕ} {room' : List ℕ} → MovesC f sheet room r room' → 4294967296 ≤ r → room' ≡ room
gsi_sheet_move_refused f sheet room h high =
    let number = ap answer_number_in h.0 ∙ sheet_number_lem (moved_sheet f sheet room).answer in
    h.1 ∙ moved_refused f sheet room (omega arith)

-- 40 "leaves the state as it was", and 31 the lent bytes
pub gsi_sheet_load_refused : (image sheet : List ℕ) {r : ℕ} {image' : List ℕ} → LoadsC image sheet r image' → 4294967296 ≤ r → image' ≡ image
gsi_sheet_load_refused image sheet h high =
    let number = ap answer_number_in h.0 ∙ sheet_number_lem (told_of_load (loaded image sheet).answer) in
    h.1 ∙ refused_image image sheet (λ e. let none = number ∙ ap (λ a. sheet_number (told_of_load a)) e in omega arith)

pub gsi_factory_refused : (k : Series) (image : List ℕ) {r : ℕ} {image' : List ℕ} → LaysFactory k image r image' → 4294967296 ≤ r → image' ≡ image
gsi_factory_refused k image {r} {image'} h high = by (eqb (length image) (image_n k)) h.0 h.1
  where
    by : (b : Bool) → r ≡ cond b 0 (packed 31 0) → image' ≡ cond b (image_of (factory_state k)) image → image' ≡ image
    by true e left = absurd (omega arith)
    by false e left = left
