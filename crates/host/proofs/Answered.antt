-- Of a line or a sheet nothing is cut off either: a reply has at most 459 bytes, 26 tells at most 10 and a byte below 20, and a sheet tells no more than the
-- longest sheet's length.
use Prim.Native.Nat.{ℕ, ◌<◌, ◌≤◌}
use mathlib.Core.Path.{◌≡◌, ◌∙◌}
use mathlib.Core.List.{List, []}
use native.Mathlib.Nat.{mod-eq_of_lt}
use native.Mathlib.Omega.{arith}
use lib.Dec.{leb}
use lib.ListN.{length}
use Rattle.state.specs.Image.{state_in, is_image}
use Rattle.lines.specs.Verdicts.{verdict_which, verdict_byte}
use Rattle.lines.specs.Machine.{Outcome, outcome, run, step, Called, played, call}
use Rattle.lines.specs.Keeping.{reply_most}
use Rattle.lines.specs.declared.verdicts.Refused.TheVariants.{Room}
use Rattle.lines.proofs.Longest.{reply_most_lem}
use Rattle.lines.proofs.Telling.{call_tells, tells_small}
use Rattle.sheets.specs.Answers.{Sheeted, sheet_number, sheet_tells, told_of_load}
use Rattle.sheets.specs.Writing.{written_sheet, moved_sheet}
use Rattle.sheets.specs.Loading.{loaded}
use Rattle.sheets.specs.Keeping.{sheet_most}
use Rattle.sheets.specs.declared.forms.Form.{Form}
use Rattle.sheets.specs.declared.forms.Form.TheVariants.{Two}
use Rattle.sheets.proofs.Sizes.{most_two}
use Rattle.sheets.proofs.Told.{written_most, loaded_most, moved_most}
use Rattle.host.specs.Machine.{line_whole, told_sheet, sheet_whole, CallsC, WritesSheetC, LoadsC, MovesC}
use Rattle.host.proofs.Whole.{packed_whole, cond_when}
use Rattle.std.specs.Prelude.{Err}

-- a line that was run: no reply is longer than 459 bytes
line_most : (image line room : List ℕ) → (call image line room).answer.count ≤ reply_most
line_most image line room =
    let s = state_in image in
    cond_when (λ (c : Called). c.answer.count ≤ reply_most) (is_image image) (played (step s line (length room)) room) _
    (λ _. cond_when (λ (o : Outcome). length o.reply ≤ reply_most) (leb (length (run s line).reply) (length room)) (run s line) (outcome (Err Room) [] s)
    (λ _. reply_most_lem s line) (omega arith))
    (omega arith)

-- so the promises say
pub gsi_line_whole : (image line room : List ℕ) {r : ℕ} {image' room' : List ℕ} → CallsC image line room r image' room'
    → r ≡ line_whole (call image line room).answer
gsi_line_whole image line room h =
    let a = (call image line room).answer in
    let small = tells_small a.verdict (call_tells image line room) in
    let count : a.count < 65536 = omega (arith, line_most image line room) in
    let which : verdict_which a.verdict < 256 = omega (arith, small.0) in
    let byte : verdict_byte a.verdict < 256 = omega (arith, small.1) in
    h.0 ∙ rw (mod-eq_of_lt count, mod-eq_of_lt which, mod-eq_of_lt byte)

sheet_whole_lem : (a : Sheeted) → sheet_tells a ≤ sheet_most Two → told_sheet a ≡ sheet_whole a
sheet_whole_lem a h = packed_whole (sheet_number a) (sheet_tells a) (omega arith)

pub gsi_sheet_write_whole : (f : Form) (image room : List ℕ) {r : ℕ} {room' : List ℕ} → WritesSheetC f image room r room'
    → r ≡ sheet_whole (written_sheet f image room).answer
gsi_sheet_write_whole f image room h = h.0 ∙ sheet_whole_lem (written_sheet f image room).answer (omega (arith, written_most f image room, most_two f))

pub gsi_sheet_load_whole : (image sheet : List ℕ) {r : ℕ} {image' : List ℕ} → LoadsC image sheet r image' → r ≡ sheet_whole (told_of_load (loaded image sheet).answer)
gsi_sheet_load_whole image sheet h = h.0 ∙ sheet_whole_lem (told_of_load (loaded image sheet).answer) (loaded_most image sheet)

pub gsi_sheet_move_whole : (f : Form) (sheet room : List ℕ) {r : ℕ} {room' : List ℕ} → MovesC f sheet room r room' → r ≡ sheet_whole (moved_sheet f sheet room).answer
gsi_sheet_move_whole f sheet room h = h.0 ∙ sheet_whole_lem (moved_sheet f sheet room).answer (moved_most f sheet room)
