-- Laws of what `write` reads of an image, and of what it answers.
use Prim.Native.Nat.{ℕ, ◌+◌, ◌≤◌, ◌<◌}
use mathlib.Core.Path.{◌≡◌, refl, sym, ap, ◌∙◌}
use mathlib.Core.Bool.{Bool, true, false, cond}
use mathlib.Core.List.{List, ◌++◌, append_assoc}
use native.Mathlib.Omega.{arith}
use borrow.Author.Tests.{le-leb, lt-leb}
use lib.Dec.{leb}
use lib.ListN.{length, get_or, length-append}
use lib.Seq.{get_or-take}
use Rattle.figures.specs.Bytes.{laid}
use Rattle.instrument.specs.Settings.{settings_n, held}
use Rattle.instrument.specs.Values.{values_n}
use Rattle.instrument.specs.declared.settings.Series.{Series}
use Rattle.instrument.specs.Values.{Kept}
use Rattle.state.specs.Image.{state_in, is_image}
use Rattle.state.specs.Keeping.{Imaged, stored_in}
use Rattle.state.specs.declared.entries.State.{State}
use Rattle.state.proofs.Images.{length_held, shaped}
use Rattle.state.proofs.Places.{series_read, parameter_read, stored_read}
use Rattle.sheets.specs.Sheet.{series_line, setting_lines, kept_line, value_lines, sheet_of}
use Rattle.sheets.specs.Undo.{form_line, undo_text, sheet_as}
use Rattle.sheets.specs.Writing.{Sheet·room, unwritten, sheet_in_room, written_sheet, WritesSheet}
use Rattle.sheets.specs.Keeping.{sheet_most, settings_text, values_text}
use Rattle.sheets.specs.declared.forms.Form.{Form}
use Rattle.sheets.specs.declared.forms.Form.TheVariants.{One}
use Rattle.sheets.specs.Answers.{Sheeted}
use Rattle.sheets.specs.declared.answers.SheetRefusal.TheVariants.{NoState, Room}
use Rattle.std.specs.Prelude.{Ok, Err}
use Rattle.sheets.proofs.Sizes.{series_long, sheet_below}
use Rattle.sheets.proofs.Linewise.{sheet_halves}
use Rattle.sheets.proofs.UndoWrites.{sheet_parts, sheet_long, is_state_lem}
use Rattle.std.specs.Prelude.{None}

-- what is read of an image of the series k is its state's

abbrev pub own_in : List ℕ → List ℕ
own_in l = let s = state_in l in held s.series s.settings

module _ {k : Series} {l : List ℕ} (im : Imaged k l) where
  abbrev s : State
  s = state_in l

  pub own_long : length (own_in l) ≡ settings_n s.series
  own_long = length_held s.series s.settings (shaped s (is_state_lem im)).settings_long

  pub own_count : settings_n k ≡ length (own_in l)
  own_count = ap settings_n (sym (series_read im)) ∙ sym own_long

  pub own_read : (i : ℕ) → i < length (own_in l) → get_or l (1 + i) 0 ≡ get_or (own_in l) i 0
  own_read i h = parameter_read im i (omega (arith, own_count)) ∙ sym (get_or-take (settings_n s.series) s.settings i 0 (omega (arith, own_long)))

  pub setting_read : (i p : ℕ) → i < length (own_in l) → p ≡ get_or l (1 + i) 0
      → (setting_lines k).write i p ≡ (setting_lines s.series).write i (get_or (own_in l) i 0)
  setting_read i p h e = let read = e ∙ own_read i h in λ j. (setting_lines (sym (series_read im) j)).write i (read j)

  pub values_long : length s.values ≡ values_n
  values_long = (shaped s (is_state_lem im)).values_long

  pub value_read : (i : ℕ) (v : Kept) → i < values_n → v ≡ stored_in k i l → kept_line i v ≡ value_lines.write i (get_or s.values i None)
  value_read i v h e = ap (kept_line i) (e ∙ stored_read im i h)

  -- the first form's lines by their three parts
  pub lines_text : (series_line k ++ settings_text s) ++ values_text s ≡ sheet_of s
  lines_text = ap (λ (t : Series). (series_line t ++ settings_text s) ++ values_text s) (sym (series_read im)) ∙ sheet_halves s

  pub lines_long : length (sheet_of s) ≡ 14 + length (settings_text s) + length (values_text s)
  lines_long =
      let front = series_line k ++ settings_text s in
      omega (arith, ap length lines_text, length-append front (values_text s), length-append (series_line k) (settings_text s), series_long k)

  pub lines_few : length (sheet_of s) ≤ sheet_most One
  unfolding sheet_as
  lines_few = sheet_below One s (is_state_lem im)

  -- and how long the sheet of a form is
  pub sheet_sized : (f : Form) {n settings values undo : ℕ} → n ≡ length (form_line f) → settings ≡ length (settings_text s)
      → values ≡ length (values_text s) → undo ≡ length (undo_text f s) → n + (14 + settings + values) + undo ≡ length (sheet_as f s)
  sheet_sized f en es ev eu = omega (arith, en, es, ev, eu, lines_long, sheet_long f s)

  -- and the sheet of a form by those
  pub sheet_text : (f : Form) → (form_line f ++ ((series_line k ++ settings_text s) ++ values_text s)) ++ undo_text f s ≡ sheet_as f s
  sheet_text f =
      ap (λ (t : List ℕ). (form_line f ++ t) ++ undo_text f s) lines_text ∙ append_assoc (form_line f) (sheet_of s) (undo_text f s) ∙ sym (sheet_parts f s)

-- the answer

module _ (f : Form) (image room : List ℕ) where
  abbrev nothing : Sheet·room
  nothing = unwritten NoState room

  answered : (w : Sheet·room) (r : Sheeted) (room' : List ℕ) → written_sheet f image room ≡ w → r ≡ w.answer → room' ≡ w.room
      → WritesSheet f image room r room'
  answered w r room' e a b = (a ∙ ap (λ (x : Sheet·room). x.answer) (sym e), b ∙ ap (λ (x : Sheet·room). x.room) (sym e))

  pub writes_none : is_image image ≡ false → WritesSheet f image room (Err NoState) room
  writes_none i = answered nothing (Err NoState) room (ap (λ (b : Bool). cond b (sheet_in_room (sheet_as f (state_in image)) room) nothing) i) refl refl

  module _ (i : is_image image ≡ true) where
    abbrev sheet : List ℕ
    sheet = sheet_as f (state_in image)

    abbrev whole : Sheet·room
    whole = record { answer = Ok (length sheet); room = laid sheet room }

    abbrev short : Sheet·room
    short = unwritten Room room

    by : (b : Bool) → leb (length sheet) (length room) ≡ b → written_sheet f image room ≡ cond b whole short
    by b e = λ j. cond (i j) (cond (e j) whole short) nothing

    pub writes_room : length room < length sheet → WritesSheet f image room (Err Room) room
    writes_room h = answered _ (Err Room) room (by false (lt-leb (length sheet) (length room) h)) refl refl

    pub writes_sheet : (n : ℕ) (room' : List ℕ) → length sheet ≤ length room → n ≡ length sheet → room' ≡ laid sheet room
        → WritesSheet f image room (Ok n) room'
    writes_sheet n room' h en er = answered _ (Ok n) room' (by true (le-leb (length sheet) (length room) h)) (ap Ok en) er
