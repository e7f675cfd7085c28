-- Laws of the second form as it is written: a sheet by its parts, an entry's line by its item, and what is read of the list in an image.
use Prim.Native.Nat.{ℕ, ◌+◌, ◌*◌, ◌≤◌, ◌<◌}
use mathlib.Core.Path.{◌≡◌, refl, sym, ap, ◌∙◌}
use mathlib.Core.Bool.{true, cond, ◌&&◌, not}
use mathlib.Core.List.{List, [], ◌++◌, append_assoc, append-nil}
use native.Mathlib.Omega.{arith}
use borrow.Author.Tests.{ltb-true}
use lib.Dec.{eqb, ltb}
use lib.ListN.{length, get_or, length-append}
use lib.Seq.{get_or-take, length-take-le}
use Rattle.figures.specs.Text.{codes, byte}
use Rattle.figures.specs.Decimal.{digits_n, decimal_of}
use Rattle.figures.proofs.Decimal.{digits_length}
use Rattle.figures.proofs.Tests.{both}
use Rattle.instrument.specs.Rows.{name_of}
use Rattle.instrument.specs.Settings.{settings_n, setting_number, row_at, is_asked, in_range}
use Rattle.instrument.specs.Values.{values_n, is_put, kept_right}
use Rattle.instrument.specs.declared.settings.Series.{Series}
use Rattle.state.specs.Entries.{entries_n, blank_entry, settable, is_never, entry_right, is_state}
use Rattle.state.specs.Image.{state_in}
use Rattle.state.specs.Keeping.{Imaged, count_in, entry_at}
use Rattle.state.specs.declared.entries.Item.TheVariants.{Free, Setting, Stored}
use Rattle.state.specs.declared.entries.Entry.{Entry}
use Rattle.state.specs.declared.entries.State.{State}
use Rattle.state.proofs.Images.{image_of_lem}
use Rattle.state.proofs.Steps.{state_parts}
use Rattle.state.proofs.Places.{series_read, count_read, entry_read}
use Rattle.state.proofs.Listed.{entries_right}
use Rattle.sheets.specs.Sheet.{characters_n, characters_of, sheet_of}
use Rattle.sheets.specs.Undo.{form_line, count_line, entry_line, entry_lines, entries_of, list_text, undo_text, sheet_as}
use Rattle.sheets.specs.Keeping.{key_length, kept_text, setting_start}
use Rattle.sheets.specs.declared.forms.Form.{Form}
use Rattle.sheets.specs.declared.forms.Form.TheVariants.{One, Two}
use Rattle.sheets.proofs.Keyed.{key_held, setting_keyed_lem, name_long, value_name, value_name_lem}
use Rattle.sheets.proofs.Linewise.{text_long}

-- a sheet in a form: the form's line, the first form's lines, and what follows them
pub sheet_parts : (f : Form) (s : State) → sheet_as f s ≡ form_line f ++ (sheet_of s ++ undo_text f s)
unfolding sheet_as undo_text
sheet_parts One s = sym (append-nil (sheet_of s))
sheet_parts Two s = refl

pub sheet_long : (f : Form) (s : State) → length (sheet_as f s) ≡ length (form_line f) + length (sheet_of s) + length (undo_text f s)
sheet_long f s =
    omega (arith, ap length (sheet_parts f s), length-append (form_line f) (sheet_of s ++ undo_text f s), length-append (sheet_of s) (undo_text f s))

pub undo_one : (s : State) → undo_text One s ≡ []
unfolding undo_text
undo_one s = refl

pub undo_two : (s : State) → undo_text Two s ≡ list_text s.series (entries_of s)
unfolding undo_text
undo_two s = refl

pub form_few : (f : Form) → length (form_line f) ≤ 7
form_few One = omega arith
form_few Two = omega arith

pub count_long : (n : ℕ) → length (count_line n) ≡ 6 + digits_n n
count_long n = omega (arith, length-append (decimal_of n) (codes "\n"), digits_length (digits_n n) n)

-- an entry's line, by its item

pub free_line : (k : Series) (e : Entry) → e.item ≡ Free → entry_line k e ≡ codes "u=:\n"
free_line k e is = rw is

module _ (k : Series) (e : Entry) (i : ℕ) where
  abbrev p : ℕ
  p = e.former.parameter

  pub setting_line : e.item ≡ Setting i → entry_line k e ≡ setting_start (setting_number (row_at k i)) ++ (decimal_of p ++ codes "\n")
  setting_line is = rw is

  pub stored_line : e.item ≡ Stored i → entry_line k e ≡ codes "u=" ++ kept_text i (byte ":") e.former.kept
  stored_line is =
      let rest = characters_of i e.former.kept ++ codes "\n" in
      rw is (ap (λ (t : List ℕ). codes "u=" ++ t) (append_assoc (value_name i) (codes ":") rest))

  pub setting_line_long : e.item ≡ Setting i → length (entry_line k e) ≡ key_length (key_held k i) + 3 + digits_n p
  setting_line_long is =
      let name = name_of "s" (setting_number (row_at k i)) in
      let start = setting_start (setting_number (row_at k i)) in
      let number = decimal_of p ++ codes "\n" in
      omega (
        arith,
        ap length (setting_line is),
        length-append start number,
        length-append name (codes ":"),
        length-append (decimal_of p) (codes "\n"),
        digits_length (digits_n p) p,
        name_long name (setting_keyed_lem k i),
      )

  -- one that is right is of a place that there is

  module _ (right : entry_right k e ≡ true) where
    pub setting_there : e.item ≡ Setting i → i < settings_n k
    setting_there is =
        let can = not (is_asked (row_at k i)) && in_range (row_at k i) p in
        ltb-true i (settings_n k) (both (ltb i (settings_n k)) can (both (settable k i p) (is_never e.former.kept) (rw is at right)).0).0

    pub stored_there : e.item ≡ Stored i → i < values_n
    stored_there is = ltb-true i values_n (both (ltb i values_n) (eqb p 0 && kept_right i e.former.kept) (rw is at right)).0

    pub stored_line_long : e.item ≡ Stored i → length (entry_line k e) ≡ 7 + characters_n * cond (is_put e.former.kept) 1 0
    stored_line_long is =
        omega (arith, ap length (stored_line is), text_long i (byte ":") e.former.kept, ap length (value_name_lem i (stored_there is)))

-- what is read of the list in an image of the series k is its state's

abbrev pub list_in : List ℕ → List Entry
list_in l = entries_of (state_in l)

module _ {k : Series} {l : List ℕ} (im : Imaged k l) where
  abbrev s : State
  s = state_in l

  pub is_state_lem : is_state s ≡ true
  is_state_lem = (image_of_lem l im.is).0

  pub entries_long : length (list_in l) ≡ s.count
  entries_long =
      let p = state_parts entries_n s is_state_lem in
      length-take-le s.count s.undo (omega (arith, p.few, p.undo_long))

  pub entries_few : length (list_in l) ≤ entries_n
  entries_few = omega (arith, entries_long, (state_parts entries_n s is_state_lem).few)

  pub entries_count : count_in k l ≡ length (list_in l)
  entries_count = count_read im ∙ sym entries_long

  module _ (i : ℕ) (h : i < length (list_in l)) where
    pub entry_there : entry_at k i l ≡ get_or (list_in l) i blank_entry
    entry_there = entry_read im i (omega (arith, entries_few)) ∙ sym (get_or-take s.count s.undo i blank_entry (omega (arith, entries_long)))

    pub entry_right_lem : entry_right k (entry_at k i l) ≡ true
    entry_right_lem =
        let here = entry_read im i (omega (arith, entries_few)) in
        (λ j. entry_right (sym (series_read im) j) (here j)) ∙ entries_right s is_state_lem i (omega (arith, entries_long))

    pub entry_text : (e : Entry) → e ≡ entry_at k i l → entry_line k e ≡ (entry_lines s.series).write i (get_or (list_in l) i blank_entry)
    entry_text e is = let read = is ∙ entry_there in λ j. entry_line (sym (series_read im) j) (read j)
