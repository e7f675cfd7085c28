-- Laws of a sheet moved by way of an image: which sheets are of a form, what the image holds once the sheet is loaded into it, and what is written from it.
use Prim.Native.Nat.{ℕ, ◌+◌, ◌≤◌}
use mathlib.Core.Path.{◌≡◌, refl, sym, ap, ◌∙◌}
use mathlib.Core.Bool.{Bool, true, false, cond}
use mathlib.Core.List.{List, ◌++◌}
use native.Mathlib.Omega.{arith}
use borrow.Author.Tests.{not-true, not-false, eq-eqb, ne_eqb}
use lib.ListN.{length, drop, replicate, length-append, length-replicate}
use Rattle.figures.specs.Bytes.{starts_with}
use Rattle.figures.proofs.Tests.{clash, by_test}
use Rattle.instrument.specs.declared.settings.Series.{Series}
use Rattle.instrument.specs.declared.settings.Series.TheVariants.{Tps100, Tps300}
use Rattle.instrument.specs.Values.{Kept}
use Rattle.state.specs.Entries.{factory_state, is_state}
use Rattle.state.specs.Image.{image_n, image_of, encoded_in}
use Rattle.state.specs.Keeping.{count_in}
use Rattle.state.specs.declared.entries.Entry.{Entry}
use Rattle.state.specs.declared.entries.State.{State}
use Rattle.state.proofs.Images.{encoded_fits, image_back, image_series, image_is, factory_is_state}
use Rattle.state.proofs.Places.{count_read}
use Rattle.sheets.specs.Sheet.{sheet_of}
use Rattle.sheets.specs.Undo.{form_line, sheet_as}
use Rattle.sheets.specs.Loading.{Loading, wrong, right, loaded_state, first_lines, loading_as, form_in, Loaded·image, loaded_by, loaded, Loads}
use Rattle.sheets.specs.Writing.{Sheet·room, Leaves, unwritten, sheet_in_room, written_sheet, WritesSheet, other_form, moved_by}
use Rattle.sheets.specs.Keeping.{is_of, sheet_most}
use Rattle.sheets.specs.declared.forms.Form.{Form}
use Rattle.sheets.specs.declared.forms.Form.TheVariants.{One, Two}
use Rattle.sheets.specs.Answers.{Sheeted, LoadAnswer}
use Rattle.sheets.specs.declared.answers.SheetRefusal.{SheetRefusal}
use Rattle.sheets.specs.declared.answers.SheetRefusal.TheVariants.{Wrong, Standing}
use Rattle.std.specs.Prelude.{Ok, Err}
use Rattle.sheets.proofs.Partwise.{starts_parted}
use Rattle.sheets.proofs.Sheets.{sheet_one, loads_sheet}
use Rattle.sheets.proofs.Sizes.{sheet_below}
use Rattle.sheets.proofs.Images.{image_writes, fits, image_loads}
use Rattle.sheets.proofs.Moves.{moved_of}

-- a sheet of the form loads as one, and any other is wrong from its start on

pub form_of : (f : Form) (sheet : List ℕ) → is_of f sheet ≡ true → form_in sheet ≡ f
form_of One sheet e = ap (λ (b : Bool). cond b Two One) (not-true (starts_with (form_line Two) sheet) e)
form_of Two sheet e = ap (λ (b : Bool). cond b Two One) e

pub of_own : (sheet : List ℕ) → is_of (form_in sheet) sheet ≡ true
of_own sheet = by_test (starts_with (form_line Two) sheet) (λ e. rw (e, e)) (λ e. rw (e, e))

pub not_of_form : (f : Form) (k : Series) (sheet : List ℕ) → is_of f sheet ≡ false → loading_as f k sheet ≡ wrong 0
unfolding first_lines starts_with
not_of_form One k sheet e = by k (starts_parted (form_line Two) sheet (not-false (starts_with (form_line Two) sheet) e))
  where
    by : (t : Series) → sheet ≡ form_line Two ++ drop (length (form_line Two)) sheet → loading_as One t sheet ≡ wrong 0
    by Tps100 two = ap (loading_as One Tps100) two
    by Tps300 two = ap (loading_as One Tps300) two
not_of_form Two k sheet e = rw e

-- the image is that of the state that the sheet loads to
pub record Holds (f : Form) (k : Series) (sheet image : List ℕ) : Type 0 where
  pub settings : List ℕ
  pub values : List Kept
  pub entries : List Entry
  pub loads : loading_as f k sheet ≡ right settings values entries
  pub state : is_state (loaded_state k settings values entries) ≡ true
  pub image_of_lem : image ≡ image_of (loaded_state k settings values entries)

-- what loading into the factory's image comes to
module _ (f : Form) (k : Series) (sheet : List ℕ) (of : is_of f sheet ≡ true) (image : List ℕ) (long : length image ≡ image_n k) {first : List ℕ}
    (laid : first ≡ encoded_in (factory_state k) image) {r : LoadAnswer} {second : List ℕ} (l : Loads first sheet r second) where
  loads_by : (m : Loading) → loading_as f k sheet ≡ m → let o = loaded_by k (image_of (factory_state k)) m in (r ≡ o.answer) × (second ≡ o.image)
  loads_by m e =
      let i = image_of (factory_state k) in
      let so : loaded first sheet ≡ loaded_by k i m =
      ap (λ (b : List ℕ). loaded b sheet) (laid ∙ encoded_fits (factory_state k) image long)
      ∙ image_loads (factory_state k) sheet (factory_is_state k)
      ∙ ap (λ (g : Form). loaded_by k i (loading_as g k sheet)) (form_of f sheet of)
      ∙ ap (loaded_by k i) e in
      (l.0 ∙ ap (λ (o : Loaded·image). o.answer) so, l.1 ∙ ap (λ (o : Loaded·image). o.image) so)

  pub told_wrong : {at : ℕ} → r ≡ Err (Wrong at) → loading_as f k sheet ≡ wrong at
  told_wrong {at} e = by (loading_as f k sheet) refl
    where
      by : (m : Loading) → loading_as f k sheet ≡ m → m ≡ wrong at
      by (wrong a) q = let t = loads_by (wrong a) q in cc
      by (right settings values entries) q = let t = loads_by (right settings values entries) q in absurd (clash (cc))

  -- a refusal tells the wrong line, and is what moving comes to
  pub moved_refused : {e : SheetRefusal} → r ≡ Err e → (room : List ℕ) → Leaves (moved_by f k room (loading_as f k sheet)) (Err e) room
  moved_refused {e} is room = by (loading_as f k sheet) refl
    where
      by : (m : Loading) → loading_as f k sheet ≡ m → Leaves (moved_by f k room (loading_as f k sheet)) (Err e) room
      by (wrong a) q =
          let t = loads_by (wrong a) q in
          let so : ◌≡◌ {A = LoadAnswer} (Err e) (Err (Wrong a)) = sym is ∙ t.0 in
          let tells : e ≡ Wrong a = cc in
          (ap (λ (r : SheetRefusal). Err r) tells ∙ ap (λ (l : Loading). (moved_by f k room l).answer) (sym q), ap (λ (l : Loading). (moved_by f k room l).room) (sym q))
      by (right settings values entries) q = let t = loads_by (right settings values entries) q in absurd (clash (cc))

  pub holds : {u : Unit {0}} → r ≡ Ok u → Holds f k sheet second
  holds is = by (loading_as f k sheet) refl
    where
      by : (m : Loading) → loading_as f k sheet ≡ m → Holds f k sheet second
      by (wrong a) q = let t = loads_by (wrong a) q in absurd (clash (cc))
      by (right settings values entries) q = record {
        settings = settings;
        values = values;
        entries = entries;
        loads = q;
        state = (loads_sheet f k sheet settings values entries q).0;
        image_of_lem = (loads_by (right settings values entries) q).1;
      }

-- what comes of it

pub moved_wrong : (f : Form) (k : Series) (sheet room : List ℕ) {at : ℕ} → loading_as f k sheet ≡ wrong at
    → Leaves (moved_by f k room (loading_as f k sheet)) (Err (Wrong at)) room
moved_wrong f k sheet room e = (ap (λ (m : Loading). (moved_by f k room m).answer) (sym e), ap (λ (m : Loading). (moved_by f k room m).room) (sym e))

module _ {f : Form} {k : Series} {sheet image : List ℕ} (h : Holds f k sheet image) where
  abbrev s : State
  s = loaded_state k h.settings h.values h.entries

  count_held : count_in k image ≡ s.count
  count_held =
      ap (count_in k) h.image_of_lem
      ∙ count_read (record { is = image_is s h.state; series = sym (image_series s h.state) })
      ∙ ap (λ (t : State). t.count) (image_back s h.state)

  held_writes : (g : Form) (room : List ℕ) → written_sheet g image room ≡ sheet_in_room (sheet_as g s) room
  held_writes g room = ap (λ (i : List ℕ). written_sheet g i room) h.image_of_lem ∙ image_writes g s room h.state

  moved_held : (room : List ℕ) → moved_by f k room (loading_as f k sheet) ≡ moved_of f s room
  moved_held room = ap (moved_by f k room) h.loads

  -- with no entry it is written in the other form
  pub moved_none : (room : List ℕ) {n : ℕ} → n ≡ count_in k image → n ≡ 0 → {r : Sheeted} {room' : List ℕ}
      → WritesSheet (other_form f) image room r room' → Leaves (moved_by f k room (loading_as f k sheet)) r room'
  moved_none room e none w =
      let so : moved_by f k room (loading_as f k sheet) ≡ written_sheet (other_form f) image room =
      moved_held room ∙ rw (eq-eqb s.count 0 (sym count_held ∙ sym e ∙ none)) (sym (held_writes (other_form f) room)) in
      (w.0 ∙ ap (λ (o : Sheet·room). o.answer) (sym so), w.1 ∙ ap (λ (o : Sheet·room). o.room) (sym so))

  -- otherwise the list's place is told: after as many bytes as the first form has
  module _ {r : Sheeted} {lines : List ℕ} (w : WritesSheet One image (replicate (sheet_most One) 0) r lines) where
    pub first_written : r ≡ Ok (length (sheet_of s))
    first_written =
        let blank : List ℕ = replicate (sheet_most One) 0 in
        let below : length (sheet_as One s) ≤ length blank = omega (arith, sheet_below One s h.state, length-replicate {A = ℕ} (sheet_most One) 0) in
        w.0 ∙ ap (λ (o : Sheet·room). o.answer) (held_writes One blank ∙ fits (sheet_as One s) blank below)
        ∙ ap (λ (t : List ℕ). Ok (length t)) (sheet_one s)

    pub not_refused : {e : SheetRefusal} → r ≡ Err e → ⊥
    not_refused is = let never = sym is ∙ first_written in clash (cc)

    first_long : {n : ℕ} → r ≡ Ok n → n ≡ length (sheet_of s)
    first_long e = cc first_written

    pub first_most : {n : ℕ} → r ≡ Ok n → n ≤ sheet_most One
    first_most e = omega (arith, first_long e, ap length (sheet_one s), sheet_below One s h.state)

    pub moved_standing : (room : List ℕ) {n m : ℕ} → n ≡ count_in k image → (n ≡ 0 → ⊥) → r ≡ Ok m
        → Leaves (moved_by f k room (loading_as f k sheet)) (Err (Standing (length (form_line Two) + m))) room
    moved_standing room {n} {m} e some q =
        let so : moved_by f k room (loading_as f k sheet) ≡ unwritten (Standing (length (form_line Two ++ sheet_of s))) room =
        moved_held room ∙ rw (ne_eqb s.count 0 (λ z. some (e ∙ count_held ∙ z))) in
        let at : length (form_line Two) + m ≡ length (form_line Two ++ sheet_of s) = omega (arith, first_long q, length-append (form_line Two) (sheet_of s)) in
        (ap (λ (n : ℕ). Err (Standing n)) at ∙ ap (λ (o : Sheet·room). o.answer) (sym so), ap (λ (o : Sheet·room). o.room) (sym so))
