-- Sheets and images: a sheet written from one image and loaded into another carries over what its form shows, and a loaded sheet is written again.
use Prim.Native.Nat.{ℕ, ◌≤◌}
use mathlib.Core.Path.{◌≡◌, refl, sym, ap, ◌∙◌}
use mathlib.Core.Bool.{Bool, true, false, cond}
use mathlib.Core.List.{List}
use borrow.Author.Tests.{le-leb}
use lib.ListN.{length, take}
use Rattle.figures.specs.Bytes.{laid}
use Rattle.figures.proofs.Bytes.{laid_start}
use Rattle.figures.proofs.Tests.{clash}
use Rattle.state.specs.Entries.{is_state}
use Rattle.instrument.specs.declared.settings.Series.{Series}
use Rattle.state.specs.Image.{image_of, series_in, state_in, is_image}
use Rattle.instrument.specs.Values.{Kept}
use Rattle.state.specs.declared.entries.Entry.{Entry}
use Rattle.state.specs.declared.entries.State.{State}
use Rattle.state.proofs.Images.{image_is, image_back, image_series}
use Rattle.sheets.specs.Answers.{sheet_tells}
use Rattle.sheets.specs.Undo.{form_line, sheet_as}
use Rattle.sheets.specs.Writing.{Sheet·room, unwritten, sheet_in_room, written_sheet, WritesSheet}
use Rattle.sheets.specs.Loading.{Loading, wrong, right, loaded_state, loading_as, form_in, loading_of, Loaded·image, loaded_by, loaded, Loads}
use Rattle.sheets.specs.declared.forms.Form.{Form}
use Rattle.sheets.specs.Answers.{Sheeted, LoadAnswer}
use Rattle.sheets.specs.declared.answers.SheetRefusal.TheVariants.{NoState, Wrong}
use Rattle.std.specs.Prelude.{Ok, Err}
use Rattle.sheets.proofs.Sheets.{shown_in, form_in_lem, shown_back, sheet_loads_of, loads_sheet_of, other_sheet}

-- a state's image writes the state's sheet where it fits
pub image_writes : (f : Form) (s : State) (room : List ℕ) → is_state s ≡ true → written_sheet f (image_of s) room ≡ sheet_in_room (sheet_as f s) room
image_writes f s room e =
    ap (λ (b : Bool). cond b (sheet_in_room (sheet_as f (state_in (image_of s))) room) (unwritten NoState room)) (image_is s e)
    ∙ ap (λ (t : State). sheet_in_room (sheet_as f t) room) (image_back s e)

-- bytes that fit stand at the start of the room
pub fits : (sheet room : List ℕ) → length sheet ≤ length room → sheet_in_room sheet room ≡ record { answer = Ok (length sheet); room = laid sheet room }
fits sheet room h = rw (le-leb (length sheet) (length room) h)

abbrev pub Stands : List ℕ → Sheeted → List ℕ → Type 0
Stands sheet r room' = (r ≡ Ok (length sheet)) × (take (length sheet) room' ≡ sheet)

pub fitted : (sheet room : List ℕ) (o : Sheet·room) → o ≡ sheet_in_room sheet room → length sheet ≤ length room → Stands sheet o.answer o.room
fitted sheet room o e h =
    let is = e ∙ fits sheet room h in
    (ap (λ (x : Sheet·room). x.answer) is, ap (λ (x : Sheet·room). take (length sheet) x.room) is ∙ laid_start sheet room h)

pub written : (f : Form) (s : State) (room : List ℕ) (r : Sheeted) (room' : List ℕ) → is_state s ≡ true → length (sheet_as f s) ≤ length room
    → WritesSheet f (image_of s) room r room' → Stands (sheet_as f s) r room'
written f s room r room' e h w =
    let out = fitted (sheet_as f s) room (written_sheet f (image_of s) room) (image_writes f s room e) h in
    (w.0 ∙ out.0, ap (take (length (sheet_as f s))) w.1 ∙ out.1)

-- what loading into any lent bytes comes to
pub data LoadsAs (image sheet : List ℕ) (o : Loaded·image) : Type 0 where
  lent_none : is_image image ≡ false → o ≡ record { answer = Err NoState; image = image } → LoadsAs image sheet o
  lent_wrong : (at : ℕ) → loading_of (series_in image) sheet ≡ wrong at → o ≡ record { answer = Err (Wrong at); image = image } → LoadsAs image sheet o
  lent_right : (settings : List ℕ) (values : List Kept) (entries : List Entry) → loading_of (series_in image) sheet ≡ right settings values entries
      → o ≡ record { answer = Ok tt; image = image_of (loaded_state (series_in image) settings values entries) } → LoadsAs image sheet o

pub loads_as : (image sheet : List ℕ) → LoadsAs image sheet (loaded image sheet)
loads_as image sheet = by (is_image image) (loading_of (series_in image) sheet) refl refl
  where
    by : (b : Bool) (l : Loading) → is_image image ≡ b → loading_of (series_in image) sheet ≡ l
        → LoadsAs image sheet (cond b (loaded_by (series_in image) image l) (record { answer = Err NoState; image = image }))
    by false l i q = lent_none i refl
    by true (wrong at) i q = lent_wrong at q refl
    by true (right settings values entries) i q = lent_right settings values entries q refl

-- and into an image
pub image_loads : (t : State) (sheet : List ℕ) → is_state t ≡ true → loaded (image_of t) sheet ≡ loaded_by t.series (image_of t) (loading_of t.series sheet)
image_loads t sheet e =
    let i = image_of t in
    ap (λ (b : Bool). cond b (loaded_by (series_in i) i (loading_of (series_in i) sheet)) (record { answer = Err NoState; image = i })) (image_is t e)
    ∙ ap (λ (k : Series). loaded_by k i (loading_of k sheet)) (image_series t e)

-- a sheet of the image's series leaves the image of what it shows: of form 2 that of the very state
pub sheet_image : (f : Form) (s t : State) → is_state s ≡ true → is_state t ≡ true → s.series ≡ t.series
    → loaded (image_of t) (sheet_as f s) ≡ record { answer = Ok tt; image = image_of (shown_in f s) }
sheet_image f s t hs ht k =
    image_loads t (sheet_as f s) ht
    ∙ ap (λ (x : Series). loaded_by x (image_of t) (loading_of x (sheet_as f s))) (sym k)
    ∙ ap (loaded_by s.series (image_of t)) (sheet_loads_of f s hs)
    ∙ ap (λ (x : State). record { answer = Ok tt; image = image_of x }) (shown_back f s hs)

pub written_loads : (f : Form) (s t : State) (room : List ℕ) (r : Sheeted) (r' : LoadAnswer) (room' image' : List ℕ) → is_state s ≡ true → is_state t ≡ true
    → s.series ≡ t.series → length (sheet_as f s) ≤ length room
    → WritesSheet f (image_of s) room r room' → Loads (image_of t) (take (sheet_tells r) room') r' image'
    → (r' ≡ Ok tt) × (image' ≡ image_of (shown_in f s))
written_loads f s t room r r' room' image' hs ht k h w l =
    let first = written f s room r room' hs h w in
    let sheet : take (sheet_tells r) room' ≡ sheet_as f s = ap (λ (a : Sheeted). take (sheet_tells a) room') first.0 ∙ first.1 in
    let is = ap (loaded (image_of t)) sheet ∙ sheet_image f s t hs ht k in
    (l.0 ∙ ap (λ (o : Loaded·image). o.answer) is, l.1 ∙ ap (λ (o : Loaded·image). o.image) is)

-- a sheet that loaded is written again in its form, byte for byte
pub loaded_writes : (image sheet room : List ℕ) (r : Sheeted) (room' image' : List ℕ) → Loads image sheet (Ok tt) image' → length sheet ≤ length room
    → WritesSheet (form_in sheet) image' room r room' → Stands sheet r room'
loaded_writes image sheet room r room' image' l h w = by (loads_as image sheet)
  where
    by : LoadsAs image sheet (loaded image sheet) → Stands sheet r room'
    by (lent_none i q) = absurd (clash (cc (l.0 ∙ ap (λ (o : Loaded·image). o.answer) q)))
    by (lent_wrong at e q) = absurd (clash (cc (l.0 ∙ ap (λ (o : Loaded·image). o.answer) q)))
    by (lent_right settings values entries e q) =
        let s = loaded_state (series_in image) settings values entries in
        let back = loads_sheet_of (series_in image) sheet settings values entries e in
        let again : WritesSheet (form_in sheet) (image_of s) room r room' = rw (l.1 ∙ ap (λ (o : Loaded·image). o.image) q) at w in
        rw back.1 at (written (form_in sheet) s room r room' back.0 (rw back.1 h) again)

-- "a sheet of the other series is 40 at that line" (request 103): the image is as it was
pub other_refused : (f : Form) (s t : State) → is_state t ≡ true → (s.series ≡ t.series → ⊥)
    → loaded (image_of t) (sheet_as f s) ≡ record { answer = Err (Wrong (length (form_line f))); image = image_of t }
other_refused f s t e apart =
    image_loads t (sheet_as f s) e
    ∙ ap (λ (g : Form). loaded_by t.series (image_of t) (loading_as g t.series (sheet_as f s))) (form_in_lem f s)
    ∙ ap (loaded_by t.series (image_of t)) (other_sheet f t.series s (λ q. apart (sym q)))
