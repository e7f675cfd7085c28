-- Demand 3 over lines and sheet loads in any order, accepted and refused, from any state, on it and on a lent image.
use Prim.Native.Nat.{ℕ}
use mathlib.Core.Path.{◌≡◌, refl, ap, ◌∙◌}
use mathlib.Core.Bool.{true}
use mathlib.Core.List.{List, [], ◌∷◌, map}
use lib.ListN.{length}
use Rattle.state.specs.Entries.{is_state}
use Rattle.state.specs.Image.{image_of}
use Rattle.state.specs.declared.entries.State.{State}
use Rattle.lines.specs.Machine.{step}
use Rattle.lines.specs.Sessions.{Exchange, session, Lent, called}
use Rattle.lines.proofs.Begins.{state_tracks}
use Rattle.lines.proofs.Demand.{undo_by}
use Rattle.lines.proofs.Hosted.{ImageOf, hosted}
use Rattle.lines.proofs.Sessions.{lasts, alike}
use Rattle.lines.proofs.States.{step_state}
use Rattle.lines.proofs.Tracks.{Tracks, contents, step_tracks}
use Rattle.sheets.specs.Loading.{Loading, wrong, right, loaded_state, loading_of, Loaded·image, loaded_by, loaded}
use Rattle.sheets.specs.Acts.{Act, sends, loads, Traced, starts_at, trace_load, acted, traced, Demanded, of_room, called_acts}
use Rattle.sheets.proofs.Sheets.{loads_sheet_of}
use Rattle.sheets.proofs.Images.{image_loads}

-- what every act keeps
abbrev Traces : Traced → Type 0
Traces t = (is_state t.state ≡ true) × Tracks t.start t.state t.standing

traces_on : (t : Traced) (a : Act ℕ) → Traces t → Traces (acted t a).left
traces_on t (sends line room) (is, follows) =
    (step_state t.state line room is, step_tracks t.start t.state t.standing (record { line = line; room = room }) is follows)
traces_on t (loads sheet) h = by (loading_of t.state.series sheet) refl
  where
    by : (l : Loading) → loading_of t.state.series sheet ≡ l → Traces (trace_load t l)
    by (wrong at) e = h
    by (right settings values entries) e =
        let is = (loads_sheet_of t.state.series sheet settings values entries e).0 in
        (is, state_tracks (loaded_state t.state.series settings values entries) is)

-- from any state
pub demanded : (s : State) → is_state s ≡ true → (acts : List (Act ℕ)) → Demanded (traced s acts)
demanded s state acts =
    let t = traced s acts in
    let (is, follows) = lasts acted Traces traces_on (starts_at s) acts (state, state_tracks s state) in
    record {
      is = is;
      played = contents t.start t.state t.standing follows;
      undo = λ line room ended undo fits. undo_by line ended undo t.start t.state t.standing follows room fits;
    }

-- a host's

abbrev Laid : List ℕ → Traced → Type 0
Laid image t = ImageOf image t.state

lent_traces : (image : List ℕ) (t : Traced) (a : Act (List ℕ)) → Laid image t
    → Laid (called_acts image a).left (acted t (of_room a)).left × ((called_acts image a).reply ≡ (acted t (of_room a)).reply)
unfolding session
lent_traces image t (sends line room) (is, state) =
    let c : Lent = record { line = line; room = room } in
    let one = hosted t.state state (c ∷ []) in
    let here = ap (λ (i : List ℕ). called i c) is in
    let reply : (called (image_of t.state) c).reply ≡ (step t.state line (length room)).reply = cc one.1 in (
      (ap (λ (e : Exchange (List ℕ)). e.left) here ∙ one.0.0, one.0.1),
      ap (λ (e : Exchange (List ℕ)). e.reply) here ∙ reply,
    )
lent_traces image t (loads sheet) (is, state) =
    let s = t.state in
    let come = ap (λ (i : List ℕ). (loaded i sheet).image) is ∙ ap (λ (o : Loaded·image). o.image) (image_loads s sheet state) in
    (by (loading_of s.series sheet) refl come, refl)
  where
    by : (l : Loading) → loading_of t.state.series sheet ≡ l → (loaded image sheet).image ≡ (loaded_by t.state.series (image_of t.state) l).image
        → Laid (loaded image sheet).image (trace_load t l)
    by (wrong at) e q = (q, state)
    by (right settings values entries) e q = (q, (loads_sheet_of t.state.series sheet settings values entries e).0)

-- after any acts its image is that of the state after them, and each reply is the state's
pub hosted_acts : (s : State) → is_state s ≡ true → (acts : List (Act (List ℕ))) →
    let own = session acted (starts_at s) (map of_room acts) in
    let host = session called_acts (image_of s) acts in
    (host.left ≡ image_of own.left.state) × (host.replies ≡ own.replies)
hosted_acts s state acts =
    let h = alike called_acts acted of_room Laid lent_traces (image_of s) (starts_at s) acts (refl, state) in
    (h.0.0, h.1)
