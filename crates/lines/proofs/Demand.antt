-- Demand 3: what stands after any lines is what the unstruck changes leave, and when an UNDO is refused.
use Prim.Native.Nat.{ℕ, ◌≤◌}
use mathlib.Core.Path.{◌≡◌, refl, sym, ap, subst, ◌∙◌}
use mathlib.Core.Bool.{Bool, true, false, cond}
use mathlib.Core.Logic.{◌↔◌}
use mathlib.Core.List.{List, []}
use native.Mathlib.Omega.{arith}
use borrow.Author.Tests.{le-leb}
use lib.ListN.{length}
use Rattle.instrument.specs.declared.settings.Series.{Series}
use Rattle.state.specs.Entries.{Contents, contents_of, factory_state, is_state}
use Rattle.state.specs.declared.entries.State.{State}
use Rattle.state.proofs.Images.{factory_is_state}
use Rattle.commands.specs.Shapes.{is_ended, text_of, order_of}
use Rattle.lines.specs.Verdicts.{verdict_number, is_accepted, order_verdict, undo_verdict, line_verdict}
use Rattle.lines.specs.Machine.{outcome, run, step}
use Rattle.lines.specs.Sessions.{session, Call, stepped, after}
use Rattle.lines.specs.Demand.{Mark, all_back, start_of, follows, begins, standing, play_all, stands}
use Rattle.commands.specs.declared.shapes.Order.TheVariants.{Undo}
use Rattle.lines.specs.Verdicts.{accepted}
use Rattle.lines.specs.declared.verdicts.Refused.TheVariants.{NoEntry, Room}
use Rattle.commands.proofs.Shape.{order_undo}
use Rattle.lines.proofs.Sessions.{alike_calls}
use Rattle.lines.proofs.Tracks.{Tracks, contents, undo_stands, Follows, tracks}
use Rattle.lines.proofs.Begins.{state_tracks}
use Rattle.std.specs.Prelude.{Err, Ok}

-- from any state what stands at it is followed
pub start_follows : (s : State) → is_state s ≡ true → (cs : List Call) → Follows (start_of s) (session follows (begins s) cs).left
start_follows s is cs = tracks (start_of s) (begins s) cs (is, state_tracks s is)

-- the state that is followed is that of the calls
followed_state : (s : State) (cs : List Call) → (session follows (begins s) cs).left.state ≡ after s cs
followed_state s cs =
    (alike_calls follows stepped (λ f t. f.state ≡ t) (λ f t c e. (ap (λ (u : State). (step u c.line c.room).next) e, ap (λ (u : State). (step u c.line c.room).reply) e))
    (begins s) s cs refl).0

start_tracks : (s : State) → is_state s ≡ true → (cs : List Call) → Tracks (start_of s) (after s cs) (standing s cs)
start_tracks s is cs = subst (λ (t : State). Tracks (start_of s) t (standing s cs)) (followed_state s cs) (start_follows s is cs).1

-- settings and stored values are those got by playing the unstruck changes in order, from the state with all of its entries taken back
pub played : (s : State) → is_state s ≡ true → (cs : List Call) → contents_of (after s cs) ≡ play_all (start_of s) (standing s cs)
played s is cs = contents (start_of s) (after s cs) (standing s cs) (start_tracks s is cs)

-- "demand 3 holds per series" (request 103): from each factory
pub played_factory : (k : Series) (cs : List Call) → contents_of (after (factory_state k) cs) ≡ play_all (contents_of (factory_state k)) (standing (factory_state k) cs)
unfolding all_back
played_factory k = played (factory_state k) (factory_is_state k)

undo_verdict_lem : (s : State) (line : List ℕ) → is_ended line ≡ true → order_of (text_of line) ≡ Ok Undo → line_verdict s line ≡ undo_verdict s.count
undo_verdict_lem s line ended undo =
    rw (ended, le-leb (length (text_of line)) 100 (omega (arith, order_undo (text_of line) undo))) (ap (order_verdict s (text_of line)) undo)

-- an UNDO whose reply fits, wherever what stands is followed
module _ (line : List ℕ) (ended : is_ended line ≡ true) (undo : order_of (text_of line) ≡ Ok Undo) (c : Contents) (s : State) (ms : List Mark) (t : Tracks c s ms)
    (room : ℕ) (fits : length (run s line).reply ≤ room) where
  undo_told : (step s line room).verdict ≡ cond (stands ms) accepted (Err NoEntry)
  undo_told =
      ap (λ (b : Bool). (cond b (run s line) (outcome (Err Room) [] s)).verdict) (le-leb (length (run s line).reply) room fits)
      ∙ undo_verdict_lem s line ended undo ∙ undo_stands c s ms t

  pub undo_by : is_accepted (step s line room).verdict ≡ stands ms
  undo_by = ap is_accepted undo_told ∙ by (stands ms)
    where
      by : (b : Bool) → is_accepted (cond b accepted (Err NoEntry)) ≡ b
      by true = refl
      by false = refl

-- it is refused exactly when no unstruck SET or PUT stands after the last accepted KEEP
module _ (s : State) (is : is_state s ≡ true) (cs : List Call) (line : List ℕ) (room : ℕ) (ended : is_ended line ≡ true) (undo : order_of (text_of line) ≡ Ok Undo)
    (fits : length (run (after s cs) line).reply ≤ room) where
  pub undo_accepted : is_accepted (step (after s cs) line room).verdict ≡ stands (standing s cs)
  undo_accepted = undo_by line ended undo (start_of s) (after s cs) (standing s cs) (start_tracks s is cs) room fits

  pub undo_refused : (is_accepted (step (after s cs) line room).verdict ≡ false) ↔ (stands (standing s cs) ≡ false)
  undo_refused = (λ e. sym undo_accepted ∙ e, λ e. undo_accepted ∙ e)

  pub undo_number : stands (standing s cs) ≡ false → verdict_number (step (after s cs) line room).verdict ≡ 29
  undo_number e =
      ap verdict_number (undo_told line ended undo (start_of s) (after s cs) (standing s cs) (start_tracks s is cs) room fits) ∙ rw e
