-- States stay states, whatever lines are played.
use Prim.Native.Nat.{ℕ}
use mathlib.Core.Path.{◌≡◌, sym, subst}
use mathlib.Core.Bool.{true}
use mathlib.Core.List.{List}
use Rattle.state.specs.Entries.{is_state}
use Rattle.state.specs.declared.entries.State.{State}
use Rattle.lines.specs.Orders.{line_deed}
use Rattle.lines.specs.Machine.{Outcome, step}
use Rattle.lines.specs.Sessions.{Call, stepped, after}
use Rattle.lines.proofs.Deeds.{done_state}
use Rattle.lines.proofs.Runs.{Comes, stays, runs, comes}
use Rattle.lines.proofs.Sessions.{lasts}

abbrev Is : State → Type 0
Is s = is_state s ≡ true

next_state : (s : State) (line : List ℕ) (o : Outcome) → Comes s line o → Is s → Is o.next
next_state s line o (stays v e) is = subst Is (sym e) is
next_state s line o (runs a m e) is = subst Is (sym e) (done_state s (line_deed s.series line) is m)

pub step_state : (s : State) (line : List ℕ) (room : ℕ) → is_state s ≡ true → is_state (step s line room).next ≡ true
step_state s line room is = next_state s line (step s line room) (comes s line room) is

pub after_state : (s : State) (cs : List Call) → is_state s ≡ true → is_state (after s cs) ≡ true
after_state s cs is = lasts stepped Is (λ t c. step_state t c.line c.room) s cs is
