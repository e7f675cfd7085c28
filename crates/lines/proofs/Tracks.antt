-- How a state follows what stands of the calls: the entries taken back, newest first, strike the unstruck changes after the last KEEP, newest first.
use Prim.Native.Nat.{ℕ, ◌<◌}
use mathlib.Core.Path.{◌≡◌, refl, sym, ap, subst}
use mathlib.Core.Bool.{true, cond}
use mathlib.Core.List.{List, [], ◌∷◌}
use native.Mathlib.Omega.{arith}
use borrow.Author.Tests.{eq-eqb, ne_eqb}
use Rattle.state.specs.Entries.{Contents, contents_of, is_state}
use Rattle.state.specs.declared.entries.State.{State}
use Rattle.lines.specs.Verdicts.{is_accepted, undo_verdict}
use Rattle.lines.specs.Orders.{stores, undo_of, Deed, asks, changes, undoes, keeps, line_deed, done_of}
use Rattle.lines.specs.Machine.{Outcome, step}
use Rattle.lines.specs.Sessions.{session, Call}
use Rattle.lines.specs.Demand.{Mark, changed, kept, strike, mark, marked, play_all, stands, Followed, follows}
use Rattle.lines.specs.Verdicts.{accepted}
use Rattle.lines.specs.declared.verdicts.Refused.TheVariants.{NoEntry}
use Rattle.lines.proofs.Deeds.{May, undo_changed}
use Rattle.lines.proofs.Runs.{Comes, stays, runs, comes}
use Rattle.lines.proofs.States.{step_state}
use Rattle.lines.proofs.Sessions.{lasts}
use Rattle.std.specs.Prelude.{Err}

abbrev pub Tracks : Contents → State → List Mark → Type 0
Tracks c s [] = (s.count ≡ 0) × (contents_of s ≡ c)
Tracks c s (changed d ∷ ms) = (0 < s.count) × (contents_of s ≡ stores (play_all c ms) d) × Tracks c (undo_of s) ms
Tracks c s (kept ∷ ms) = (s.count ≡ 0) × (contents_of s ≡ play_all c ms)

module _ (c : Contents) where
  pub contents : (s : State) (ms : List Mark) → Tracks c s ms → contents_of s ≡ play_all c ms
  unfolding play_all
  contents s [] t = t.1
  contents s (changed d ∷ ms) t = t.1
  contents s (kept ∷ ms) t = t.1

  -- an UNDO takes an entry back where a change stands to be struck
  pub undo_stands : (s : State) (ms : List Mark) → Tracks c s ms → undo_verdict s.count ≡ cond (stands ms) accepted (Err NoEntry)
  undo_stands s [] t = rw (eq-eqb s.count 0 t.0)
  undo_stands s (changed d ∷ ms) t = rw (ne_eqb s.count 0 (λ e. omega (arith, t.0)))
  undo_stands s (kept ∷ ms) t = rw (eq-eqb s.count 0 t.0)

  struck : (s : State) (ms : List Mark) → (s.count ≡ 0 → ⊥) → Tracks c s ms → Tracks c (undo_of s) (strike ms)
  unfolding strike
  struck s [] some t = absurd (some t.0)
  struck s (changed d ∷ ms) some t = t.2
  struck s (kept ∷ ms) some t = absurd (some t.0)

  -- what is done, whatever line or other call did it
  pub done_tracks : (s : State) (ms : List Mark) (d : Deed) → is_state s ≡ true → May s d → Tracks c s ms → Tracks c (done_of s d) (mark ms d)
  done_tracks s ms asks is m t = t
  done_tracks s ms (changes d) is m t = (
    omega arith,
    ap (λ (b : Contents). stores b d) (contents s ms t),
    subst (λ (r : State). Tracks c r ms) (sym (undo_changed s d is m.0)) t,
  )
  done_tracks s ms undoes is m t = struck s ms m t
  done_tracks s ms keeps is m t = (refl, contents s ms t)

  next_tracks : (s : State) (ms : List Mark) (line : List ℕ) (o : Outcome) → Comes s line o → is_state s ≡ true → Tracks c s ms
      → Tracks c o.next (cond (is_accepted o.verdict) (mark ms (line_deed s.series line)) ms)
  next_tracks s ms line o (stays v e) is t = rw v (subst (λ (r : State). Tracks c r ms) (sym e) t)
  next_tracks s ms line o (runs a m e) is t =
      let deed = line_deed s.series line in
      rw a (subst (λ (r : State). Tracks c r (mark ms deed)) (sym e) (done_tracks s ms deed is m t))

  pub step_tracks : (s : State) (ms : List Mark) (d : Call) → is_state s ≡ true → Tracks c s ms → Tracks c (step s d.line d.room).next (marked s d ms)
  step_tracks s ms d is t = next_tracks s ms d.line (step s d.line d.room) (comes s d.line d.room) is t

  abbrev pub Follows : Followed → Type 0
  Follows f = (is_state f.state ≡ true) × Tracks c f.state f.standing

  pub tracks : (f : Followed) (cs : List Call) → Follows f → Follows (session follows f cs).left
  tracks f cs h =
      lasts follows Follows (λ g d k. (step_state g.state d.line d.room k.0, step_tracks g.state g.standing d k.0 k.1)) f cs h
