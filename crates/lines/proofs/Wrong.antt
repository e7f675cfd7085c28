-- Machines that are shut out, on each series by itself: those that aren't `step`, and those that fail demand 3 on two lines at most from the factory
-- or on one from an undo list that was loaded.
use Prim.Native.Nat.{ℕ, ◌+◌, ◌≤◌}
use mathlib.Core.Path.{◌≡◌, refl, sym, ap, subst, ◌∙◌}
use mathlib.Core.Bool.{Bool, true, false, cond, false≢true}
use mathlib.Core.List.{List, [], ◌∷◌, ◌++◌}
use native.Mathlib.Omega.{arith}
use borrow.Author.Tests.{eqb-false, ne_eqb}
use lib.Dec.{eqb}
use lib.ListN.{length}
use Rattle.std.specs.Prelude.{Ok}
use Rattle.figures.specs.Text.{codes}
use Rattle.figures.specs.Bytes.{every, starts_with, run_of}
use Rattle.figures.specs.Decimal.{number_from}
use Rattle.instrument.specs.Rows.{seek}
use Rattle.instrument.specs.Settings.{rows100, rows300, parameter_of}
use Rattle.instrument.specs.declared.settings.Series.{Series}
use Rattle.instrument.specs.declared.settings.Series.TheVariants.{Tps100, Tps300}
use Rattle.state.specs.Entries.{factory_state, Contents, contents_of, is_state}
use Rattle.state.specs.declared.entries.State.{State}
use Rattle.state.proofs.Images.{factory_is_state}
use Rattle.commands.specs.Shapes.{is_ended, text_of, order_of}
use Rattle.lines.specs.Verdicts.{is_accepted}
use Rattle.lines.specs.Orders.{keep_of, Deed, asks, changes, undoes, keeps, line_deed}
use Rattle.lines.specs.Replies.{reply_end, done}
use Rattle.lines.specs.Machine.{Outcome, outcome, run, step}
use Rattle.lines.specs.Sessions.{Exchange, session, Call}
use Rattle.lines.specs.Demand.{Mark, strike, mark, marks_back, stands_at, all_back, start_of, Followed, follows, begins, play_all, stands}
use Rattle.commands.specs.declared.shapes.Order.TheVariants.{Undo}
use Rattle.lines.proofs.Sessions.{alike_calls}
use Rattle.lines.proofs.Deeds.{keep_none}
use Rattle.lines.proofs.Calling.{step_series}
use Rattle.lines.proofs.States.{step_state}
use Rattle.lines.proofs.Tracks.{contents}
use Rattle.lines.proofs.Demand.{start_follows, undo_by}

-- what it does with a line and a room, where so many calls came before
abbrev pub Machine : Type 0
Machine = ℕ → State → List ℕ → ℕ → Outcome

-- it does what `step` says, on every state of a series
abbrev pub Exact : Series → Machine → Type 0
Exact k m = (n : ℕ) (s : State) → is_state s ≡ true → s.series ≡ k → (line : List ℕ) (room : ℕ) → m n s line room ≡ step s line room

-- how many calls came, the state, and what stands of them
pub record Counted : Type 0 where
  pub calls : ℕ
  pub state : State
  pub standing : List Mark

abbrev pub counts : Machine → Counted → Call → Exchange Counted
counts m f c =
    let o = m f.calls f.state c.line c.room in
    let ms = cond (is_accepted o.verdict) (mark f.standing (line_deed f.state.series c.line)) f.standing in
    record { left = record { calls = f.calls + 1; state = o.next; standing = ms }; reply = o.reply }

abbrev pub left_by : Machine → State → List Call → Counted
left_by m s cs = (session (counts m) (record { calls = 0; state = s; standing = stands_at s }) cs).left

-- demand 3, from a state: settings and stored values are those got by playing the unstruck changes in order, and an UNDO whose reply fits is accepted
-- exactly when one stands after the last KEEP
pub record PlaysFrom (s : State) (m : Machine) : Type 0 where
  pub contents : (cs : List Call) → contents_of (left_by m s cs).state ≡ play_all (start_of s) (left_by m s cs).standing
  pub undo : (cs : List Call) (line : List ℕ) (room : ℕ) → let f = left_by m s cs in
      is_ended line ≡ true → order_of (text_of line) ≡ Ok Undo → length (run f.state line).reply ≤ room
      → is_accepted (m f.calls f.state line room).verdict ≡ stands f.standing

-- from every state of a series
abbrev pub Plays : Series → Machine → Type 0
Plays k m = (s : State) → is_state s ≡ true → s.series ≡ k → PlaysFrom s m

-- a machine that goes as `step` does where something holds that lasts
module _ (m : Machine) (Holds : ℕ → State → Type 0)
    (goes : (n : ℕ) (s : State) → Holds n s → (line : List ℕ) (room : ℕ) → m n s line room ≡ step s line room)
    (lasts : (n : ℕ) (s : State) → Holds n s → (line : List ℕ) (room : ℕ) → Holds (n + 1) (step s line room).next) where
  abbrev Agrees : Counted → Followed → Type 0
  Agrees f g = (f.state ≡ g.state) × (f.standing ≡ g.standing) × Holds f.calls g.state

  agrees : (f : Counted) (g : Followed) (c : Call) → Agrees f g → Agrees (counts m f c).left (follows g c).left × ((counts m f c).reply ≡ (follows g c).reply)
  agrees f g c h =
      let s = g.state in
      let is : m f.calls f.state c.line c.room ≡ step s c.line c.room =
      ap (λ (t : State). m f.calls t c.line c.room) h.0 ∙ goes f.calls s h.2 c.line c.room
      in
      let marks : (counts m f c).left.standing ≡ (follows g c).left.standing =
      λ i. cond (is_accepted (is i).verdict) (mark (h.1 i) (line_deed (h.0 i).series c.line)) (h.1 i)
      in (
        (ap (λ (o : Outcome). o.next) is, marks, lasts f.calls s h.2 c.line c.room),
        ap (λ (o : Outcome). o.reply) is,
      )

  agreed : (s : State) → Holds 0 s → (cs : List Call) → Agrees (left_by m s cs) (session follows (begins s) cs).left
  agreed s h cs = (alike_calls (counts m) follows Agrees agrees (record { calls = 0; state = s; standing = stands_at s }) (begins s) cs (refl, refl, h)).0

  plays_from : (s : State) → is_state s ≡ true → Holds 0 s → PlaysFrom s m
  plays_from s is h =
      record {
        contents = λ cs.
            let g = agreed s h cs in
            let f = (session follows (begins s) cs).left in
            ap contents_of g.0 ∙ contents (start_of s) f.state f.standing (start_follows s is cs).1 ∙ ap (play_all (start_of s)) (sym g.1);
        undo = λ cs line room plain undo fits.
            let g = agreed s h cs in
            let n = (left_by m s cs).calls in
            let f = (session follows (begins s) cs).left in
            ap (λ (t : State). is_accepted (m n t line room).verdict) g.0
            ∙ ap (λ (o : Outcome). is_accepted o.verdict) (goes n f.state g.2 line room)
            ∙ undo_by line plain undo (start_of s) f.state f.standing (start_follows s is cs).1 room
            (subst (λ (t : State). length (run t line).reply ≤ room) g.0 fits)
            ∙ ap stands (sym g.1);
      }

pub exact_plays : (k : Series) (m : Machine) → Exact k m → Plays k m
exact_plays k m exact s is e =
    plays_from m (λ n t. (is_state t ≡ true) × (t.series ≡ k)) (λ n t h. exact n t h.0 h.1)
    (λ n t h line room. (step_state t line room h.0, step_series t line room ∙ h.1)) s is (is, e)

pub step_plays : (k : Series) → Plays k (λ n. step)
step_plays k = exact_plays k (λ n. step) (λ n s is e line room. refl)

-- lines that both series take
abbrev set_50 : List ℕ
set_50 = codes "SET/50/1\r"

abbrev set_71 : List ℕ
set_71 = codes "SET/71/1\r"

abbrev undo_line : List ℕ
undo_line = codes "UNDO\r"

-- what a line computes with
computing : Unit {0}
unfolding every starts_with number_from run_of seek rows100 rows300 session strike marks_back all_back play_all
computing = tt

-- room for the longest reply to one of these
abbrev enough : ℕ
enough = 7

-- what `step` does in a series' factory state
module _ (k : Series) (m : Machine) (exact : Exact k m) (line : List ℕ) where
  at_first : m 0 (factory_state k) line enough ≡ step (factory_state k) line enough
  at_first = exact 0 (factory_state k) (factory_is_state k) refl line enough

set_accepted : (k : Series) → is_accepted (step (factory_state k) set_50 enough).verdict ≡ true
unfolding computing
set_accepted Tps100 = refl
set_accepted Tps300 = refl

set_alters : (k : Series) → eqb (parameter_of k (factory_state k).settings 50) (parameter_of k (step (factory_state k) set_50 enough).next.settings 50) ≡ false
unfolding computing
set_alters Tps100 = refl
set_alters Tps300 = refl

empty_refused : (k : Series) → eqb (length (done ++ reply_end (factory_state k))) (length (step (factory_state k) [] enough).reply) ≡ false
unfolding computing
empty_refused Tps100 = refl
empty_refused Tps300 = refl

-- it refuses everything
pub refuses_all : (k : Series) (m : Machine) → ((n : ℕ) (s : State) (line : List ℕ) (room : ℕ) → is_accepted (m n s line room).verdict ≡ false) → Exact k m → ⊥
refuses_all k m none h =
    false≢true (sym (none 0 (factory_state k) set_50 enough) ∙ ap (λ (o : Outcome). is_accepted o.verdict) (at_first k m h set_50) ∙ set_accepted k)

done_fits : (k : Series) → length (done ++ reply_end (factory_state k)) ≤ enough
unfolding computing
done_fits Tps100 = omega arith
done_fits Tps300 = omega arith

-- it answers `?` to all where that fits, in the factory state at least
pub agrees_to_all : (k : Series) (m : Machine)
    → ((line : List ℕ) (room : ℕ) → let r = done ++ reply_end (factory_state k) in length r ≤ room → (m 0 (factory_state k) line room).reply ≡ r)
    → Exact k m → ⊥
agrees_to_all k m all h =
    eqb-false _ _ (empty_refused k) (ap length (sym (all [] enough (done_fits k)) ∙ ap (λ (o : Outcome). o.reply) (at_first k m h [])))

-- and so in every state, ended "as setting 73 said before the line"
pub agrees_everywhere : (k : Series) (m : Machine)
    → ((n : ℕ) (s : State) (line : List ℕ) (room : ℕ) → length (done ++ reply_end s) ≤ room → (m n s line room).reply ≡ done ++ reply_end s)
    → Exact k m → ⊥
agrees_everywhere k m all = agrees_to_all k m (all 0 (factory_state k))

-- it touches nothing
pub touches_nothing : (k : Series) (m : Machine) → ((n : ℕ) (s : State) (line : List ℕ) (room : ℕ) → (m n s line room).next ≡ s) → Exact k m → ⊥
touches_nothing k m none h =
    eqb-false _ _ (set_alters k)
    (ap (λ (s : State). parameter_of k s.settings 50)
    (sym (none 0 (factory_state k) set_50 enough) ∙ ap (λ (o : Outcome). o.next) (at_first k m h set_50)))

-- the same verdict and reply, and the state as it was
abbrev replies : State → Outcome → Outcome
replies s o = outcome o.verdict o.reply s

-- it touches nothing, though it answers as `step` does
abbrev pub idle : Machine
idle n s line room = replies s (step s line room)

-- it runs the first line, and only replies to the others
abbrev pub once : Machine
once n s line room = cond (eqb n 0) (step s line room) (replies s (step s line room))

abbrev is_undo : Deed → Bool
is_undo asks = false
is_undo (changes d) = false
is_undo undoes = true
is_undo keeps = false

-- its UNDO only replies
abbrev pub no_undo : Machine
no_undo n s line room = cond (is_undo (line_deed s.series line)) (replies s (step s line room)) (step s line room)

-- it begins with no undo entry, whatever list was loaded
abbrev pub forgets : Machine
forgets n s line room = step (cond (eqb n 0) (keep_of s) s) line room

calls : List (List ℕ) → List Call
calls [] = []
calls (line ∷ lines) = record { line = line; room = enough } ∷ calls lines

-- a setting on the two sides, by its number: as the lines left it, and as what stands of them, played anew, leaves it
module _ (k : Series) (m : Machine) (lines : List (List ℕ)) (n : ℕ) where
  abbrev came : ℕ
  came = parameter_of k (left_by m (factory_state k) (calls lines)).state.settings n

  abbrev wanted : ℕ
  wanted = parameter_of k (play_all (start_of (factory_state k)) (left_by m (factory_state k) (calls lines)).standing).settings n

  fails : eqb came wanted ≡ false → Plays k m → ⊥
  fails e h = eqb-false came wanted e (ap (λ (c : Contents). parameter_of k c.settings n) ((h (factory_state k) (factory_is_state k) refl).contents (calls lines)))

pub idle_fails : (k : Series) → Plays k idle → ⊥
unfolding calls computing
idle_fails Tps100 = fails Tps100 idle (set_50 ∷ []) 50 refl
idle_fails Tps300 = fails Tps300 idle (set_50 ∷ []) 50 refl

pub once_fails : (k : Series) → Plays k once → ⊥
unfolding calls computing
once_fails Tps100 = fails Tps100 once (set_50 ∷ set_71 ∷ []) 71 refl
once_fails Tps300 = fails Tps300 once (set_50 ∷ set_71 ∷ []) 71 refl

pub no_undo_fails : (k : Series) → Plays k no_undo → ⊥
unfolding calls computing
no_undo_fails Tps100 = fails Tps100 no_undo (set_50 ∷ undo_line ∷ []) 50 refl
no_undo_fails Tps300 = fails Tps300 no_undo (set_50 ∷ undo_line ∷ []) 50 refl

-- a state with one entry, of a SET, as a sheet may load it
abbrev loaded : Series → State
loaded k = (step (factory_state k) set_50 enough).next

loaded_undo : (k : Series) → is_accepted (forgets 0 (loaded k) undo_line enough).verdict ≡ stands (stands_at (loaded k)) → ⊥
unfolding computing
loaded_undo Tps100 e = false≢true e
loaded_undo Tps300 e = false≢true e

undo_fits : (k : Series) → length (run (loaded k) undo_line).reply ≤ enough
unfolding computing
undo_fits Tps100 = omega arith
undo_fits Tps300 = omega arith

pub forgets_fails : (k : Series) → Plays k forgets → ⊥
unfolding computing
forgets_fails k h =
    let s = factory_state k in
    loaded_undo k ((h (loaded k) (step_state s set_50 enough (factory_is_state k)) (step_series s set_50 enough)).undo [] undo_line enough refl refl (undo_fits k))

-- though from a state with no entry it is right
pub forgets_plays : (s : State) → is_state s ≡ true → s.count ≡ 0 → PlaysFrom s forgets
forgets_plays s is none =
    plays_from forgets (λ n t. cond (eqb n 0) (keep_of t) t ≡ t) (λ n t h line room. ap (λ (u : State). step u line room) h)
    (λ n t h line room. rw (ne_eqb (n + 1) 0 (omega arith))) s is (keep_none s is none)

-- what fails demand 3 isn't what `step` says either
pub inexact : (k : Series) (m : Machine) → (Plays k m → ⊥) → Exact k m → ⊥
inexact k m fails exact = fails (exact_plays k m exact)

pub once_inexact : (k : Series) → Exact k once → ⊥
once_inexact k = inexact k once (once_fails k)

pub no_undo_inexact : (k : Series) → Exact k no_undo → ⊥
no_undo_inexact k = inexact k no_undo (no_undo_fails k)
