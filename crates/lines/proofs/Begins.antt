-- Any state follows what stands at it: its entries, taken back newest first, strike the changes that they count as, and leave what is played from.
use Prim.Native.Nat.{ℕ, zero, suc, ◌-◌, ◌<◌, ◌≤◌}
use mathlib.Core.Path.{◌≡◌, refl, sym, ap, subst, ◌∙◌}
use mathlib.Core.Bool.{true, false≢true}
use mathlib.Core.List.{List}
use native.Mathlib.Omega.{arith}
use borrow.Author.Tests.{ne_eqb}
use lib.ListN.{get_or, set}
use lib.Seq.{get_or-set_other}
use Rattle.std.specs.Prelude.{None}
use Rattle.state.specs.Entries.{entries_n, value_held, blank_entry, Contents, contents_of, contents_back, may_go_back, is_state}
use Rattle.state.specs.declared.entries.Item.{Item}
use Rattle.state.specs.declared.entries.Item.TheVariants.{Free, Setting, Stored}
use Rattle.state.specs.declared.entries.Former.{Former}
use Rattle.state.specs.declared.entries.Entry.{Entry}
use Rattle.state.specs.declared.entries.State.{State}
use Rattle.state.proofs.Steps.{state_parts, back_may}
use Rattle.lines.specs.Orders.{state_with, set_to, put_to, stores, undo_of, undoes}
use Rattle.lines.specs.Demand.{Mark, mark_of, marks_back, stands_at, all_back, start_of, play_all}
use Rattle.lines.proofs.Deeds.{set_back, done_state}
use Rattle.lines.proofs.Tracks.{Tracks, contents}

-- both turn on the first n entries alone

marks_past : (n : ℕ) (c : Contents) (u : List Entry) (j : ℕ) (e : Entry) → n ≤ j → marks_back n c (set u j e) ≡ marks_back n c u
unfolding marks_back
marks_past zero c u j e h = refl
marks_past (suc n) c u j e h =
    let x = get_or u n blank_entry in
    rw (get_or-set_other u j n e blank_entry (omega arith)) (ap (mark_of c x.item) (marks_past n (contents_back c x) u j e (omega arith)))

all_past : (n : ℕ) (c : Contents) (u : List Entry) (j : ℕ) (e : Entry) → n ≤ j → all_back n c (set u j e) ≡ all_back n c u
unfolding all_back
all_past zero c u j e h = refl
all_past (suc n) c u j e h = rw (get_or-set_other u j n e blank_entry (omega arith)) (all_past n (contents_back c (get_or u n blank_entry)) u j e (omega arith))

-- an entry counts as the change that stores again what stands before it is taken back
marks_tracks : (a : Contents) (s : State) (e : Entry) (ms : List Mark) → 0 < s.count → may_go_back (contents_of s) e.item e.former ≡ true
    → contents_of (undo_of s) ≡ contents_back (contents_of s) e → Tracks a (undo_of s) ms → Tracks a s (mark_of (contents_of s) e.item ms)
marks_tracks a s e ms some may is t = by e.item e.former may (sym is ∙ contents a (undo_of s) ms t)
  where
    c : Contents
    c = contents_of s

    by : (i : Item) (f : Former) → may_go_back c i f ≡ true → contents_back c (record { item = i; former = f }) ≡ play_all a ms → Tracks a s (mark_of c i ms)
    by Free f may q = absurd (false≢true may)
    by (Setting i) f may q =
        let d = set_to i (get_or c.settings i 0) in
        let again = set_back c.settings i f.parameter 0 in
        (some, (λ j. record { series = c.series; settings = sym again j; values = c.values }) ∙ ap (λ (b : Contents). stores b d) q, t)
    by (Stored i) f may q =
        let d = put_to i (value_held c.values i) in
        let again = set_back c.values i f.kept None in
        (some, (λ j. record { series = c.series; settings = c.settings; values = sym again j }) ∙ ap (λ (b : Contents). stores b d) q, t)

entries_track : (n : ℕ) (s : State) → s.count ≡ n → is_state s ≡ true → Tracks (all_back n (contents_of s) s.undo) s (marks_back n (contents_of s) s.undo)
unfolding marks_back all_back
entries_track zero s e is = (e, refl)
entries_track (suc n) s e is =
    let c = contents_of s in
    let u = s.undo in
    let x = get_or u n blank_entry in
    let back = contents_back c x in
    let r = state_with back (set u n blank_entry) n in
    let less : s.count - 1 ≡ n = omega arith in
    let undone : undo_of s ≡ r = rw (ne_eqb s.count 0 (omega arith), less) in
    let still = entries_track n r refl (subst (λ (t : State). is_state t ≡ true) undone (done_state s undoes is (omega arith))) in
    let others : Tracks (all_back n back u) r (marks_back n back u) =
    rw (all_past n back u n blank_entry (omega arith), marks_past n back u n blank_entry (omega arith)) at still
    in
    marks_tracks (all_back n back u) s x (marks_back n back u) (omega arith) (back_may n c u (rw e at (state_parts entries_n s is).back)) (ap contents_of undone)
    (subst (λ (t : State). Tracks (all_back n back u) t (marks_back n back u)) (sym undone) others)

pub state_tracks : (s : State) → is_state s ≡ true → Tracks (start_of s) s (stands_at s)
state_tracks s is = entries_track s.count s refl is
