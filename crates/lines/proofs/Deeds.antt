-- What a line does leaves a state; and what a change adds UNDO takes back whole: settings, values, the undo list with its freed entry blank again, and
-- the count.
use Prim.Native.Nat.{ℕ, zero, suc, ◌+◌, ◌-◌, ◌<◌}
use mathlib.Core.Path.{◌≡◌, refl, sym, ap, ◌∙◌}
use mathlib.Core.Bool.{true, false, ◌&&◌}
use mathlib.Core.List.{List, [], ◌∷◌}
use native.Mathlib.Nat.{zero-add}
use native.Mathlib.Numerals.{add-one}
use native.Mathlib.Omega.{arith}
use borrow.Author.Tests.{eqb-true, eq-eqb, ne_eqb, lt-ltb}
use lib.Dec.{eqb}
use lib.ListN.{length, get_or, set, drop, replicate, length-set}
use lib.Seq.{get_or-set_same, set-set, set-get_or, drop-cons}
use Rattle.std.specs.Prelude.{None}
use Rattle.figures.proofs.Tests.{both}
use Rattle.instrument.specs.Settings.{row_at, held_rows, is_asked, in_range, in_ranges, settings_n}
use Rattle.instrument.specs.Values.{Kept, is_put, kept_right, values_n}
use Rattle.instrument.specs.declared.settings.Series.{Series}
use Rattle.instrument.proofs.Ranges.{place_row, ranges_long, held_rows_long, settings_few}
use Rattle.state.specs.Entries.{entries_n, blank_entry, is_blank, all_blank, Contents, contents_of, values_right, contents_right}
use Rattle.state.specs.Entries.{contents_back, may_go_back, is_state}
use Rattle.state.specs.declared.entries.Entry.{Entry}
use Rattle.state.specs.declared.entries.State.{State}
use Rattle.state.proofs.Steps.{all_of, state_parts, parts_state, ranges_set, values_set, back_now, back_newest, back_past, back_more, past_more, past_less, blank_is, none_state}
use Rattle.lines.specs.Orders.{state_with, Change, set_to, put_to, stores, entry_for, changed_by, undo_of, keep_of}
use Rattle.lines.specs.Orders.{Deed, asks, changes, undoes, keeps, done_of}

-- what an accepted line may rely on: a change is one that its rows have, with an entry free; an UNDO has one to take back

abbrev pub ChangeRight : Series → Change → Type 0
ChangeRight k (set_to i p) = (i < settings_n k) × (is_asked (row_at k i) ≡ false) × (in_range (row_at k i) p ≡ true)
ChangeRight k (put_to i w) = (i < values_n) × (is_put w ≡ true) × (kept_right i w ≡ true)

abbrev pub May : State → Deed → Type 0
May s asks = Unit {0}
May s (changes d) = (s.count < entries_n) × ChangeRight s.series d
May s undoes = s.count ≡ 0 → ⊥
May s keeps = Unit {0}

-- contents that are right, by their parts
pub record RightParts (c : Contents) : Type 0 where
  pub ranges : in_ranges (held_rows c.series) c.settings ≡ true
  pub values_long : length c.values ≡ values_n
  pub values_right_lem : values_right 0 c.values ≡ true

pub right_parts : (c : Contents) → contents_right c ≡ true → RightParts c
right_parts c e =
    let long = eqb (length c.values) values_n in
    let (ranges, values) = both (in_ranges (held_rows c.series) c.settings) (long && values_right 0 c.values) e in
    let (long-is, right_is) = both long (values_right 0 c.values) values in
    record { ranges = ranges; values_long = eqb-true (length c.values) values_n long-is; values_right_lem = right_is }

pub state_right : (s : State) → is_state s ≡ true → RightParts (contents_of s)
state_right s e = right_parts (contents_of s) (back_now s.count (contents_of s) s.undo (state_parts entries_n s e).back)

-- a change leaves them right

change_right : (c : Contents) (d : Change) → RightParts c → ChangeRight c.series d → contents_right (stores c d) ≡ true
change_right c (set_to i p) r m =
    let k = c.series in
    let inside : i < length c.settings = omega (arith, ranges_long (held_rows k) c.settings r.ranges, held_rows_long k, settings_few k) in
    all_of (ranges_set (held_rows k) c.settings i p r.ranges inside ∙ rw (place_row k i) m.2)
    (all_of (eq-eqb (length c.values) values_n r.values_long) r.values_right_lem)
change_right c (put_to i w) r m =
    all_of r.ranges
    (all_of (eq-eqb (length (set c.values i w)) values_n (length-set c.values i w ∙ r.values_long))
    (values_set 0 c.values i w r.values_right_lem (omega (arith, r.values_long)) ∙ rw zero-add m.2))

-- its entry may be taken back, and that gives what stood

change_may : (c : Contents) (d : Change) → RightParts c → ChangeRight c.series d → may_go_back (stores c d) (entry_for c d).item (entry_for c d).former ≡ true
change_may c (set_to i p) r m = all_of (all_of (lt-ltb i (settings_n c.series) m.0) (rw m.1)) refl
change_may c (put_to i w) r m =
    let held = get_or-set_same c.values i w None (omega (arith, r.values_long)) in
    all_of (all_of (lt-ltb i values_n m.0) (ap (λ (v : Kept). is_put v) held ∙ m.1)) refl

pub set_back : {A : Type 0} (l : List A) (i : ℕ) (a d : A) → set (set l i a) i (get_or l i d) ≡ l
set_back l i a d = set-set l i a (get_or l i d) ∙ set-get_or l i d

contents_back_lem : (c : Contents) (d : Change) → contents_back (stores c d) (entry_for c d) ≡ c
contents_back_lem c (set_to i p) = λ j. record { series = c.series; settings = set_back c.settings i p 0 j; values = c.values }
contents_back_lem c (put_to i w) = λ j. record { series = c.series; settings = c.settings; values = set_back c.values i w None j }

changed_state : (s : State) (d : Change) → is_state s ≡ true → May s (changes d) → is_state (changed_by s d) ≡ true
changed_state s d is m =
    let p = state_parts entries_n s is in
    let c = contents_of s in
    let e = entry_for c d in
    let inside : s.count < length s.undo = omega (arith, p.undo_long, m.0) in
    let r = state_right s is in
    parts_state entries_n (changed_by s d)
    (record {
      few = omega (arith, m.0);
      undo_long = length-set s.undo s.count e ∙ p.undo_long;
      past = rw add-one (past_more s.undo s.count inside e p.past);
      back = rw add-one
          (back_more s.count c (stores c d) s.undo e inside p.back (change_right c d r m.1) (change_may c d r m.1) (contents_back_lem c d));
    })

-- the newest taken back

pub undo_changed : (s : State) (d : Change) → is_state s ≡ true → s.count < entries_n → undo_of (changed_by s d) ≡ s
unfolding all_blank
undo_changed s d is free =
    let p = state_parts entries_n s is in
    let c = contents_of s in
    let e = entry_for c d in
    let u = s.undo in
    let n = s.count in
    let inside : n < length u = omega (arith, p.undo_long) in
    let x = get_or u n blank_entry in
    let q : n + 1 - 1 ≡ n = omega arith in
    let some : eqb (n + 1) 0 ≡ false = ne_eqb (n + 1) 0 (omega arith) in
    let last : get_or (set u n e) n blank_entry ≡ e = get_or-set_same u n e blank_entry inside in
    let blank = blank_is x (both (is_blank x) (all_blank (drop (suc n) u)) (rw (drop-cons u n blank_entry inside) at p.past)).0 in
    let freed : set (set u n e) n blank_entry ≡ u = ap (set (set u n e) n) (sym blank) ∙ set_back u n e blank_entry in
    rw (some, q, last) (λ j. state_with (contents_back_lem c d j) (freed j) n)

undo_state : (s : State) → is_state s ≡ true → is_state (undo_of s) ≡ true
undo_state s is = go s.count refl
  where
    go : (n : ℕ) → s.count ≡ n → is_state (undo_of s) ≡ true
    go zero e = rw (eq-eqb s.count 0 e) is
    go (suc n) e =
        let p = state_parts entries_n s is in
        let u = s.undo in
        let less : s.count - 1 ≡ n = omega arith in
        let inside : n < length u = omega (arith, p.undo_long, p.few) in
        let x = get_or u n blank_entry in
        let back = contents_back (contents_of s) x in
        let right = back_past n back u n blank_entry (omega arith) ∙ back_newest n (contents_of s) u (rw e at p.back) in
        rw (ne_eqb s.count 0 (omega arith), less)
        (parts_state entries_n (state_with back (set u n blank_entry) n)
        (record {
          few = omega (arith, p.few);
          undo_long = length-set u n blank_entry ∙ p.undo_long;
          past = past_less u n inside (rw e at p.past);
          back = right;
        }))

pub done_state : (s : State) (d : Deed) → is_state s ≡ true → May s d → is_state (done_of s d) ≡ true
done_state s asks is m = is
done_state s (changes d) is m = changed_state s d is m
done_state s undoes is m = undo_state s is
done_state s keeps is m =
    none_state s.series s.settings s.values (back_now s.count (contents_of s) s.undo (state_parts entries_n s is).back)

-- a KEEP of no entry leaves the state as it is

blanks_are : (u : List Entry) → all_blank u ≡ true → u ≡ replicate (length u) blank_entry
unfolding all_blank
blanks_are [] h = refl
blanks_are (e ∷ u) h =
    let (here, later) = both (is_blank e) (all_blank u) h in
    λ j. blank_is e here j ∷ blanks_are u later j

pub keep_none : (s : State) → is_state s ≡ true → s.count ≡ 0 → keep_of s ≡ s
keep_none s is none =
    let p = state_parts entries_n s is in
    let blank : s.undo ≡ replicate entries_n blank_entry =
    blanks_are s.undo (rw none at p.past) ∙ ap (λ (n : ℕ). replicate n blank_entry) p.undo_long
    in
    sym (λ j. state_with (contents_of s) (blank j) (none j))
