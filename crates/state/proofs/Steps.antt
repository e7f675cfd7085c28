-- How what a state is goes on: by its parts, with an item altered, with an entry more, and with the newest taken back.
use Prim.Native.Nat.{ℕ, zero, suc, ◌+◌, ◌<◌, ◌≤◌}
use mathlib.Core.Path.{◌≡◌, refl, sym, ap, ◌∙◌}
use mathlib.Core.Bool.{Bool, true, false, not, ◌&&◌, false≢true, and-true}
use mathlib.Core.List.{List, [], ◌∷◌}
use mathlib.Core.Logic.{⊎_elim}
use native.Mathlib.Nat.{add-zero, eq-or-lt_of_le}
use native.Mathlib.Omega.{arith}
use borrow.Author.Tests.{eqb-true, eq-eqb, leb-true, le-leb, not-true}
use lib.Dec.{eqb, leb, ltb}
use lib.ListN.{length, get_or, set, drop, replicate, length-replicate, length-set}
use lib.Seq.{drop-cons, drop-set-lt, get_or-set_same, get_or-set_other}
use Rattle.figures.proofs.Tests.{both, and_on}
use Rattle.instrument.specs.Settings.{settings_n, no_row, row_at, is_asked, in_range, in_ranges}
use Rattle.instrument.specs.Values.{Kept, kept_right}
use Rattle.instrument.specs.declared.settings.Row.{Row}
use Rattle.instrument.specs.declared.settings.Series.{Series}
use Rattle.std.specs.Prelude.{Some, None}
use Rattle.state.specs.Entries.{entries_n, entry_of, blank_entry, no_entries, is_never, is_blank, all_blank, Contents, contents_of, values_right, contents_right}
use Rattle.state.specs.Entries.{contents_back, may_go_back, right_back, is_state_of, is_state}
use Rattle.state.specs.declared.entries.Item.{Item}
use Rattle.state.specs.declared.entries.Item.TheVariants.{Free, Setting, Stored}
use Rattle.state.specs.declared.entries.Former.{Former}
use Rattle.state.specs.declared.entries.Entry.{Entry}
use Rattle.state.specs.declared.entries.State.{State}

pub all_of : {a b : Bool} → a ≡ true → b ≡ true → a && b ≡ true
all_of p q = rw p q

-- a state by its parts

pub record StateParts (capacity : ℕ) (s : State) : Type 0 where
  pub few : s.count ≤ capacity
  pub undo_long : length s.undo ≡ capacity
  pub past : all_blank (drop s.count s.undo) ≡ true
  pub back : right_back s.count (contents_of s) s.undo ≡ true

pub state_parts : (capacity : ℕ) (s : State) → is_state_of capacity s ≡ true → StateParts capacity s
state_parts capacity s e =
    let room = eqb (length s.undo) capacity in
    let past = all_blank (drop s.count s.undo) in
    let back = right_back s.count (contents_of s) s.undo in
    let (few, rest) = both (leb s.count capacity) (room && (past && back)) e in
    let (long, ends) = both room (past && back) rest in
    let (blank, right) = both past back ends in
    record {
      few = leb-true s.count capacity few;
      undo_long = eqb-true (length s.undo) capacity long;
      past = blank;
      back = right;
    }

pub parts_state : (capacity : ℕ) (s : State) → StateParts capacity s → is_state_of capacity s ≡ true
parts_state capacity s p =
    all_of (le-leb s.count capacity p.few) (all_of (eq-eqb (length s.undo) capacity p.undo_long) (all_of p.past p.back))

-- a parameter or a value altered

pub ranges_set : (rs : List Row) (ps : List ℕ) (i p : ℕ) → in_ranges rs ps ≡ true → i < length ps → in_ranges rs (set ps i p) ≡ in_range (get_or rs i no_row) p
unfolding in_ranges
ranges_set [] [] i p e h = absurd (omega arith)
ranges_set [] (q ∷ ps) i p e h = absurd (false≢true e)
ranges_set (r ∷ rs) [] i p e h = absurd (omega arith)
ranges_set (r ∷ rs) (q ∷ ps) zero p e h = rw ((both (in_range r q) (in_ranges rs ps) e).1, and-true)
ranges_set (r ∷ rs) (q ∷ ps) (suc i) p e h =
    let (here, later) = both (in_range r q) (in_ranges rs ps) e in
    and_on here ∙ ranges_set rs ps i p later (omega arith)

pub values_set : (k : ℕ) (vs : List Kept) (i : ℕ) (v : Kept) → values_right k vs ≡ true → i < length vs → values_right k (set vs i v) ≡ kept_right (k + i) v
unfolding values_right
values_set k [] i v e h = absurd (omega arith)
values_set k (w ∷ vs) zero v e h = rw ((both (kept_right k w) (values_right (k + 1) vs) e).1, and-true, add-zero)
values_set k (w ∷ vs) (suc i) v e h =
    let (here, later) = both (kept_right k w) (values_right (k + 1) vs) e in
    let q : k + suc i ≡ k + 1 + i = omega arith in
    and_on here ∙ rw q (values_set (k + 1) vs i v later (omega arith))

-- the entries taken back

pub back_now : (n : ℕ) (c : Contents) (u : List Entry) → right_back n c u ≡ true → contents_right c ≡ true
unfolding right_back
back_now zero c u e = e
back_now (suc n) c u e = (both (contents_right c) _ e).0

module _ (n : ℕ) (c : Contents) (u : List Entry) (e : right_back (suc n) c u ≡ true) where
  abbrev newest_in : Entry
  newest_in = get_or u n blank_entry

  taken : (may_go_back c newest_in.item newest_in.former ≡ true) × (right_back n (contents_back c newest_in) u ≡ true)
  unfolding right_back
  taken =
      let may = may_go_back c newest_in.item newest_in.former in
      let rest = right_back n (contents_back c newest_in) u in
      both may rest (both (contents_right c) (may && rest) e).1

  -- the newest may be taken back, and once it is the others are right
  pub back_may : may_go_back c newest_in.item newest_in.former ≡ true
  back_may = taken.0

  pub back_newest : right_back n (contents_back c newest_in) u ≡ true
  back_newest = taken.1

-- it turns on the first n alone
pub back_past : (n : ℕ) (c : Contents) (u : List Entry) (j : ℕ) (e : Entry) → n ≤ j → right_back n c (set u j e) ≡ right_back n c u
unfolding right_back
back_past zero c u j e h = refl
back_past (suc n) c u j e h =
    let x = get_or u n blank_entry in
    rw (get_or-set_other u j n e blank_entry (omega arith))
    (ap (λ (b : Bool). contents_right c && (may_go_back c x.item x.former && b)) (back_past n (contents_back c x) u j e (omega arith)))

-- an entry more, which gives back what was right
pub back_more : (n : ℕ) (c c' : Contents) (u : List Entry) (e : Entry) → n < length u → right_back n c u ≡ true → contents_right c' ≡ true
    → may_go_back c' e.item e.former ≡ true → contents_back c' e ≡ c → right_back (suc n) c' (set u n e) ≡ true
unfolding right_back
back_more n c c' u e h right now may is =
    rw (get_or-set_same u n e blank_entry h) (all_of now (all_of may (rw is (back_past n c u n e (omega arith) ∙ right))))

-- an entry of a setting that can only be asked for never stands
pub asked_never : (n : ℕ) (c : Contents) (u : List Entry) (i j : ℕ) → right_back n c u ≡ true → i < n → (get_or u i blank_entry).item ≡ Setting j
    → is_asked (row_at c.series j) ≡ false
asked_never zero c u i j e h is = absurd (omega arith)
asked_never (suc n) c u i j e h is =
    let below : i ≤ n = omega arith in
    ⊎_elim
    (λ last.
    let here : (get_or u n blank_entry).item ≡ Setting j = ap (λ (m : ℕ). (get_or u m blank_entry).item) (sym last) ∙ is in
    go (get_or u n blank_entry).former (rw here at (back_may n c u e)))
    (λ less. asked_never n (contents_back c (get_or u n blank_entry)) u i j (back_newest n c u e) less is)
    (eq-or-lt_of_le below)
  where
    go : (f : Former) → may_go_back c (Setting j) f ≡ true → is_asked (row_at c.series j) ≡ false
    go f may =
        let there = ltb j (settings_n c.series) in
        let plain = not (is_asked (row_at c.series j)) in
        not-true _ (both there plain (both (there && plain) (is_never f.kept) may).0).1

-- there is one blank entry
pub blank_is : (e : Entry) → is_blank e ≡ true → e ≡ blank_entry
blank_is e = by e.item e.former.parameter e.former.kept
  where
    by : (i : Item) (p : ℕ) (k : Kept) → is_blank (entry_of i p k) ≡ true → entry_of i p k ≡ blank_entry
    by Free p None h = ap (λ (q : ℕ). entry_of Free q None) (eqb-true p 0 (both (eqb p 0) true h).0)
    by Free p (Some x) h = absurd (false≢true (both (eqb p 0) false h).1)
    by (Setting i) p k h = absurd (false≢true h)
    by (Stored i) p k h = absurd (false≢true h)

pub blank_at : (u : List Entry) (n i : ℕ) → all_blank (drop n u) ≡ true → n ≤ i → get_or u i blank_entry ≡ blank_entry
unfolding all_blank
blank_at [] n i e h = refl
blank_at (x ∷ u) zero zero e h = blank_is x (both (is_blank x) (all_blank u) e).0
blank_at (x ∷ u) zero (suc i) e h = blank_at u zero i (both (is_blank x) (all_blank u) e).1 (omega arith)
blank_at (x ∷ u) (suc n) zero e h = absurd (omega arith)
blank_at (x ∷ u) (suc n) (suc i) e h = blank_at u n i e (omega arith)

-- the entries past the count

module _ (u : List Entry) (n : ℕ) (h : n < length u) where
  pub past_more : (e : Entry) → all_blank (drop n u) ≡ true → all_blank (drop (suc n) (set u n e)) ≡ true
  unfolding all_blank
  past_more e blank =
      let x = get_or u n blank_entry in
      rw (drop-set-lt (suc n) u n e (omega arith)) (both (is_blank x) (all_blank (drop (suc n) u)) (rw (drop-cons u n blank_entry h) at blank)).1

  pub past_less : all_blank (drop (suc n) u) ≡ true → all_blank (drop n (set u n blank_entry)) ≡ true
  unfolding all_blank
  past_less blank =
      let v = set u n blank_entry in
      rw (drop-cons v n blank_entry (rw length-set h), get_or-set_same u n blank_entry blank_entry h, drop-set-lt (suc n) u n blank_entry (omega arith)) blank

pub blanks : (n : ℕ) → all_blank (replicate n blank_entry) ≡ true
unfolding all_blank
blanks zero = refl
blanks (suc n) = blanks n

-- without an entry it is a state where what it holds is right
pub none_state : (k : Series) (settings : List ℕ) (values : List Kept) → contents_right (record { series = k; settings = settings; values = values }) ≡ true
    → is_state (no_entries k settings values) ≡ true
unfolding right_back
none_state k settings values e =
    parts_state entries_n (no_entries k settings values)
    (record { few = omega arith; undo_long = length-replicate {A = Entry} entries_n blank_entry; past = blanks entries_n; back = e })
