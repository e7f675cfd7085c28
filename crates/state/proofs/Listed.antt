-- The undo list as entries that are each right by themselves: when they make a state, what a state's are, and how they are laid down one by one.
use Prim.Native.Nat.{ℕ, zero, suc, ◌+◌, ◌-◌, ◌<◌, ◌≤◌}
use mathlib.Core.Path.{◌≡◌, refl, sym, ap, ◌∙◌}
use mathlib.Core.Bool.{true, ◌&&◌, and-true}
use mathlib.Core.List.{List, ◌++◌}
use mathlib.Core.Logic.{⊎_elim}
use native.Mathlib.Nat.{eq-or-lt_of_le}
use native.Mathlib.Numerals.{add-one}
use native.Mathlib.Omega.{arith}
use borrow.Author.Tests.{eq-eqb, le-leb}
use lib.ListN.{length, get_or, take, replicate, length-append, length-replicate, get_or-append}
use lib.Seq.{take-suc, take-length, drop-append_seam, length-take-le}
use Rattle.figures.proofs.Tests.{both, and_on}
use Rattle.instrument.specs.declared.settings.Series.{Series}
use Rattle.instrument.specs.Values.{Kept}
use Rattle.state.specs.Entries.{entries_n, blank_entry, with_entries, no_entries, Contents, contents_of, contents_right, contents_back, may_go_back}
use Rattle.state.specs.Entries.{entry_right, right_back, is_state}
use Rattle.state.specs.Image.{image_of}
use Rattle.state.specs.Keeping.{puts_of, back_right, goes_back, entry_laid, count_laid}
use Rattle.state.specs.declared.entries.Entry.{Entry}
use Rattle.state.specs.declared.entries.State.{State}
use Rattle.state.proofs.Steps.{all_of, state_parts, back_now, back_may, back_newest, blanks}
use Rattle.state.proofs.Rows.{set_next}
use Rattle.state.proofs.Images.{Shaped}
use Rattle.state.proofs.Judged.{puts_back_lem, turn, step}
use Rattle.state.proofs.Places.{blank_past, entries_shaped, entry_laid_lem, count_laid_lem}

-- the first n entries are each right by themselves, in a series
abbrev pub EachRight : Series → ℕ → List Entry → Type 0
EachRight k n u = (i : ℕ) → i < n → entry_right k (get_or u i blank_entry) ≡ true

-- taken back, such entries leave what is right where none names a value then never put

back_goes : (n : ℕ) (c : Contents) (u : List Entry) → EachRight c.series n u → right_back n c u ≡ contents_right c && goes_back n (puts_of c.values) u
unfolding right_back goes_back
back_goes zero c u each = sym (and-true (contents_right c))
back_goes (suc n) c u each =
    let e = get_or u n blank_entry in
    let next = contents_back c e in
    let here = each n (omega arith) in
    rw (← puts_back_lem e.item e.former c.values)
    (step (contents_right c) true true (may_go_back c e.item e.former) (right_back n next u) true (back_right (puts_of c.values) e.item)
    (contents_right next) (goes_back n (puts_of next.values) u) (λ now. rw here at (turn c e.item e.former now))
    (back_goes n next u (λ i h. each i (omega arith))))

pub right_back_lem : (n : ℕ) (c : Contents) (u : List Entry) → contents_right c ≡ true → EachRight c.series n u
    → right_back n c u ≡ goes_back n (puts_of c.values) u
right_back_lem n c u now each = back_goes n c u each ∙ and_on now

-- those that may all be taken back are each right
pub back_each : (n : ℕ) (c : Contents) (u : List Entry) → right_back n c u ≡ true → EachRight c.series n u
back_each zero c u e i h = absurd (omega arith)
back_each (suc n) c u e i h =
    let x = get_or u n blank_entry in
    let next = contents_back c x in
    let later = back_newest n c u e in
    let below : i ≤ n = omega arith in
    ⊎_elim
    (λ last.
    let right = turn c x.item x.former (back_now (suc n) c u e) ∙ all_of (back_may n c u e) (back_now n next u later) in
    ap (λ (m : ℕ). entry_right c.series (get_or u m blank_entry)) last ∙ (both (entry_right c.series x) (back_right (puts_of c.values) x.item) right).0)
    (λ less. back_each n next u later i less)
    (eq-or-lt_of_le below)

-- a state, and its entries

pub entries_right : (s : State) → is_state s ≡ true → EachRight s.series s.count s.undo
entries_right s e = back_each s.count (contents_of s) s.undo (state_parts entries_n s e).back

pub entries_of_lem : (s : State) → is_state s ≡ true → s ≡ with_entries s.series s.settings s.values (take s.count s.undo)
entries_of_lem s e =
    let p = state_parts entries_n s e in
    let n : length (take s.count s.undo) ≡ s.count = length-take-le s.count s.undo (omega (arith, p.few, p.undo_long)) in
    let undo = blank_past s.undo s.count p.undo_long p.past in
    rw n (λ i. record { series = s.series; settings = s.settings; values = s.values; undo = undo i; count = s.count })

-- some entries, and blanks past them
full_long : (done : List Entry) (n : ℕ) → length done ≡ n → n ≤ entries_n → length (done ++ replicate (entries_n - n) blank_entry) ≡ entries_n
full_long done n long few = rw (length-append, length-replicate) (omega arith)

-- over contents that are right, entries that are make a state where they go back
pub with_entries_state : (k : Series) (settings : List ℕ) (values : List Kept) (entries : List Entry)
    → contents_right (record { series = k; settings = settings; values = values }) ≡ true → length entries ≤ entries_n → EachRight k (length entries) entries
    → is_state (with_entries k settings values entries) ≡ goes_back (length entries) (puts_of values) (with_entries k settings values entries).undo
with_entries_state k settings values entries now few each =
    let n = length entries in
    let past = replicate (entries_n - n) blank_entry in
    let u = entries ++ past in
    let c : Contents = record { series = k; settings = settings; values = values } in
    let same : EachRight k n u = λ i h. ap (entry_right k) (get_or-append entries past blank_entry i h) ∙ each i h in
    rw (le-leb n entries_n few, eq-eqb (length u) entries_n (full_long entries n refl few), drop-append_seam entries past, blanks (entries_n - n))
    (right_back_lem n c u now same)

-- laid down one by one: the first i entries, and no count yet
abbrev pub listed_to : Series → List ℕ → List Kept → List Entry → ℕ → State
listed_to k settings values entries i =
    record { series = k; settings = settings; values = values; undo = take i entries ++ replicate (entries_n - i) blank_entry; count = 0 }

module _ (k : Series) (settings : List ℕ) (values : List Kept) (h : Shaped (no_entries k settings values)) (entries : List Entry)
    (few : length entries ≤ entries_n) where
  pub listed_shaped : (i : ℕ) → i ≤ length entries → Shaped (listed_to k settings values entries i)
  listed_shaped i there =
      let n = length-take-le i entries there in
      entries_shaped (no_entries k settings values) h (listed_to k settings values entries i).undo 0 (full_long (take i entries) i n (omega arith)) (omega arith)

  pub listed_more : (i : ℕ) → i < length entries
      → entry_laid k i (get_or entries i blank_entry) (image_of (listed_to k settings values entries i)) ≡ image_of (listed_to k settings values entries (i + 1))
  listed_more i there =
      let e = get_or entries i blank_entry in
      let next = set_next (take i entries) i entries_n blank_entry e (length-take-le i entries (omega arith)) (omega arith) in
      entry_laid_lem (listed_to k settings values entries i) (listed_shaped i (omega arith)) i e (omega arith)
      ∙ rw (next, add-one i, take-suc entries i blank_entry there)

  pub listed_all : count_laid k (length entries) (image_of (listed_to k settings values entries (length entries))) ≡ image_of (with_entries k settings values entries)
  listed_all =
      let n = length entries in
      count_laid_lem (listed_to k settings values entries n) (listed_shaped n (omega arith)) n ∙ rw (take-length entries)
