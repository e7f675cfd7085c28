-- What SET, PUT, UNDO and KEEP lay down is the image of the state that they leave: the item, one entry and the count, and nothing else.
use Prim.Native.Nat.{ℕ, suc, ◌+◌, ◌-◌, ◌<◌, ◌≤◌}
use mathlib.Core.Path.{◌≡◌, sym, ap, ◌∙◌, subst}
use mathlib.Core.Bool.{true, not, ◌&&◌, false≢true}
use mathlib.Core.List.{List}
use native.Mathlib.Omega.{arith}
use borrow.Author.Tests.{ltb-true, ne_eqb}
use lib.Dec.{eqb, ltb}
use lib.ListN.{set}
use Rattle.std.specs.Prelude.{Some}
use Rattle.figures.proofs.Tests.{both}
use Rattle.instrument.specs.Settings.{settings_n, row_at, is_asked}
use Rattle.instrument.specs.Values.{Kept, values_n, is_put}
use Rattle.instrument.specs.declared.settings.Series.{Series}
use Rattle.state.specs.Entries.{entries_n, value_held, blank_entry, is_never, contents_of, contents_back, may_go_back, is_state, right_back}
use Rattle.state.specs.Image.{image_of, state_in}
use Rattle.state.specs.Keeping.{Imaged, parameter_laid, value_laid, entry_laid, count_laid, cleared}
use Rattle.state.specs.declared.entries.Item.{Item}
use Rattle.state.specs.declared.entries.Item.TheVariants.{Free, Setting, Stored}
use Rattle.state.specs.declared.entries.Former.{Former}
use Rattle.state.specs.declared.entries.Entry.{Entry}
use Rattle.state.specs.declared.entries.State.{State}
use Rattle.state.proofs.Steps.{state_parts, back_may}
use Rattle.state.proofs.Images.{Shaped, shaped, image_of_lem}
use Rattle.state.proofs.Places.{with_contents, with_undo, parameter_laid_lem, value_laid_lem, entry_laid_lem, count_laid_lem, all_cleared}
use Rattle.state.proofs.Places.{parameter_shaped, value_shaped, entry_shaped, series_read}
use Rattle.lines.specs.Verdicts.{accepted}
use Rattle.lines.specs.Orders.{set_to, put_to, entry_for, changed_by, newest, taken_back, undo_of, keep_of}
use Rattle.lines.specs.Keeping.{back_laid}
use Rattle.words.specs.Reading.{pos}
use Rattle.instrument.specs.Settings.{setting_place}
use Rattle.instrument.proofs.Ranges.{range_byte}
use Rattle.lines.specs.Verdicts.{set_verdict, put_verdict, place_named}
use Rattle.lines.specs.Orders.{changes}
use Rattle.lines.proofs.Deeds.{May}
use Rattle.lines.proofs.Lookups.{setting_in, place_in}
use Rattle.lines.proofs.Runs.{set_may, put_runs}

-- an entry and the count, over an image with one item altered
listed : (s : State) → Shaped s → (n m : ℕ) (e : Entry) → n < entries_n
    → count_laid s.series m (entry_laid s.series n e (image_of s)) ≡ image_of (with_undo s (set s.undo n e) m)
listed s h n m e there =
    ap (count_laid s.series m) (entry_laid_lem s h n e there) ∙ count_laid_lem (with_undo s (set s.undo n e) s.count) (entry_shaped s h n e) m

module _ (s : State) (h : Shaped s) where
  abbrev laid_by : ℕ → ℕ → Entry → List ℕ → List ℕ
  laid_by n m e l = count_laid s.series m (entry_laid s.series n e l)

  setting_laid : (i p n m : ℕ) (e : Entry) → i < settings_n s.series → n < entries_n
      → laid_by n m e (parameter_laid i p (image_of s)) ≡ image_of (with_undo (with_contents s (set s.settings i p) s.values) (set s.undo n e) m)
  setting_laid i p n m e hi hn =
      ap (laid_by n m e) (parameter_laid_lem s h i p hi) ∙ listed (with_contents s (set s.settings i p) s.values) (parameter_shaped s h i p hi) n m e hn

  stored_laid : (i : ℕ) (w : Kept) (n m : ℕ) (e : Entry) → i < values_n → n < entries_n
      → laid_by n m e (value_laid s.series i w (image_of s))
      ≡ image_of (with_undo (with_contents s s.settings (set s.values i w)) (set s.undo n e) m)
  stored_laid i w n m e hi hn =
      ap (laid_by n m e) (value_laid_lem s h i w hi)
      ∙ listed (with_contents s s.settings (set s.values i w)) (value_shaped s h i w) n m e hn

  -- an item that has its former content again
  back_laid_lem : (t : Item) (f : Former) (n m : ℕ) (e : Entry) → may_go_back (contents_of s) t f ≡ true → n < entries_n
      → let c = contents_back (contents_of s) (record { item = t; former = f }) in
      laid_by n m e (back_laid s.series t f (image_of s)) ≡ image_of (with_undo (with_contents s c.settings c.values) (set s.undo n e) m)
  back_laid_lem Free f n m e may hn = absurd (false≢true may)
  back_laid_lem (Setting i) f n m e may hn =
      let there = ltb i (settings_n s.series) in
      let plain = not (is_asked (row_at s.series i)) in
      setting_laid i f.parameter n m e (ltb-true i _ (both there plain (both (there && plain) (is_never f.kept) may).0).0) hn
  back_laid_lem (Stored i) f n m e may hn =
      let there = ltb i values_n in
      let put = is_put (value_held s.values i) in
      stored_laid i f.kept n m e (ltb-true i _ (both there put (both (there && put) (eqb f.parameter 0) may).0).0) hn

-- on the image that is lent

module _ {k : Series} {l : List ℕ} (im : Imaged k l) where
  abbrev from : State
  from = state_in l

  is_state_lem : is_state from ≡ true
  is_state_lem = (image_of_lem l im.is).0

  lent : l ≡ image_of from
  lent = (image_of_lem l im.is).1

  kept : Shaped from
  kept = shaped from is_state_lem

  of : k ≡ from.series
  of = sym (series_read im)

  pub set_laid : (i p : ℕ) → i < settings_n k → from.count < entries_n
      → count_laid k (from.count + 1) (entry_laid k from.count (entry_for (contents_of from) (set_to i p)) (parameter_laid i p l)) ≡ image_of (changed_by from (set_to i p))
  set_laid i p hi hn =
      let e = entry_for (contents_of from) (set_to i p) in
      (λ j. count_laid (of j) (from.count + 1) (entry_laid (of j) from.count e (parameter_laid i p (lent j))))
      ∙ setting_laid from kept i p from.count (from.count + 1) e (subst (λ (x : Series). i < settings_n x) of hi) hn

  pub put_laid : (i : ℕ) (w : Kept) → i < values_n → from.count < entries_n
      → count_laid k (from.count + 1) (entry_laid k from.count (entry_for (contents_of from) (put_to i w)) (value_laid k i w l)) ≡ image_of (changed_by from (put_to i w))
  put_laid i w hi hn =
      let e = entry_for (contents_of from) (put_to i w) in
      (λ j. count_laid (of j) (from.count + 1) (entry_laid (of j) from.count e (value_laid (of j) i w (lent j))))
      ∙ stored_laid from kept i w from.count (from.count + 1) e hi hn

  pub undo_laid_lem : 0 < from.count
      → count_laid k (from.count - 1) (entry_laid k (from.count - 1) blank_entry (back_laid k (newest from).item (newest from).former l)) ≡ image_of (undo_of from)
  undo_laid_lem some =
      let n = from.count - 1 in
      let e = newest from in
      let parts = state_parts entries_n from is_state_lem in
      let q : from.count ≡ suc n = omega arith in
      let may : may_go_back (contents_of from) e.item e.former ≡ true = back_may n (contents_of from) from.undo (subst (λ (m : ℕ). right_back m (contents_of from) from.undo ≡ true) q parts.back) in
      let is : undo_of from ≡ taken_back from e = rw (ne_eqb from.count 0 (λ z. absurd (omega (arith, z)))) in
      (λ j. count_laid (of j) n (entry_laid (of j) n blank_entry (back_laid (of j) e.item e.former (lent j))))
      ∙ back_laid_lem from kept e.item e.former n n blank_entry may (omega (arith, parts.few))
      ∙ ap image_of (sym is)

  pub keep_laid : cleared k l ≡ image_of (keep_of from)
  keep_laid = (λ j. cleared (of j) (lent j)) ∙ all_cleared from is_state_lem

  -- what the code that does an accepted SET or PUT may rely on

  pub set_taken : (n p i : ℕ) → setting_place k n ≡ Some i → set_verdict from n p ≡ accepted → (i < settings_n k) × (from.count < entries_n) × (p ≤ 255)
  set_taken n p i e v =
      let at : setting_place from.series n ≡ Some i = ap (λ (t : Series). setting_place t n) (series_read im) ∙ e in
      let may : May from (changes (set_to i p)) = rw at at (set_may from n p v) in
      (setting_in k n i e, may.0, range_byte from.series i p may.1.2)

  pub put_taken : (word : List ℕ) (i : ℕ) → place_named (pos 1 word) (pos 2 word) ≡ Some i → put_verdict from.count word ≡ accepted
      → (i < values_n) × (from.count < entries_n)
  put_taken word i e v = (place_in (pos 1 word) (pos 2 word) i e, (put_runs from word v).free)
