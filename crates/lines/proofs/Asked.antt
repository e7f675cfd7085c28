-- Settings that can only be asked for never change by a line: no SET of one is accepted, and no entry of one stands to be taken back.
use Prim.Native.Nat.{ℕ, zero, suc, ◌-◌, ◌<◌}
use mathlib.Core.Path.{◌≡◌, refl, sym, ap, ◌∙◌}
use mathlib.Core.Bool.{true, false, false≢true}
use mathlib.Core.List.{List}
use native.Mathlib.Omega.{arith}
use borrow.Author.Tests.{eq-eqb, ne_eqb}
use lib.ListN.{get_or}
use lib.Seq.{get_or-set_other}
use Rattle.instrument.specs.Settings.{row_at, is_asked}
use Rattle.instrument.specs.declared.settings.Series.{Series}
use Rattle.state.specs.Entries.{entries_n, contents_of, settings_back, is_state}
use Rattle.state.specs.declared.entries.Item.{Item}
use Rattle.state.specs.declared.entries.Item.TheVariants.{Free, Setting, Stored}
use Rattle.state.specs.declared.entries.Former.{Former}
use Rattle.state.specs.declared.entries.State.{State}
use Rattle.lines.specs.Orders.{newest, undo_of, set_to, put_to, Deed, asks, changes, undoes, keeps, line_deed, done_of}
use Rattle.lines.specs.Machine.{Outcome, step}
use Rattle.state.proofs.Steps.{state_parts, asked_never}
use Rattle.lines.proofs.Deeds.{May}
use Rattle.lines.proofs.Runs.{Comes, stays, runs, comes}

-- the parameter at a place
abbrev there : ℕ → State → ℕ
there i s = get_or s.settings i 0

module _ (k : Series) (i : ℕ) (asked : is_asked (row_at k i) ≡ true) where
  -- a place that can be SET is another
  apart : (j : ℕ) → is_asked (row_at k j) ≡ false → i ≡ j → ⊥
  apart j plain e = false≢true (sym plain ∙ ap (λ (n : ℕ). is_asked (row_at k n)) (sym e) ∙ asked)

  back_there : (t : Item) (f : Former) (l : List ℕ) → ((j : ℕ) → t ≡ Setting j → is_asked (row_at k j) ≡ false) → get_or (settings_back l t f) i 0 ≡ get_or l i 0
  back_there Free f l plain = refl
  back_there (Setting j) f l plain = get_or-set_other l j i f.parameter 0 (apart j (plain j refl))
  back_there (Stored j) f l plain = refl

undo_there : (i : ℕ) (s : State) → is_state s ≡ true → is_asked (row_at s.series i) ≡ true → there i (undo_of s) ≡ there i s
undo_there i s is asked = go s.count refl
  where
    go : (n : ℕ) → s.count ≡ n → there i (undo_of s) ≡ there i s
    go zero e = rw (eq-eqb s.count 0 e)
    go (suc n) e =
        let back = (state_parts entries_n s is).back in
        let below : s.count - 1 < s.count = omega arith in
        rw (ne_eqb s.count 0 (omega arith))
        (back_there s.series i asked (newest s).item (newest s).former s.settings
        (λ j. asked_never s.count (contents_of s) s.undo (s.count - 1) j back below))

done_there : (i : ℕ) (s : State) (d : Deed) → May s d → is_state s ≡ true → is_asked (row_at s.series i) ≡ true → there i (done_of s d) ≡ there i s
done_there i s asks m p asked = refl
done_there i s (changes (set_to j q)) m p asked = get_or-set_other s.settings j i q 0 (apart s.series i asked j m.1.1)
done_there i s (changes (put_to j k)) m p asked = refl
done_there i s undoes m p asked = undo_there i s p asked
done_there i s keeps m p asked = refl

next_there : (i : ℕ) (s : State) (line : List ℕ) (o : Outcome) → Comes s line o → is_state s ≡ true → is_asked (row_at s.series i) ≡ true → there i o.next ≡ there i s
next_there i s line o (stays v e) p asked = ap (there i) e
next_there i s line o (runs a m e) p asked = ap (there i) e ∙ done_there i s (line_deed s.series line) m p asked

pub asked_stays : (s : State) → is_state s ≡ true → (i : ℕ) → is_asked (row_at s.series i) ≡ true → (line : List ℕ) (room : ℕ)
    → get_or (step s line room).next.settings i 0 ≡ get_or s.settings i 0
asked_stays s is i asked line room = next_there i s line (step s line room) (comes s line room) is asked
