-- `goes_back` meets its contract: a turn takes an entry back.
use Rattle.std.proofs.Common.{◌-◌, ℕ, List, Bool, set, sym, ap, ◌∙◌, arith, rules}
use borrow.Author.Tests.{lt-ltb, le-ltb}
use lib.ListN.{length-set}
use Rattle.figures.proofs.Tests.{and_on, and_off}
use Rattle.instrument.specs.Values.{values_n}
use Rattle.state.specs.Keeping.{goes_back}
use Rattle.state.specs.declared.entries.Item.TheVariants.{Stored}
use Rattle.sheets.proofs.UndoTakes.{back_done, back_stored, back_other}
use Rattle.sheets.proofs.undo.goes_back.Goals as goal
use Rattle.sheets.proofs.undo.goes_back.Goals.{then-place-ge-VALUES-via-then-place-ge-VALUES, then-place-ge-VALUES-via-else-place-ge-VALUES+then-not-puts-place}

pub loop-n-init : goal.loop-n-init
loop-n-init c = record {
  whole = search rules;
  left = ap (λ (p : List Bool). goes_back c.args.count p c.args.entries.now) (sym c.puts_of-puts.ensures);
}

pub returns-then-place-ge-VALUES : goal.returns-then-place-ge-VALUES
returns-then-place-ge-VALUES c =
    let n = c.loop-n.n in
    let puts = c.loop-n.puts in
    let i = c.from-place.result in
    let u = c.args.entries.now in
    let stored = back_stored n puts u c.loop-n-test.true (c.in-Stored.is ∙ ap (λ (j : ℕ). Stored j) (sym c.from-place.ensures)) in
    elim c.then-place-ge-VALUES.branch [
      | then-place-ge-VALUES-via-then-place-ge-VALUES w ↦ sym (c.loop-n.invariant.left ∙ stored ∙ and_off _ (and_off _ (le-ltb i values_n w.if-place-ge-VALUES.true)))
      | then-place-ge-VALUES-via-else-place-ge-VALUES+then-not-puts-place w ↦
          sym (c.loop-n.invariant.left ∙ stored ∙ and_off _ (and_on (lt-ltb i values_n w.if-place-ge-VALUES.false) ∙ w.if-not-puts-place.true))
    ]

pub loop-n-preserved-in-Stored : goal.loop-n-preserved-in-Stored
loop-n-preserved-in-Stored c =
    let n = c.loop-n.n in
    let puts = c.loop-n.puts in
    let i = c.from-place.result in
    let u = c.args.entries.now in
    let stored = back_stored n puts u c.loop-n-test.true (c.in-Stored.is ∙ ap (λ (j : ℕ). Stored j) (sym c.from-place.ensures)) in
    let put = and_on (lt-ltb i values_n c.if-place-ge-VALUES.false) ∙ c.if-not-puts-place.false in
    record {
      whole = length-set puts i _ ∙ c.loop-n.invariant.whole;
      left = c.loop-n.invariant.left ∙ stored ∙ and_on put ∙ ap (λ (b : Bool). goes_back (n - 1) (set puts i b) u) (sym c.is_put.ensures);
    }

pub loop-n-preserved : goal.loop-n-preserved
loop-n-preserved c = record {
  whole = c.loop-n.invariant.whole;
  left = c.loop-n.invariant.left ∙ back_other c.loop-n.n c.loop-n.puts c.args.entries.now c.loop-n-test.true c.in_default.not-Stored;
}

pub returns : goal.returns
returns c = sym (c.loop-n.invariant.left ∙ back_done c.loop-n.n c.loop-n.puts c.args.entries.now (omega arith))
