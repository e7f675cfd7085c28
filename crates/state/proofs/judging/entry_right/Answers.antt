-- Past its tests an entry is right where its value's bytes are.
use Rattle.std.proofs.Common.{sym, ◌∙◌, arith}
use borrow.Author.Tests.{lt-ltb, ltb-true}
use Rattle.figures.proofs.Tests.{and_on}
use Rattle.state.proofs.Held.{entry_set, entry_put}
use Rattle.state.proofs.judging.entry_right.Goals as goal
use Rattle.state.proofs.judging.entry_right.Goals.{then-place-lt-VALUES, else-place-lt-VALUES}

pub returns-then-settable : goal.returns-then-settable
returns-then-settable c =
    let may = rw c.from-place.ensures at (sym c.settable.ensures ∙ c.if-settable.true) in
    c.all_within.ensures ∙ sym (entry_set c.args.series c.args.e.now c.requires c.in-1.is ∙ and_on may)

pub returns-then-e-eq0 : goal.returns-then-e-eq0
returns-then-e-eq0 c =
    let is = c.from-place.ensures in
    elim c.if-place-lt-VALUES.branch [
      | then-place-lt-VALUES w ↦
          rw is at c.value_right.ensures
          ∙ sym (entry_put c.args.series c.args.e.now c.requires c.in-2.is
          ∙ and_on (lt-ltb _ _ (rw is at w.if-place-lt-VALUES.true)) ∙ and_on (sym w.value-is ∙ c.if-e-eq0.true))
      | else-place-lt-VALUES w ↦ absurd (omega (arith, ltb-true _ _ (sym w.value-is ∙ c.if-e-eq0.true)))
    ]
