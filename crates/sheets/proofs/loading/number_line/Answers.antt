-- `number_line` meets its contract: at each return the tests that led there judge the number.
use Rattle.std.proofs.Common.{sym, ◌∙◌}
use borrow.Author.Tests.{eq-eqb, ne_eqb}
use Rattle.figures.proofs.Tests.{and_on}
use Rattle.sheets.proofs.Takes.{byte_past, byte_is, number_not, number_is}
use Rattle.sheets.proofs.loading.number_line.Goals as goal
use Rattle.sheets.proofs.loading.number_line.Goals.{then-s-end-via-then-s-end, then-s-end-via-else-s-end+then-s-end-ne10}

pub returns-then-digits-digits_in-clause-taken : goal.returns-then-digits-digits_in-clause-taken
returns-then-digits-digits_in-clause-taken c =
    number_not c.args.s.now c.args.start c.said_at-number.result c.said_at-number.ensures.said 0
    (ne_eqb _ _ (λ e. c.if-digits-digits_in.true (e ∙ sym c.digits_in.ensures.0)))

pub returns-then-s-end-clause-taken : goal.returns-then-s-end-clause-taken
returns-then-s-end-clause-taken c =
    number_not c.args.s.now c.args.start c.said_at-number.result c.said_at-number.ensures.said 1
    (elim c.then-s-end.branch [
      | then-s-end-via-then-s-end w ↦ byte_past 10 _ _ w.if-s-end.true
      | then-s-end-via-else-s-end+then-s-end-ne10 w ↦ byte_is 10 _ _ w.if-s-end.false ∙ ne_eqb _ _ w.if-s-end-ne10.true
    ])

pub returns-clause-taken : goal.returns-clause-taken
returns-clause-taken c =
    let fewest = c.if-digits-digits_in.false ∙ c.digits_in.ensures.0 in
    number_is c.args.s.now c.args.start c.said_at-number.result c.said_at-number.ensures.said fewest
    (and_on (eq-eqb _ _ fewest) ∙ and_on (byte_is 10 _ _ c.if-s-end.false ∙ eq-eqb _ _ c.if-s-end-ne10.false))
