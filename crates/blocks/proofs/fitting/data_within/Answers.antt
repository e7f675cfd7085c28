-- What `data_within` returns where the second part of wide data is judged, and where the first part is wrong.
use mathlib.Core.Path.{sym, ◌∙◌}
use Rattle.figures.specs.Bytes.{within}
use Rattle.blocks.proofs.Fit.{first_off, second_by}
use Rattle.blocks.proofs.fitting.data_within.Goals as goal

pub returns-else-not-wide : goal.returns-else-not-wide
returns-else-not-wide c =
    let a = c.args in
    rw c.if-not-wide.false
    (c.all_within-else-not-wide.ensures ∙ second_by (within a.low a.high) a.s.now (sym c.all_within.ensures ∙ c.if-all_within.true))

pub returns-else-all_within : goal.returns-else-all_within
returns-else-all_within c =
    let a = c.args in
    c.if-all_within.false ∙ sym (first_off (within a.low a.high) a.wide a.s.now (sym c.all_within.ensures ∙ c.if-all_within.false))
