-- The setting stands at that place of its series; the other has none.
use Rattle.std.proofs.Common.{ℕ, not, eqb, ap, ◌∙◌, arith}
use Rattle.instrument.specs.Rows.{seek}
use Rattle.instrument.specs.Settings.{rows100, rows300}
use Rattle.state.proofs.Places.{series_read}
use Rattle.lines.proofs.Lookups.{parameter_found}
use Rattle.lines.proofs.replies.is_wide.Goals as goal

pub parameter-requires : goal.parameter-requires
unfolding rows300
parameter-requires c = rw c.in-Tps300.is (omega arith)

pub returns-in-Tps100 : goal.returns-in-Tps100
unfolding seek rows100
returns-in-Tps100 c = rw (series_read c.args.image.judged ∙ c.in-Tps100.is)

pub returns-in-Tps300 : goal.returns-in-Tps300
unfolding seek rows300
returns-in-Tps300 c = ap (λ (p : ℕ). not (eqb p 0)) (c.parameter.ensures ∙ parameter_found c.args.image.judged 137 25 (rw c.in-Tps300.is))
