-- The setting stands at that place of its series.
use Rattle.std.proofs.Common.{ℕ, not, eqb, ap, ◌∙◌, arith}
use Rattle.instrument.specs.Rows.{seek}
use Rattle.instrument.specs.Settings.{rows100, rows300}
use Rattle.lines.proofs.Lookups.{parameter_found}
use Rattle.lines.proofs.replies.ends_lf.Goals as goal

pub parameter-requires : goal.parameter-requires
unfolding rows100
parameter-requires c = rw c.in-Tps100.is (omega arith)

pub parameter-requires-in-Tps300 : goal.parameter-requires-in-Tps300
unfolding rows300
parameter-requires-in-Tps300 c = rw c.in-Tps300.is (omega arith)

pub returns-in-Tps100 : goal.returns-in-Tps100
unfolding seek rows100
returns-in-Tps100 c = ap (λ (p : ℕ). not (eqb p 0)) (c.parameter.ensures ∙ parameter_found c.args.image.judged 73 10 (rw c.in-Tps100.is))

pub returns-in-Tps300 : goal.returns-in-Tps300
unfolding seek rows300
returns-in-Tps300 c = ap (λ (p : ℕ). not (eqb p 0)) (c.parameter-in-Tps300.ensures ∙ parameter_found c.args.image.judged 73 9 (rw c.in-Tps300.is))
