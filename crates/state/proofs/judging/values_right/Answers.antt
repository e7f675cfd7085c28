-- A turn of the loop judges a value.
use Rattle.std.proofs.Common.{◌≡◌, ◌-◌, ◌*◌, ◌+◌, sym, ◌∙◌, arith, drop, take}
use Rattle.figures.proofs.Tests.{and_on, and_off}
use Rattle.instrument.specs.Values.{values_n}
use Rattle.state.specs.Image.{value_n}
use Rattle.state.specs.Keeping.{value_lies}
use Rattle.state.proofs.Held.{values_lie_lem, values_done}
use Rattle.state.proofs.judging.values_right.Goals as goal

pub returns-then-not-value_right : goal.returns-then-not-value_right
returns-then-not-value_right c =
    let at = c.loop-i in
    let w : at.i * 11 + 11 - at.i * 11 ≡ 11 = omega arith in
    let found : c.value_right.result ≡ value_lies at.i (take value_n (drop (at.i * value_n) c.args.s.now)) = c.value_right.ensures ∙ rw w in
    sym (at.invariant ∙ values_lie_lem values_n at.i c.args.s.now c.loop-i-test.true ∙ and_off _ (sym found ∙ c.if-not-value_right.true))

pub loop-i-preserved : goal.loop-i-preserved
loop-i-preserved c =
    let at = c.loop-i in
    let w : at.i * 11 + 11 - at.i * 11 ≡ 11 = omega arith in
    let found : c.value_right.result ≡ value_lies at.i (take value_n (drop (at.i * value_n) c.args.s.now)) = c.value_right.ensures ∙ rw w in
    at.invariant ∙ values_lie_lem values_n at.i c.args.s.now c.loop-i-test.true ∙ and_on (sym found ∙ c.if-not-value_right.false)

pub returns : goal.returns
returns c =
    let at = c.loop-i in
    sym (at.invariant ∙ values_done at.i (values_n - at.i) (drop (at.i * value_n) c.args.s.now) (omega arith))
