-- A turn of the loop takes an entry back.
use Rattle.std.proofs.Common.{Bool, List, sym, ap, ◌∙◌, arith, length-set}
use Rattle.state.specs.Keeping.{entries_lie}
use Rattle.state.proofs.Held.{turn_off, turn_set, turn_unput, turn_put, entries_none}
use Rattle.state.proofs.judging.entries_right.Goals as goal

pub returns-then-not-entry_right : goal.returns-then-not-entry_right
returns-then-not-entry_right c =
    let at = c.loop-n in
    let off = turn_off c.args.series at.n at.puts c.args.s.now c.requires.1.0 c.loop-n-test.true (omega arith) (sym c.entry_right.ensures ∙ c.if-not-entry_right.true) in
    sym (ap (λ (p : List Bool). entries_lie c.args.series c.args.count p c.args.s.now) (sym c.puts_in-puts.ensures) ∙ at.invariant.1 ∙ off)

pub returns-then-not-puts-place : goal.returns-then-not-puts-place
returns-then-not-puts-place c =
    let at = c.loop-n in
    let right = sym c.entry_right.ensures ∙ c.if-not-entry_right.false in
    let off = turn_unput c.args.series at.n at.puts c.args.s.now c.requires.1.0 c.loop-n-test.true (omega arith) right c.if-e-eq2.true c.from-place.result c.from-place.ensures
    c.if-not-puts-place.true in
    sym (ap (λ (p : List Bool). entries_lie c.args.series c.args.count p c.args.s.now) (sym c.puts_in-puts.ensures) ∙ at.invariant.1 ∙ off)

pub loop-n-preserved-then-e-eq2 : goal.loop-n-preserved-then-e-eq2
loop-n-preserved-then-e-eq2 c =
    let at = c.loop-n in
    let right = sym c.entry_right.ensures ∙ c.if-not-entry_right.false in
    let on = turn_put c.args.series at.n at.puts c.args.s.now c.requires.1.0 c.loop-n-test.true (omega arith) right c.if-e-eq2.true c.from-place.result c.from-place.ensures
    c.if-not-puts-place.false in
    (rw length-set at.invariant.0, at.invariant.1 ∙ on)

pub loop-n-preserved : goal.loop-n-preserved
loop-n-preserved c =
    let at = c.loop-n in
    let right = sym c.entry_right.ensures ∙ c.if-not-entry_right.false in
    (at.invariant.0, at.invariant.1 ∙ turn_set c.args.series at.n at.puts c.args.s.now c.requires.1.0 c.loop-n-test.true (omega arith) right c.if-e-eq2.false)

pub returns : goal.returns
returns c =
    let at = c.loop-n in
    let a = c.args in
    sym (ap (λ (p : List Bool). entries_lie a.series a.count p a.s.now) (sym c.puts_in-puts.ensures) ∙ at.invariant.1
    ∙ entries_none a.series at.n at.puts a.s.now c.loop-n-test.false)
