-- `put_mark` meets its contract: a blank is put in each turn, and after the blanks the caret.
use Prim.Native.Nat.{◌-◌, ◌+◌}
use mathlib.Core.Path.{◌≡◌}
use native.Mathlib.Omega.{arith}
use borrow.Author.Tests.{le-ltb, lt-ltb}
use Rattle.figures.proofs.Putting.{fills_more, fills_nothing, puts_within}
use Rattle.figures.proofs.Shown.{blanks_more}
use Rattle.errata.proofs.put_mark.Goals as goal

pub returns-then-place-done : goal.returns-then-place-done
returns-then-place-done c = rw (lt-ltb _ _ c.if-place-done.true) c.put.ensures

pub loop-init : goal.loop-init
loop-init c =
    let none : c.args.done - c.args.done ≡ 0 = omega arith in
    rw none (fills_nothing c.put.new.self (puts_within _ _ _ c.put.ensures.puts))

pub loop-preserved : goal.loop-preserved
loop-preserved c =
    let i = c.loop.counter in
    let done = c.args.done in
    let more : i + 1 - done ≡ i - done + 1 = omega arith in
    rw more (blanks_more (i - done) c.loop.invariant c.put-in-loop.ensures)

pub returns : goal.returns
returns c =
    let end : c.loop.counter ≡ c.args.place = omega arith in
    rw (le-ltb _ _ c.if-place-done.false) (fills_more c.put.ensures (fills_more (rw end at c.loop.invariant) c.put-2.ensures))
