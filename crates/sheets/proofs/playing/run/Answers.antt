-- `run` meets its contract: a turn plays the piece that begins the rest.
use Rattle.std.proofs.Common.{replicate, refl, sym, ◌∙◌, arith}
use Rattle.sheets.specs.Playing.{reply_room}
use Rattle.sheets.proofs.Turns.{run_turn, run_none}
use Rattle.sheets.proofs.playing.run.Goals as goal

pub loop-at-smaller : goal.loop-at-smaller
loop-at-smaller c =
    let turn = run_turn c.args.input.now c.loop-at.image (replicate reply_room 0) c.line.new.image c.loop-at.at
    c.cut-n.result c.loop-at-test.true refl c.cut-n.ensures.0 c.line.ensures.1.0 in
    omega (arith, turn.0, turn.1.0)

pub loop-at-preserved : goal.loop-at-preserved
loop-at-preserved c =
    let turn = run_turn c.args.input.now c.loop-at.image (replicate reply_room 0) c.line.new.image c.loop-at.at
    c.cut-n.result c.loop-at-test.true refl c.cut-n.ensures.0 c.line.ensures.1.0 in
    record { within = turn.1.0; left = c.loop-at.invariant.left ∙ turn.1.1 }

pub returns : goal.returns
returns c = sym (c.loop-at.invariant.left ∙ run_none c.args.input.now c.loop-at.image c.loop-at.at c.loop-at-test.false)
