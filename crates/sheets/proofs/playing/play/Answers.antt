-- `play` meets its contract.
use Rattle.std.proofs.Common.{◌≡◌, ◌+◌, ℕ, List, replicate, sym, ap, ◌∙◌}
use Rattle.state.specs.Image.{rest_n, image_of}
use Rattle.state.proofs.Images.{image_100, encoded_fits}
use Rattle.pieces.specs.Pieces.{pieces}
use Rattle.sheets.specs.Keeping.{run_by}
use Rattle.sheets.proofs.Reached.{factory100, plays_printed, plays_short, plays_refused}
use Rattle.sheets.proofs.playing.play.Goals as goal

pub returns-then-room-lt14 : goal.returns-then-room-lt14
returns-then-room-lt14 c = plays_short c.args.input.now c.args.room.now c.if-input-gt-MOST.true c.if-room-lt14.true

pub returns-then-input-gt-MOST : goal.returns-then-input-gt-MOST
returns-then-input-gt-MOST c = plays_refused c.args.input.now c.args.room.now c.lay.new.room c.if-input-gt-MOST.true c.if-room-lt14.false c.lay.ensures

pub returns : goal.returns
returns c =
    let room : List ℕ = replicate (20 + rest_n) 0 in
    let first : c.put_factory.new.image ≡ image_of factory100 = c.put_factory.ensures ∙ encoded_fits factory100 room (sym image_100) in
    plays_printed c.args.input.now c.run.new.image c.args.room.now c.write.new.room c.write.result _ c.if-input-gt-MOST.false
    (c.run.ensures ∙ ap (run_by (pieces c.args.input.now)) first) c.write.ensures c.unwrap_or.ensures
