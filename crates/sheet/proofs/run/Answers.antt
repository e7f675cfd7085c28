-- What is printed of what was read is written.
use Rattle.std.proofs.Common.{refl, subst, take, arith, replicate}
use Rattle.std.specs.Io.KnownBytes.{Appends}
use Rattle.streams.specs.Written.{WritesStart}
use Rattle.sheet.proofs.Written.{sheet_out, room_read}
use Rattle.sheet.proofs.run.Goals as goal

pub returns-in_err-write_all-clause-plays : goal.returns-in_err-write_all-clause-plays
returns-in_err-write_all-clause-plays g c =
    let input = take c.fill-n.result.0 c.fill-n.new.room in
    let out = sheet_out input (replicate 352 0) c.play-k.new.room c.play-k.result refl c.play-k.ensures in
    (input, c.fill-n.ensures.bytes, subst (WritesStart _ _) out c.write_all.ensures.start)

pub returns-clause-plays : goal.returns-clause-plays
returns-clause-plays g c =
    let input = take c.fill-n.result.0 c.fill-n.new.room in
    let out = sheet_out input (replicate 352 0) c.play-k.new.room c.play-k.result refl c.play-k.ensures in
    (input, c.fill-n.ensures.bytes, subst (WritesStart _ _) out c.write_all.ensures.start)

pub returns-clause-whole : goal.returns-clause-whole
returns-clause-whole g c =
    let input = take c.fill-n.result.0 c.fill-n.new.room in
    let out = sheet_out input (replicate 352 0) c.play-k.new.room c.play-k.result refl c.play-k.ensures in
    room_read c.fill-n.result.1 _ _ c.fill-n.new.room c.fill-n.result.0 (Appends (g.W.Write.contents c.args.writer.now) (g.W.Write.contents c.write_all.new.writer))
    (omega arith) c.fill-n.ensures.in_bounds c.fill-n.ensures.bytes c.fill-n.ensures.end (subst (Appends _ _) out c.in_ok-write_all.ensures.whole)
