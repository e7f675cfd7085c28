-- The room is as long as the word, and the word is all that is left.
use Rattle.std.proofs.Common.{◌≡◌, ◌∙◌, take, drop, replicate, length-drop, arith}
use lib.Seq.{take_all}
use Rattle.figures.proofs.Bytes.{laid_cut}
use Rattle.commands.proofs.Shape.{to_end}
use Rattle.lines.proofs.verdicts.word_of.Goals as goal

pub returns : goal.returns
returns c =
    let t = c.args.text.now in
    let all : take 16 (drop 4 t) ≡ drop 4 t = take_all 16 (drop 4 t) (omega (arith, length-drop 4 t)) in
    c.lay.ensures ∙ rw (to_end 4 t) (laid_cut (drop 4 t) (replicate 16 0) (omega (arith, length-drop 4 t)) ∙ all)
