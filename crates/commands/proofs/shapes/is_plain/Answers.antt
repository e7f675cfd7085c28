-- No byte is CR and none is LF.
use Rattle.std.proofs.Common.{ℕ, ◌&&◌, not, rules, tests, eqb}
use Rattle.std.proofs.lemmas.Iterator.{YieldsList-from_slice}
use Rattle.std.proofs.lemmas.Iterator.Search.{all_from_yields_List}
use Rattle.figures.proofs.Bytes.{every_is}
use Rattle.commands.proofs.shapes.is_plain.Goals as goal

pub returns : goal.returns
returns c =
    let s = c.args.s.now in
    let plain = λ (b : ℕ). not (eqb b 13) && not (eqb b 10) in
    rw (every_is plain s) (all_from_yields_List plain _ _ _ c.all.ensures.ran (YieldsList-from_slice s cc) (λ x b q k. search (rules, tests)))
