-- Two digits and the information, or three and what is left of it.
use Rattle.std.proofs.Common.{◌≡◌, refl, ◌++◌, length, arith, rules, lt-ltb, le-ltb}
use lib.ListN.{drop, length-drop}
use lib.Seq.{take_all}
use Rattle.figures.specs.Text.{codes}
use Rattle.figures.specs.Decimal.{digits_of}
use Rattle.figures.proofs.Putting.{fills_as, fills_more}
use Rattle.measures.specs.Measures.{index_text}
use Rattle.measures.proofs.put_index.Goals as goal
use Rattle.measures.proofs.put_index.Goals.{then-index-lt100, else-index-lt100}

pub returns : goal.returns
returns c =
    let index = c.args.index in
    let info = c.args.info in
    let long : length info ≡ 4 = search rules in
    let rest = take_all 3 (drop 1 info) (omega (arith, length-drop 1 info)) in
    let d = c.if-index-lt100.digits in
    let text : digits_of d.0 index ++ (codes " info=" ++ d.1.now) ≡ index_text index info = elim c.if-index-lt100.branch [
      | then-index-lt100 w ↦ rw (w.digits-is, lt-ltb index 100 w.if-index-lt100.true) refl
      | else-index-lt100 w ↦ rw (w.digits-is, le-ltb index 100 (omega (arith, w.if-index-lt100.false)), rest) refl
    ] in
    fills_as (fills_more (rw c.from.ensures at c.put_digits.ensures) (fills_more c.put.ensures c.put-2.ensures)) text
