-- The groups are the chunks of five bytes.
use Rattle.std.proofs.Common.{◌≡◌, ◌<◌, ◌∙◌, sym, true, false, length, arith, rules, lt-ltb}
use Rattle.std.proofs.lemmas.Iterator.Search.{all_from_yields_List}
use Rattle.commands.specs.Shapes.{group_right, groups_right, groups_in}
use Rattle.commands.proofs.Shape.{fives_come, groups_by, groups_over}
use Rattle.commands.proofs.shapes.get_order.Goals as goal
use Rattle.commands.proofs.shapes.get_order.Goals.{then-is_empty-via-then-is_empty, then-is_empty-via-else-is_empty+then-s-ne0, then-is_empty-via-else-is_empty+else-s-ne0+then-not-all}

pub returns-then-is_empty : goal.returns-then-is_empty
returns-then-is_empty c =
    let s = c.args.s.now in
    elim c.then-is_empty.branch [
      | then-is_empty-via-then-is_empty w ↦ grind arith
      | then-is_empty-via-else-is_empty+then-s-ne0 w ↦ grind (arith, groups_over s w.if-s-ne0.true)
      | then-is_empty-via-else-is_empty+else-s-ne0+then-not-all w ↦
          let chunks = w.chunks_exact.ensures in
          let all = all_from_yields_List group_right _ _ _ w.all.ensures.ran (fives_come s chunks.rest chunks.size w.if-s-ne0.false) (λ x b q k. search rules) in
          let wrong : groups_right (groups_in s) s ≡ false = sym (groups_by s w.if-s-ne0.false) ∙ sym all ∙ w.if-not-all.true in
          grind (arith, wrong)
    ]

pub returns : goal.returns
returns c =
    let s = c.args.s.now in
    let chunks = c.chunks_exact.ensures in
    let some : 0 < length s = grind arith in
    let all = all_from_yields_List group_right _ _ _ c.all.ensures.ran (fives_come s chunks.rest chunks.size c.if-s-ne0.false) (λ x b q k. search rules) in
    let right : groups_right (groups_in s) s ≡ true = sym (groups_by s c.if-s-ne0.false) ∙ sym all ∙ c.if-not-all.false in
    rw (lt-ltb 0 (length s) some, right)
