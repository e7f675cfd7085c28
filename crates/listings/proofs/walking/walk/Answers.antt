-- `walking::walk` meets its contract: what it keeps is `Walking`, of which Walks has the laws.
use Rattle.std.proofs.Common.{arith, rules, refl, ◌≡◌, ℕ, ◌+◌, ◌-◌, min, Bool, true, sym, ◌∙◌, length, drop}
use mathlib.Core.Logic.{◌⊎◌, inl, inr}
use Rattle.figures.proofs.Putting.{fills_new}
use Rattle.words.specs.Records.{width}
use Rattle.blocks.proofs.Steps.{width_small}
use Rattle.listings.specs.Mending.{is_end}
use Rattle.listings.specs.Keeping.{one_if}
use Rattle.listings.proofs.Seen.{is_byte, one_most}
use Rattle.listings.proofs.Walks.{taken_by, taken_is, few_left, edits_more, no_more, rest_is, first_is, walk_start, walk_on, walk_end, start_back}
use Rattle.listings.proofs.walking.walk.Goals as goal
use Rattle.listings.proofs.walking.walk.Goals.{else-loop-test, then-loop-test+then-is_end}

-- the word's end, as the code counts it
toward : (wide lacks : Bool) (from width' one to size : ℕ) → width' ≡ width wide → one ≡ one_if lacks → to ≡ min size (from + width' + 7 - one)
    → to ≡ min (from + taken_by wide lacks) size
toward wide lacks from width' one to size wide-is one-is to_is = omega (arith, taken_is wide lacks width' wide-is, one_most lacks)

pub loop-init : goal.loop-init
loop-init c =
    let a = c.args in
    let wide = c.is_at-wide in
    let new = c.new-out.ensures in (
      rw c.none-edits.ensures
          (walk_start a.s.now a.room.now c.put.new.self.bytes.now wide.result c.put.new.self.at c.from-from.result c.requires
          (wide.ensures ∙ is_byte 42 a.s.now 0 (omega arith)) (c.from-from.ensures ∙ first_is wide.result) (fills_new new.bytes new.at c.put.ensures)),
      refl,
    )

pub add_if-requires-in-loop : goal.add_if-requires-in-loop
add_if-requires-in-loop c =
    let w = c.loop.invariant.0 in
    let going = rw (rest_is c.args.s.now c.loop.from) at (sym c.is_end.ensures ∙ c.if-is_end.false) in
    let lacks = c.lacks_dot-lacks.result in
    let added : length c.add_if.new.self ≡ length c.loop.edits + one_if lacks = rw c.add_if.ensures (edits_more c.loop.edits lacks (c.loop.from + 5) 1) in (
      omega (arith, few_left w going, one_most lacks, c.loop-test.true),
      omega (arith, w.behind, c.width_of-width.ensures, width_small c.is_at-wide.result),
    )

pub loop-preserved : goal.loop-preserved
loop-preserved c =
    let s = c.args.s.now in
    let l = c.loop in
    let wide = c.is_at-wide.result in
    let first = c.from-from in
    let new = c.new-out.ensures in
    let lacks = c.lacks_dot-lacks in
    let ends = c.is_end-stripped in
    let to = c.min-to in
    let begun =
    start_back s c.args.room.now c.put.new.self.bytes.now c.put.new.self.at first.result c.requires (omega (arith, first.ensures, one_most wide))
    (fills_new new.bytes new.at c.put.ensures) in
    let next : c.min-from.result ≡ min (to.result + 1 - one_if ends.result) (length s) = omega (arith, c.min-from.ensures, c.from-in-loop.ensures) in
    let blank = rw (c.blank.ensures, rest_is s to.result) at c.put-in-loop.ensures in (
      rw (c.add_if-in-loop.ensures, c.add_if.ensures)
          (walk_on l.invariant.0 (32 - (l.counter + 1)) (omega (arith, begun.0, c.requires)) (omega (arith, c.loop-test.true))
          (rw (rest_is s l.from) at (sym c.is_end.ensures ∙ c.if-is_end.false)) lacks.result ends.result to.result c.min-from.result
          (rw (rest_is s l.from) at (sym lacks.ensures))
          (toward wide lacks.result l.from c.width_of-width.result c.from.result to.result (length s) c.width_of-width.ensures c.from.ensures to.ensures)
          (rw (rest_is s to.result) at (sym ends.ensures)) next c.put_word.ensures.puts blank.puts),
      blank.same ∙ (c.put_word.ensures.same ∙ l.invariant.1),
    )

pub returns : goal.returns
returns c =
    let s = c.args.s.now in
    let l = c.loop in
    let first = c.from-from in
    let new = c.new-out.ensures in
    let begun =
    start_back s c.args.room.now c.put.new.self.bytes.now c.put.new.self.at first.result c.requires
    (omega (arith, first.ensures, one_most c.is_at-wide.result)) (fills_new new.bytes new.at c.put.ensures) in
    let over : (32 - l.counter ≡ 0) ⊎ (is_end (drop l.from s) ≡ true) =
    elim c.loop-test.branch [
      | else-loop-test w ↦ inl (omega (arith, w.loop-test.false))
      | then-loop-test+then-is_end w ↦ inr (rw (rest_is s l.from) at (sym w.is_end.ensures ∙ w.if-is_end.true))
    ] in
    let end = rw (c.ending.ensures, rest_is s l.from) at c.put-2.ensures in
    let all =
    walk_end l.invariant.0 c.args.room.now c.requires begun.0 begun.1 (no_more (32 - l.counter) (is_end (drop l.from s)) over) c.is_at.result
    (rw (rest_is s l.from) at c.is_at.ensures) end.puts in
    let same = end.same ∙ (l.invariant.1 ∙ (c.put.ensures.same ∙ new.same)) in
    rw c.add_if-2.ensures (search rules)
