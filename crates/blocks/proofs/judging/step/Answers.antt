-- What `step` returns where a word was read, and that what a wrong word tells is a byte of the word.
use Prim.Native.Nat.{ℕ, ◌-◌, ◌<◌, ◌≤◌}
use mathlib.Core.Path.{◌≡◌, sym, ap, ◌∙◌}
use mathlib.Core.Bool.{Bool, false}
use mathlib.Core.List.{List}
use native.Mathlib.Omega.{arith}
use borrow.Rule.Slice.PartMut.{mid_of}
use lib.ListN.{length, drop, length-drop}
use Rattle.units.specs.declared.kinds.Family.{Family}
use Rattle.words.specs.Reading.{OneWord, word_size, judged_in, word_of}
use Rattle.words.proofs.Told.{told_within}
use Rattle.blocks.specs.Judging.{is_at}
use Rattle.blocks.specs.Keeping.{next_of, step_of}
use Rattle.blocks.proofs.Steps.{next_word}
use Rattle.blocks.proofs.Runs.{part_all}
use Rattle.blocks.proofs.judging.step.Goals as goal

module _ (f : Family) (wide : Bool) (at : ℕ) (s : List ℕ) {one : OneWord} (e : one ≡ word_of f wide (mid_of at (length s - at) s)) where
  word : one ≡ word_of f wide (drop at s)
  word = e ∙ ap (word_of f wide) (part_all s at)

  -- where a word was read the step is by what the word is
  found : (places n : ℕ) {t : Bool} → t ≡ is_at 13 (drop at s) → t ≡ false → n < 32 → word_size wide ≤ length (drop at s) → n < places
      → next_of f wide places n at (drop at s) ≡ step_of at (judged_in one)
  found places n is off few long free =
      next_word f wide places n at (drop at s) (sym is ∙ off) few long free ∙ ap (λ (o : OneWord). step_of at (judged_in o)) (sym word)

pub overflow_add-result : goal.overflow_add-result
overflow_add-result c =
    let a = c.args in
    let left = length-drop a.at a.s.now in
    let is = word a.family a.wide a.at a.s.now c.read_word.ensures in
    let wrong = ap judged_in (sym is ∙ c.in-Err.is) in
    let byte = told_within a.family a.wide (drop a.at a.s.now) _ _ wrong in
    omega (arith, byte)

pub returns-in-Ok : goal.returns-in-Ok
returns-in-Ok c =
    let a = c.args in
    let left = length-drop a.at a.s.now in
    sym (found a.family a.wide a.at a.s.now c.read_word.ensures a.places a.count c.is_at.ensures c.if-is_at.false
    (omega arith) (omega arith) (omega arith) ∙ rw c.in-Ok.is)

pub returns-in-Err : goal.returns-in-Err
returns-in-Err c =
    let a = c.args in
    let left = length-drop a.at a.s.now in
    sym (found a.family a.wide a.at a.s.now c.read_word.ensures a.places a.count c.is_at.ensures c.if-is_at.false
    (omega arith) (omega arith) (omega arith) ∙ rw c.in-Err.is)
