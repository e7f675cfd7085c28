-- The loop in `answer_from` keeps its invariant, and what each return is by what the step found.
use Prim.Native.Nat.{ℕ, ◌+◌, ◌-◌, ◌≤◌}
use mathlib.Core.Path.{◌≡◌, sym, ap, ◌∙◌}
use mathlib.Core.Bool.{Bool}
use mathlib.Core.List.{List, [], ◌∷◌, ◌++◌}
use native.Mathlib.Omega.{arith}
use lib.ListN.{length, drop, length-append}
use Rattle.std.specs.Prelude.{Result, Ok}
use Rattle.std.proofs.lemmas.Result.{err_from_is_err_and}
use Rattle.units.specs.declared.kinds.Family.{Family}
use Rattle.words.specs.Reading.{word_size, word_in, word_of}
use Rattle.words.specs.declared.records.Word.{Word}
use Rattle.blocks.specs.declared.answers.Refusal.{Refusal}
use Rattle.blocks.specs.declared.judging.Next.{Next}
use Rattle.blocks.specs.Judging.{Judgement, block_from}
use Rattle.blocks.specs.Keeping.{next_of}
use Rattle.blocks.proofs.Steps.{went, done, further, block_walk, walk_on, goes_inside}
use Rattle.blocks.proofs.judging.answer_from.Goals as goal

-- what the block is after the records ws, by what the step found
module _ (f : Family) (wide : Bool) (places n at : ℕ) (s : List ℕ) (ws : List Word) {r : Result Next Refusal} {j : Judgement}
    (found : r ≡ next_of f wide places n at (drop at s)) (most : n ≤ 32) (long : length ws ≡ n)
    (block : j ≡ block_from f (32 - n) wide places at (drop at s) ws) where
  walked : {t : Result Next Refusal} → r ≡ t → j ≡ went (done f wide places n at (drop at s) ws) (further f wide places n at (drop at s) ws) t
  walked is =
      block
      ∙ block_walk f wide places n at (drop at s) ws most long
      ∙ ap (went (done f wide places n at (drop at s) ws) (further f wide places n at (drop at s) ws)) (sym found ∙ is)

pub returns-in_err-step : goal.returns-in_err-step
returns-in_err-step c = λ vs h.
    let l = c.loop-n in
    let a = c.args in
    let p = err_from_is_err_and c.from_residual.result c.from_residual.ensures.1 in
    let (ws, long, block) = l.invariant.2 vs h in
    rw (walked a.family a.wide a.places l.n l.at a.s.now ws c.step.ensures l.invariant.0 long block c.in_err-step.was) (rw (p.1, p.2))

pub loop-n-preserved : goal.loop-n-preserved
loop-n-preserved c =
    let l = c.loop-n in
    let a = c.args in
    let is = c.in_ok-step.was ∙ ap Ok c.in-Goes.is in
    let goes = goes_inside a.family a.wide a.places l.n l.at a.s.now c.step.result c.step.ensures l.invariant.1 is in
    let size : c.width_of-size.result + 8 ≡ word_size a.wide = omega (arith, c.width_of-size.ensures) in
    let w = word_in (word_of a.family a.wide (drop l.at a.s.now)) in (
      omega (arith, goes.0),
      omega (arith, goes.1, size),
      λ vs h.
          let (ws, long, block) = l.invariant.2 vs h in
          let walk = walked a.family a.wide a.places l.n l.at a.s.now ws c.step.ensures l.invariant.0 long block is in
          let on =
          walk_on a.family (32 - (l.n + 1)) l.at (c.width_of-size.result + 8) a.wide a.places a.s.now (ws ++ (w ∷ [])) size in
          (ws ++ (w ∷ []), omega (arith, length-append ws (w ∷ []), long), walk ∙ on),
    )

pub returns : goal.returns
returns c = λ vs h.
    let l = c.loop-n in
    let a = c.args in
    let (ws, long, block) = l.invariant.2 vs h in
    let is = c.in_ok-step.was ∙ ap Ok c.in_default.is in
    rw (walked a.family a.wide a.places l.n l.at a.s.now ws c.step.ensures l.invariant.0 long block is) c.ended.ensures
