-- What `judge` returns where the words that are right end in a CR, and where they don't: a law of their run.
use Prim.Native.Nat.{ℕ, ◌+◌, ◌*◌, min}
use mathlib.Core.Path.{◌≡◌, sym, ap, ◌∙◌}
use mathlib.Core.Bool.{Bool}
use mathlib.Core.List.{List, []}
use lib.ListN.{drop}
use Rattle.std.specs.Prelude.{Result, Ok}
use Rattle.units.specs.declared.kinds.Family.{Family}
use Rattle.words.specs.Records.{width}
use Rattle.words.specs.Reading.{word_size}
use Rattle.blocks.specs.declared.answers.Refusal.{Refusal}
use Rattle.blocks.specs.Judging.{Judgement, first_at, block_from, judged}
use Rattle.blocks.specs.Keeping.{opened, Runs}
use Rattle.blocks.proofs.Steps.{on_open, judged_open}
use Rattle.blocks.proofs.Runs.{run_ends, run_from}
use Rattle.blocks.proofs.judging.judge.Goals as goal

-- a block that opens is its words
words : (f : Family) (s : List ℕ) (places start : ℕ) {wide : Bool} {o : Result Bool Refusal} → o ≡ opened s → o ≡ Ok wide → start ≡ first_at wide
    → (judged f s places).answer ≡ (block_from f 32 wide places start (drop start s) []).answer
words f s places start e is from =
    rw from
    (ap (λ (j : Judgement). j.answer)
    (judged_open f s places e ∙ ap (λ (o : Result Bool Refusal). on_open o (λ w. block_from f 32 w places (first_at w) (drop (first_at w) s) [])) is))

-- the run of right words, and the place after it
module _ (f : Family) (s : List ℕ) (wide : Bool) (places start n : ℕ) {most w : ℕ} (r : Runs f wide start most s n) (m : most ≡ min places 32)
    (e : w ≡ width wide) where
  runs : Runs f wide start (min places 32) s n
  runs = rw m at r

  at_is : start + n * (w + 8) ≡ start + n * word_size wide
  at_is = rw e

pub returns-then-is_at : goal.returns-then-is_at
returns-then-is_at c =
    let a = c.args in
    let wide = c.in_ok-wide.wide in
    let start = c.start_of-start.result in
    let run = runs a.family a.s.now wide a.places start c.run_of-n.result c.run_of-n.ensures c.min.ensures c.width_of.ensures in
    let is = at_is a.family a.s.now wide a.places start c.run_of-n.result c.run_of-n.ensures c.min.ensures c.width_of.ensures in
    let ends = run_ends a.family wide a.places start a.s.now _ _ run is (sym c.is_at.ensures ∙ c.if-is_at.true) in
    c.ended.ensures ∙ sym (words a.family a.s.now a.places start c.opened.ensures c.in_ok-wide.was c.start_of-start.ensures ∙ ends)

pub returns : goal.returns
returns c =
    let a = c.args in
    let wide = c.in_ok-wide.wide in
    let start = c.start_of-start.result in
    let run = runs a.family a.s.now wide a.places start c.run_of-n.result c.run_of-n.ensures c.min.ensures c.width_of.ensures in
    let is = at_is a.family a.s.now wide a.places start c.run_of-n.result c.run_of-n.ensures c.min.ensures c.width_of.ensures in
    let from = run_from a.family wide a.places start a.s.now _ _ run is _ c.answer_from.ensures in
    sym (words a.family a.s.now a.places start c.opened.ensures c.in_ok-wide.was c.start_of-start.ensures ∙ from)
