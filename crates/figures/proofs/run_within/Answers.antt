-- The first byte that isn't within ends the run of those that are.
use Rattle.std.proofs.Common.{ℕ, not, ◌≡◌, rules, tests}
use Rattle.std.specs.List.{position}
use Rattle.std.proofs.lemmas.Iterator.{YieldsList-from_slice}
use Rattle.std.proofs.lemmas.Iterator.Search.{position_from_yields_List}
use Rattle.figures.specs.Bytes.{within}
use Rattle.figures.proofs.Bytes.{run_first, not_not}
use Rattle.figures.proofs.run_within.Goals as goal

pub returns : goal.returns
returns c =
    let s = c.args.s.now in
    let test = λ (x : ℕ). not (within c.args.low c.args.high x) in
    let first : c.position.result ≡ position test s = position_from_yields_List test _ _ _ c.position.ensures.ran (YieldsList-from_slice s cc) (λ x b q k. search (rules, tests)) in
    run_first (within c.args.low c.args.high) test s (λ x. not_not (within c.args.low c.args.high x)) first c.unwrap_or.ensures
