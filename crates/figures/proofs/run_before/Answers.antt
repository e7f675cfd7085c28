-- The first such byte ends the run of the others.
use Rattle.std.proofs.Common.{ℕ, ◌≡◌, refl, rules, tests, eqb}
use Rattle.std.specs.List.{position}
use Rattle.std.proofs.lemmas.Iterator.{YieldsList-from_slice}
use Rattle.std.proofs.lemmas.Iterator.Search.{position_from_yields_List}
use Rattle.figures.specs.Bytes.{is_other}
use Rattle.figures.proofs.Bytes.{run_first}
use Rattle.figures.proofs.run_before.Goals as goal

pub returns : goal.returns
returns c =
    let s = c.args.s.now in
    let test = λ (x : ℕ). eqb x c.args.b in
    let first : c.position.result ≡ position test s = position_from_yields_List test _ _ _ c.position.ensures.ran (YieldsList-from_slice s cc) (λ x b q k. search (rules, tests)) in
    run_first (is_other c.args.b) test s (λ _. refl) first c.unwrap_or.ensures
