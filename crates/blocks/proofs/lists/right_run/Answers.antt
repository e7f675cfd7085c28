-- What `right_run` returns: the place of the first record that isn't right, or the list's length.
use Rattle.std.proofs.Common.{◌≡◌, ◌∙◌, rules, tests}
use Rattle.std.specs.Prelude.{not}
use Rattle.std.specs.List.{position}
use Rattle.std.proofs.lemmas.Iterator.{YieldsList-from_slice}
use Rattle.std.proofs.lemmas.Iterator.Search.{position_from_yields_List}
use Rattle.words.specs.Records.{is_right}
use Rattle.words.specs.declared.records.Word.{Word}
use Rattle.blocks.proofs.lists.right_run.Goals as goal

pub returns : goal.returns
returns c =
    let l = c.args.list.now in
    let test = λ (w : Word). not (is_right c.args.family c.args.wide w) in
    let first : c.position.result ≡ position test l =
    position_from_yields_List test _ _ _ c.position.ensures.ran (YieldsList-from_slice l cc) (λ x b q k. search (rules, tests)) in
    c.unwrap_or.ensures ∙ rw first
