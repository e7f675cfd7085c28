-- The bytes of item and content are those that the two calls gave, spelt out.
use Rattle.std.proofs.Common.{◌≡◌, ◌∙◌, ◌∷◌, ◌++◌, length, rules}
use Rattle.state.proofs.Rows.{spelt}
use Rattle.state.proofs.laying.entry_bytes.Goals as goal

pub returns : goal.returns
returns c =
    let b = c.kept_bytes-b in
    let a = c.item_bytes-a in
    let p = c.args.entry.former.parameter in
    let two : length a.result ≡ 2 = search rules in
    let eleven : length b.result ≡ 11 = search rules in
    λ j. (spelt 0 2 a.result two ∙ a.ensures) j ++ (p ∷ (spelt 0 11 b.result eleven ∙ b.ensures) j)
