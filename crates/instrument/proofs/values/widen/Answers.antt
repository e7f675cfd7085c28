-- The word's bytes spelt out, with the zeros among them.
use Rattle.std.proofs.Common.{◌≡◌, length, sym, ap, rules}
use Rattle.instrument.specs.Values.{widened}
use Rattle.instrument.proofs.Kept.{elements, elements_are}
use Rattle.instrument.proofs.values.widen.Goals as goal

pub returns : goal.returns
unfolding elements
returns c =
    let w = c.args.w in
    let long : length w ≡ 16 = search rules in
    ap widened (sym (elements_are 16 0 w long))
