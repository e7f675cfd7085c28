-- What `read_listed` returns where the information and the sign are right.
use Rattle.std.proofs.Common.{arith, ◌≡◌, Some, sym, ◌∙◌}
use Rattle.words.proofs.Checks.{listed_read, data_part}
use Rattle.words.proofs.reading.read_listed.Goals as goal

pub returns : goal.returns
returns c =
    let a = c.args in
    let sign : c.sign_at.result ≡ Some c.in_ok-minus.minus = grind arith in
    c.read_data.ensures
    ∙ sym (listed_read a.family a.wide a.index a.kind a.s.now
    ∙ rw (← c.lead_of.ensures, ← c.info_right.ensures, c.if-not-info_right.false, ← c.sign_at.ensures, sign, ← data_part a.wide a.s.now _ c.width_of-end.ensures, ← c.width_of-end.ensures))
