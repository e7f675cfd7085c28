-- What `put_digits` leaves of a wide word's room: sixteen digits are put by halves.
use mathlib.Core.Path.{ap, ◌∙◌}
use Rattle.words.specs.Records.{width}
use Rattle.blocks.proofs.Puts.{digit_halves}
use Rattle.blocks.proofs.digits.put_digits.Goals as goal

pub returns-then-wide : goal.returns-then-wide
returns-then-wide c =
    let a = c.args in
    rw c.if-wide.true
    (digit_halves a.out.now c.put_eight.new.out c.put_eight-then-wide.new.out 8 a.n (c.requires.0 ∙ ap width c.if-wide.true)
    c.put_eight.ensures c.put_eight-then-wide.ensures)
