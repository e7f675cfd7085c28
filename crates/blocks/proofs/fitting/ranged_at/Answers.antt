-- What `number_at` requires of an angle's data.
use mathlib.Core.Path.{sym, ◌∙◌}
use Rattle.figures.specs.Decimal.{is_digit}
use Rattle.words.specs.Reading.{data_in}
use Rattle.words.proofs.Letters.{one_right}
use Rattle.blocks.proofs.fitting.ranged_at.Goals as goal

pub number_at-requires : goal.number_at-requires
number_at-requires c =
    (c.requires.0, sym (one_right is_digit (data_in c.args.wide c.args.s.now)) ∙ rw c.in-Angle.is at c.requires.1)
