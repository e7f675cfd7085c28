-- Past the last place stands a row of noughts.
use Rattle.std.proofs.Common.{refl, rules}
use Rattle.figures.specs.Decimal.{digits_nBy, digits_of}
use Rattle.instrument.specs.Settings.{rows300, no_row}
use Rattle.instrument.proofs.Seek.{past_place}
use Rattle.instrument.proofs.tps300.row_300.Goals as goal

pub returns-in_default : goal.returns-in_default
unfolding rows300 digits_nBy digits_of
returns-in_default c = past_place rows300 no_row 30 c.args.place refl (search rules)
