-- An index has the kind of one of the two parts, and the other part has none for it.
use Rattle.units.specs.Kinds.{station_kind}
use Rattle.units.proofs.Positions.{text_part, number_part}
use Rattle.units.proofs.kinds.station_kind.Goals as goal

pub returns-in-Missing : goal.returns-in-Missing
returns-in-Missing c = text_part (station_kind c.args.index) c.number_kind.ensures c.in-Missing.is c.text_kind.ensures

pub returns-in_default : goal.returns-in_default
returns-in_default c = number_part (station_kind c.args.index) c.number_kind.ensures c.in_default.not-Missing
