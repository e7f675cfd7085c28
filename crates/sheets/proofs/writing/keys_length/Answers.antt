-- `keys_length` meets its contract: what the rows' keys come to, by computation.
use Rattle.figures.specs.Decimal.{digits_of, digits_nBy}
use Rattle.instrument.specs.Settings.{rows100, rows300}
use Rattle.sheets.specs.Keeping.{keys_n}
use Rattle.sheets.proofs.writing.keys_length.Goals as goal

pub returns-in-Tps100 : goal.returns-in-Tps100
unfolding keys_n rows100 digits_of digits_nBy
returns-in-Tps100 c = rw c.in-Tps100.is

pub returns-in-Tps300 : goal.returns-in-Tps300
unfolding keys_n rows300 digits_of digits_nBy
returns-in-Tps300 c = rw c.in-Tps300.is
