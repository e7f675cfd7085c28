-- What a program's arguments ask for: `level` alone a level's file, no argument a total station's; anything else is answered with the usage.
use Rattle.std.specs.Prelude.{ℕ, cond, List, Option, Some, None, ltb}
use Rattle.figures.specs.Text.{codes}
use Rattle.figures.specs.Bytes.{same_bytes}
use Rattle.units.specs.declared.kinds.Family.{Family}
use Rattle.units.specs.declared.kinds.Family.TheVariants.{Station, Level}

abbrev pub asked_by : ℕ → List ℕ → Option Family
asked_by count word = cond (ltb count 2) (Some Station) (cond (ltb 2 count) None (cond (same_bytes word (codes "level")) (Some Level) None))
