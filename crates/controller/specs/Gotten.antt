-- What a GET gives its reader: the records of the indexes, in the order of the line.
use Rattle.std.specs.Prelude.{ℕ, Bool, Option, Some, None}
use mathlib.Core.List.{List, [], ◌∷◌, flat_map}
use Rattle.words.specs.declared.records.Word.{Word}
use Rattle.instrument.specs.Values.{Kept, value_place}
use Rattle.state.specs.Entries.{value_held}
use Rattle.controller.specs.Given.{given}

abbrev pub record_at : Bool → List Kept → Option ℕ → List Word
record_at wide values None = []
record_at wide values (Some i) = given wide i (value_held values i) ∷ []

abbrev pub gotten : Bool → List Kept → List ℕ → List Word
gotten wide values = flat_map (λ n. record_at wide values (value_place n))
