-- The lent list: "reader fills and writer reads a lent slice of word structs".
use Rattle.std.specs.Prelude.{ℕ, ◌≡◌, List, length}
use Rattle.units.specs.declared.kinds.Family.{Family}
use Rattle.words.specs.declared.records.Word.{Word}
use Rattle.blocks.specs.Judging.{Answer, judged, filled}

-- what reading into a lent list comes to: the answer, and the list as it is then
abbrev pub Reads : Family → List ℕ → List Word → Answer → List Word → Type 0
Reads f s list r list' = (r ≡ (judged f s (length list)).answer) × (list' ≡ filled (judged f s (length list)).words list)
