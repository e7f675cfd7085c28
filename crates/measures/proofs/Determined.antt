-- The promises of this crate's public functions determine what comes out.
use Prim.Native.Nat.{ℕ}
use mathlib.Core.Bool.{Bool}
use mathlib.Core.List.{List}
use Rattle.figures.specs.Promises.{Determined}
use Rattle.figures.proofs.Determined.{put_determined}
use Rattle.figures.specs.Rooms.{Puts}
use Rattle.units.specs.declared.kinds.Family.{Family}
use Rattle.words.specs.declared.records.Word.{Word}
use Rattle.measures.specs.Measures.{index_text, value_text}

-- a room, a place in it and what is shown go in; the next place and the room come out
pub put_index_determined : Determined (List ℕ × ℕ × ℕ × List ℕ) (ℕ × List ℕ) (λ i o. Puts i.0 i.1 (index_text i.2 i.3) o.0 o.1)
put_index_determined i = put_determined (i.0, i.1, index_text i.2 i.3)

pub put_value_determined : Determined (List ℕ × ℕ × Family × Bool × Word) (ℕ × List ℕ)
    (λ i o. Puts i.0 i.1 (value_text i.2 i.3 i.4) o.0 o.1)
put_value_determined i = put_determined (i.0, i.1, value_text i.2 i.3 i.4)
