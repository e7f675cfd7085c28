-- Text put into a room from a place on, as far as there is room.
use Rattle.std.specs.Prelude.{ℕ, ◌+◌, min, ◌≡◌, List, ◌++◌, length, take, drop}
use Rattle.figures.specs.Bytes.{laid}
use Rattle.figures.specs.declared.rooms.Room.{Room}

-- the room with the text from the place on
abbrev pub put_at : List ℕ → ℕ → List ℕ → List ℕ
put_at room at t = take at room ++ laid t (drop at room)

-- and where the next part begins
abbrev pub Puts : List ℕ → ℕ → List ℕ → ℕ → List ℕ → Type 0
Puts room at t r room' = (r ≡ min (at + length t) (length room)) × (room' ≡ put_at room at t)

-- the same of a room that has its place: the text is put into the bytes that were lent to it
pub record Fills (old : Room) (text : List ℕ) (new : Room) : Type 0 where
  pub puts : Puts old.bytes.now old.at text new.at new.bytes.now
  pub same : new.bytes.ghost_name ≡ old.bytes.ghost_name
