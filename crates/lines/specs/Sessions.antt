-- Calls in turn, each on what the one before it left: on a state, and on a lent image.
use Rattle.std.specs.Prelude.{ℕ, List, [], ◌∷◌, length, take}
use Rattle.state.specs.declared.entries.State.{State}
use Rattle.lines.specs.Machine.{step, call}

-- what one call leaves, and its reply
pub record Exchange (S : Type 0) : Type 0 where
  pub left : S
  pub reply : List ℕ

-- what all of them leave, and their replies in turn
pub record Session (S : Type 0) : Type 0 where
  pub left : S
  pub replies : List (List ℕ)

unfoldable pub session : {S C : Type 0} → (S → C → Exchange S) → S → List C → Session S
session play s [] = record { left = s; replies = [] }
session play s (c ∷ cs) =
    let here = play s c in
    let later = session play here.left cs in
    record { left = later.left; replies = here.reply ∷ later.replies }

-- a line, and the room that is lent for its reply
pub record Call : Type 0 where
  pub line : List ℕ
  pub room : ℕ

abbrev pub stepped : State → Call → Exchange State
stepped s c = let o = step s c.line c.room in record { left = o.next; reply = o.reply }

-- the state after some calls
abbrev pub after : State → List Call → State
after s cs = (session stepped s cs).left

-- a line, and the room's bytes that are lent for its reply
pub record Lent : Type 0 where
  pub line : List ℕ
  pub room : List ℕ

-- a call looks at the room's length alone
abbrev pub in_room : Lent → Call
in_room c = record { line = c.line; room = length c.room }

abbrev pub called : List ℕ → Lent → Exchange (List ℕ)
called image c = let r = call image c.line c.room in record { left = r.image; reply = take r.answer.count r.room }

-- the image after some calls
abbrev pub image_after : List ℕ → List Lent → List ℕ
image_after image cs = (session called image cs).left
