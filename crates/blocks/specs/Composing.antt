-- Records to one block. "Writer order: 12, 13 (first such record), 14."
use Rattle.std.specs.Prelude.{ℕ, ◌+◌, ◌≡◌, Bool, cond, ◌||◌, List, [], ◌∷◌, ◌++◌, Result, Ok, Err, eqb, ltb, length}
use Rattle.figures.specs.Text.{end_bytes, star_bytes}
use Rattle.figures.specs.Bytes.{laid}
use Rattle.words.specs.Records.{is_right}
use Rattle.words.specs.Writing.{bytes_of}
use Rattle.units.specs.declared.kinds.Family.{Family}
use Rattle.words.specs.declared.records.Word.{Word}
use Rattle.blocks.specs.declared.answers.Refusal.{Refusal}
use Rattle.blocks.specs.declared.answers.Refusal.TheVariants.{Count, Record, Room}

-- the words one after the other
unfoldable pub words_bytes : Family → Bool → List Word → List ℕ
words_bytes f wide [] = []
words_bytes f wide (w ∷ ws) = bytes_of f wide w ++ words_bytes f wide ws

-- the bytes of a block
abbrev pub block_bytes : Family → Bool → Bool → List Word → List ℕ
block_bytes f wide crlf ws = star_bytes wide ++ (words_bytes f wide ws ++ end_bytes crlf)

-- 13 for the first record that no word of the family and width gives, counted from i; otherwise what comes then
unfoldable pub unless_wrong : {A : Type 0} → Family → Bool → ℕ → List Word → (ℕ → A) → A → A
unless_wrong f wide i [] wrong next = next
unless_wrong f wide i (w ∷ ws) wrong next = cond (is_right f wide w) (unless_wrong f wide (i + 1) ws wrong next) (wrong i)

-- the block's bytes, or a refusal
abbrev pub Wrote : Type 0
Wrote = Result ℕ Refusal

-- the answer, and the room as it is then
pub record Written·room : Type 0 where
  pub answer : Wrote
  pub room : List ℕ

-- "After a refusal the lent list and output are untouched."
abbrev pub refused_room : List ℕ → Refusal → Written·room
refused_room room r = record { answer = Err r; room = room }

-- "Written room beyond the block is untouched."
abbrev pub block_in_room : List ℕ → List ℕ → Written·room
block_in_room bytes room =
    cond (ltb (length room) (length bytes)) (refused_room room (Room (length bytes)))
    (record { answer = Ok (length bytes); room = laid bytes room })

abbrev pub written : Family → List Word → Bool → Bool → List ℕ → Written·room
written f ws wide crlf room =
    cond (eqb (length ws) 0 || ltb 32 (length ws)) (refused_room room Count)
    (unless_wrong f wide 0 ws (λ i. refused_room room (Record i)) (block_in_room (block_bytes f wide crlf ws) room))

-- what writing a list into a room comes to
abbrev pub Writes : Family → List Word → Bool → Bool → List ℕ → Wrote → List ℕ → Type 0
Writes f ws wide crlf room r room' = (r ≡ (written f ws wide crlf room).answer) × (room' ≡ (written f ws wide crlf room).room)
