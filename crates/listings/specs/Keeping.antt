-- How the code keeps what the other files define: edits by value, and the mended bytes as the walk puts them.
use Rattle.std.specs.Prelude.{ℕ, ◌-◌, ◌≡◌, Bool, cond, List, [], ◌∷◌, ◌++◌, length, take, drop, Result, Ok, Err}
use Rattle.std.specs.Int.{from_bool}
use Rattle.figures.specs.Text.{codes}
use Rattle.figures.specs.Bytes.{laid}
use Rattle.units.specs.declared.kinds.Family.{Family}
use Rattle.blocks.specs.declared.answers.Refusal.{Refusal}
use Rattle.listings.specs.declared.edits.Edit.{Edit}
use Rattle.listings.specs.declared.walking.Walked.{Walked}
use Rattle.listings.specs.declared.mending.Mended.{Mended}
use Rattle.listings.specs.Edits.{edit}
use Rattle.listings.specs.Mending.{Mending, mended}
use Rattle.listings.specs.Outcome.{Outcome, outcome}

-- an edit where it is due, or none
abbrev pub edits_if : Bool → ℕ → ℕ → List Edit
edits_if due place kind = cond due (edit place kind ∷ []) []

abbrev pub one_if : Bool → ℕ
one_if is = from_bool is

-- the bytes from one place to another
abbrev pub part : ℕ → ℕ → List ℕ → List ℕ
part from to s = take (to - from) (drop from s)

-- a word with a dot put after its first five bytes, where it lacks one
abbrev pub dotted : Bool → List ℕ → List ℕ
dotted lacks word = cond lacks (take 5 word ++ (codes "." ++ drop 5 word)) word

-- what the walk through a block gives, and the room in which it puts the mended bytes
abbrev pub walked_of : Mending → Walked
walked_of m = record { bytes = length m.bytes; edits = m.edits }

abbrev pub Walks : List ℕ → List ℕ → Walked → List ℕ → Type 0
Walks s room r room' = (r ≡ walked_of (mended s)) × (room' ≡ laid (mended s).bytes room)

-- an outcome with its edits by value, or why it is refused
abbrev pub kept_by : Result Mended Refusal → List Edit → Result Walked Refusal
kept_by (Ok m) es = Ok (record { bytes = m.bytes; edits = es })
kept_by (Err r) es = Err r

abbrev pub kept_outcome : Outcome → Result Walked Refusal
kept_outcome o = kept_by o.answer o.edits

abbrev pub MendsBy : Family → List ℕ → ℕ → List ℕ → Result Walked Refusal → List ℕ → Type 0
MendsBy f s places room r room' = (r ≡ kept_outcome (outcome f s room places)) × (room' ≡ (outcome f s room places).room)
