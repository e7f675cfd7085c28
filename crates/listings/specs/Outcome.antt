-- "What can't be read afterwards is refused, nothing written. Refusals: the reader's number, its place counted in the mended bytes; then 14; then 11 where the
-- lent list is too short for the edits."
use Rattle.std.specs.Prelude.{ℕ, ◌≡◌, cond, List, [], ◌++◌, ltb, length, drop, Result, Ok, Err}
use Rattle.figures.specs.Bytes.{laid}
use Rattle.units.specs.declared.kinds.Family.{Family}
use Rattle.blocks.specs.Judging.{judged}
use Rattle.blocks.specs.declared.answers.Refusal.{Refusal}
use Rattle.blocks.specs.declared.answers.Refusal.TheVariants.{Room, NoPlace}
use Rattle.blocks.specs.Judging.{Answer}
use Rattle.listings.specs.declared.edits.Edit.{Edit}
use Rattle.listings.specs.declared.mending.Mended.{Mended}
use Rattle.listings.specs.Mending.{Mending, mended}

-- the answer, the room as it is then, and the edits that are told
pub record Outcome : Type 0 where
  pub answer : Result Mended Refusal
  pub room : List ℕ
  pub edits : List Edit

-- so many mended bytes and so many edits
abbrev pub mended_as : ℕ → ℕ → Result Mended Refusal
mended_as n k = Ok (record { bytes = n; edits = k })

abbrev pub refused_mend : List ℕ → Refusal → Outcome
refused_mend room r = record { answer = Err r; room = room; edits = [] }

-- by what the reader, with 32 places, answers of the mended bytes; so many places are lent for the edits
abbrev pub outcome_by : Answer → Mending → List ℕ → ℕ → Outcome
outcome_by (Err r) m room places = refused_mend room r
outcome_by (Ok k) m room places =
    cond (ltb (length room) (length m.bytes)) (refused_mend room (Room (length m.bytes)))
    (cond (ltb places (length m.edits)) (refused_mend room (NoPlace (length m.edits)))
    (record { answer = mended_as (length m.bytes) (length m.edits); room = laid m.bytes room; edits = m.edits }))

abbrev pub outcome : Family → List ℕ → List ℕ → ℕ → Outcome
outcome f s room places = outcome_by (judged f (mended s).bytes 32).answer (mended s) room places

-- the edits from the list's start; beyond them it is as before
abbrev pub listed : List Edit → List Edit → List Edit
listed es list = es ++ drop (length es) list

-- what mending into a lent room and a lent list comes to: the answer, the room and the list as they are then
abbrev pub Mends : Family → List ℕ → List ℕ → List Edit → Result Mended Refusal → List ℕ → List Edit → Type 0
Mends f s room list r room' list' =
    let o = outcome f s room (length list) in (r ≡ o.answer) × ((room' ≡ o.room) × (list' ≡ listed o.edits list))
