-- The promises of this crate's public functions determine what comes out.
use mathlib.Core.List.{List}
use mathlib.Core.Path.{◌≡◌}
use Prim.Native.Nat.{ℕ}
use lib.ListN.{length}
use Rattle.std.proofs.Common.{Result}
use Rattle.figures.specs.Promises.{Determined}
use Rattle.figures.proofs.Determined.{by_equation, by_two, by_three}
use Rattle.units.specs.declared.kinds.Family.{Family}
use Rattle.blocks.specs.declared.answers.Refusal.{Refusal}
use Rattle.listings.specs.declared.edits.Edit.{Edit}
use Rattle.listings.specs.declared.mending.Mended.{Mended}
use Rattle.listings.specs.declared.walking.Walked.{Walked}
use Rattle.listings.specs.Mending.{Mending, mended}
use Rattle.listings.specs.Outcome.{outcome, listed, Mends}
use Rattle.listings.specs.Keeping.{kept_outcome, MendsBy}

-- an input, a room and a list go in; the answer, the room and the list come out
pub mend_determined : (f : Family)
    → Determined (List ℕ × List ℕ × List Edit) (Result Mended Refusal × (List ℕ × List Edit)) (λ i o. Mends f i.0 i.1 i.2 o.0 o.1.0 o.1.1)
mend_determined f =
    by_three (List ℕ × List ℕ × List Edit) (Result Mended Refusal) (List ℕ) (List Edit) (λ i. (outcome f i.0 i.1 (length i.2)).answer)
    (λ i. (outcome f i.0 i.1 (length i.2)).room) (λ i. listed (outcome f i.0 i.1 (length i.2)).edits i.2)

pub mend_by_determined : (f : Family) → Determined (List ℕ × ℕ × List ℕ) (Result Walked Refusal × List ℕ) (λ i o. MendsBy f i.0 i.1 i.2 o.0 o.1)
mend_by_determined f =
    by_two (List ℕ × ℕ × List ℕ) (Result Walked Refusal) (List ℕ) (λ i. kept_outcome (outcome f i.0 i.2 i.1)) (λ i. (outcome f i.0 i.2 i.1).room)

pub mend_unjudged_determined : Determined (List ℕ) Mending (λ s r. r ≡ mended s)
mend_unjudged_determined = by_equation (List ℕ) Mending mended

-- what `Edits` and `Unjudged` lend is what they are seen as
pub as_slice_determined : Determined (List Edit) (List Edit) (λ es r. r ≡ es)
as_slice_determined = by_equation (List Edit) (List Edit) (λ es. es)

pub bytes_determined : Determined Mending (List ℕ) (λ m r. r ≡ m.bytes)
bytes_determined = by_equation Mending (List ℕ) (λ m. m.bytes)

pub edits_determined : Determined Mending (List Edit) (λ m r. r ≡ m.edits)
edits_determined = by_equation Mending (List Edit) (λ m. m.edits)
