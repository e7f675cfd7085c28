-- The promises of this crate's public functions determine what comes out.
use mathlib.Core.Path.{◌≡◌}
use mathlib.Core.Bool.{Bool}
use mathlib.Core.List.{List}
use Prim.Native.Nat.{ℕ}
use lib.ListN.{length}
use Rattle.figures.specs.Promises.{Determined}
use Rattle.figures.proofs.Determined.{by_equation, by_two}
use Rattle.units.specs.declared.kinds.Family.{Family}
use Rattle.words.specs.declared.records.Word.{Word}
use Rattle.blocks.specs.Answers.{refusal_number, refusal_tells}
use Rattle.blocks.specs.Judging.{first_at, judged, filled, Answer}
use Rattle.blocks.specs.Composing.{written, Writes, Wrote}
use Rattle.blocks.specs.Lists.{Reads}
use Rattle.blocks.specs.declared.answers.Refusal.{Refusal}

pub refusal_number_determined : Determined Refusal ℕ (λ i r. r ≡ refusal_number i)
refusal_number_determined = by_equation Refusal ℕ refusal_number

pub refusal_tells_determined : Determined Refusal ℕ (λ i r. r ≡ refusal_tells i)
refusal_tells_determined = by_equation Refusal ℕ refusal_tells

pub judge_determined : (f : Family) → Determined (List ℕ × ℕ) Answer (λ i r. r ≡ (judged f i.0 i.1).answer)
judge_determined f = by_equation (List ℕ × ℕ) Answer (λ i. (judged f i.0 i.1).answer)

pub answer_of_determined : (f : Family) → Determined (List ℕ) Answer (λ i r. r ≡ (judged f i 32).answer)
answer_of_determined f = by_equation (List ℕ) Answer (λ i. (judged f i 32).answer)

pub read_determined : (f : Family) → Determined (List ℕ × List Word) (Answer × List Word) (λ i o. Reads f i.0 i.1 o.0 o.1)
read_determined f =
    by_two (List ℕ × List Word) Answer (List Word) (λ i. (judged f i.0 (length i.1)).answer) (λ i. filled (judged f i.0 (length i.1)).words i.1)

pub write_determined : (f : Family)
    → Determined (List Word × Bool × Bool × List ℕ) (Wrote × List ℕ) (λ i o. Writes f i.0 i.1 i.2 i.3 o.0 o.1)
write_determined f =
    by_two (List Word × Bool × Bool × List ℕ) Wrote (List ℕ) (λ i. (written f i.0 i.1 i.2 i.3).answer)
    (λ i. (written f i.0 i.1 i.2 i.3).room)

pub start_of_determined : Determined Bool ℕ (λ i r. r ≡ first_at i)
start_of_determined = by_equation Bool ℕ first_at
