-- The promises of this crate's public functions determine what comes out.
use mathlib.Core.Path.{◌≡◌}
use mathlib.Core.Bool.{Bool}
use mathlib.Core.List.{List}
use Prim.Native.Nat.{ℕ}
use Rattle.figures.specs.Promises.{Determined}
use Rattle.figures.proofs.Determined.{by_equation}
use Rattle.words.specs.Records.{width, blank, record_of, is_right, typed_of}
use Rattle.words.specs.Reading.{OneWord, fault_number, wrong_at, wrong_index, word_of}
use Rattle.words.specs.Keeping.{parted_at}
use Rattle.units.specs.declared.kinds.Family.{Family}
use Rattle.units.specs.declared.counts.Count.{Count}
use Rattle.words.specs.declared.records.Word.{Word}
use Rattle.words.specs.declared.reading.Fault.{Fault}
use Rattle.words.specs.declared.reading.Wrong.{Wrong}
use Rattle.units.specs.declared.kinds.Unindexed.{Unindexed}

pub blank_word_determined : Determined (Unit {0}) Word (λ i r. r ≡ blank)
blank_word_determined = by_equation (Unit {0}) Word (λ i. blank)

abbrev record_by : ℕ × (List ℕ × (Count × List ℕ)) → Word
record_by i = record_of i.0 i.1.0 i.1.1.0 i.1.1.1

pub record_of_determined : Determined (ℕ × (List ℕ × (Count × List ℕ))) Word (λ i r. r ≡ record_by i)
record_of_determined = by_equation (ℕ × (List ℕ × (Count × List ℕ))) Word record_by

pub right_determined : Determined (Word × (Family × Bool)) Bool (λ i r. r ≡ is_right i.1.0 i.1.1 i.0)
right_determined = by_equation (Word × (Family × Bool)) Bool (λ i. is_right i.1.0 i.1.1 i.0)

pub count_determined : Determined (Word × Family) Count (λ i r. r ≡ typed_of i.1 i.0)
count_determined = by_equation (Word × Family) Count (λ i. typed_of i.1 i.0)

pub fault_number_determined : Determined Fault ℕ (λ i r. r ≡ fault_number i)
fault_number_determined = by_equation Fault ℕ fault_number

pub new_determined : Determined (Fault × ℕ) Wrong (λ i r. r ≡ wrong_at i.0 i.1)
new_determined = by_equation (Fault × ℕ) Wrong (λ i. wrong_at i.0 i.1)

pub from_determined : Determined Unindexed Wrong (λ i r. r ≡ wrong_index i)
from_determined = by_equation Unindexed Wrong wrong_index

pub width_of_determined : Determined Bool ℕ (λ i r. r ≡ width i)
width_of_determined = by_equation Bool ℕ width

pub parted_at_determined : Determined ℕ Bool (λ b r. r ≡ parted_at b)
parted_at_determined = by_equation ℕ Bool parted_at

pub read_word_determined : Determined (List ℕ × (Family × Bool)) OneWord (λ i r. r ≡ word_of i.1.0 i.1.1 i.0)
read_word_determined = by_equation (List ℕ × (Family × Bool)) OneWord (λ i. word_of i.1.0 i.1.1 i.0)
