-- "Refusing a block or a list": number and what it tells, for each answer.
use Rattle.std.specs.Prelude.{ℕ}
use Rattle.words.specs.Reading.{fault_number}
use Rattle.blocks.specs.declared.answers.Refusal.{Refusal}
use Rattle.blocks.specs.declared.answers.Refusal.TheVariants.{Empty, Wrong, NoWord, NoEnd, NoPlace, Count, Record, Room}

abbrev pub refusal_number : Refusal → ℕ
refusal_number Empty = 1
refusal_number (Wrong fault at) = fault_number fault
refusal_number NoWord = 3
refusal_number (NoEnd at) = 4
refusal_number (NoPlace at) = 11
refusal_number Count = 12
refusal_number (Record at) = 13
refusal_number (Room bytes) = 14

abbrev pub refusal_tells : Refusal → ℕ
refusal_tells Empty = 0
refusal_tells (Wrong fault at) = at
refusal_tells NoWord = 0
refusal_tells (NoEnd at) = at
refusal_tells (NoPlace at) = at
refusal_tells Count = 0
refusal_tells (Record at) = at
refusal_tells (Room bytes) = bytes
