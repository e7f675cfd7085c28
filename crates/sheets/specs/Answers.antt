-- The sheet's answers: "Order: 31 (telling 0), then 40; for writing, 31, then 30"; moving back, 40, "then 41 .., then 30" (request 106).
use Rattle.std.specs.Prelude.{ℕ, Result, Ok, Err}
use Rattle.sheets.specs.declared.answers.SheetRefusal.{SheetRefusal}
use Rattle.sheets.specs.declared.answers.SheetRefusal.TheVariants.{NoState, Room, Wrong, Standing}

-- of writing and moving: the bytes written
abbrev pub Sheeted : Type 0
Sheeted = Result ℕ SheetRefusal

-- of loading
abbrev pub LoadAnswer : Type 0
LoadAnswer = Result (Unit {0}) SheetRefusal

abbrev pub refusal_number : SheetRefusal → ℕ
refusal_number NoState = 31
refusal_number Room = 30
refusal_number (Wrong at) = 40
refusal_number (Standing at) = 41

abbrev pub refusal_tells : SheetRefusal → ℕ
refusal_tells NoState = 0
refusal_tells Room = 0
refusal_tells (Wrong at) = at
refusal_tells (Standing at) = at

abbrev pub sheet_number : Sheeted → ℕ
sheet_number (Ok n) = 0
sheet_number (Err r) = refusal_number r

abbrev pub sheet_tells : Sheeted → ℕ
sheet_tells (Ok n) = n
sheet_tells (Err r) = refusal_tells r

-- a sheet that is loaded tells 0
abbrev pub told_of_load : LoadAnswer → Sheeted
told_of_load (Ok u) = Ok 0
told_of_load (Err r) = Err r
