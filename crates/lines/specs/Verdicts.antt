-- Refusals 20 to 31, 38 and 39: "Order: 31, then 20 to 29 as numbered (GET judges its first index by 25 then 27, then the next likewise), then 30", with
-- 39 right after 22 and 38 right after 23. 30 and 31 have their number here, and are given by `reply_in_room` and `call` (Machine.antt).
use Rattle.std.specs.Prelude.{ℕ, ◌+◌, Bool, true, false, cond, eqb, leb, length, drop, Result, Ok, Err, Option, Some, None}
use mathlib.Core.List.{List, foldr}
use Rattle.figures.specs.Decimal.{are_digits}
use Rattle.units.specs.Kinds.{index_of}
use Rattle.words.specs.Reading.{Judged, fault_number, pos}
use Rattle.words.specs.declared.reading.Fault.{Fault}
use Rattle.instrument.specs.Settings.{row_at, setting_place, is_asked, in_range}
use Rattle.instrument.specs.Values.{Kept, value_place, put_judged, is_put}
use Rattle.state.specs.Entries.{entries_n, value_held}
use Rattle.instrument.specs.declared.settings.Series.{Series}
use Rattle.state.specs.declared.entries.State.{State}
use Rattle.commands.specs.Shapes.{is_ended, text_of, indexes_of, order_of}
use Rattle.commands.specs.declared.shapes.Order.{Order}
use Rattle.commands.specs.declared.shapes.Order.TheVariants as order
use Rattle.commands.specs.declared.shapes.NoOrder.{NoOrder}
use Rattle.commands.specs.declared.shapes.NoOrder.TheVariants.{WrongShape, NoKeyword}
use Rattle.lines.specs.declared.verdicts.Refused.{Refused}
use Rattle.lines.specs.declared.verdicts.Refused.TheVariants.{Unended, Long, Keyword, Shape, Setting, ReadOnly, Parameter}
use Rattle.lines.specs.declared.verdicts.Refused.TheVariants.{Index, Word, NeverPut, Full, NoEntry, Room, NoState}

-- a line is accepted, or refused
abbrev pub Verdict : Type 0
Verdict = Result (Unit {0}) Refused

abbrev pub accepted : Verdict
accepted = Ok tt

-- what a verdict tells: nothing of a line that is accepted, a PUT word's fault with the byte, or a refusal's number alone
pub data Sort : Type 0 where
  accepts : Sort
  faults : Fault → ℕ → Sort
  refuses : ℕ → Sort

abbrev pub sort_of : Verdict → Sort
sort_of (Ok u) = accepts
sort_of (Err Unended) = refuses 20
sort_of (Err Long) = refuses 21
sort_of (Err Keyword) = refuses 22
sort_of (Err Shape) = refuses 39
sort_of (Err Setting) = refuses 23
sort_of (Err ReadOnly) = refuses 38
sort_of (Err Parameter) = refuses 24
sort_of (Err Index) = refuses 25
sort_of (Err (Word fault byte)) = faults fault byte
sort_of (Err NeverPut) = refuses 27
sort_of (Err Full) = refuses 28
sort_of (Err NoEntry) = refuses 29
sort_of (Err Room) = refuses 30
sort_of (Err NoState) = refuses 31

abbrev pub sort_number : Sort → ℕ
sort_number accepts = 0
sort_number (faults fault byte) = 26
sort_number (refuses n) = n

abbrev pub verdict_number : Verdict → ℕ
verdict_number v = sort_number (sort_of v)

-- "26 also tells which of 6 to 10 it was, with the byte in the line" (request 104): something of its fault and its byte, and another thing of every other
-- verdict
abbrev pub of_fault : {A : Type 0} → (Fault → ℕ → A) → A → Sort → A
of_fault of other accepts = other
of_fault of other (faults fault byte) = of fault byte
of_fault of other (refuses n) = other

abbrev pub of_word : {A : Type 0} → (Fault → ℕ → A) → A → Verdict → A
of_word of other v = of_fault of other (sort_of v)

abbrev pub verdict_which : Verdict → ℕ
verdict_which v = of_word (λ fault byte. fault_number fault) 0 v

abbrev pub verdict_byte : Verdict → ℕ
verdict_byte v = of_word (λ fault byte. byte) 0 v

abbrev pub is_accepted : Verdict → Bool
is_accepted (Ok u) = true
is_accepted (Err r) = false

-- 28: "SET or PUT with 64 entries standing"
abbrev pub full_verdict : ℕ → Verdict
full_verdict count = cond (leb entries_n count) (Err Full) accepted

-- 23, 38, 24, 28; "38 for SET of a read-only number, after 23" (request 103)
abbrev pub set_by : State → ℕ → Option ℕ → Verdict
set_by s p None = Err Setting
set_by s p (Some i) = let row = row_at s.series i in cond (is_asked row) (Err ReadOnly) (cond (in_range row p) (full_verdict s.count) (Err Parameter))

abbrev pub set_verdict : State → ℕ → ℕ → Verdict
set_verdict s n p = set_by s p (setting_place s.series n)

-- 23
abbrev pub conf_by : Option ℕ → Verdict
conf_by None = Err Setting
conf_by (Some i) = accepted

abbrev pub conf_verdict : Series → ℕ → Verdict
conf_verdict k n = conf_by (setting_place k n)

-- the place of the stored value that two characters name
abbrev pub place_named : ℕ → ℕ → Option ℕ
place_named tens ones = cond (are_digits tens ones) (value_place (index_of tens ones)) None

-- 26 tells a byte of the line: the word starts after `PUT/`
abbrev pub word_verdict : ℕ → Judged → Verdict
word_verdict count (Ok u) = full_verdict count
word_verdict count (Err wrong) = Err (Word wrong.fault (4 + wrong.at))

-- 25, 26, 28
abbrev pub put_by : ℕ → List ℕ → Option ℕ → Verdict
put_by count word None = Err Index
put_by count word (Some i) = word_verdict count (put_judged i word)

abbrev pub put_verdict : ℕ → List ℕ → Verdict
put_verdict count word = put_by count word (place_named (pos 1 word) (pos 2 word))

-- 25, then 27
abbrev pub get_by : List Kept → Option ℕ → Verdict → Verdict
get_by values None next = Err Index
get_by values (Some i) next = cond (is_put (value_held values i)) next (Err NeverPut)

-- "GET judges its first index by 25 then 27, then the next likewise"
abbrev pub get_verdict : List Kept → List ℕ → Verdict
get_verdict values = foldr (λ n next. get_by values (value_place n) next) accepted

-- 29: "UNDO with none standing"
abbrev pub undo_verdict : ℕ → Verdict
undo_verdict count = cond (eqb count 0) (Err NoEntry) accepted

-- 39 and 22
abbrev pub refused_of : NoOrder → Refused
refused_of WrongShape = Shape
refused_of NoKeyword = Keyword

-- 22 to 29, 38 and 39
abbrev pub order_verdict : State → List ℕ → Result Order NoOrder → Verdict
order_verdict s t (Err none) = Err (refused_of none)
order_verdict s t (Ok (order.Set n p)) = set_verdict s n p
order_verdict s t (Ok (order.Conf n)) = conf_verdict s.series n
order_verdict s t (Ok order.Put) = put_verdict s.count (drop 4 t)
order_verdict s t (Ok order.Get) = get_verdict s.values (indexes_of t)
order_verdict s t (Ok order.Undo) = undo_verdict s.count
order_verdict s t (Ok order.Keep) = accepted

-- 20 to 29, 38 and 39; 21: "over 100 characters"
abbrev pub line_verdict : State → List ℕ → Verdict
line_verdict s line =
    cond (is_ended line) (cond (leb (length (text_of line)) 100) (order_verdict s (text_of line) (order_of (text_of line))) (Err Long)) (Err Unended)
