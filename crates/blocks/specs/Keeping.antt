-- How the code keeps what the other files define: a step of the walk through a block, what is taken from a right word's bytes, and a list on its way into the
-- room.
use Rattle.std.specs.Prelude.{ℕ, ◌+◌, ◌-◌, ◌*◌, ◌/◌, ◌%◌, ◌≤◌, ◌<◌, ◌≡◌, Bool, true, cond, not, ◌||◌, List, ◌∷◌, ◌++◌, Result, Ok, Err, unwrap_or, eqb, leb, ltb, length, take, drop}
use Rattle.std.specs.List.{position}
use Rattle.figures.specs.Bytes.{laid, every}
use Rattle.figures.specs.Text.{byte, cr, end_bytes}
use Rattle.figures.specs.Decimal.{is_digit, number_of, digits_of}
use Rattle.units.specs.Counts.{whole, value_at, angle_at, length_of}
use Rattle.units.specs.Information.{is_sign, sign_of, sign_byte}
use Rattle.words.specs.Records.{is_right}
use Rattle.words.specs.Reading.{word_size, pos, data_in, ppm_in, under_in, mm_in, figures_in, is_counted, count_or, word_of, Judged, judged_right, judged_in}
use Rattle.units.specs.declared.kinds.Family.{Family}
use Rattle.units.specs.declared.kinds.Kind.{Kind}
use Rattle.units.specs.declared.kinds.Kind.TheVariants as kind
use Rattle.units.specs.declared.counts.Count.{Count}
use Rattle.units.specs.declared.counts.Count.TheVariants as count
use Rattle.words.specs.declared.records.Word.{Word}
use Rattle.blocks.specs.declared.answers.Refusal.{Refusal}
use Rattle.blocks.specs.declared.answers.Refusal.TheVariants.{Empty, Wrong, NoWord, Count as Many, Record, Room}
use Rattle.blocks.specs.declared.judging.Next.{Next}
use Rattle.blocks.specs.declared.judging.Next.TheVariants.{Ends, Goes}
use Rattle.blocks.specs.Judging.{Answer, is_at, is_wide, at_start, first_at, block_from}
use Rattle.blocks.specs.Composing.{Wrote}
use Rattle.blocks.specs.Rules.{right_all}

-- whether a word of that kind whose data are right has a count, whatever its index and its sign
abbrev pub Ranges : Kind → Bool → List ℕ → Bool → Type 0
Ranges k wide s r = (i m : ℕ) → r ≡ is_counted (value_at k i (pos 6 s) m (figures_in k (data_in wide s)))

-- the width of a block's words, where it has any
abbrev pub opened : List ℕ → Result Bool Refusal
opened s = cond (eqb (length s) 0) (Err Empty) (cond (is_at cr (drop (first_at (is_wide s)) s)) (Err NoWord) (Ok (is_wide s)))

-- what one step of the walk through a block finds
abbrev pub step_of : ℕ → Judged → Result Next Refusal
step_of at (Ok u) = Ok Goes
step_of at (Err e) = Err (Wrong e.fault (at + e.at))

-- `block_walk`, in proofs/Steps.antt, shows that this is a step of `block_from`
abbrev pub next_of : Family → Bool → ℕ → ℕ → ℕ → List ℕ → Result Next Refusal
next_of f wide places n at rest = at_start (leb 32 n) (word_size wide) places n at rest (Ok Ends) Err (step_of at (judged_in (word_of f wide rest)))

-- the answer to a block by what stands from a place on, where so many words stand before it
abbrev pub AnswersFrom : Family → Bool → ℕ → ℕ → ℕ → List ℕ → Answer → Type 0
AnswersFrom f wide places start n s r = (ws : List Word) → length ws ≡ n → r ≡ (block_from f (32 - n) wide places start (drop start s) ws).answer

-- so many words from a place on are right
pub record Runs (f : Family) (wide : Bool) (start most : ℕ) (s : List ℕ) (n : ℕ) : Type 0 where
  pub few : n ≤ most
  pub inside : start + n * word_size wide ≤ length s
  pub right : (k : ℕ) → k < n → judged_in (word_of f wide (drop (start + k * word_size wide) s)) ≡ judged_right

-- what is taken from the bytes of a word whose data are digits, and of one with a pair
pub record DigitsRight (wide : Bool) (s : List ℕ) : Type 0 where
  pub long : word_size wide ≤ length s
  pub sign : is_sign (pos 7 s) ≡ true
  pub digits : every is_digit (data_in wide s) ≡ true

abbrev pub angle_in : Bool → List ℕ → Count
angle_in wide s = count_or (angle_at (pos 6 s) (sign_of (pos 7 s)) (number_of (data_in wide s)))

abbrev pub length_in : Bool → List ℕ → Count
length_in wide s = length_of (pos 6 s) (whole (sign_of (pos 7 s)) (number_of (data_in wide s)))

abbrev pub pair_in : ℕ → List ℕ → Count
pair_in m d = count.Pair (whole m (number_of (ppm_in d))) (whole (sign_of (under_in d)) (number_of (mm_in d)))

-- the figures of a number of that kind and unit: `figures_by_lem`, in proofs/Puts.antt, shows that they are `figures_of` of its count
abbrev pub figures_by : Kind → ℕ → ℕ → ℕ
figures_by kind.Missing u n = n
figures_by kind.Numbered u n = n
figures_by kind.Text u n = n
figures_by kind.Angle u n = cond (eqb u (byte "4")) (n / 36000 * 100000 + n / 600 % 60 * 1000 + n / 10 % 60 * 10 + n % 10) n
figures_by kind.Length u n = n
figures_by kind.Constant u n = n
figures_by kind.Pair u n = n

abbrev pub pair_bytes : ℕ → ℕ → ℕ → ℕ → List ℕ
pair_bytes k p s q = digits_of (k - 4) p ++ (sign_byte s ∷ digits_of 3 q)

-- how many records at the start of a list are right
abbrev pub right_run : Family → Bool → List Word → ℕ
right_run f wide l = unwrap_or (position (λ w. not (is_right f wide w)) l) (length l)

-- the bytes of a block of n words
abbrev pub size_of : ℕ → Bool → Bool → ℕ
size_of n wide crlf = first_at wide + n * word_size wide + cond crlf 2 1

-- the answer to a list, where the room has so many bytes
abbrev pub judged_list : Family → Bool → Bool → List Word → ℕ → Wrote
judged_list f wide crlf l room =
    cond (eqb (length l) 0 || ltb 32 (length l)) (Err Many)
    (cond (ltb (right_run f wide l) (length l)) (Err (Record (right_run f wide l)))
    (cond (ltb room (size_of (length l) wide crlf)) (Err (Room (size_of (length l) wide crlf))) (Ok (size_of (length l) wide crlf))))

-- bytes laid from a place on
abbrev pub laid_at : ℕ → List ℕ → List ℕ → List ℕ
laid_at at bytes room = take at room ++ laid bytes (drop at room)

-- the words of right records go into the room
pub record PutsFit (f : Family) (wide : Bool) (list : List Word) (room : List ℕ) : Type 0 where
  pub right : right_all f wide list ≡ true
  pub fits : first_at wide + length list * word_size wide ≤ length room

-- and so does the terminator, as the last of a block's bytes
abbrev pub EndsFit : ℕ → List ℕ → Type 0
EndsFit size room = (2 ≤ size) × (size ≤ length room)

abbrev pub ended_room : ℕ → Bool → List ℕ → List ℕ
ended_room size crlf room = laid_at (size - cond crlf 2 1) (end_bytes crlf) room
