-- The rules that a block keeps: what the laws on reading and writing blocks are stated with.
use Rattle.std.specs.Prelude.{ℕ, ◌+◌, ◌*◌, ◌≤◌, ◌<◌, ◌≡◌, Bool, true, false, ◌&&◌, List, [], ◌∷◌, ◌++◌, Ok, length, drop}
use Rattle.figures.specs.Text.{cr, lf}
use Rattle.words.specs.Records.{is_right}
use Rattle.words.specs.Reading.{word_size, word_of, OneWord, judged_right, judged_wrong, judged_in}
use Rattle.units.specs.declared.kinds.Family.{Family}
use Rattle.words.specs.declared.records.Word.{Word}
use Rattle.words.specs.declared.reading.Fault.{Fault}
use Rattle.blocks.specs.Judging.{Judgement, is_at, is_wide, first_at}
use Rattle.blocks.specs.Composing.{block_bytes}
use Rattle.blocks.specs.declared.answers.Reading.{Reading}

-- each record is one that some word of the width gives
unfoldable pub right_all : Family → Bool → List Word → Bool
right_all f wide [] = true
right_all f wide (w ∷ ws) = is_right f wide w && right_all f wide ws

-- a list that a block of the width can hold: "1 to 32 words"
pub record Lawful (f : Family) (wide : Bool) (ws : List Word) : Type 0 where
  pub some : 1 ≤ length ws
  pub most : length ws ≤ 32
  pub right : right_all f wide ws ≡ true

-- s is the bytes of a block, and then a rest that is no part of it: "If LF follows CR it belongs to the terminator."
pub record Ruled (f : Family) (s : List ℕ) (wide crlf : Bool) (ws : List Word) (rest : List ℕ) : Type 0 where
  pub lawful : Lawful f wide ws
  pub bytes : s ≡ block_bytes f wide crlf ws ++ rest
  pub apart : crlf ≡ false → is_at lf rest ≡ false

-- the judgement that accepts a block
abbrev pub read_as : Reading → List Word → Judgement
read_as r ws = record { answer = Ok r; words = ws }

abbrev pub reading_of : Family → Bool → Bool → List Word → Reading
reading_of f wide crlf ws = record { wide = wide; crlf = crlf; words = length ws; used = length (block_bytes f wide crlf ws) }

-- where word number k of a block starts, from 0
abbrev pub word_start : Bool → ℕ → ℕ
word_start wide k = first_at wide + k * word_size wide

-- word number k of the block s, judged by itself
abbrev pub judged_word : Family → List ℕ → ℕ → OneWord
judged_word f s k = word_of f (is_wide s) (drop (word_start (is_wide s) k) s)

-- "Words are judged left to right": of the at most 32 words the one of this number has the fault, `at` is that word's byte, and each word before it is
-- right; so far no CR stands where a word would start
pub record FirstFault (f : Family) (s : List ℕ) (x : Fault) (at : ℕ) : Type 0 where
  pub number : ℕ
  pub few : number < 32
  pub byte : ℕ
  pub told : at ≡ word_start (is_wide s) number + byte
  pub fault : judged_in (judged_word f s number) ≡ judged_wrong x byte
  pub before : (j : ℕ) → j < number → judged_in (judged_word f s j) ≡ judged_right
  pub unended : (j : ℕ) → j ≤ number → is_at cr (drop (word_start (is_wide s) j) s) ≡ false
