-- "A block is an optional `*`, 1 to 32 words, then CR or CR LF .. Words are judged left to right."
use Rattle.std.specs.Prelude.{ℕ, zero, suc, ◌+◌, Bool, true, false, cond, List, [], ◌∷◌, ◌++◌, Result, Ok, Err, eqb, leb, ltb, length, get_or, drop}
use Rattle.figures.specs.Text.{byte, cr, lf}
use Rattle.words.specs.Reading.{word_size, word_of, Judged, judged_in, word_in}
use Rattle.units.specs.declared.kinds.Family.{Family}
use Rattle.words.specs.declared.records.Word.{Word}
use Rattle.words.specs.declared.reading.Fault.TheVariants.{Short}
use Rattle.blocks.specs.declared.answers.Refusal.{Refusal}
use Rattle.blocks.specs.declared.answers.Refusal.TheVariants.{Empty, Wrong, NoWord, NoEnd, NoPlace}
use Rattle.blocks.specs.declared.answers.Reading.{Reading}

-- a reading or a refusal
abbrev pub Answer : Type 0
Answer = Result Reading Refusal

-- with the block's records; none where it is refused
pub record Judgement : Type 0 where
  pub answer : Answer
  pub words : List Word

-- the next byte is b
abbrev pub is_at : ℕ → List ℕ → Bool
is_at b rest = cond (ltb 0 (length rest)) (eqb (get_or rest 0 0) b) false

-- "With `*` the words are 16 wide, otherwise 8 wide."
abbrev pub is_wide : List ℕ → Bool
is_wide s = eqb (get_or s 0 0) (byte "*")

abbrev pub first_at : Bool → ℕ
first_at wide = cond wide 1 0

abbrev pub refused_by : Refusal → Judgement
refused_by r = record { answer = Err r; words = [] }

-- "If LF follows CR it belongs to the terminator."
abbrev pub ended_at : Bool → ℕ → List ℕ → ℕ → Answer
ended_at wide at rest n =
    Ok (record { wide = wide; crlf = is_at lf (drop 1 rest); words = n; used = cond (is_at lf (drop 1 rest)) (at + 2) (at + 1) })

abbrev pub ended_by : Bool → ℕ → List ℕ → List Word → Judgement
ended_by wide at rest ws = record { answer = ended_at wide at rest (length ws); words = ws }

-- a word that was read is followed by what comes next, and a wrong one refuses the block, telling its byte in the input
abbrev pub after_word : ℕ → Judged → Judgement → Judgement
after_word at (Ok u) next = next
after_word at (Err e) next = refused_by (Wrong e.fault (at + e.at))

-- "Where a word would start the order is CR, 4, 2, 11, then 5 to 10 in order", with 15 right after 5 (request 104): what comes of it where n words
-- stand before this place, `full` says that they are as many as a block may have, and `word` is what comes of a word of this size
abbrev pub at_start : {A : Type 0} → (full : Bool) (size places n at : ℕ) (rest : List ℕ) (ended : A) (refuse : Refusal → A) (word : A) → A
at_start full size places n at rest ended refuse word =
    cond (is_at cr rest) ended
    (cond full (refuse (NoEnd at))
    (cond (ltb (length rest) size) (refuse (Wrong Short at))
    (cond (leb places n) (refuse (NoPlace at))
    word)))

-- the block from a place on where a word would start, when so many more words may come and the words before it are ws
unfoldable pub block_from : Family → ℕ → Bool → ℕ → ℕ → List ℕ → List Word → Judgement
block_from f zero wide places at rest ws =
    at_start true (word_size wide) places (length ws) at rest (ended_by wide at rest ws) refused_by (refused_by (NoEnd at))
block_from f (suc more) wide places at rest ws =
    let next = block_from f more wide places (at + word_size wide) (drop (word_size wide) rest) (ws ++ (word_in (word_of f wide rest) ∷ [])) in
    at_start false (word_size wide) places (length ws) at rest (ended_by wide at rest ws) refused_by (after_word at (judged_in (word_of f wide rest)) next)

-- a list of so many places is lent, and s is the input: "Bytes after the terminator aren't looked at."
abbrev pub judged : Family → List ℕ → ℕ → Judgement
judged f s places =
    cond (eqb (length s) 0) (refused_by Empty)
    (cond (is_at cr (drop (first_at (is_wide s)) s)) (refused_by NoWord)
    (block_from f 32 (is_wide s) places (first_at (is_wide s)) (drop (first_at (is_wide s)) s) []))

-- "The records go into a list of word records that the caller lends; records beyond the count are as before."
abbrev pub filled : List Word → List Word → List Word
filled ws list = ws ++ drop (length ws) list
