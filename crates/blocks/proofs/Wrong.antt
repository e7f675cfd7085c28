-- Readers that the promise of `read` shuts out, as theorems: that refuse everything, give one answer or store one block for all, touch nothing, make up
-- a word count or the bytes used, or tell a later word than the first that is wrong; and writers that the writer's shuts out: that refuse everything or write
-- one block. Assumes nothing.
use mathlib.Core.Path.{◌≡◌, refl, sym, ◌∙◌, ap}
use mathlib.Core.Bool.{Bool, false}
use mathlib.Core.List.{List, [], ◌∷◌, ◌++◌}
use Prim.Native.Nat.{ℕ, zero, suc, ◌+◌, ◌≤◌, ◌<◌}
use native.Mathlib.Nat.{suc-mul, lt_of_mul-lt-mul_right}
use native.Mathlib.Omega.{arith}
use lib.ListN.{length, get_or, take, drop, replicate}
use lib.Seq.{length-take-le}
use Rattle.std.specs.Prelude.{Ok, Err}
use Rattle.figures.specs.Bytes.{among, every, run_of, laid}
use Rattle.figures.specs.Decimal.{number_from}
use Rattle.figures.specs.Text.{cr}
use Rattle.words.specs.Records.{blank}
use Rattle.words.specs.Reading.{word_size, judged_right, judged_wrong, judged_in}
use Rattle.words.specs.declared.reading.Fault.{Fault}
use Rattle.words.specs.declared.reading.Fault.TheVariants.{Characters}
use Rattle.words.proofs.Told.{told_within}
use Rattle.words.specs.declared.records.Word.{Word}
use Rattle.blocks.specs.Judging.{is_at, is_wide, judged, filled, block_from, Answer}
use Rattle.blocks.specs.Composing.{block_bytes, Written·room, written, Writes, Wrote}
use Rattle.blocks.specs.Lists.{Reads}
use Rattle.blocks.specs.Rules.{word_start, judged_word}
use Rattle.units.specs.declared.kinds.Family.{Family}
use Rattle.units.specs.declared.kinds.Family.TheVariants.{Station, Level}
use Rattle.blocks.specs.declared.answers.Refusal.{Refusal}
use Rattle.blocks.specs.declared.answers.Reading.{Reading}
use Rattle.blocks.proofs.Faults.{own_fault}
use Rattle.blocks.proofs.Accepted.{accepted, accepted_written}

-- what a reader does with an input and a lent list: its answer, and the list as it is then
abbrev pub Reader : Type 0
Reader = List ℕ → List Word → Answer × List Word

-- it keeps the promise of `read`
abbrev pub Keeps : Family → Reader → Type 0
Keeps f run = (s : List ℕ) (list : List Word) → Reads f s list (run s list).0 (run s list).1

-- `83..00-00213159 ` and CR, a block of either family, and a list of one place
abbrev right : List ℕ
right = 56 ∷ 51 ∷ 46 ∷ 46 ∷ 48 ∷ 48 ∷ 45 ∷ 48 ∷ 48 ∷ 50 ∷ 49 ∷ 51 ∷ 49 ∷ 53 ∷ 57 ∷ 32 ∷ 13 ∷ []

abbrev place : List Word
place = blank ∷ []

abbrev reading : Reading
reading = record { wide = false; crlf = false; words = 1; used = 17 }

one_word : (f : Family) → (judged f right 1).answer ≡ Ok reading
unfolding among every number_from block_from
one_word Station = refl
one_word Level = refl

-- one that refuses everything
pub refuses_all : (f : Family) (run : Reader) → ((s : List ℕ) (list : List Word) → (r : Refusal) × ((run s list).0 ≡ Err r)) → Keeps f run → ⊥
refuses_all f run all keeps =
    let e : (run right place).0 ≡ Err (all right place).0 = (all right place).1 in
    let g : (run right place).0 ≡ Ok reading = (keeps right place).0 ∙ one_word f in
    let z : ◌≡◌ {A = ℕ} 0 1 = cc in
    omega arith

-- one that gives the same answer for all
pub one_for_all : (f : Family) (run : Reader) (a : Answer) → ((s : List ℕ) (list : List Word) → (run s list).0 ≡ a) → Keeps f run → ⊥
one_for_all f run a all keeps =
    let none : (judged f [] 1).answer ≡ Err Refusal.Empty = refl in
    let e : a ≡ Err Refusal.Empty = sym (all [] place) ∙ ((keeps [] place).0 ∙ none) in
    let g : a ≡ Ok reading = sym (all right place) ∙ ((keeps right place).0 ∙ one_word f) in
    let z : ◌≡◌ {A = ℕ} 0 1 = cc in
    omega arith

stored : (f : Family) → (get_or (filled (judged f right 1).words place) 0 blank).size ≡ 213159
unfolding among every number_from block_from
stored Station = refl
stored Level = refl

-- one that touches nothing
pub touches_nothing : (f : Family) (run : Reader) → ((s : List ℕ) (list : List Word) → (run s list).1 ≡ list) → Keeps f run → ⊥
touches_nothing f run all keeps =
    let same : place ≡ filled (judged f right 1).words place = sym (all right place) ∙ (keeps right place).1 in
    let z : ◌≡◌ {A = ℕ} 0 213159 = ap (λ (l : List Word). (get_or l 0 blank).size) same ∙ stored f in
    omega arith

-- `83..00+00001550 ` and CR: the same reading, and another record
abbrev another : List ℕ
another = 56 ∷ 51 ∷ 46 ∷ 46 ∷ 48 ∷ 48 ∷ 43 ∷ 48 ∷ 48 ∷ 48 ∷ 48 ∷ 49 ∷ 53 ∷ 53 ∷ 48 ∷ 32 ∷ 13 ∷ []

another_word : (f : Family) → (judged f another 1).answer ≡ Ok reading
unfolding among every number_from block_from
another_word Station = refl
another_word Level = refl

another_stored : (f : Family) → (get_or (filled (judged f another 1).words place) 0 blank).size ≡ 1550
unfolding among every number_from block_from
another_stored Station = refl
another_stored Level = refl

-- one that may give right answers, and stores one block's records for each block that it reads
pub one_block_stored : (f : Family) (run : Reader) (ws : List Word)
    → ((s : List ℕ) (list : List Word) (r : Reading) → (run s list).0 ≡ Ok r → (run s list).1 ≡ filled ws list) → Keeps f run → ⊥
one_block_stored f run ws all keeps =
    let holds : (s : List ℕ) → (judged f s 1).answer ≡ Ok reading → filled ws place ≡ filled (judged f s 1).words place =
    λ s e. sym (all s place reading ((keeps s place).0 ∙ e)) ∙ (keeps s place).1 in
    let same = sym (holds right (one_word f)) ∙ holds another (another_word f) in
    let z : ◌≡◌ {A = ℕ} 213159 1550 = sym (stored f) ∙ (ap (λ (l : List Word). (get_or l 0 blank).size) same ∙ another_stored f) in
    omega arith

-- the word count and the bytes used are the block's own
pub counts_words : (f : Family) (run : Reader) → Keeps f run → (s : List ℕ) (list : List Word) (r : Reading) → (run s list).0 ≡ Ok r
    → (r.words ≡ length (judged f s (length list)).words) × (r.used ≡ length (block_bytes f r.wide r.crlf (judged f s (length list)).words))
counts_words f run keeps s list r e =
    let ws = (judged f s (length list)).words in
    let a = accepted f s (length list) r ws (λ i. record { answer = (sym (keeps s list).0 ∙ e) i; words = ws }) in
    (a.counted, sym (ap length a.bytes ∙ length-take-le r.used s a.within))

-- one that makes up a word count, or the bytes used
pub invents_words : (f : Family) (run : Reader) (s : List ℕ) (list : List Word) (r : Reading) → (run s list).0 ≡ Ok r
    → (r.words ≡ length (judged f s (length list)).words → ⊥)
    → Keeps f run → ⊥
invents_words f run s list r e other keeps = other (counts_words f run keeps s list r e).0

pub invents_bytes : (f : Family) (run : Reader) (s : List ℕ) (list : List Word) (r : Reading) → (run s list).0 ≡ Ok r
    → (r.used ≡ length (block_bytes f r.wide r.crlf (judged f s (length list)).words) → ⊥) → Keeps f run → ⊥
invents_bytes f run s list r e other keeps = other (counts_words f run keeps s list r e).1

-- "Words are judged left to right": one that of some block tells a byte past a word that isn't right
pub tells_later : (f : Family) (run : Reader) (s : List ℕ) (list : List Word) (x : Fault) (at j : ℕ) → (run s list).0 ≡ Err (Refusal.Wrong x at)
    → word_start (is_wide s) (suc j) ≤ at → (judged_in (judged_word f s j) ≡ judged_right → ⊥) → Keeps f run → ⊥
tells_later f run s list x at j e late wrong keeps =
    let first = own_fault f s (length list) x at (sym (keeps s list).0 ∙ e) in
    let wide = is_wide s in
    let inside = told_within f wide (drop (word_start wide first.number) s) x first.byte first.fault in
    wrong (first.before j (later first.number first.byte inside (rw first.told at late)))
  where
    later : (k byte : ℕ) → byte < word_size (is_wide s) → word_start (is_wide s) (suc j) ≤ word_start (is_wide s) k + byte → j < k
    later k byte inside late = lt_of_mul-lt-mul_right (word_size (is_wide s)) {m = j} {n = k} (omega (arith, suc-mul j (word_size (is_wide s))))

-- a block of two words that aren't right, each at the byte 14 of its 16: `83..00-0021315A ` twice, and CR
abbrev wrong : List ℕ
wrong = 56 ∷ 51 ∷ 46 ∷ 46 ∷ 48 ∷ 48 ∷ 45 ∷ 48 ∷ 48 ∷ 50 ∷ 49 ∷ 51 ∷ 49 ∷ 53 ∷ 65 ∷ 32 ∷ []

abbrev two_wrong : List ℕ
two_wrong = wrong ++ (wrong ++ (13 ∷ []))

first_wrong : (f : Family) → (judged f two_wrong 2).answer ≡ Err (Refusal.Wrong Characters 14)
unfolding among every run_of block_from
first_wrong Station = refl
first_wrong Level = refl

second_wrong : (f : Family) → judged_in (judged_word f two_wrong 1) ≡ judged_wrong Characters 14
unfolding among every run_of
second_wrong Station = refl
second_wrong Level = refl

-- so one that tells the last of the whole words up to the CR that aren't right
pub tells_the_last : (f : Family) (run : Reader)
    → ((s : List ℕ) (list : List Word) (x : Fault) (at : ℕ) → (run s list).0 ≡ Err (Refusal.Wrong x at)
    → (k : ℕ) → k < 32 → word_start (is_wide s) (suc k) ≤ length s → ((j : ℕ) → j ≤ k → is_at cr (drop (word_start (is_wide s) j) s) ≡ false)
    → (judged_in (judged_word f s k) ≡ judged_right → ⊥) → word_start (is_wide s) k ≤ at)
    → Keeps f run → ⊥
tells_the_last f run last keeps =
    let e = (keeps two_wrong (blank ∷ blank ∷ [])).0 ∙ first_wrong f in
    let clash : judged_in (judged_word f two_wrong 1) ≡ judged_right → ⊥ = λ r.
    let q = sym (second_wrong f) ∙ r in let z : ◌≡◌ {A = ℕ} 0 1 = cc in omega arith in
    let late : 16 ≤ 14 = last two_wrong (blank ∷ blank ∷ []) Characters 14 e 1 (omega arith) (omega arith) no_end clash in
    omega arith
  where
    no_end : (j : ℕ) → j ≤ 1 → is_at cr (drop (word_start (is_wide two_wrong) j) two_wrong) ≡ false
    no_end zero h = refl
    no_end (suc zero) h = refl
    no_end (suc (suc j)) h = absurd (omega arith)

-- what a writer does with a list, a width, a terminator and a room: its answer, and the room as it is then
abbrev pub Writer : Type 0
Writer = List Word → Bool → Bool → List ℕ → Wrote × List ℕ

-- it keeps the writer's promise
abbrev pub KeepsWriting : Family → Writer → Type 0
KeepsWriting f run = (ws : List Word) (wide crlf : Bool) (room : List ℕ) → Writes f ws wide crlf room (run ws wide crlf room).0 (run ws wide crlf room).1

-- a block of one word needs 17 bytes
abbrev empty : List ℕ
empty = replicate 17 0

-- the records that were read are written, and they are the bytes that were read
written_back : (f : Family) (s : List ℕ) → (judged f s 1).answer ≡ Ok reading
    → written f (judged f s 1).words false false empty ≡ record { answer = Ok 17; room = laid (take 17 s) empty }
written_back f s e =
    let ws = (judged f s 1).words in
    accepted_written f s 1 reading ws empty (λ i. record { answer = e i; words = ws }) (omega arith)

-- one that refuses everything
pub refuses_lists : (f : Family) (run : Writer)
    → ((ws : List Word) (wide crlf : Bool) (room : List ℕ) → (r : Refusal) × ((run ws wide crlf room).0 ≡ Err r))
    → KeepsWriting f run → ⊥
refuses_lists f run all keeps =
    let ws = (judged f right 1).words in
    let e = (all ws false false empty).1 in
    let g : (run ws false false empty).0 ≡ Ok 17 =
    (keeps ws false false empty).0 ∙ ap (λ (v : Written·room). v.answer) (written_back f right (one_word f)) in
    let z : ◌≡◌ {A = ℕ} 0 1 = cc in
    omega arith

-- one that may give right answers, and lays down one block for each list that it writes
pub one_block_written : (f : Family) (run : Writer) (bytes : List ℕ)
    → ((ws : List Word) (wide crlf : Bool) (room : List ℕ) (n : ℕ) → (run ws wide crlf room).0 ≡ Ok n → (run ws wide crlf room).1 ≡ laid bytes room)
    → KeepsWriting f run → ⊥
one_block_written f run bytes all keeps =
    let holds : (s : List ℕ) → (judged f s 1).answer ≡ Ok reading → laid bytes empty ≡ laid (take 17 s) empty =
    λ s e.
    let ws = (judged f s 1).words in
    let (answer, room) = keeps ws false false empty in
    let is = written_back f s e in
    sym (all ws false false empty 17 (answer ∙ ap (λ (v : Written·room). v.answer) is)) ∙ (room ∙ ap (λ (v : Written·room). v.room) is) in
    let z : ◌≡◌ {A = ℕ} 45 43 = ap (λ (l : List ℕ). get_or l 6 0) (sym (holds right (one_word f)) ∙ holds another (another_word f)) in
    omega arith
