-- What the C functions answer: number * 2^32 + told, our own packing.
use Rattle.std.specs.Prelude.{ℕ, ◌+◌, ◌*◌, ◌/◌, ◌%◌, min, ◌≡◌, Bool, cond, not, List, eqb, length, Result, Ok, Err}
use Rattle.units.specs.declared.kinds.Family.{Family}
use Rattle.words.specs.declared.records.Word.{Word}
use Rattle.blocks.specs.declared.answers.Refusal.{Refusal}
use Rattle.blocks.specs.declared.answers.Reading.{Reading}
use Rattle.blocks.specs.Judging.{Answer}
use Rattle.blocks.specs.Composing.{Wrote}
use Rattle.blocks.specs.Answers.{refusal_number, refusal_tells}
use Rattle.blocks.specs.Judging.{judged, filled}
use Rattle.blocks.specs.Composing.{written}
use Rattle.listings.specs.declared.edits.Edit.{Edit}
use Rattle.listings.specs.declared.mending.Mended.{Mended}
use Rattle.listings.specs.Outcome.{outcome, listed}

-- what would be told above 2^32 - 1 is told as 2^32 - 1, so that any answer has a number; no answer tells so much (proofs/Whole.antt, Answered.antt)
abbrev pub packed : ℕ → ℕ → ℕ
packed number told = number * 4294967296 + min told 4294967295

abbrev pub refused_told : Refusal → ℕ
refused_told r = packed (refusal_number r) (refusal_tells r)

abbrev pub bit_of : Bool → ℕ → ℕ
bit_of on weight = cond on weight 0

-- told when read: bytes used + 2^16 * words + 2^24 * (1 if wide) + 2^25 * (1 if CR LF), each in its own bits
abbrev pub reading_told : Reading → ℕ
reading_told k = k.used % 65536 + k.words % 256 * 65536 + bit_of k.wide 16777216 + bit_of k.crlf 33554432

abbrev pub read_told : Answer → ℕ
read_told (Err r) = refused_told r
read_told (Ok k) = reading_told k

-- told when written: the bytes
abbrev pub wrote_told : Wrote → ℕ
wrote_told (Err r) = refused_told r
wrote_told (Ok n) = packed 0 n

-- told when mended: bytes + 2^16 * edits, each in its own bits
abbrev pub mended_told : Result Mended Refusal → ℕ
mended_told (Err r) = refused_told r
mended_told (Ok m) = m.bytes % 65536 + m.edits % 65536 * 65536

-- the same with nothing cut off
abbrev pub refused_whole : Refusal → ℕ
refused_whole r = refusal_number r * 4294967296 + refusal_tells r

abbrev pub read_whole : Answer → ℕ
read_whole (Err r) = refused_whole r
read_whole (Ok k) = k.used + k.words * 65536 + bit_of k.wide 16777216 + bit_of k.crlf 33554432

abbrev pub wrote_whole : Wrote → ℕ
wrote_whole (Err r) = refused_whole r
wrote_whole (Ok n) = n

abbrev pub mended_whole : Result Mended Refusal → ℕ
mended_whole (Err r) = refused_whole r
mended_whole (Ok m) = m.bytes + m.edits * 65536

-- the number that an answer has; 0 is accepted
abbrev pub read_number : Answer → ℕ
read_number (Err r) = refusal_number r
read_number (Ok k) = 0

abbrev pub wrote_number : Wrote → ℕ
wrote_number (Err r) = refusal_number r
wrote_number (Ok n) = 0

abbrev pub mended_number : Result Mended Refusal → ℕ
mended_number (Err r) = refusal_number r
mended_number (Ok m) = 0

-- as gsi.h takes an answer apart: GSI_NUMBER, and of a block that was read GSI_USED, GSI_WORDS, GSI_IS_WIDE and GSI_IS_CRLF
abbrev pub answer_number_in : ℕ → ℕ
answer_number_in r = r / 4294967296

abbrev pub used_in : ℕ → ℕ
used_in r = r % 65536

abbrev pub words_in : ℕ → ℕ
words_in r = r / 65536 % 256

abbrev pub wide_in : ℕ → ℕ
wide_in r = r / 16777216 % 2

abbrev pub crlf_in : ℕ → ℕ
crlf_in r = r / 33554432 % 2

-- wide and crlf: 0 is no, any other number is yes
abbrev pub is_yes : ℕ → Bool
is_yes n = not (eqb n 0)

abbrev pub ReadsC : Family → List ℕ → List Word → ℕ → List Word → Type 0
ReadsC f block list r list' = (r ≡ read_told (judged f block (length list)).answer) × (list' ≡ filled (judged f block (length list)).words list)

abbrev pub WritesC : Family → List Word → ℕ → ℕ → List ℕ → ℕ → List ℕ → Type 0
WritesC f list wide crlf room r room' =
    (r ≡ wrote_told (written f list (is_yes wide) (is_yes crlf) room).answer) × (room' ≡ (written f list (is_yes wide) (is_yes crlf) room).room)

abbrev pub MendsC : Family → List ℕ → List ℕ → List Edit → ℕ → List ℕ → List Edit → Type 0
MendsC f block room list r room' list' =
    let o = outcome f block room (length list) in (r ≡ mended_told o.answer) × ((room' ≡ o.room) × (list' ≡ listed o.edits list))
