-- Of a block that was read, written or mended nothing is cut off: what is told fits its bits, so that the C functions answer `number * 2^32 + told`.
use Prim.Native.Nat.{ℕ, ◌+◌, ◌*◌, ◌≤◌, ◌<◌}
use mathlib.Core.Path.{◌≡◌, refl, ◌∙◌}
use mathlib.Core.Bool.{Bool, true, false, cond}
use mathlib.Core.List.{List}
use native.Mathlib.Nat.{mod-eq_of_lt}
use native.Mathlib.Omega.{arith}
use lib.Dec.{ltb}
use lib.ListN.{length, drop}
use Rattle.std.proofs.Common.{Result, Ok, Err}
use Rattle.units.specs.declared.kinds.Family.{Family}
use Rattle.words.specs.declared.records.Word.{Word}
use Rattle.blocks.specs.declared.answers.Refusal.{Refusal}
use Rattle.blocks.specs.Judging.{Answer}
use Rattle.blocks.specs.Answers.{refusal_number, refusal_tells}
use Rattle.blocks.specs.Judging.{Judgement, is_at, judged}
use Rattle.blocks.specs.Composing.{Written·room, written}
use Rattle.blocks.proofs.Counts.{judged_by}
use Rattle.blocks.proofs.Refused.{written_by}
use Rattle.listings.specs.declared.edits.Edit.{Edit}
use Rattle.listings.specs.declared.mending.Mended.{Mended}
use Rattle.listings.specs.Mending.{mended as mended_of}
use Rattle.listings.specs.Outcome.{Outcome, outcome_by, outcome}
use Rattle.listings.proofs.Counts.{mended_few}
use Rattle.listings.proofs.Sizes.{mended_most}
use Rattle.host.specs.Answers.{packed, refused_told, refused_whole, read_told, read_whole, wrote_told, wrote_whole, mended_told, mended_whole, is_yes}
use Rattle.host.specs.Answers.{ReadsC, WritesC, MendsC}

pub packed_whole : (number told : ℕ) → told ≤ 65535 → packed number told ≡ number * 4294967296 + told
packed_whole number told h = omega arith

refused_whole_lem : (r : Refusal) → refusal_tells r ≤ 771 → refused_told r ≡ refused_whole r
refused_whole_lem r h = packed_whole (refusal_number r) (refusal_tells r) (omega arith)

pub cond_when : {A : Type 0} (P : A → Type 0) (t : Bool) (a b : A) → (t ≡ true → P a) → P b → P (cond t a b)
cond_when P true a b h k = h refl
cond_when P false a b h k = k

-- what a block that was judged tells
abbrev pub ReadSmall : Answer → Type 0
ReadSmall (Err r) = refusal_tells r ≤ 771
ReadSmall (Ok k) = (k.used ≤ 771) × (k.words ≤ 32)

pub read_small : (f : Family) (block : List ℕ) (places : ℕ) → ReadSmall (judged f block places).answer
read_small f block places =
    judged_by f places (λ (j : Judgement). ReadSmall j.answer) (λ r h. omega arith)
    (λ wide at rest ws h few. (cond_when (λ n. n ≤ 771) (is_at 10 (drop 1 rest)) (at + 2) (at + 1) (λ _. omega arith) (omega arith), few.0)) block

pub read_whole_lem : (f : Family) (block : List ℕ) (places : ℕ) → read_told (judged f block places).answer ≡ read_whole (judged f block places).answer
read_whole_lem f block places = by (judged f block places).answer (read_small f block places)
  where
    by : (a : Answer) → ReadSmall a → read_told a ≡ read_whole a
    by (Err r) small = refused_whole_lem r small
    by (Ok k) small =
        let used : k.used < 65536 = omega (arith, small.0) in
        let words : k.words < 256 = omega (arith, small.1) in
        rw (mod-eq_of_lt used, mod-eq_of_lt words)

-- and a list that was written
pub wrote_whole_lem : (f : Family) (ws : List Word) (wide crlf : Bool) (room : List ℕ)
    → wrote_told (written f ws wide crlf room).answer ≡ wrote_whole (written f ws wide crlf room).answer
wrote_whole_lem f ws wide crlf room =
    written_by f ws wide crlf room (λ (v : Written·room). wrote_told v.answer ≡ wrote_whole v.answer) refused_whole_lem (λ small. omega arith)

-- and a block that was mended, by what the reader answers of its mended bytes

abbrev pub MendedSmall : Result Mended Refusal → Type 0
MendedSmall (Err r) = refusal_tells r ≤ 771
MendedSmall (Ok m) = (m.bytes ≤ 771) × (m.edits ≤ 34)

abbrev Small : Outcome → Type 0
Small o = MendedSmall o.answer

pub mended_small : (f : Family) (block room : List ℕ) (places : ℕ) → Small (outcome f block room places)
mended_small f block room places = by (judged f (mended_of block).bytes 32).answer (read_small f (mended_of block).bytes 32)
  where
    by : (a : Answer) → ReadSmall a → Small (outcome_by a (mended_of block) room places)
    by (Err r) small = small
    by (Ok k) small =
        cond_when Small (ltb (length room) (length (mended_of block).bytes)) _ _ (λ _. mended_most block)
        (cond_when Small (ltb places (length (mended_of block).edits)) _ _ (λ _. omega (arith, mended_few block)) (mended_most block, mended_few block))

pub mended_whole_lem : (f : Family) (block room : List ℕ) (places : ℕ)
    → mended_told (outcome f block room places).answer ≡ mended_whole (outcome f block room places).answer
mended_whole_lem f block room places = by (outcome f block room places).answer (mended_small f block room places)
  where
    by : (a : Result Mended Refusal) → MendedSmall a → mended_told a ≡ mended_whole a
    by (Err r) small = refused_whole_lem r small
    by (Ok m) small =
        let bytes : m.bytes < 65536 = omega (arith, small.0) in
        let edits : m.edits < 65536 = omega (arith, small.1) in
        rw (mod-eq_of_lt bytes, mod-eq_of_lt edits)

-- so the promises say
pub gsi_read_whole : (f : Family) (block : List ℕ) (list : List Word) {r : ℕ} {list' : List Word} → ReadsC f block list r list'
    → r ≡ read_whole (judged f block (length list)).answer
gsi_read_whole f block list h = h.0 ∙ read_whole_lem f block (length list)

pub gsi_write_whole : (f : Family) (list : List Word) (wide crlf : ℕ) (room : List ℕ) {r : ℕ} {room' : List ℕ} → WritesC f list wide crlf room r room'
    → r ≡ wrote_whole (written f list (is_yes wide) (is_yes crlf) room).answer
gsi_write_whole f list wide crlf room h = h.0 ∙ wrote_whole_lem f list (is_yes wide) (is_yes crlf) room

pub gsi_mend_whole : (f : Family) (block room : List ℕ) (list : List Edit) {r : ℕ} {room' : List ℕ} {list' : List Edit} → MendsC f block room list r room' list'
    → r ≡ mended_whole (outcome f block room (length list)).answer
gsi_mend_whole f block room list h = h.0 ∙ mended_whole_lem f block room (length list)
