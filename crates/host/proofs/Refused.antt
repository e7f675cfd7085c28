-- A block's answer by its number, `r / 2^32`: it is accepted exactly where r is below 2^32, and else the lent list and the room are as they were.
use Prim.Native.Nat.{ℕ, ◌≤◌, ◌<◌}
use mathlib.Core.Path.{◌≡◌, refl, sym, ap, ◌∙◌}
use mathlib.Core.List.{List}
use mathlib.Core.Logic.{◌↔◌}
use native.Mathlib.Omega.{arith}
use lib.ListN.{length}
use Rattle.std.proofs.Common.{Result, Ok, Err}
use Rattle.units.specs.declared.kinds.Family.{Family}
use Rattle.words.specs.declared.records.Word.{Word}
use Rattle.blocks.specs.declared.answers.Reading.{Reading}
use Rattle.blocks.specs.declared.answers.Refusal.{Refusal}
use Rattle.blocks.specs.Judging.{Answer}
use Rattle.blocks.specs.Composing.{Wrote}
use Rattle.blocks.specs.Judging.{judged}
use Rattle.blocks.specs.Composing.{written}
use Rattle.blocks.proofs.Refused.{read_refused, write_refused}
use Rattle.listings.specs.declared.edits.Edit.{Edit}
use Rattle.listings.specs.declared.mending.Mended.{Mended}
use Rattle.listings.specs.Outcome.{mended_as, outcome}
use Rattle.listings.proofs.Accepted.{refused_leaves}
use Rattle.host.specs.Answers.{read_told, read_number, wrote_told, wrote_number, mended_told, mended_number, answer_number_in, is_yes, ReadsC, WritesC, MendsC}
use Rattle.host.proofs.Told.{bit_le, number_small}

read_number_lem : (a : Answer) → answer_number_in (read_told a) ≡ read_number a
read_number_lem (Err x) = omega arith
read_number_lem (Ok k) = omega (arith, bit_le k.wide 16777216, bit_le k.crlf 33554432)

wrote_number_lem : (w : Wrote) → answer_number_in (wrote_told w) ≡ wrote_number w
wrote_number_lem (Err x) = omega arith
wrote_number_lem (Ok n) = omega arith

mended_number_lem : (m : Result Mended Refusal) → answer_number_in (mended_told m) ≡ mended_number m
mended_number_lem (Err x) = omega arith
mended_number_lem (Ok m) = omega arith

module _ (f : Family) (block : List ℕ) (list : List Word) {r : ℕ} {list' : List Word} (h : ReadsC f block list r list') where
  abbrev answered : Answer
  answered = (judged f block (length list)).answer

  pub gsi_read_number : answer_number_in r ≡ read_number answered
  gsi_read_number = ap answer_number_in h.0 ∙ read_number_lem answered

  pub gsi_read_accepted : (r < 4294967296) ↔ ((k : Reading) × (answered ≡ Ok k))
  gsi_read_accepted = (λ low. by answered gsi_read_number refl low, λ told. let none = gsi_read_number ∙ ap read_number told.1 in omega arith)
    where
      by : (a : Answer) → answer_number_in r ≡ read_number a → answered ≡ a → r < 4294967296 → (k : Reading) × (answered ≡ Ok k)
      by (Err x) number e low = absurd (omega (arith, (number_small x).0))
      by (Ok k) number e low = (k, e)

  -- "After a refusal the lent list .. untouched"
  pub gsi_read_refused : 4294967296 ≤ r → list' ≡ list
  gsi_read_refused high = by answered gsi_read_number refl
    where
      by : (a : Answer) → answer_number_in r ≡ read_number a → answered ≡ a → list' ≡ list
      by (Err x) number e = read_refused f block list (refl, h.1) x e
      by (Ok k) number e = absurd (omega arith)

module _ (f : Family) (ws : List Word) (wide crlf : ℕ) (room : List ℕ) {r : ℕ} {room' : List ℕ} (h : WritesC f ws wide crlf room r room') where
  abbrev answered' : Wrote
  answered' = (written f ws (is_yes wide) (is_yes crlf) room).answer

  pub gsi_write_number : answer_number_in r ≡ wrote_number answered'
  gsi_write_number = ap answer_number_in h.0 ∙ wrote_number_lem answered'

  pub gsi_write_accepted : (r < 4294967296) ↔ ((n : ℕ) × (answered' ≡ Ok n))
  gsi_write_accepted = (λ low. by answered' gsi_write_number refl low, λ told. let none = gsi_write_number ∙ ap wrote_number told.1 in omega arith)
    where
      by : (w : Wrote) → answer_number_in r ≡ wrote_number w → answered' ≡ w → r < 4294967296 → (n : ℕ) × (answered' ≡ Ok n)
      by (Err x) number e low = absurd (omega (arith, (number_small x).0))
      by (Ok n) number e low = (n, e)

  -- ".. and output are"
  pub gsi_write_refused : 4294967296 ≤ r → room' ≡ room
  gsi_write_refused high = by answered' gsi_write_number refl
    where
      by : (w : Wrote) → answer_number_in r ≡ wrote_number w → answered' ≡ w → room' ≡ room
      by (Err x) number e = write_refused f ws (is_yes wide) (is_yes crlf) room (refl, h.1) x e
      by (Ok n) number e = absurd (omega arith)

module _ (f : Family) (block room : List ℕ) (list : List Edit) {r : ℕ} {room' : List ℕ} {list' : List Edit} (h : MendsC f block room list r room' list') where
  abbrev answered'' : Result Mended Refusal
  answered'' = (outcome f block room (length list)).answer

  pub gsi_mend_number : answer_number_in r ≡ mended_number answered''
  gsi_mend_number = ap answer_number_in h.0 ∙ mended_number_lem answered''

  pub gsi_mend_accepted : (r < 4294967296) ↔ ((n : ℕ) × (k : ℕ) × (answered'' ≡ mended_as n k))
  gsi_mend_accepted = (λ low. by answered'' gsi_mend_number refl low, λ told. let none = gsi_mend_number ∙ ap mended_number told.2 in omega arith)
    where
      by : (m : Result Mended Refusal) → answer_number_in r ≡ mended_number m → answered'' ≡ m → r < 4294967296 → (n : ℕ) × (k : ℕ) × (answered'' ≡ mended_as n k)
      by (Err x) number e low = absurd (omega (arith, (number_small x).0))
      by (Ok m) number e low = (m.bytes, m.edits, e)

  -- "What can't be read afterwards is refused, nothing written."
  pub gsi_mend_refused : 4294967296 ≤ r → (room' ≡ room) × (list' ≡ list)
  gsi_mend_refused high = by answered'' gsi_mend_number refl
    where
      by : (m : Result Mended Refusal) → answer_number_in r ≡ mended_number m → answered'' ≡ m → (room' ≡ room) × (list' ≡ list)
      by (Err x) number e = refused_leaves f block room list x (sym e, h.1)
      by (Ok m) number e = absurd (omega arith)
