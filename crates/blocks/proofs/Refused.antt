-- "After a refusal the lent list and output are untouched", over the promises of `read` and of the writer.
use Prim.Native.Nat.{ℕ, ◌≤◌}
use mathlib.Core.Path.{◌≡◌, refl, sym, ◌∙◌}
use mathlib.Core.Bool.{Bool, ◌||◌}
use mathlib.Core.List.{List, [], ◌++◌}
use native.Mathlib.Omega.{arith}
use borrow.Author.Tests.{ltb-false}
use lib.Dec.{eqb, ltb}
use lib.ListN.{length, length-append}
use Rattle.std.specs.Prelude.{Ok, Err}
use Rattle.figures.specs.Bytes.{laid}
use Rattle.figures.specs.Text.{end_bytes, star_bytes}
use Rattle.figures.proofs.Bytes.{end_long}
use Rattle.units.specs.declared.kinds.Family.{Family}
use Rattle.words.specs.declared.records.Word.{Word}
use Rattle.blocks.specs.Answers.{refusal_tells}
use Rattle.blocks.specs.Judging.{Judgement, judged, Answer}
use Rattle.blocks.specs.Lists.{Reads}
use Rattle.blocks.specs.Composing.{words_bytes, block_bytes, Written·room, refused_room, block_in_room, written, Writes, Wrote}
use Rattle.blocks.specs.declared.answers.Refusal.{Refusal}
use Rattle.blocks.specs.declared.answers.Refusal.TheVariants.{Count, Record, Room}
use Rattle.blocks.proofs.Counts.{judged_by}
use Rattle.blocks.proofs.Rooms.{wrong_by, words_fit, star_small}
use Rattle.blocks.proofs.Steps.{apart, cond_by}
use Rattle.blocks.proofs.Written.{neither}

-- what holds of each refusal that tells no more than a block's bytes, and of a block of no more, holds of what is written
module _ (f : Family) (ws : List Word) (wide crlf : Bool) (room : List ℕ) (P : Written·room → Type 0)
    (refuses : (r : Refusal) → refusal_tells r ≤ 771 → P (refused_room room r))
    (writes : (let bytes = block_bytes f wide crlf ws in length bytes ≤ 771 → P (record { answer = Ok (length bytes); room = laid bytes room }))) where
  pub written_by : P (written f ws wide crlf room)
  written_by =
      let all = block_bytes f wide crlf ws in
      let words = words_bytes f wide ws in
      let end = end_bytes crlf in
      cond_by P (eqb (length ws) 0 || ltb 32 (length ws)) _ _ (λ _. refuses Count (omega arith)) (λ e.
      let most = ltb-false 32 (length ws) (neither (eqb (length ws) 0) (ltb 32 (length ws)) e).1 in
      wrong_by P f wide 0 ws (λ i. refused_room room (Record i)) (block_in_room all room) (λ j h. refuses (Record j) (omega arith)) (λ right.
      let small : length all ≤ 771 =
      omega (
        arith,
        length-append (star_bytes wide) (words ++ end),
        length-append words end,
        words_fit f wide ws most right,
        star_small wide,
        end_long crlf,
      ) in
      cond_by P (ltb (length room) (length all)) _ _ (λ _. refuses (Room (length all)) small) (λ _. writes small)))

pub read_refused : (f : Family) (s : List ℕ) (list : List Word) {r : Answer} {list' : List Word} → Reads f s list r list'
    → (x : Refusal) → r ≡ Err x → list' ≡ list
read_refused f s list h x is = h.1 ∙ rw (none (sym h.0 ∙ is))
  where
    none : (judged f s (length list)).answer ≡ Err x → (judged f s (length list)).words ≡ []
    none = judged_by f (length list) (λ (j : Judgement). j.answer ≡ Err x → j.words ≡ []) (λ r small e. refl) (λ wide at rest ws small few e. apart cc) s

pub write_refused : (f : Family) (ws : List Word) (wide crlf : Bool) (room : List ℕ) {r : Wrote} {room' : List ℕ} → Writes f ws wide crlf room r room'
    → (x : Refusal) → r ≡ Err x → room' ≡ room
write_refused f ws wide crlf room h x is = h.1 ∙ same (sym h.0 ∙ is)
  where
    same : (written f ws wide crlf room).answer ≡ Err x → (written f ws wide crlf room).room ≡ room
    same = written_by f ws wide crlf room (λ (v : Written·room). v.answer ≡ Err x → v.room ≡ room) (λ r small e. refl) (λ small e. apart cc)
