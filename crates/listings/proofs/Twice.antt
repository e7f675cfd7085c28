-- "mending twice is mending once": mended bytes, read or refused, are mended to themselves with no edits.
use Prim.Native.Nat.{ℕ, zero, suc, ◌+◌, ◌≤◌}
use mathlib.Core.Path.{◌≡◌, refl, sym, ap, ◌∙◌}
use mathlib.Core.Bool.{Bool, true, false, false≢true}
use mathlib.Core.List.{List, [], ◌∷◌, ◌++◌, append_assoc, append-nil}
use native.Mathlib.Omega.{arith}
use borrow.Author.Tests.{ltb-true, ltb-false}
use lib.Dec.{ltb}
use lib.ListN.{length, drop, length-drop}
use Rattle.figures.proofs.Tests.{by_test}
use Rattle.words.specs.Reading.{word_size}
use Rattle.figures.specs.Bytes.{laid}
use Rattle.units.specs.declared.kinds.Family.{Family}
use Rattle.blocks.specs.Judging.{is_wide, judged}
use Rattle.listings.specs.Mending.{Mending, copied, lacks_dot, word_taken, is_end, end_mended, to_next, mended_from, mended}
use Rattle.listings.specs.Outcome.{mended_as, outcome_by, outcome}
use Rattle.listings.proofs.Outcomes.{done_by, fits_done}
use Rattle.listings.proofs.Seen.{end_first, lacks_on}
use Rattle.listings.proofs.Turns.{end_cases, at_end, nothing_left, goes, word, word_dots, word_most, word_long, word_first, word_starts}
use Rattle.listings.proofs.Turns.{blank_byte, last_word, plain_last, plain_next}

-- an end that was mended

end_again : (at at₂ : ℕ) (rest : List ℕ) → end_mended at₂ (end_mended at rest).bytes ≡ copied (end_mended at rest).bytes
end_again at at₂ rest =
    end_cases (λ (m : Mending). end_mended at₂ m.bytes ≡ copied m.bytes) at rest (λ _ _. refl) (λ _ _. refl) (λ _ _. refl) (λ _. refl)

end_ends : (at : ℕ) (rest : List ℕ) → is_end rest ≡ true → is_end (end_mended at rest).bytes ≡ true
end_ends at rest q =
    end_cases (λ (m : Mending). is_end m.bytes ≡ true) at rest (λ _ _. refl) (λ _ _. refl) (λ _ _. refl) (λ e. absurd (false≢true (sym e ∙ q)))

again : (more : ℕ) (wide : Bool) (rest : List ℕ) (at at₂ : ℕ)
    → mended_from more wide at₂ (mended_from more wide at rest).bytes ≡ copied (mended_from more wide at rest).bytes
again zero wide rest at at₂ = unfold mended_from in end_again at at₂ rest
again (suc more) wide [] at at₂ = rw (nothing_left (suc more) wide at) (nothing_left (suc more) wide at₂)
again (suc more) wide (x ∷ l) at at₂ =
    let rest = x ∷ l in
    let size = word_taken wide rest in
    let w = word wide at rest in
    by_test (is_end rest) (λ q.
    rw (at_end (suc more) wide at rest q) (at_end (suc more) wide at₂ (end_mended at rest).bytes (end_ends at rest q) ∙ end_again at at₂ rest)) (λ q.
    by_test (ltb size (length rest)) (λ e.
    let long = ltb-true size (length rest) e in
    let t = (mended_from more wide (at + to_next wide rest) (drop (to_next wide rest) rest)).bytes in
    let (b, is, unended) = blank_byte (at + size) (drop size rest) (omega (arith, length-drop size rest)) in
    let sized = word_long wide at rest (omega arith) in
    let dots : lacks_dot (w ++ (b ∷ t)) ≡ false = lacks_on w (b ∷ t) (omega arith) ∙ word_dots wide at rest in
    rw (goes more wide at rest q, is)
    (plain_next more wide at₂ w b t sized (word_starts wide at x l (b ∷ t) ∙ q) dots (end_first b t [] ∙ unended)
    ∙ rw (again more wide (drop (to_next wide rest) rest) (at + to_next wide rest) (at₂ + word_size wide), append_assoc))) (λ e.
    rw (last_word more wide at rest q (ltb-false size (length rest) e))
    (plain_last more wide at₂ w (word_most wide at rest) (rw append-nil at (word_starts wide at x l []) ∙ q) (word_dots wide at rest))))

-- no first `*` comes where none was
narrow_kept : (more : ℕ) (s : List ℕ) → is_wide s ≡ false → is_wide (mended_from (suc more) false 0 s).bytes ≡ false
narrow_kept more [] e = rw (nothing_left (suc more) false 0)
narrow_kept more (x ∷ s) e =
    by_test (is_end (x ∷ s)) (λ q.
    rw (at_end (suc more) false 0 (x ∷ s) q)
    (end_cases (λ (m : Mending). is_wide m.bytes ≡ false) 0 (x ∷ s) (λ _ _. refl) (λ _ _. refl) (λ _ _. refl) (λ _. refl)))
    (λ q. rw (goes more false 0 (x ∷ s) q, (word_first false 0 x s).1) e)

pub wide_kept : (s : List ℕ) → is_wide (mended s).bytes ≡ is_wide s
unfolding mended
wide_kept s = by_test (is_wide s) (λ e. rw e) (λ e. rw e (narrow_kept 31 s e))

pub twice : (s : List ℕ) → mended (mended s).bytes ≡ copied (mended s).bytes
unfolding mended
twice s =
    by_test (is_wide s) (λ e. rw (e, again 32 true (drop 1 s) 1 1)) (λ e. rw (e, narrow_kept 31 s e, again 32 false s 0 0))

-- what was mended is mended to itself, with no edits, in whatever room it fits and with no place lent
pub twice_done : (f : Family) (s room : List ℕ) (places n k : ℕ) → (outcome f s room places).answer ≡ mended_as n k → (room₂ : List ℕ) (places₂ : ℕ)
    → n ≤ length room₂
    → outcome f (mended s).bytes room₂ places₂ ≡ record { answer = mended_as n 0; room = laid (mended s).bytes room₂; edits = [] }
twice_done f s room places n k e room₂ places₂ fits =
    let d = done_by (judged f (mended s).bytes 32).answer (mended s) room places n k e in
    ap (λ (m : Mending). outcome_by (judged f m.bytes 32).answer m room₂ places₂) (twice s)
    ∙ fits_done _ (copied (mended s).bytes) room₂ places₂ d.reading d.reads (omega (arith, d.bytes)) (omega arith) ∙ rw d.bytes
