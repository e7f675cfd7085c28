-- No block begins with the bytes of a refused one up to and including the byte that 5 to 9 tell, and is accepted, however long the list that is lent.
use Prim.Native.Nat.{ℕ, suc, ◌+◌, ◌*◌, ◌≤◌, ◌<◌}
use mathlib.Core.Path.{◌≡◌, refl, sym, ap, ◌∙◌}
use mathlib.Core.Bool.{Bool, true, false, false≢true}
use mathlib.Core.List.{List}
use native.Mathlib.Nat.{mul-le-mul_right}
use native.Mathlib.Omega.{arith}
use borrow.Author.Tests.{leb-true, leb-false}
use lib.Dec.{eqb, leb}
use lib.ListN.{length, take, drop, length-take}
use Rattle.std.specs.Prelude.{Ok, Err}
use Rattle.units.specs.declared.kinds.Family.{Family}
use Rattle.words.specs.Reading.{fault_number, word_size, judged_in}
use Rattle.words.specs.declared.reading.Fault.{Fault}
use Rattle.blocks.specs.Judging.{is_at, is_wide, judged}
use Rattle.blocks.specs.Rules.{read_as, word_start}
use Rattle.blocks.specs.declared.answers.Refusal.TheVariants.{Wrong}
use Rattle.blocks.specs.declared.answers.Reading.{Reading}
use Rattle.blocks.proofs.Steps.{is_in, is_inside}
use Rattle.blocks.proofs.Accepted.{accepted}
use Rattle.blocks.proofs.Typed.{block_words, block_ends}
use Rattle.damage.proofs.Breaks.{same_byte, take_later}
use Rattle.damage.proofs.Blocks.{block_breaks}

-- an end that stands in one of two inputs up to where they are the same stands in the other
same_end : (s t : List ℕ) (n p : ℕ) → take n t ≡ take n s → p < n → is_at 13 (drop p t) ≡ true → is_at 13 (drop p s) ≡ true
same_end s t n p same near e =
    let inside = is_inside 13 t p e in
    let inside' : p < length s = omega (arith, length-take n t, length-take n s, ap length same) in
    is_in 13 s p inside' ∙ ap (λ b. eqb b 13) (sym (same_byte n p s t same near)) ∙ sym (is_in 13 t p inside) ∙ e

same_word : (s t : List ℕ) (p byte : ℕ) → take (suc (p + byte)) t ≡ take (suc (p + byte)) s → p < length t
    → take (suc byte) (drop p t) ≡ take (suc byte) (drop p s)
same_word s t p byte same inside =
    let all : suc (p + byte) ≡ p + suc byte = omega arith in
    let inside' : p < length s = omega (arith, length-take (suc (p + byte)) t, length-take (suc (p + byte)) s, ap length same) in
    sym (take_later p (suc byte) t (omega arith)) ∙ ap (drop p) (rw all at same) ∙ take_later p (suc byte) s (omega arith)

-- words of an accepted block are right, so that one has the bytes told only after its CR; and where that stands the refused one goes on
pub block_never : (f : Family) (s : List ℕ) (places : ℕ) (x : Fault) (at : ℕ) → (judged f s places).answer ≡ Err (Wrong x at)
    → 5 ≤ fault_number x → fault_number x ≤ 9
    → (t : List ℕ) → take (suc at) t ≡ take (suc at) s → (more : ℕ) (r : Reading) → (judged f t more).answer ≡ Ok r → ⊥
block_never f s places x at is low high t same more r e =
    let wide = is_wide s in
    let (own, first) = block_breaks f s places x at is low high in
    let k = own.number in
    let ws = (judged f t more).words in
    let n = length ws in
    let read : judged f t more ≡ read_as r ws = λ i. record { answer = e i; words = ws } in
    let width : r.wide ≡ wide = (accepted f t more r ws read).width ∙ ap (λ b. eqb b 42) (same_byte (suc at) 0 s t same (omega arith)) in
    let end : is_at 13 (drop (word_start wide n) t) ≡ true = rw width at (block_ends f t more r ws read) in
    let inside = is_inside 13 t (word_start wide n) end in
    let ends : n ≤ k → ⊥ = λ h.
    let near = mul-le-mul_right (word_size wide) h in
    false≢true (sym (own.unended n h) ∙ same_end s t (suc at) (word_start wide n) same (omega (arith, own.told)) end) in
    let goes : k < n → ⊥ = λ h.
    let start : k * word_size wide ≤ n * word_size wide = mul-le-mul_right (word_size wide) (omega arith) in
    let right = ap judged_in (rw width at (block_words f t more r ws read k h)) in
    first.never (drop (word_start wide k) t) (same_word s t (word_start wide k) own.byte (rw own.told at same) (omega arith)) right in
    either (leb n k) refl ends goes
  where
    either : {n k : ℕ} (b : Bool) → leb n k ≡ b → (n ≤ k → ⊥) → (k < n → ⊥) → ⊥
    either {n = n} {k = k} true q p o = p (leb-true n k q)
    either {n = n} {k = k} false q p o = o (leb-false n k q)
