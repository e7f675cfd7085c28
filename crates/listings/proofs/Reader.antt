-- What the reader's answer says of a block that it reads: where a word would start a CR ends it, or a right word comes and then so.
use Prim.Native.Nat.{ℕ, zero, suc, ◌+◌, ◌≤◌}
use mathlib.Core.Path.{◌≡◌, refl, sym, ◌∙◌}
use mathlib.Core.Bool.{Bool, true, false, cond, false≢true}
use mathlib.Core.List.{List, [], ◌∷◌, ◌++◌}
use lib.Dec.{eqb}
use lib.ListN.{length, drop}
use Rattle.std.specs.Prelude.{Ok, Err}
use Rattle.figures.specs.Text.{cr, lf}
use Rattle.figures.proofs.Tests.{clash}
use Rattle.units.specs.declared.kinds.Family.{Family}
use Rattle.words.specs.Reading.{word_size, Judged, judged_right, judged_in, word_in, word_of}
use Rattle.words.specs.declared.records.Word.{Word}
use Rattle.blocks.specs.Judging.{Judgement, is_at, is_wide, first_at, refused_by, after_word, block_from, judged}
use Rattle.blocks.specs.declared.answers.Reading.{Reading}
use Rattle.blocks.specs.declared.answers.Refusal.TheVariants.{NoEnd}
use Rattle.blocks.proofs.Steps.{cond_by, start_by}

pub judged_reads : (f : Family) (s : List ℕ) (places : ℕ) (r : Reading) → (judged f s places).answer ≡ Ok r
    → (block_from f 32 (is_wide s) places (first_at (is_wide s)) (drop (first_at (is_wide s)) s) []).answer ≡ Ok r
judged_reads f s places r =
    let start = first_at (is_wide s) in
    let P : Judgement → Type 0 = λ j. j.answer ≡ Ok r → (block_from f 32 (is_wide s) places start (drop start s) []).answer ≡ Ok r in
    cond_by P (eqb (length s) 0) _ _ (λ _ e. absurd (clash (cc))) (λ _.
    cond_by P (is_at cr (drop start s)) _ _ (λ _ e. absurd (clash (cc))) (λ _ e. e))

-- a right word, and what is read after it
pub record WordRead (f : Family) (more : ℕ) (wide : Bool) (places at : ℕ) (t : List ℕ) (ws : List Word) (r : Reading) : Type 0 where
  pub long : word_size wide ≤ length t
  pub right : judged_in (word_of f wide t) ≡ judged_right
  pub next : (block_from f more wide places (at + word_size wide) (drop (word_size wide) t) (ws ++ (word_in (word_of f wide t) ∷ []))).answer ≡ Ok r

module _ (f : Family) (wide : Bool) (places at : ℕ) (t : List ℕ) (ws : List Word) (r : Reading) where
  pub read_end : (more : ℕ) → is_at cr t ≡ true → (block_from f more wide places at t ws).answer ≡ Ok r
      → r ≡ record { wide = wide; crlf = is_at lf (drop 1 t); words = length ws; used = cond (is_at lf (drop 1 t)) (at + 2) (at + 1) }
  unfolding block_from
  read_end zero q e = let is = rw q at e in cc
  read_end (suc more) q e = let is = rw q at e in cc

  pub read_none : is_at cr t ≡ false → (block_from f 0 wide places at t ws).answer ≡ Ok r → ⊥
  unfolding block_from
  read_none q e =
      let is : Err (NoEnd at) ≡ Ok r = rw q at e in
      clash (cc)

  pub read_word : (more : ℕ) → is_at cr t ≡ false → (block_from f (suc more) wide places at t ws).answer ≡ Ok r → WordRead f more wide places at t ws r
  unfolding block_from
  read_word more unended =
      start_by (λ (j : Judgement). j.answer ≡ Ok r → WordRead f more wide places at t ws r) false (word_size wide) places (length ws) at t refused_by _ _
      (λ q. absurd (false≢true (sym unended ∙ q))) (λ e. absurd (clash (cc))) (λ _ _ e. absurd (clash (cc))) (λ e. absurd (clash (cc)))
      (λ _ _ long _. by (judged_in (word_of f wide t)) refl long)
    where
      by : (a : Judged) → judged_in (word_of f wide t) ≡ a → word_size wide ≤ length t
          → (after_word at a (block_from f more wide places (at + word_size wide) (drop (word_size wide) t) (ws ++ (word_in (word_of f wide t) ∷ [])))).answer ≡ Ok r
          → WordRead f more wide places at t ws r
      by (Ok u) right long e = record { long = long; right = right; next = e }
      by (Err x) right long e = absurd (clash (cc))
