-- What the loops over a lent list know of the records that they store or copy: how many they are, and what the list or the block then is.
use mathlib.Core.Path.{◌≡◌, refl}
use mathlib.Core.Bool.{Bool, true, false}
use mathlib.Core.List.{List, [], ◌∷◌, ◌++◌}
use Prim.Native.Nat.{ℕ, zero, suc, ◌+◌, ◌*◌, ◌≤◌, zero-le}
use native.Mathlib.Omega.{arith}
use lib.Dec.{eqb}
use lib.ListN.{length, drop, length-append}
use Rattle.std.specs.Prelude.{Ok, Err}
use Rattle.words.specs.Reading.{word_size, word_of, Judged, judged_wrong, judged_in, word_in}
use Rattle.units.specs.declared.kinds.Family.{Family}
use Rattle.words.specs.declared.records.Word.{Word}
use Rattle.words.specs.declared.reading.Fault.{Fault}
use Rattle.words.specs.declared.reading.Fault.TheVariants.{Short}
use Rattle.words.proofs.Told.{told_within}
use Rattle.blocks.specs.declared.answers.Refusal.{Refusal}
use Rattle.blocks.specs.declared.answers.Refusal.TheVariants.{Empty, Wrong, NoWord, NoEnd, NoPlace}
use Rattle.blocks.specs.Answers.{refusal_tells}
use Rattle.blocks.specs.Judging.{Judgement, is_at, is_wide, first_at, refused_by, ended_at, after_word, block_from, judged}
use Rattle.blocks.proofs.Steps.{cond_by, start_by, start_small}

-- so many records go into a block, and into a list of so many places
abbrev pub Few : ℕ → ℕ → Type 0
Few n places = (n ≤ 32) × (n ≤ places)

none_few : (places : ℕ) → Few 0 places
none_few places = (zero-le, zero-le)

pub size_le : (wide : Bool) → word_size wide ≤ 24
size_le true = omega arith
size_le false = omega arith

-- what holds of each refusal that tells no place past the last word's end, and of each block that ends there or before, holds of what is judged
module _ (f : Family) (places : ℕ) (P : Judgement → Type 0) (refuses : (r : Refusal) → refusal_tells r ≤ 769 → P (refused_by r))
    (ends : (wide : Bool) (at : ℕ) (rest : List ℕ) (ws : List Word) → at ≤ 769 → Few (length ws) places
    → P (record { answer = ended_at wide at rest (length ws); words = ws })) where
  after_by : (at : ℕ) (a : Judged) (j : Judgement) → ((x : Fault) (byte : ℕ) → a ≡ judged_wrong x byte → at + byte ≤ 769) → P j → P (after_word at a j)
  after_by at (Ok u) j h p = p
  after_by at (Err e) j h p = refuses (Wrong e.fault (at + e.at)) (h e.fault e.at refl)

  from_by : (more : ℕ) (wide : Bool) (at : ℕ) (rest : List ℕ) (ws : List Word) → at + more * 24 ≤ 769 → length ws + more ≤ 32 → length ws ≤ places
      → P (block_from f more wide places at rest ws)
  unfolding block_from
  from_by zero wide at rest ws a h k = cond_by P (is_at 13 rest) _ _ (λ _. ends wide at rest ws (omega arith) (omega arith, k)) (λ _. refuses (NoEnd at) (omega arith))
  from_by (suc more) wide at rest ws a h k =
      start_by P false (word_size wide) places (length ws) at rest refused_by _ _ (λ _. ends wide at rest ws (omega arith) (omega arith, k)) (refuses (NoEnd at) (omega arith))
      (λ _ _. refuses (Wrong Short at) (omega arith)) (refuses (NoPlace at) (omega arith)) (λ _ _ _ free.
      let w = word_in (word_of f wide rest) in
      let next = at + word_size wide in
      let later = drop (word_size wide) rest in
      let one_more : length (ws ++ (w ∷ [])) ≡ length ws + 1 = length-append ws (w ∷ []) in
      after_by at (judged_in (word_of f wide rest)) (block_from f more wide places next later (ws ++ (w ∷ [])))
      (λ x byte told. omega (arith, told_within f wide rest x byte told, size_le wide))
      (from_by more wide next later (ws ++ (w ∷ [])) (omega (arith, size_le wide)) (omega arith) (omega arith)))

  pub judged_by : (s : List ℕ) → P (judged f s places)
  judged_by s =
      let wide = is_wide s in
      let rest = drop (first_at wide) s in
      cond_by P (eqb (length s) 0) _ _ (λ _. refuses Empty (omega arith)) (λ _.
      cond_by P (is_at 13 rest) _ _ (λ _. refuses NoWord (omega arith)) (λ _.
      from_by 32 wide (first_at wide) rest [] (omega (arith, start_small wide)) (omega arith) (omega arith)))

pub judged_few : (f : Family) (places : ℕ) (s : List ℕ) → Few (length (judged f s places).words) places
judged_few f places s = judged_by f places (λ j. Few (length j.words) places) (λ r h. none_few places) (λ wide at rest ws h few. few) s
