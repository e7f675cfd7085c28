-- Mending need go no further than 32 words: a walk that goes on, to the input's end if it likes, comes to the same outcome.
use Prim.Native.Nat.{ℕ, zero, suc, ◌+◌, ◌≤◌}
use mathlib.Core.Path.{◌≡◌, refl, sym, ap, ◌∙◌}
use mathlib.Core.Bool.{Bool, true, false, cond}
use mathlib.Core.List.{List, [], ◌∷◌, ◌++◌}
use mathlib.Core.Logic.{◌⊎◌, inl, inr, ⊎_elim, ⊎_map}
use native.Mathlib.Omega.{arith}
use borrow.Author.Tests.{le-ltb, ltb-true, ltb-false}
use lib.Dec.{leb, ltb, eqb-suc-zero}
use lib.ListN.{length, drop, length-append, length-drop}
use lib.Seq.{drop_at}
use Rattle.std.specs.Prelude.{Ok, Err}
use Rattle.figures.specs.Text.{cr, star_bytes}
use Rattle.figures.proofs.Tests.{by_test}
use Rattle.words.specs.Reading.{word_size, Judged, judged_in, word_in, word_of}
use Rattle.words.proofs.Places.{never_past}
use Rattle.units.specs.declared.kinds.Family.{Family}
use Rattle.words.specs.declared.records.Word.{Word}
use Rattle.blocks.specs.Judging.{Judgement, is_at, is_wide, first_at, refused_by, after_word, block_from, judged}
use Rattle.blocks.specs.declared.answers.Refusal.{Refusal}
use Rattle.blocks.specs.declared.answers.Refusal.TheVariants.{Wrong, NoEnd, NoPlace}
use Rattle.listings.specs.Mending.{Mending, copied, joined, word_taken, is_end, end_mended, to_next, mended_from, mended_of, mended}
use Rattle.listings.specs.Outcome.{Outcome, refused_mend, outcome_by, outcome}
use Rattle.listings.proofs.Seen.{end_first, no_return}
use Rattle.listings.proofs.Turns.{no_end, over, at_end, nothing_left, step, steps, taken_least, step_long, last_word, word_first, step_unended}

-- one and the same refusal
abbrev Alike : Judgement → Judgement → Type 0
Alike j j' = (r : Refusal) × (j ≡ refused_by r) × (j' ≡ refused_by r)

-- two byte strings that the reader refuses alike where so many more words may come, whatever came before
abbrev BothRefused : Family → ℕ → Bool → List ℕ → List ℕ → Type 0
BothRefused f more wide t t' = (places at : ℕ) (ws : List Word) → Alike (block_from f more wide places at t ws) (block_from f more wide places at t' ws)

-- so it does with the same word before them
word_before : (f : Family) (more : ℕ) (wide : Bool) (w t t' : List ℕ) → length w ≡ word_size wide → ((u : List ℕ) → is_at cr (w ++ u) ≡ false)
    → BothRefused f more wide t t' → BothRefused f (suc more) wide (w ++ t) (w ++ t')
unfolding block_from
word_before f more wide w t t' size unended later places at ws =
    rw (
      unended t,
      unended t',
      le-ltb (length (w ++ t)) (word_size wide) (omega (arith, length-append w t)),
      le-ltb (length (w ++ t')) (word_size wide) (omega (arith, length-append w t')),
      never_past f wide w t (omega arith),
      never_past f wide w t' (omega arith),
      drop_at w t (word_size wide) size,
      drop_at w t' (word_size wide) size,
    )
    (by (leb places (length ws)) (judged_in (word_of f wide w)) (later places (at + word_size wide) (ws ++ (word_in (word_of f wide w) ∷ []))))
  where
    by : {j j' : Judgement} (full : Bool) (a : Judged) → Alike j j'
        → Alike (cond full (refused_by (NoPlace at)) (after_word at a j)) (cond full (refused_by (NoPlace at)) (after_word at a j'))
    by true a next = (NoPlace at, refl, refl)
    by false (Ok u) next = next
    by false (Err e) next = (Wrong e.fault (at + e.at), refl, refl)

-- where no end is next the walk starts as the input does
starts : (wide : Bool) (at x : ℕ) (rest : List ℕ) → is_end (x ∷ rest) ≡ false → (more : ℕ)
    → (u : List ℕ) × ((mended_from (suc more) wide at (x ∷ rest)).bytes ≡ x ∷ u)
starts wide at x rest q more = rw (steps more wide at (x ∷ rest) q, (word_first wide at x rest).1) (_, refl)

-- what holds of one walk and itself holds of two walks where an end is next, or nothing
unless_over : (P : Mending → Mending → Type 0) → ((m : Mending) → P m m) → (wide : Bool) (most more at : ℕ) (rest : List ℕ)
    → ((x : ℕ) (t : List ℕ) → rest ≡ x ∷ t → is_end (x ∷ t) ≡ false → P (mended_from most wide at (x ∷ t)) (mended_from more wide at (x ∷ t)))
    → P (mended_from most wide at rest) (mended_from more wide at rest)
unless_over P same wide most more at [] goes = rw (nothing_left most wide at, nothing_left more wide at) (same (copied []))
unless_over P same wide most more at (x ∷ t) goes =
    by_test (is_end (x ∷ t)) (λ q. rw (at_end most wide at (x ∷ t) q, at_end more wide at (x ∷ t) q) (same (end_mended at (x ∷ t)))) (goes x t refl)

-- a longer walk comes to the same, or the reader refuses both alike

abbrev Comes : Family → ℕ → Bool → Mending → Mending → Type 0
Comes f more wide m m' = (m ≡ m') ⊎ BothRefused f more wide m.bytes m'.bytes

module _ (f : Family) (wide : Bool) (at x : ℕ) (rest : List ℕ) (q : is_end (x ∷ rest) ≡ false) where
  -- after the last word that may come the reader finds no end, whatever stands there
  past_last : (k : ℕ) → BothRefused f 0 wide (mended_from (suc k) wide at (x ∷ rest)).bytes (mended_from 0 wide at (x ∷ rest)).bytes
  unfolding block_from
  past_last k places at₂ ws =
      (NoEnd at₂, rw (steps k wide at (x ∷ rest) q, step_unended wide at x rest _ q), rw (over 0 wide at (x ∷ rest) refl, no_end at (x ∷ rest) q))

  one_more : (most more : ℕ) → let to = to_next wide (x ∷ rest) in
      Comes f more wide (mended_from most wide (at + to) (drop to (x ∷ rest))) (mended_from more wide (at + to) (drop to (x ∷ rest)))
      → Comes f (suc more) wide (mended_from (suc most) wide at (x ∷ rest)) (mended_from (suc more) wide at (x ∷ rest))
  one_more most more later =
      let size = word_taken wide (x ∷ rest) in
      let here = step wide at (x ∷ rest) in
      by_test (ltb size (length (x ∷ rest))) (λ e.
      let long = step_long wide at (x ∷ rest) (ltb-true size (length (x ∷ rest)) e) in
      rw (steps most wide at (x ∷ rest) q, steps more wide at (x ∷ rest) q)
      (⊎_map (ap (joined here)) (word_before f more wide here.bytes _ _ long (λ u. step_unended wide at x rest u q)) later)) (λ e.
      let short = ltb-false size (length (x ∷ rest)) e in
      inl (last_word most wide at (x ∷ rest) q short ∙ sym (last_word more wide at (x ∷ rest) q short)))

further : (f : Family) (wide : Bool) (most more at : ℕ) (rest : List ℕ) → more ≤ most
    → Comes f more wide (mended_from most wide at rest) (mended_from more wide at rest)
further f wide zero zero at rest h = inl refl
further f wide zero (suc more) at rest h = absurd (omega arith)
further f wide (suc most) zero at rest h =
    unless_over (Comes f 0 wide) (λ _. inl refl) wide (suc most) 0 at rest (λ x t _ q. inr (past_last f wide at x t q most))
further f wide (suc most) (suc more) at rest h =
    unless_over (Comes f (suc more) wide) (λ _. inl refl) wide (suc most) (suc more) at rest (λ x t _ q.
    one_more f wide at x t q most more (further f wide most more (at + to_next wide (x ∷ t)) (drop (to_next wide (x ∷ t)) (x ∷ t)) (omega arith)))

-- the reader starts at the first word
judged_from : (f : Family) (s : List ℕ) (wide : Bool) (x : ℕ) (t u : List ℕ) → is_wide s ≡ wide → drop (first_at wide) s ≡ x ∷ t → is_at cr (x ∷ u) ≡ false
    → judged f (star_bytes wide ++ (x ∷ u)) 32 ≡ block_from f 32 wide 32 (first_at wide) (x ∷ u) []
judged_from f s true x t u e is unended = rw (eqb-suc-zero (suc (length u)), unended)
judged_from f s false x t u e is unended = let narrow = rw is at e in rw (narrow, eqb-suc-zero (length u), unended)

-- what is refused is refused whatever was mended
past_32 : (f : Family) (s room : List ℕ) (places most : ℕ) → 32 ≤ most
    → outcome_by (judged f (mended_of most s).bytes 32).answer (mended_of most s) room places ≡ outcome f s room places
unfolding mended
past_32 f s room places zero h = absurd (omega arith)
past_32 f s room places (suc most) h =
    unless_over (λ m m'. by m ≡ by m') (λ _. refl) wide (suc most) 32 first (drop first s) (λ x t is q.
    ⊎_elim (ap by) (λ alike. let (r, e, e') = alike 32 first [] in refused most x t is q r e ∙ sym (refused 31 x t is q r e'))
    (further f wide (suc most) 32 first (x ∷ t) h))
  where
    wide : Bool
    wide = is_wide s

    first : ℕ
    first = first_at wide

    by : Mending → Outcome
    by m = let all = joined (copied (star_bytes wide)) m in outcome_by (judged f all.bytes 32).answer all room places

    refused : (more x : ℕ) (t : List ℕ) → drop first s ≡ x ∷ t → is_end (x ∷ t) ≡ false → (r : Refusal)
        → block_from f 32 wide 32 first (mended_from (suc more) wide first (x ∷ t)).bytes [] ≡ refused_by r
        → by (mended_from (suc more) wide first (x ∷ t)) ≡ refused_mend room r
    refused more x t is q r e =
        let (u, begins) = starts wide first x t q more in
        rw (begins, judged_from f s wide x t u refl is (no_return (x ∷ u) (end_first x u t ∙ q)), rw begins at e)

pub no_further : (f : Family) (s room : List ℕ) (places k : ℕ)
    → outcome_by (judged f (mended_of (32 + k) s).bytes 32).answer (mended_of (32 + k) s) room places ≡ outcome f s room places
no_further f s room places k = past_32 f s room places (32 + k) (omega arith)

-- a walk of as many words as the input has bytes comes to its end: more words change nothing

no_longer : (wide : Bool) (most more at : ℕ) (rest : List ℕ) → length rest ≤ more → more ≤ most → mended_from most wide at rest ≡ mended_from more wide at rest
no_longer wide most zero at rest few h = unless_over (λ m m'. m ≡ m') (λ _. refl) wide most 0 at rest (λ x t is _. absurd (omega (arith, ap length is)))
no_longer wide zero (suc more) at rest few h = absurd (omega arith)
no_longer wide (suc most) (suc more) at rest few h =
    unless_over (λ m m'. m ≡ m') (λ _. refl) wide (suc most) (suc more) at rest (λ x t is q.
    let to = to_next wide (x ∷ t) in
    let fewer : length (drop to (x ∷ t)) ≤ more = omega (arith, length-drop to (x ∷ t), ap length is, taken_least wide (x ∷ t)) in
    rw (steps most wide at (x ∷ t) q, steps more wide at (x ∷ t) q)
    (ap (joined (step wide at (x ∷ t))) (no_longer wide most more (at + to) (drop to (x ∷ t)) fewer (omega arith))))

pub to_the_end : (f : Family) (s room : List ℕ) (places : ℕ)
    → outcome_by (judged f (mended_of (length s) s).bytes 32).answer (mended_of (length s) s) room places ≡ outcome f s room places
to_the_end f s room places =
    let first = first_at (is_wide s) in
    let few : length (drop first s) ≤ length s = omega (arith, length-drop first s) in
    rw (← no_longer (is_wide s) (32 + length s) (length s) first (drop first s) few (omega arith)) (no_further f s room places (length s))
