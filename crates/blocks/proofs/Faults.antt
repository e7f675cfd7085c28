-- A block that a word's fault refuses: it is the first of its words that has one, and the byte told is that word's. "10 now means angle out of range
-- alone" (request 102): what is told is the first data byte of such an angle, and a level's block, which has none, is never refused so.
use Prim.Native.Nat.{ℕ, zero, suc, ◌+◌, ◌≤◌, ◌<◌}
use mathlib.Core.Path.{◌≡◌, refl, ap, ◌∙◌}
use mathlib.Core.Bool.{Bool, true, false}
use mathlib.Core.List.{List, []}
use native.Mathlib.Nat.{zero-mul, suc-mul}
use native.Mathlib.Omega.{arith}
use borrow.Author.Tests.{eqb-true, eqb-false, lt-leb}
use lib.Dec.{eqb}
use lib.ListN.{length, drop}
use lib.Seq.{drop-drop}
use Rattle.std.specs.Prelude.{Err, Ok}
use Rattle.figures.specs.Decimal.{number_of}
use Rattle.units.specs.Counts.{angle_at}
use Rattle.words.specs.Reading.{fault_number, word_size, pos, data_in, kind_at, is_counted, word_of, Judged, judged_right, judged_wrong, judged_in}
use Rattle.words.proofs.Signs.{ten_angle, level_ten}
use Rattle.units.specs.declared.kinds.Family.{Family}
use Rattle.units.specs.declared.kinds.Family.TheVariants.{Level}
use Rattle.units.specs.declared.kinds.Kind.TheVariants.{Angle}
use Rattle.words.specs.declared.records.Word.{Word}
use Rattle.words.specs.declared.reading.Fault.{Fault}
use Rattle.words.specs.declared.reading.Fault.TheVariants.{Short}
use Rattle.blocks.specs.Answers.{refusal_number, refusal_tells}
use Rattle.blocks.specs.Judging.{Judgement, is_at, is_wide, first_at, refused_by, after_word, block_from, judged}
use Rattle.blocks.specs.Rules.{word_start, judged_word, FirstFault}
use Rattle.blocks.specs.declared.answers.Refusal.{Refusal}
use Rattle.blocks.specs.declared.answers.Refusal.TheVariants.{Empty, Wrong, NoWord, NoEnd, NoPlace, Count, Record, Room}
use Rattle.blocks.proofs.Steps.{apart, cond_by, start_by}

up_to : (P : ℕ → Type 0) (k : ℕ) → ((j : ℕ) → j < k → P j) → P k → (j : ℕ) → j ≤ k → P j
up_to P k before here j h = go (eqb j k) refl
  where
    go : (b : Bool) → eqb j k ≡ b → P j
    go true e = rw (eqb-true j k e) here
    go false e = before j (omega (arith, eqb-false j k e))

module _ (f : Family) (s : List ℕ) where
  -- a word is right, and not the block's end
  abbrev Past : ℕ → Type 0
  Past k = (judged_in (judged_word f s k) ≡ judged_right) × (is_at 13 (drop (word_start (is_wide s) k) s) ≡ false)

  -- where a word's fault refuses, it is the first
  abbrev Sound : Judgement → Type 0
  Sound j = (x : Fault) (at : ℕ) → j.answer ≡ Err (Wrong x at) → FirstFault f s x at

  by_own : (y : Fault) (p : ℕ) → FirstFault f s y p → Sound (refused_by (Wrong y p))
  by_own y p first x at e =
      let same : y ≡ x = cc in
      let place : p ≡ at = cc in
      rw (same, place) at first

  from_word : (more places k at : ℕ) (rest : List ℕ) (ws : List Word) → at ≡ word_start (is_wide s) k → rest ≡ drop at s → k + more ≤ 32
      → ((j : ℕ) → j < k → Past j) → Sound (block_from f more (is_wide s) places at rest ws)
  unfolding block_from
  from_word zero places k at rest ws from is few past = cond_by Sound (is_at 13 rest) _ _ (λ _ x p e. apart cc) (λ _ x p e. apart cc)
  from_word (suc more) places k at rest ws from is few past =
      let wide = is_wide s in
      let size = word_size wide in
      let here : rest ≡ drop (word_start wide k) s = rw (← from) is in
      let zero_more : at + 0 ≡ at = omega arith in
      let first : is_at 13 rest ≡ false → (x : Fault) (byte : ℕ) → judged_in (word_of f wide rest) ≡ judged_wrong x byte → FirstFault f s x (at + byte) =
      λ going x byte e.
      record {
        number = k;
        few = omega arith;
        byte = byte;
        told = omega arith;
        fault = rw (← here) e;
        before = λ j h. (past j h).0;
        unended = up_to (λ j. is_at 13 (drop (word_start wide j) s) ≡ false) k (λ j h. (past j h).1) (rw (← here) going);
      } in
      start_by Sound false size places (length ws) at rest refused_by _ _ (λ _ x p e. apart cc) (λ x p e. apart cc)
      (λ going short. by_own Short at (rw zero_more at (first going Short 0 (rw (lt-leb size (length rest) short))))) (λ x p e. apart cc) (λ going _ _ _.
      by_answer (judged_in (word_of f wide rest)) refl _ (first going) (λ e.
      from_word more places (suc k) (at + size) (drop size rest) _ (omega (arith, suc-mul k size)) (ap (drop size) is ∙ drop-drop size at s) (omega arith)
      (λ j h. up_to Past k past (rw (← here) e, rw (← here) going) j (omega arith))))
    where
      by_answer : (a : Judged) → judged_in (word_of f (is_wide s) rest) ≡ a → (next : Judgement)
          → ((x : Fault) (byte : ℕ) → judged_in (word_of f (is_wide s) rest) ≡ judged_wrong x byte → FirstFault f s x (at + byte))
          → (judged_in (word_of f (is_wide s) rest) ≡ judged_right → Sound next) → Sound (after_word at a next)
      by_answer (Ok u) e next first later = later e
      by_answer (Err x) e next first later = by_own x.fault (at + x.at) (first x.fault x.at e)

-- refusals 2, 5 to 10 and 15 are those of a word, tell the byte that the word's own refusal does, and no word before it has a fault
pub own_fault : (f : Family) (s : List ℕ) (places : ℕ) (x : Fault) (at : ℕ) → (judged f s places).answer ≡ Err (Wrong x at) → FirstFault f s x at
own_fault f s places =
    let start = first_at (is_wide s) in
    cond_by (Sound f s) (eqb (length s) 0) _ _ (λ _ x p e. apart cc) (λ _.
    cond_by (Sound f s) (is_at 13 (drop start s)) _ _ (λ _ x p e. apart cc) (λ _.
    from_word f s 32 places 0 start (drop start s) [] (omega (arith, zero-mul (word_size (is_wide s)))) refl (omega arith) (λ j h. absurd (omega arith))))

-- refused by 10, a block is so by one of its words
ten_own : (f : Family) (s : List ℕ) (places : ℕ) (r : Refusal) → (judged f s places).answer ≡ Err r → refusal_number r ≡ 10
    → (x : Fault) × (fault_number x ≡ 10) × FirstFault f s x (refusal_tells r)
ten_own f s places Empty is ten = absurd (omega arith)
ten_own f s places (Wrong x at) is ten = (x, ten, own_fault f s places x at is)
ten_own f s places NoWord is ten = absurd (omega arith)
ten_own f s places (NoEnd at) is ten = absurd (omega arith)
ten_own f s places (NoPlace at) is ten = absurd (omega arith)
ten_own f s places Count is ten = absurd (omega arith)
ten_own f s places (Record at) is ten = absurd (omega arith)
ten_own f s places (Room bytes) is ten = absurd (omega arith)

-- an angle out of its range, the block's first fault, and its first data byte
pub block_ten : (f : Family) (s : List ℕ) (places : ℕ) (r : Refusal) → (judged f s places).answer ≡ Err r → refusal_number r ≡ 10
    → (x : Fault) × (own : FirstFault f s x (refusal_tells r)) × (own.byte ≡ 7)
    × (let word = drop (word_start (is_wide s) own.number) s in
    (kind_at f word ≡ Angle) × (is_counted (angle_at (pos 6 word) 0 (number_of (data_in (is_wide s) word))) ≡ false))
block_ten f s places r is ten =
    let (x, of, own) = ten_own f s places r is ten in
    let (angle, out, seven) = ten_angle f (is_wide s) (drop (word_start (is_wide s) own.number) s) x own.byte own.fault of in
    (x, own, seven, (angle, out))

pub level_other : (s : List ℕ) (places : ℕ) (r : Refusal) → (judged Level s places).answer ≡ Err r → refusal_number r ≡ 10 → ⊥
level_other s places r is ten =
    let (x, of, own) = ten_own Level s places r is ten in
    level_ten (is_wide s) (drop (word_start (is_wide s) own.number) s) x own.byte own.fault of
