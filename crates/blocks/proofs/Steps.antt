-- Laws of the walk through a block: whether a byte stands at a place, what one step finds, and what the block is after it.
use Prim.Native.Nat.{ℕ, zero, suc, ◌+◌, ◌-◌, ◌<◌, ◌≤◌}
use Rattle.std.specs.Prelude.{Result, Ok, Err}
use mathlib.Core.Path.{◌≡◌, refl}
use mathlib.Core.Bool.{Bool, true, false, cond}
use mathlib.Core.List.{List, [], ◌∷◌, ◌++◌}
use native.Mathlib.Nat.{add-zero}
use native.Mathlib.Omega.{arith}
use borrow.Author.Tests.{lt-ltb, le-ltb, le-leb, lt-leb, ltb-true, ltb-false, leb-false}
use lib.Dec.{eqb, leb, ltb}
use lib.ListN.{length, get_or, drop, length-drop, drop_of_length-le}
use lib.Seq.{get_or-drop, drop-drop}
use Rattle.words.specs.Records.{width}
use Rattle.words.specs.Reading.{word_size, word_of, Judged, judged_right, judged_in, word_in, OneWord, right_word}
use Rattle.units.specs.declared.kinds.Family.{Family}
use Rattle.words.specs.declared.records.Word.{Word}
use Rattle.words.specs.declared.reading.Fault.TheVariants.{Short}
use Rattle.blocks.specs.declared.answers.Refusal.{Refusal}
use Rattle.blocks.specs.declared.answers.Refusal.TheVariants.{Empty, Wrong, NoWord, NoEnd, NoPlace}
use Rattle.blocks.specs.declared.judging.Next.{Next}
use Rattle.blocks.specs.declared.judging.Next.TheVariants.{Ends, Goes}
use Rattle.blocks.specs.Judging.{Judgement, is_at, is_wide, first_at, ended_at, refused_by, after_word, at_start, block_from, judged}
use Rattle.blocks.specs.Keeping.{opened, step_of, next_of}

-- no two constructors are equal, so nothing is left to show
pub apart : {A : Type 0} → ◌≡◌ {A = ℕ} 0 1 → A
apart z = absurd (omega arith)

-- a right word is its record
pub right_is : (o : OneWord) → judged_in o ≡ judged_right → o ≡ right_word (word_in o)
right_is (Ok w) e = refl
right_is (Err x) e = apart cc

pub width_small : (wide : Bool) → width wide ≤ 16
width_small true = omega arith
width_small false = omega arith

-- a byte at a place

pub is_in : (b : ℕ) (s : List ℕ) (at : ℕ) → at < length s → is_at b (drop at s) ≡ eqb (get_or s at 0) b
is_in b s at h = rw (lt-ltb 0 (length (drop at s)) (omega (arith, length-drop at s)), get_or-drop at s 0 0, add-zero at)

pub is_past : (b : ℕ) (s : List ℕ) (at : ℕ) → length s ≤ at → is_at b (drop at s) ≡ false
is_past b s at h = rw (drop_of_length-le s h)

pub is_inside : (b : ℕ) (s : List ℕ) (at : ℕ) → is_at b (drop at s) ≡ true → at < length s
is_inside b s at e = omega (arith, ltb-true 0 (length (drop at s)) (is_on (ltb 0 (length (drop at s))) (eqb (get_or (drop at s) 0 0) b) e), length-drop at s)
  where
    is_on : (t u : Bool) → cond t u false ≡ true → t ≡ true
    is_on true u e = refl
    is_on false u e = e

-- what holds of each thing that may come where a word would start holds of what comes there

pub cond_by : {A : Type 0} (P : A → Type 0) (t : Bool) (a b : A) → (t ≡ true → P a) → (t ≡ false → P b) → P (cond t a b)
cond_by P true a b h k = h refl
cond_by P false a b h k = k refl

pub start_by : {A : Type 0} (P : A → Type 0) (full : Bool) (size places n at : ℕ) (rest : List ℕ) (refuse : Refusal → A) (ended word : A)
    → (is_at 13 rest ≡ true → P ended) → P (refuse (NoEnd at)) → (is_at 13 rest ≡ false → length rest < size → P (refuse (Wrong Short at)))
    → P (refuse (NoPlace at)) → (is_at 13 rest ≡ false → full ≡ false → size ≤ length rest → n < places → P word)
    → P (at_start full size places n at rest ended refuse word)
start_by P full size places n at rest refuse ended word ends no_end short no_place goes =
    cond_by P (is_at 13 rest) _ _ ends (λ going.
    cond_by P full _ _ (λ _. no_end) (λ more.
    cond_by P (ltb (length rest) size) _ _ (λ e. short going (ltb-true (length rest) size e)) (λ e.
    cond_by P (leb places n) _ _ (λ _. no_place) (λ free. goes going more (ltb-false (length rest) size e) (leb-false places n free)))))

-- what a step finds

module _ (f : Family) (wide : Bool) (places n at : ℕ) (rest : List ℕ) where
  pub next_ends : is_at 13 rest ≡ true → next_of f wide places n at rest ≡ Ok Ends
  next_ends e = rw e

  module _ (e : is_at 13 rest ≡ false) where
    pub next_word : n < 32 → word_size wide ≤ length rest → n < places → next_of f wide places n at rest ≡ step_of at (judged_in (word_of f wide rest))
    next_word h hl hp = rw (e, lt-leb 32 n h, le-ltb (length rest) (word_size wide) hl, lt-leb places n hp)

-- what the block is after a step

abbrev pub went : Judgement → Judgement → Result Next Refusal → Judgement
went ended more (Ok Ends) = ended
went ended more (Err r) = refused_by r
went ended more (Ok Goes) = more

went_last : (t : Bool) (ended more : Judgement) (r : Refusal) → cond t ended (refused_by r) ≡ went ended more (cond t (Ok Ends) (Err r))
went_last true ended more r = refl
went_last false ended more r = refl

went_more : (t u v : Bool) (ended more : Judgement) (r s : Refusal) (at : ℕ) (a : Judged)
    → cond t ended (cond u (refused_by r) (cond v (refused_by s) (after_word at a more)))
    ≡ went ended more (cond t (Ok Ends) (cond u (Err r) (cond v (Err s) (step_of at a))))
went_more true u v ended more r s at a = refl
went_more false true v ended more r s at a = refl
went_more false false true ended more r s at a = refl
went_more false false false ended more r s at (Ok u) = refl
went_more false false false ended more r s at (Err e) = refl

module _ (f : Family) (wide : Bool) (places n at : ℕ) (rest : List ℕ) (ws : List Word) where
  abbrev pub done : Judgement
  done = record { answer = ended_at wide at rest n; words = ws }

  abbrev pub further : Judgement
  further =
      block_from f (32 - (n + 1)) wide places (at + word_size wide) (drop (word_size wide) rest) (ws ++ (word_in (word_of f wide rest) ∷ []))

  -- the walk's order is the step's
  pub block_walk : n ≤ 32 → length ws ≡ n → block_from f (32 - n) wide places at rest ws ≡ went done further (next_of f wide places n at rest)
  unfolding block_from
  block_walk h hn = go (32 - n) refl
    where
      go : (m : ℕ) → 32 - n ≡ m → block_from f m wide places at rest ws ≡ went done further (next_of f wide places n at rest)
      go zero e = rw (hn, le-leb 32 n (omega arith)) (went_last (is_at 13 rest) done further (NoEnd at))
      go (suc m) e =
          let left : 32 - (n + 1) ≡ m = omega arith in
          rw (hn, lt-leb 32 n (omega arith), ← left)
          (went_more (is_at 13 rest) (ltb (length rest) (word_size wide)) (leb places n) done further (Wrong Short at) (NoPlace at) at
          (judged_in (word_of f wide rest)))

-- after a word the walk goes on where the word has ended
pub walk_on : (f : Family) (more at size : ℕ) (wide : Bool) (places : ℕ) (s : List ℕ) (ws : List Word) → size ≡ word_size wide
    → block_from f more wide places (at + word_size wide) (drop (word_size wide) (drop at s)) ws ≡ block_from f more wide places (at + size) (drop (at + size) s) ws
walk_on f more at size wide places s ws e = rw (e, drop-drop (word_size wide) at s)

-- what a step that found a word tells of its place

module _ (f : Family) (wide : Bool) (places n at : ℕ) (s : List ℕ) (r : Result Next Refusal) (found : r ≡ next_of f wide places n at (drop at s)) where
  pub goes_inside : at ≤ length s → r ≡ Ok Goes → (n < 32) × (at + word_size wide ≤ length s)
  goes_inside h e =
      start_by (λ (t : Result Next Refusal). t ≡ Ok Goes → (n < 32) × (at + word_size wide ≤ length s)) (leb 32 n) (word_size wide) places n at (drop at s)
      Err _ _ (λ _ q. apart cc) (λ q. apart cc) (λ _ _ q. apart cc) (λ q. apart cc)
      (λ _ more long _ _. (leb-false 32 n more, omega (arith, length-drop at s))) (rw found at e)

-- the block's start

pub start_small : (wide : Bool) → first_at wide ≤ 1
start_small true = omega arith
start_small false = omega arith

abbrev pub on_open : Result Bool Refusal → (Bool → Judgement) → Judgement
on_open (Ok wide) words = words wide
on_open (Err r) words = refused_by r

-- a block that opens is its words
pub judged_open : (f : Family) (s : List ℕ) (places : ℕ) {o : Result Bool Refusal} → o ≡ opened s
    → judged f s places ≡ on_open o (λ wide. block_from f 32 wide places (first_at wide) (drop (first_at wide) s) [])
judged_open f s places e =
    rw e
    (go (eqb (length s) 0) (is_at 13 (drop (first_at (is_wide s)) s)) (is_wide s)
    (λ wide. block_from f 32 wide places (first_at wide) (drop (first_at wide) s) []))
  where
    go : (a b wide : Bool) (words : Bool → Judgement) → cond a (refused_by Empty) (cond b (refused_by NoWord) (words wide))
        ≡ on_open (cond a (Err Empty) (cond b (Err NoWord) (Ok wide))) words
    go true b wide words = refl
    go false true wide words = refl
    go false false wide words = refl
