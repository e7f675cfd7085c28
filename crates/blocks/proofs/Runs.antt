-- Laws of the words that are right from a place on: each has its bytes and is one step of the walk through a block, and so the block's answer is what comes
-- after them.
use Prim.Native.Nat.{ℕ, zero, suc, ◌+◌, ◌-◌, ◌*◌, ◌<◌, ◌≤◌, min}
use Rattle.std.specs.Prelude.{Ok, Err, is_ok}
use mathlib.Core.Path.{◌≡◌, refl, sym, ap, ◌∙◌}
use mathlib.Core.Bool.{Bool, true, false, false≢true}
use mathlib.Core.List.{List, [], ◌∷◌, ◌++◌}
use native.Mathlib.Nat.{add-zero, zero-mul, suc-mul}
use native.Mathlib.Numerals.{add-one}
use native.Mathlib.Omega.{arith}
use borrow.Author.Tests.{lt-ltb, ltb-true, ltb-false, leb-true}
use lib.Dec.{leb, ltb}
use lib.ListN.{length, get_or, take, drop, length-append, length-drop}
use lib.Seq.{drop-drop, take_all}
use Rattle.figures.proofs.Decimal.{digit_not}
use Rattle.words.specs.Reading.{word_size, unless, word_of, OneWord, judged_right, judged_in, word_in}
use Rattle.words.proofs.RoundTrip.{first_digit}
use Rattle.units.specs.declared.kinds.Family.{Family}
use Rattle.words.specs.declared.records.Word.{Word}
use Rattle.words.specs.declared.reading.Fault.{Fault}
use Rattle.words.specs.declared.reading.Fault.TheVariants.{Short}
use Rattle.blocks.specs.Judging.{Answer, Judgement, is_at, ended_at, block_from}
use Rattle.blocks.specs.declared.judging.Next.TheVariants.{Goes}
use Rattle.blocks.specs.Keeping.{step_of, next_of, AnswersFrom, Runs}
use Rattle.blocks.proofs.Steps.{apart, right_is, next_ends, next_word, went, done, further, block_walk}

pub fit_right : (a : OneWord) → is_ok a ≡ true → judged_in a ≡ judged_right
fit_right (Ok w) e = refl
fit_right (Err x) e = absurd (false≢true e)

-- a part of the input from a place on is all that stands there
pub part_all : (s : List ℕ) (at : ℕ) → take (length s - at) (drop at s) ≡ drop at s
part_all s at = take_all (length s - at) (drop at s) (omega (arith, length-drop at s))

-- a right word has all of its bytes, and no CR where it starts

right_by : (b : Bool) (x : Fault) (at : ℕ) (r : OneWord) → judged_in (unless b x at r) ≡ judged_right → b ≡ true
right_by true x at r e = refl
right_by false x at r e = apart cc

module _ (f : Family) (wide : Bool) (s : List ℕ) (e : judged_in (word_of f wide s) ≡ judged_right) where
  pub right_long : word_size wide ≤ length s
  right_long = leb-true (word_size wide) (length s) (right_by (leb (word_size wide) (length s)) Short 0 _ e)

  pub right_no_end : is_at 13 s ≡ false
  right_no_end =
      let digit = first_digit f wide s (word_in (word_of f wide s)) (right_is (word_of f wide s) e) in
      rw (lt-ltb 0 (length s) (omega (arith, right_long)), digit_not (get_or s 0 0) 13 digit (omega arith))

-- the bytes of a right word lie inside the input
pub right_inside : (f : Family) (wide : Bool) (s : List ℕ) (at : ℕ) → judged_in (word_of f wide (drop at s)) ≡ judged_right
    → at + word_size wide ≤ length s
right_inside f wide s at e = omega (arith, right_long f wide (drop at s) e, length-drop at s)

-- no right word, and one more

pub next_start : (n size : ℕ) → (n + 1) * size ≡ n * size + size
next_start n size = rw (add-one n) (suc-mul n size)

pub run_none : (f : Family) (wide : Bool) (start most : ℕ) (s : List ℕ) → start ≤ length s → Runs f wide start most s 0
run_none f wide start most s h = record {
  few = omega arith;
  inside = omega (arith, zero-mul (word_size wide));
  right = λ k below. absurd (omega arith);
}

pub run_more : (f : Family) (wide : Bool) (start most : ℕ) (s : List ℕ) (n : ℕ) → Runs f wide start most s n → n < most
    → judged_in (word_of f wide (drop (start + n * word_size wide) s)) ≡ judged_right → Runs f wide start most s (n + 1)
run_more f wide start most s n runs h e = record {
  few = omega arith;
  inside = omega (arith, right_inside f wide s (start + n * word_size wide) e, next_start n (word_size wide));
  right = λ k below. go k below (ltb k n) refl;
}
  where
    go : (k : ℕ) → k < n + 1 → (t : Bool) → ltb k n ≡ t → judged_in (word_of f wide (drop (start + k * word_size wide) s)) ≡ judged_right
    go k below true q = runs.right k (ltb-true k n q)
    go k below false q =
        let same : k ≡ n = omega (arith, ltb-false k n q) in
        rw same e

-- n right words are n steps of the walk
pub run_on : (f : Family) (wide : Bool) (places start : ℕ) (s : List ℕ) (n : ℕ) → n ≤ 32 → n ≤ places
    → ((k : ℕ) → k < n → judged_in (word_of f wide (drop (start + k * word_size wide) s)) ≡ judged_right)
    → (ws : List Word) × (length ws ≡ n)
    × (block_from f 32 wide places start (drop start s) []
    ≡ block_from f (32 - n) wide places (start + n * word_size wide) (drop (start + n * word_size wide) s) ws)
run_on f wide places start s zero most room right = ([], refl, rw (zero-mul (word_size wide), add-zero start))
run_on f wide places start s (suc n) most room right =
    let (ws, long, before) = run_on f wide places start s n (omega arith) (omega arith) (λ k h. right k (omega arith)) in
    let at = start + n * word_size wide in
    let rest = drop at s in
    let w = word_in (word_of f wide rest) in
    let e = right n (omega arith) in
    let found : next_of f wide places n at rest ≡ Ok Goes =
    next_word f wide places n at rest (right_no_end f wide rest e) (omega arith) (right_long f wide rest e) (omega arith) ∙ ap (step_of at) e in
    let walk =
    block_walk f wide places n at rest ws (omega arith) long ∙ ap (went (done f wide places n at rest ws) (further f wide places n at rest ws)) found in
    let on : at + word_size wide ≡ start + suc n * word_size wide = omega (arith, suc-mul n (word_size wide)) in
    let left : 32 - (n + 1) ≡ 32 - suc n = omega arith in
    (ws ++ (w ∷ []), omega (arith, length-append ws (w ∷ []), long), before ∙ walk ∙ rw (drop-drop (word_size wide) at s, on, left))

-- the answer after them: at a CR the block has ended there, and otherwise it is the answer from there on
module _ (f : Family) (wide : Bool) (places start : ℕ) (s : List ℕ) (n at : ℕ) (runs : Runs f wide start (min places 32) s n)
    (at_is : at ≡ start + n * word_size wide) where
  run_walk : (ws : List Word) × (length ws ≡ n) × (block_from f 32 wide places start (drop start s) [] ≡ block_from f (32 - n) wide places at (drop at s) ws)
  run_walk = rw at_is (run_on f wide places start s n (omega (arith, runs.few)) (omega (arith, runs.few)) runs.right)

  pub run_ends : is_at 13 (drop at s) ≡ true → (block_from f 32 wide places start (drop start s) []).answer ≡ ended_at wide at (drop at s) n
  run_ends e =
      let (ws, long, walk) = run_walk in
      let rest = drop at s in
      let last = block_walk f wide places n at rest ws (omega (arith, runs.few)) long in
      let ends = ap (went (done f wide places n at rest ws) (further f wide places n at rest ws)) (next_ends f wide places n at rest e) in
      ap (λ (j : Judgement). j.answer) (walk ∙ last ∙ ends)

  pub run_from : (r : Answer) → AnswersFrom f wide places at n s r → (block_from f 32 wide places start (drop start s) []).answer ≡ r
  run_from r h =
      let (ws, long, walk) = run_walk in
      ap (λ (j : Judgement). j.answer) walk ∙ sym (h ws long)
