-- A piece's first 800 bytes are reported as the whole piece is: `judged_enough` of crate blocks, and no more of its text is shown.
use Prim.Native.Nat.{ℕ, zero, suc, min}
use mathlib.Core.Path.{◌≡◌, refl, ap, ◌∙◌}
use mathlib.Core.Bool.{Bool, true, false, cond}
use mathlib.Core.List.{List, [], ◌∷◌, ◌++◌}
use native.Mathlib.Omega.{arith}
use lib.ListN.{take}
use lib.Seq.{take-take}
use Rattle.units.specs.declared.kinds.Family.{Family}
use Rattle.words.specs.declared.records.Word.{Word}
use Rattle.figures.specs.Bytes.{run_of, is_other}
use Rattle.blocks.specs.Judging.{Answer, Judgement, judged}
use Rattle.std.specs.Prelude.{Ok, Err}
use Rattle.blocks.proofs.Enough.{judged_enough}
use Rattle.reports.specs.Piece.{text_in, head_text, answer_text, report_of}

-- one byte more, where so many come after it
run_one : (t : Bool) (n k m : ℕ) → k ≡ min n m → cond t (suc k) 0 ≡ min (suc n) (cond t (suc m) 0)
run_one true n k m e = omega arith
run_one false n k m e = omega arith

run_take : (p : ℕ → Bool) (n : ℕ) (s : List ℕ) → run_of p (take n s) ≡ min n (run_of p s)
unfolding run_of
run_take p zero s = omega arith
run_take p (suc n) [] = omega arith
run_take p (suc n) (b ∷ s) = run_one (p b) n (run_of p (take n s)) (run_of p s) (run_take p n s)

pub text_enough : (s : List ℕ) → text_in (take 800 s) ≡ text_in s
text_enough s =
    let n = min (run_of (is_other 13) s) 770 in
    let same : min (run_of (is_other 13) (take 800 s)) 770 ≡ n = omega (arith, run_take (is_other 13) 800 s) in
    ap (λ k. take k (take 800 s)) same ∙ take-take n 800 s (omega arith)

answer_enough : (f : Family) (s : List ℕ) (a : Answer) (ws : List Word) → answer_text f (take 800 s) a ws ≡ answer_text f s a ws
answer_enough f s (Err r) ws = rw (text_enough s)
answer_enough f s (Ok r) ws = refl

pub report_enough : (f : Family) (number at : ℕ) (s : List ℕ) → report_of f number at (take 800 s) ≡ report_of f number at s
report_enough f number at s =
    ap (λ (j : Judgement). head_text number at ++ answer_text f (take 800 s) j.answer j.words) (judged_enough f s)
    ∙ ap (λ t. head_text number at ++ t) (answer_enough f s (judged f s 32).answer (judged f s 32).words)
