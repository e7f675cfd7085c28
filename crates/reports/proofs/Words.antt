-- The lines of a block's words, one more at a time.
use Prim.Native.Nat.{ℕ, suc, ◌+◌, ◌<◌}
use mathlib.Core.Path.{◌≡◌, sym, ap, ◌∙◌}
use mathlib.Core.Bool.{Bool}
use mathlib.Core.List.{List, [], ◌∷◌, ◌++◌, append_assoc, append-nil}
use native.Mathlib.Nat.{add-zero}
use native.Mathlib.Numerals.{add-one}
use native.Mathlib.Omega.{arith}
use lib.ListN.{length, take, get_or}
use lib.Seq.{take-suc, length-take-le}
use Rattle.units.specs.declared.kinds.Family.{Family}
use Rattle.words.specs.declared.records.Word.{Word}
use Rattle.figures.specs.declared.rooms.Room.{Room}
use Rattle.figures.specs.Rooms.{Fills}
use Rattle.reports.specs.Piece.{word_text, words_text}
use Rattle.figures.proofs.Putting.{fills_as, fills_more}

words_snoc : (f : Family) (k : ℕ) (wide : Bool) (ws : List Word) (w : Word)
    → words_text f k wide (ws ++ (w ∷ [])) ≡ words_text f k wide ws ++ word_text f (k + length ws) wide w
unfolding words_text
words_snoc f k wide [] w = append-nil (word_text f k wide w) ∙ ap (λ n. word_text f n wide w) (sym (add-zero k))
words_snoc f k wide (x ∷ ws) w =
    let q : suc k + length ws ≡ k + suc (length ws) = omega arith in
    ap (λ t. word_text f k wide x ++ t) (words_snoc f (suc k) wide ws w ∙ ap (λ n. words_text f (suc k) wide ws ++ word_text f n wide w) q)
    ∙ sym (append_assoc (word_text f k wide x) (words_text f (suc k) wide ws) (word_text f (k + suc (length ws)) wide w))

-- the line of the word at i comes after those before it
pub words_more : (f : Family) {a b c : Room} (wide : Bool) (ws : List Word) (i : ℕ) (d : Word) → i < length ws
    → Fills a (words_text f 1 wide (take i ws)) b → Fills b (word_text f (i + 1) wide (get_or ws i d)) c
    → Fills a (words_text f 1 wide (take (i + 1) ws)) c
words_more f wide ws i d h p q =
    let w = get_or ws i d in
    let number : 1 + length (take i ws) ≡ i + 1 = omega (arith, length-take-le i ws (omega arith)) in
    let all : take (i + 1) ws ≡ take i ws ++ (w ∷ []) = ap (λ n. take n ws) (add-one i) ∙ take-suc ws i d h in
    let text : words_text f 1 wide (take (i + 1) ws) ≡ words_text f 1 wide (take i ws) ++ word_text f (i + 1) wide w =
    ap (words_text f 1 wide) all ∙ words_snoc f 1 wide (take i ws) w ∙ ap (λ n. words_text f 1 wide (take i ws) ++ word_text f n wide w) number in
    fills_as (fills_more p q) (sym text)
