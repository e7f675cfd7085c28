-- A text shown one byte more at a time, and one blank more before a caret.
use Prim.Native.Nat.{ℕ, zero, suc, ◌+◌, ◌<◌}
use mathlib.Core.Path.{◌≡◌, refl, sym, ap}
use mathlib.Core.List.{List, [], ◌∷◌, ◌++◌, map, map-append}
use native.Mathlib.Numerals.{add-one}
use lib.ListN.{length, take, get_or, replicate}
use lib.Seq.{take-suc}
use Rattle.figures.specs.declared.rooms.Room.{Room}
use Rattle.figures.specs.Rooms.{Fills}
use Rattle.figures.specs.Pointing.{shown}
use Rattle.figures.proofs.Putting.{fills_as, fills_more}

shown_on : (s : List ℕ) (i : ℕ) → i < length s → map shown (take i s) ++ (shown (get_or s i 0) ∷ []) ≡ map shown (take (i + 1) s)
shown_on s i h = rw (add-one i, take-suc s i 0 h) (sym (map-append shown (take i s) (get_or s i 0 ∷ [])))

-- the byte at i is shown after those before it
pub shown_more : {a b c : Room} (s : List ℕ) (i : ℕ) → i < length s → Fills a (map shown (take i s)) b → Fills b (shown (get_or s i 0) ∷ []) c
    → Fills a (map shown (take (i + 1) s)) c
shown_more s i h p q = fills_as (fills_more p q) (shown_on s i h)

replicate_more : (i b : ℕ) → replicate (suc i) b ≡ replicate i b ++ (b ∷ [])
replicate_more zero b = refl
replicate_more (suc i) b = ap (λ l. b ∷ l) (replicate_more i b)

-- a blank after so many
pub blanks_more : {a b c : Room} (i : ℕ) → Fills a (replicate i 32) b → Fills b (32 ∷ []) c → Fills a (replicate (i + 1) 32) c
blanks_more i p q = fills_as (fills_more p q) (rw (add-one i) (sym (replicate_more i 32)))
