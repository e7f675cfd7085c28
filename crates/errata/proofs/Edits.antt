-- The lines of a line's edits, one more at a time.
use Prim.Native.Nat.{ℕ, ◌+◌, ◌<◌, ◌≤◌}
use mathlib.Core.Path.{◌≡◌, sym, ap, ◌∙◌}
use mathlib.Core.List.{List, [], ◌∷◌, ◌++◌, append_assoc, append-nil}
use native.Mathlib.Numerals.{add-one}
use lib.ListN.{length, take, get_or}
use lib.Seq.{take-suc}
use Rattle.figures.specs.declared.rooms.Room.{Room}
use Rattle.figures.specs.Rooms.{Fills}
use Rattle.figures.proofs.Putting.{fills_as, fills_more, fills_nothing}
use Rattle.listings.specs.declared.edits.Edit.{Edit}
use Rattle.errata.specs.Errata.{edit_text, edits_text}

edits_snoc : (number : ℕ) (es : List Edit) (e : Edit) → edits_text number (es ++ (e ∷ [])) ≡ edits_text number es ++ edit_text number e
unfolding edits_text
edits_snoc number [] e = append-nil (edit_text number e)
edits_snoc number (x ∷ es) e =
    ap (λ t. edit_text number x ++ t) (edits_snoc number es e) ∙ sym (append_assoc (edit_text number x) (edits_text number es) (edit_text number e))

pub edits_none : (number : ℕ) (a : Room) → a.at ≤ length a.bytes.now → Fills a (edits_text number []) a
unfolding edits_text
edits_none number a h = fills_nothing a h

-- the line of the edit at i comes after those before it
pub edits_more : {a b c : Room} (number : ℕ) (es : List Edit) (i : ℕ) (d : Edit) → i < length es → Fills a (edits_text number (take i es)) b
    → Fills b (edit_text number (get_or es i d)) c → Fills a (edits_text number (take (i + 1) es)) c
edits_more number es i d h p q =
    let e = get_or es i d in
    let all : take (i + 1) es ≡ take i es ++ (e ∷ []) = ap (λ n. take n es) (add-one i) ∙ take-suc es i d h in
    let text : edits_text number (take (i + 1) es) ≡ edits_text number (take i es) ++ edit_text number e =
    ap (edits_text number) all ∙ edits_snoc number (take i es) e in
    fills_as (fills_more p q) (sym text)
