-- The carets under a line's edits, one more at a time.
use Prim.Native.Nat.{ℕ, suc, ◌+◌, ◌-◌, ◌<◌, ◌≤◌, max}
use mathlib.Core.Path.{◌≡◌, refl, sym, ap, ◌∙◌}
use mathlib.Core.Bool.{Bool, true, false, cond}
use mathlib.Core.List.{List, [], ◌∷◌, ◌++◌, append_assoc}
use native.Mathlib.Numerals.{add-one}
use native.Mathlib.Omega.{arith}
use borrow.Author.Tests.{ltb-true, ltb-false}
use lib.Dec.{ltb}
use lib.ListN.{length, drop, get_or, replicate, drop_of_length-le}
use lib.Seq.{drop-cons}
use Rattle.figures.specs.Text.{codes, byte}
use Rattle.figures.specs.declared.rooms.Room.{Room}
use Rattle.figures.specs.Rooms.{Fills}
use Rattle.figures.proofs.Tests.{by_test}
use Rattle.figures.proofs.Putting.{fills_as, fills_more, fills_nothing}
use Rattle.listings.specs.declared.edits.Edit.{Edit}
use Rattle.errata.specs.Errata.{carets_from}
use Rattle.errata.specs.Keeping.{mark_text, marked_to}

-- the first caret, and then the others
carets_on : (at : ℕ) (e : Edit) (es : List Edit) → carets_from at (e ∷ es) ≡ mark_text at e.place ++ carets_from (marked_to at e.place) es
unfolding carets_from
carets_on at e es = by (ltb e.place at)
  where
    blanks : List ℕ
    blanks = replicate (e.place - at) (byte " ")

    by : (t : Bool) → cond t (carets_from at es) (blanks ++ (codes "^" ++ carets_from (e.place + 1) es))
        ≡ cond t [] (blanks ++ codes "^") ++ carets_from (cond t at (e.place + 1)) es
    by true = refl
    by false = sym (append_assoc blanks (codes "^") (carets_from (e.place + 1) es))

marked_max : (done place : ℕ) → max done (place + 1) ≡ marked_to done place
marked_max done place =
    by_test (ltb place done) (λ e. rw e (omega (arith, ltb-true place done e))) (λ e. rw e (omega (arith, ltb-false place done e)))

-- the carets of the first i edits are put, and so many columns are done
abbrev pub Marked : Room → List Edit → ℕ → ℕ → Room → Type 0
Marked a es i done b = (x : List ℕ) × Fills a x b × (carets_from 0 es ≡ x ++ carets_from done (drop i es))

pub marked_none : (es : List Edit) (a : Room) → a.at ≤ length a.bytes.now → Marked a es 0 0 a
marked_none es a h = ([], fills_nothing a h, refl)

pub marked_more : {a b c : Room} (es : List Edit) (i : ℕ) (d : Edit) (done place done' : ℕ) → i < length es → Marked a es i done b
    → place ≡ (get_or es i d).place → Fills b (mark_text done place) c → done' ≡ max done (place + 1)
    → Marked a es (i + 1) done' c
marked_more es i d done place done' h m is p done-is =
    let e = get_or es i d in
    let later = carets_from (marked_to done e.place) (drop (suc i) es) in
    let text : carets_from 0 es ≡ (m.0 ++ mark_text done e.place) ++ later =
    m.2 ∙ ap (λ t. m.0 ++ t) (ap (carets_from done) (drop-cons es i d h) ∙ carets_on done e (drop (suc i) es))
    ∙ sym (append_assoc m.0 (mark_text done e.place) later) in
    (m.0 ++ mark_text done place, fills_more m.1 p, rw (done-is, marked_max done place, add-one i, is) text)

pub marked_all : {a b c : Room} (es : List Edit) (i done : ℕ) → length es ≤ i → Marked a es i done b → Fills b (codes "\n") c
    → Fills a (carets_from 0 es) c
unfolding carets_from
marked_all es i done h m p =
    let none : drop i es ≡ [] = drop_of_length-le es {i = i} h in
    fills_as (fills_more m.1 p) (sym (m.2 ∙ ap (λ (es : List Edit). m.0 ++ carets_from done es) none))
