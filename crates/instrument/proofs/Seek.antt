-- Laws of a list of rows, whatever a row is: what holds of each holds at a place, and the lookup of a number, a turn of the loop at a time, with what a place
-- that is found says.
use Prim.Native.Nat.{ℕ, zero, suc, ◌+◌, ◌<◌, ◌≤◌}
use mathlib.Core.Path.{◌≡◌, refl, sym, ap, ◌∙◌}
use mathlib.Core.Bool.{Bool, true, false, cond, ◌&&◌}
use mathlib.Core.List.{List, [], ◌∷◌}
use native.Mathlib.Numerals.{add-one}
use native.Mathlib.Omega.{arith}
use borrow.Author.Tests.{eq-eqb, ne_eqb, eqb-true, eqb-false}
use lib.Dec.{eqb}
use lib.ListN.{length, get_or, drop, drop_of_length-le, get_or-eq_default}
use lib.Seq.{drop-cons}
use Rattle.figures.proofs.Tests.{both}
use Rattle.std.specs.Prelude.{Option, Some, None}
use Rattle.instrument.specs.Rows.{seek}

-- the place j of a row of that number, counted from k
abbrev FoundIn : {A : Type 0} → (A → ℕ) → List A → A → ℕ → ℕ → ℕ → Type 0
FoundIn key l d k n i = (j : ℕ) × (i ≡ k + j) × (j < length l) × (key (get_or l j d) ≡ n)

-- what holds of each row, and past the last, holds at every place

abbrev pub Each : {A : Type 0} → (A → Type 0) → A → List A → Type 0
Each P d [] = P d
Each P d (r ∷ rs) = P r × Each P d rs

pub each_at : {A : Type 0} (P : A → Type 0) (d : A) (rs : List A) → Each P d rs → (i : ℕ) → P (get_or rs i d)
each_at P d [] h i = h
each_at P d (r ∷ rs) h zero = h.0
each_at P d (r ∷ rs) h (suc i) = each_at P d rs h.1 i

-- the same of a test, which a table passes by computation
unfoldable pub each_row : {A : Type 0} → (A → Bool) → List A → Bool
each_row test [] = true
each_row test (r ∷ rs) = test r && each_row test rs

pub row_tested : {A : Type 0} (test : A → Bool) (rs : List A) (d : A) → test d ≡ true → each_row test rs ≡ true → (i : ℕ) → test (get_or rs i d) ≡ true
unfolding each_row
row_tested test [] d h e i = h
row_tested test (r ∷ rs) d h e zero = (both (test r) (each_row test rs) e).0
row_tested test (r ∷ rs) d h e (suc i) = row_tested test rs d h (both (test r) (each_row test rs) e).1 i

-- what a `match` on a place gives: the row of an arm, and past the last, where the place is none of the arms'

abbrev pub NoneOf : ℕ → ℕ → Type 0
NoneOf place zero = Unit {0}
NoneOf place (suc n) = NoneOf place n × (place ≡ n → ⊥)

past_them : (place n : ℕ) → NoneOf place n → n ≤ place
past_them place zero none = omega arith
past_them place (suc n) none = let below = past_them place n none.0 in omega (arith, none.1)

pub past_place : {A : Type 0} (l : List A) (d : A) (n place : ℕ) → length l ≡ n → NoneOf place n → d ≡ get_or l place d
past_place l d n place long none = sym (get_or-eq_default l d {n = place} (omega (arith, past_them place n none)))

module _ {A : Type 0} (key : A → ℕ) where
  pub seek_on : (l : List A) (d : A) (i n : ℕ) → i < length l → (key (get_or l i d) ≡ n → ⊥)
      → seek key (drop i l) i n ≡ seek key (drop (i + 1) l) (i + 1) n
  unfolding seek
  seek_on l d i n h e = rw (drop-cons l i d h, ne_eqb (key (get_or l i d)) n e, add-one i)

  pub seek_at : (l : List A) (d : A) (i n : ℕ) → i < length l → key (get_or l i d) ≡ n → seek key (drop i l) i n ≡ Some i
  unfolding seek
  seek_at l d i n h e = rw (drop-cons l i d h, eq-eqb (key (get_or l i d)) n e)

  pub seek_past : (l : List A) (i n : ℕ) → length l ≤ i → seek key (drop i l) i n ≡ None
  unfolding seek
  seek_past l i n h = rw (drop_of_length-le l h)

  -- a turn at the row r, where f is what the rows from i on say: it is there, or it is what the rows after it say
  pub turn_at : (l : List A) (d r : A) (i n : ℕ) (f : Option ℕ) → f ≡ seek key (drop i l) i n → i < length l → r ≡ get_or l i d → key r ≡ n → Some i ≡ f
  turn_at l d r i n f e h is q = sym (e ∙ seek_at l d i n h (sym (ap key is) ∙ q))

  pub turn_on : (l : List A) (d r : A) (i n : ℕ) (f : Option ℕ) → f ≡ seek key (drop i l) i n → i < length l → r ≡ get_or l i d → (key r ≡ n → ⊥)
      → f ≡ seek key (drop (i + 1) l) (i + 1) n
  turn_on l d r i n f e h is q = e ∙ seek_on l d i n h (λ z. q (ap key is ∙ z))

  found_step : (r : A) (l : List A) (d : A) (k n i : ℕ) (b : Bool) → eqb (key r) n ≡ b → cond b (Some k) (seek key l (k + 1) n) ≡ Some i
      → (seek key l (k + 1) n ≡ Some i → FoundIn key l d (k + 1) n i) → FoundIn key (r ∷ l) d k n i
  found_step r l d k n i true p e rest = let z : k ≡ i = cc in (0, omega arith, omega arith, eqb-true (key r) n p)
  found_step r l d k n i false p e rest = let f = rest e in (suc f.0, omega (arith, f.1), omega (arith, f.2), f.3)

  found_in : (l : List A) (d : A) (k n i : ℕ) → seek key l k n ≡ Some i → FoundIn key l d k n i
  unfolding seek
  found_in [] d k n i e = let z : ◌≡◌ {A = ℕ} 0 1 = cc in absurd (omega arith)
  found_in (r ∷ l) d k n i e = found_step r l d k n i (eqb (key r) n) refl e (found_in l d (k + 1) n i)

  pub found_at : (l : List A) (d : A) (n i : ℕ) → seek key l 0 n ≡ Some i → (i < length l) × (key (get_or l i d) ≡ n)
  found_at l d n i e =
      let f = found_in l d 0 n i e in
      let q : f.0 ≡ i = omega (arith, f.1) in
      (omega (arith, f.2), rw q at f.3)

  none_step : (r : A) (l : List A) (k n : ℕ) (b : Bool) → eqb (key r) n ≡ b → cond b (Some k) (seek key l (k + 1) n) ≡ None
      → (b ≡ false) × (seek key l (k + 1) n ≡ None)
  none_step r l k n true p e = let z : ◌≡◌ {A = ℕ} 0 1 = cc in absurd (omega arith)
  none_step r l k n false p e = (refl, e)

  pub none_there : (l : List A) (d : A) (k n : ℕ) → seek key l k n ≡ None → (j : ℕ) → j < length l → key (get_or l j d) ≡ n → ⊥
  unfolding seek
  none_there [] d k n e j h q = omega arith
  none_there (r ∷ l) d k n e zero h q = eqb-false (key r) n (none_step r l k n (eqb (key r) n) refl e).0 q
  none_there (r ∷ l) d k n e (suc j) h q = none_there l d (k + 1) n (none_step r l k n (eqb (key r) n) refl e).1 j (omega arith) q
