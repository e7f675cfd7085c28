-- Tests and what they say; and tests of a number: what a function computes at each number of a run, and that a number above all of a list is none of it.
use Prim.Native.Nat.{ℕ, zero, suc, ◌+◌, ◌-◌, ◌<◌, ◌≤◌}
use mathlib.Core.Path.{◌≡◌, refl, sym, ◌∙◌}
use mathlib.Core.Bool.{Bool, true, false, cond, not, ◌&&◌, and-eq-true_iff}
use mathlib.Core.List.{List, [], ◌∷◌}
use mathlib.Core.Logic.{⊎_elim}
use native.Mathlib.Nat.{eq-or-lt_of_le}
use native.Mathlib.Omega.{arith}
use borrow.Author.Tests.{not-true, not-false, ne_eqb, leb-true}
use lib.Dec.{leb}
use lib.ListN.{replicate}
use Rattle.figures.specs.Bytes.{among, every}

-- what can't be: a clash of two cases gives this by `cc`
pub clash : ◌≡◌ {A = ℕ} 0 1 → ⊥
clash e = omega arith

pub both : (a b : Bool) → a && b ≡ true → (a ≡ true) × (b ≡ true)
both a b = (and-eq-true_iff a b).0

-- the first of two tests settles it, or leaves it to the second

pub and_on : {t r : Bool} → t ≡ true → t && r ≡ r
and_on e = rw e

pub and_off : {t : Bool} (r : Bool) → t ≡ false → t && r ≡ false
and_off r e = rw e

-- of a call that ensures that its result r is t, where `if !r` was left, and where it was taken

pub passed : {r t : Bool} → r ≡ t → not r ≡ false → t ≡ true
passed {r} e n = sym e ∙ not-false r n

pub failed : {r t : Bool} → r ≡ t → not r ≡ true → t ≡ false
failed {r} e n = sym e ∙ not-true r n

pub by_test : {A : Type 0} (b : Bool) → (b ≡ true → A) → (b ≡ false → A) → A
by_test true f g = f refl
by_test false f g = g refl

-- what holds of both holds of the one that a test chooses
pub either : {A : Type 0} (P : A → Type 0) (b : Bool) (x y : A) → (b ≡ true → P x) → P y → P (cond b x y)
either P true x y px py = px refl
either P false x y px py = py

-- f at k numbers from low on
abbrev pub run : {A : Type 0} → (ℕ → A) → ℕ → ℕ → List A
run f low zero = []
run f low (suc k) = f low ∷ run f (suc low) k

-- f is a at each number from low to below high
abbrev pub Even : {A : Type 0} → (ℕ → A) → A → ℕ → ℕ → Type 0
Even f a low high = run f low (high - low) ≡ replicate (high - low) a

in_run : {A : Type 0} (f : ℕ → A) {a : A} (low k n : ℕ) → run f low k ≡ replicate k a → low ≤ n → n < low + k → a ≡ f n
in_run f low zero n e hl hh = absurd (omega arith)
in_run f {a} low (suc k) n e hl hh =
    let here : a ≡ f low = cc in
    let later : run f (suc low) k ≡ replicate k a = cc in
    ⊎_elim (λ is. rw (← is) here) (λ h. in_run f (suc low) k n later h (omega arith)) (eq-or-lt_of_le hl)

pub along : {A : Type 0} (f : ℕ → A) {a : A} (low high : ℕ) {n : ℕ} → Even f a low high → low ≤ n → n < high → a ≡ f n
along f low high {n} e hl hh = in_run f low (high - low) n e hl (omega arith)

pub among_above : (high : ℕ) (l : List ℕ) → every (λ x. leb x high) l ≡ true → (n : ℕ) → high < n → among n l ≡ false
unfolding among every
among_above high [] e n h = refl
among_above high (x ∷ l) e n h =
    let parts = both (leb x high) (every (λ y. leb y high) l) e in
    let low = leb-true x high parts.0 in
    rw (among, ne_eqb n x (λ is. omega arith)) (among_above high l parts.1 n h)
