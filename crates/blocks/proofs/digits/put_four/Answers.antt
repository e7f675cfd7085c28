-- What `put_four` leaves of the room: each of the four bytes is one digit of n.
use Prim.Native.Nat.{ℕ, ◌+◌, ◌/◌, ◌%◌, ◌<◌}
use mathlib.Core.Path.{◌≡◌, refl, ◌∙◌}
use mathlib.Core.List.{List, [], ◌∷◌}
use native.Mathlib.Omega.{arith}
use lib.ListN.{length, set}
use Rattle.figures.specs.Decimal.{digits_of}
use Rattle.blocks.proofs.digits.put_four.Goals as goal

four_set : (out : List ℕ) (a b c d : ℕ) → length out ≡ 4 → set (set (set (set out 0 a) 1 b) 2 c) 3 d ≡ a ∷ b ∷ c ∷ d ∷ []
four_set [] a b c d h = absurd (omega arith)
four_set (w ∷ []) a b c d h = absurd (omega arith)
four_set (w ∷ x ∷ []) a b c d h = absurd (omega arith)
four_set (w ∷ x ∷ y ∷ []) a b c d h = absurd (omega arith)
four_set (w ∷ x ∷ y ∷ z ∷ []) a b c d h = refl
four_set (w ∷ x ∷ y ∷ z ∷ v ∷ l) a b c d h = absurd (omega arith)

four_digits : (n a b c d : ℕ) → n < 10000 → a ≡ 48 + n / 100 / 10 → b ≡ 48 + n / 100 % 10 → c ≡ 48 + n % 100 / 10 → d ≡ 48 + n % 100 % 10
    → a ∷ b ∷ c ∷ d ∷ [] ≡ digits_of 4 n
unfolding digits_of
four_digits n a b c d h ea eb ec ed =
    let first : a ≡ 48 + n / 10 / 10 / 10 % 10 = omega arith in
    let second : b ≡ 48 + n / 10 / 10 % 10 = omega arith in
    let third : c ≡ 48 + n / 10 % 10 = omega arith in
    let fourth : d ≡ 48 + n % 10 = omega arith in
    rw (first, second, third, fourth)

pub returns : goal.returns
returns c =
    let first = c.figure_of in
    let second = c.figure_of-2 in
    let third = c.figure_of-3 in
    let fourth = c.figure_of-4 in
    four_set c.args.out.now first.result second.result third.result fourth.result c.requires.0
    ∙ four_digits c.args.n first.result second.result third.result fourth.result c.requires.1 first.ensures second.ensures
    third.ensures fourth.ensures
