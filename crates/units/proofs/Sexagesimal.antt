-- Degrees, minutes, seconds and tenths: the digits of a size and the size of digits say each other. Both have four parts over a base, 100
-- for the digits and 60 for the size, so that one law on bases serves both ways.
use Prim.Native.Nat.{ℕ, ◌+◌, ◌*◌, ◌/◌, ◌%◌, ◌<◌}
use mathlib.Core.Path.{◌≡◌, ◌∙◌}
use native.Mathlib.Nat.{mul-add-div_right, mul-add-mod_self_right, div-eq_of_lt, mod-eq_of_lt, add-zero, div-add-mod', mod-lt, div-div-eq-div-mul}
use native.Mathlib.Omega.{arith}
use Rattle.units.specs.Counts.{degrees, minutes, seconds, tenths_of, sexagesimal, tenth_limit}

-- degrees, minutes and seconds of digits, each in its range
abbrev pub InRange : ℕ → Type 0
InRange n = (degrees n < 360) × (minutes n < 60) × (seconds n < 60)

-- the parts of n over one base, joined over the other
abbrev rebased : ℕ → ℕ → ℕ → ℕ
rebased a b n = ((n / 10 / a / a * b + n / 10 / a % a) * b + n / 10 % a) * 10 + n % 10

front : (b x y : ℕ) → y < b → (x * b + y) / b ≡ x
front b x y h = mul-add-div_right (omega arith) x y ∙ rw (div-eq_of_lt h, add-zero)

last : (b x y : ℕ) → y < b → (x * b + y) % b ≡ y
last b x y h = mul-add-mod_self_right x b y ∙ mod-eq_of_lt h

record SameParts (a n b r : ℕ) : Type 0 where
  high : r / 10 / b / b ≡ n / 10 / a / a
  middle : r / 10 / b % b ≡ n / 10 / a % a
  low : r / 10 % b ≡ n / 10 % a
  least : r % 10 ≡ n % 10

same_parts : (a b n : ℕ) → n / 10 / a % a < b → n / 10 % a < b → SameParts a n b (rebased a b n)
same_parts a b n hm hs =
    let m : ℕ = n / 10 / a % a in
    let s : ℕ = n / 10 % a in
    let x : ℕ = n / 10 / a / a * b + m in
    let y : ℕ = x * b + s in
    let ten : (y * 10 + n % 10) / 10 ≡ y = front 10 y (n % 10) (omega arith) in
    let up : (y * 10 + n % 10) / 10 / b ≡ x = rw ten (front b x s hs) in
    record {
      high = rw up (front b (n / 10 / a / a) m hm);
      middle = rw up (last b (n / 10 / a / a) m hm);
      low = rw ten (last b x s hs);
      least = last 10 y (n % 10) (omega arith);
    }

there_and_back : (a b n : ℕ) → n / 10 / a % a < b → n / 10 % a < b → rebased b a (rebased a b n) ≡ n
there_and_back a b n hm hs =
    let p = same_parts a b n hm hs in
    rw (p.high, p.middle, p.low, p.least, div-add-mod' (n / 10 / a) a, div-add-mod' (n / 10) a, div-add-mod' n 10)

tenths_rebased : (n : ℕ) → tenths_of n ≡ rebased 100 60 n
tenths_rebased n =
    rw (div-div-eq-div-mul (n / 10) 100 100, div-div-eq-div-mul n 10 10000, div-div-eq-div-mul n 10 100)
    (linear (n / 100000) (n / 1000 % 100) (n / 10 % 100) (n % 10))
  where
    linear : (d m s t : ℕ) → d * 36000 + m * 600 + s * 10 + t ≡ ((d * 60 + m) * 60 + s) * 10 + t
    linear d m s t = omega arith

sexagesimal_rebased : (v : ℕ) → sexagesimal v ≡ rebased 60 100 v
sexagesimal_rebased v =
    rw (div-div-eq-div-mul (v / 10) 60 60, div-div-eq-div-mul v 10 3600, div-div-eq-div-mul v 10 60)
    (linear (v / 36000) (v / 600 % 60) (v / 10 % 60) (v % 10))
  where
    linear : (d m s t : ℕ) → d * 100000 + m * 1000 + s * 10 + t ≡ ((d * 100 + m) * 100 + s) * 10 + t
    linear d m s t = omega arith

pub tenths_back : (v : ℕ) → tenths_of (sexagesimal v) ≡ v
tenths_back v = tenths_rebased (sexagesimal v) ∙ rw (sexagesimal_rebased v) (there_and_back 60 100 v (omega arith) (omega arith))

pub sexagesimal_back : (n : ℕ) → InRange n → sexagesimal (tenths_of n) ≡ n
sexagesimal_back n h = sexagesimal_rebased (tenths_of n) ∙ rw (tenths_rebased n) (there_and_back 100 60 n (rw (div-div-eq-div-mul n 10 100) h.1) h.2)

pub in_range : (v : ℕ) → v < tenth_limit → InRange (sexagesimal v)
in_range v h =
    let p = same_parts 60 100 v (omega arith) (omega arith) in (
      omega arith,
      rw (← div-div-eq-div-mul (sexagesimal v) 10 100, sexagesimal_rebased v, p.middle) (mod-lt (v / 10 / 60) (omega arith)),
      rw (sexagesimal_rebased v, p.low) (mod-lt (v / 10) (omega arith)),
    )

pub sexagesimal_below : (v : ℕ) → v < tenth_limit → sexagesimal v < 36000000
sexagesimal_below v h = omega arith

pub tenths_below : (n : ℕ) → InRange n → tenths_of n < tenth_limit
tenths_below n h = omega arith
