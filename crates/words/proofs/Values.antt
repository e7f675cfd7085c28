-- What a word's figures count: the count that a word gives has that word's figures and sign, and is right; and a right count is what its own
-- figures and sign give. By the kind, and an angle by its unit.
use Prim.Native.Nat.{ℕ, ◌-◌, ◌^◌, ◌<◌, ◌≤◌}
use mathlib.Core.Path.{◌≡◌, refl, sym, ap, ◌∙◌}
use mathlib.Core.Bool.{Bool, true, false, cond, ◌&&◌, false≢true}
use mathlib.Core.List.{List, [], ◌∷◌}
use native.Mathlib.Nat.{lt_of_lt_of_le, pow-le-pow_right}
use native.Mathlib.Omega.{arith}
use borrow.Author.Tests.{leb-true, le-leb, ltb-true, lt-ltb}
use lib.Dec.{eqb, leb, ltb}
use Rattle.std.specs.Prelude.{Option, Some}
use Rattle.units.specs.Counts.{whole, degrees, minutes, seconds, tenths_of, sexagesimal, counted, gon_at, degree_at, tenth_at, mil_at, gon_limit, degree_limit, mil_limit, tenth_limit}
use Rattle.units.specs.Counts.{angle_at, angle_of, length_of, constant_of, value_at, first_of, figures_of}
use Rattle.words.specs.Records.{width, record_of, unit_in, count_by, whole_right, count_right}
use Rattle.words.specs.Reading.{is_counted, count_or}
use Rattle.units.specs.declared.kinds.Kind.{Kind}
use Rattle.units.specs.declared.kinds.Kind.TheVariants as kind
use Rattle.units.specs.declared.counts.Whole.{Whole}
use Rattle.units.specs.declared.counts.Count.{Count}
use Rattle.units.specs.declared.counts.Count.TheVariants.{Gon, Degree, Tenth, Mil, Metre, Feet, Inch, Ppm}
use Rattle.units.specs.declared.counts.Figures.{Figures}
use Rattle.units.specs.declared.counts.Figures.TheVariants as figures
use Rattle.words.specs.declared.records.Word.{Word}
use Rattle.words.proofs.Checks.{width_bounds}
use Rattle.figures.proofs.Tests.{both}
use Rattle.units.proofs.Positions.{SignFor}
use Rattle.words.proofs.Characters.{Fit, of_numbered, of_text, of_angle, of_length, of_constant, of_pair}
use Rattle.units.proofs.Sexagesimal.{InRange, in_range, tenths_back, sexagesimal_back, sexagesimal_below, tenths_below}

-- a whole number

record Sound (m n limit : ℕ) : Type 0 where
  small : m ≤ 1
  below : n < limit

sound_of : (m n limit : ℕ) → whole_right (whole m n) limit ≡ true → Sound m n limit
sound_of m n limit e =
    let parts = both (leb m 1) (ltb n limit) e in
    record { small = leb-true m 1 parts.0; below = ltb-true n limit parts.1 }

whole_right_lem : (m n limit : ℕ) → m ≤ 1 → n < limit → whole_right (whole m n) limit ≡ true
whole_right_lem m n limit s b = rw (le-leb m 1 s, lt-ltb n limit b)

-- a number

-- the counts of one unit: `at` from a sign and digits, `of` from a whole number
abbrev pub Both : Type 1
Both = (ℕ → ℕ → Option Count) → (Whole → Count) → Type 0

pub by_unit : (P : Both) → P gon_at (λ x. Gon (record { 0 = x })) → P degree_at (λ x. Degree (record { 0 = x })) → P tenth_at (λ x. Tenth (record { 0 = x }))
    → P mil_at (λ x. Mil (record { 0 = x })) → (u : ℕ) → P (angle_at u) (angle_of u)
by_unit P gon degree tenth mil u = go (eqb u 50) (eqb u 51) (eqb u 52)
  where
    go : (x y z : Bool) → P (λ m n. cond x (gon_at m n) (cond y (degree_at m n) (cond z (tenth_at m n) (mil_at m n))))
        (λ w. cond x (Gon (record { 0 = w })) (cond y (Degree (record { 0 = w })) (cond z (Tenth (record { 0 = w })) (Mil (record { 0 = w })))))
    go true y z = gon
    go false true z = degree
    go false false true = tenth
    go false false false = mil

-- metres, and feet, of so many decimals, and inches
abbrev pub in_metres : ℕ → Whole → Count
in_metres d x = Metre (record { 0 = x; 1 = d })

abbrev pub in_feet : ℕ → Whole → Count
in_feet d x = Feet (record { 0 = x; 1 = d })

abbrev pub in_inches : Whole → Count
in_inches x = Inch (record { 0 = x })

pub by_length : (P : (Whole → Count) → Type 0) → ((d : ℕ) → P (in_metres d)) → ((d : ℕ) → P (in_feet d)) → P in_inches → (u : ℕ) → P (length_of u)
by_length P metre feet inch u = go (eqb u 48) (eqb u 49) (eqb u 54) (eqb u 55) (eqb u 57)
  where
    go : (x y z v t : Bool)
        → P (λ w. cond x (in_metres 3 w) (cond y (in_feet 3 w) (cond z (in_metres 4 w) (cond v (in_feet 4 w) (cond t (in_inches w) (in_metres 5 w))))))
    go true y z v t = metre 3
    go false true z v t = feet 3
    go false false true v t = metre 4
    go false false false true t = feet 4
    go false false false false true = inch
    go false false false false false = metre 5

-- the constants: 58 in metres, 59 in ppm
abbrev pub in_ppm : Whole → Count
in_ppm x = Ppm (record { 0 = x })

pub by_constant : (P : (Whole → Count) → Type 0) → P (in_metres 4) → P in_ppm → (i : ℕ) → P (constant_of i)
by_constant P metre ppm i = go (eqb i 58)
  where
    go : (b : Bool) → P (λ w. cond b (in_metres 4 w) (in_ppm w))
    go true = metre
    go false = ppm

-- a count whose size is what its digits say, below a limit
record Plain (wide : Bool) (limit : ℕ) (of : Whole → Count) (x : Whole) : Type 0 where
  first : first_of (of x) ≡ x
  right : count_right wide (of x) ≡ whole_right x limit
  says : figures_of (of x) ≡ figures.Number x.size

length_plain : (wide : Bool) (u : ℕ) (x : Whole) → Plain wide (10 ^ width wide) (length_of u) x
length_plain wide u x =
    by_length (λ of. Plain wide (10 ^ width wide) of x) (λ d. record { first = refl; right = refl; says = refl })
    (λ d. record { first = refl; right = refl; says = refl }) (record { first = refl; right = refl; says = refl }) u

constant_plain : (wide : Bool) (i : ℕ) (x : Whole) → Plain wide (10 ^ width wide) (constant_of i) x
constant_plain wide i x =
    by_constant (λ of. Plain wide (10 ^ width wide) of x) (record { first = refl; right = refl; says = refl })
    (record { first = refl; right = refl; says = refl }) i

gon_plain : (wide : Bool) (x : Whole) → Plain wide gon_limit (λ w. Gon (record { 0 = w })) x
gon_plain wide x = record { first = refl; right = refl; says = refl }

degree_plain : (wide : Bool) (x : Whole) → Plain wide degree_limit (λ w. Degree (record { 0 = w })) x
degree_plain wide x = record { first = refl; right = refl; says = refl }

mil_plain : (wide : Bool) (x : Whole) → Plain wide mil_limit (λ w. Mil (record { 0 = w })) x
mil_plain wide x = record { first = refl; right = refl; says = refl }

-- from the figures to their count

-- c is right, has those figures and that sign, and comes again out of its record
abbrev pub Told : Bool → (Count → Count) → ℕ → Figures → Count → Type 0
Told wide again m f c = (count_right wide c ≡ true) × (figures_of c ≡ f) × ((first_of c).minus ≡ m) × (again c ≡ c)

if_counted : (P : Count → Type 0) (t : Bool) (c : Count) → (t ≡ true → P c) → is_counted (counted t c) ≡ true → P (count_or (counted t c))
if_counted P true c f e = f refl
if_counted P false c f e = absurd (false≢true e)

tests_range : (n : ℕ) → ltb (degrees n) 360 && (ltb (minutes n) 60 && ltb (seconds n) 60) ≡ true → InRange n
tests_range n e =
    let parts = both (ltb (degrees n) 360) (ltb (minutes n) 60 && ltb (seconds n) 60) e in
    let two = both (ltb (minutes n) 60) (ltb (seconds n) 60) parts.1 in
    (ltb-true (degrees n) 360 parts.0, ltb-true (minutes n) 60 two.0, ltb-true (seconds n) 60 two.1)

range_tests : (n : ℕ) → InRange n → ltb (degrees n) 360 && (ltb (minutes n) 60 && ltb (seconds n) 60) ≡ true
range_tests n h = rw (lt-ltb (degrees n) 360 h.0, lt-ltb (minutes n) 60 h.1, lt-ltb (seconds n) 60 h.2)

module _ (wide : Bool) (m n : ℕ) (s : m ≤ 1) where
  plain_told : (limit : ℕ) (of : Whole → Count) → Plain wide limit of (whole m n) → n < limit
      → Told wide (λ c. of (first_of c)) m (figures.Number n) (of (whole m n))
  plain_told limit of p h = (p.right ∙ whole_right_lem m n limit s h, p.says, ap (λ (x : Whole). x.minus) p.first, ap of p.first)

  limited_told : (limit : ℕ) (of : Whole → Count) → Plain wide limit of (whole m n) → is_counted (counted (ltb n limit) (of (whole m n))) ≡ true
      → Told wide (λ c. of (first_of c)) m (figures.Number n) (count_or (counted (ltb n limit) (of (whole m n))))
  limited_told limit of p =
      if_counted (Told wide (λ c. of (first_of c)) m (figures.Number n)) (ltb n limit) (of (whole m n)) (λ t. plain_told limit of p (ltb-true n limit t))

  tenth_told : is_counted (tenth_at m n) ≡ true → Told wide (λ c. Tenth (record { 0 = first_of c })) m (figures.Number n) (count_or (tenth_at m n))
  tenth_told =
      if_counted (Told wide (λ c. Tenth (record { 0 = first_of c })) m (figures.Number n))
      (ltb (degrees n) 360 && (ltb (minutes n) 60 && ltb (seconds n) 60)) (Tenth (record { 0 = whole m (tenths_of n) }))
      (λ t.
      let range = tests_range n t in
      (whole_right_lem m (tenths_of n) tenth_limit s (tenths_below n range), ap figures.Number (sexagesimal_back n range), refl, refl))

  angle_told : (u : ℕ) → is_counted (angle_at u m n) ≡ true → Told wide (λ c. angle_of u (first_of c)) m (figures.Number n) (count_or (angle_at u m n))
  angle_told =
      by_unit (λ at of. is_counted (at m n) ≡ true → Told wide (λ c. of (first_of c)) m (figures.Number n) (count_or (at m n)))
      (limited_told gon_limit (λ w. Gon (record { 0 = w })) (gon_plain wide (whole m n)))
      (limited_told degree_limit (λ w. Degree (record { 0 = w })) (degree_plain wide (whole m n)))
      tenth_told
      (limited_told mil_limit (λ w. Mil (record { 0 = w })) (mil_plain wide (whole m n)))

pub value_told : (wide : Bool) {k : Kind} {f : Figures} (i u m a b e : ℕ) (t : List ℕ) → Fit (width wide) k f → SignFor k m
    → is_counted (value_at k i u m f) ≡ true
    → Told wide (λ c. count_by k (record_of i (a ∷ b ∷ e ∷ u ∷ []) c t)) m f (count_or (value_at k i u m f))
value_told wide i u m a b e t of_numbered s = λ _. (refl, refl, sym (s.plus refl), refl)
value_told wide i u m a b e t of_text s = λ _. (refl, refl, sym (s.plus refl), refl)
value_told wide i u m a b e t (of_angle {v} h) s = angle_told wide m v s.small u
value_told wide i u m a b e t (of_length {v} h) s =
    λ _. plain_told wide m v s.small (10 ^ width wide) (length_of u) (length_plain wide u (whole m v)) h
value_told wide i u m a b e t (of_constant {v} h) s =
    λ _. plain_told wide m v s.small (10 ^ width wide) (constant_of i) (constant_plain wide i (whole m v)) h
value_told wide i u m a b e t (of_pair {p} {s = r} {q} hp hr hq) s =
    λ _. (rw (whole_right_lem m p (10 ^ (width wide - 4)) s.small hp) (whole_right_lem r q 1000 hr hq), refl, refl, refl)

-- from a count to its figures

-- x is right as a count of one unit, and its digits are below 10 ^ width
record Number (wide : Bool) (at : ℕ → ℕ → Option Count) (of : Whole → Count) (x : Whole) : Type 0 where
  digits : ℕ
  says : figures_of (of x) ≡ figures.Number digits
  below : digits < 10 ^ width wide
  small : x.minus ≤ 1
  value : at x.minus digits ≡ Some (of x)

-- eight digits always fit
eight_fit : (wide : Bool) (n : ℕ) → n < 10 ^ 8 → n < 10 ^ width wide
eight_fit wide n h = lt_of_lt_of_le h (pow-le-pow_right {n = 10} (omega arith) {i = 8} {j = width wide} (width_bounds wide).0)

plain_sound : (wide : Bool) (limit : ℕ) (of : Whole → Count) (x : Whole) → Plain wide limit of x → count_right wide (of x) ≡ true
    → Sound x.minus x.size limit
plain_sound wide limit of x p e = sound_of x.minus x.size limit (sym p.right ∙ e)

plain_number : (wide : Bool) (of : Whole → Count) (x : Whole) → Plain wide (10 ^ width wide) of x → count_right wide (of x) ≡ true
    → Number wide (λ m n. Some (of (whole m n))) of x
plain_number wide of x p e =
    let r = plain_sound wide (10 ^ width wide) of x p e in
    record { digits = x.size; says = p.says; below = r.below; small = r.small; value = refl }

limited_number : (wide : Bool) (limit : ℕ) (of : Whole → Count) (x : Whole) → limit ≤ 10 ^ 8 → Plain wide limit of x → count_right wide (of x) ≡ true
    → Number wide (λ m n. counted (ltb n limit) (of (whole m n))) of x
limited_number wide limit of x h p e =
    let r = plain_sound wide limit of x p e in
    record {
      digits = x.size;
      says = p.says;
      below = eight_fit wide x.size (omega (arith, r.below));
      small = r.small;
      value = rw (lt-ltb x.size limit r.below);
    }

tenth_number : (wide : Bool) (x : Whole) → count_right wide (Tenth (record { 0 = x })) ≡ true → Number wide tenth_at (λ w. Tenth (record { 0 = w })) x
tenth_number wide x e =
    let n = x.size in
    let r = sound_of x.minus n tenth_limit e in
    let again = tenths_back n in
    record {
      digits = sexagesimal n;
      says = refl;
      below = eight_fit wide (sexagesimal n) (omega (arith, sexagesimal_below n r.below));
      small = r.small;
      value = rw (range_tests (sexagesimal n) (in_range n r.below), again);
    }

angle_number : (wide : Bool) (x : Whole) (u : ℕ) → count_right wide (angle_of u x) ≡ true → Number wide (angle_at u) (angle_of u) x
angle_number wide x =
    by_unit (λ at of. count_right wide (of x) ≡ true → Number wide at of x)
    (limited_number wide gon_limit (λ w. Gon (record { 0 = w })) x (omega arith) (gon_plain wide x))
    (limited_number wide degree_limit (λ w. Degree (record { 0 = w })) x (omega arith) (degree_plain wide x))
    (tenth_number wide x)
    (limited_number wide mil_limit (λ w. Mil (record { 0 = w })) x (omega arith) (mil_plain wide x))

-- c's figures fit a word of that kind, its sign is one of that kind, and the two count c
abbrev pub Counting : Bool → Kind → Word → Count → Type 0
Counting wide k w c = Fit (width wide) k (figures_of c) × SignFor k w.minus × (value_at k w.index (unit_in w) w.minus (figures_of c) ≡ Some c)

pub value_on : (wide : Bool) (k : Kind) (w : Word) → count_right wide (count_by k w) ≡ true → (first_of (count_by k w)).minus ≡ w.minus
    → Counting wide k w (count_by k w)
value_on wide kind.Missing w e q = absurd (false≢true e)
value_on wide kind.Numbered w e q = (of_numbered, record { small = omega arith; plus = λ _. sym q }, refl)
value_on wide kind.Text w e q = (of_text, record { small = omega arith; plus = λ _. sym q }, refl)
value_on wide kind.Angle w e q =
    let n = angle_number wide (whole w.minus w.size) (unit_in w) e in
    rw n.says (of_angle n.below, record { small = n.small; plus = λ t. absurd (false≢true t) }, n.value)
value_on wide kind.Length w e q =
    let x = whole w.minus w.size in
    let n = plain_number wide (length_of (unit_in w)) x (length_plain wide (unit_in w) x) e in
    rw n.says (of_length n.below, record { small = n.small; plus = λ t. absurd (false≢true t) }, n.value)
value_on wide kind.Constant w e q =
    let x = whole w.minus w.size in
    let n = plain_number wide (constant_of w.index) x (constant_plain wide w.index x) e in
    rw n.says (of_constant n.below, record { small = n.small; plus = λ t. absurd (false≢true t) }, n.value)
value_on wide kind.Pair w e q =
    let parts = both (whole_right (whole w.minus w.size) (10 ^ (width wide - 4))) (whole_right (whole w.mmminus w.mm) 1000) e in
    let p = sound_of w.minus w.size (10 ^ (width wide - 4)) parts.0 in
    let r = sound_of w.mmminus w.mm 1000 parts.1 in
    (of_pair p.below r.small r.below, record { small = p.small; plus = λ t. absurd (false≢true t) }, refl)
