-- Laws of a right record's word as it is put: its digits by halves, the figures of a number by its kind and unit, and its parts in their room.
use Prim.Native.Nat.{ℕ, zero, suc, ◌+◌, ◌-◌, ◌*◌, ◌/◌, ◌%◌, ◌^◌, ◌≤◌, ◌<◌}
use mathlib.Core.Path.{◌≡◌, refl, sym, ap, ◌∙◌}
use mathlib.Core.Bool.{Bool, true, false, cond}
use mathlib.Core.List.{List, [], ◌∷◌, ◌++◌, append_assoc, append-nil}
use native.Mathlib.Nat.{add-zero, add-suc, div-one, pow-suc, pow-succ', one-le-pow, div-div-eq-div-mul, pow-le-pow_right}
use native.Mathlib.Omega.{arith}
use borrow.Author.Tests.{eqb-true}
use borrow.Rule.Slice.PartMut.{put_mid, mid_of, same_len_mid}
use types.Run.{OneOf, miss}
use denote.Enum.Declared.{tag_of}
use lib.Arith.{mod-mul}
use lib.Dec.{eqb}
use lib.ListN.{length, set, length-append, length-set, drop_of_length-le}
use Rattle.figures.specs.Bytes.{laid}
use Rattle.figures.specs.Decimal.{digits_of}
use Rattle.figures.proofs.Bytes.{length_mid, laid_fits, fill_on, store_on}
use Rattle.figures.proofs.Decimal.{digits_length}
use Rattle.figures.proofs.Tests.{by_test}
use Rattle.units.specs.Counts.{whole, angle_of, figures_of}
use Rattle.units.specs.Kinds.{is_listed, is_textual}
use Rattle.units.specs.Information.{head_of, sign_byte}
use Rattle.units.specs.contracts.kinds.Kind.{the_type}
use Rattle.units.specs.declared.kinds.Family.{Family}
use Rattle.units.specs.declared.kinds.Kind.{Kind}
use Rattle.units.specs.declared.kinds.Kind.TheVariants as kind
use Rattle.units.specs.declared.counts.Whole.{Whole}
use Rattle.units.specs.declared.counts.Count.TheVariants as count
use Rattle.units.specs.declared.counts.Figures.TheVariants as figures
use Rattle.words.specs.Records.{width, kind_in, unit_in, count_by, count_of, count_right, is_right}
use Rattle.words.specs.Writing.{data_of, bytes_of}
use Rattle.words.specs.declared.records.Word.{Word}
use Rattle.words.proofs.Characters.{Fit, of_angle, of_length, of_constant}
use Rattle.words.proofs.Checks.{width_bounds}
use Rattle.words.proofs.RoundTrip.{takes}
use Rattle.words.proofs.Values.{by_length, by_constant, value_on}
use Rattle.blocks.specs.Keeping.{figures_by}

-- digits

digits_split : (j k n : ℕ) → digits_of (j + k) n ≡ digits_of j (n / 10 ^ k) ++ digits_of k (n % 10 ^ k)
unfolding digits_of
digits_split j zero n = rw (add-zero, div-one, append-nil)
digits_split j (suc k) n =
    let some : 0 < 10 ^ k = one-le-pow k 10 (omega arith) in
    let m : ℕ = n / 10 % 10 ^ k in
    let low : n % 10 ^ suc k ≡ m * 10 + n % 10 = ap (λ x. n % x) (pow-suc 10 k) ∙ mod-mul n some (omega arith) in
    let high : n / 10 ^ suc k ≡ n / 10 / 10 ^ k = ap (λ x. n / x) (pow-succ' 10 k) ∙ sym (div-div-eq-div-mul n 10 (10 ^ k)) in
    let front : (m * 10 + n % 10) / 10 ≡ m = omega arith in
    let last : (m * 10 + n % 10) % 10 ≡ n % 10 = omega arith in
    rw (add-suc j k, low, high, front, last, digits_split j k (n / 10), append_assoc)

-- a room that is filled by halves
two_halves : (out front back : List ℕ) (k : ℕ) → length out ≡ k + k → length front ≡ k → length back ≡ k
    → put_mid k k (put_mid 0 k out front) back ≡ front ++ back
two_halves out front back k h hf hb =
    let first = fill_on [] out out front 0 k refl refl hf in
    let all = length-append front back in
    fill_on front out (put_mid 0 k out front) back k k (sym hf) first hb
    ∙ rw (drop_of_length-le out {i = length (front ++ back)} (omega arith), append-nil)

pub digit_halves : (out front back : List ℕ) (k n : ℕ) → length out ≡ k + k → front ≡ digits_of k (n / 10 ^ k) → back ≡ digits_of k (n % 10 ^ k)
    → put_mid k k (put_mid 0 k out front) back ≡ digits_of (k + k) n
digit_halves out front back k n h ef eb =
    two_halves out front back k h (ap length ef ∙ digits_length k (n / 10 ^ k)) (ap length eb ∙ digits_length k (n % 10 ^ k))
    ∙ rw (digits_split k k n, ef, eb)

-- a word's room once its positions 1-6 and its sign stand in it
abbrev pub headed_in : List ℕ → List ℕ → ℕ → List ℕ
headed_in room head sign = set (put_mid 0 6 room head) 6 sign

pub headed_length : (room head : List ℕ) (sign : ℕ) → length head ≡ length (mid_of 0 6 room) → length (headed_in room head sign) ≡ length room
headed_length room head sign h = length-set (put_mid 0 6 room head) 6 sign ∙ same_len_mid 0 6 room head h

-- the room of the data
pub data_room : (room : List ℕ) (n : ℕ) → 7 + n ≤ length room → length (mid_of 7 (7 + n - 7) room) ≡ n
data_room room n h = length_mid 7 (7 + n - 7) room (omega arith) ∙ omega arith

pub word_on : (room head letters : List ℕ) (sign n : ℕ) → 8 + n ≤ length room → length head ≡ 6 → length letters ≡ n
    → set (put_mid 7 (7 + n - 7) (headed_in room head sign) letters) (7 + n) 32 ≡ laid (head ++ (sign ∷ (letters ++ (32 ∷ [])))) room
word_on room head letters sign n h six hl =
    let first = fill_on [] room room head 0 6 refl refl six in
    let second = store_on head room (put_mid 0 6 room head) 6 sign (omega arith) (omega arith) first in
    let signed = head ++ (sign ∷ []) in
    let seven = length-append head (sign ∷ []) in
    let third = fill_on signed room (headed_in room head sign) letters 7 (7 + n - 7) (omega arith) second (omega arith) in
    let long = length-append signed letters in
    let all = length-append (signed ++ letters) (32 ∷ []) in
    let whole : (signed ++ letters) ++ (32 ∷ []) ≡ head ++ (sign ∷ (letters ++ (32 ∷ []))) = simp append_assoc in
    store_on (signed ++ letters) room (put_mid 7 (7 + n - 7) (headed_in room head sign) letters) (7 + n) 32 (omega arith) (omega arith) third
    ∙ sym (laid_fits ((signed ++ letters) ++ (32 ∷ [])) room (omega arith))
    ∙ ap (λ x. laid x room) whole

pub word_is : (f : Family) (wide : Bool) (w : Word) (head letters : List ℕ) (sign : ℕ) → head ≡ head_of w.index w.info → sign ≡ sign_byte w.minus
    → letters ≡ data_of (width wide) (figures_of (count_of f w)) w.text → head ++ (sign ∷ (letters ++ (32 ∷ []))) ≡ bytes_of f wide w
word_is f wide w head letters sign eh es el = rw (el, eh, es)

-- the kinds with one number, by their place among the variants
abbrev pub numbers : List ℕ
numbers = 3 ∷ 4 ∷ 5 ∷ []

-- which kind a record with one number has whose kind was told as `kind_in` tells it
pub number_kind : (k r : Kind) → r ≡ cond (is_textual k) kind.Missing k → OneOf numbers (tag_of the_type r) → k ≡ r
number_kind kind.Missing r e h = sym e
number_kind kind.Numbered r e h = absurd (miss numbers 0 tt (rw e at h))
number_kind kind.Text r e h = absurd (miss numbers 0 tt (rw e at h))
number_kind kind.Angle r e h = sym e
number_kind kind.Length r e h = sym e
number_kind kind.Constant r e h = sym e
number_kind kind.Pair r e h = sym e

-- the figures of a record with one number

angle_figures : (u : ℕ) (x : Whole) → figures_of (angle_of u x) ≡ figures.Number (figures_by kind.Angle u x.size)
angle_figures u x =
    by_test (eqb u 52) (λ q. let is = eqb-true u 52 q in rw is) (λ q. rw q (go (eqb u 50) (eqb u 51)))
  where
    go : (a b : Bool)
        → figures_of (cond a (count.Gon (record { 0 = x })) (cond b (count.Degree (record { 0 = x })) (count.Mil (record { 0 = x })))) ≡ figures.Number x.size
    go true b = refl
    go false true = refl
    go false false = refl

pub figures_by_lem : (k : Kind) (w : Word) → OneOf numbers (tag_of the_type k) → figures_of (count_by k w) ≡ figures.Number (figures_by k (unit_in w) w.size)
figures_by_lem kind.Missing w h = absurd (miss numbers 0 tt h)
figures_by_lem kind.Numbered w h = absurd (miss numbers 1 tt h)
figures_by_lem kind.Text w h = absurd (miss numbers 2 tt h)
figures_by_lem kind.Angle w h = angle_figures (unit_in w) (whole w.minus w.size)
figures_by_lem kind.Length w h =
    by_length (λ of. figures_of (of (whole w.minus w.size)) ≡ figures.Number w.size) (λ d. refl) (λ d. refl) refl (unit_in w)
figures_by_lem kind.Constant w h = by_constant (λ of. figures_of (of (whole w.minus w.size)) ≡ figures.Number w.size) refl refl w.index
figures_by_lem kind.Pair w h = absurd (miss numbers 6 tt h)

fit_below : {n v : ℕ} {k : Kind} → Fit n k (figures.Number v) → v < 10 ^ n
fit_below (of_angle h) = h
fit_below (of_length h) = h
fit_below (of_constant h) = h

-- sexagesimal figures are no less than their size
figures_most : (k : Kind) (u n : ℕ) → n ≤ figures_by k u n
figures_most kind.Missing u n = omega arith
figures_most kind.Numbered u n = omega arith
figures_most kind.Text u n = omega arith
figures_most kind.Angle u n =
    let minutes = div-div-eq-div-mul n 10 60 in
    let degrees = div-div-eq-div-mul n 600 60 in
    by_test (eqb u 52) (λ q. rw q (omega arith)) (λ q. rw q (omega arith))
figures_most kind.Length u n = omega arith
figures_most kind.Constant u n = omega arith
figures_most kind.Pair u n = omega arith

-- a right record's kind and number

module _ (f : Family) (wide : Bool) (w : Word) (right : is_right f wide w ≡ true) where
  pub right_listed : is_listed (kind_in f w) ≡ true
  right_listed = go (kind_in f w) (takes f wide w right).count
    where
      go : (k : Kind) → count_right wide (count_by k w) ≡ true → is_listed k ≡ true
      go kind.Missing e = e
      go kind.Numbered e = refl
      go kind.Text e = refl
      go kind.Angle e = refl
      go kind.Length e = refl
      go kind.Constant e = refl
      go kind.Pair e = refl

  pub figures_below : OneOf numbers (tag_of the_type (kind_in f w)) → figures_by (kind_in f w) (unit_in w) w.size < 10 ^ width wide
  figures_below h =
      let t = takes f wide w right in
      let fit = (value_on wide (kind_in f w) w t.count (ap (λ (x : Whole). x.minus) t.first)).0 in
      fit_below (rw (figures_by_lem (kind_in f w) w h) at fit)

  pub size_below : OneOf numbers (tag_of the_type (kind_in f w)) → w.size < 10 ^ 16
  size_below h =
      let most = pow-le-pow_right {n = 10} (omega arith) {i = width wide} {j = 16} (width_bounds wide).1 in
      omega (arith, figures_below h, figures_most (kind_in f w) (unit_in w) w.size)
