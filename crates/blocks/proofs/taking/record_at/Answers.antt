-- What `record_at` asks of its calls and returns: a right word's index is listed, and each kind of it has the bytes that its own function takes.
use Prim.Native.Nat.{ℕ, ◌+◌, ◌-◌, ◌≤◌}
use mathlib.Core.Path.{◌≡◌, refl, sym, ap, ◌∙◌}
use mathlib.Core.Bool.{Bool, true, false≢true}
use mathlib.Core.List.{List, [], ◌∷◌}
use mathlib.Core.Logic.{◌⊎◌, ⊎_elim, inl, inr}
use borrow.Rule.Slice.PartMut.{mid_of}
use native.Mathlib.Omega.{arith}
use lib.Dec.{eqb}
use lib.ListN.{length, replicate}
use Rattle.figures.specs.Bytes.{laid}
use Rattle.figures.specs.Decimal.{is_digit, number_of}
use Rattle.figures.proofs.Tests.{by_test, either}
use Rattle.units.specs.Kinds.{kind_of, is_listed, is_textual}
use Rattle.units.specs.Information.{info_marks, all_right, lead_of, is_sign, sign_of}
use Rattle.units.specs.Counts.{whole, metres, feet, length_of, constant_of, value_at}
use Rattle.units.specs.declared.kinds.Family.{Family}
use Rattle.units.specs.declared.kinds.Family.TheVariants.{Station, Level}
use Rattle.units.specs.declared.kinds.Kind.{Kind}
use Rattle.units.specs.declared.kinds.Kind.TheVariants as kind
use Rattle.units.specs.declared.counts.Whole.{Whole}
use Rattle.units.specs.declared.counts.Count.{Count}
use Rattle.units.specs.declared.counts.Count.TheVariants.{Text, Inch, Ppm}
use Rattle.units.proofs.Positions.{sign_of_lem}
use Rattle.words.specs.Records.{width, record_of}
use Rattle.words.specs.Reading.{pos, data_in, index_in, kind_at, info_in, data_right, figures_in, text_field, count_or, word_of, judged_right, judged_in, word_in}
use Rattle.words.specs.declared.records.Word.{Word}
use Rattle.words.proofs.Checks.{data_part, data_fits}
use Rattle.words.proofs.Letters.{one_right}
use Rattle.blocks.specs.Keeping.{DigitsRight, angle_in, length_in, pair_in}
use Rattle.blocks.proofs.Takes.{RightWord, right_word, number_kind}
use Rattle.blocks.proofs.taking.record_at.Goals as goal

-- no index that is missing has right information
informed_listed : (f : Family) (i : ℕ) (k : Kind) (a b c d : ℕ) → all_right (info_marks f i k a b c d) ≡ true → is_listed k ≡ true
informed_listed Station i kind.Missing a b c d e = absurd (false≢true e)
informed_listed Level i kind.Missing a b c d e = absurd (false≢true e)
informed_listed f i kind.Numbered a b c d e = refl
informed_listed f i kind.Text a b c d e = refl
informed_listed f i kind.Angle a b c d e = refl
informed_listed f i kind.Length a b c d e = refl
informed_listed f i kind.Constant a b c d e = refl
informed_listed f i kind.Pair a b c d e = refl

right_listed : {f : Family} {wide : Bool} {s : List ℕ} → RightWord f wide s → is_listed (kind_at f s) ≡ true
right_listed {f} {wide} {s} r = informed_listed f (index_in f s) (kind_at f s) _ _ _ _ r.info

-- what `kind_in` tells of a listed kind

told : (k : Kind) {x : Kind} → is_listed x ≡ true → number_kind k ≡ x → k ≡ x
told k {x} h e = by_test (is_textual k) (λ q. absurd (false≢true (ap is_listed (rw q at e) ∙ h))) (λ q. rw q at e)

told_text : (k : Kind) → is_listed k ≡ true → (number_kind k ≡ kind.Angle → ⊥) → (number_kind k ≡ kind.Length → ⊥) → (number_kind k ≡ kind.Constant → ⊥)
    → (number_kind k ≡ kind.Pair → ⊥) → (k ≡ kind.Numbered) ⊎ (k ≡ kind.Text)
told_text kind.Missing e a l c p = absurd (false≢true e)
told_text kind.Numbered e a l c p = inl refl
told_text kind.Text e a l c p = inr refl
told_text kind.Angle e a l c p = absurd (a refl)
told_text kind.Length e a l c p = absurd (l refl)
told_text kind.Constant e a l c p = absurd (c refl)
told_text kind.Pair e a l c p = absurd (p refl)

-- a record keeps of a length and of a constant the same: the number
module _ (i : ℕ) (info : List ℕ) (w : Whole) (t : List ℕ) where
  abbrev Plain : Count → Type 0
  Plain c = record_of i info c t ≡ record_of i info (Ppm (record { 0 = w })) t

  length_plain : (u : ℕ) → Plain (length_of u w)
  length_plain u =
      either Plain (eqb u 48) (metres 3 w) _ (λ _. refl)
      (either Plain (eqb u 49) (feet 3 w) _ (λ _. refl)
      (either Plain (eqb u 54) (metres 4 w) _ (λ _. refl)
      (either Plain (eqb u 55) (feet 4 w) _ (λ _. refl)
      (either Plain (eqb u 57) (Inch (record { 0 = w })) (metres 5 w) (λ _. refl) refl))))

  constant_plain : Plain (constant_of i w)
  constant_plain = either Plain (eqb i 58) (metres 4 w) (Ppm (record { 0 = w })) (λ _. refl) refl

-- the record of a right word, where it is of that kind
abbrev record_by : Family → Bool → List ℕ → Kind → Word
record_by f wide s k =
    let d = data_in wide s in
    record_of (index_in f s) (info_in f s) (count_or (value_at k (index_in f s) (pos 6 s) (sign_of (pos 7 s)) (figures_in k d))) (text_field k d)

abbrev four : ℕ → List ℕ → List ℕ
four lead s = lead ∷ pos 4 s ∷ pos 5 s ∷ pos 6 s ∷ []

-- a right word, and what is asked of it: its index, the first byte of its information, and its kind
record Found (f : Family) (wide : Bool) (s : List ℕ) (i lead : ℕ) (k : Kind) : Type 0 where
  right : RightWord f wide s
  index : i ≡ index_in f s
  led : lead ≡ lead_of i (pos 3 s)
  asked : k ≡ number_kind (kind_of f i)

module _ {f : Family} {wide : Bool} {s : List ℕ} {i lead : ℕ} {k : Kind} (o : Found f wide s i lead k) where
  says : number_kind (kind_at f s) ≡ k
  says = sym (o.asked ∙ ap (λ n. number_kind (kind_of f n)) o.index)

  is : {x : Kind} → is_listed x ≡ true → k ≡ x → kind_at f s ≡ x
  is h e = told (kind_at f s) h (says ∙ e)

  is_number : (k ≡ kind.Length) ⊎ (k ≡ kind.Constant) → (kind_at f s ≡ kind.Length) ⊎ (kind_at f s ≡ kind.Constant)
  is_number h = ⊎_elim (λ e. inl (is refl e)) (λ e. inr (is refl e)) h

  is_text : (k ≡ kind.Angle → ⊥) → (k ≡ kind.Length → ⊥) → (k ≡ kind.Constant → ⊥) → (k ≡ kind.Pair → ⊥)
      → (kind_at f s ≡ kind.Numbered) ⊎ (kind_at f s ≡ kind.Text)
  is_text a l c p =
      told_text (kind_at f s) (right_listed o.right) (λ e. a (sym says ∙ e)) (λ e. l (sym says ∙ e)) (λ e. c (sym says ∙ e)) (λ e. p (sym says ∙ e))

  -- what a function needs of the bytes

  letters : {x : Kind} → kind_at f s ≡ x → data_right x (data_in wide s) ≡ true
  letters e = ap (λ (x : Kind). data_right x (data_in wide s)) (sym e) ∙ o.right.letters

  sign : is_sign (pos 7 s) ≡ true
  sign = (sign_of_lem (kind_at f s) (pos 7 s) o.right.sign).0

  digits : data_right kind.Angle (data_in wide s) ≡ true → DigitsRight wide s
  digits e = record { long = o.right.long; sign = sign; digits = sym (one_right is_digit (data_in wide s)) ∙ e }

  angle_digits : k ≡ kind.Angle → DigitsRight wide s
  angle_digits e = digits (letters (is refl e))

  number_digits : (k ≡ kind.Length) ⊎ (k ≡ kind.Constant) → DigitsRight wide s
  number_digits h = digits (⊎_elim (λ e. letters e) (λ e. letters e) (is_number h))

  pair_part : {n : ℕ} → k ≡ kind.Pair → n ≡ width wide
      → let d = mid_of 7 (7 + n - 7) s in (4 ≤ length d) × ((length d ≤ 16) × (data_right kind.Pair d ≡ true))
  pair_part {n} e w =
      let (some, few) = data_fits wide s n w o.right.long in
      (some, (few, rw (data_part wide s n w) (letters (is refl e))))

  -- what it gives is the word's record

  given : (x : Kind) (c : Count) (t : List ℕ) {r : Word} → kind_at f s ≡ x → record_of (index_in f s) (info_in f s) c t ≡ record_by f wide s x
      → r ≡ record_of i (four lead s) c t → r ≡ word_in (word_of f wide s)
  given x c t e same er =
      let all : record_of i (four lead s) c t ≡ record_of (index_in f s) (info_in f s) c t = rw (o.led, o.index) in
      er ∙ all ∙ same ∙ ap (record_by f wide s) (sym e) ∙ sym o.right.word

  angle_given : {r : Word} → k ≡ kind.Angle → r ≡ record_of i (four lead s) (angle_in wide s) (replicate 16 0) → r ≡ word_in (word_of f wide s)
  angle_given e er = given kind.Angle (angle_in wide s) (replicate 16 0) (is refl e) refl er

  number_given : {r : Word} → (k ≡ kind.Length) ⊎ (k ≡ kind.Constant) → r ≡ record_of i (four lead s) (length_in wide s) (replicate 16 0)
      → r ≡ word_in (word_of f wide s)
  number_given h er =
      let j = index_in f s in
      let info = info_in f s in
      let n = whole (sign_of (pos 7 s)) (number_of (data_in wide s)) in
      let t : List ℕ = replicate 16 0 in
      ⊎_elim (λ e. given kind.Length (length_in wide s) t e refl er)
      (λ e. given kind.Constant (length_in wide s) t e (length_plain j info n t (pos 6 s) ∙ sym (constant_plain j info n t)) er) (is_number h)

  pair_given : {n m : ℕ} {r : Word} → k ≡ kind.Pair → n ≡ width wide → m ≡ sign_of (pos 7 s)
      → r ≡ record_of i (four lead s) (pair_in m (mid_of 7 (7 + n - 7) s)) (replicate 16 0) → r ≡ word_in (word_of f wide s)
  pair_given {n} e w under er =
      given kind.Pair (pair_in (sign_of (pos 7 s)) (data_in wide s)) (replicate 16 0) (is refl e) refl (rw (under, data_part wide s n w) at er)

  text_given : {r : Word} → (k ≡ kind.Angle → ⊥) → (k ≡ kind.Length → ⊥) → (k ≡ kind.Constant → ⊥) → (k ≡ kind.Pair → ⊥)
      → r ≡ record_of i (four lead s) Text (laid (data_in wide s) (replicate 16 0)) → r ≡ word_in (word_of f wide s)
  text_given a l c p er =
      let t = laid (data_in wide s) (replicate 16 0) in
      ⊎_elim (λ e. given kind.Numbered Text t e refl er) (λ e. given kind.Text Text t e refl er) (is_text a l c p)

found : (f : Family) (wide : Bool) (s : List ℕ) {i lead : ℕ} {k : Kind} → judged_in (word_of f wide s) ≡ judged_right → i ≡ index_in f s
    → lead ≡ lead_of i (pos 3 s) → k ≡ number_kind (kind_of f i) → Found f wide s i lead k
found f wide s e index led asked = record { right = right_word f wide s e; index = index; led = led; asked = asked }

pub index_in-index-requires : goal.index_in-index-requires
index_in-index-requires c =
    let r = right_word c.args.family c.args.wide c.args.s.now c.requires in
    (omega (arith, r.long), (r.digits, r.listed))

pub kind_in-requires : goal.kind_in-requires
kind_in-requires c =
    let a = c.args in
    ap (λ n. is_listed (kind_of a.family n)) c.index_in-index.ensures ∙ right_listed (right_word a.family a.wide a.s.now c.requires)

pub angle_word-requires : goal.angle_word-requires
angle_word-requires c =
    let a = c.args in
    let o = found a.family a.wide a.s.now c.requires c.index_in-index.ensures c.lead_of.ensures c.kind_in.ensures in
    angle_digits o c.in-Angle.is

pub number_word-requires : goal.number_word-requires
number_word-requires c =
    let a = c.args in
    let o = found a.family a.wide a.s.now c.requires c.index_in-index.ensures c.lead_of.ensures c.kind_in.ensures in
    number_digits o c.in-Length.is

pub minus_at-requires : goal.minus_at-requires
minus_at-requires c =
    let a = c.args in
    let o = found a.family a.wide a.s.now c.requires c.index_in-index.ensures c.lead_of.ensures c.kind_in.ensures in
    sign o

pub pair_word-requires : goal.pair_word-requires
pair_word-requires c =
    let a = c.args in
    let o = found a.family a.wide a.s.now c.requires c.index_in-index.ensures c.lead_of.ensures c.kind_in.ensures in
    pair_part o c.in-Pair.is c.width_of.ensures

pub returns-in-Angle : goal.returns-in-Angle
returns-in-Angle c =
    let a = c.args in
    let o = found a.family a.wide a.s.now c.requires c.index_in-index.ensures c.lead_of.ensures c.kind_in.ensures in
    angle_given o c.in-Angle.is c.angle_word.ensures

pub returns-in-Length : goal.returns-in-Length
returns-in-Length c =
    let a = c.args in
    let o = found a.family a.wide a.s.now c.requires c.index_in-index.ensures c.lead_of.ensures c.kind_in.ensures in
    number_given o c.in-Length.is c.number_word.ensures

pub returns-in-Pair : goal.returns-in-Pair
returns-in-Pair c =
    let a = c.args in
    let o = found a.family a.wide a.s.now c.requires c.index_in-index.ensures c.lead_of.ensures c.kind_in.ensures in
    pair_given o c.in-Pair.is c.width_of.ensures c.minus_at.ensures c.pair_word.ensures

pub returns-in_default : goal.returns-in_default
returns-in_default c =
    let a = c.args in
    let o = found a.family a.wide a.s.now c.requires c.index_in-index.ensures c.lead_of.ensures c.kind_in.ensures in
    text_given o c.in_default.not-Angle c.in_default.not-Length c.in_default.not-Constant c.in_default.not-Pair c.text_word.ensures
