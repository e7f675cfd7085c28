-- What was put is what is given: the record of a value's GET word, of either width, has the index, the unit and the value of the record that the
-- reader gives for the PUT word itself.
use Prim.Native.Nat.{ℕ}
use mathlib.Core.Path.{◌≡◌, refl, sym, ap, ◌∙◌}
use mathlib.Core.Bool.{Bool, true, false, cond}
use mathlib.Core.List.{List, [], ◌++◌}
use lib.Dec.{eqb}
use lib.ListN.{length, take, drop, replicate}
use Rattle.figures.specs.Bytes.{laid}
use Rattle.figures.specs.Decimal.{is_digit}
use Rattle.figures.proofs.Tests.{by_test}
use Rattle.units.specs.Kinds.{index_of}
use Rattle.units.specs.Information.{sign_of}
use Rattle.words.specs.Records.{unit_in}
use Rattle.words.specs.Reading.{pos, right_word, word_of}
use Rattle.words.proofs.Places.{spread}
use Rattle.units.specs.declared.kinds.Family.TheVariants.{Station}
use Rattle.words.specs.declared.records.Word.{Word}
use Rattle.words.specs.Reading.{word_in}
use Rattle.instrument.specs.Values.{Eight, is_text, stored_at, put_right, put_kept, eight_of}
use Rattle.instrument.proofs.Kept.{word_back, put_kept_right}
use Rattle.controller.specs.Given.{zeros, given}
use Rattle.controller.proofs.Words.{positions, row_given, place_reads, kept_small}

-- w is given for what b left at the place
pub record PutGiven (wide : Bool) (place : ℕ) (b : List ℕ) (w : Word) : Type 0 where
  pub index : (given wide place (put_kept b)).index ≡ w.index
  pub unit : unit_in (given wide place (put_kept b)) ≡ unit_in w
  pub minus : (given wide place (put_kept b)).minus ≡ w.minus
  pub size : (given wide place (put_kept b)).size ≡ w.size
  -- the eight characters after the zeros
  pub text : (given wide place (put_kept b)).text ≡ cond (is_text place) (laid (zeros wide ++ take 8 w.text) (replicate 16 0)) w.text
  pub narrow : wide ≡ false → (given wide place (put_kept b)).text ≡ w.text

same_cond : (t : Bool) (n : ℕ) → cond t n n ≡ n
same_cond true n = refl
same_cond false n = refl

module _ (place : ℕ) (b : List ℕ) (long : length b ≡ 16) (named : (stored_at place).index ≡ index_of (pos 1 b) (pos 2 b))
    (first : is_digit (pos 1 b) ≡ true) (second : is_digit (pos 2 b) ≡ true) (right : put_right place b ≡ true) where
  abbrev d : Eight
  d = eight_of (drop 7 b)

  -- the PUT word reads to the record of a narrow word, but for the mode
  put_reads : word_of Station false b ≡ right_word (row_given false false (pos 6 b) (sign_of (pos 7 b)) d
      (kept_small place (pos 6 b) (sign_of (pos 7 b)) d (put_kept_right place b long named first second right)) (stored_at place))
  put_reads =
      let u = pos 6 b in
      let m = sign_of (pos 7 b) in
      let kept = put_kept_right place b long named first second right in
      let small = kept_small place u m d kept in
      let is : b ≡ spread (positions false false u m d small (stored_at place)) [] =
      sym (word_back place b long named first second right) ∙ rw (same_cond (eqb (stored_at place).first 46) 46) in
      ap (word_of Station false) is ∙ place_reads false false u m d small place kept

  pub put_given : (wide : Bool) → PutGiven wide place b (word_in (word_of Station false b))
  put_given wide =
      let is = ap word_in put_reads in
      record {
        index = ap (λ (w : Word). w.index) (sym is);
        unit = ap unit_in (sym is);
        minus = ap (λ (w : Word). w.minus) (sym is);
        size = ap (λ (w : Word). w.size) (sym is);
        text = rw is (by_test (is_text place) (λ q. rw q) (λ q. rw q));
        narrow = λ e. rw e (ap (λ (w : Word). w.text) (sym is));
      }
