-- What a right word's bytes are, rule by rule, and the record that they give; and what is told of their index and kind.
use Prim.Native.Nat.{ℕ, ◌+◌, ◌≤◌}
use mathlib.Core.Path.{◌≡◌, refl, ◌∙◌}
use mathlib.Core.Bool.{Bool, true, false, cond}
use mathlib.Core.List.{List, [], ◌∷◌}
use borrow.Author.Tests.{leb-true, eqb-true, ne_eqb}
use lib.Dec.{eqb, leb}
use lib.ListN.{length, get_or}
use Rattle.figures.specs.Text.{byte}
use Rattle.figures.specs.Bytes.{among}
use Rattle.figures.specs.Decimal.{are_digits}
use Rattle.figures.proofs.Tests.{clash}
use Rattle.units.specs.Kinds.{is_textual, listed_by}
use Rattle.units.specs.Information.{all_right, sign_right}
use Rattle.units.specs.declared.kinds.Family.{Family}
use Rattle.units.specs.declared.kinds.Kind.{Kind}
use Rattle.units.specs.declared.kinds.Kind.TheVariants.{Missing}
use Rattle.words.specs.Records.{width}
use Rattle.words.specs.Reading.{word_size, pos, data_in, kind_at, marks_in, data_right, value_in, is_counted, record_in, unless, word_of, OneWord, judged_right, judged_in, word_in}
use Rattle.words.specs.declared.reading.Fault.{Fault}
use Rattle.words.specs.declared.reading.Fault.TheVariants.{Short, Index, Unlisted, Information, Sign, Characters, Separator, Value}

pub record RightWord (f : Family) (wide : Bool) (s : List ℕ) : Type 0 where
  pub long : word_size wide ≤ length s
  pub digits : are_digits (pos 1 s) (pos 2 s) ≡ true
  pub listed : listed_by f (pos 1 s) (pos 2 s) (pos 3 s) ≡ true
  pub info : all_right (marks_in f s) ≡ true
  pub sign : sign_right (kind_at f s) (pos 7 s) ≡ true
  pub letters : data_right (kind_at f s) (data_in wide s) ≡ true
  pub end : get_or s (7 + width wide) 0 ≡ byte " "
  pub value : is_counted (value_in f wide s) ≡ true
  pub word : word_in (word_of f wide s) ≡ record_in f wide s

-- a rule that a right word keeps
through : (b : Bool) (x : Fault) (at : ℕ) (r : OneWord) → judged_in (unless b x at r) ≡ judged_right
    → (b ≡ true) × (judged_in r ≡ judged_right) × (word_in (unless b x at r) ≡ word_in r)
through true x at r e = (refl, e, refl)
through false x at r e = absurd (clash (cc))

pub right_word : (f : Family) (wide : Bool) (s : List ℕ) → judged_in (word_of f wide s) ≡ judged_right → RightWord f wide s
right_word f wide s e =
    let long = through (leb (word_size wide) (length s)) Short _ _ e in
    let digits = through (are_digits (pos 1 s) (pos 2 s)) Index _ _ long.1 in
    let listed = through (listed_by f (pos 1 s) (pos 2 s) (pos 3 s)) Unlisted _ _ digits.1 in
    let info = through (all_right (marks_in f s)) Information _ _ listed.1 in
    let sign = through (sign_right (kind_at f s) (pos 7 s)) Sign _ _ info.1 in
    let letters = through (data_right (kind_at f s) (data_in wide s)) Characters _ _ sign.1 in
    let end = through (eqb (get_or s (7 + width wide) 0) (byte " ")) Separator _ _ letters.1 in
    let value = through (is_counted (value_in f wide s)) Value _ _ end.1 in
    record {
      long = leb-true (word_size wide) (length s) long.0;
      digits = digits.0;
      listed = listed.0;
      info = info.0;
      sign = sign.0;
      letters = letters.0;
      end = eqb-true (get_or s (7 + width wide) 0) (byte " ") end.0;
      value = value.0;
      word = long.2 ∙ digits.2 ∙ listed.2 ∙ info.2 ∙ sign.2 ∙ letters.2 ∙ end.2 ∙ value.2;
    }

-- the kind of a word with numbers, as `kind_in` tells it
abbrev pub number_kind : Kind → Kind
number_kind k = cond (is_textual k) Missing k

-- an index that is neither of two
pub neither : (n x y : ℕ) → (n ≡ x → ⊥) → (n ≡ y → ⊥) → among n (x ∷ y ∷ []) ≡ false
unfolding among
neither n x y p q = rw (among, ne_eqb n x p, among, ne_eqb n y q, among)
