-- The typed values that words give: what the digits of a word that is read counted is what its record's typed count says, so that no unit
-- stands in for another on the way.
use Prim.Native.Nat.{ℕ}
use mathlib.Core.Path.{◌≡◌, refl}
use mathlib.Core.Bool.{Bool, true, false, ◌||◌, or-true}
use mathlib.Core.List.{List}
use Rattle.std.specs.Prelude.{Some, Ok, Err}
use Rattle.figures.proofs.Tests.{clash}
use Rattle.words.specs.Records.{is_right, count_of, typed_of}
use Rattle.words.specs.Reading.{OneWord, judged_in, judged_right, word_in, value_in, right_word, word_of}
use Rattle.units.specs.declared.kinds.Family.{Family}
use Rattle.words.specs.declared.records.Word.{Word}
use Rattle.words.proofs.RoundTrip.{read_counts}
use Rattle.words.proofs.Given.{gives}

-- what holds of one width holds of either
either : (wide : Bool) (p : Bool → Bool) → p wide ≡ true → p false || p true ≡ true
either false p e = rw e
either true p e = rw e (or-true (p false))

-- a record that some word gives is typed by its kind and unit
pub right_typed : (f : Family) (wide : Bool) (w : Word) → is_right f wide w ≡ true → typed_of f w ≡ count_of f w
right_typed f wide w e = rw (either wide (λ b. is_right f b w) e)

pub given_typed : (f : Family) (wide : Bool) (s : List ℕ) (w : Word) → word_of f wide s ≡ right_word w → value_in f wide s ≡ Some (typed_of f w)
given_typed f wide s w e = rw (right_typed f wide w (gives f wide w s e)) (read_counts f wide s w e)

right_is : (o : OneWord) → judged_in o ≡ judged_right → o ≡ right_word (word_in o)
right_is (Ok w) e = refl
right_is (Err x) e = absurd (clash (cc))

pub typed : (f : Family) (wide : Bool) (s : List ℕ) → judged_in (word_of f wide s) ≡ judged_right
    → value_in f wide s ≡ Some (typed_of f (word_in (word_of f wide s)))
typed f wide s e = given_typed f wide s (word_in (word_of f wide s)) (right_is (word_of f wide s) e)
