-- "26 also tells which of 6 to 10 it was, with the byte in the line" (request 104): it is one of these, and the byte is one of the word's.
use Prim.Native.Nat.{ℕ, ◌+◌, ◌<◌, ◌≤◌}
use mathlib.Core.Path.{◌≡◌, refl, sym, ap, ◌∙◌}
use mathlib.Core.Bool.{Bool, true, false, cond}
use mathlib.Core.List.{List}
use native.Mathlib.Omega.{arith}
use borrow.Author.Tests.{le-leb}
use lib.Dec.{eqb}
use lib.ListN.{length, get_or}
use Rattle.figures.specs.Bytes.{among}
use Rattle.figures.specs.Decimal.{are_digits}
use Rattle.figures.proofs.Tests.{along}
use Rattle.units.specs.Kinds.{station_kind, is_listed, index_of, listed_by}
use Rattle.units.specs.Information.{all_right, first_wrong, sign_right}
use Rattle.units.specs.declared.kinds.Family.TheVariants.{Station}
use Rattle.units.proofs.Positions.{first_most}
use Rattle.words.specs.Reading.{fault_number, pos, kind_at, marks_in, data_in, data_right, value_in, is_counted, record_in, right_word, unless, word_of}
use Rattle.words.proofs.Told.{told_within, fault_in, told_at}
use Rattle.words.specs.declared.reading.Fault.{Fault}
use Rattle.words.specs.declared.reading.Fault.TheVariants.{Information, Sign, Characters, Separator, Value}
use Rattle.std.specs.Prelude.{Ok, Err}
use Rattle.words.specs.Reading.{OneWord, Judged, judged_in, judged_wrong}
use Rattle.instrument.specs.Values.{stored, stored_at, put_marks, put_judged}

-- a PUT word is refused for its positions 3-6, or as a word
put_by : (place : ℕ) (b : List ℕ) (x : Fault) (at : ℕ) (P : Fault → ℕ → Type 0) → ((n : ℕ) → n ≤ 3 → P Information (2 + n))
    → (judged_in (word_of Station false b) ≡ judged_wrong x at → P x at)
    → put_judged place b ≡ judged_wrong x at → P x at
put_by place b x at P own word e = go (all_right (put_marks place b)) e
  where
    go : (t : Bool) → cond t (judged_in (word_of Station false b)) (judged_wrong Information (2 + first_wrong (put_marks place b))) ≡ judged_wrong x at → P x at
    go true h = word h
    go false h =
        let is : Information ≡ x = ap fault_in h in
        let told : 2 + first_wrong (put_marks place b) ≡ at = ap told_at h in
        rw (← is, ← told) (own (first_wrong (put_marks place b)) (first_most (put_marks place b)))

pub put_within : (place : ℕ) (b : List ℕ) (x : Fault) (at : ℕ) → put_judged place b ≡ judged_wrong x at → at < 16
put_within place b x at e = put_by place b x at (λ y n. n < 16) (λ n h. omega arith) (told_within Station false b x at) e

-- one of 6 to 10
abbrev Rule : Fault → Type 0
Rule x = (6 ≤ fault_number x) × (fault_number x ≤ 10)

abbrev Ruled : Judged → Type 0
Ruled (Ok t) = Unit {0}
Ruled (Err e) = Rule e.fault

keep : (b : Bool) (x : Fault) (at : ℕ) (r : OneWord) → Rule x → Ruled (judged_in r) → Ruled (judged_in (unless b x at r))
keep true x at r h w = w
keep false x at r h w = h

-- a word of that many bytes whose index is listed
word_rules : (b : List ℕ) → 16 ≤ length b → are_digits (pos 1 b) (pos 2 b) ≡ true → listed_by Station (pos 1 b) (pos 2 b) (pos 3 b) ≡ true
    → Ruled (judged_in (word_of Station false b))
word_rules b long digits listed =
    rw (le-leb 16 (length b) long, digits, listed)
    (keep (all_right (marks_in Station b)) Information _ _ (omega arith, omega arith)
    (keep (sign_right (kind_at Station b) (pos 7 b)) Sign _ _ (omega arith, omega arith)
    (keep (data_right (kind_at Station b) (data_in false b)) Characters _ _ (omega arith, omega arith)
    (keep (eqb (get_or b 15 0) 32) Separator _ _ (omega arith, omega arith)
    (keep (is_counted (value_in Station false b)) Value 7 (right_word (record_in Station false b)) (omega arith, omega arith) tt)))))

-- the index of each stored value is listed
all_listed : (place : ℕ) → place < 11 → is_listed (station_kind (stored_at place).index) ≡ true
unfolding stored among
all_listed place h = sym (along (λ p. is_listed (station_kind (stored_at p).index)) 0 11 refl (omega arith) h)

pub put_which : (place : ℕ) (b : List ℕ) (x : Fault) (at : ℕ) → place < 11 → 16 ≤ length b → (stored_at place).index ≡ index_of (pos 1 b) (pos 2 b)
    → are_digits (pos 1 b) (pos 2 b) ≡ true → put_judged place b ≡ judged_wrong x at → (6 ≤ fault_number x) × (fault_number x ≤ 10)
put_which place b x at h long named digits e =
    let listed = ap (λ i. is_listed (station_kind i)) (sym named) ∙ all_listed place h in
    let word : judged_in (word_of Station false b) ≡ judged_wrong x at → Rule x = λ is. rw is at (word_rules b long digits (rw listed)) in
    put_by place b x at (λ y n. Rule y) (λ n small. (omega arith, omega arith)) word e
