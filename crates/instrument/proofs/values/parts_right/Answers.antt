-- The tests on the parts are the rules for the word that they make.
use Rattle.std.proofs.Common.{◌≡◌, ◌≤◌, get_or, refl, sym, ◌∙◌, length, take, drop, arith, rules, tests}
use Rattle.std.specs.Prelude.{ℕ, Bool, false, ◌&&◌, List, Option, Some, None, MatchOption}
use Rattle.std.proofs.Math.Seq.{length-take-le}
use Rattle.std.proofs.Math.ListN.{length-drop}
use borrow.Author.Tests.{eq-eqb, ne_eqb, le-leb}
use Rattle.figures.specs.Bytes.{every}
use lib.Dec.{leb}
use Rattle.figures.specs.Decimal.{is_digit, number_of, number_in}
use Rattle.figures.proofs.Tests.{both, and_on, and_off}
use Rattle.words.proofs.Checks.{said_not, said_number}
use Rattle.units.specs.Counts.{angle_at}
use Rattle.words.specs.Reading.{is_counted}
use Rattle.instrument.proofs.Kept.{parts_past, parts_text, parts_length, parts_angle}
use Rattle.instrument.proofs.values.parts_right.Goals.{then-parts-ne10-via-then-parts-ne10, then-parts-ne10-via-else-parts-ne10+then-place-ge-VALUES}
use Rattle.instrument.proofs.values.parts_right.Goals as goal

-- what `is_some_and` tells of a number of eight characters
counted : (s : List ℕ) {r : Option ℕ} {b : Bool} (t : ℕ → Bool) {P : ℕ → Type 0} → length s ≤ 16 → r ≡ number_in s → MatchOption r (b ≡ false) P → ((n : ℕ) → P n → b ≡ t n)
    → b ≡ every is_digit s && t (number_of s)
counted s {r = None} t few e told by = told ∙ sym (and_off _ (sym (and_on (le-leb (length s) 16 few)) ∙ said_not s e refl))
counted s {r = Some n} t few e told by =
    let ok = said_number s e refl in
    let digits = (both (leb (length s) 16) (every is_digit s) ok.0).1 in
    by n told ∙ rw ok.1 (sym (and_on digits))

pub returns-then-parts-ne10 : goal.returns-then-parts-ne10
returns-then-parts-ne10 c =
    elim c.then-parts-ne10.branch [
      | then-parts-ne10-via-then-parts-ne10 w ↦ sym (and_off _ (ne_eqb _ 10 w.if-parts-ne10.true))
      | then-parts-ne10-via-else-parts-ne10+then-place-ge-VALUES w ↦ sym (parts_past c.args.place c.args.parts.now w.if-parts-ne10.false w.if-place-ge-VALUES.true)
    ]

pub returns-then-minus-eq0 : goal.returns-then-minus-eq0
returns-then-minus-eq0 c =
    let row = c.stored_at-row.ensures in
    c.all_within.ensures
    ∙ sym (parts_text c.args.place c.args.parts.now c.if-parts-ne10.false c.if-place-ge-VALUES.false (omega arith)
    (rw row at c.if-unit-row.false) (rw row at c.if-row-unit.false) c.if-unit-eq46.true
    ∙ and_on (eq-eqb _ 0 c.if-minus-eq0.true))

pub returns-else-minus-eq0 : goal.returns-else-minus-eq0
returns-else-minus-eq0 c =
    let row = c.stored_at-row.ensures in
    let minus = ne_eqb _ 0 c.if-minus-eq0.false in
    minus
    ∙ sym (parts_text c.args.place c.args.parts.now c.if-parts-ne10.false c.if-place-ge-VALUES.false (omega arith)
    (rw row at c.if-unit-row.false) (rw row at c.if-row-unit.false) c.if-unit-eq46.true
    ∙ and_off _ minus)

pub returns-then-unit-lt50 : goal.returns-then-unit-lt50
returns-then-unit-lt50 c =
    let row = c.stored_at-row.ensures in
    c.all_within-then-unit-lt50.ensures
    ∙ sym (parts_length c.args.place c.args.parts.now c.if-parts-ne10.false c.if-place-ge-VALUES.false (omega arith)
    (rw row at c.if-unit-row.false) (rw row at c.if-row-unit.false) c.if-unit-eq46.false c.if-unit-lt50.true)

pub returns : goal.returns
returns c =
    let row = c.stored_at-row.ensures in
    let l = c.args.parts.now in
    let eight = take 8 (drop 2 l) in
    let few : length eight ≤ 16 = omega (arith, length-take-le 8 (drop 2 l) (omega (arith, length-drop 2 l))) in
    counted eight (λ n. is_counted (angle_at (get_or l 0 0) (get_or l 1 0) n)) few c.number.ensures c.is_some_and.ensures (λ n p. search (rules, tests))
    ∙ sym (parts_angle c.args.place l c.if-parts-ne10.false c.if-place-ge-VALUES.false (omega arith)
    (rw row at c.if-unit-row.false) (rw row at c.if-row-unit.false) c.if-unit-lt50.false)
