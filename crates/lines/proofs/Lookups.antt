-- Laws of the lookups: a setting by its number, a stored value by two characters, the groups of GET one by one.
use Prim.Native.Nat.{ℕ, zero, suc, ◌+◌, ◌/◌, ◌<◌}
use mathlib.Core.Path.{◌≡◌, refl, sym, ap, ◌∙◌}
use mathlib.Core.Bool.{Bool, true, false, cond, ◌&&◌}
use mathlib.Core.List.{List, [], ◌∷◌, ◌++◌, flat_map}
use native.Mathlib.Omega.{arith}
use borrow.Author.Tests.{ne_eqb, leb-true}
use lib.Dec.{leb}
use lib.ListN.{length, get_or, take, drop, length-append, get_or-append}
use lib.Seq.{drop_at}
use Rattle.std.specs.Prelude.{Option, Some, None}
use Rattle.figures.specs.Text.{codes}
use Rattle.figures.specs.Bytes.{starts_with}
use Rattle.figures.specs.Decimal.{is_digit, number_of}
use Rattle.figures.proofs.Tests.{both}
use Rattle.units.specs.Kinds.{index_of}
use Rattle.instrument.specs.Rows.{seek}
use Rattle.instrument.specs.Settings.{rows100, rows300, rows_of, no_row, setting_number, setting_place, settings_n, parameter_at, parameter_of}
use Rattle.instrument.specs.Values.{Kept, stored, no_stored, stored_at, index_number, value_place, values_n}
use Rattle.instrument.specs.declared.settings.Series.{Series}
use Rattle.instrument.specs.declared.settings.Series.TheVariants.{Tps100, Tps300}
use Rattle.instrument.specs.declared.settings.Row.{Row}
use Rattle.state.specs.Image.{state_in}
use Rattle.state.specs.Keeping.{Imaged}
use Rattle.state.specs.declared.entries.State.{State}
use Rattle.instrument.proofs.Seek.{found_at}
use Rattle.state.proofs.Places.{series_read}
use Rattle.commands.specs.Shapes.{group_right, groups_right, groups_in, indexes_in}
use Rattle.commands.proofs.Shape.{group_number}
use Rattle.lines.specs.Verdicts.{set_by, set_verdict, place_named, get_by, get_verdict}
use Rattle.lines.specs.Replies.{get_words}
use Rattle.lines.specs.Keeping.{bare_state, set_verdict_by, groups_verdict, groups_words}
use Rattle.lines.specs.Verdicts.{accepted}

-- a setting's number has at most four digits

four_digits : List Row → Bool
four_digits [] = true
four_digits (r ∷ l) = leb (setting_number r) 9999 && four_digits l

seek_above : (l : List Row) (i n : ℕ) → four_digits l ≡ true → 9999 < n → seek setting_number l i n ≡ None
unfolding seek four_digits
seek_above [] i n e h = refl
seek_above (r ∷ l) i n e h =
    let (here, later) = both (leb (setting_number r) 9999) (four_digits l) e in
    rw (ne_eqb (setting_number r) n (λ q. omega (arith, leb-true (setting_number r) 9999 here))) (seek_above l (i + 1) n later h)

rows_four : (k : Series) → four_digits (rows_of k) ≡ true
unfolding rows100 rows300 four_digits
rows_four Tps100 = refl
rows_four Tps300 = refl

pub setting_none : (k : Series) (n : ℕ) → 9999 < n → setting_place k n ≡ None
setting_none k n h = seek_above (rows_of k) 0 n (rows_four k) h

-- a place that is found is one of the list

pub setting_in : (k : Series) (n i : ℕ) → setting_place k n ≡ Some i → i < settings_n k
setting_in k n i e = (found_at setting_number (rows_of k) no_row n i e).0

-- so the parameter of an image's state stands there
pub parameter_found : {k : Series} {l : List ℕ} → Imaged k l → (n i : ℕ) → setting_place k n ≡ Some i
    → get_or (state_in l).settings i 0 ≡ parameter_of (state_in l).series (state_in l).settings n
parameter_found {k} {l} im n i e =
    sym (ap (parameter_at (state_in l).settings) (ap (λ (t : Series). setting_place t n) (series_read im) ∙ e))

pub value_found : (n i : ℕ) → value_place n ≡ Some i → (i < values_n) × (index_number (stored_at i) ≡ n)
unfolding stored
value_found n i e = found_at index_number stored no_stored n i e

abbrev Digits : ℕ → ℕ → ℕ → Type 0
Digits a b i = (is_digit a ≡ true) × (is_digit b ≡ true) × (value_place (index_of a b) ≡ Some i)

pub named : (a b i : ℕ) → place_named a b ≡ Some i → Digits a b i
named a b i e = go (is_digit a) (is_digit b) refl refl e
  where
    none : {A : Type 0} → None ≡ Some i → A
    none q = let z : ◌≡◌ {A = ℕ} 0 1 = cc in absurd (omega arith)

    go : (d d' : Bool) → is_digit a ≡ d → is_digit b ≡ d' → cond (d && d') (value_place (index_of a b)) None ≡ Some i → Digits a b i
    go false d' p p' e = none e
    go true false p p' e = none e
    go true true p p' e = (p, p', e)

pub place_in : (tens ones i : ℕ) → place_named tens ones ≡ Some i → i < values_n
place_in tens ones i e = (value_found (index_of tens ones) i (named tens ones i e).2).0

-- a SET is judged as by the series and the count alone
pub set_judged : (s : State) (k : Series) (count n p : ℕ) → s.series ≡ k → count ≡ s.count → set_verdict_by k count n p ≡ set_verdict s n p
set_judged s k count n p ek ec = rw (← ek, ec) (by (setting_place s.series n))
  where
    by : (f : Option ℕ) → set_by (bare_state s.series s.count) p f ≡ set_by s p f
    by None = refl
    by (Some i) = refl

-- the groups of GET

-- the first of them is cut off
pub get_more : (values : List Kept) (g x t : List ℕ) → g ≡ x ++ t → length x ≡ 5
    → groups_verdict values (groups_in g) g ≡ get_by values (place_named (get_or x 3 0) (get_or x 4 0)) (groups_verdict values (groups_in t) t)
unfolding groups_verdict
get_more values g x t cut five =
    let q : length (x ++ t) / 5 ≡ suc (length t / 5) = omega (arith, length-append x t) in
    rw (cut, q, get_or-append x t 0 3 (omega (arith, five)), get_or-append x t 0 4 (omega (arith, five)), drop_at x t 5 five)

pub get_none : (values : List Kept) (g : List ℕ) → length g < 5 → groups_verdict values (groups_in g) g ≡ accepted
unfolding groups_verdict
get_none values g short = let q : length g / 5 ≡ 0 = omega arith in rw q

-- the index that a group names is the number of its two digits
group_place : (g : List ℕ) → group_right g ≡ true → place_named (get_or g 3 0) (get_or g 4 0) ≡ value_place (number_of (take 2 (drop 3 g)))
group_place g e =
    let tens = is_digit (get_or g 3 0) in
    let ones = is_digit (get_or g 4 0) in
    let (long, rest) = both (leb 5 (length g)) (starts_with (codes "/WI") g && (tens && ones)) e in
    let (is-tens, is-ones) = both tens ones (both (starts_with (codes "/WI") g) (tens && ones) rest).1 in
    rw (is-tens, is-ones) (sym (ap value_place (group_number g (leb-true 5 (length g) long))))

-- so the groups are judged, and answered, as their indexes are
module _ (values : List Kept) where
  pub groups_verdict_lem : (n : ℕ) (g : List ℕ) → groups_right n g ≡ true → groups_verdict values n g ≡ get_verdict values (indexes_in n g)
  unfolding groups_right groups_verdict indexes_in
  groups_verdict_lem zero g e = refl
  groups_verdict_lem (suc n) g e =
      let (here, later) = both (group_right g) (groups_right n (drop 5 g)) e in
      rw (group_place g here, groups_verdict_lem n (drop 5 g) later)

  pub groups_words_lem : (wide : Bool) (n : ℕ) (g : List ℕ) → groups_right n g ≡ true → groups_words wide values n g ≡ get_words wide values (indexes_in n g)
  unfolding groups_right groups_words indexes_in flat_map
  groups_words_lem wide zero g e = refl
  groups_words_lem wide (suc n) g e =
      let (here, later) = both (group_right g) (groups_right n (drop 5 g)) e in
      rw (group_place g here, groups_words_lem wide n (drop 5 g) later)
