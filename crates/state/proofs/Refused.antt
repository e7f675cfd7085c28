-- What the judge of an image finds, in the order of its tests: each that fails says that it is none, and past them all it is one where its entries may stand.
use Prim.Native.Nat.{ℕ, ◌+◌, ◌-◌, ◌*◌, ◌<◌, ◌≤◌}
use mathlib.Core.Path.{◌≡◌, sym, ap, ◌∙◌}
use mathlib.Core.Bool.{true, false, ◌&&◌}
use mathlib.Core.List.{List}
use native.Mathlib.Omega.{arith}
use borrow.Author.Tests.{eq-eqb, ne_eqb, le-leb, lt-leb}
use borrow.Rule.Slice.PartMut.{mid_of}
use lib.Dec.{eqb, leb}
use lib.ListN.{length, get_or, take, drop, length-drop}
use lib.Seq.{drop-drop, take_all}
use Rattle.figures.proofs.Tests.{and_on, and_off}
use Rattle.instrument.specs.Settings.{settings_n, rows_of, in_ranges}
use Rattle.instrument.specs.Values.{values_n}
use Rattle.state.specs.Entries.{entries_n}
use Rattle.state.specs.Image.{form_of, entry_n, values_at, count_at, entries_at, rest_n, image_n, values_in, count_from, series_in, is_image}
use Rattle.state.specs.Keeping.{puts_of, values_lie, entries_lie, all_zeros, rest_right}
use Rattle.state.proofs.Judged.{image_by}

-- what follows the settings, as the judge lends it, and how many entries it says
abbrev at : List ℕ → ℕ
at l = values_at (series_in l)

abbrev rest : List ℕ → List ℕ
rest l = mid_of (at l) (length l - at l) l

abbrev count : List ℕ → ℕ
count l = count_from (drop (at l) l)

rest_is : (l : List ℕ) → rest l ≡ drop (at l) l
rest_is l = take_all (length l - at l) (drop (at l) l) (omega (arith, length-drop (at l) l))

after_length : (l : List ℕ) → length l ≡ image_n (series_in l)
    → is_image l
    ≡ eqb (get_or l 0 0) (form_of (series_in l))
    && (in_ranges (rows_of (series_in l)) (take (settings_n (series_in l)) (drop 1 l)) && rest_right (series_in l) (drop (at l) l))
after_length l long = image_by l ∙ and_on (eq-eqb _ _ long)

pub wrong_form : (l : List ℕ) → length l ≡ image_n (series_in l) → (get_or l 0 0 ≡ form_of (series_in l) → ⊥) → false ≡ is_image l
wrong_form l long form = sym (after_length l long ∙ and_off _ (ne_eqb _ _ form))

after_form : (l : List ℕ) → length l ≡ image_n (series_in l) → get_or l 0 0 ≡ form_of (series_in l)
    → is_image l ≡ in_ranges (rows_of (series_in l)) (mid_of 1 (at l - 1) l) && rest_right (series_in l) (drop (at l) l)
after_form l long form =
    let n : at l - 1 ≡ settings_n (series_in l) = omega arith in
    after_length l long
    ∙ and_on (eq-eqb _ _ form)
    ∙ ap (λ (j : ℕ). in_ranges (rows_of (series_in l)) (take j (drop 1 l)) && rest_right (series_in l) (drop (at l) l)) (sym n)

pub out_of_range : (l : List ℕ) → length l ≡ image_n (series_in l) → get_or l 0 0 ≡ form_of (series_in l)
    → in_ranges (rows_of (series_in l)) (mid_of 1 (values_at (series_in l) - 1) l) ≡ false → false ≡ is_image l
out_of_range l long form ranges = sym (after_form l long form ∙ and_off _ ranges)

after_ranges : (l : List ℕ) → length l ≡ image_n (series_in l) → get_or l 0 0 ≡ form_of (series_in l)
    → in_ranges (rows_of (series_in l)) (mid_of 1 (at l - 1) l) ≡ true → is_image l ≡ rest_right (series_in l) (rest l)
after_ranges l long form ranges = after_form l long form ∙ and_on ranges ∙ ap (rest_right (series_in l)) (sym (rest_is l))

pub wrong_value : (l : List ℕ) → length l ≡ image_n (series_in l) → get_or l 0 0 ≡ form_of (series_in l)
    → in_ranges (rows_of (series_in l)) (mid_of 1 (values_at (series_in l) - 1) l) ≡ true
    → values_lie 0 values_n (mid_of 0 (count_at - 0) (mid_of (values_at (series_in l)) (length l - values_at (series_in l)) l)) ≡ false → false ≡ is_image l
wrong_value l long form ranges values = sym (after_ranges l long form ranges ∙ and_off _ values)

after_values : (l : List ℕ) → length l ≡ image_n (series_in l) → get_or l 0 0 ≡ form_of (series_in l)
    → in_ranges (rows_of (series_in l)) (mid_of 1 (at l - 1) l) ≡ true → values_lie 0 values_n (mid_of 0 (count_at - 0) (rest l)) ≡ true
    → is_image l
    ≡ leb (count l) entries_n
    && (all_zeros (drop (count l * entry_n) (drop entries_at (rest l)))
    && entries_lie (series_in l) (count l) (puts_of (values_in (take count_at (rest l)))) (drop entries_at (rest l)))
after_values l long form ranges values =
    after_ranges l long form ranges
    ∙ and_on values
    ∙ ap
    (λ (n : ℕ).
    leb n entries_n
    && (all_zeros (drop (n * entry_n) (drop entries_at (rest l)))
    && entries_lie (series_in l) n (puts_of (values_in (take count_at (rest l)))) (drop entries_at (rest l))))
    (ap count_from (rest_is l))

pub too_many : (l : List ℕ) → length l ≡ image_n (series_in l) → get_or l 0 0 ≡ form_of (series_in l)
    → in_ranges (rows_of (series_in l)) (mid_of 1 (values_at (series_in l) - 1) l) ≡ true
    → values_lie 0 values_n (mid_of 0 (count_at - 0) (mid_of (values_at (series_in l)) (length l - values_at (series_in l)) l)) ≡ true
    → entries_n < count_from (drop (values_at (series_in l)) l) → false ≡ is_image l
too_many l long form ranges values many = sym (after_values l long form ranges values ∙ and_off _ (lt-leb _ entries_n many))

-- the entries' bytes past those that stand, as they are lent, and the entries' own
past : (l : List ℕ) → length l ≡ image_n (series_in l)
    → mid_of (entries_at + count l * entry_n) (rest_n - (entries_at + count l * entry_n)) (rest l) ≡ drop (count l * entry_n) (drop entries_at (rest l))
past l long =
    let from = entries_at + count l * entry_n in
    let n : length (rest l) ≡ rest_n = ap length (rest_is l) ∙ length-drop (at l) l ∙ omega (arith, long) in
    take_all (rest_n - from) (drop from (rest l)) (omega (arith, length-drop from (rest l), n)) ∙ sym (drop-drop (count l * entry_n) entries_at (rest l))

entries_are : (l : List ℕ) → length l ≡ image_n (series_in l) → mid_of entries_at (rest_n - entries_at) (rest l) ≡ drop entries_at (rest l)
entries_are l long =
    let n : length (rest l) ≡ rest_n = ap length (rest_is l) ∙ length-drop (at l) l ∙ omega (arith, long) in
    take_all (rest_n - entries_at) (drop entries_at (rest l)) (omega (arith, length-drop entries_at (rest l), n))

pub not_nought : (l : List ℕ) → length l ≡ image_n (series_in l) → get_or l 0 0 ≡ form_of (series_in l)
    → in_ranges (rows_of (series_in l)) (mid_of 1 (values_at (series_in l) - 1) l) ≡ true
    → values_lie 0 values_n (mid_of 0 (count_at - 0) (mid_of (values_at (series_in l)) (length l - values_at (series_in l)) l)) ≡ true
    → count_from (drop (values_at (series_in l)) l) ≤ entries_n
    → all_zeros
    (mid_of
    (entries_at + count_from (drop (values_at (series_in l)) l) * entry_n)
    (rest_n - (entries_at + count_from (drop (values_at (series_in l)) l) * entry_n))
    (mid_of (values_at (series_in l)) (length l - values_at (series_in l)) l))
    ≡ false
    → false ≡ is_image l
not_nought l long form ranges values few zeros =
    sym (after_values l long form ranges values ∙ and_on (le-leb _ entries_n few) ∙ and_off _ (ap all_zeros (sym (past l long)) ∙ zeros))

pub by_entries : (l : List ℕ) → length l ≡ image_n (series_in l) → get_or l 0 0 ≡ form_of (series_in l)
    → in_ranges (rows_of (series_in l)) (mid_of 1 (values_at (series_in l) - 1) l) ≡ true
    → values_lie 0 values_n (mid_of 0 (count_at - 0) (mid_of (values_at (series_in l)) (length l - values_at (series_in l)) l)) ≡ true
    → count_from (drop (values_at (series_in l)) l) ≤ entries_n
    → all_zeros
    (mid_of
    (entries_at + count_from (drop (values_at (series_in l)) l) * entry_n)
    (rest_n - (entries_at + count_from (drop (values_at (series_in l)) l) * entry_n))
    (mid_of (values_at (series_in l)) (length l - values_at (series_in l)) l))
    ≡ true
    → entries_lie
    (series_in l)
    (count_from (drop (values_at (series_in l)) l))
    (puts_of (values_in (mid_of 0 (count_at - 0) (mid_of (values_at (series_in l)) (length l - values_at (series_in l)) l))))
    (mid_of entries_at (rest_n - entries_at) (mid_of (values_at (series_in l)) (length l - values_at (series_in l)) l))
    ≡ is_image l
by_entries l long form ranges values few zeros =
    ap (entries_lie (series_in l) (count l) (puts_of (values_in (take count_at (rest l))))) (entries_are l long)
    ∙ sym (after_values l long form ranges values ∙ and_on (le-leb _ entries_n few) ∙ and_on (ap all_zeros (sym (past l long)) ∙ zeros))
