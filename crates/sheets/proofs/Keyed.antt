-- Laws of the keys that the rows of the tables hold, by one computed test of every row.
use Prim.Native.Nat.{ℕ, ◌+◌, ◌-◌, ◌≤◌, ◌<◌}
use mathlib.Core.Path.{◌≡◌, refl, sym, ap, ◌∙◌}
use mathlib.Core.Bool.{Bool, true, false, cond, ◌&&◌, and-eq-true_iff}
use mathlib.Core.List.{List, [], ◌∷◌, ◌++◌}
use native.Mathlib.Omega.{arith}
use borrow.Author.Tests.{eqb-true, eq-eqb, ne_eqb, leb-true}
use lib.Dec.{eqb, leb}
use lib.ListN.{length, get_or, take, length-append}
use lib.Seq.{take-take, take_at}
use Rattle.figures.specs.Text.{codes}
use Rattle.figures.specs.Bytes.{starts_with, same_bytes}
use Rattle.figures.specs.Decimal.{digits_of, digits_nBy}
use Rattle.figures.proofs.Bytes.{same_true}
use Rattle.figures.proofs.Tests.{Even, along}
use Rattle.instrument.specs.Settings.{setting_number, no_row, rows100, rows300, rows_of, row_at, settings_n}
use Rattle.instrument.specs.Values.{no_stored, stored, stored_at, index_number, values_n}
use Rattle.instrument.specs.Rows.{name_of, key_of, key_bytes}
use Rattle.instrument.proofs.Seek.{each_row, row_tested}
use Rattle.instrument.specs.declared.settings.Series.{Series}
use Rattle.instrument.specs.declared.settings.Series.TheVariants.{Tps100, Tps300}
use Rattle.instrument.specs.declared.settings.Row.{Row}
use Rattle.instrument.specs.declared.values.Stored.{Stored}
use Rattle.sheets.specs.Sheet.{setting_key, value_key}
use Rattle.sheets.specs.Keeping.{key_length}

-- a key of so many bytes at most, as a row holds it
pub record Keyed (held key : List ℕ) (most : ℕ) : Type 0 where
  pub is : take (key_length held) held ≡ key
  pub long : key_length held ≡ length key
  pub few : length key ≤ most

abbrev is_keyed : List ℕ → List ℕ → ℕ → Bool
is_keyed held key most = same_bytes (take (key_length held) held) key && (eqb (key_length held) (length key) && leb (length key) most)

keyed : (held key : List ℕ) (most : ℕ) → is_keyed held key most ≡ true → Keyed held key most
keyed held key most e =
    let first = (and-eq-true_iff (same_bytes (take (key_length held) held) key) (eqb (key_length held) (length key) && leb (length key) most)).0 e in
    let rest = (and-eq-true_iff (eqb (key_length held) (length key)) (leb (length key) most)).0 first.1 in
    record {
      is = same_true (take (key_length held) held) key first.0;
      long = eqb-true (key_length held) (length key) rest.0;
      few = leb-true (length key) most rest.1;
    }

-- the part of what a row holds that the code takes for its key
pub key_part : {held key : List ℕ} {most : ℕ} → Keyed held key most → {own : List ℕ} {n : ℕ} → own ≡ held → n ≡ key_length own → take n own ≡ key
key_part k e en = rw (en, e) k.is

-- whatever a row holds, no key is taken for longer than five bytes
pub key_most : (held : List ℕ) → key_length held ≤ 5
key_most held = by (eqb (get_or held 4 0) 0) (eqb (get_or held 3 0) 0)
  where
    by : (last fourth : Bool) → cond last (cond fourth 3 4) 5 ≤ 5
    by true true = omega arith
    by true false = omega arith
    by false fourth = omega arith

-- one with a fifth byte has five, any other of four or more has four

module _ (held : List ℕ) where
  pub key_five : (get_or held 4 0 ≡ 0 → ⊥) → key_length held ≡ 5
  key_five h = rw (ne_eqb (get_or held 4 0) 0 h)

  pub key_four : get_or held 4 0 ≡ 0 → 4 ≤ key_length held → key_length held ≡ 4
  key_four e = rw (eq-eqb (get_or held 4 0) 0 e) (by (eqb (get_or held 3 0) 0))
    where
      by : (fourth : Bool) → 4 ≤ cond fourth 3 4 → ◌≡◌ {A = ℕ} (cond fourth 3 4) 4
      by true h = omega (arith, h)
      by false h = refl

-- the name that a key is without its `=`

module _ (name : List ℕ) {held : List ℕ} {most : ℕ} (k : Keyed held (name ++ codes "=") most) where
  pub name_long : key_length held ≡ length name + 1
  name_long = k.long ∙ length-append name (codes "=")

  pub name_is : take (key_length held - 1) held ≡ name
  name_is =
      let n = key_length held in
      sym (take-take (n - 1) n held (omega arith)) ∙ ap (take (n - 1)) k.is ∙ take_at name (codes "=") (n - 1) (omega (arith, name_long))

-- the settings' rows

abbrev setting_keyed : Row → Bool
setting_keyed r = is_keyed (key_bytes "s" (setting_number r)) (setting_key r) 5

settings_keyed : (k : Series) → (setting_keyed no_row ≡ true) × (each_row setting_keyed (rows_of k) ≡ true)
unfolding each_row rows100 rows300 digits_of digits_nBy starts_with
settings_keyed Tps100 = (refl, refl)
settings_keyed Tps300 = (refl, refl)

abbrev pub key_held : Series → ℕ → List ℕ
key_held k i = key_bytes "s" (setting_number (row_at k i))

pub setting_keyed_lem : (k : Series) (i : ℕ) → Keyed (key_held k i) (setting_key (row_at k i)) 5
setting_keyed_lem k i =
    keyed (key_held k i) (setting_key (row_at k i)) 5 (row_tested setting_keyed (rows_of k) no_row (settings_keyed k).0 (settings_keyed k).1 i)

-- a setting's number has two digits or three, so its key has four bytes or five

all_four : (k : Series) → Even (λ i. leb 4 (key_length (key_held k i))) true 0 (settings_n k)
unfolding rows100 rows300 digits_of digits_nBy
all_four Tps100 = refl
all_four Tps300 = refl

pub setting_four : (k : Series) (i : ℕ) → i < settings_n k → 4 ≤ key_length (key_held k i)
setting_four k i h = leb-true 4 (key_length (key_held k i)) (sym (along (λ j. leb 4 (key_length (key_held k j))) 0 (settings_n k) (all_four k) (omega arith) h))

-- the values' rows

abbrev value_keyed : Stored → Bool
value_keyed r = is_keyed r.key (key_of "v" (index_number r)) 4

values_keyed : (value_keyed no_stored ≡ true) × (each_row value_keyed stored ≡ true)
unfolding each_row stored digits_of digits_nBy starts_with
values_keyed = (refl, refl)

pub value_keyed_lem : (i : ℕ) → Keyed (stored_at i).key (value_key i) 4
value_keyed_lem i = keyed (stored_at i).key (value_key i) 4 (row_tested value_keyed stored no_stored values_keyed.0 values_keyed.1 i)

-- a value's name is the first three of the bytes that its row holds

abbrev pub value_name : ℕ → List ℕ
value_name i = name_of "v" (index_number (stored_at i))

abbrev pub first_three : List ℕ → List ℕ
first_three l = get_or l 0 0 ∷ get_or l 1 0 ∷ get_or l 2 0 ∷ []

module _ (i : ℕ) (h : i < values_n) where
  pub value_name_lem : value_name i ≡ first_three (stored_at i).key
  unfolding stored digits_of digits_nBy starts_with
  value_name_lem =
      same_true (value_name i) (first_three (stored_at i).key)
      (sym (along (λ j. same_bytes (value_name j) (first_three (stored_at j).key)) 0 values_n refl (omega arith) h))

  pub value_key_long : length (value_key i) ≡ 4
  value_key_long = omega (arith, length-append (value_name i) (codes "="), ap length value_name_lem)
