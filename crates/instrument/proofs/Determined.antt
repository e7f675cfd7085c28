-- The promises of this crate's public functions determine what comes out.
use mathlib.Core.Path.{◌≡◌}
use mathlib.Core.Bool.{Bool}
use mathlib.Core.List.{List}
use Prim.Native.Nat.{ℕ}
use Rattle.figures.specs.Promises.{Determined}
use Rattle.figures.proofs.Determined.{by_equation}
use Rattle.instrument.specs.Settings.{setting_number, row_at, settings_n, setting_place, factory_settings, rows_of, in_range, in_ranges}
use Rattle.words.specs.Reading.{Judged}
use Rattle.instrument.specs.Values.{Kept, stored_at, value_place, is_put, put_judged, put_kept, parts_right, get_word, widened}
use Rattle.instrument.specs.Rows.{key_bytes}
use Rattle.instrument.specs.declared.settings.Series.{Series}
use Rattle.instrument.specs.declared.settings.Row.{Row}
use Rattle.std.specs.Prelude.{Option}
use Rattle.instrument.specs.declared.values.Stored.{Stored}

pub row_at_determined : Determined (Series × ℕ) Row (λ i r. r ≡ row_at i.0 i.1)
row_at_determined = by_equation (Series × ℕ) Row (λ i. row_at i.0 i.1)

pub key_at_determined : Determined (Series × ℕ) (List ℕ) (λ i r. r ≡ key_bytes "s" (setting_number (row_at i.0 i.1)))
key_at_determined = by_equation (Series × ℕ) (List ℕ) (λ i. key_bytes "s" (setting_number (row_at i.0 i.1)))

pub settings_of_determined : Determined Series ℕ (λ i r. r ≡ settings_n i)
settings_of_determined = by_equation Series ℕ settings_n

pub setting_at_determined : Determined (Series × ℕ) (Option ℕ) (λ i r. r ≡ setting_place i.0 i.1)
setting_at_determined = by_equation (Series × ℕ) (Option ℕ) (λ i. setting_place i.0 i.1)

pub in_range_determined : Determined (Row × ℕ) Bool (λ i r. r ≡ in_range i.0 i.1)
in_range_determined = by_equation (Row × ℕ) Bool (λ i. in_range i.0 i.1)

pub factory_settings_determined : Determined Series (List ℕ) (λ i r. r ≡ factory_settings i)
factory_settings_determined = by_equation Series (List ℕ) factory_settings

pub in_ranges_determined : Determined (Series × List ℕ) Bool (λ i r. r ≡ in_ranges (rows_of i.0) i.1)
in_ranges_determined = by_equation (Series × List ℕ) Bool (λ i. in_ranges (rows_of i.0) i.1)

pub stored_at_determined : Determined ℕ Stored (λ i r. r ≡ stored_at i)
stored_at_determined = by_equation ℕ Stored stored_at

pub value_place_determined : Determined ℕ (Option ℕ) (λ i r. r ≡ value_place i)
value_place_determined = by_equation ℕ (Option ℕ) value_place

pub is_put_determined : Determined Kept Bool (λ i r. r ≡ is_put i)
is_put_determined = by_equation Kept Bool is_put

pub put_judged_determined : Determined (ℕ × List ℕ) Judged (λ i r. r ≡ put_judged i.0 i.1)
put_judged_determined = by_equation (ℕ × List ℕ) Judged (λ i. put_judged i.0 i.1)

pub put_kept_determined : Determined (List ℕ) Kept (λ i r. r ≡ put_kept i)
put_kept_determined = by_equation (List ℕ) Kept put_kept

pub parts_right_determined : Determined (ℕ × List ℕ) Bool (λ i r. r ≡ parts_right i.0 i.1)
parts_right_determined = by_equation (ℕ × List ℕ) Bool (λ i. parts_right i.0 i.1)

pub get_word_determined : Determined (ℕ × Kept) (List ℕ) (λ i r. r ≡ get_word i.0 i.1)
get_word_determined = by_equation (ℕ × Kept) (List ℕ) (λ i. get_word i.0 i.1)

pub widen_determined : Determined (List ℕ) (List ℕ) (λ i r. r ≡ widened i)
widen_determined = by_equation (List ℕ) (List ℕ) widened
