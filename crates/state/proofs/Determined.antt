-- The promises of this crate's public functions determine what comes out.
use mathlib.Core.Path.{◌≡◌, sym, ◌∙◌}
use mathlib.Core.Bool.{Bool}
use mathlib.Core.List.{List}
use Prim.Native.Nat.{ℕ, ◌+◌, ◌≤◌}
use lib.ListN.{get_or}
use Rattle.figures.specs.Promises.{Determined}
use Rattle.figures.proofs.Determined.{by_equation}
use Rattle.state.specs.Entries.{blank_entry, factory_state}
use Rattle.state.specs.Image.{values_at, image_n, series_in, is_image, encoded_in}
use Rattle.state.specs.Keeping.{count_in, stored_in, entry_at, state_of, parameter_laid, value_laid, entry_laid, count_laid, cleared, contents_laid}
use Rattle.instrument.specs.declared.settings.Series.{Series}
use Rattle.instrument.specs.Values.{Kept}
use Rattle.state.specs.declared.entries.Entry.{Entry}
use Rattle.state.specs.declared.entries.State.{State}

pub blank_entry_determined : Determined (Unit {0}) Entry (λ i r. r ≡ blank_entry)
blank_entry_determined = by_equation (Unit {0}) Entry (λ i. blank_entry)

pub image_size_determined : Determined Series ℕ (λ i r. r ≡ image_n i)
image_size_determined = by_equation Series ℕ image_n

pub values_at_determined : Determined Series ℕ (λ i r. (r ≡ values_at i) × (r ≤ 31))
values_at_determined i r r' p q = p.0 ∙ sym q.0

pub series_in_determined : Determined (List ℕ) Series (λ i r. r ≡ series_in i)
series_in_determined = by_equation (List ℕ) Series series_in

pub count_in_determined : Determined (Series × List ℕ) ℕ (λ i r. r ≡ count_in i.0 i.1)
count_in_determined = by_equation (Series × List ℕ) ℕ (λ i. count_in i.0 i.1)

pub parameter_in_determined : Determined (ℕ × List ℕ) ℕ (λ i r. r ≡ get_or i.1 (1 + i.0) 0)
parameter_in_determined = by_equation (ℕ × List ℕ) ℕ (λ i. get_or i.1 (1 + i.0) 0)

pub value_in_determined : Determined (Series × ℕ × List ℕ) Kept (λ i r. r ≡ stored_in i.0 i.1 i.2)
value_in_determined = by_equation (Series × ℕ × List ℕ) Kept (λ i. stored_in i.0 i.1 i.2)

pub entry_at_determined : Determined (Series × ℕ × List ℕ) Entry (λ i r. r ≡ entry_at i.0 i.1 i.2)
entry_at_determined = by_equation (Series × ℕ × List ℕ) Entry (λ i. entry_at i.0 i.1 i.2)

abbrev Parts : Type 0
Parts = Series × List ℕ × List ℕ × List ℕ × ℕ

pub state_of_determined : Determined Parts State (λ i r. r ≡ state_of i.0 i.1 i.2 i.3 i.4)
state_of_determined = by_equation Parts State (λ i. state_of i.0 i.1 i.2 i.3 i.4)

pub is_image_determined : Determined (List ℕ) Bool (λ i r. r ≡ is_image i)
is_image_determined = by_equation (List ℕ) Bool is_image

pub put_parameter_determined : Determined (ℕ × ℕ × List ℕ) (List ℕ) (λ i image. image ≡ parameter_laid i.0 i.1 i.2)
put_parameter_determined = by_equation (ℕ × ℕ × List ℕ) (List ℕ) (λ i. parameter_laid i.0 i.1 i.2)

pub put_value_determined : Determined (Series × ℕ × Kept × List ℕ) (List ℕ) (λ i image. image ≡ value_laid i.0 i.1 i.2 i.3)
put_value_determined = by_equation (Series × ℕ × Kept × List ℕ) (List ℕ) (λ i. value_laid i.0 i.1 i.2 i.3)

pub put_entry_determined : Determined (Series × ℕ × Entry × List ℕ) (List ℕ) (λ i image. image ≡ entry_laid i.0 i.1 i.2 i.3)
put_entry_determined = by_equation (Series × ℕ × Entry × List ℕ) (List ℕ) (λ i. entry_laid i.0 i.1 i.2 i.3)

pub put_count_determined : Determined (Series × ℕ × List ℕ) (List ℕ) (λ i image. image ≡ count_laid i.0 i.1 i.2)
put_count_determined = by_equation (Series × ℕ × List ℕ) (List ℕ) (λ i. count_laid i.0 i.1 i.2)

pub clear_determined : Determined (Series × List ℕ) (List ℕ) (λ i image. image ≡ cleared i.0 i.1)
clear_determined = by_equation (Series × List ℕ) (List ℕ) (λ i. cleared i.0 i.1)

abbrev Contents : Type 0
Contents = Series × List ℕ × List Kept × List ℕ

pub put_contents_determined : Determined Contents (List ℕ) (λ i image. image ≡ contents_laid i.0 i.1 i.2 i.3)
put_contents_determined = by_equation Contents (List ℕ) (λ i. contents_laid i.0 i.1 i.2 i.3)

pub put_factory_determined : Determined (Series × List ℕ) (List ℕ) (λ i image. image ≡ encoded_in (factory_state i.0) i.1)
put_factory_determined = by_equation (Series × List ℕ) (List ℕ) (λ i. encoded_in (factory_state i.0) i.1)
