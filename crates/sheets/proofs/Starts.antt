-- What a load leaves: accepted, the image of the state that the sheet names, whatever image it was loaded into; refused, the image.
use Prim.Native.Nat.{ℕ}
use mathlib.Core.Path.{◌≡◌, ap}
use mathlib.Core.Bool.{true}
use mathlib.Core.List.{List}
use Rattle.figures.proofs.Tests.{clash}
use Rattle.state.specs.Entries.{is_state}
use Rattle.state.specs.Image.{image_of, series_in}
use Rattle.state.specs.declared.entries.Entry.{Entry}
use Rattle.instrument.specs.Values.{Kept}
use Rattle.sheets.specs.Undo.{sheet_as}
use Rattle.sheets.specs.Loading.{right, loaded_state, form_in, loading_of, Loaded·image, loaded}
use Rattle.std.specs.Prelude.{Ok}
use Rattle.sheets.proofs.Sheets.{loads_sheet_of}
use Rattle.sheets.proofs.Images.{LoadsAs, lent_none, lent_wrong, lent_right, loads_as}

-- the state that a sheet names, of the image's series: its image is left, and it has that sheet
pub record Fresh (image sheet : List ℕ) : Type 0 where
  pub settings : List ℕ
  pub values : List Kept
  pub entries : List Entry
  pub names : loading_of (series_in image) sheet ≡ right settings values entries
  pub is : is_state (loaded_state (series_in image) settings values entries) ≡ true
  pub laid : (loaded image sheet).image ≡ image_of (loaded_state (series_in image) settings values entries)
  pub shown : sheet_as (form_in sheet) (loaded_state (series_in image) settings values entries) ≡ sheet

module _ (image sheet : List ℕ) where
  -- "makes the settings and stored values those it names", and the undo list
  pub loaded_image : (loaded image sheet).answer ≡ Ok tt → Fresh image sheet
  loaded_image e = by (loads_as image sheet)
    where
      by : LoadsAs image sheet (loaded image sheet) → Fresh image sheet
      by (lent_none i q) = absurd (clash (cc (ap (λ (o : Loaded·image). o.answer) q)))
      by (lent_wrong at l q) = absurd (clash (cc (ap (λ (o : Loaded·image). o.answer) q)))
      by (lent_right settings values entries l q) =
          let back = loads_sheet_of (series_in image) sheet settings values entries l in
          record {
            settings = settings;
            values = values;
            entries = entries;
            names = l;
            is = back.0;
            laid = ap (λ (o : Loaded·image). o.image) q;
            shown = back.1;
          }

  -- 40 "leaves the state as it was", and 31 the lent bytes
  pub refused_image : ((loaded image sheet).answer ≡ Ok tt → ⊥) → (loaded image sheet).image ≡ image
  refused_image f = by (loads_as image sheet)
    where
      by : LoadsAs image sheet (loaded image sheet) → (loaded image sheet).image ≡ image
      by (lent_none i q) = ap (λ (o : Loaded·image). o.image) q
      by (lent_wrong at l q) = ap (λ (o : Loaded·image). o.image) q
      by (lent_right settings values entries l q) = absurd (f (ap (λ (o : Loaded·image). o.answer) q))
