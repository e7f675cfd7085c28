-- The promises of this crate's public functions determine what comes out.
use mathlib.Core.Path.{◌≡◌, sym, ◌∙◌}
use mathlib.Core.Bool.{Bool, cond}
use mathlib.Core.List.{List}
use Prim.Native.Nat.{ℕ, ◌≤◌}
use Rattle.std.specs.Prelude.{Option}
use Rattle.figures.specs.Promises.{Determined}
use Rattle.figures.proofs.Determined.{by_equation}
use Rattle.units.specs.Kinds.{Indexed, station_kind, kind_of, is_textual, named_by, index_at}
use Rattle.units.specs.Information.{info_marks, info_marks_in, info_right, info_right_in, first_wrong, lead_of, sign_byte, sign_at}
use Rattle.units.specs.Counts.{angle_at, angle_of, length_of, constant_of, value_at, first_of, second_of}
use Rattle.units.specs.declared.kinds.Family.{Family}
use Rattle.units.specs.declared.kinds.Kind.{Kind}
use Rattle.units.specs.declared.kinds.Kind.TheVariants.{Missing}
use Rattle.units.specs.declared.counts.Whole.{Whole}
use Rattle.units.specs.declared.counts.Count.{Count}
use Rattle.units.specs.declared.counts.Figures.{Figures}

pub kind_of_determined : Determined (Family × ℕ) Kind (λ i r. r ≡ kind_of i.0 i.1)
kind_of_determined = by_equation (Family × ℕ) Kind (λ i. kind_of i.0 i.1)

pub number_kind_determined : Determined ℕ Kind (λ n r. r ≡ cond (is_textual (station_kind n)) Missing (station_kind n))
number_kind_determined = by_equation ℕ Kind (λ n. cond (is_textual (station_kind n)) Missing (station_kind n))

pub textual_determined : Determined Kind Bool (λ k r. r ≡ is_textual k)
textual_determined = by_equation Kind Bool is_textual

pub named_by_determined : Determined (ℕ × ℕ) (Option ℕ) (λ i r. r ≡ named_by i.0 i.1)
named_by_determined = by_equation (ℕ × ℕ) (Option ℕ) (λ i. named_by i.0 i.1)

abbrev indexed_by : Family × (ℕ × (ℕ × ℕ)) → Indexed
indexed_by i = index_at i.0 i.1.0 i.1.1.0 i.1.1.1

pub index_at_determined : Determined (Family × (ℕ × (ℕ × ℕ))) Indexed (λ i r. r ≡ indexed_by i)
index_at_determined = by_equation (Family × (ℕ × (ℕ × ℕ))) Indexed indexed_by

-- family, index, kind and the four bytes
abbrev Information : Type 0
Information = Family × (ℕ × (Kind × (ℕ × (ℕ × (ℕ × ℕ)))))

abbrev info_right_by : Information → Bool
info_right_by i = info_right i.0 i.1.0 i.1.1.0 i.1.1.1.0 i.1.1.1.1.0 i.1.1.1.1.1.0 i.1.1.1.1.1.1

pub info_right_determined : Determined Information Bool (λ i r. r ≡ info_right_by i)
info_right_determined = by_equation Information Bool info_right_by

abbrev info_at_by : Information → ℕ
info_at_by i = first_wrong (info_marks i.0 i.1.0 i.1.1.0 i.1.1.1.0 i.1.1.1.1.0 i.1.1.1.1.1.0 i.1.1.1.1.1.1)

pub info_at_determined : Determined Information ℕ (λ i r. (r ≡ info_at_by i) × (r ≤ 3))
info_at_determined i a b p q = p.0 ∙ sym q.0

-- the same of the four bytes as a list, as the functions have them
abbrev Informed : Type 0
Informed = Family × (ℕ × (Kind × List ℕ))

pub info_right_in_determined : Determined Informed Bool (λ i r. r ≡ info_right_in i.0 i.1.0 i.1.1.0 i.1.1.1)
info_right_in_determined = by_equation Informed Bool (λ i. info_right_in i.0 i.1.0 i.1.1.0 i.1.1.1)

pub info_at_in_determined : Determined Informed ℕ (λ i r. (r ≡ first_wrong (info_marks_in i.0 i.1.0 i.1.1.0 i.1.1.1)) × (r ≤ 3))
info_at_in_determined i a b p q = p.0 ∙ sym q.0

pub lead_of_determined : Determined (ℕ × ℕ) ℕ (λ i r. r ≡ lead_of i.0 i.1)
lead_of_determined = by_equation (ℕ × ℕ) ℕ (λ i. lead_of i.0 i.1)

pub sign_byte_determined : Determined ℕ ℕ (λ m r. r ≡ sign_byte m)
sign_byte_determined = by_equation ℕ ℕ sign_byte

pub sign_at_determined : Determined (Kind × ℕ) (Option ℕ) (λ i r. r ≡ sign_at i.0 i.1)
sign_at_determined = by_equation (Kind × ℕ) (Option ℕ) (λ i. sign_at i.0 i.1)

pub angle_of_determined : Determined (ℕ × Whole) Count (λ i r. r ≡ angle_of i.0 i.1)
angle_of_determined = by_equation (ℕ × Whole) Count (λ i. angle_of i.0 i.1)

pub length_of_determined : Determined (ℕ × Whole) Count (λ i r. r ≡ length_of i.0 i.1)
length_of_determined = by_equation (ℕ × Whole) Count (λ i. length_of i.0 i.1)

pub constant_of_determined : Determined (ℕ × Whole) Count (λ i r. r ≡ constant_of i.0 i.1)
constant_of_determined = by_equation (ℕ × Whole) Count (λ i. constant_of i.0 i.1)

abbrev valued_by : Kind × (ℕ × (ℕ × (ℕ × Figures))) → Option Count
valued_by i = value_at i.0 i.1.0 i.1.1.0 i.1.1.1.0 i.1.1.1.1

pub angle_at_determined : Determined (ℕ × ℕ × ℕ) (Option Count) (λ i r. r ≡ angle_at i.0 i.1 i.2)
angle_at_determined = by_equation (ℕ × ℕ × ℕ) (Option Count) (λ i. angle_at i.0 i.1 i.2)

pub value_at_determined : Determined (Kind × (ℕ × (ℕ × (ℕ × Figures)))) (Option Count) (λ i r. r ≡ valued_by i)
value_at_determined = by_equation (Kind × (ℕ × (ℕ × (ℕ × Figures)))) (Option Count) valued_by

pub first_of_determined : Determined Count Whole (λ c r. r ≡ first_of c)
first_of_determined = by_equation Count Whole first_of

pub second_of_determined : Determined Count Whole (λ c r. r ≡ second_of c)
second_of_determined = by_equation Count Whole second_of
