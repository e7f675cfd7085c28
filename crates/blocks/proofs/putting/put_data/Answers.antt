-- What `put_data` asks of its calls and returns where the record has one number: the kind that `kind_in` tells is then the record's own.
use Prim.Native.Nat.{ℕ, ◌^◌, ◌<◌}
use mathlib.Core.Path.{◌≡◌, sym, ap, subst, ◌∙◌}
use mathlib.Core.Logic.{◌⊎◌, ⊎_elim}
use mathlib.Core.Bool.{Bool, true, cond}
use mathlib.Core.List.{List}
use types.Run.{OneOf, hit}
use denote.Enum.Declared.{tag_of}
use Rattle.figures.specs.Decimal.{digits_of}
use Rattle.units.specs.Counts.{figures_of}
use Rattle.units.specs.Kinds.{is_textual}
use Rattle.units.specs.declared.kinds.Family.{Family}
use Rattle.units.specs.declared.kinds.Kind.{Kind}
use Rattle.units.specs.declared.kinds.Kind.TheVariants as kind
use Rattle.units.specs.declared.counts.Figures.TheVariants as figures
use Rattle.units.specs.contracts.kinds.Kind.{the_type}
use Rattle.words.specs.Records.{width, kind_in, unit_in, count_of, is_right}
use Rattle.words.specs.Writing.{data_of}
use Rattle.words.specs.declared.records.Word.{Word}
use Rattle.blocks.specs.Keeping.{figures_by}
use Rattle.blocks.proofs.Puts.{numbers, number_kind, figures_by_lem, figures_below, size_below}
use Rattle.blocks.proofs.putting.put_data.Goals as goal

module _ (f : Family) (wide : Bool) (w : Word) {r : Kind} (right : is_right f wide w ≡ true) (e : r ≡ cond (is_textual (kind_in f w)) kind.Missing (kind_in f w))
    (h : (r ≡ kind.Angle) ⊎ ((r ≡ kind.Length) ⊎ (r ≡ kind.Constant))) where
  one : OneOf numbers (tag_of the_type r)
  one =
      ⊎_elim (λ is. subst (λ (k : Kind). OneOf numbers (tag_of the_type k)) (sym is) (hit numbers 3 tt))
      (λ rest.
      ⊎_elim (λ is. subst (λ (k : Kind). OneOf numbers (tag_of the_type k)) (sym is) (hit numbers 4 tt))
      (λ is. subst (λ (k : Kind). OneOf numbers (tag_of the_type k)) (sym is) (hit numbers 5 tt)) rest)
      h

  own : kind_in f w ≡ r
  own = number_kind (kind_in f w) r e one

  has_number : OneOf numbers (tag_of the_type (kind_in f w))
  has_number = subst (λ (k : Kind). OneOf numbers (tag_of the_type k)) (sym own) one

  small : w.size < 10 ^ 16
  small = size_below f wide w right has_number

  module _ {n : ℕ} (told : n ≡ figures_by r (unit_in w) w.size) where
    says : n ≡ figures_by (kind_in f w) (unit_in w) w.size
    says = told ∙ ap (λ k. figures_by k (unit_in w) w.size) (sym own)

    below : n < 10 ^ width wide
    below = rw says (figures_below f wide w right has_number)

    given : {d : List ℕ} → d ≡ digits_of (width wide) n → d ≡ data_of (width wide) (figures_of (count_of f w)) w.text
    given put =
        put
        ∙ ap (λ m. data_of (width wide) (figures.Number m) w.text) says
        ∙ ap (λ x. data_of (width wide) x w.text) (sym (figures_by_lem (kind_in f w) w has_number))

pub figures_in-requires : goal.figures_in-requires
figures_in-requires c = small c.args.family c.args.wide c.args.w c.requires.0 c.kind_in-kind.ensures c.in-Angle.is

pub put_digits-requires : goal.put_digits-requires
put_digits-requires c =
    (c.requires.1, below c.args.family c.args.wide c.args.w c.requires.0 c.kind_in-kind.ensures c.in-Angle.is c.figures_in.ensures)

pub returns-in-Angle : goal.returns-in-Angle
returns-in-Angle c =
    given c.args.family c.args.wide c.args.w c.requires.0 c.kind_in-kind.ensures c.in-Angle.is c.figures_in.ensures c.put_digits.ensures
