-- What `spelt_at` returns: each arm is the rule of `data_right` for its kinds.
use Prim.Native.Nat.{ℕ}
use mathlib.Core.Path.{◌≡◌, refl, sym, ap, ◌∙◌}
use mathlib.Core.Logic.{◌⊎◌, ⊎_elim}
use mathlib.Core.List.{List}
use Rattle.figures.specs.Bytes.{every}
use Rattle.figures.specs.Decimal.{is_digit}
use Rattle.units.specs.declared.kinds.Kind.{Kind}
use Rattle.units.specs.declared.kinds.Kind.TheVariants as kind
use Rattle.words.specs.Records.{is_graphic}
use Rattle.words.specs.Reading.{data_in, data_right}
use Rattle.words.proofs.Letters.{one_right}
use Rattle.words.proofs.Checks.{data_part}
use Rattle.blocks.proofs.fitting.spelt_at.Goals as goal

texts : (k : Kind) (d : List ℕ) → (k ≡ kind.Numbered) ⊎ (k ≡ kind.Text) → every is_graphic d ≡ data_right k d
texts k d h = ⊎_elim (λ is. rw is (sym (one_right is_graphic d))) (λ is. rw is (sym (one_right is_graphic d))) h

-- the kinds of the last arm are those of one number
numbers : (k : Kind) (d : List ℕ) → (k ≡ kind.Missing → ⊥) → (k ≡ kind.Numbered → ⊥) → (k ≡ kind.Text → ⊥) → (k ≡ kind.Pair → ⊥)
    → every is_digit d ≡ data_right k d
numbers kind.Missing d m n t p = absurd (m refl)
numbers kind.Numbered d m n t p = absurd (n refl)
numbers kind.Text d m n t p = absurd (t refl)
numbers kind.Angle d m n t p = sym (one_right is_digit d)
numbers kind.Length d m n t p = sym (one_right is_digit d)
numbers kind.Constant d m n t p = sym (one_right is_digit d)
numbers kind.Pair d m n t p = absurd (p refl)

pub returns-in-Numbered : goal.returns-in-Numbered
returns-in-Numbered c = c.data_within.ensures ∙ texts c.args.kind (data_in c.args.wide c.args.s.now) c.in-Numbered.is

pub returns-in-Pair : goal.returns-in-Pair
returns-in-Pair c =
    rw c.in-Pair.is
    (c.pair_right.ensures ∙ ap (data_right kind.Pair) (data_part c.args.wide c.args.s.now c.width_of.result c.width_of.ensures))

pub returns-in_default : goal.returns-in_default
returns-in_default c =
    let other = c.in_default in
    c.data_within-in_default.ensures
    ∙ numbers c.args.kind (data_in c.args.wide c.args.s.now) other.not-Missing other.not-Numbered other.not-Text other.not-Pair
