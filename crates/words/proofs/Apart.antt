-- What the writer refuses by 13 because of the family: three digits in a total station's block, three digits with another first byte than 0, and
-- two digits without their dot.
use Prim.Native.Nat.{ℕ, ◌<◌, ◌≤◌}
use mathlib.Core.Path.{◌≡◌, refl, sym}
use mathlib.Core.Bool.{Bool, true, false, ◌&&◌, false≢true}
use native.Mathlib.Omega.{arith}
use borrow.Author.Tests.{eqb-true, lt-ltb, le-ltb}
use lib.Dec.{eqb, ltb}
use lib.ListN.{length, get_or}
use Rattle.figures.proofs.Tests.{both, by_test}
use Rattle.units.specs.Kinds.{level_kind}
use Rattle.units.specs.Information.{is_lead, level_marks, all_right, info_right}
use Rattle.units.specs.declared.kinds.Family.{Family}
use Rattle.units.specs.declared.kinds.Family.TheVariants.{Station, Level}
use Rattle.units.specs.declared.kinds.Kind.{Kind}
use Rattle.units.specs.declared.kinds.Kind.TheVariants.{Missing, Numbered, Text, Angle, Length, Constant, Pair}
use Rattle.units.proofs.Heads.{head_says}
use Rattle.units.proofs.Positions.{none_above}
use Rattle.words.specs.Records.{kind_in, unit_in, is_right}
use Rattle.words.specs.declared.records.Word.{Word}

-- the information's first byte
abbrev leads : Word → ℕ
leads w = get_or w.info 0 0

-- the information of a right record
informed : (f : Family) (wide : Bool) (w : Word) → is_right f wide w ≡ true
    → info_right f w.index (kind_in f w) (leads w) (get_or w.info 1 0) (get_or w.info 2 0) (unit_in w) ≡ true
informed f wide w e = (both (info_right f w.index (kind_in f w) _ _ _ _) _ (both (eqb (length w.info) 4 && eqb (length w.text) 16) _ e).1).0

pub unless_right : (f : Family) (wide : Bool) (w : Word) → (is_right f wide w ≡ true → ⊥) → is_right f wide w ≡ false
unless_right f wide w no_way = by_test (is_right f wide w) (λ e. absurd (no_way e)) (λ q. q)

pub three_of_station : (wide : Bool) (w : Word) → 100 ≤ w.index → is_right Station wide w ≡ false
three_of_station wide w h =
    unless_right Station wide w (λ e. absurd (false≢true (rw (none_above w.index (omega arith)) at (informed Station wide w e))))

pub three_with_lead : (wide : Bool) (w : Word) → 100 ≤ w.index → (leads w ≡ 0 → ⊥) → is_right Level wide w ≡ false
three_with_lead wide w h other =
    unless_right Level wide w (λ e.
    let says = head_says Level w.index (leads w) _ _ _ (informed Level wide w e) in
    other (sym (rw (le-ltb w.index 100 h) at says.lead)))

pub two_without_dot : (wide : Bool) (w : Word) → w.index < 100 → (level_kind w.index ≡ Numbered → ⊥) → (leads w ≡ 46 → ⊥) → is_right Level wide w ≡ false
two_without_dot wide w h plain other =
    unless_right Level wide w (λ e.
    let low = lt-ltb w.index 100 h in
    by_kind low (level_kind w.index) refl _ _ _ (rw low at (informed Level wide w e)))
  where
    by_kind : ltb w.index 100 ≡ true → (k : Kind) → level_kind w.index ≡ k → (b c d : ℕ) → all_right (level_marks w.index k (leads w) b c d) ≡ true → ⊥
    by_kind low Missing is b c d e = false≢true e
    by_kind low Numbered is b c d e = plain is
    by_kind low Text is b c d e = other (eqb-true (leads w) 46 (rw low at (both (is_lead w.index (leads w)) _ e).0))
    by_kind low Angle is b c d e = false≢true e
    by_kind low Length is b c d e = other (eqb-true (leads w) 46 (rw low at (both (is_lead w.index (leads w)) _ e).0))
    by_kind low Constant is b c d e = false≢true e
    by_kind low Pair is b c d e = false≢true e
