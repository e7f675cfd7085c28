-- What is told comes first, and the block only where all of it is told.
use Rattle.std.proofs.Common.{refl, sym, length, take, le_refl, [], List, ℕ, ◌≡◌}
use lib.Seq.{take_all}
use mathlib.Core.Logic.{inl, inr}
use Rattle.std.proofs.KnownBytes.{Appends-nil}
use Rattle.mend.proofs.print.Goals as goal

whole : (l : List ℕ) → l ≡ take (length l) l
whole l = sym (take_all (length l) l (le_refl _))

pub returns-in_err-write_all-clause-start : goal.returns-in_err-write_all-clause-start
returns-in_err-write_all-clause-start g c =
    let s = c.write_all.ensures.start in
    (record { blocks = []; told = take s.0 (c.args.text.now) }, (s.0, 0, refl, refl, inr refl), (s.1, Appends-nil _))

pub returns-clause-start : goal.returns-clause-start
returns-clause-start g c =
    let s = c.write_all-2.ensures.start in
    let told = c.args.text.now in
    (record { blocks = take s.0 (c.args.block.now); told = told }, (length told, s.0, whole told, refl, inl refl), (c.in_ok-write_all.ensures.whole, s.1))
