-- The loop in `run_of` keeps its invariant, and its place stays in the input.
use Prim.Native.Nat.{ℕ, ◌+◌, ◌-◌}
use mathlib.Core.Path.{◌≡◌, sym, ap, ◌∙◌}
use mathlib.Core.Bool.{Bool, true}
use mathlib.Core.List.{List}
use borrow.Rule.Slice.PartMut.{mid_of}
use Rattle.std.specs.Prelude.{is_ok}
use native.Mathlib.Nat.{add-zero, zero-mul}
use native.Mathlib.Omega.{arith}
use lib.ListN.{length, drop}
use Rattle.units.specs.declared.kinds.Family.{Family}
use Rattle.words.specs.Reading.{word_size, word_of, judged_right, judged_in}
use Rattle.blocks.proofs.Steps.{width_small}
use Rattle.blocks.proofs.Runs.{fit_right, part_all, right_inside, next_start, run_none, run_more}
use Rattle.blocks.proofs.judging.run_of.Goals as goal

-- the word at the place is right
found : (f : Family) (wide : Bool) (s : List ℕ) (at : ℕ) {r : Bool} → r ≡ is_ok (word_of f wide (mid_of at (length s - at) s)) → r ≡ true
    → judged_in (word_of f wide (drop at s)) ≡ judged_right
found f wide s at e is =
    let part = ap (λ (t : List ℕ). is_ok (word_of f wide t)) (part_all s at) in
    fit_right _ (sym (e ∙ part) ∙ is)

pub overflow_add-size : goal.overflow_add-size
overflow_add-size c = omega (arith, width_small c.args.wide)

pub loop-n-init : goal.loop-n-init
loop-n-init c =
    let a = c.args in
    (rw (zero-mul (word_size a.wide), add-zero a.start), run_none a.family a.wide a.start a.most a.s.now c.requires)

pub slice_bounds-fits-count : goal.slice_bounds-fits-count
slice_bounds-fits-count c = let (at_is, runs) = c.loop-n.invariant in omega (arith, at_is, runs.inside)

pub overflow_add-at : goal.overflow_add-at
overflow_add-at c =
    let a = c.args in
    let right = found a.family a.wide a.s.now c.loop-n.at c.fits.ensures c.if-not-fits.false in
    let size : c.width_of-size.result + 8 ≡ word_size a.wide = omega (arith, c.width_of-size.ensures) in
    omega (arith, right_inside a.family a.wide a.s.now c.loop-n.at right, size)

pub loop-n-preserved : goal.loop-n-preserved
loop-n-preserved c =
    let a = c.args in
    let n = c.loop-n.n in
    let (at_is, runs) = c.loop-n.invariant in
    let right = found a.family a.wide a.s.now c.loop-n.at c.fits.ensures c.if-not-fits.false in
    let size : c.width_of-size.result + 8 ≡ word_size a.wide = omega (arith, c.width_of-size.ensures) in (
      omega (arith, at_is, size, next_start n (word_size a.wide)),
      run_more a.family a.wide a.start a.most a.s.now n runs (omega arith) (rw at_is at right),
    )

pub returns : goal.returns
returns c =
    let all : c.loop-n.n ≡ c.args.most = omega arith in
    rw all at c.loop-n.invariant.1
