-- `class_of` meets its contract: the table's rule is one test of its thousand entries, which is computed.
use Rattle.std.proofs.Common.{arith, ℕ, ◌≡◌, ◌+◌, ◌<◌, get_or, refl, ap, ◌∙◌}
use Prim.Native.Nat.{zero, suc}
use native.Mathlib.Nat.{add-zero, add-suc, suc-add}
use Rattle.figures.specs.Bytes.{among}
use Rattle.units.specs.Classes.{class_of}
use Rattle.units.specs.declared.classes.TheConstants.{CLASSES}
use Rattle.figures.proofs.Tests.{run}
use Rattle.units.proofs.classes.class_of.Goals as goal

-- the table of src/classes.rt has at each of a thousand numbers what the rule says
pub rule : CLASSES.now ≡ run class_of 0 1000
unfolding among
rule = refl

run_at : {A : Type 0} (f : ℕ → A) (a : A) (low k n : ℕ) → n < k → get_or (run f low k) n a ≡ f (low + n)
run_at f a low zero n h = absurd (omega arith)
run_at f a low (suc k) zero h = rw add-zero
run_at f a low (suc k) (suc n) h = run_at f a (suc low) k n (omega arith) ∙ rw (add-suc, suc-add)

pub returns : goal.returns
returns c =
    let at : 0 + c.from.result ≡ c.args.three = omega (arith, c.from.ensures) in
    ap (λ l. get_or l c.from.result 0) rule
    ∙ run_at class_of 0 0 1000 c.from.result (omega (arith, c.from.ensures, c.requires)) ∙ ap class_of at
