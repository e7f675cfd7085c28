-- What is past the count stays noughts, whether the edit is due or not.
use Rattle.std.proofs.Common.{arith, ◌<◌, ap, ◌∙◌, length, length-set, length-take-le}
use native.Mathlib.Nat.{add-zero}
use Rattle.listings.specs.Edits.{edit}
use Rattle.listings.proofs.Added.{past_due, past_none}
use Rattle.listings.proofs.edits.Edits.add_if.Goals as goal
use Rattle.listings.proofs.edits.Edits.add_if.Goals.{then-due, else-due}

pub invariant_of-self : goal.invariant_of-self
invariant_of-self c =
    let list = c.self.inside.list in
    let n = c.self.inside.n in
    let few : n < 34 = omega (arith, c.requires.0, length-take-le n list (omega (arith, c.self.invariant.0, c.self.invariant.1.0)), ap length c.self.view_is) in
    elim c.if-due.branch [
      | then-due w ↦ rw (c.from.ensures, w.if-due.true, w.self-is)
          (omega (arith, few), (length-set list n _ ∙ c.self.invariant.1.0, past_due list n few c.self.invariant.1.1 (edit c.args.place c.args.kind)))
      | else-due w ↦ rw (c.from.ensures, w.if-due.false, w.self-is, add-zero n)
          (omega (arith, few), (length-set list n _ ∙ c.self.invariant.1.0, past_none list n few c.self.invariant.1.1))
    ]
