-- A SET that is accepted names a setting, and a parameter of its range.
use Rattle.std.proofs.Common.{sym, ◌∙◌, arith}
use Rattle.state.proofs.Images.{image_of_lem}
use Rattle.lines.proofs.Altering.{set_taken}
use Rattle.lines.proofs.orders.run_set.Goals as goal

pub overflow_cast-parameter : goal.overflow_cast-parameter
overflow_cast-parameter c =
    let a = c.args in
    omega (arith, (set_taken c.requires.0 a.number a.parameter c.in-Some.place (sym c.setting_of.ensures ∙ c.in-Some.is) c.requires.1).2)

pub set-requires : goal.set-requires
set-requires c =
    let a = c.args in
    let t = set_taken c.requires.0 a.number a.parameter c.in-Some.place (sym c.setting_of.ensures ∙ c.in-Some.is) c.requires.1 in
    (c.requires.0, (t.0, t.1))

pub returns-in_default : goal.returns-in_default
returns-in_default c = rw (sym c.setting_of.ensures ∙ c.in_default.is) (image_of_lem c.args.image.now c.requires.0.is).1
