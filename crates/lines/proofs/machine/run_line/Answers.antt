-- The line that is judged runs, or is refused and leaves the image.
use Rattle.std.proofs.Common.{ℕ, List, subst, ◌++◌, sym, ◌∙◌}
use Rattle.std.specs.Prelude.{Err}
use Rattle.state.specs.Image.{state_in}
use Rattle.state.proofs.Images.{image_of_lem}
use Rattle.state.proofs.Places.{series_read}
use Rattle.lines.specs.Verdicts.{accepted}
use Rattle.lines.specs.Orders.{deed_of, done_of}
use Rattle.lines.specs.Replies.{warning, reply_end, body_of}
use Rattle.lines.specs.Machine.{outcome, run}
use Rattle.lines.specs.Keeping.{Accepts}
use Rattle.lines.proofs.Calling.{ends_so, ends_refused, run_refused, run_accepted, judged_accepts, judged_refuses}
use Rattle.lines.proofs.machine.run_line.Goals as goal

pub accept-requires : goal.accept-requires
accept-requires c =
    let s = state_in c.args.image.now in
    let o = c.in-Ok.order in
    let accepts = (judged_accepts s c.args.line.now o (sym c.in-Ok.is ∙ c.judged.ensures)).1 in
    (c.requires, subst (λ (t : List ℕ). Accepts s t o) (sym c.text_of.ensures) accepts)

pub returns-in-Ok : goal.returns-in-Ok
returns-in-Ok c =
    let a = c.args in
    let s = state_in a.image.now in
    let accepts = judged_accepts s a.line.now c.in-Ok.order (sym c.in-Ok.is ∙ c.judged.ensures) in
    let k = series_read c.requires in
    ends_so s (run s a.line.now) _ a.room.now _ _ _
    (run_accepted s a.line.now accepts.0
    ∙ (λ j. let t = sym c.text_of.ensures j in let o = sym accepts.1.0 j in outcome accepted (body_of s t o ++ reply_end s) (done_of s (deed_of (k j) t o))))
    c.accept.ensures

pub returns-in-Err : goal.returns-in-Err
returns-in-Err c =
    let a = c.args in
    let s = state_in a.image.now in
    let r = c.in-Err.refused in
    ends_so s (run s a.line.now) (outcome (Err r) (warning ++ reply_end s) s) a.room.now _ _ _
    (run_refused s a.line.now r (judged_refuses s a.line.now r (sym c.in-Err.is ∙ c.judged.ensures)))
    (ends_refused s (Err r) (warning ++ reply_end s) a.image.now a.room.now _ _ (image_of_lem a.image.now c.requires.is).1 c.refuse.ensures)
