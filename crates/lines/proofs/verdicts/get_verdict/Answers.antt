-- A turn judges the group that it takes off.
use Rattle.std.proofs.Common.{◌≡◌, Err, get_or, sym, ap, ◌∙◌, arith, rules}
use Rattle.instrument.specs.Values.{is_put}
use Rattle.state.specs.Image.{state_in}
use Rattle.lines.specs.declared.verdicts.Refused.TheVariants.{Index}
use Rattle.lines.proofs.Lookups.{place_in, get_more, get_none}
use Rattle.lines.proofs.verdicts.get_verdict.Goals as goal

pub returns-in_err-place : goal.returns-in_err-place
returns-in_err-place c =
    let i = c.loop-group.invariant in
    let cut = c.in-Some.ensures.steps.1 in
    let out : c.from_residual.result ≡ Err Index = search rules in
    out
    ∙ sym (sym i.1 ∙ get_more (state_in c.args.image.bytes.now).values _ _ _ cut.0 (cut.1 ∙ i.0) ∙ rw (sym c.place_named.ensures ∙ c.in_err-place.ensures.ok_part))

pub value-requires : goal.value-requires
value-requires c =
    let g = c.in-Some.group.now in
    place_in (get_or g 3 0) (get_or g 4 0) c.in_ok-place.place (sym c.place_named.ensures ∙ c.in_ok-place.ensures.ok_part)

pub returns-then-not-is_put : goal.returns-then-not-is_put
returns-then-not-is_put c =
    let i = c.loop-group.invariant in
    let cut = c.in-Some.ensures.steps.1 in
    let put = ap is_put (sym c.value.ensures) ∙ sym c.is_put.ensures ∙ c.if-not-is_put.true in
    sym (sym i.1 ∙ get_more (state_in c.args.image.bytes.now).values _ _ _ cut.0 (cut.1 ∙ i.0) ∙ rw (sym c.place_named.ensures ∙ c.in_ok-place.ensures.ok_part, put))

pub loop-group-preserved : goal.loop-group-preserved
loop-group-preserved c =
    let i = c.loop-group.invariant in
    let step = c.in-Some.ensures.steps in
    let cut = step.1 in
    let put = ap is_put (sym c.value.ensures) ∙ sym c.is_put.ensures ∙ c.if-not-is_put.false in (
      step.0 ∙ i.0,
      sym (sym i.1 ∙ get_more (state_in c.args.image.bytes.now).values _ _ _ cut.0 (cut.1 ∙ i.0) ∙ rw (sym c.place_named.ensures ∙ c.in_ok-place.ensures.ok_part, put)),
    )

pub returns : goal.returns
returns c =
    let i = c.loop-group.invariant in
    sym (get_none (state_in c.args.image.bytes.now).values _ (omega (arith, c.in-None.ensures.steps.1.0, i.0))) ∙ i.1
