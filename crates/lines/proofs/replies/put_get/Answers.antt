-- A turn lays the word of the group that it takes off; no group is refused.
use Rattle.std.proofs.Common.{get_or, sym, ap, ◌∙◌, arith}
use Rattle.instrument.specs.Values.{get_word}
use Rattle.state.specs.Image.{state_in}
use Rattle.lines.proofs.Lookups.{place_in}
use Rattle.lines.proofs.Replying.{got_none, got_all, got_named, got_room, got_more}
use Rattle.lines.proofs.replies.put_get.Goals as goal

pub loop-group-init : goal.loop-group-init
loop-group-init c =
    let a = c.args in
    let made = c.into_iter-group-iterator.ensures.into_iter_gives in
    let chunks = c.chunks_exact-group-items.ensures in
    (rw made chunks.size, rw (made, chunks.rest) (got_none a.wide (state_in a.image.bytes.now).values a.groups.now a.room.now c.requires))

pub returns-in_default : goal.returns-in_default
returns-in_default c =
    let a = c.args in
    let l = c.loop-group in
    let cut = c.in-Some.ensures.steps.1 in
    absurd (got_named a.wide (state_in a.image.bytes.now).values a.groups.now a.room.now c.requires l.room _ l.at l.invariant.1 _ _ cut.0
    (cut.1 ∙ l.invariant.0) (sym c.place_named.ensures ∙ c.in_default.is))

pub value-requires : goal.value-requires
value-requires c =
    let g = c.in-Some.group.now in
    place_in (get_or g 3 0) (get_or g 4 0) c.in-Some-place_named.place (sym c.place_named.ensures ∙ c.in-Some-place_named.is)

pub slice_bounds-put_word-count : goal.slice_bounds-put_word-count
slice_bounds-put_word-count c =
    let a = c.args in
    let l = c.loop-group in
    let cut = c.in-Some.ensures.steps.1 in
    omega (
      arith,
      l.auto.room,
      got_room a.wide (state_in a.image.bytes.now).values a.groups.now a.room.now c.requires l.room _ l.at l.invariant.1 _ _ cut.0
          (cut.1 ∙ l.invariant.0) c.in-Some-place_named.place (sym c.place_named.ensures ∙ c.in-Some-place_named.is),
    )

pub overflow_add-at : goal.overflow_add-at
overflow_add-at c =
    let a = c.args in
    let l = c.loop-group in
    let cut = c.in-Some.ensures.steps.1 in
    let word = c.get_word-word.ensures ∙ ap (get_word c.in-Some-place_named.place) c.value.ensures in
    let n = rw word at c.put_word-n.ensures.0 in
    omega (
      arith,
      c.well_formed,
      n,
      got_room a.wide (state_in a.image.bytes.now).values a.groups.now a.room.now c.requires l.room _ l.at l.invariant.1 _ _ cut.0
          (cut.1 ∙ l.invariant.0) c.in-Some-place_named.place (sym c.place_named.ensures ∙ c.in-Some-place_named.is),
    )

pub loop-group-preserved : goal.loop-group-preserved
loop-group-preserved c =
    let a = c.args in
    let l = c.loop-group in
    let step = c.in-Some.ensures.steps in
    let cut = step.1 in
    let word = c.get_word-word.ensures ∙ ap (get_word c.in-Some-place_named.place) c.value.ensures in
    let put = rw word at c.put_word-n.ensures in (
      step.0 ∙ l.invariant.0,
      got_more a.wide (state_in a.image.bytes.now).values a.groups.now a.room.now c.requires l.room _ l.at l.invariant.1 _ _ cut.0
          (cut.1 ∙ l.invariant.0) c.in-Some-place_named.place (sym c.place_named.ensures ∙ c.in-Some-place_named.is) c.put_word-n.result c.put_word-n.new.room put.0 put.1,
    )

pub returns : goal.returns
returns c =
    let a = c.args in
    let l = c.loop-group in
    got_all a.wide (state_in a.image.bytes.now).values a.groups.now a.room.now c.requires l.room _ l.at l.invariant.1
    (omega (arith, c.in-None.ensures.steps.1.0, l.invariant.0))
