-- `mending::mend_by` meets its contract: by what the reader answers of the mended bytes, and by what fits.
use Rattle.std.proofs.Common.{rules, refl, lt-ltb, le-ltb}
use Rattle.listings.proofs.Answered.{walked_fits, walked_size, by_answer}
use Rattle.listings.proofs.mending.mend_by.Goals as goal

pub slice_bounds-bytes-end : goal.slice_bounds-bytes-end
slice_bounds-bytes-end c = walked_fits c.args.s.now c.walk-walked.result c.walk-walked.new.room c.walk-walked.ensures

pub slice_bounds-mended-end : goal.slice_bounds-mended-end
slice_bounds-mended-end c = walked_size c.args.s.now c.walk-walked.result c.walk-walked.new.room c.walk-walked.ensures

pub returns-in_err-answer_of : goal.returns-in_err-answer_of
returns-in_err-answer_of c =
    let a = c.args in
    let w = c.walk-walked in
    rw (by_answer a.s.now w.result w.new.room w.ensures a.family a.room.now a.places c.answer_of.result c.answer_of.ensures, c.in_err-answer_of.was) (search rules)

pub returns-then-room-mended : goal.returns-then-room-mended
returns-then-room-mended c =
    let a = c.args in
    let w = c.walk-walked in
    rw (by_answer a.s.now w.result w.new.room w.ensures a.family a.room.now a.places c.answer_of.result c.answer_of.ensures, c.in_ok-answer_of.was, lt-ltb _ _ c.if-room-mended.true) (refl, refl)

pub returns-then-places-count : goal.returns-then-places-count
returns-then-places-count c =
    let a = c.args in
    let w = c.walk-walked in
    rw (
      by_answer a.s.now w.result w.new.room w.ensures a.family a.room.now a.places c.answer_of.result c.answer_of.ensures,
      c.in_ok-answer_of.was,
      le-ltb _ _ c.if-room-mended.false,
      c.as_slice-count.ensures,
      lt-ltb _ _ (rw c.as_slice-count.ensures at c.if-places-count.true),
    )
    (refl, refl)

pub returns : goal.returns
returns c =
    let a = c.args in
    let w = c.walk-walked in
    rw (
      by_answer a.s.now w.result w.new.room w.ensures a.family a.room.now a.places c.answer_of.result c.answer_of.ensures,
      c.in_ok-answer_of.was,
      le-ltb _ _ c.if-room-mended.false,
      le-ltb _ _ (rw c.as_slice-count.ensures at c.if-places-count.false),
      ← walked_size a.s.now w.result w.new.room w.ensures,
    )
    (refl, rw (← walked_size a.s.now w.result w.new.room w.ensures) at c.lay.ensures)
