-- `take_entry` meets its contract: at each return a test says that the line isn't right, or all of them that it is as far as the colon.
use Rattle.std.proofs.Common.{◌+◌, drop, refl, sym, ap, ◌∙◌, arith, rules}
use borrow.Author.Tests.{eq-eqb, ne_eqb}
use Rattle.figures.proofs.Tests.{and_on}
use Rattle.instrument.specs.Values.{value_place}
use Rattle.sheets.specs.Keeping.{said_of}
use Rattle.sheets.proofs.Takes.{byte_past, byte_is}
use Rattle.sheets.proofs.UndoTakes.{start_long, entry_not, said_is, setting_starts, stored_starts, stored_none}
use Rattle.sheets.proofs.undo.take_entry.Goals as goal
use Rattle.sheets.proofs.undo.take_entry.Goals.{then-not-starts-via-then-not-starts, then-not-starts-via-else-not-starts+then-s-lt4}
use Rattle.sheets.proofs.undo.take_entry.Goals.{then-digits-digits_in-via-then-digits-digits_in, then-digits-digits_in-via-else-digits-digits_in+then-s-colon}
use Rattle.sheets.proofs.undo.take_entry.Goals.{then-digits-digits_in-via-else-digits-digits_in+else-s-colon+then-s-colon-ne58}

pub returns-then-not-starts : goal.returns-then-not-starts
returns-then-not-starts c =
    let r = said_of (drop 3 c.args.s.now) in
    elim c.then-not-starts.branch [
      | then-not-starts-via-then-not-starts w ↦
          let off = sym c.starts.ensures ∙ w.if-not-starts.true in
          entry_not c.args.series c.args.s.now r refl 0 off off
      | then-not-starts-via-else-not-starts+then-s-lt4 w ↦
          let off = byte_past 58 c.args.s.now (3 + r.digits) (omega (arith, w.if-s-lt4.true)) in
          entry_not c.args.series c.args.s.now r refl 3 off off
    ]

pub returns-then-digits-digits_in : goal.returns-then-digits-digits_in
returns-then-digits-digits_in c =
    let s = c.args.s.now in
    let r = c.said_at-number.result in
    elim c.then-digits-digits_in.branch [
      | then-digits-digits_in-via-then-digits-digits_in w ↦
          let off = ne_eqb _ _ (λ e. w.if-digits-digits_in.true (e ∙ sym c.digits_in.ensures.0)) in
          entry_not c.args.series s r c.said_at-number.ensures.said 2 off off
      | then-digits-digits_in-via-else-digits-digits_in+then-s-colon w ↦
          let off = byte_past 58 s (3 + r.digits) w.if-s-colon.true in
          entry_not c.args.series s r c.said_at-number.ensures.said 3 off off
      | then-digits-digits_in-via-else-digits-digits_in+else-s-colon+then-s-colon-ne58 w ↦
          let off = byte_is 58 s (3 + r.digits) w.if-s-colon.false ∙ ne_eqb _ _ w.if-s-colon-ne58.true in
          entry_not c.args.series s r c.said_at-number.ensures.said 3 off off
    ]

pub take_former-requires : goal.take_former-requires
take_former-requires c =
    let s = c.args.s.now in
    let r = c.said_at-number.result in
    let is = c.said_at-number.ensures.said in
    let fewest = c.if-digits-digits_in.false ∙ c.digits_in.ensures.0 in
    let starts = setting_starts c.args.series s r is
    (and_on (sym c.starts.ensures ∙ c.if-not-starts.false)
    ∙ and_on (byte_is 115 s 2 (omega arith) ∙ eq-eqb _ _ c.if-letter-eq115.true)
    ∙ and_on (eq-eqb _ _ fewest)
    ∙ and_on (byte_is 58 s (3 + r.digits) c.if-s-colon.false ∙ eq-eqb _ _ c.if-s-colon-ne58.false)) in
    (said_is c.args.series s r is, (starts, omega (arith, start_long 115 r.number, fewest)))

pub returns-then-letter-ne118 : goal.returns-then-letter-ne118
returns-then-letter-ne118 c =
    let s = c.args.s.now in
    entry_not c.args.series s c.said_at-number.result c.said_at-number.ensures.said 1
    (byte_is 115 s 2 (omega arith) ∙ ne_eqb _ _ c.if-letter-eq115.false) (byte_is 118 s 2 (omega arith) ∙ ne_eqb _ _ c.if-letter-ne118.true)

pub returns-in_err-value_place : goal.returns-in_err-value_place
returns-in_err-value_place c =
    let none = stored_none c.args.series c.args.s.now c.if-letter-eq115.false
    (ap value_place (sym (said_is c.args.series c.args.s.now c.said_at-number.result c.said_at-number.ensures.said)) ∙ sym c.value_place.ensures ∙ c.in_err-value_place.was) in
    search (rules, none)

pub take_stored-requires : goal.take_stored-requires
take_stored-requires c =
    let s = c.args.s.now in
    let r = c.said_at-number.result in
    let fewest = c.if-digits-digits_in.false ∙ c.digits_in.ensures.0 in
    stored_starts c.args.series s r c.said_at-number.ensures.said _ (sym c.value_place.ensures ∙ c.in_ok-value_place.was)
    (and_on (sym c.starts.ensures ∙ c.if-not-starts.false)
    ∙ and_on (byte_is 118 s 2 (omega arith) ∙ eq-eqb _ _ c.if-letter-ne118.false)
    ∙ and_on (eq-eqb _ _ fewest)
    ∙ and_on (byte_is 58 s (3 + r.digits) c.if-s-colon.false ∙ eq-eqb _ _ c.if-s-colon-ne58.false))
