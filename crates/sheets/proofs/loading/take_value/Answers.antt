-- `take_value` meets its contract: at each return the tests that led there judge the line.
use Rattle.std.proofs.Common.{Some, true, false, sym, ap, ◌∙◌, arith}
use Rattle.instrument.specs.Values.{Kept}
use Rattle.sheets.proofs.Takes.{value_starts, value_unkeyed, value_few, value_never, value_short, value_put}
use Rattle.sheets.proofs.loading.take_value.Goals as goal
use Rattle.sheets.proofs.loading.take_value.Goals.{then-not-starts-via-then-not-starts, then-not-starts-via-else-not-starts+then-s-lt5}
use Rattle.sheets.proofs.loading.take_value.Goals.{then-s-lt20-via-then-s-lt20, then-s-lt20-via-else-s-lt20+then-not-put_stands}

pub returns-then-not-starts : goal.returns-then-not-starts
returns-then-not-starts c =
    let keyed = c.starts.ensures ∙ value_starts c.args.place c.requires c.args.s.now c.stored_at.result c.stored_at.ensures in
    elim c.then-not-starts.branch [
      | then-not-starts-via-then-not-starts w ↦ value_unkeyed c.args.place c.requires c.args.s.now (sym keyed ∙ w.if-not-starts.true)
      | then-not-starts-via-else-not-starts+then-s-lt5 w ↦ value_few c.args.place c.requires c.args.s.now w.if-s-lt5.true
    ]

pub returns-then-s-eq10 : goal.returns-then-s-eq10
returns-then-s-eq10 c =
    let keyed = c.starts.ensures ∙ value_starts c.args.place c.requires c.args.s.now c.stored_at.result c.stored_at.ensures in
    value_never c.args.place c.requires c.args.s.now (sym keyed ∙ c.if-not-starts.false) (omega arith) c.if-s-eq10.true

pub returns-then-s-lt20 : goal.returns-then-s-lt20
returns-then-s-lt20 c =
    let keyed = c.starts.ensures ∙ value_starts c.args.place c.requires c.args.s.now c.stored_at.result c.stored_at.ensures in
    let stands = sym keyed ∙ c.if-not-starts.false in
    elim c.then-s-lt20.branch [
      | then-s-lt20-via-then-s-lt20 w ↦ value_short c.args.place c.requires c.args.s.now stands (omega arith) c.if-s-eq10.false w.if-s-lt20.true
      | then-s-lt20-via-else-s-lt20+then-not-put_stands w ↦
          value_put c.args.place c.requires c.args.s.now stands (omega arith) c.if-s-eq10.false false (sym (sym w.put_stands.ensures ∙ w.if-not-put_stands.true))
    ]

pub returns : goal.returns
returns c =
    let keyed = c.starts.ensures ∙ value_starts c.args.place c.requires c.args.s.now c.stored_at.result c.stored_at.ensures in
    ap (λ (k : Kept). Some (record { to = 20; held = k })) c.put_at.ensures
    ∙ value_put c.args.place c.requires c.args.s.now (sym keyed ∙ c.if-not-starts.false) (omega arith) c.if-s-eq10.false true
    (sym (sym c.put_stands.ensures ∙ c.if-not-put_stands.false))
