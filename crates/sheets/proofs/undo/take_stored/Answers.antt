-- `take_stored` meets its contract: a line that ends after its key says that nothing was put.
use Rattle.std.proofs.Common.{◌≤◌, ◌-◌, Some, true, false, length, sym, ap, ◌∙◌, arith}
use borrow.Rule.Slice.PartMut.{mid_of}
use Rattle.figures.proofs.Bytes.{length_mid}
use Rattle.instrument.specs.Values.{Kept}
use Rattle.state.specs.Entries.{entry_of}
use Rattle.state.specs.declared.entries.Item.TheVariants.{Stored}
use Rattle.state.specs.declared.entries.Entry.{Entry}
use Rattle.sheets.proofs.UndoTakes.{stored_there, stored_few, stored_never, stored_short, stored_put}
use Rattle.sheets.proofs.undo.take_stored.Goals as goal
use Rattle.sheets.proofs.undo.take_stored.Goals.{then-s-lt22-via-then-s-lt22, then-s-lt22-via-else-s-lt22+then-not-put_stands}

pub returns-then-s-lt7 : goal.returns-then-s-lt7
returns-then-s-lt7 c = stored_few c.args.series c.args.s.now c.args.place c.requires.0 c.requires.1 c.if-s-lt7.true

pub stored_entry-requires : goal.stored_entry-requires
stored_entry-requires c = stored_there c.args.series c.args.s.now c.args.place c.requires.0 c.requires.1

pub returns-then-s-eq10 : goal.returns-then-s-eq10
returns-then-s-eq10 c =
    ap (λ (e : Entry). Some (record { to = 7; held = e })) c.stored_entry.ensures
    ∙ stored_never c.args.series c.args.s.now c.args.place c.requires.0 c.requires.1 (omega arith) c.if-s-eq10.true

pub returns-then-s-lt22 : goal.returns-then-s-lt22
returns-then-s-lt22 c =
    elim c.then-s-lt22.branch [
      | then-s-lt22-via-then-s-lt22 w ↦
          stored_short c.args.series c.args.s.now c.args.place c.requires.0 c.requires.1 (omega arith) c.if-s-eq10.false w.if-s-lt22.true
      | then-s-lt22-via-else-s-lt22+then-not-put_stands w ↦
          stored_put c.args.series c.args.s.now c.args.place c.requires.0 c.requires.1 (omega arith) c.if-s-eq10.false false
          (sym (sym w.put_stands.ensures ∙ w.if-not-put_stands.true))
    ]

pub put_stands-requires : goal.put_stands-requires
put_stands-requires c =
    let s = c.args.s.now in
    let long : 20 ≤ length (mid_of 2 (length s - 2) s) = omega (arith, length_mid 2 (length s - 2) s (omega arith)) in
    (stored_there c.args.series s c.args.place c.requires.0 c.requires.1, long)

pub put_at-requires : goal.put_at-requires
put_at-requires c =
    let s = c.args.s.now in
    let long : 20 ≤ length (mid_of 2 (length s - 2) s) = omega (arith, length_mid 2 (length s - 2) s (omega arith)) in
    long

pub stored_entry-requires-2 : goal.stored_entry-requires-2
stored_entry-requires-2 c = stored_there c.args.series c.args.s.now c.args.place c.requires.0 c.requires.1

pub returns : goal.returns
returns c =
    let place = c.args.place in
    ap (λ (e : Entry). Some (record { to = 22; held = e })) c.stored_entry-2.ensures
    ∙ ap (λ (k : Kept). Some (record { to = 22; held = entry_of (Stored place) 0 k })) c.put_at.ensures
    ∙ stored_put c.args.series c.args.s.now place c.requires.0 c.requires.1 (omega arith) c.if-s-eq10.false true
    (sym (sym c.put_stands.ensures ∙ c.if-not-put_stands.false))
