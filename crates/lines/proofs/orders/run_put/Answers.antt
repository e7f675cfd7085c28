-- A PUT that is accepted names a stored value.
use Rattle.std.proofs.Common.{sym, ◌∙◌}
use Rattle.lines.proofs.Altering.{put_taken}
use Rattle.lines.proofs.orders.run_put.Goals as goal

pub put-requires : goal.put-requires
put-requires c = (c.requires.0, put_taken c.requires.0 c.args.word c.in-Some.place (sym c.place_named.ensures ∙ c.in-Some.is) c.requires.1)

pub returns-in-Some : goal.returns-in-Some
returns-in-Some c = rw (sym c.place_named.ensures ∙ c.in-Some.is) (c.put.ensures ∙ rw c.put_kept.ensures)
