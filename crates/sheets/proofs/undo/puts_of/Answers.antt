-- `puts_of` meets its contract: a turn sets a flag.
use Rattle.std.proofs.Common.{Bool, sym, ◌∙◌, arith}
use lib.ListN.{length-set}
use Rattle.instrument.specs.Values.{is_put}
use Rattle.instrument.specs.Values.{Kept}
use Rattle.instrument.proofs.Ranges.{map_more}
use Rattle.sheets.proofs.undo.puts_of.Goals as goal
use Rattle.std.specs.Prelude.{None}

put : Kept → Bool
put v = is_put v

pub loop-i-preserved : goal.loop-i-preserved
unfolding put
loop-i-preserved c =
    let values = c.args.values in
    let more = map_more put values c.loop-i.puts None c.loop-i.i (omega arith) (omega arith) c.loop-i.invariant.set in
    record {
      whole = length-set c.loop-i.puts c.loop-i.i _ ∙ c.loop-i.invariant.whole;
      set = rw (sym c.is_put.ensures) at more;
    }
