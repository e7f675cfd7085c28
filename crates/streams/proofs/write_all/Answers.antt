-- What a write took comes right after what was written before it.
use Rattle.std.proofs.Common.{◌++◌, arith, take, ap, sym, subst, ◌∙◌, length-drop}
use Rattle.std.specs.Io.KnownBytes.{Appends}
use Rattle.std.proofs.KnownBytes.{Appends-trans}
use Rattle.std.proofs.lemmas.List.{take_rest}
use lib.Seq.{take-add}
use Rattle.streams.proofs.write_all.Goals as goal

pub loop-done-preserved : goal.loop-done-preserved
loop-done-preserved g c =
    let done = c.loop-done.done in
    let n = c.in_ok-n.n in
    let bytes = c.args.bytes.now in
    let rest = take_rest bytes done in
    let fits = rw rest at c.in_ok-n.ensures.bound in
    let joined = ap (λ l. take done bytes ++ take n l) rest ∙ sym (take-add done n bytes) in
    (omega (arith, fits, length-drop done bytes), subst (Appends _ _) joined (Appends-trans _ _ _ _ _ c.loop-done.invariant.1 c.in_ok-n.ensures.bytes))
