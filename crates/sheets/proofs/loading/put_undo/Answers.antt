-- `put_undo` meets its contract: a turn lays an entry down, and then the count is.
use Rattle.std.proofs.Common.{◌≡◌, ap, ◌∙◌, arith}
use Rattle.state.specs.Keeping.{count_laid}
use Rattle.sheets.specs.Keeping.{entries_laid}
use Rattle.sheets.proofs.Loads.{laid_none, laid_more}
use Rattle.sheets.proofs.loading.put_undo.Goals as goal

pub loop-i-init : goal.loop-i-init
loop-i-init c = laid_none c.args.series c.args.entries.now c.args.image.now

pub loop-i-preserved : goal.loop-i-preserved
loop-i-preserved c = laid_more c.args.series c.args.entries.now c.loop-i.i c.args.image.now c.loop-i.invariant c.put_entry.ensures

pub returns : goal.returns
returns c =
    let i : c.loop-i.i ≡ c.args.count = omega arith in
    c.put_count.ensures ∙ ap (count_laid c.args.series c.args.count) (c.loop-i.invariant ∙ ap (λ n. entries_laid c.args.series c.args.entries.now n c.args.image.now) i)
