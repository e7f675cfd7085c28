-- `settings_length` meets its contract: a turn adds the digits of a parameter.
use Rattle.std.proofs.Common.{◌<◌, ◌≤◌, length, sym, ap, ◌∙◌, arith}
use Rattle.figures.specs.Decimal.{digits_n}
use Rattle.instrument.proofs.Ranges.{settings_few}
use Rattle.state.specs.Image.{state_in}
use Rattle.state.proofs.Places.{series_read}
use Rattle.sheets.specs.Keeping.{keys_n}
use Rattle.sheets.proofs.Linewise.{keys_few, size_none, size_more, size_all}
use Rattle.sheets.proofs.Writes.{own_in, own_long, own_count, own_read}
use Rattle.sheets.proofs.writing.settings_length.Goals as goal

pub loop-i-init : goal.loop-i-init
loop-i-init c =
    let image = c.args.image.now in
    let keys = c.keys_length-n.ensures in record {
      long = keys ∙ ap keys_n (sym (series_read c.requires)) ∙ size_none (state_in image).series (own_in image);
      few = omega (arith, keys, keys_few c.args.series);
    }

pub overflow_add-n : goal.overflow_add-n
overflow_add-n c = omega (arith, c.digits_in-n.ensures.1, c.settings_of-i-end.ensures, settings_few c.args.series)

pub loop-i-preserved : goal.loop-i-preserved
loop-i-preserved c =
    let im = c.requires in
    let own = own_in c.args.image.now in
    let i = c.loop-i.i in
    let here : i < length own = omega (arith, c.settings_of-i-end.ensures, own_count im) in
    let digits = c.digits_in-n.ensures.0 ∙ ap digits_n (c.from.ensures ∙ c.parameter_in.ensures ∙ own_read im i here) in
    let more = size_more (state_in c.args.image.now).series own (own_long im) i here in
    record {
      long = omega (arith, c.loop-i.invariant.long, digits, more);
      few = omega (arith, c.loop-i.invariant.few, c.digits_in-n.ensures.1);
    }

pub returns : goal.returns
returns c =
    let own = own_in c.args.image.now in
    let past : length own ≤ c.loop-i.i = omega (arith, c.settings_of-i-end.ensures, own_count c.requires) in
    c.loop-i.invariant.long ∙ size_all (state_in c.args.image.now).series own (own_long c.requires) c.loop-i.i past
