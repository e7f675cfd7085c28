-- `settings_in` meets its contract: a turn takes a line, and past the last those that the series has not are 0.
use Rattle.std.proofs.Common.{◌≡◌, ◌<◌, drop, replicate, refl, sym, ap, ◌∙◌, Err, arith, rules}
use native.Mathlib.Nat.{sub-zero}
use lib.ListN.{length-set, length-drop}
use Rattle.figures.specs.Bytes.{starts_with}
use Rattle.figures.proofs.Bytes.{starts_length}
use Rattle.commands.proofs.Shape.{to_end}
use Rattle.instrument.specs.Settings.{settings_n, settings_most}
use Rattle.instrument.proofs.Ranges.{settings_few}
use Rattle.sheets.specs.Lines.{wrong_at}
use Rattle.sheets.specs.Sheet.{series_line, setting_lines}
use Rattle.sheets.specs.Loading.{settings_in}
use Rattle.sheets.specs.Keeping.{settings_as}
use Rattle.sheets.specs.declared.answers.SheetRefusal.TheVariants.{Wrong}
use Rattle.sheets.proofs.Partwise.{set_past, part_ended}
use Rattle.sheets.proofs.Sizes.{series_long}
use Rattle.sheets.proofs.Takes.{setting_turned}
use Rattle.sheets.proofs.Loads.{settings_kept}
use Rattle.sheets.proofs.loading.settings_in.Goals as goal

pub returns-then-not-starts : goal.returns-then-not-starts
returns-then-not-starts c =
    let head = c.starts.ensures ∙ (λ j. starts_with (c.series_line.ensures j) (to_end c.args.start c.args.sheet.now j)) in
    let wrong : settings_in c.args.series c.args.sheet.now c.args.start ≡ wrong_at c.args.start = rw (sym head ∙ c.if-not-starts.true) in
    ap settings_as (sym wrong)

pub loop-i-init : goal.loop-i-init
loop-i-init c =
    let head = c.starts.ensures ∙ (λ j. starts_with (c.series_line.ensures j) (to_end c.args.start c.args.sheet.now j)) in
    let stands = sym head ∙ c.if-not-starts.false in
    record {
      within = omega (arith, starts_length (series_line c.args.series) (drop c.args.start c.args.sheet.now) stands, series_long c.args.series, length-drop c.args.start c.args.sheet.now);
      whole = refl;
      past = refl;
      left = rw (stands, series_long c.args.series, sub-zero);
    }

pub returns-in_err-line : goal.returns-in_err-line
returns-in_err-line c =
    let series = c.args.series in
    let i = c.loop-i.i in
    let sheet = c.args.sheet.now in
    let below : i < settings_n series = omega (arith, c.settings_of-i-end.ensures) in
    let taken = setting_turned series i c.loop-i.to sheet c.loop-i.held below (omega (arith, settings_few series)) c.loop-i.invariant.within
    c.take_setting.result c.take_setting.ensures in
    let wrong = ap settings_as (c.loop-i.invariant.left ∙ taken.astray c.in_err-line.ensures.ok_part) in
    let out : c.from_residual.result ≡ Err (Wrong c.loop-i.to) = search rules in
    out ∙ sym wrong

pub bounds-held-i : goal.bounds-held-i
bounds-held-i c = omega (arith, settings_few c.args.series, c.settings_of-i-end.ensures)

pub overflow_add-to-in-loop-i : goal.overflow_add-to-in-loop-i
overflow_add-to-in-loop-i c =
    let series = c.args.series in
    let i = c.loop-i.i in
    let below : i < settings_n series = omega (arith, c.settings_of-i-end.ensures) in
    let taken = setting_turned series i c.loop-i.to c.args.sheet.now c.loop-i.held below (omega (arith, settings_few series)) c.loop-i.invariant.within
    c.take_setting.result c.take_setting.ensures in
    omega (arith, taken.within c.in_ok-line.line c.in_ok-line.ensures.ok_part)

pub loop-i-preserved : goal.loop-i-preserved
loop-i-preserved c =
    let series = c.args.series in
    let i = c.loop-i.i in
    let held = c.loop-i.held in
    let below : i < settings_n series = omega (arith, c.settings_of-i-end.ensures) in
    let taken = setting_turned series i c.loop-i.to c.args.sheet.now held below (omega (arith, settings_few series)) c.loop-i.invariant.within
    c.take_setting.result c.take_setting.ensures in
    record {
      within = taken.within c.in_ok-line.line c.in_ok-line.ensures.ok_part;
      whole = length-set held i _ ∙ c.loop-i.invariant.whole;
      past = set_past held (replicate settings_most 0) i _ c.loop-i.invariant.past;
      left = c.loop-i.invariant.left ∙ taken.more c.in_ok-line.line c.in_ok-line.ensures.ok_part;
    }

pub returns : goal.returns
returns c =
    let series = c.args.series in
    let held = c.loop-i.held in
    let i : c.loop-i.i ≡ settings_n series = omega (arith, c.settings_of-i-end.ensures) in
    let done = part_ended (setting_lines series) (settings_n series) c.loop-i.i c.loop-i.to c.args.sheet.now held i in
    sym (ap settings_as (c.loop-i.invariant.left ∙ done)
    ∙ settings_kept c.loop-i.to c.loop-i.i held c.loop-i.invariant.whole c.loop-i.invariant.past (omega (arith, i, settings_few series)))
