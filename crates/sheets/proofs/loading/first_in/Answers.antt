-- `first_in` meets its contract: what the settings' lines came to, and then the values'.
use Rattle.std.proofs.Common.{length, sym, ap, ◌∙◌, arith, rules}
use Rattle.figures.specs.Bytes.{starts_with}
use Rattle.sheets.specs.Loading.{settings_in}
use Rattle.sheets.specs.Keeping.{settings_as, first_as}
use Rattle.sheets.proofs.Loads.{first_formless, form_within, first_astray, settings_within, first_valueless, first_whole}
use Rattle.sheets.proofs.loading.first_in.Goals as goal

pub returns-then-not-starts : goal.returns-then-not-starts
returns-then-not-starts c =
    let off = ap (λ w. starts_with w c.args.sheet.now) (sym c.form_line-named.ensures) ∙ sym c.starts.ensures ∙ c.if-not-starts.true in
    ap first_as (sym (first_formless c.args.form c.args.series c.args.sheet.now off))

pub settings_in-requires : goal.settings_in-requires
settings_in-requires c =
    let formed = ap (λ w. starts_with w c.args.sheet.now) (sym c.form_line-named.ensures) ∙ sym c.starts.ensures ∙ c.if-not-starts.false in
    omega (arith, form_within c.args.form c.args.series c.args.sheet.now formed, ap length c.form_line-named.ensures)

pub returns-in_err-to : goal.returns-in_err-to
returns-in_err-to c =
    let formed = ap (λ w. starts_with w c.args.sheet.now) (sym c.form_line-named.ensures) ∙ sym c.starts.ensures ∙ c.if-not-starts.false in
    let read = c.settings_in.ensures ∙ ap (λ w. settings_as (settings_in c.args.series c.args.sheet.now (length w))) c.form_line-named.ensures in
    let wrong = first_astray c.args.form c.args.series c.args.sheet.now formed _ read c.in_err-to.was in
    search (rules, wrong)

pub values_in-requires : goal.values_in-requires
values_in-requires c =
    let formed = ap (λ w. starts_with w c.args.sheet.now) (sym c.form_line-named.ensures) ∙ sym c.starts.ensures ∙ c.if-not-starts.false in
    let read = c.settings_in.ensures ∙ ap (λ w. settings_as (settings_in c.args.series c.args.sheet.now (length w))) c.form_line-named.ensures in
    settings_within c.args.form c.args.series c.args.sheet.now formed _ read _ c.in_ok-to.was

pub returns-in_err-to-2 : goal.returns-in_err-to-2
returns-in_err-to-2 c =
    let formed = ap (λ w. starts_with w c.args.sheet.now) (sym c.form_line-named.ensures) ∙ sym c.starts.ensures ∙ c.if-not-starts.false in
    let read = c.settings_in.ensures ∙ ap (λ w. settings_as (settings_in c.args.series c.args.sheet.now (length w))) c.form_line-named.ensures in
    let wrong = first_valueless c.args.form c.args.series c.args.sheet.now formed _ read _ c.in_ok-to.was _ c.values_in.ensures c.in_err-to-2.was in
    search (rules, wrong)

pub returns : goal.returns
returns c =
    let formed = ap (λ w. starts_with w c.args.sheet.now) (sym c.form_line-named.ensures) ∙ sym c.starts.ensures ∙ c.if-not-starts.false in
    let read = c.settings_in.ensures ∙ ap (λ w. settings_as (settings_in c.args.series c.args.sheet.now (length w))) c.form_line-named.ensures in
    first_whole c.args.form c.args.series c.args.sheet.now formed _ read _ c.in_ok-to.was _ c.values_in.ensures _ c.in_ok-to-2.was
