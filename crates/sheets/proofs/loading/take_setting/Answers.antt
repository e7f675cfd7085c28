-- `take_setting` meets its contract: at each return the tests that led there judge the line.
use Rattle.std.proofs.Common.{sym, ap, ◌∙◌, arith, rules}
use Rattle.figures.specs.Bytes.{starts_with}
use Rattle.figures.proofs.Bytes.{starts_length}
use Rattle.instrument.specs.Settings.{row_at, in_range}
use Rattle.instrument.specs.declared.settings.Row.{Row}
use Rattle.sheets.specs.Sheet.{setting_key}
use Rattle.sheets.specs.Keeping.{key_length}
use Rattle.sheets.proofs.Keyed.{key_part, setting_keyed_lem}
use Rattle.sheets.proofs.Takes.{setting_unkeyed, setting_unended, setting_beyond, setting_is}
use Rattle.sheets.proofs.loading.take_setting.Goals as goal

pub returns-then-not-starts : goal.returns-then-not-starts
returns-then-not-starts c =
    let k = setting_keyed_lem c.args.series c.args.place in
    let keyed = c.starts.ensures ∙ ap (λ w. starts_with w c.args.s.now) (key_part k c.key_at-key.ensures c.key_length-k.ensures) in
    setting_unkeyed c.args.series c.args.place c.args.s.now (sym keyed ∙ c.if-not-starts.true)

pub number_line-requires : goal.number_line-requires
number_line-requires c =
    let k = setting_keyed_lem c.args.series c.args.place in
    let long = c.key_length-k.ensures ∙ ap key_length c.key_at-key.ensures ∙ k.long in
    let keyed = c.starts.ensures ∙ ap (λ w. starts_with w c.args.s.now) (key_part k c.key_at-key.ensures c.key_length-k.ensures) in
    omega (arith, long, starts_length (setting_key (row_at c.args.series c.args.place)) c.args.s.now (sym keyed ∙ c.if-not-starts.false))

pub returns-in_err-line : goal.returns-in_err-line
returns-in_err-line c =
    let k = setting_keyed_lem c.args.series c.args.place in
    let long = c.key_length-k.ensures ∙ ap key_length c.key_at-key.ensures ∙ k.long in
    let keyed = c.starts.ensures ∙ ap (λ w. starts_with w c.args.s.now) (key_part k c.key_at-key.ensures c.key_length-k.ensures) in
    let none = setting_unended c.args.series c.args.place c.args.s.now (sym keyed ∙ c.if-not-starts.false) _ long _ c.number_line.ensures.taken c.in_err-line.was in
    search (rules, none)

pub returns-then-not-in_range : goal.returns-then-not-in_range
returns-then-not-in_range c =
    let k = setting_keyed_lem c.args.series c.args.place in
    let long = c.key_length-k.ensures ∙ ap key_length c.key_at-key.ensures ∙ k.long in
    let keyed = c.starts.ensures ∙ ap (λ w. starts_with w c.args.s.now) (key_part k c.key_at-key.ensures c.key_length-k.ensures) in
    let ranged = c.in_range.ensures ∙ ap (λ (r : Row). in_range r c.in_ok-line.line.held) c.row_at.ensures in
    setting_beyond c.args.series c.args.place c.args.s.now (sym keyed ∙ c.if-not-starts.false) _ long _ c.number_line.ensures.taken c.in_ok-line.line c.in_ok-line.was
    (sym ranged ∙ c.if-not-in_range.true)

pub returns : goal.returns
returns c =
    let k = setting_keyed_lem c.args.series c.args.place in
    let long = c.key_length-k.ensures ∙ ap key_length c.key_at-key.ensures ∙ k.long in
    let keyed = c.starts.ensures ∙ ap (λ w. starts_with w c.args.s.now) (key_part k c.key_at-key.ensures c.key_length-k.ensures) in
    let ranged = c.in_range.ensures ∙ ap (λ (r : Row). in_range r c.in_ok-line.line.held) c.row_at.ensures in
    setting_is c.args.series c.args.place c.args.s.now (sym keyed ∙ c.if-not-starts.false) _ long _ c.number_line.ensures.taken c.in_ok-line.line c.in_ok-line.was
    (sym ranged ∙ c.if-not-in_range.false)
