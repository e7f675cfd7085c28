-- `take_former` meets its contract: at each return the tests that led there judge the line.
use Rattle.std.proofs.Common.{ℕ, ◌+◌, drop, Some, sym, ap, ◌∙◌, arith, rules}
use Rattle.figures.proofs.Bytes.{starts_length}
use Rattle.instrument.specs.Settings.{in_range}
use Rattle.instrument.specs.declared.settings.Row.{Row}
use Rattle.instrument.proofs.Ranges.{settings_few}
use Rattle.state.specs.Entries.{entry_of}
use Rattle.state.specs.declared.entries.Item.TheVariants.{Setting}
use Rattle.sheets.specs.Keeping.{number_taken, setting_start}
use Rattle.sheets.proofs.UndoTakes.{number_read, former_none, former_there, former_asked, former_unread, former_out, former_is}
use Rattle.sheets.proofs.undo.take_former.Goals as goal
use Rattle.std.specs.Prelude.{None}

pub returns-in_err-place : goal.returns-in_err-place
returns-in_err-place c =
    let none = former_none c.args.series c.args.s.now c.args.number c.requires.0 c.requires.1.0 (sym c.setting_at.ensures ∙ c.in_err-place.was) in
    search (rules, none)

pub returns-then-row : goal.returns-then-row
returns-then-row c =
    former_asked c.args.series c.args.s.now c.args.number c.requires.0 c.requires.1.0 _ (sym c.setting_at.ensures ∙ c.in_ok-place.was)
    (sym (ap (λ (q : Row). q.asked) c.row_at-row.ensures) ∙ c.if-row.true)

pub number_line-requires : goal.number_line-requires
number_line-requires c = omega (arith, starts_length (setting_start c.args.number) c.args.s.now c.requires.1.0, c.requires.1.1)

pub returns-in_err-line : goal.returns-in_err-line
returns-in_err-line c =
    let read = c.number_line.ensures.taken ∙ ap (λ n. number_taken (drop n c.args.s.now)) c.requires.1.1 in
    let none = former_unread c.args.series c.args.s.now c.args.number c.requires.0 c.requires.1.0 _ (sym c.setting_at.ensures ∙ c.in_ok-place.was) _ read c.in_err-line.was in
    search (rules, none)

pub returns-then-not-in_range : goal.returns-then-not-in_range
returns-then-not-in_range c =
    let read = c.number_line.ensures.taken ∙ ap (λ n. number_taken (drop n c.args.s.now)) c.requires.1.1 in
    let ranged = c.in_range.ensures ∙ ap (λ (r : Row). in_range r c.in_ok-line.line.held) c.row_at-row.ensures in
    former_out c.args.series c.args.s.now c.args.number c.requires.0 c.requires.1.0 _ (sym c.setting_at.ensures ∙ c.in_ok-place.was) _ read c.in_ok-line.line c.in_ok-line.was
    (sym ranged ∙ c.if-not-in_range.true)

pub overflow_add-result : goal.overflow_add-result
overflow_add-result c =
    let read = c.number_line.ensures.taken ∙ ap (λ n. number_taken (drop n c.args.s.now)) c.requires.1.1 in
    let ends = number_read (setting_start c.args.number) c.args.s.now c.requires.1.0 _ read c.in_ok-line.was in
    omega (arith, ends.within, c.requires.1.1)

pub overflow_cast-result : goal.overflow_cast-result
overflow_cast-result c =
    let there = former_there c.args.series c.args.s.now c.args.number c.requires.0 c.requires.1.0 _ (sym c.setting_at.ensures ∙ c.in_ok-place.was) in
    omega (arith, there.0, settings_few c.args.series)

pub returns : goal.returns
returns c =
    let read = c.number_line.ensures.taken ∙ ap (λ n. number_taken (drop n c.args.s.now)) c.requires.1.1 in
    let ranged = c.in_range.ensures ∙ ap (λ (r : Row). in_range r c.in_ok-line.line.held) c.row_at-row.ensures in
    let is = former_is c.args.series c.args.s.now c.args.number c.requires.0 c.requires.1.0 _ (sym c.setting_at.ensures ∙ c.in_ok-place.was) _ read c.in_ok-line.line c.in_ok-line.was
    (sym (ap (λ (q : Row). q.asked) c.row_at-row.ensures) ∙ c.if-row.false) (sym ranged ∙ c.if-not-in_range.false) in
    ap (λ (n : ℕ). Some (record { to = n + c.in_ok-line.line.to; held = entry_of (Setting c.in_ok-place.place) c.in_ok-line.line.held None })) c.requires.1.1 ∙ is
