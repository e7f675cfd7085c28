-- `take_count` meets its contract: at each return the tests that led there judge the line.
use Rattle.std.proofs.Common.{sym, ◌∙◌, arith, rules}
use Rattle.figures.proofs.Bytes.{starts_length}
use Rattle.sheets.specs.Undo.{count_key}
use Rattle.sheets.proofs.UndoTakes.{count_unkeyed, count_unread, count_above, count_is}
use Rattle.sheets.proofs.undo.take_count.Goals as goal

pub returns-then-not-starts : goal.returns-then-not-starts
returns-then-not-starts c = count_unkeyed c.args.s.now (sym c.starts.ensures ∙ c.if-not-starts.true)

pub number_line-requires : goal.number_line-requires
number_line-requires c = omega (arith, starts_length count_key c.args.s.now (sym c.starts.ensures ∙ c.if-not-starts.false))

pub returns-in_err-line : goal.returns-in_err-line
returns-in_err-line c =
    let none = count_unread c.args.s.now (sym c.starts.ensures ∙ c.if-not-starts.false) _ c.number_line.ensures.taken c.in_err-line.was in
    search (rules, none)

pub returns-then-count-gt-ENTRIES : goal.returns-then-count-gt-ENTRIES
returns-then-count-gt-ENTRIES c =
    count_above c.args.s.now (sym c.starts.ensures ∙ c.if-not-starts.false) _ c.number_line.ensures.taken c.in_ok-line.line c.in_ok-line.was
    c.if-count-gt-ENTRIES.true

pub returns : goal.returns
returns c =
    count_is c.args.s.now (sym c.starts.ensures ∙ c.if-not-starts.false) _ c.number_line.ensures.taken c.in_ok-line.line c.in_ok-line.was
    c.if-count-gt-ENTRIES.false
