-- `entry_length` meets its contract: a setting's key and the digits of its parameter, or a value's characters.
use Rattle.std.proofs.Common.{ℕ, Bool, cond, sym, ap, ◌∙◌, arith}
use Rattle.figures.specs.Decimal.{digits_n}
use Rattle.sheets.specs.Keeping.{key_length}
use Rattle.sheets.proofs.Keyed.{key_held}
use Rattle.sheets.proofs.UndoWrites.{setting_line_long, stored_line_long}
use Rattle.sheets.proofs.writing.entry_length.Goals as goal

pub returns-in-Setting-clause-long : goal.returns-in-Setting-clause-long
returns-in-Setting-clause-long c =
    let long = c.key_length.ensures ∙ ap key_length (c.key_at-key.ensures ∙ ap (key_held c.args.series) c.from.ensures) in
    let digits = c.digits_in.ensures.0 ∙ ap digits_n c.from-in-Setting.ensures in
    omega (arith, long, digits, setting_line_long c.args.series c.args.entry _ c.in-Setting.is)

pub returns-in-Stored-clause-long : goal.returns-in-Stored-clause-long
returns-in-Stored-clause-long c =
    let put = ap {B = ℕ} (λ (b : Bool). cond b 1 0) (sym c.is_put.ensures ∙ c.if-is_put.true) in
    omega (arith, put, stored_line_long c.args.series c.args.entry _ c.requires c.in-Stored.is)

pub returns-in-Stored-2-clause-long : goal.returns-in-Stored-2-clause-long
returns-in-Stored-2-clause-long c =
    let never = ap {B = ℕ} (λ (b : Bool). cond b 1 0) (sym c.is_put.ensures ∙ c.if-is_put.false) in
    omega (arith, never, stored_line_long c.args.series c.args.entry _ c.requires c.in-Stored.is)
