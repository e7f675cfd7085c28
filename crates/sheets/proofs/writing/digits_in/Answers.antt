-- `digits_in` meets its contract: a number below 1000 has one digit, two or three.
use Rattle.std.proofs.Common.{sym, arith}
use Rattle.sheets.proofs.Linewise.{one_digit, two_digits, three_digits, digits_as}
use Rattle.sheets.proofs.writing.digits_in.Goals as goal

pub returns-then-number-lt10 : goal.returns-then-number-lt10
returns-then-number-lt10 c = let n = c.args.number in (sym (digits_as n (one_digit n (omega arith))), omega arith)

pub returns-then-number-lt100 : goal.returns-then-number-lt100
returns-then-number-lt100 c = let n = c.args.number in (sym (digits_as n (two_digits n (omega arith) (omega arith))), omega arith)

pub returns : goal.returns
returns c = let n = c.args.number in (sym (digits_as n (three_digits n (omega arith) (omega arith))), omega arith)
