-- PUT of another length.
use Rattle.std.proofs.Common.{◌≡◌, false, eqb, length, arith}
use borrow.Author.Tests.{ne_eqb}
use Rattle.figures.proofs.Bytes.{starts_strip}
use Rattle.commands.proofs.shapes.order_of.Goals as goal

pub returns-then-starts : goal.returns-then-starts
returns-then-starts c =
    let no : eqb (length c.args.text.now) 20 ≡ false = ne_eqb (length c.args.text.now) 20 (λ e. omega arith) in
    grind (arith, starts_strip)
