-- `said_at` meets its contract: a digit more, or the end where none follows.
use Rattle.std.proofs.Common.{◌≡◌, ℕ, ◌+◌, get_or, sym, ap, ◌∙◌, arith}
use Rattle.figures.proofs.Bytes.{within_bounds}
use Rattle.figures.proofs.Decimal.{one_digit_more}
use Rattle.sheets.proofs.Takes.{said_more, said_past, said_other, said_all}
use Rattle.sheets.proofs.loading.said_at.Goals as goal
use Rattle.sheets.proofs.loading.said_at.Goals.{then-s-at-via-then-s-at, then-s-at-via-else-s-at+then-not-digit}

pub returns-then-s-at-clause-said : goal.returns-then-s-at-clause-said
returns-then-s-at-clause-said c =
    let n = c.loop-i.number in
    let i = c.loop-i.i in
    elim c.then-s-at.branch [
      | then-s-at-via-then-s-at w ↦ sym (c.loop-i.invariant.said ∙ said_past n i c.args.s.now (c.args.start + i) w.if-s-at.true)
      | then-s-at-via-else-s-at+then-not-digit w ↦ sym (c.loop-i.invariant.said ∙ said_other n i c.args.s.now (c.args.start + i) (sym w.digit.ensures ∙ w.if-not-digit.true))
    ]

pub loop-i-preserved : goal.loop-i-preserved
loop-i-preserved c =
    let digit = sym c.digit.ensures ∙ c.if-not-digit.false in
    let bounds = within_bounds 48 57 (get_or c.args.s.now (c.args.start + c.loop-i.i) 0) digit in
    let more = said_more c.loop-i.number c.loop-i.i c.args.s.now _ c.loop-i-test.true c.if-s-at.false digit in
    record {
      small = one_digit_more c.loop-i.number c.from.result c.loop-i.i (omega (arith, bounds)) c.loop-i.invariant.small;
      said = let next : c.args.start + (c.loop-i.i + 1) ≡ c.args.start + c.loop-i.i + 1 = omega arith in rw (c.from.ensures, next) (c.loop-i.invariant.said ∙ more);
    }

pub returns-clause-said : goal.returns-clause-said
returns-clause-said c =
    let n = c.loop-i.number in
    let i : c.loop-i.i ≡ 3 = omega arith in
    ap (λ (d : ℕ). record { number = n; digits = d }) (sym i)
    ∙ sym (c.loop-i.invariant.said ∙ said_all n c.loop-i.i c.args.s.now (c.args.start + c.loop-i.i) (omega arith))
