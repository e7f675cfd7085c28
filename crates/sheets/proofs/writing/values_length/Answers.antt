-- `values_length` meets its contract: a turn adds the length of its line, which is of 20 characters where the value was put, and of 5 otherwise.
use Prim.Native.Nat.{ℕ, ◌<◌, ◌≤◌}
use mathlib.Core.Path.{◌≡◌, sym, ap, ◌∙◌}
use mathlib.Core.Bool.{Bool, true, false, cond}
use native.Mathlib.Omega.{arith}
use lib.ListN.{length}
use lib.Seq.{take_all}
use Rattle.instrument.specs.Values.{values_n, is_put}
use Rattle.instrument.specs.Values.{Kept}
use Rattle.state.specs.Image.{state_in}
use Rattle.sheets.specs.Lines.{lines_by}
use Rattle.sheets.specs.Sheet.{kept_line, value_lines}
use Rattle.sheets.proofs.Keyed.{value_key_long}
use Rattle.sheets.proofs.Linewise.{long_none, long_more, kept_long}
use Rattle.sheets.proofs.Writes.{values_long, value_read}
use Rattle.sheets.proofs.writing.values_length.Goals as goal
use Rattle.sheets.proofs.writing.values_length.Goals.{then-is_put, else-is_put}
use Rattle.std.specs.Prelude.{None}

-- the length of a value's line
put_line : (i : ℕ) (v : Kept) {n : ℕ} → i < values_n → is_put v ≡ true → n ≡ 20 → n ≡ length (kept_line i v)
put_line i v h e q = omega (arith, q, kept_long i v, value_key_long i h, ap {B = ℕ} (λ (b : Bool). cond b 1 0) e)

bare_line : (i : ℕ) (v : Kept) {n : ℕ} → i < values_n → is_put v ≡ false → n ≡ 5 → n ≡ length (kept_line i v)
bare_line i v h e q = omega (arith, q, kept_long i v, value_key_long i h, ap {B = ℕ} (λ (b : Bool). cond b 1 0) e)

pub loop-i-init : goal.loop-i-init
loop-i-init c = (sym (long_none value_lines (state_in c.args.image.now).values), omega arith)

pub overflow_add-n : goal.overflow_add-n
overflow_add-n c = elim c.if-is_put.branch [ then-is_put w ↦ omega (arith, w.n-is) | else-is_put w ↦ omega (arith, w.n-is) ]

pub loop-i-preserved : goal.loop-i-preserved
loop-i-preserved c =
    let im = c.requires in
    let i = c.loop-i.i in
    let v = c.value_in.result in
    let here = c.loop-i-test.true in
    let values = (state_in c.args.image.now).values in
    let long : c.if-is_put.n ≡ length (kept_line i v) =
    elim c.if-is_put.branch [
      | then-is_put w ↦ put_line i v here (sym c.is_put.ensures ∙ w.if-is_put.true) w.n-is
      | else-is_put w ↦ bare_line i v here (sym c.is_put.ensures ∙ w.if-is_put.false) w.n-is
    ] in
    let few : c.if-is_put.n ≤ 20 = elim c.if-is_put.branch [ then-is_put w ↦ omega (arith, w.n-is) | else-is_put w ↦ omega (arith, w.n-is) ] in
    let more = long_more value_lines values i None (omega (arith, here, values_long im)) in
    let line = ap length (value_read im i v here c.value_in.ensures) in
    (omega (arith, long, more, line, c.loop-i.invariant.0), omega (arith, few, c.loop-i.invariant.1))

pub returns : goal.returns
returns c =
    let i = c.loop-i.i in
    let values = (state_in c.args.image.now).values in
    let past : length values ≤ i = omega (arith, c.loop-i-test.false, values_long c.requires) in
    c.loop-i.invariant.0 ∙ ap (λ t. length (lines_by value_lines 0 t)) (take_all i values past)
