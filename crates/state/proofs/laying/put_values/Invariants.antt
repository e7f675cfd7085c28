-- The loop's invariant: the rows before i are laid down.
use Rattle.std.proofs.Common.{◌≡◌, ◌*◌, length, take}
use Rattle.state.specs.Image.{flat, kept_bytes}
use Rattle.state.proofs.laying.put_values.Given as goal

abbrev pub invariant-loop-i : goal.invariant-loop-i
invariant-loop-i l = (length l.out ≡ length l.initial.out) × (take (l.i * 11) l.out ≡ flat kept_bytes (take l.i l.fn.values))
