-- The loop of `number`: n and the bytes that are left say what all of them say, and n has no more digits than were read.
use Rattle.std.proofs.Common.{◌≡◌, ◌<◌, ◌≤◌, length, drop}
use Prim.Native.Nat.{◌^◌}
use Rattle.figures.specs.Bytes.{every}
use Rattle.figures.specs.Decimal.{is_digit, number_from, number_of}
use Rattle.figures.proofs.number.Given as goal

abbrev pub invariant-loop-b : goal.invariant-loop-b
invariant-loop-b l =
    record {
      few : length l.s ≤ 16;
      small : l.n < 10 ^ l.b-index;
      says : number_of l.s ≡ number_from l.n (drop l.b-index l.s);
      are : every is_digit l.s ≡ every is_digit (drop l.b-index l.s);
    }
