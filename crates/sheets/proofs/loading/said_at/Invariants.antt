-- The loop's invariant of `said_at`: what is said turns on the digits that are left and the number that those before them say.
use Rattle.std.proofs.Common.{◌≡◌, ◌<◌, ◌^◌, ◌+◌, drop}
use Rattle.sheets.specs.Keeping.{said_of}
use Rattle.sheets.proofs.Takes.{said_from}
use Rattle.sheets.proofs.loading.said_at.Given as goal

abbrev pub invariant-loop-i : goal.invariant-loop-i
invariant-loop-i l = record {
  small : l.number < 10 ^ l.i;
  said : said_of (drop l.start l.s) ≡ said_from l.number l.i (drop (l.start + l.i) l.s);
}
