-- The loop of `put_words`: the lines of the words before the i-th are put.
use Rattle.std.proofs.Common.{take}
use Rattle.blocks.specs.Judging.{judged}
use Rattle.figures.specs.Rooms.{Fills}
use Rattle.reports.specs.Piece.{words_text}
use Rattle.reports.proofs.piece.put_words.Given as goal

abbrev pub invariant-loop-i : goal.invariant-loop-i
invariant-loop-i l = record { put : Fills l.initial.room (words_text l.family 1 l.wide (take l.i (judged l.family l.piece 32).words)) l.room }
