-- The line of the word that stands there.
use Rattle.std.proofs.Common.{◌≡◌, ◌-◌, Result, Ok, Err, length, arith}
use mathlib.Core.Path.{refl, ap, ◌∙◌}
use lib.ListN.{take, drop, length-drop}
use lib.Seq.{take_all}
use Rattle.std.specs.Result.{result_unwrap_or}
use Rattle.words.specs.Records.{blank}
use Rattle.words.specs.Reading.{word_of, word_in}
use Rattle.words.specs.declared.reading.Wrong.{Wrong}
use Rattle.words.specs.declared.records.Word.{Word}
use Rattle.reports.specs.Piece.{word_text}
use Rattle.figures.proofs.Putting.{fills_as}
use Rattle.reports.proofs.piece.put_word_at.Goals as goal

word_or : (o : Result Word Wrong) → result_unwrap_or o blank ≡ word_in o
word_or (Ok w) = refl
word_or (Err e) = refl

pub returns : goal.returns
returns c =
    let a = c.args in
    let rest = drop a.place a.piece.now in
    let whole : take (length a.piece.now - a.place) rest ≡ rest = take_all (length a.piece.now - a.place) rest (omega (arith, length-drop a.place a.piece.now)) in
    let read : c.unwrap_or-word.result ≡ result_unwrap_or (word_of a.family a.wide rest) blank =
    rw (c.blank_word.ensures, c.read_word.ensures, whole) at c.unwrap_or-word.ensures in
    let word : c.unwrap_or-word.result ≡ word_in (word_of a.family a.wide rest) = read ∙ word_or (word_of a.family a.wide rest) in
    fills_as c.put_word.ensures (ap (word_text a.family a.number a.wide) word)
