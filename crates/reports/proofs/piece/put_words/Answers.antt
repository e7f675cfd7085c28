-- The word at i starts i words after the first; and what is put of each is its line.
use Rattle.std.proofs.Common.{◌≡◌, ◌<◌, ◌≤◌, ◌+◌, ◌*◌, ℕ, length, arith}
use mathlib.Core.Path.{refl, ap, ◌∙◌}
use lib.ListN.{drop}
use lib.Seq.{take-length}
use Rattle.words.specs.Records.{blank}
use Rattle.words.specs.Reading.{word_of, word_in}
use Rattle.blocks.specs.Judging.{judged}
use Rattle.blocks.specs.Rules.{word_start}
use Rattle.reports.specs.Piece.{word_text, words_text}
use Rattle.figures.proofs.Putting.{fills_as, fills_more, fills_nothing, puts_within}
use Rattle.reports.proofs.Words.{words_more}
use Rattle.reports.proofs.Standing.{counted, few, starts_inside, word_is, place_small}
use Rattle.reports.proofs.piece.put_words.Goals as goal

pub loop-i-init : goal.loop-i-init
unfolding words_text
loop-i-init c = record { put = fills_nothing c.put.new.self (puts_within _ _ _ c.put.ensures.puts) }

pub put_word_at-requires : goal.put_word_at-requires
put_word_at-requires c =
    let a = c.args in
    let i = c.loop-i.i in
    rw (c.start_of-start.ensures, c.width_of-size.ensures) (starts_inside a.family a.piece.now a.reading c.requires i (omega (arith, counted a.family a.piece.now a.reading c.requires)))

pub overflow_mul-i : goal.overflow_mul-i
overflow_mul-i c =
    let a = c.args in
    let most : c.loop-i.i ≤ 32 = omega (arith, counted a.family a.piece.now a.reading c.requires, few a.family a.piece.now a.reading c.requires) in
    rw c.width_of-size.ensures (omega (arith, place_small a.reading.wide c.loop-i.i most))

pub overflow_add-start : goal.overflow_add-start
overflow_add-start c =
    let a = c.args in
    let most : c.loop-i.i ≤ 32 = omega (arith, counted a.family a.piece.now a.reading c.requires, few a.family a.piece.now a.reading c.requires) in
    rw (c.start_of-start.ensures, c.width_of-size.ensures) (omega (arith, place_small a.reading.wide c.loop-i.i most))

pub loop-i-preserved : goal.loop-i-preserved
loop-i-preserved c =
    let a = c.args in
    let l = c.loop-i in
    let wide = a.reading.wide in
    let ws = (judged a.family a.piece.now 32).words in
    let here : l.i < length ws = omega (arith, counted a.family a.piece.now a.reading c.requires) in
    let starts : c.start_of-start.result + l.i * (c.width_of-size.result + 8) ≡ word_start wide l.i = rw (c.start_of-start.ensures, c.width_of-size.ensures) refl in
    let word = ap (λ (n : ℕ). word_in (word_of a.family wide (drop n a.piece.now))) starts ∙ word_is a.family a.piece.now a.reading c.requires l.i here in
    let line = fills_as c.put_word_at.ensures (ap (word_text a.family (l.i + 1) wide) word) in
    record { put = words_more a.family wide ws l.i blank here l.invariant.put line }

pub returns : goal.returns
returns c =
    let a = c.args in
    let end : c.loop-i.i ≡ length (judged a.family a.piece.now 32).words = omega (arith, counted a.family a.piece.now a.reading c.requires) in
    fills_more c.put.ensures (rw (end, take-length) at c.loop-i.invariant.put)
