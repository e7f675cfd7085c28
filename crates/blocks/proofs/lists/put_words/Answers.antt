-- `put_words` meets its contract: each turn lays the next record's bytes after those so far, for which there is room.
use Rattle.std.proofs.Common.{arith, ◌≤◌, [], length, sym, ap, ◌∙◌, get_or}
use lib.Seq.{take_all}
use Rattle.words.specs.Writing.{bytes_of}
use Rattle.words.specs.declared.records.Word.{Word}
use Rattle.blocks.specs.Rules.{word_start}
use Rattle.blocks.specs.Keeping.{laid_at}
use Rattle.blocks.proofs.Sound.{laid_none, laid_word, right_here, fits_here}
use Rattle.blocks.proofs.lists.put_words.Goals as goal

-- a record with nothing in it: what a place past a list's end reads as
abbrev blank : Word
blank = record { index = 0; info = []; minus = 0; mmminus = 0; size = 0; mm = 0; text = [] }

pub loop-i-init : goal.loop-i-init
loop-i-init c = let a = c.args in sym (laid_none a.family a.wide a.list.now a.out.now c.requires)

pub put_at-requires : goal.put_at-requires
put_at-requires c =
    let a = c.args in
    let i = c.loop-i.i in
    let less = c.loop-i-test.true in (
      right_here a.family a.wide a.list.now a.out.now c.requires i blank less,
      rw c.loop-i.invariant (fits_here a.family a.wide a.list.now a.out.now c.requires i blank less),
    )

pub loop-i-preserved : goal.loop-i-preserved
loop-i-preserved c =
    let a = c.args in
    let i = c.loop-i.i in
    let bytes = bytes_of a.family a.wide (get_or a.list.now i blank) in
    let next = laid_word a.family a.wide a.list.now a.out.now c.requires i blank c.loop-i-test.true in
    c.put_at.ensures ∙ (ap (laid_at (word_start a.wide i) bytes) c.loop-i.invariant ∙ next)

pub returns : goal.returns
returns c =
    let l = c.args.list.now in
    let all : length l ≤ c.loop-i.i = omega arith in
    c.loop-i.invariant ∙ rw (take_all c.loop-i.i l all)
