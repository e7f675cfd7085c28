-- What `read` asks of `fill`: the block's words are no more than the list's places; and what it returns of a block that is refused.
use Prim.Native.Nat.{ℕ, ◌≤◌, ◌<◌}
use mathlib.Core.Path.{◌≡◌, refl, sym, ap, ◌∙◌}
use mathlib.Core.List.{List, ◌++◌}
use native.Mathlib.Omega.{arith}
use lib.ListN.{length, get_or, take, drop}
use lib.Seq.{length-take-le}
use Rattle.std.specs.Prelude.{Ok, Err}
use Rattle.std.proofs.lemmas.List.{ext_get_or}
use Rattle.std.proofs.lemmas.Result.{err_from_is_err_and}
use Rattle.units.specs.declared.kinds.Family.{Family}
use Rattle.words.specs.Records.{blank}
use Rattle.words.specs.Reading.{judged_in, right_word, word_in, word_of}
use Rattle.words.specs.declared.records.Word.{Word}
use Rattle.blocks.specs.declared.answers.Reading.{Reading}
use Rattle.blocks.specs.declared.answers.Refusal.{Refusal}
use Rattle.blocks.specs.Judging.{Answer, judged, filled}
use Rattle.blocks.specs.Lists.{Reads}
use Rattle.blocks.specs.Rules.{word_start}
use Rattle.blocks.proofs.Refused.{read_refused}
use Rattle.blocks.proofs.Taken.{taken_few, taken_count, taken_word}
use Rattle.blocks.proofs.lists.read.Goals as goal

module _ (f : Family) (s : List ℕ) (list : List Word) {a : Answer} (e : a ≡ (judged f s (length list)).answer) where
  read_none : {x : Refusal} → a ≡ Err x → Reads f s list (Err x) list
  read_none {x} is =
      let j = judged f s (length list) in
      (sym is ∙ e, sym (read_refused f s list {r = j.answer} {list' = filled j.words list} (refl, refl) x (sym e ∙ is)))

  module _ {r : Reading} (is : a ≡ Ok r) where
    told : (judged f s (length list)).answer ≡ Ok r
    told = sym e ∙ is

    few : r.words ≤ length list
    few = (taken_few f s (length list) r told).1

    long : length (take r.words list) ≡ r.words
    long = length-take-le r.words list few

    words : (k : ℕ) → k < length (take r.words list) → word_of f r.wide (drop (word_start r.wide k) s) ≡ right_word (get_or (judged f s (length list)).words k blank)
    words k h = taken_word f s (length list) r told k (omega (arith, long))

    -- the part that is filled is the block's words
    read_all : (part : List Word) → length part ≡ length (take r.words list)
        → ((k : ℕ) → k < length (take r.words list) → get_or part k blank ≡ word_in (word_of f r.wide (drop (word_start r.wide k) s)))
        → Reads f s list (Ok r) (part ++ drop r.words list)
    read_all part size each =
        let count = taken_count f s (length list) r told in
        let same : part ≡ (judged f s (length list)).words =
        ext_get_or blank part (judged f s (length list)).words (omega (arith, size, long, count))
        (λ k h. each k (omega (arith, size)) ∙ ap word_in (words k (omega (arith, size)))) in
        (sym is ∙ e, rw (same, count))

pub returns-in_err-reading : goal.returns-in_err-reading
returns-in_err-reading c =
    let p = err_from_is_err_and c.from_residual.result c.from_residual.ensures.1 in
    rw (p.1, p.2) (read_none c.args.family c.args.s.now c.args.list.now c.judge.ensures c.in_err-reading.was)

pub slice_bounds-fill-end : goal.slice_bounds-fill-end
slice_bounds-fill-end c = few c.args.family c.args.s.now c.args.list.now c.judge.ensures c.in_ok-reading.was

pub slice_bounds-fill-end-2 : goal.slice_bounds-fill-end-2
slice_bounds-fill-end-2 c = sym (long c.args.family c.args.s.now c.args.list.now c.judge.ensures c.in_ok-reading.was)

pub fill-requires : goal.fill-requires
fill-requires c = λ k h. ap judged_in (words c.args.family c.args.s.now c.args.list.now c.judge.ensures c.in_ok-reading.was k h)

pub returns : goal.returns
returns c =
    read_all c.args.family c.args.s.now c.args.list.now c.judge.ensures c.in_ok-reading.was c.fill.new.list c.fill.auto.list c.fill.ensures
