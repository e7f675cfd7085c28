-- What `read_data` returns: `data_word`, check by check.
use Rattle.std.proofs.Common.{arith, ◌≡◌, Some, None, get_or, sym, ◌∙◌}
use Rattle.std.proofs.lemmas.Result.{err_from_is_err_and}
use Rattle.words.specs.Reading.{wrong_at}
use Rattle.words.specs.declared.reading.Fault.TheVariants.{Value}
use Rattle.words.proofs.Checks.{data_read}
use Rattle.words.proofs.reading.read_data.Goals as goal

pub returns-in_default : goal.returns-in_default
returns-in_default c =
    let a = c.args in
    sym (data_read a.index a.kind a.info (get_or a.info 3 0) a.minus a.s.now a.last c.requires.0 c.requires.1
    ∙ rw (← c.spelled_at.ensures, c.in_default.is, ← c.data_wrong.ensures.0, ← c.new.ensures))

pub returns-then-not-parted_at : goal.returns-then-not-parted_at
returns-then-not-parted_at c =
    let a = c.args in
    sym (data_read a.index a.kind a.info (get_or a.info 3 0) a.minus a.s.now a.last c.requires.0 c.requires.1
    ∙ rw (← c.spelled_at.ensures, c.in-Some.is, ← c.parted_at.ensures, c.if-not-parted_at.true, ← c.new-then-not-parted_at.ensures))

pub returns-in_err-count : goal.returns-in_err-count
returns-in_err-count c =
    let a = c.args in
    let p = err_from_is_err_and c.from_residual.result c.from_residual.ensures.1 in
    let none : c.value_at.result ≡ None = grind arith in
    let told : p.0 ≡ wrong_at Value 7 = grind arith in
    rw (p.1, told)
    (sym (data_read a.index a.kind a.info (get_or a.info 3 0) a.minus a.s.now a.last c.requires.0 c.requires.1
    ∙ rw (← c.spelled_at.ensures, c.in-Some.is, ← c.parted_at.ensures, c.if-not-parted_at.false, ← c.value_at.ensures, none)))

pub returns : goal.returns
returns c =
    let a = c.args in
    let some : c.value_at.result ≡ Some c.in_ok-count.count = grind arith in
    sym (data_read a.index a.kind a.info (get_or a.info 3 0) a.minus a.s.now a.last c.requires.0 c.requires.1
    ∙ rw (← c.spelled_at.ensures, c.in-Some.is, ← c.parted_at.ensures, c.if-not-parted_at.false, ← c.value_at.ensures, some, ← c.text_of.ensures, ← c.record_of.ensures))
