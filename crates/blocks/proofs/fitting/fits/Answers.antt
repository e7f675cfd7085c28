-- What `fits` returns: each is what the checks passed so far, and the one that fails, leave of the word.
use mathlib.Core.Path.{◌≡◌, sym, ◌∙◌}
use mathlib.Core.Bool.{true, false}
use Rattle.std.specs.Prelude.{Ok, is_some}
use Rattle.std.proofs.Common.{arith, ◌<◌, ◌+◌, length}
use Rattle.units.specs.Information.{sign_of}
use Rattle.words.specs.Records.{width}
use Rattle.words.specs.Reading.{pos}
use Rattle.blocks.proofs.Fit.{word_checked}
use Rattle.blocks.proofs.fitting.fits.Goals as goal

pub returns-then-not-info_right : goal.returns-then-not-info_right
returns-then-not-info_right c =
    let a = c.args in
    let long : 7 + width a.wide < length a.s.now = omega (arith, c.width_of-end.ensures) in
    let is : c.index_at.result ≡ Ok (c.in-Ok.index, c.in-Ok.kind) = c.in-Ok.is ∙ cc in
    sym (word_checked a.family a.wide a.s.now long ∙ rw (← c.index_at.ensures, is, ← c.lead_of.ensures, ← c.info_right.ensures, c.if-not-info_right.true))

pub returns-then-is_none : goal.returns-then-is_none
returns-then-is_none c =
    let a = c.args in
    let long : 7 + width a.wide < length a.s.now = omega (arith, c.width_of-end.ensures) in
    let is : c.index_at.result ≡ Ok (c.in-Ok.index, c.in-Ok.kind) = c.in-Ok.is ∙ cc in
    let none : is_some c.sign_at.result ≡ false = grind arith in
    sym (word_checked a.family a.wide a.s.now long ∙ rw (← c.index_at.ensures, is, ← c.lead_of.ensures, ← c.info_right.ensures, c.if-not-info_right.false, ← c.sign_at.ensures, none))

pub returns-then-not-spelt_at : goal.returns-then-not-spelt_at
returns-then-not-spelt_at c =
    let a = c.args in
    let long : 7 + width a.wide < length a.s.now = omega (arith, c.width_of-end.ensures) in
    let is : c.index_at.result ≡ Ok (c.in-Ok.index, c.in-Ok.kind) = c.in-Ok.is ∙ cc in
    let some : is_some c.sign_at.result ≡ true = grind arith in
    sym (word_checked a.family a.wide a.s.now long ∙ rw (← c.index_at.ensures, is, ← c.lead_of.ensures, ← c.info_right.ensures, c.if-not-info_right.false, ← c.sign_at.ensures, some, ← c.spelt_at.ensures, c.if-not-spelt_at.true))

pub returns-then-parted_at : goal.returns-then-parted_at
returns-then-parted_at c =
    let a = c.args in
    let long : 7 + width a.wide < length a.s.now = omega (arith, c.width_of-end.ensures) in
    let is : c.index_at.result ≡ Ok (c.in-Ok.index, c.in-Ok.kind) = c.in-Ok.is ∙ cc in
    let some : is_some c.sign_at.result ≡ true = grind arith in
    c.ranged_at.ensures c.in-Ok.index (sign_of (pos 7 a.s.now)) ∙ sym (word_checked a.family a.wide a.s.now long ∙ rw (← c.index_at.ensures, is, ← c.lead_of.ensures, ← c.info_right.ensures, c.if-not-info_right.false, ← c.sign_at.ensures, some, ← c.spelt_at.ensures, c.if-not-spelt_at.false, ← c.width_of-end.ensures, ← c.parted_at.ensures, c.if-parted_at.true))

pub returns-else-parted_at : goal.returns-else-parted_at
returns-else-parted_at c =
    let a = c.args in
    let long : 7 + width a.wide < length a.s.now = omega (arith, c.width_of-end.ensures) in
    let is : c.index_at.result ≡ Ok (c.in-Ok.index, c.in-Ok.kind) = c.in-Ok.is ∙ cc in
    let some : is_some c.sign_at.result ≡ true = grind arith in
    c.if-parted_at.false ∙ sym (word_checked a.family a.wide a.s.now long ∙ rw (← c.index_at.ensures, is, ← c.lead_of.ensures, ← c.info_right.ensures, c.if-not-info_right.false, ← c.sign_at.ensures, some, ← c.spelt_at.ensures, c.if-not-spelt_at.false, ← c.width_of-end.ensures, ← c.parted_at.ensures, c.if-parted_at.false))
