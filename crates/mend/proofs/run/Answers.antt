-- The mender begins at the listing's start, and what it wrote is what is put out for the listing.
use Rattle.std.proofs.Common.{rules, [], ap, sym, replicate}
use Rattle.files.proofs.Taking.{on_ok_too, on_err_too, on_either}
use Rattle.mend.specs.declared.turns.Progress.{Progress}
use Rattle.mend.specs.Turns.{begun, after_bytes, standing}
use Rattle.mend.proofs.Laws.{whole_written, broken_written, whole_starts, broken_starts}
use Rattle.mend.proofs.run.Goals as goal

pub feed_file-requires : goal.feed_file-requires
unfolding begun after_bytes
feed_file-requires g c = ([], ap (λ (p : Progress). standing (replicate 800 0) p (replicate 771 0) (replicate 3920 0)) (sym c.start.ensures))

pub returns-clause-whole : goal.returns-clause-whole
unfolding begun
returns-clause-whole g c =
    let begins = ap (λ (p : Progress). standing (replicate 800 0) p (replicate 771 0) (replicate 3920 0)) c.start.ensures in
    let all = on_ok_too c.feed_file.result (whole_written _ _ _ _ _ _ _ begins) c.feed_file.ensures.whole in search rules

pub returns-clause-broken : goal.returns-clause-broken
unfolding begun
returns-clause-broken g c =
    let begins = ap (λ (p : Progress). standing (replicate 800 0) p (replicate 771 0) (replicate 3920 0)) c.start.ensures in
    let all = on_err_too c.feed_file.result (broken_written _ _ _ _ _ _ _ begins) c.feed_file.ensures.breaks in search rules

pub returns-clause-told : goal.returns-clause-told
unfolding begun
returns-clause-told g c =
    let begins = ap (λ (p : Progress). standing (replicate 800 0) p (replicate 771 0) (replicate 3920 0)) c.start.ensures in
    let all = on_either c.feed_file.result c.feed_file.ensures.whole c.feed_file.ensures.breaks
    (λ p. (whole_starts _ _ _ _ _ _ (whole_written _ _ _ _ _ _ _ begins p)).0)
    (λ p. (broken_starts _ _ _ _ _ _ (broken_written _ _ _ _ _ _ _ begins p)).0) in search rules

pub returns-clause-blocks : goal.returns-clause-blocks
unfolding begun
returns-clause-blocks g c =
    let begins = ap (λ (p : Progress). standing (replicate 800 0) p (replicate 771 0) (replicate 3920 0)) c.start.ensures in
    let all = on_either c.feed_file.result c.feed_file.ensures.whole c.feed_file.ensures.breaks
    (λ p. (whole_starts _ _ _ _ _ _ (whole_written _ _ _ _ _ _ _ begins p)).1)
    (λ p. (broken_starts _ _ _ _ _ _ (broken_written _ _ _ _ _ _ _ begins p)).1) in search rules
