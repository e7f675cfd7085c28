-- The printer begins at the file's start, and what it wrote is what is printed of the file.
use Rattle.std.proofs.Common.{rules, [], ap, sym, replicate}
use Rattle.files.proofs.Taking.{on_ok_too, on_either}
use Rattle.reading.specs.declared.turns.Progress.{Progress}
use Rattle.reading.specs.Turns.{begun, after_bytes, standing_at}
use Rattle.reading.proofs.Laws.{whole_written, start_written, whole_started}
use Rattle.reading.proofs.run.Goals as goal

pub feed_file-requires : goal.feed_file-requires
unfolding begun after_bytes
feed_file-requires g c = ([], ap (λ (p : Progress). standing_at (replicate 800 0) p (replicate 5367 0)) (sym c.start.ensures))

pub returns-clause-whole : goal.returns-clause-whole
unfolding begun
returns-clause-whole g c =
    let begins = ap (λ (p : Progress). standing_at (replicate 800 0) p (replicate 5367 0)) c.start.ensures in
    let all = on_ok_too c.feed_file.result (whole_written _ _ _ _ _ begins) c.feed_file.ensures.whole in search rules

pub returns-clause-start : goal.returns-clause-start
unfolding begun
returns-clause-start g c =
    let begins = ap (λ (p : Progress). standing_at (replicate 800 0) p (replicate 5367 0)) c.start.ensures in
    let all = on_either c.feed_file.result c.feed_file.ensures.whole c.feed_file.ensures.breaks
    (λ p. whole_started _ _ _ _ (whole_written _ _ _ _ _ begins p))
    (λ p. start_written _ _ _ _ _ begins p) in search rules
