-- The four parts stand one after the other.
use Rattle.std.proofs.KnownBytes.{Appends-trans}
use Rattle.streams.proofs.telling.tell_error.Goals as goal

pub returns : goal.returns
returns g c =
    let end = Appends-trans _ _ _ _ _ c.in_ok-write_all-3.ensures.whole c.in_ok-write_all-4.ensures.whole in
    let rest = Appends-trans _ _ _ _ _ c.in_ok-write_all-2.ensures.whole end in
    (_, Appends-trans _ _ _ _ _ c.in_ok-write_all.ensures.whole rest)
