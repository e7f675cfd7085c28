-- The promises of this crate's public functions determine what comes out.
use Prim.Native.Nat.{ℕ}
use mathlib.Core.Path.{◌≡◌}
use mathlib.Core.List.{List}
use Rattle.figures.specs.Promises.{Determined}
use Rattle.figures.specs.Rooms.{Puts}
use Rattle.figures.proofs.Determined.{put_determined}
use Rattle.units.specs.declared.kinds.Family.{Family}
use Rattle.errata.specs.declared.Told.{Told}
use Rattle.errata.specs.Errata.{block_of, told_of, Tells, tally_text}

-- a line's number, its bytes and two rooms go in; the two counts, what became of the line and the rooms come out
pub tell_determined : (f : Family)
    → Determined (ℕ × List ℕ × List ℕ × List ℕ) (Told × List ℕ × List ℕ) (λ i o. Tells f i.0 i.1 i.2 i.3 o.0 o.1 o.2)
tell_determined f i a b p q =
    let block = put_determined (i.2, 0, block_of f i.1) (a.0.bytes, a.1) (b.0.bytes, b.1) p.0 q.0 in
    let told = put_determined (i.3, 0, told_of f i.0 i.1) (a.0.count, a.2) (b.0.count, b.2) p.1.0 q.1.0 in
    let fate : a.0.fate ≡ b.0.fate = cc in
    λ k. (record { bytes = (block k).0; count = (told k).0; fate = fate k }, (block k).1, (told k).1)

-- the four counts and a room go in; the count of bytes and the room come out
pub tally_determined : Determined (ℕ × ℕ × ℕ × ℕ × List ℕ) (ℕ × List ℕ) (λ i o. Puts i.4 0 (tally_text i.0 i.1 i.2 i.3) o.0 o.1)
tally_determined i = put_determined (i.4, 0, tally_text i.0 i.1 i.2 i.3)
