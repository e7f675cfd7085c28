-- The promises of this crate's public functions determine what comes out.
use Prim.Native.Nat.{ℕ}
use mathlib.Core.Path.{◌≡◌}
use mathlib.Core.List.{List}
use Rattle.figures.specs.Promises.{Determined}
use Rattle.figures.proofs.Determined.{put_determined}
use Rattle.figures.specs.Rooms.{Puts}
use Rattle.reports.specs.Piece.{field_text, refusal_text, report_of, Reports, tally_text}
use Rattle.units.specs.declared.kinds.Family.{Family}
use Rattle.blocks.specs.declared.answers.Refusal.{Refusal}
use Rattle.reports.specs.declared.piece.Reported.{Reported}

-- a piece's number, its place and its bytes, and a room go in; the count, whether it was accepted, and the room come out
pub report_determined : (f : Family) → Determined (ℕ × ℕ × List ℕ × List ℕ) (Reported × List ℕ) (λ i o. Reports f i.0 i.1 i.2 i.3 o.0 o.1)
report_determined f i a b p q =
    let put = put_determined (i.3, 0, report_of f i.0 i.1 i.2) (a.0.count, a.1) (b.0.count, b.1) p.0 q.0 in
    let accepted : a.0.accepted ≡ b.0.accepted = cc in
    λ k. (record { count = (put k).0; accepted = accepted k }, (put k).1)

-- the three counts and a room go in; the count of bytes and the room come out
pub tally_determined : Determined (ℕ × ℕ × ℕ × List ℕ) (ℕ × List ℕ) (λ i o. Puts i.3 0 (tally_text i.0 i.1 i.2) o.0 o.1)
tally_determined i = put_determined (i.3, 0, tally_text i.0 i.1 i.2)

-- a room, a place in it and what is put there go in; where the next part begins and the room come out
pub put_field_determined : Determined (List ℕ × ℕ × List ℕ × ℕ) (ℕ × List ℕ) (λ i o. Puts i.0 i.1 (field_text i.2 i.3) o.0 o.1)
put_field_determined i = put_determined (i.0, i.1, field_text i.2 i.3)

pub put_refusal_determined : Determined (List ℕ × ℕ × Refusal) (ℕ × List ℕ) (λ i o. Puts i.0 i.1 (refusal_text i.2) o.0 o.1)
put_refusal_determined i = put_determined (i.0, i.1, refusal_text i.2)
