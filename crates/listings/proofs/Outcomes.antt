-- What an answer of mending says of the mended bytes: done, or refused by the reader, by the room or by the list.
use Prim.Native.Nat.{ℕ, ◌≤◌, ◌<◌}
use mathlib.Core.Path.{◌≡◌, refl, sym, ap}
use mathlib.Core.Bool.{Bool, true, false, cond}
use mathlib.Core.List.{List}
use borrow.Author.Tests.{ltb-false, lt-ltb, le-ltb}
use lib.Dec.{ltb}
use lib.ListN.{length}
use Rattle.std.proofs.Common.{Err, Ok}
use Rattle.figures.specs.Bytes.{laid}
use Rattle.figures.proofs.Tests.{clash}
use Rattle.blocks.specs.declared.answers.Refusal.{Refusal}
use Rattle.blocks.specs.declared.answers.Refusal.TheVariants.{Room, NoPlace}
use Rattle.blocks.specs.declared.answers.Reading.{Reading}
use Rattle.blocks.specs.Judging.{Answer}
use Rattle.listings.specs.declared.mending.Mended.{Mended}
use Rattle.listings.specs.Mending.{Mending}
use Rattle.listings.specs.Outcome.{mended_as, Outcome, refused_mend, outcome_by}

-- the outcome of what reads and fits
abbrev pub done_mend : Mending → List ℕ → Outcome
done_mend m room = record { answer = mended_as (length m.bytes) (length m.edits); room = laid m.bytes room; edits = m.edits }

-- the outcome of what reads, by whether it is too long for the room and its edits too many for the list
abbrev end_of : Bool → Bool → Mending → List ℕ → Outcome
end_of short crowded m room =
    cond short (refused_mend room (Room (length m.bytes))) (cond crowded (refused_mend room (NoPlace (length m.edits))) (done_mend m room))

-- by what the reader answered, a, of the mended bytes

pub record DoneBy (a : Answer) (m : Mending) (room : List ℕ) (places n k : ℕ) : Type 0 where
  pub reading : Reading
  pub reads : a ≡ Ok reading
  pub bytes : n ≡ length m.bytes
  pub edits : k ≡ length m.edits
  pub fits : length m.bytes ≤ length room
  pub placed : length m.edits ≤ places

pub done_by : (a : Answer) (m : Mending) (room : List ℕ) (places n k : ℕ) → (outcome_by a m room places).answer ≡ mended_as n k → DoneBy a m room places n k
done_by (Err x) m room places n k e = absurd (clash (cc))
done_by (Ok r) m room places n k e = by (ltb (length room) (length m.bytes)) (ltb places (length m.edits)) refl refl e
  where
    by : (short crowded : Bool) → ltb (length room) (length m.bytes) ≡ short → ltb places (length m.edits) ≡ crowded
        → (end_of short crowded m room).answer ≡ mended_as n k
        → DoneBy (Ok r) m room places n k
    by true crowded long many e = absurd (clash (cc))
    by false true long many e = absurd (clash (cc))
    by false false long many e =
        let same : ◌≡◌ {A = Mended} (record { bytes = length m.bytes; edits = length m.edits }) (record { bytes = n; edits = k }) = cc in record {
          reading = r;
          reads = refl;
          bytes = sym (ap (λ (d : Mended). d.bytes) same);
          edits = sym (ap (λ (d : Mended). d.edits) same);
          fits = ltb-false (length room) (length m.bytes) long;
          placed = ltb-false places (length m.edits) many;
        }

pub fits_done : (a : Answer) (m : Mending) (room : List ℕ) (places : ℕ) (r : Reading) → a ≡ Ok r → length m.bytes ≤ length room
    → length m.edits ≤ places → outcome_by a m room places ≡ done_mend m room
fits_done a m room places r e fits placed = rw (e, le-ltb (length room) (length m.bytes) fits, le-ltb places (length m.edits) placed)

-- "Refusals: the reader's number, its place counted in the mended bytes; then 14; then 11"

pub refused_read : (a : Answer) (m : Mending) (room : List ℕ) (places : ℕ) (x : Refusal) → a ≡ Err x → outcome_by a m room places ≡ refused_mend room x
refused_read a m room places x e = rw e

pub refused_room : (a : Answer) (m : Mending) (room : List ℕ) (places : ℕ) (r : Reading) → a ≡ Ok r → length room < length m.bytes
    → outcome_by a m room places ≡ refused_mend room (Room (length m.bytes))
refused_room a m room places r e short = rw (e, lt-ltb (length room) (length m.bytes) short)

pub refused_list : (a : Answer) (m : Mending) (room : List ℕ) (places : ℕ) (r : Reading) → a ≡ Ok r → length m.bytes ≤ length room
    → places < length m.edits → outcome_by a m room places ≡ refused_mend room (NoPlace (length m.edits))
refused_list a m room places r e fits crowded = rw (e, le-ltb (length room) (length m.bytes) fits, lt-ltb places (length m.edits) crowded)

-- whatever refuses leaves the room, and tells no edit
pub refused_as : (a : Answer) (m : Mending) (room : List ℕ) (places : ℕ) (x : Refusal) → (outcome_by a m room places).answer ≡ Err x
    → outcome_by a m room places ≡ refused_mend room x
refused_as (Err y) m room places x e = let same : y ≡ x = cc in rw same
refused_as (Ok r) m room places x e = by (ltb (length room) (length m.bytes)) (ltb places (length m.edits)) e
  where
    by : (short crowded : Bool) → (end_of short crowded m room).answer ≡ Err x → end_of short crowded m room ≡ refused_mend room x
    by true crowded e = let same : Room (length m.bytes) ≡ x = cc in rw same
    by false true e = let same : NoPlace (length m.edits) ≡ x = cc in rw same
    by false false e = absurd (clash (cc))
