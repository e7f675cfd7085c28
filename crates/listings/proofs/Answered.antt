-- The outcome of mending by what the walk gave and what the reader answered of it.
use Prim.Native.Nat.{ℕ, ◌≤◌}
use mathlib.Core.Path.{◌≡◌, refl, sym, ap, ◌∙◌}
use mathlib.Core.List.{List}
use native.Mathlib.Omega.{arith}
use lib.ListN.{length, take, drop, replicate}
use lib.Seq.{length-take-le, drop_at}
use Rattle.figures.proofs.Bytes.{laid_start, laid_fits}
use Rattle.units.specs.declared.kinds.Family.{Family}
use Rattle.blocks.specs.Judging.{judged}
use Rattle.blocks.specs.Judging.{Answer}
use Rattle.blocks.proofs.Rooms.{room_size, room_length}
use Rattle.listings.specs.declared.walking.Walked.{Walked}
use Rattle.listings.specs.Mending.{Mending, mended}
use Rattle.listings.specs.Outcome.{outcome_by, outcome}
use Rattle.listings.specs.Keeping.{Walks}
use Rattle.listings.proofs.Sizes.{mended_most}

-- what is kept by value is what was mended
module _ (s : List ℕ) (walked : Walked) (bytes : List ℕ) (w : Walks s (replicate 771 0) walked bytes) where
  size : walked.bytes ≡ length (mended s).bytes
  size = ap (λ (x : Walked). x.bytes) w.0

  pub walked_most : walked.bytes ≤ 771
  walked_most = omega (arith, size, mended_most s)

  pub walked_fits : walked.bytes ≤ length bytes
  walked_fits = omega (arith, walked_most, ap length w.1 ∙ room_length (mended s).bytes)

  pub walked_past : (length bytes ≡ 771) × (drop walked.bytes bytes ≡ drop walked.bytes (replicate 771 0))
  walked_past =
      let m = (mended s).bytes in
      let room : List ℕ = replicate 771 0 in
      let fits : length m ≤ length room = omega (arith, mended_most s, room_size) in
      (ap length w.1 ∙ room_length m, rw (w.1, size, laid_fits m room fits) (drop_at m (drop (length m) room) (length m) refl))

  pub walked_size : walked.bytes ≡ length (take walked.bytes bytes)
  walked_size = sym (length-take-le walked.bytes bytes walked_fits)

  part : take walked.bytes bytes ≡ (mended s).bytes
  part = rw (size, w.1) (laid_start (mended s).bytes (replicate 771 0) (omega (arith, mended_most s, room_size)))

  pub walked_is : ◌≡◌ {A = Mending} (record { bytes = take walked.bytes bytes; edits = walked.edits }) (mended s)
  walked_is = λ i. record { bytes = part i; edits = (w.0 i).edits }

  pub by_answer : (f : Family) (room : List ℕ) (places : ℕ) (a : Answer) → a ≡ (judged f (take walked.bytes bytes) 32).answer
      → outcome f s room places ≡ outcome_by a (record { bytes = take walked.bytes bytes; edits = walked.edits }) room places
  by_answer f room places a e =
      ap (λ (m : Mending). outcome_by (judged f m.bytes 32).answer m room places) (sym walked_is)
      ∙ ap (λ b. outcome_by b (record { bytes = take walked.bytes bytes; edits = walked.edits }) room places) (sym e)
