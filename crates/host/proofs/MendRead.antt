-- What `gsi_mend` or `gsi_mend_level` wrote is read by `gsi_read` or `gsi_read_level`, all of it, and mended again it is itself with no edits.
use Prim.Native.Nat.{ℕ, ◌≤◌, ◌<◌}
use mathlib.Core.Path.{◌≡◌, sym, ap, ◌∙◌}
use mathlib.Core.List.{List, []}
use native.Mathlib.Omega.{arith}
use lib.ListN.{length, take, drop}
use lib.Seq.{take_at, drop_at}
use Rattle.std.specs.Prelude.{Ok}
use Rattle.figures.specs.Bytes.{laid}
use Rattle.figures.proofs.Bytes.{laid_fits}
use Rattle.units.specs.declared.kinds.Family.{Family}
use Rattle.words.specs.declared.records.Word.{Word}
use Rattle.blocks.specs.declared.answers.Reading.{Reading}
use Rattle.blocks.specs.Judging.{Judgement, judged}
use Rattle.blocks.specs.Rules.{read_as}
use Rattle.blocks.proofs.Exactly.{read_ruled, ruled_read}
use Rattle.listings.specs.declared.edits.Edit.{Edit}
use Rattle.listings.specs.Mending.{mended}
use Rattle.listings.specs.Outcome.{mended_as, Outcome, outcome, listed}
use Rattle.listings.proofs.Accepted.{Accepted, accepted_reads}
use Rattle.listings.proofs.Twice.{twice_done}
use Rattle.host.specs.Answers.{mended_told, mended_whole, used_in, ReadsC, MendsC}
use Rattle.host.proofs.Whole.{MendedSmall, mended_small, gsi_mend_whole}
use Rattle.host.proofs.Refused.{gsi_mend_accepted}
use Rattle.host.proofs.RoundTrips.{told_parts}

-- a block that reads into 32 places reads into more, to the same
more_places : (f : Family) (s : List ℕ) (k : Reading) (places : ℕ) → (judged f s 32).answer ≡ Ok k → 32 ≤ places → judged f s places ≡ judged f s 32
more_places f s k places e h =
    let ws = (judged f s 32).words in
    let is : judged f s 32 ≡ read_as k ws = λ i. record { answer = e i; words = ws } in
    let (ruled, placed) = read_ruled f s 32 k ws is in
    ruled_read f s places k.wide k.crlf ws (drop k.used s) ruled (omega arith)
    ∙ sym (ruled_read f s 32 k.wide k.crlf ws (drop k.used s) ruled placed)

module _ (f : Family) (block room : List ℕ) (list : List Edit) {r : ℕ} {room' : List ℕ} {list' : List Edit} (h : MendsC f block room list r room' list')
    (low : r < 4294967296) where
  -- what r tells, and what stands in the room
  record Wrote : Type 0 where
    n : ℕ
    k : ℕ
    answer : (outcome f block room (length list)).answer ≡ mended_as n k
    small : n ≤ 771
    bytes_in : used_in r ≡ n
    there : Accepted f block room list n k room' list'

  wrote : Wrote
  wrote =
      let (n, k, e) = (gsi_mend_accepted f block room list h).0 low in
      let small : MendedSmall (mended_as n k) = rw e at (mended_small f block room (length list)) in
      let told = gsi_mend_whole f block room list h ∙ ap mended_whole e in
      record {
        n = n;
        k = k;
        answer = e;
        small = small.0;
        bytes_in = omega (arith, told, small.0);
        there = accepted_reads f block room list n k (sym e, h.1);
      }

  -- just the told bytes, read into 32 places or more: accepted, with each byte used
  pub gsi_mend_read : (ws : List Word) {r2 : ℕ} {ws' : List Word} → 32 ≤ length ws → ReadsC f (take (used_in r) room') ws r2 ws'
      → (r2 < 4294967296) × (used_in r2 ≡ used_in r)
  gsi_mend_read ws {r2 = r2} {ws' = ws'} placed reads =
      let w = wrote in
      let is : ReadsC f (take w.n room') ws r2 ws' = rw w.bytes_in at reads in
      let all = more_places f (take w.n room') w.there.reading (length ws) w.there.reads placed in
      let parts = told_parts f (take w.n room') ws is w.there.reading (ap (λ (j : Judgement). j.answer) all ∙ w.there.reads) in
      (parts.low, parts.used_in_lem ∙ w.there.used ∙ sym w.bytes_in)

  -- "Mending what was mended changes nothing": with just the told bytes, and room for them, they come out as they are, and no edit is told
  pub gsi_mend_again : (room₂ : List ℕ) (list₂ : List Edit) {r2 : ℕ} {room₂' : List ℕ} {list₂' : List Edit} → used_in r ≤ length room₂
      → MendsC f (take (used_in r) room') room₂ list₂ r2 room₂' list₂'
      → (r2 ≡ used_in r) × (take (used_in r) room₂' ≡ take (used_in r) room') × (drop (used_in r) room₂' ≡ drop (used_in r) room₂) × (list₂' ≡ list₂)
  gsi_mend_again room₂ list₂ {r2 = r2} {room₂' = room₂'} {list₂' = list₂'} fits again =
      let w = wrote in
      let m = (mended block).bytes in
      let same : take (used_in r) room' ≡ m = rw w.bytes_in w.there.bytes in
      let room_for : w.n ≤ length room₂ = rw w.bytes_in at fits in
      let size : length m ≡ w.n = sym w.there.length_bytes in
      let is : outcome f (take (used_in r) room') room₂ (length list₂) ≡ record { answer = mended_as w.n 0; room = laid m room₂; edits = [] } =
      rw same (twice_done f block room (length list) w.n w.k w.answer room₂ (length list₂) room_for) in
      let number : r2 ≡ mended_told (mended_as w.n 0) = again.0 ∙ ap (λ (o : Outcome). mended_told o.answer) is in
      let laid-there = again.1.0 ∙ ap (λ (o : Outcome). o.room) is ∙ laid_fits m room₂ (omega arith) in (
        omega (arith, number, w.small, w.bytes_in),
        rw (same, w.bytes_in, laid-there) (take_at m (drop (length m) room₂) w.n size),
        rw (w.bytes_in, laid-there) (drop_at m (drop (length m) room₂) w.n size ∙ rw size),
        again.1.1 ∙ ap (λ (o : Outcome). listed o.edits list₂) is,
      )
