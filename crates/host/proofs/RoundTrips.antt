-- The two round trips over the promises of the C functions: what is read by one is written by the other to the same bytes, and what is written by one is
-- read by the other to the same list.
use Prim.Native.Nat.{ℕ, ◌+◌, ◌*◌, ◌≤◌, ◌<◌}
use mathlib.Core.Path.{◌≡◌, refl, sym, ap, ◌∙◌}
use mathlib.Core.Bool.{Bool, true, false}
use mathlib.Core.List.{List, ◌++◌}
use native.Mathlib.Nat.{one-mul, zero-mul}
use native.Mathlib.Omega.{arith}
use lib.ListN.{length, take, drop}
use lib.Seq.{take_at, drop_at, length-take-le}
use Rattle.std.specs.Prelude.{Ok}
use Rattle.figures.specs.Bytes.{laid}
use Rattle.figures.proofs.Bytes.{laid_fits}
use Rattle.units.specs.declared.kinds.Family.{Family}
use Rattle.words.specs.declared.records.Word.{Word}
use Rattle.blocks.specs.declared.answers.Reading.{Reading}
use Rattle.blocks.specs.Judging.{Judgement, judged, filled}
use Rattle.blocks.specs.Composing.{Written·room, written}
use Rattle.blocks.specs.Rules.{read_as}
use Rattle.blocks.proofs.Accepted.{accepted, accepted_written}
use Rattle.blocks.proofs.Written.{written_read}
use Rattle.host.specs.Answers.{bit_of, read_whole, wrote_whole, used_in, words_in, wide_in, crlf_in, is_yes, ReadsC, WritesC}
use Rattle.host.proofs.Whole.{ReadSmall, read_small, gsi_read_whole, gsi_write_whole}
use Rattle.host.proofs.Refused.{gsi_read_accepted, gsi_write_accepted}

-- each part of what a reading tells has its own bits
pub record Parts (r used words : ℕ) (wide crlf : Bool) : Type 0 where
  pub low : r < 4294967296
  pub used_in_lem : used_in r ≡ used
  pub words_in_lem : words_in r ≡ words
  pub wide_in_lem : is_yes (wide_in r) ≡ wide
  pub crlf_in_lem : is_yes (crlf_in r) ≡ crlf

bits : (r u w x y : ℕ) → r ≡ u + w * 65536 + x * 16777216 + y * 33554432 → u ≤ 771 → w ≤ 32 → x ≤ 1 → y ≤ 1
    → (r < 4294967296) × (used_in r ≡ u) × (words_in r ≡ w) × (wide_in r ≡ x) × (crlf_in r ≡ y)
bits r u w x y e hu hw hx hy = (omega arith, omega arith, omega arith, omega arith, omega arith)

one_bit : (b : Bool) (weight : ℕ) → (bit_of b weight ≡ bit_of b 1 * weight) × (bit_of b 1 ≤ 1) × (is_yes (bit_of b 1) ≡ b)
one_bit true weight = (sym (one-mul weight), omega arith, refl)
one_bit false weight = (sym (zero-mul weight), omega arith, refl)

parts : (r u w : ℕ) (wide crlf : Bool) → u ≤ 771 → w ≤ 32 → r ≡ u + w * 65536 + bit_of wide 16777216 + bit_of crlf 33554432 → Parts r u w wide crlf
parts r u w wide crlf h k e =
    let (x, x-small, is_IsWide) = one_bit wide 16777216 in
    let (y, y-small, is-crlf) = one_bit crlf 33554432 in
    let (low, used, words, at-24, at-25) = bits r u w (bit_of wide 1) (bit_of crlf 1) (rw (← x, ← y) e) h k x-small y-small in
    record { low = low; used_in_lem = used; words_in_lem = words; wide_in_lem = ap is_yes at-24 ∙ is_IsWide; crlf_in_lem = ap is_yes at-25 ∙ is-crlf }

module _ (f : Family) (s : List ℕ) (list : List Word) {r : ℕ} {list' : List Word} (h : ReadsC f s list r list') where
  pub told_parts : (k : Reading) → (judged f s (length list)).answer ≡ Ok k → Parts r k.used k.words k.wide k.crlf
  told_parts k e =
      let small : ReadSmall (Ok k) = rw e at (read_small f s (length list)) in
      parts r k.used k.words k.wide k.crlf small.0 small.1 (gsi_read_whole f s list h ∙ ap read_whole e)

  -- read, and the told words written with the told width and end: the used bytes, and the room beyond as it was
  pub gsi_read_write : r < 4294967296 → (room : List ℕ) {r2 : ℕ} {room' : List ℕ} → used_in r ≤ length room
      → WritesC f (take (words_in r) list') (wide_in r) (crlf_in r) room r2 room'
      → (r2 ≡ used_in r) × (take (used_in r) room' ≡ take (used_in r) s) × (drop (used_in r) room' ≡ drop (used_in r) room)
  gsi_read_write low room {r2 = r2} {room' = room'} fits w =
      let (k, e) = (gsi_read_accepted f s list h).0 low in
      let ws = (judged f s (length list)).words in
      let is : judged f s (length list) ≡ read_as k ws = λ i. record { answer = e i; words = ws } in
      let told = told_parts k e in
      let a = accepted f s (length list) k ws is in
      let same : take (words_in r) list' ≡ ws = rw h.1 (take_at ws (drop (length ws) list) (words_in r) (sym (told.words_in_lem ∙ a.counted))) in
      let room_for : k.used ≤ length room = rw told.used_in_lem at fits in
      let back : written f (take (words_in r) list') (is_yes (wide_in r)) (is_yes (crlf_in r)) room ≡ record { answer = Ok k.used; room = laid (take k.used s) room } =
      rw (same, told.wide_in_lem, told.crlf_in_lem) (accepted_written f s (length list) k ws room is room_for) in
      let bytes = length-take-le k.used s a.within in
      let laid-there : room' ≡ take k.used s ++ drop k.used room =
      w.1 ∙ ap (λ (v : Written·room). v.room) back ∙ laid_fits (take k.used s) room (omega arith) ∙ rw bytes in (
        gsi_write_whole f (take (words_in r) list') (wide_in r) (crlf_in r) room w ∙ ap (λ (v : Written·room). wrote_whole v.answer) back ∙ sym told.used_in_lem,
        rw (told.used_in_lem, laid-there) (take_at (take k.used s) (drop k.used room) k.used bytes),
        rw (told.used_in_lem, laid-there) (drop_at (take k.used s) (drop k.used room) k.used bytes),
      )

-- written, and just the told bytes read: the list, and its places beyond as they were; told are the width, the end, the words and the bytes that were written
pub gsi_write_read : (f : Family) (ws : List Word) (wide crlf : ℕ) (room : List ℕ) {r : ℕ} {room' : List ℕ} → WritesC f ws wide crlf room r room'
    → r < 4294967296 → (list : List Word) {r2 : ℕ} {list' : List Word} → length ws ≤ length list → ReadsC f (take r room') list r2 list'
    → (r2 < 4294967296) × (take (length ws) list' ≡ ws) × (drop (length ws) list' ≡ drop (length ws) list)
    × (is_yes (wide_in r2) ≡ is_yes wide) × (is_yes (crlf_in r2) ≡ is_yes crlf) × (words_in r2 ≡ length ws) × (used_in r2 ≡ r)
gsi_write_read f ws wide crlf room {r = r} {room' = room'} w low list {r2 = r2} {list' = list'} placed h =
    let (n, e) = (gsi_write_accepted f ws wide crlf room w).0 low in
    let told : r ≡ n = gsi_write_whole f ws wide crlf room w ∙ ap wrote_whole e in
    let is : written f ws (is_yes wide) (is_yes crlf) room ≡ record { answer = Ok r; room = room' } =
    λ i. record { answer = (e ∙ ap Ok (sym told)) i; room = sym w.1 i } in
    let back = written_read f ws (is_yes wide) (is_yes crlf) room r room' (length list) is placed in
    let parts = told_parts f (take r room') list h _ (ap (λ (j : Judgement). j.answer) back) in
    let same : list' ≡ filled ws list = h.1 ∙ ap (λ (j : Judgement). filled j.words list) back in (
      parts.low,
      rw same (take_at ws (drop (length ws) list) (length ws) refl),
      rw same (drop_at ws (drop (length ws) list) (length ws) refl),
      parts.wide_in_lem,
      parts.crlf_in_lem,
      parts.words_in_lem,
      parts.used_in_lem,
    )
