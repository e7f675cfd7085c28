-- What is accepted reads: the mended bytes, all of them one block, stand in the room, and the edits in the list; what is refused leaves both.
use Prim.Native.Nat.{ℕ, ◌≤◌, ◌<◌}
use mathlib.Core.Path.{◌≡◌, refl, sym, ap, ◌∙◌}
use mathlib.Core.List.{List}
use mathlib.Core.Logic.{◌↔◌}
use lib.ListN.{length, take, drop}
use lib.Seq.{length-take-le, take_at, drop_at}
use Rattle.std.proofs.Common.{Result, Err, Ok}
use Rattle.figures.proofs.Bytes.{laid_fits}
use Rattle.units.specs.declared.kinds.Family.{Family}
use Rattle.blocks.specs.Judging.{judged}
use Rattle.blocks.specs.declared.answers.Refusal.{Refusal}
use Rattle.blocks.specs.declared.answers.Refusal.TheVariants.{Room, NoPlace}
use Rattle.blocks.specs.declared.answers.Reading.{Reading}
use Rattle.blocks.proofs.Accepted.{accepted}
use Rattle.blocks.proofs.Exactly.{IsRead}
use Rattle.listings.specs.declared.edits.Edit.{Edit}
use Rattle.listings.specs.declared.mending.Mended.{Mended}
use Rattle.listings.specs.Mending.{Mending, mended}
use Rattle.listings.specs.Outcome.{mended_as, Outcome, listed, Mends}
use Rattle.listings.proofs.Outcomes.{done_by, fits_done, refused_read, refused_room, refused_list, refused_as}
use Rattle.listings.proofs.Unchanged.{unchanged}
use Rattle.listings.proofs.Twice.{twice}

-- mended bytes that read are all of the block: nothing follows its terminator
pub reads_all : (f : Family) (s : List ℕ) (places : ℕ) (r : Reading) → (judged f (mended s).bytes places).answer ≡ Ok r
    → r.used ≡ length (mended s).bytes
reads_all f s places r e =
    let m = (mended s).bytes in
    let ws = (judged f m places).words in
    let a = accepted f m places r ws (λ i. record { answer = e i; words = ws }) in
    let same : take r.used m ≡ m = ap (λ (x : Mending). x.bytes) (sym (unchanged f m places r e) ∙ twice s) in
    sym (length-take-le r.used m a.within) ∙ ap length same

-- what Done tells, and what stands in the room and in the list then
pub record Accepted (f : Family) (s room : List ℕ) (list : List Edit) (n k : ℕ) (room' : List ℕ) (list' : List Edit) : Type 0 where
  pub reading : Reading
  pub reads : (judged f (take n room') 32).answer ≡ Ok reading
  pub used : reading.used ≡ n
  pub bytes : take n room' ≡ (mended s).bytes
  pub edits : take k list' ≡ (mended s).edits
  pub length_bytes : n ≡ length (mended s).bytes
  pub length_edits : k ≡ length (mended s).edits
  pub beyond_bytes : drop n room' ≡ drop n room
  pub beyond_edits : drop k list' ≡ drop k list

pub accepted_reads : (f : Family) (s room : List ℕ) (list : List Edit) (n k : ℕ) {room' : List ℕ} {list' : List Edit}
    → Mends f s room list (mended_as n k) room' list' → Accepted f s room list n k room' list'
accepted_reads f s room list n k {room'} {list'} (answer, (in-room, in_List)) =
    let m = mended s in
    let d = done_by (judged f m.bytes 32).answer m room (length list) n k (sym answer) in
    let o = fits_done (judged f m.bytes 32).answer m room (length list) d.reading d.reads d.fits d.placed in
    let laid-is = in-room ∙ (ap (λ (o : Outcome). o.room) o ∙ laid_fits m.bytes room d.fits) in
    let listed-is = in_List ∙ ap (λ (o : Outcome). listed o.edits list) o in
    let start : take n room' ≡ m.bytes = ap (take n) laid-is ∙ take_at m.bytes _ n (sym d.bytes) in
    record {
      reading = d.reading;
      reads = rw start d.reads;
      used = reads_all f s 32 d.reading d.reads ∙ sym d.bytes;
      bytes = start;
      edits = ap (take k) listed-is ∙ take_at m.edits _ k (sym d.edits);
      length_bytes = d.bytes;
      length_edits = d.edits;
      beyond_bytes = ap (drop n) laid-is ∙ drop_at m.bytes _ n (sym d.bytes) ∙ ap (λ i. drop i room) (sym d.bytes);
      beyond_edits = ap (drop k) listed-is ∙ drop_at m.edits _ k (sym d.edits) ∙ ap (λ i. drop i list) (sym d.edits);
    }

-- mending is accepted exactly where the mended bytes read and fit the room and the edits fit the list

abbrev pub IsMended : Family → List ℕ → List ℕ → List Edit → Type 0
IsMended f s room list = (n : ℕ) × (k : ℕ) × (room' : List ℕ) × (list' : List Edit) × Mends f s room list (mended_as n k) room' list'

abbrev pub Fits : Family → List ℕ → List ℕ → List Edit → Type 0
Fits f s room list = IsRead f (mended s).bytes 32 × (length (mended s).bytes ≤ length room) × (length (mended s).edits ≤ length list)

pub accepted_exactly : (f : Family) (s room : List ℕ) (list : List Edit) → IsMended f s room list ↔ Fits f s room list
accepted_exactly f s room list =
    let m = mended s in
    let a = (judged f m.bytes 32).answer in (
      λ (n, k, room', list', is). let d = done_by a m room (length list) n k (sym is.0) in ((d.reading, d.reads), d.fits, d.placed),
      λ (reads, fits, placed).
          let o = fits_done a m room (length list) reads.0 reads.1 fits placed in
          (length m.bytes, length m.edits, _, _, (sym (ap (λ (o : Outcome). o.answer) o), (refl, refl))),
    )

-- "What can't be read afterwards is refused, nothing written."
pub refused_leaves : (f : Family) (s room : List ℕ) (list : List Edit) (x : Refusal) {room' : List ℕ} {list' : List Edit}
    → Mends f s room list (Err x) room' list' → (room' ≡ room) × (list' ≡ list)
refused_leaves f s room list x (answer, (in-room, in_List)) =
    let o = refused_as (judged f (mended s).bytes 32).answer (mended s) room (length list) x (sym answer) in
    (in-room ∙ ap (λ (o : Outcome). o.room) o, in_List ∙ ap (λ (o : Outcome). listed o.edits list) o)

-- "Refusals: the reader's number, its place counted in the mended bytes; then 14; then 11 where the lent list is too short for the edits."
module _ (f : Family) (s room : List ℕ) (list : List Edit) {a : Result Mended Refusal} {room' : List ℕ} {list' : List Edit} (is : Mends f s room list a room' list') where
  pub refused_by_reader : (x : Refusal) → (judged f (mended s).bytes 32).answer ≡ Err x → a ≡ Err x
  refused_by_reader x e = is.0 ∙ ap (λ (o : Outcome). o.answer) (refused_read _ (mended s) room (length list) x e)

  pub refused_by_room : (r : Reading) → (judged f (mended s).bytes 32).answer ≡ Ok r → length room < length (mended s).bytes
      → a ≡ Err (Room (length (mended s).bytes))
  refused_by_room r e short = is.0 ∙ ap (λ (o : Outcome). o.answer) (refused_room _ (mended s) room (length list) r e short)

  pub refused_by_list : (r : Reading) → (judged f (mended s).bytes 32).answer ≡ Ok r → length (mended s).bytes ≤ length room
      → length list < length (mended s).edits → a ≡ Err (NoPlace (length (mended s).edits))
  refused_by_list r e fits crowded = is.0 ∙ ap (λ (o : Outcome). o.answer) (refused_list _ (mended s) room (length list) r e fits crowded)
