-- Menders that the promise of `mend` shuts out, as theorems: that refuse everything or change nothing, mend what they needn't, mend a fourth thing, or tell
-- other edits or give other bytes than the three rules do. Assumes nothing.
use mathlib.Core.Path.{◌≡◌, refl, sym, ap, ◌∙◌}
use mathlib.Core.List.{List, [], ◌∷◌}
use Prim.Native.Nat.{ℕ, ◌<◌}
use native.Mathlib.Omega.{arith}
use lib.ListN.{length, take, replicate}
use Rattle.std.proofs.Common.{Result, Err, Ok}
use Rattle.figures.specs.Bytes.{among, every}
use Rattle.figures.specs.Decimal.{number_from}
use Rattle.figures.specs.Text.{codes}
use Rattle.units.specs.declared.kinds.Family.{Family}
use Rattle.units.specs.declared.kinds.Family.TheVariants.{Station, Level}
use Rattle.words.specs.declared.reading.Fault.TheVariants.{Separator}
use Rattle.blocks.specs.Judging.{judged, block_from}
use Rattle.blocks.specs.declared.answers.Refusal.{Refusal}
use Rattle.blocks.specs.declared.answers.Refusal.TheVariants.{Wrong}
use Rattle.blocks.specs.declared.answers.Reading.{Reading}
use Rattle.listings.specs.declared.edits.Edit.{Edit}
use Rattle.listings.specs.declared.mending.Mended.{Mended}
use Rattle.listings.specs.Mending.{Mending, mended_from, mended}
use Rattle.listings.specs.Outcome.{mended_as, outcome, Mends}
use Rattle.listings.specs.Edits.{edit}
use Rattle.listings.proofs.Unchanged.{unchanged}
use Rattle.listings.proofs.Accepted.{Accepted, accepted_reads, refused_leaves}

-- what a mender does with an input, a lent room and a lent list: its answer, and the room and the list as they are then
abbrev pub Mender : Type 0
Mender = List ℕ → List ℕ → List Edit → Result Mended Refusal × List ℕ × List Edit

-- it keeps the promise of `mend`
abbrev pub Keeps : Family → Mender → Type 0
Keeps f run = (s room : List ℕ) (list : List Edit) → Mends f s room list (run s room list).0 (run s room list).1 (run s room list).2

-- a block of either family with its last blank stripped, a room for it and a place for its edit
abbrev stripped : List ℕ
stripped = codes "83..00-00213159\r"

abbrev empty : List ℕ
empty = replicate 17 0

abbrev place : List Edit
place = edit 0 0 ∷ []

one_edit : (f : Family) → (outcome f stripped empty 1).answer ≡ mended_as 17 1
unfolding mended mended_from among every number_from block_from
one_edit Station = refl
one_edit Level = refl

module _ (f : Family) (run : Mender) where
  -- one that refuses everything
  pub refuses_all : ((s room : List ℕ) (list : List Edit) → (x : Refusal) × ((run s room list).0 ≡ Err x)) → Keeps f run → ⊥
  refuses_all all keeps =
      let e : (run stripped empty place).0 ≡ Err (all stripped empty place).0 = (all stripped empty place).1 in
      let g : (run stripped empty place).0 ≡ mended_as 17 1 = (keeps stripped empty place).0 ∙ one_edit f in
      let z : ◌≡◌ {A = ℕ} 0 1 = cc in
      omega arith

  -- one that tells no edit of any block
  pub edits_nothing : ((s room : List ℕ) (list : List Edit) (n k : ℕ) → (run s room list).0 ≡ mended_as n k → k ≡ 0) → Keeps f run → ⊥
  edits_nothing all keeps = omega (arith, all stripped empty place 17 1 ((keeps stripped empty place).0 ∙ one_edit f))

  -- what is accepted is the definition's, and the four that follow are shut out by it
  module _ (s room : List ℕ) (list : List Edit) (n k : ℕ) (done : (run s room list).0 ≡ mended_as n k) where
    kept : Keeps f run → Accepted f s room list n k (run s room list).1 (run s room list).2
    kept keeps = accepted_reads f s room list n k (sym done ∙ (keeps s room list).0, (keeps s room list).1)

    -- one that of some block tells other edits: of another kind, at another place, more or fewer
    pub tells_otherwise : (take k (run s room list).2 ≡ (mended s).edits → ⊥) → Keeps f run → ⊥
    tells_otherwise other keeps = other (kept keeps).edits

    -- or gives other bytes
    pub mends_otherwise : (take n (run s room list).1 ≡ (mended s).bytes → ⊥) → Keeps f run → ⊥
    mends_otherwise other keeps = other (kept keeps).bytes

    -- one that tells an edit of some block that reads
    pub mends_needlessly : (places : ℕ) (r : Reading) → (judged f s places).answer ≡ Ok r → 0 < k → Keeps f run → ⊥
    mends_needlessly places r reads some keeps =
        omega (arith, (kept keeps).length_edits, ap (λ (m : Mending). length m.edits) (unchanged f s places r reads))

    -- or changes its bytes
    pub changes_right : (places : ℕ) (r : Reading) → (judged f s places).answer ≡ Ok r → (take n (run s room list).1 ≡ take r.used s → ⊥) → Keeps f run → ⊥
    changes_right places r reads other keeps = other ((kept keeps).bytes ∙ ap (λ (m : Mending). m.bytes) (unchanged f s places r reads))

-- one that gives the bytes of each block as they are
pub copies_only : (f : Family) (run : Mender)
    → ((s room : List ℕ) (list : List Edit) (n k : ℕ) → (run s room list).0 ≡ mended_as n k → take n (run s room list).1 ≡ take n s) → Keeps f run → ⊥
copies_only f run all keeps =
    let done : (run stripped empty place).0 ≡ mended_as 17 1 = (keeps stripped empty place).0 ∙ one_edit f in
    let a = kept f run stripped empty place 17 1 done keeps in
    omega (arith, a.length_bytes, ap length (sym a.bytes ∙ all stripped empty place 17 1 done))

-- a block of either family that lacks the blank between its words
abbrev pub joint : List ℕ
joint = codes "83..00-0021315983..00-00213159 \r"

refused_joint : (f : Family) (room : List ℕ) (places : ℕ) → (outcome f joint room places).answer ≡ Err (Wrong Separator 15)
unfolding mended mended_from among every number_from block_from
refused_joint Station room places = refl
refused_joint Level room places = refl

-- one that mends a fourth thing: it accepts that block, or tells an edit of it
module _ (f : Family) (run : Mender) (room : List ℕ) (list : List Edit) where
  pub mends_a_fourth : (n k : ℕ) → (run joint room list).0 ≡ mended_as n k → Keeps f run → ⊥
  mends_a_fourth n k e keeps =
      let g : (run joint room list).0 ≡ Err (Wrong Separator 15) = (keeps joint room list).0 ∙ refused_joint f room (length list) in
      let z : ◌≡◌ {A = ℕ} 0 1 = cc in
      omega arith

  pub tells_a_fourth : ((run joint room list).2 ≡ list → ⊥) → Keeps f run → ⊥
  tells_a_fourth other keeps =
      other (refused_leaves f joint room list (Wrong Separator 15) (sym (refused_joint f room (length list)), (keeps joint room list).1)).1
