-- What mends a listing: where its reading stands, which teller and writer it was lent, and what each of them was given so far.
use Rattle.std.specs.Prelude.{ℕ, ◌≡◌, List, Option}
use Rattle.units.specs.declared.kinds.Family.{Family}
use Rattle.mend.specs.declared.turns.Progress.{Progress}
use Rattle.mend.specs.Turns.{Standing, standing, Takes}
use Rattle.mend.specs.Put.{put_by, handed_from, Wrote, BreaksOff}

pub record Mending : Type 0 where
  pub family : Family
  pub standing : Standing
  pub teller : ℕ
  pub told : Option (List ℕ)
  pub writer : ℕ
  pub blocks : Option (List ℕ)

abbrev pub mending : Family → List ℕ → Progress → List ℕ → List ℕ → ℕ → Option (List ℕ) → ℕ → Option (List ℕ) → Mending
mending f room g out text teller told writer blocks =
    record { family = f; standing = standing room g out text; teller = teller; told = told; writer = writer; blocks = blocks }

abbrev pub PutsTo : Mending → Mending → Type 0
PutsTo p q = (q.teller ≡ p.teller) × (q.writer ≡ p.writer)

-- these bytes were taken, and what they hand over was written
abbrev pub PutsPart : Mending → List ℕ → Mending → Type 0
PutsPart p bytes q =
    let s = p.standing in
    let t = q.standing in
    (p.family ≡ q.family) × (Takes p.family s.room s.progress bytes s.out s.text t.progress t.room t.out t.text)
    × Wrote p.told q.told p.blocks q.blocks (handed_from p.family s bytes)

-- these bytes and the listing's end after them were taken, and what they hand over was written
abbrev pub PutsAll : Mending → List ℕ → Mending → Type 0
PutsAll p bytes q = Wrote p.told q.told p.blocks q.blocks (put_by p.family p.standing bytes)

-- it broke off in these bytes or at the listing's end after them
abbrev pub PutsStart : Mending → List ℕ → Mending → Type 0
PutsStart p bytes q = BreaksOff p.family p.standing bytes p.told q.told p.blocks q.blocks
