-- A block is accepted exactly where it keeps the rules and its words fit the list, and it has one reading.
use Prim.Native.Nat.{ℕ, ◌≤◌}
use mathlib.Core.Path.{◌≡◌, refl, sym, ap, ◌∙◌}
use mathlib.Core.Bool.{Bool, false}
use mathlib.Core.List.{List, [], ◌++◌, append-nil}
use mathlib.Core.Logic.{◌↔◌}
use lib.ListN.{length, take, drop, take-append-drop}
use lib.Seq.{drop_at}
use Rattle.std.specs.Prelude.{Ok}
use Rattle.units.specs.declared.kinds.Family.{Family}
use Rattle.words.specs.declared.records.Word.{Word}
use Rattle.blocks.specs.Judging.{Judgement, is_at, judged}
use Rattle.blocks.specs.Composing.{block_bytes}
use Rattle.blocks.specs.declared.answers.Reading.{Reading}
use Rattle.blocks.specs.Rules.{Lawful, Ruled, read_as, reading_of}
use Rattle.blocks.proofs.Accepted.{accepted}
use Rattle.blocks.proofs.Written.{block_read}

pub read_ruled : (f : Family) (s : List ℕ) (places : ℕ) (r : Reading) (ws : List Word) → judged f s places ≡ read_as r ws
    → Ruled f s r.wide r.crlf ws (drop r.used s) × (length ws ≤ places)
read_ruled f s places r ws e =
    let a = accepted f s places r ws e in
    (record { lawful = a.lawful; bytes = rw a.bytes (sym (take-append-drop r.used s)); apart = a.apart }, a.placed)

pub ruled_read : (f : Family) (s : List ℕ) (places : ℕ) (wide crlf : Bool) (ws : List Word) (rest : List ℕ) → Ruled f s wide crlf ws rest → length ws ≤ places
    → judged f s places ≡ read_as (reading_of f wide crlf ws) ws
ruled_read f s places wide crlf ws rest h placed = ap (λ t. judged f t places) h.bytes ∙ block_read f wide crlf ws rest places h.lawful placed h.apart

-- the answer is a reading
abbrev pub IsRead : (f : Family) → List ℕ → ℕ → Type 0
IsRead f s places = (r : Reading) × ((judged f s places).answer ≡ Ok r)

-- the rules hold, and the words fit
abbrev pub IsRuled : (f : Family) → List ℕ → ℕ → Type 0
IsRuled f s places = (wide : Bool) × (crlf : Bool) × (ws : List Word) × (rest : List ℕ) × Ruled f s wide crlf ws rest × (length ws ≤ places)

pub exactly : (f : Family) (s : List ℕ) (places : ℕ) → IsRead f s places ↔ IsRuled f s places
exactly f s places = (
  λ a.
      let ws = (judged f s places).words in
      let h = read_ruled f s places a.0 ws (λ i. record { answer = a.1 i; words = ws }) in
      (a.0.wide, a.0.crlf, ws, drop a.0.used s, h.0, h.1),
  λ b. (reading_of f b.0 b.1 b.2, ap (λ (j : Judgement). j.answer) (ruled_read f s places b.0 b.1 b.2 b.3 b.4 b.5)),
)

-- two ways to take one input apart are the same
pub one_reading : (f : Family) (s : List ℕ) (wide crlf wide' crlf' : Bool) (ws ws' : List Word) (rest rest' : List ℕ) → Ruled f s wide crlf ws rest
    → Ruled f s wide' crlf' ws' rest' → (wide ≡ wide') × (crlf ≡ crlf') × (ws ≡ ws') × (rest ≡ rest')
one_reading f s wide crlf wide' crlf' ws ws' rest rest' h h' =
    let e : read_as (reading_of f wide crlf ws) ws ≡ read_as (reading_of f wide' crlf' ws') ws' =
    sym (ruled_read f s 32 wide crlf ws rest h h.lawful.most) ∙ ruled_read f s 32 wide' crlf' ws' rest' h' h'.lawful.most in
    let answers : Ok (reading_of f wide crlf ws) ≡ Ok (reading_of f wide' crlf' ws') = ap (λ (j : Judgement). j.answer) e in
    let same : reading_of f wide crlf ws ≡ reading_of f wide' crlf' ws' = cc in
    let used : length (block_bytes f wide crlf ws) ≡ length (block_bytes f wide' crlf' ws') = ap (λ (r : Reading). r.used) same in (
      ap (λ (r : Reading). r.wide) same,
      ap (λ (r : Reading). r.crlf) same,
      ap (λ (j : Judgement). j.words) e,
      sym (ap (drop (length (block_bytes f wide crlf ws))) h.bytes ∙ drop_at (block_bytes f wide crlf ws) rest _ refl)
          ∙ ap (drop (length (block_bytes f wide crlf ws))) h'.bytes ∙ drop_at (block_bytes f wide' crlf' ws') rest'
          (length (block_bytes f wide crlf ws)) (sym used),
    )

-- lists that the writer takes and that differ, in a sign say, are written as different bytes
pub lists_apart : (f : Family) (wide crlf wide' crlf' : Bool) (ws ws' : List Word) → Lawful f wide ws → Lawful f wide' ws' → (ws ≡ ws' → ⊥)
    → block_bytes f wide crlf ws ≡ block_bytes f wide' crlf' ws' → ⊥
lists_apart f wide crlf wide' crlf' ws ws' h h' apart e =
    let alone : (wide crlf : Bool) (ws : List Word) → Lawful f wide ws → Ruled f (block_bytes f wide crlf ws) wide crlf ws [] =
    λ wide crlf ws h. record { lawful = h; bytes = sym (append-nil (block_bytes f wide crlf ws)); apart = λ _. refl } in
    apart (one_reading f (block_bytes f wide crlf ws) wide crlf wide' crlf' ws ws' [] [] (alone wide crlf ws h) (rw e (alone wide' crlf' ws' h'))).2

-- "Bytes after the terminator aren't looked at."
pub reading_looks_no_further : (f : Family) (s : List ℕ) (places : ℕ) (r : Reading) (more : List ℕ) → (judged f s places).answer ≡ Ok r
    → (r.crlf ≡ false → is_at 10 more ≡ false) → judged f (take r.used s ++ more) places ≡ judged f s places
reading_looks_no_further f s places r more e h =
    let ws = (judged f s places).words in
    let is : judged f s places ≡ read_as r ws = λ i. record { answer = e i; words = ws } in
    let a = accepted f s places r ws is in
    let (ruled, placed) = read_ruled f s places r ws is in
    rw (← a.bytes) (block_read f r.wide r.crlf ws more places a.lawful placed h)
    ∙ sym (ruled_read f s places r.wide r.crlf ws (drop r.used s) ruled placed)
