-- Laws of a byte at the port as the code finds it: what it comes to, and the line that is run for what is kept.
use Prim.Native.Nat.{ℕ, ◌+◌, ◌≤◌, min}
use mathlib.Core.Path.{◌≡◌, refl, sym, ap, ◌∙◌}
use mathlib.Core.Bool.{Bool, true, false, cond, ◌&&◌}
use mathlib.Core.List.{List, [], ◌∷◌, ◌++◌}
use native.Mathlib.Numerals.{add-one}
use native.Mathlib.Omega.{arith}
use borrow.Author.Tests.{eq-eqb, ne_eqb, leb-true, leb-false}
use lib.Dec.{eqb, leb}
use lib.ListN.{length, take, drop, set, replicate, length-take}
use lib.Seq.{take-suc-set, take_all, take_at}
use Rattle.figures.specs.Bytes.{laid}
use Rattle.figures.proofs.Bytes.{laid_fits, length_laid}
use Rattle.figures.proofs.Tests.{by_test}
use Rattle.state.specs.Image.{is_image, state_in}
use Rattle.lines.specs.Machine.{Outcome, outcome, run, told, played, call, Calls}
use Rattle.lines.specs.declared.verdicts.Refused.TheVariants.{Room, NoState}
use Rattle.lines.specs.declared.machine.Told.{Told}
use Rattle.port.specs.Port.{kept_by, line_of, Answers, waits, runs, heard}
use Rattle.port.specs.declared.Port.{Port}
use Rattle.std.specs.Prelude.{Err}

-- what a byte comes to

module _ (image : List ℕ) (p : Port) (b : ℕ) (room : List ℕ) where
  pub heard_cr : b ≡ 13 → heard image p b room ≡ runs (call image (line_of p) room)
  heard_cr e = rw (eq-eqb b 13 e)

  pub heard_lf : b ≡ 10 → p.after ≡ true → heard image p b room ≡ waits (record { bytes = p.bytes; n = p.n; after = false }) image room
  heard_lf e a = rw (ne_eqb b 13 (λ z. omega arith), eq-eqb b 10 e, a)

  pub heard_kept : (b ≡ 13 → ⊥) → eqb b 10 && p.after ≡ false → heard image p b room ≡ waits (kept_by p b) image room
  heard_kept n e = rw (ne_eqb b 13 n, e)

-- the bytes of the line that are kept
pub held_take : (p : Port) (n : ℕ) → length p.bytes ≡ 101 → n ≡ min p.n 101 → take n p.bytes ≡ take p.n p.bytes
held_take p n long e =
    by_test (leb p.n 101)
    (λ q. let same : n ≡ p.n = omega (arith, leb-true p.n 101 q) in rw same)
    (λ q. let over = leb-false p.n 101 q in take_all n p.bytes (omega arith) ∙ sym (take_all p.n p.bytes (omega arith)))

-- the line that is run: the bytes kept, laid into a text with the CR after them
pub line_laid : (p : Port) (w text : List ℕ) → length p.bytes ≡ 101 → w ≡ take p.n p.bytes → text ≡ laid w (replicate 102 0)
    → take (length w + 1) (set text (length w) 13) ≡ line_of p
line_laid p w text long kept laid_down =
    let few : length w ≤ 101 = omega (arith, ap length kept, length-take p.n p.bytes) in
    let down : text ≡ w ++ drop (length w) (replicate 102 0) = laid_down ∙ laid_fits w (replicate 102 0) (omega arith) in
    let wide = ap length laid_down ∙ length_laid w (replicate 102 0) in
    rw (add-one (length w), take-suc-set text (length w) 13 (omega (arith, wide)), down, take_at w _ (length w) refl) (ap (λ (l : List ℕ). l ++ (13 ∷ [])) kept)

pub answers_so : (image : List ℕ) (p : Port) (room : List ℕ) (r : Told) (image' room' : List ℕ) (l : List ℕ) → l ≡ line_of p → Calls image l room r image' room'
    → Answers image p room r image' room'
answers_so image p room r image' room' l e h = rw e at h

-- a reply is within its room

call_fits : (image line room : List ℕ) → (call image line room).answer.count ≤ length room
call_fits image line room = by (run (state_in image) line) (is_image image) _ refl
  where
    by : (o : Outcome) (is fits : Bool) → leb (length o.reply) (length room) ≡ fits
        → (cond is (played (cond fits o (outcome (Err Room) [] (state_in image))) room) (record { answer = told (Err NoState) 0; image = image; room = room })
        ).answer.count
        ≤ length room
    by o true true e = leb-true (length o.reply) (length room) e
    by o true false e = omega arith
    by o false fits e = omega arith

pub heard_fits : (image : List ℕ) (p : Port) (b : ℕ) (room : List ℕ) → (heard image p b room).turn.told.count ≤ length room
heard_fits image p b room = by (eqb b 13) (eqb b 10 && p.after)
  where
    by : (cr lf : Bool)
        → (cond cr (runs (call image (line_of p) room))
        (cond lf (waits (record { bytes = p.bytes; n = p.n; after = false }) image room) (waits (kept_by p b) image room))).turn.told.count
        ≤ length room
    by true lf = call_fits image (line_of p) room
    by false true = omega arith
    by false false = omega arith
