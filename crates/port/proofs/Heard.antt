-- What the port says for bytes that come in one at a time is what the machine says for their lines, whole.
use Prim.Native.Nat.{ℕ, ◌+◌, ◌≤◌, ◌<◌}
use mathlib.Core.Path.{◌≡◌, refl, sym, ap, ◌∙◌}
use mathlib.Core.Bool.{Bool, true, false, cond, not, ◌&&◌, ◌||◌, and-false, and-true, and-eq-true_iff}
use mathlib.Core.List.{List, [], ◌∷◌, ◌++◌, flatten}
use native.Mathlib.Numerals.{add-one}
use native.Mathlib.Omega.{arith}
use borrow.Author.Tests.{eqb-true, eqb-false, ltb-true, ltb-false}
use lib.Dec.{eqb, ltb}
use lib.ListN.{length, take, set, length-append, length-set, drop_of_length-le}
use lib.Seq.{take-suc-set, length-take-le, take_all, set_split}
use Rattle.figures.specs.Bytes.{every}
use Rattle.figures.proofs.Bytes.{every_append}
use Rattle.commands.specs.Shapes.{is_plain}
use Rattle.lines.specs.Machine.{Called, call}
use Rattle.lines.specs.Sessions.{session}
use Rattle.port.specs.Port.{is_end, quiet_port, kept_by, Heard, waits, runs, heard, lines_from, lines_of, Spoken, spoken_by, spoken_for}
use Rattle.port.specs.declared.Port.{Port}
use Rattle.port.proofs.Hearing.{heard_cr, heard_lf, heard_kept}
use Rattle.port.proofs.Alike.{JudgedAlike, same, over, call_alike}

-- what a port holds of a line that isn't ended yet
record Holds (p : Port) (line : List ℕ) (after : Bool) : Type 0 where
  pub flag : p.after ≡ after
  pub size : length p.bytes ≡ 101
  pub few : p.n ≤ 101
  pub kept : JudgedAlike (take p.n p.bytes) line

holds_none : (after : Bool) → Holds (quiet_port after) [] after
holds_none after = record { flag = refl; size = refl; few = omega arith; kept = same refl }

-- a byte more

plain_more : (l : List ℕ) (b : ℕ) → is_plain (l ++ (b ∷ [])) ≡ is_plain l && not (is_end b)
unfolding every
plain_more l b = every_append _ l (b ∷ []) ∙ ap (λ (t : Bool). is_plain l && t) (one (eqb b 13) (eqb b 10))
  where
    one : (x y : Bool) → (not x && not y) && true ≡ not (x || y)
    one true y = refl
    one false true = refl
    one false false = refl

-- past the most an end still shows
plain_past : (bytes : List ℕ) (b : ℕ) → length bytes ≡ 101 → (end : Bool) → is_end b ≡ end
    → is_plain (cond end (set bytes 100 b) bytes) ≡ is_plain bytes && not end
plain_past bytes b long false e = sym (and-true (is_plain bytes))
plain_past bytes b long true e =
    let last : set bytes 100 b ≡ take 100 bytes ++ (b ∷ []) = set_split bytes 100 b (omega arith) ∙ rw (drop_of_length-le bytes {i = 101} (omega arith)) in
    ap is_plain last ∙ plain_more (take 100 bytes) b ∙ rw e (and-false (is_plain (take 100 bytes)) ∙ sym (and-false (is_plain bytes)))

alike_more : (k l : List ℕ) (b : ℕ) → length k < 101 → JudgedAlike k l → JudgedAlike (k ++ (b ∷ [])) (l ++ (b ∷ []))
alike_more k l b h (same e) = same (rw e)
alike_more k l b h (over hk hl e) = absurd (omega arith)

alike_over : (k l : List ℕ) → 100 < length k → JudgedAlike k l → (100 < length l) × (is_plain k ≡ is_plain l)
alike_over k l h (same e) = (omega (arith, ap length e), ap is_plain e)
alike_over k l h (over hk hl e) = (hl, e)

module _ (p : Port) (line : List ℕ) (after : Bool) (b : ℕ) (h : Holds p line after) where
  abbrev held : List ℕ
  held = take p.n p.bytes

  within : p.n < 101 → Holds (record { bytes = set p.bytes p.n b; n = p.n + 1; after = false }) (line ++ (b ∷ [])) false
  within few =
      let more : take (p.n + 1) (set p.bytes p.n b) ≡ held ++ (b ∷ []) = rw (add-one p.n) (take-suc-set p.bytes p.n b (omega arith)) in
      record {
        flag = refl;
        size = length-set p.bytes p.n b ∙ h.size;
        few = omega arith;
        kept = rw more (alike_more held line b (omega (arith, length-take-le p.n p.bytes (omega arith))) h.kept);
      }

  past : 101 ≤ p.n → (end : Bool) → is_end b ≡ end
      → Holds (record { bytes = cond end (set p.bytes 100 b) p.bytes; n = p.n; after = false }) (line ++ (b ∷ [])) false
  past many end e =
      let bytes = cond end (set p.bytes 100 b) p.bytes in
      let size : length bytes ≡ 101 = long end in
      let all : held ≡ p.bytes = take_all p.n p.bytes (omega arith) in
      let was = alike_over p.bytes line (omega arith) (rw all at h.kept) in
      let plain : is_plain bytes ≡ is_plain (line ++ (b ∷ [])) = plain_past p.bytes b h.size end e ∙ rw (was.1, ← e) (sym (plain_more line b)) in
      record {
        flag = refl;
        size = size;
        few = h.few;
        kept = rw (take_all p.n bytes (omega arith)) (over (omega arith) (omega (arith, was.0, length-append line (b ∷ []))) plain);
      }
    where
      long : (t : Bool) → length (cond t (set p.bytes 100 b) p.bytes) ≡ 101
      long true = length-set p.bytes 100 b ∙ h.size
      long false = h.size

  holds_more : Holds (kept_by p b) (line ++ (b ∷ [])) false
  holds_more = go (ltb p.n 101) refl
    where
      go : (t : Bool) → ltb p.n 101 ≡ t → Holds (kept_by p b) (line ++ (b ∷ [])) false
      go true e = rw e (within (ltb-true p.n 101 e))
      go false e = rw e (past (ltb-false p.n 101 e) (is_end b) refl)

-- all the bytes

-- a byte, and the bytes after it
abbrev said_of : List ℕ → List ℕ → Heard → Spoken
said_of room s h =
    let later = spoken_by room h.turn.port h.image s in
    record { image = later.image; out = take h.turn.told.count h.room ++ later.out }

-- a line, and the lines after it
abbrev then_of : Called → Spoken → Spoken
then_of c later = record { image = later.image; out = take c.answer.count c.room ++ later.out }

abbrev Spoke : List ℕ → List ℕ → Type 0
Spoke room s =
    (image : List ℕ) (p : Port) (line : List ℕ) (after : Bool) → Holds p line after → spoken_by room p image s ≡ spoken_for room image (lines_from line after s)

module _ (room : List ℕ) (b : ℕ) (s : List ℕ) (later : Spoke room s) (image : List ℕ) (p : Port) (line : List ℕ) (after : Bool) (h : Holds p line after) where
  -- what comes of the byte, and of the lines that it ends or goes on
  so : (next : Heard) (lines : List (List ℕ)) → heard image p b room ≡ next → lines_from line after (b ∷ s) ≡ lines
      → said_of room s next ≡ spoken_for room image lines → spoken_by room p image (b ∷ s) ≡ spoken_for room image (lines_from line after (b ∷ s))
  unfolding session flatten
  so next lines eh el e = ap (said_of room s) eh ∙ e ∙ sym (ap (spoken_for room image) el)

  by_byte : (cr lf : Bool) → eqb b 13 ≡ cr → eqb b 10 && after ≡ lf → spoken_by room p image (b ∷ s) ≡ spoken_for room image (lines_from line after (b ∷ s))
  unfolding session flatten lines_from
  by_byte true lf ex ey =
      let c = call image (line ++ (13 ∷ [])) room in
      so (runs c) ((line ++ (13 ∷ [])) ∷ lines_from [] true s)
      (heard_cr image p b room (eqb-true b 13 ex) ∙ ap runs (call_alike image (take p.n p.bytes) line room h.kept)) (rw ex)
      (ap (then_of c) (later c.image (quiet_port true) [] true (holds_none true)))
  by_byte false true ex ey =
      let both = (and-eq-true_iff (eqb b 10) after).0 ey in
      let q : Port = record { bytes = p.bytes; n = p.n; after = false } in
      so (waits q image room) (lines_from line false s) (heard_lf image p b room (eqb-true b 10 both.0) (h.flag ∙ both.1)) (rw (ex, ey))
      (later image q line false (record { flag = refl; size = h.size; few = h.few; kept = h.kept }))
  by_byte false false ex ey =
      so (waits (kept_by p b) image room) (lines_from (line ++ (b ∷ [])) false s) (heard_kept image p b room (eqb-false b 13 ex) (rw h.flag ey)) (rw (ex, ey))
      (later image (kept_by p b) (line ++ (b ∷ [])) false (holds_more p line after b h))

spoke : (room s : List ℕ) → Spoke room s
unfolding session flatten lines_from
spoke room [] image p line after h = refl
spoke room (b ∷ s) image p line after h = by_byte room b s (spoke room s) image p line after h (eqb b 13) (eqb b 10 && after) refl refl

pub heard_lines : (room image s : List ℕ) → spoken_by room (quiet_port false) image s ≡ spoken_for room image (lines_of s)
heard_lines room image s = spoke room s image (quiet_port false) [] false (holds_none false)
