-- What is put out for a listing is the block of each line that reads and what is told of each line, whole, and the counts: `put`; and what is handed over is
-- part of it: `due_put`.
use Prim.Native.Nat.{ℕ, suc, ◌+◌, ◌<◌, ◌≤◌, min}
use mathlib.Core.Path.{◌≡◌, refl, sym, ap, ◌∙◌}
use mathlib.Core.Bool.{Bool, true, false, cond}
use mathlib.Core.List.{List, [], ◌∷◌, ◌++◌, append-nil}
use native.Mathlib.Nat.{min-le_left, le-min}
use native.Mathlib.Numerals.{add-one}
use native.Mathlib.Omega.{arith}
use borrow.Author.Tests.{eq-eqb, ne_eqb}
use lib.Dec.{eqb, eqb-suc-zero}
use lib.ListN.{length, take, replicate}
use Rattle.units.specs.declared.kinds.Family.{Family}
use Rattle.pieces.specs.Pieces.{is_joined}
use Rattle.pieces.specs.declared.Mark.{Mark}
use Rattle.pieces.specs.declared.Mark.TheVariants.{Open}
use Rattle.figures.specs.Rooms.{put_at}
use Rattle.figures.proofs.Putting.{put_length}
use Rattle.files.specs.Counting.{largest, more_of}
use Rattle.files.proofs.Counts.{more_is}
use Rattle.files.proofs.Kept.{Keeps, keeps_none, keeps_more}
use Rattle.files.proofs.Whole.{put_out, put_after}
use Rattle.errata.specs.Errata.{block_of, told_of, fate_of}
use Rattle.errata.specs.declared.Fate.{Fate}
use Rattle.errata.specs.declared.Fate.TheVariants.{Refused, Unchanged, Mended}
use Rattle.errata.proofs.Fits.{told_fits, block_fits, tally_fits}
use Rattle.errata.proofs.Enough.{block_enough, told_enough, fate_enough}
use Rattle.mend.specs.declared.turns.Counts.{Counts}
use Rattle.mend.specs.declared.turns.Progress.{Progress}
use Rattle.mend.specs.declared.turns.Turn.{Turn}
use Rattle.mend.specs.Lines.{line_after, lines_from}
use Rattle.mend.specs.Turns.{no_counts, counted, joined, tells, block_put, told_put, Fed, goes_on, starts_next}
use Rattle.mend.specs.Turns.{last_line, Standing, standing, next, after_bytes, begun}
use Rattle.mend.specs.Laws.{put_on}
use Rattle.mend.specs.Put.{Put, both, put_from, put_of, closing, put_by, handed_from, handed_next, Due}

line_out : (c : Counts) (text : List ℕ) (n : ℕ) → length text ≡ 3920 → n ≤ 3800
    → take (min (n + length (last_line c)) (length text)) (put_at text n (last_line c)) ≡ take n text ++ last_line c
line_out c text n long h = put_after text (last_line c) n (omega (arith, tally_fits c.lines c.unchanged c.mended c.refused))

-- where n more lines can be counted, one more is the next number

record Few (n : ℕ) (c : Counts) : Type 0 where
  all : c.lines + n < largest
  whole : c.unchanged + n < largest
  cured : c.mended + n < largest
  lost : c.refused + n < largest

more_next : (n k : ℕ) → n + k < largest → more_of n ≡ suc n
more_next n k h = more_is n (omega arith) ∙ add-one n

counted_is : (n : ℕ) (c : Counts) (x : Fate) → Few n c → counted more_of c x ≡ counted suc c x
counted_is n c Refused h =
    let a = more_next c.lines n h.all in
    let b = more_next c.refused n h.lost in λ i. record { lines = a i; unchanged = c.unchanged; mended = c.mended; refused = b i }
counted_is n c Unchanged h =
    let a = more_next c.lines n h.all in
    let b = more_next c.unchanged n h.whole in λ i. record { lines = a i; unchanged = b i; mended = c.mended; refused = c.refused }
counted_is n c Mended h =
    let a = more_next c.lines n h.all in
    let b = more_next c.mended n h.cured in λ i. record { lines = a i; unchanged = c.unchanged; mended = b i; refused = c.refused }

few_less : (n : ℕ) (c : Counts) → Few (suc n) c → Few n c
few_less n c h = record { all = omega (arith, h.all); whole = omega (arith, h.whole); cured = omega (arith, h.cured); lost = omega (arith, h.lost) }

few_next : (n : ℕ) (c : Counts) (x : Fate) → Few (suc n) c → Few n (counted suc c x)
few_next n c Refused h = record { all = omega (arith, h.all); whole = omega (arith, h.whole); cured = omega (arith, h.cured); lost = omega (arith, h.lost) }
few_next n c Unchanged h =
    record { all = omega (arith, h.all); whole = omega (arith, h.whole); cured = omega (arith, h.cured); lost = omega (arith, h.lost) }
few_next n c Mended h = record { all = omega (arith, h.all); whole = omega (arith, h.whole); cured = omega (arith, h.cured); lost = omega (arith, h.lost) }

-- how far it is read when lines were counted and n bytes are kept since
abbrev progress : Mark → ℕ → Counts → Progress
progress m n c = record { mark = m; kept = n; counts = c }

-- a line's block and what is told of it are put whole, and it is counted

module _ (f : Family) (m : Mark) (p : List ℕ) (n : ℕ) (c : Counts) (room out text : List ℕ) (kept : Keeps room n p) (wide : length out ≡ 771)
    (long : length text ≡ 3920) (k : ℕ) (few : Few k c) where
  abbrev g : Progress
  g = progress m n c

  abbrev told : Turn
  told = tells f room g (length out) (length text)

  abbrev text_of : List ℕ
  text_of = told_of f (more_of c.lines) (take n room)

  abbrev after : Counts
  after = counted suc c (fate_of f p)

  block_out : take told.bytes (block_put f room g out) ≡ block_of f p
  block_out =
      put_out out (block_of f (take n room)) (omega (arith, block_fits f (take n room))) ∙ ap (block_of f) kept.bytes ∙ block_enough f p

  told_out : take told.count (told_put f room g text) ≡ told_of f (suc c.lines) p
  told_out =
      put_out text text_of (omega (arith, told_fits f (more_of c.lines) (take n room)))
      ∙ ap (λ i. told_of f i (take n room)) (more_next c.lines k few.all)
      ∙ ap (told_of f (suc c.lines)) kept.bytes
      ∙ told_enough f (suc c.lines) p

  told_most : told.count ≤ 3800
  told_most = omega (arith, told_fits f (more_of c.lines) (take n room), min-le_left (length text_of) (length text))

  told_on : told.progress ≡ progress Open 0 after
  told_on =
      ap (λ x. progress Open 0 (counted more_of c x)) (ap (fate_of f) kept.bytes ∙ fate_enough f p)
      ∙ ap (progress Open 0) (counted_is k c (fate_of f p) few)

  told_wide : length (block_put f room g out) ≡ 771
  told_wide = put_length out (block_of f (take n room)) 0 ∙ wide

  told_long : length (told_put f room g text) ≡ 3920
  told_long = put_length text text_of 0 ∙ long

  -- at the end

  abbrev close_by : Bool → Put
  close_by t =
      let end = cond t (record { progress = g; bytes = 0; count = 0 }) told in
      let line = last_line end.progress.counts in
      let text' = cond t text (told_put f room g text) in
      record {
        blocks = take end.bytes (cond t out (block_put f room g out));
        told = take (min (end.count + length line) (length text')) (put_at text' end.count line);
      }

  close_by_lem : (t : Bool) → close_by t ≡ put_from f c (cond t [] (p ∷ []))
  unfolding put_from
  close_by_lem true = let line = line_out c text 0 long (omega arith) in λ i. record { blocks = []; told = line i }
  close_by_lem false =
      let block = block_out ∙ sym (append-nil (block_of f p)) in
      let line = line_out told.progress.counts (told_put f room g text) told.count told_long told_most
      ∙ ap (λ l. l ++ last_line told.progress.counts) told_out
      ∙ ap (λ (h : Progress). told_of f (suc c.lines) p ++ last_line h.counts) told_on in λ i. record { blocks = block i; told = line i }

  closes : closing f (standing room g out text) ≡ put_from f c (lines_from m p [])
  unfolding lines_from
  closes = ap close_by (none p kept.count) ∙ close_by_lem (eqb (length p) 0)
    where
      none : (q : List ℕ) → n ≡ min (length q) 800 → eqb n 0 ≡ eqb (length q) 0
      none [] e = eq-eqb n 0 e
      none (x ∷ q) e =
          let some : 1 ≤ min (suc (length q)) 800 = le-min {k = 1} {a = suc (length q)} {b = 800} (omega arith) (omega arith) in
          ne_eqb n 0 (λ z. omega arith) ∙ sym (eqb-suc-zero (length q))

-- what is put out for what is still to come

abbrev Claim : Family → List ℕ → Type 0
Claim f s =
    (m : Mark) (p : List ℕ) (n : ℕ) (c : Counts) (room out text : List ℕ) → Keeps room n p → length out ≡ 771 → length text ≡ 3920
    → Few (length s) c → put_by f (standing room (progress m n c) out text) s ≡ put_from f c (lines_from m p s)

claim_none : (f : Family) → Claim f []
unfolding put_by
claim_none f m p n c room out text kept wide long few = closes f m p n c room out text kept wide long 0 few

module _ (f : Family) (b : ℕ) (s : List ℕ) (ih : Claim f s) (m : Mark) (p : List ℕ) (n : ℕ) (c : Counts) (room out text : List ℕ)
    (kept : Keeps room n p) (wide : length out ≡ 771) (long : length text ≡ 3920) (few : Few (suc (length s)) c) where
  abbrev at : Progress
  at = progress m n c

  abbrev fed_by : Bool → Fed
  fed_by t = cond t (goes_on room at b out text) (starts_next f room at b out text)

  abbrev hands : Fed → Put
  hands t = record { blocks = take t.turn.bytes t.out; told = take t.turn.count t.text }

  abbrev later : Fed → Put
  later t = put_by f (record { progress = t.turn.progress; room = t.room; out = t.out; text = t.text }) s

  step : (t : Bool) → both (hands (fed_by t)) (later (fed_by t))
      ≡ put_from f c (cond t (lines_from (line_after m b) (p ++ (b ∷ [])) s) (p ∷ lines_from (line_after Open b) (b ∷ []) s))
  unfolding put_from
  step true =
      ih (line_after m b) (p ++ (b ∷ [])) (min (n + 1) (length room)) c (put_at room n (b ∷ [])) out text
      (keeps_more room n p b kept) wide long (few_less (length s) c few)
  step false =
      let room' = put_at room 0 (b ∷ []) in
      let out' = block_put f room at out in
      let text' = told_put f room at text in
      let c' = counted suc c (fate_of f p) in
      let first = keeps_more room 0 [] b (keeps_none room kept.size) in
      let one = block_out f m p n c room out text kept wide long (suc (length s)) few in
      let two = told_out f m p n c room out text kept wide long (suc (length s)) few in
      let on = told_on f m p n c room out text kept wide long (suc (length s)) few in
      let then = ap (λ g. put_by f (standing room' (joined (length room) g b) out' text') s) on
      ∙ ih (line_after Open b) (b ∷ []) (min (0 + 1) (length room)) c' room' out' text' first
      (told_wide f m p n c room out text kept wide long (suc (length s)) few)
      (told_long f m p n c room out text kept wide long (suc (length s)) few)
      (few_next (length s) c (fate_of f p) few) in λ i. both (record { blocks = one i; told = two i }) (then i)

claim_more : (f : Family) (b : ℕ) (s : List ℕ) → Claim f s → Claim f (b ∷ s)
unfolding put_by lines_from
claim_more f b s ih m p n c room out text kept wide long few = step f b s ih m p n c room out text kept wide long few (is_joined m b)

claim : (f : Family) (s : List ℕ) → Claim f s
claim f [] = claim_none f
claim f (b ∷ s) = claim_more f b s (claim f s)

pub put : (f : Family) (s : List ℕ) → length s < largest → put_by f begun s ≡ put_of f s
unfolding begun
put f s h =
    claim f s Open [] 0 no_counts (replicate 800 0) (replicate 771 0) (replicate 3920 0) (keeps_none (replicate 800 0) refl) refl refl
    (record { all = omega arith; whole = omega arith; cured = omega arith; lost = omega arith })

-- part after part, whatever the parts are

pub next_out : (f : Family) (s : Standing) (rest : List ℕ) → (after : Put) × (put_by f s rest ≡ both (handed_next f s rest) after)
unfolding put_by
next_out f s [] =
    let last = closing f s in
    let b = sym (append-nil last.blocks) in
    let t = sym (append-nil last.told) in (record { blocks = []; told = [] }, λ i. record { blocks = b i; told = t i })
next_out f s (b ∷ l) = (put_by f (next f s b) l, refl)

-- what is due comes, in what is put out for its listing, right after what the bytes before it hand over
pub due_put : (f : Family) (block text : List ℕ) (due : Due f block text) → length (due.0 ++ due.1) < largest
    → (after : Put)
    × (put_of f (due.0 ++ due.1) ≡ both (handed_from f begun due.0) (both (record { blocks = block; told = text }) after))
due_put f block text due h =
    let file = due.0 in
    let rest = due.1 in
    let all = next_out f (after_bytes f begun file) rest in
    let is = all.1 ∙ ap (λ p. both p all.0) (sym due.2) in
    (all.0, sym (put f (file ++ rest) h) ∙ put_on f file rest begun ∙ ap (both (handed_from f begun file)) is)
