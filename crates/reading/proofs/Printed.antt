-- What is printed of a file is the report of each of its pieces, whole, and the counts: `printed`; and what is handed over is part of it: `due_printed`.
use Prim.Native.Nat.{ℕ, suc, ◌+◌, ◌<◌, ◌≤◌, min}
use mathlib.Core.Path.{◌≡◌, refl, sym, ap, ◌∙◌}
use mathlib.Core.Bool.{Bool, true, false, cond}
use mathlib.Core.List.{List, [], ◌∷◌, ◌++◌, append-nil}
use native.Mathlib.Nat.{min-le_left, le-min}
use native.Mathlib.Omega.{arith}
use borrow.Author.Tests.{eq-eqb, ne_eqb}
use lib.Dec.{eqb, eqb-suc-zero}
use lib.ListN.{length, take, length-append, replicate}
use Rattle.figures.proofs.Decimal.{digits_length}
use Rattle.units.specs.declared.kinds.Family.{Family}
use Rattle.pieces.specs.Pieces.{is_joined, mark_after, fed_from}
use Rattle.pieces.specs.declared.Mark.{Mark}
use Rattle.pieces.specs.declared.Mark.TheVariants.{Open}
use Rattle.pieces.proofs.Fed.{fed_pieces}
use Rattle.figures.specs.Rooms.{put_at}
use Rattle.files.specs.Counting.{largest, more_of}
use Rattle.files.proofs.Counts.{more_is}
use Rattle.files.proofs.Kept.{Keeps, keeps_none, keeps_more}
use Rattle.files.proofs.Whole.{put_out, put_after}
use Rattle.reports.specs.Piece.{report_of}
use Rattle.figures.proofs.Places.{digits_most}
use Rattle.figures.proofs.Putting.{put_length}
use Rattle.reports.proofs.Fits.{report_fits}
use Rattle.reading.specs.declared.turns.Progress.{Progress}
use Rattle.reading.specs.declared.turns.Turn.{Turn}
use Rattle.reading.specs.Turns.{is_taken, joined, reported, told_text, Fed, goes_on, starts_next}
use Rattle.reading.specs.Turns.{last_line, Standing, next, after_bytes, begun}
use Rattle.reading.specs.Printed.{reports_from, printed_of, closing, printed_from, handed_from, handed_next, Due}
use Rattle.reading.specs.Laws.{printed_on}
use Rattle.reading.proofs.Kept.{report_kept, accepted_kept}

line_fits : (g : Progress) → length (last_line g) ≤ 87
line_fits g = simp (length-append, digits_length) (omega (arith, digits_most g.blocks, digits_most g.accepted, digits_most g.refused))

line_out : (g : Progress) (text : List ℕ) (n : ℕ) → length text ≡ 5367 → n ≤ 5280
    → take (min (n + length (last_line g)) (length text)) (put_at text n (last_line g)) ≡ take n text ++ last_line g
line_out g text n long h = put_after text (last_line g) n (omega (arith, line_fits g))

-- where it stands when k pieces were reported and p has come in since
abbrev standing : Mark → ℕ → ℕ → ℕ → ℕ → ℕ → ℕ → List ℕ → List ℕ → Standing
standing m n at on k a r room text = record {
  progress = record { mark = m; kept = n; place = at; next = on; blocks = k; accepted = a; refused = r };
  room = room;
  text = text;
}

-- a piece is reported whole, and counted

module _ (f : Family) (m : Mark) (p : List ℕ) (at on k a r n : ℕ) (room text : List ℕ) (kept : Keeps room n p) (long : length text ≡ 5367)
    (hk : k < largest) (ha : a ≤ k) (hr : r ≤ k) where
  abbrev g : Progress
  g = (standing m n at on k a r room text).progress

  abbrev told : Turn
  told = reported f room g (length text)

  abbrev report : List ℕ
  report = report_of f (more_of k) at (take n room)

  told_out : take told.count (told_text f room g text) ≡ report_of f (k + 1) at p
  told_out =
      let is : report ≡ report_of f (k + 1) at p = ap (λ i. report_of f i at (take n room)) (more_is k hk) ∙ report_kept f room n p kept (k + 1) at in
      put_out text report (omega (arith, report_fits f (more_of k) at (take n room))) ∙ is

  told_fits : told.count ≤ 5280
  told_fits = omega (arith, report_fits f (more_of k) at (take n room), min-le_left (length report) (length text))

  abbrev counted : Progress
  counted = record {
    mark = Open;
    kept = 0;
    place = on;
    next = on;
    blocks = k + 1;
    accepted = cond (is_taken f p) (a + 1) a;
    refused = cond (is_taken f p) r (r + 1);
  }

  told_on : told.progress ≡ counted
  told_on =
      let ek = more_is k hk in
      let ea : cond (is_taken f (take n room)) (more_of a) a ≡ cond (is_taken f p) (a + 1) a =
      ap (λ t. cond t (more_of a) a) (accepted_kept f room n p kept) ∙ ap (λ i. cond (is_taken f p) i a) (more_is a (omega arith)) in
      let er : cond (is_taken f (take n room)) r (more_of r) ≡ cond (is_taken f p) r (r + 1) =
      ap (λ t. cond t r (more_of r)) (accepted_kept f room n p kept) ∙ ap (λ i. cond (is_taken f p) r i) (more_is r (omega arith)) in
      λ i. record { mark = Open; kept = 0; place = on; next = on; blocks = ek i; accepted = ea i; refused = er i }

  told_long : length (told_text f room g text) ≡ 5367
  told_long = put_length text report 0 ∙ long

  -- at the end

  abbrev close_by : Bool → List ℕ
  close_by t =
      let out = cond t (record { progress = g; count = 0 }) told in
      let line = last_line out.progress in
      let text' = cond t text (told_text f room g text) in
      take (min (out.count + length line) (length text')) (put_at text' out.count line)

  close_by_lem : (t : Bool) → close_by t ≡ reports_from f k at a r (cond t [] (p ∷ []))
  unfolding reports_from
  close_by_lem true = line_out g text 0 long (omega arith)
  close_by_lem false =
      line_out told.progress (told_text f room g text) told.count told_long told_fits
      ∙ ap (λ l. l ++ last_line told.progress) told_out
      ∙ ap (λ h. report_of f (k + 1) at p ++ last_line h) told_on

  closes : closing f (standing m n at on k a r room text) ≡ reports_from f k at a r (fed_from m p [])
  unfolding fed_from
  closes = ap close_by (none p kept.count) ∙ close_by_lem (eqb (length p) 0)
    where
      none : (q : List ℕ) → n ≡ min (length q) 800 → eqb n 0 ≡ eqb (length q) 0
      none [] e = eq-eqb n 0 e
      none (x ∷ q) e =
          let some : 1 ≤ min (suc (length q)) 800 = le-min {k = 1} {a = suc (length q)} {b = 800} (omega arith) (omega arith) in
          ne_eqb n 0 (λ z. omega arith) ∙ sym (eqb-suc-zero (length q))

-- the reports of what is still to come

abbrev Claim : Family → List ℕ → Type 0
Claim f s =
    (m : Mark) (p : List ℕ) (at on k a r n : ℕ) (room text : List ℕ) → Keeps room n p → length text ≡ 5367
    → on ≡ at + length p → on + length s ≤ largest → k + length s < largest → a ≤ k → r ≤ k
    → printed_from f (standing m n at on k a r room text) s ≡ reports_from f k at a r (fed_from m p s)

claim_none : (f : Family) → Claim f []
unfolding printed_from
claim_none f m p at on k a r n room text kept long eo hs hk ha hr = closes f m p at on k a r n room text kept long (omega arith) ha hr

one_more : (t : Bool) (a r k : ℕ) → a ≤ k → r ≤ k → (cond t (a + 1) a ≤ k + 1) × (cond t r (r + 1) ≤ k + 1)
one_more true a r k ha hr = (omega arith, omega arith)
one_more false a r k ha hr = (omega arith, omega arith)

module _ (f : Family) (b : ℕ) (s : List ℕ) (ih : Claim f s) (m : Mark) (p : List ℕ) (at on k a r n : ℕ) (room text : List ℕ) (kept : Keeps room n p)
    (long : length text ≡ 5367) (eo : on ≡ at + length p) (hs : on + suc (length s) ≤ largest) (hk : k + suc (length s) < largest)
    (ha : a ≤ k) (hr : r ≤ k) where
  abbrev h : Progress
  h = (standing m n at on k a r room text).progress

  abbrev fed_by : Bool → Fed
  fed_by t = cond t (goes_on room h b text) (starts_next f room h b text)

  abbrev later : Fed → List ℕ
  later t = printed_from f (record { progress = t.turn.progress; room = t.room; text = t.text }) s

  next_is : more_of on ≡ on + 1
  next_is = more_is on (omega arith)

  step : (t : Bool) → take (fed_by t).turn.count (fed_by t).text ++ later (fed_by t)
      ≡ reports_from f k at a r (cond t (fed_from (mark_after m b) (p ++ (b ∷ [])) s) (p ∷ fed_from (mark_after Open b) (b ∷ []) s))
  unfolding reports_from
  step true =
      ih (mark_after m b) (p ++ (b ∷ [])) at (more_of on) k a r (min (n + 1) (length room)) (put_at room n (b ∷ [])) text
      (keeps_more room n p b kept) long (omega (arith, next_is, length-append p (b ∷ []))) (omega (arith, next_is)) (omega arith) ha hr
  step false =
      let room' = put_at room 0 (b ∷ []) in
      let text' = told_text f room h text in
      let a' = cond (is_taken f p) (a + 1) a in
      let r' = cond (is_taken f p) r (r + 1) in
      let few = one_more (is_taken f p) a r k ha hr in
      let first = keeps_more room 0 [] b (keeps_none room kept.size) in
      let long' = told_long f m p at on k a r n room text kept long (omega arith) ha hr in
      let then = ih (mark_after Open b) (b ∷ []) on (more_of on) (k + 1) a' r' (min (0 + 1) (length room)) room' text'
      first long' next_is (omega (arith, next_is)) (omega arith) few.0 few.1 in
      ap (λ l. l ++ later (fed_by false)) (told_out f m p at on k a r n room text kept long (omega arith) ha hr)
      ∙ ap (λ l. report_of f (k + 1) at p ++ l)
      (ap (λ g. printed_from f (record { progress = joined (length room) g b; room = room'; text = text' }) s)
      (told_on f m p at on k a r n room text kept long (omega arith) ha hr)
      ∙ then
      ∙ ap (λ i. reports_from f (k + 1) i a' r' (fed_from (mark_after Open b) (b ∷ []) s)) eo)

claim_more : (f : Family) (b : ℕ) (s : List ℕ) → Claim f s → Claim f (b ∷ s)
unfolding printed_from fed_from
claim_more f b s ih m p at on k a r n room text kept long eo hs hk ha hr = step f b s ih m p at on k a r n room text kept long eo hs hk ha hr (is_joined m b)

claim : (f : Family) (s : List ℕ) → Claim f s
claim f [] = claim_none f
claim f (b ∷ s) = claim_more f b s (claim f s)

pub printed : (f : Family) (s : List ℕ) → length s < largest → printed_from f begun s ≡ printed_of f s
unfolding begun
printed f s h =
    claim f s Open [] 0 0 0 0 0 0 (replicate 800 0) (replicate 5367 0) (keeps_none (replicate 800 0) refl) refl refl
    (omega arith) (omega arith) (omega arith) (omega arith)
    ∙ ap (reports_from f 0 0 0 0) (fed_pieces s)

-- part after part, whatever the parts are

next_out : (f : Family) (s : Standing) (rest : List ℕ) → (after : List ℕ) × (printed_from f s rest ≡ handed_next f s rest ++ after)
unfolding printed_from
next_out f s [] = ([], sym (append-nil _))
next_out f s (b ∷ l) = (printed_from f (next f s b) l, refl)

-- what is due comes, in what is printed of its file, right after what the bytes before it hand over
pub due_printed : (f : Family) (text : List ℕ) (due : Due f text) → length (due.0 ++ due.1) < largest
    → (after : List ℕ) × (printed_of f (due.0 ++ due.1) ≡ handed_from f begun due.0 ++ (text ++ after))
due_printed f text due h =
    let file = due.0 in
    let rest = due.1 in
    let out = next_out f (after_bytes f begun file) rest in
    let is = out.1 ∙ ap (λ l. l ++ out.0) (sym due.2) in
    (out.0, sym (printed f (file ++ rest) h) ∙ printed_on f file rest begun ∙ ap (λ l. handed_from f begun file ++ l) is)
