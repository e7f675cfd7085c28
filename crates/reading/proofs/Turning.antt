-- Laws of the turns: what is reported of a piece that has ended, what a byte leaves, and where many bytes lead.
use Prim.Native.Nat.{ℕ, ◌+◌, ◌-◌, ◌≤◌, min}
use mathlib.Core.Path.{◌≡◌, sym, ap, subst, ◌∙◌}
use mathlib.Core.Bool.{Bool, true, false, cond}
use mathlib.Core.List.{List, [], ◌∷◌, ◌++◌}
use native.Mathlib.Nat.{zero-add, min-le_right}
use native.Mathlib.Omega.{arith}
use borrow.Rule.Slice.PartMut.{put_mid, mid_of}
use lib.Dec.{eqb}
use lib.ListN.{length, take}
use Rattle.units.specs.declared.kinds.Family.{Family}
use Rattle.pieces.specs.Pieces.{is_joined}
use Rattle.pieces.specs.declared.Mark.TheVariants.{Open}
use Rattle.figures.specs.Rooms.{put_at, Puts}
use Rattle.figures.proofs.Bytes.{length_mid}
use Rattle.figures.proofs.Putting.{put_length, lay_put, puts_within}
use Rattle.files.specs.Counting.{more_of}
use Rattle.reports.specs.Piece.{report_of}
use Rattle.reports.specs.declared.piece.Reported.{Reported}
use Rattle.reading.specs.declared.turns.Progress.{Progress}
use Rattle.reading.specs.declared.turns.Turn.{Turn}
use Rattle.reading.specs.Turns.{is_taken, joined, reported, told_text, Fed, goes_on, starts_next, fed, Feeds}
use Rattle.reading.specs.Turns.{last_line, finished, finished_text, Closes, Standing, next, after_bytes, begun, Reached}
use Rattle.reading.specs.Printed.{handed, closing, Due}
use Rattle.reading.specs.Laws.{after_append}

-- a report that was put, and the counts after it

module _ (f : Family) (room : List ℕ) (g : Progress) (text : List ℕ) (number : ℕ) (more : number ≡ more_of g.blocks) where
  abbrev piece : List ℕ
  piece = take g.kept room

  abbrev after : ℕ → ℕ → ℕ → Progress
  after blocks accepted refused = record {
    mark = Open;
    kept = 0;
    place = g.next;
    next = g.next;
    blocks = blocks;
    accepted = accepted;
    refused = refused;
  }

  pub told_so : (r : Reported) (accepted refused : ℕ) → r.count ≡ min (0 + length (report_of f number g.place piece)) (length text)
      → r.accepted ≡ is_taken f piece
      → accepted ≡ cond r.accepted (more_of g.accepted) g.accepted → refused ≡ cond r.accepted g.refused (more_of g.refused)
      → record { progress = after number accepted refused; count = r.count } ≡ reported f room g (length text)
  told_so r accepted refused n is a b =
      let a' = a ∙ ap (λ t. cond t (more_of g.accepted) g.accepted) is in
      let b' = b ∙ ap (λ t. cond t g.refused (more_of g.refused)) is in
      let n' = n ∙ ap (λ k. min k (length text)) (zero-add _) ∙ ap (λ k. min (length (report_of f k g.place piece)) (length text)) more in
      λ i. record { progress = after (more i) (a' i) (b' i); count = n' i }

  pub told_text_so : (text' : List ℕ) → text' ≡ put_at text 0 (report_of f number g.place piece) → text' ≡ told_text f room g text
  told_text_so text' e = e ∙ ap (λ k. put_at text 0 (report_of f k g.place piece)) more

-- a byte that joins the piece, and one that starts the next

module _ (f : Family) (room : List ℕ) (g : Progress) (b : ℕ) (text : List ℕ) (r : Turn) (room' text' : List ℕ) where
  so : (came : Fed) → fed f room g b text ≡ came → r ≡ came.turn → room' ≡ came.room → text' ≡ came.text → Feeds f room g b text r room' text'
  so came e p q s = (p ∙ sym (ap (λ (t : Fed). t.turn) e), (q ∙ sym (ap (λ (t : Fed). t.room) e), s ∙ sym (ap (λ (t : Fed). t.text) e)))

  pub feeds_on : is_joined g.mark b ≡ true → r.progress ≡ joined (length room) g b → r.count ≡ 0 → room' ≡ put_at room g.kept (b ∷ []) → text' ≡ text
      → Feeds f room g b text r room' text'
  feeds_on e p n q s =
      so (goes_on room g b text) (ap (λ t. cond t (goes_on room g b text) (starts_next f room g b text)) e) (λ i. record { progress = p i; count = n i }) q s

  pub feeds_next : (t : Turn) → is_joined g.mark b ≡ false → t ≡ reported f room g (length text)
      → r ≡ record { progress = joined (length room) t.progress b; count = t.count }
      → room' ≡ put_at room t.progress.kept (b ∷ []) → text' ≡ told_text f room g text → Feeds f room g b text r room' text'
  feeds_next t e et p q s =
      so (starts_next f room g b text) (ap (λ t. cond t (goes_on room g b text) (starts_next f room g b text)) e)
      (p ∙ ap (λ (t : Turn). record { progress = joined (length room) t.progress b; count = t.count }) et)
      (q ∙ ap (λ (t : Turn). put_at room t.progress.kept (b ∷ [])) et)
      s

finished_fits : (f : Family) (room : List ℕ) (g : Progress) (size : ℕ) → (finished f room g size).count ≤ size
finished_fits f room g size = by (eqb g.kept 0)
  where
    by : (t : Bool) → (cond t (record { progress = g; count = 0 }) (reported f room g size)).count ≤ size
    by true = omega arith
    by false = min-le_right _ size

-- a text put at the start of the room that is left after n bytes
puts_part : (room t last : List ℕ) (n r : ℕ) → n ≤ length room → Puts (mid_of n (length room - n) room) 0 t r last
    → Puts room n t (n + r) (put_mid n (length room - n) room last)
puts_part room t last n r h p = (omega (arith, p.0, length_mid n (length room - n) room (omega arith)), lay_put room t last n h p.1)

module _ (f : Family) (room : List ℕ) (g : Progress) (text : List ℕ) (came : Turn) (one : List ℕ) (ec : came ≡ finished f room g (length text)) where
  pub finish_fits : length one ≡ length text → came.count ≤ length one
  finish_fits h = omega (arith, ap (λ (t : Turn). t.count) ec, finished_fits f room g (length text))

  pub closes_so : (last : List ℕ) (r : ℕ) → one ≡ finished_text f room g text → length one ≡ length text
      → Puts (mid_of came.count (length one - came.count) one) 0 (last_line came.progress) r last
      → Closes f room g text (came.count + r) (put_mid came.count (length one - came.count) one last)
  closes_so last r eo long p =
      let text' = put_mid came.count (length one - came.count) one last in
      let put = puts_part one (last_line came.progress) last came.count r (finish_fits long) p in
      subst (λ (h : Turn). Puts (finished_text f room g text) h.count (last_line h.progress) (came.count + r) text') ec
      (subst (λ o. Puts o came.count (last_line came.progress) (came.count + r) text') eo put)

pub closes_fits : (f : Family) (room : List ℕ) (g : Progress) (text : List ℕ) (r : ℕ) (text' : List ℕ) → Closes f room g text r text' → r ≤ length text'
closes_fits f room g text r text' h = puts_within (finished_text f room g text) (finished f room g (length text)).count _ h

-- what a byte leaves is within its rooms, and they are as long as before

module _ (f : Family) (room : List ℕ) (g : Progress) (b : ℕ) (text : List ℕ) where
  abbrev fed_by : Bool → Fed
  fed_by t = cond t (goes_on room g b text) (starts_next f room g b text)

  fed_fits : (fed f room g b text).turn.count ≤ length text
  fed_fits = by (is_joined g.mark b)
    where
      by : (t : Bool) → (fed_by t).turn.count ≤ length text
      by true = omega arith
      by false = min-le_right _ (length text)

  fed_kept : (fed f room g b text).turn.progress.kept ≤ length room
  fed_kept = by (is_joined g.mark b)
    where
      by : (t : Bool) → (fed_by t).turn.progress.kept ≤ length room
      by true = min-le_right _ (length room)
      by false = min-le_right _ (length room)

  fed_room : length (fed f room g b text).room ≡ length room
  fed_room = by (is_joined g.mark b)
    where
      by : (t : Bool) → length (fed_by t).room ≡ length room
      by true = put_length room (b ∷ []) g.kept
      by false = put_length room (b ∷ []) 0

-- what a turn of the code leaves, where it stood at s
module _ (f : Family) (s : Standing) (b : ℕ) (r : Turn) (room text : List ℕ) (h : Feeds f s.room s.progress b s.text r room text) where
  pub turn_fits : r.count ≤ length s.text
  turn_fits = omega (arith, ap (λ (t : Turn). t.count) h.0, fed_fits f s.room s.progress b s.text)

  pub turn_next : next f s b ≡ record { progress = r.progress; room = room; text = text }
  turn_next = sym (λ i. record { progress = (h.0 i).progress; room = h.1.0 i; text = h.1.1 i })

-- byte after byte

after_kept : (f : Family) (l : List ℕ) (s : Standing) → s.progress.kept ≤ length s.room
    → (after_bytes f s l).progress.kept ≤ length (after_bytes f s l).room
unfolding after_bytes
after_kept f [] s h = h
after_kept f (b ∷ l) s h =
    after_kept f l (next f s b) (omega (arith, fed_kept f s.room s.progress b s.text, fed_room f s.room s.progress b s.text))

-- where the code has come to: what is kept there is within the room; one byte on, and many; and what is handed over there is due

module _ (f : Family) (room : List ℕ) (g : Progress) (text : List ℕ) (at : Reached f room g text) where
  abbrev here : Standing
  here = record { progress = g; room = room; text = text }

  pub reached_kept : g.kept ≤ length room
  unfolding begun
  reached_kept = subst (λ (s : Standing). s.progress.kept ≤ length s.room) at.1 (after_kept f at.0 begun (omega arith))

  pub reached_on : (bytes : List ℕ) (room' : List ℕ) (g' : Progress) (text' : List ℕ)
      → after_bytes f here bytes ≡ record { progress = g'; room = room'; text = text' } → Reached f room' g' text'
  reached_on bytes room' g' text' e = (at.0 ++ bytes, after_append f at.0 bytes begun ∙ ap (λ s. after_bytes f s bytes) at.1 ∙ e)

  pub reached_next : (b : ℕ) (r : Turn) (room' text' : List ℕ) → Feeds f room g b text r room' text' → Reached f room' r.progress text'
  unfolding after_bytes
  reached_next b r room' text' h = reached_on (b ∷ []) room' r.progress text' (turn_next f here b r room' text' h)

  pub byte_due : (b : ℕ) (r : Turn) (room' text' : List ℕ) → Feeds f room g b text r room' text' → Due f (take r.count text')
  byte_due b r room' text' h = (at.0, b ∷ [], (λ i. take (h.0 i).count (h.1.1 i)) ∙ ap (λ s. handed f s b) (sym at.1))

  pub end_due : (r : ℕ) (text' : List ℕ) → Closes f room g text r text' → Due f (take r text')
  end_due r text' h = (at.0, [], (λ i. take (h.0 i) (h.1 i)) ∙ ap (closing f) (sym at.1))
