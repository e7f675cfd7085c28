-- Laws of the turns: what is told of a line that has ended, what a byte leaves, and where many bytes lead.
use Prim.Native.Nat.{ℕ, ◌+◌, ◌-◌, ◌<◌, ◌≤◌, min}
use mathlib.Core.Path.{◌≡◌, refl, sym, ap, subst, ◌∙◌}
use mathlib.Core.Bool.{Bool, true, false, cond}
use mathlib.Core.List.{List, [], ◌∷◌, ◌++◌}
use native.Mathlib.Nat.{zero-add, min-le_right}
use native.Mathlib.Numerals.{add-one}
use native.Mathlib.Omega.{arith}
use borrow.Rule.Slice.PartMut.{put_mid, mid_of}
use lib.Dec.{eqb}
use lib.ListN.{length, get_or, take, drop, drop_of_length-le}
use lib.Seq.{drop-cons}
use Rattle.units.specs.declared.kinds.Family.{Family}
use Rattle.pieces.specs.Pieces.{is_joined}
use Rattle.pieces.specs.declared.Mark.TheVariants.{Open}
use Rattle.figures.specs.Rooms.{put_at, Puts}
use Rattle.figures.proofs.Bytes.{length_mid}
use Rattle.figures.proofs.Putting.{put_length, lay_put, puts_within}
use Rattle.files.specs.Counting.{more_of}
use Rattle.errata.specs.Errata.{block_of, told_of, Tells}
use Rattle.errata.specs.declared.Told.{Told}
use Rattle.mend.specs.declared.turns.Counts.{Counts}
use Rattle.mend.specs.declared.turns.Progress.{Progress}
use Rattle.mend.specs.declared.turns.Turn.{Turn}
use Rattle.mend.specs.declared.turns.Last.{Last}
use Rattle.mend.specs.Turns.{counted, joined, line_in, tells, block_put, told_put, Fed, goes_on, starts_next, fed, Feeds, last_line}
use Rattle.mend.specs.Turns.{finished, finished_out, finished_text, Closes, Standing, next, after_bytes, begun, standing, Reached}
use Rattle.mend.specs.Laws.{after_append}
use Rattle.mend.specs.Put.{handed, closing, Due}

-- a line that was told, and counted by what became of it

module _ (f : Family) (room : List ℕ) (g : Progress) (out text : List ℕ) (number : ℕ) (more : number ≡ more_of g.counts.lines) (r : Told)
    (out' text' : List ℕ) (told : Tells f number (line_in room g) out text r out' text') where
  pub told_so : (all : Counts) → all ≡ counted more_of g.counts r.fate
      → record { progress = record { mark = Open; kept = 0; counts = all }; bytes = r.bytes; count = r.count } ≡ tells f room g (length out) (length text)
  told_so all e =
      let e' = e ∙ ap (counted more_of g.counts) told.1.1 in
      let n = told.0.0 ∙ ap (λ k. min k (length out)) (zero-add _) in
      let m = told.1.0.0 ∙ ap (λ k. min k (length text)) (zero-add _) ∙ ap (λ k. min (length (told_of f k (line_in room g))) (length text)) more in
      λ i. record { progress = record { mark = Open; kept = 0; counts = e' i }; bytes = n i; count = m i }

  pub told_text_so : text' ≡ told_put f room g text
  told_text_so = told.1.0.1 ∙ ap (λ k. put_at text 0 (told_of f k (line_in room g))) more

-- a byte that joins the line, and one that starts the next

abbrev fed_by : Family → List ℕ → Progress → ℕ → List ℕ → List ℕ → Bool → Fed
fed_by f room g b out text t = cond t (goes_on room g b out text) (starts_next f room g b out text)

module _ (f : Family) (room : List ℕ) (g : Progress) (b : ℕ) (out text : List ℕ) (r : Turn) (room' out' text' : List ℕ) where
  so : (came : Fed) → fed f room g b out text ≡ came → r ≡ came.turn → room' ≡ came.room → out' ≡ came.out → text' ≡ came.text
      → Feeds f room g b out text r room' out' text'
  so came e p q o s = (
    p ∙ sym (ap (λ (t : Fed). t.turn) e),
    (q ∙ sym (ap (λ (t : Fed). t.room) e), (o ∙ sym (ap (λ (t : Fed). t.out) e), s ∙ sym (ap (λ (t : Fed). t.text) e))),
  )

  pub feeds_on : is_joined g.mark b ≡ true → r ≡ record { progress = joined (length room) g b; bytes = 0; count = 0 }
      → room' ≡ put_at room g.kept (b ∷ []) → out' ≡ out → text' ≡ text → Feeds f room g b out text r room' out' text'
  feeds_on e p q o s = so (goes_on room g b out text) (ap (fed_by f room g b out text) e) p q o s

  pub feeds_next : (t : Turn) → is_joined g.mark b ≡ false → t ≡ tells f room g (length out) (length text)
      → r ≡ record { progress = joined (length room) t.progress b; bytes = t.bytes; count = t.count }
      → room' ≡ put_at room t.progress.kept (b ∷ []) → out' ≡ block_put f room g out → text' ≡ told_put f room g text
      → Feeds f room g b out text r room' out' text'
  feeds_next t e et p q o s =
      so (starts_next f room g b out text) (ap (fed_by f room g b out text) e)
      (p ∙ ap (λ (t : Turn). record { progress = joined (length room) t.progress b; bytes = t.bytes; count = t.count }) et)
      (q ∙ ap (λ (t : Turn). put_at room t.progress.kept (b ∷ [])) et)
      o s

-- the listing's end

finished_fits : (f : Family) (room : List ℕ) (g : Progress) (outN textN : ℕ)
    → ((finished f room g outN textN).bytes ≤ outN) × ((finished f room g outN textN).count ≤ textN)
finished_fits f room g outN textN = by (eqb g.kept 0)
  where
    end : Bool → Turn
    end t = cond t (record { progress = g; bytes = 0; count = 0 }) (tells f room g outN textN)

    by : (t : Bool) → ((end t).bytes ≤ outN) × ((end t).count ≤ textN)
    by true = (omega arith, omega arith)
    by false = (min-le_right _ outN, min-le_right _ textN)

finished_long : (f : Family) (room : List ℕ) (g : Progress) (out : List ℕ) → length (finished_out f room g out) ≡ length out
finished_long f room g out = by (eqb g.kept 0)
  where
    by : (t : Bool) → length (cond t out (block_put f room g out)) ≡ length out
    by true = refl
    by false = put_length out (block_of f (line_in room g)) 0

-- a text put at the start of the room that is left after n bytes
puts_part : (room t last : List ℕ) (n r : ℕ) → n ≤ length room → Puts (mid_of n (length room - n) room) 0 t r last
    → Puts room n t (n + r) (put_mid n (length room - n) room last)
puts_part room t last n r h p = (omega (arith, p.0, length_mid n (length room - n) room (omega arith)), lay_put room t last n h p.1)

module _ (f : Family) (room : List ℕ) (g : Progress) (out text : List ℕ) (came : Turn) (one : List ℕ)
    (ec : came ≡ finished f room g (length out) (length text)) where
  pub finish_fits : length one ≡ length text → came.count ≤ length one
  finish_fits h = omega (arith, ap (λ (t : Turn). t.count) ec, (finished_fits f room g (length out) (length text)).1)

  pub closes_so : (out' last : List ℕ) (r : ℕ) → out' ≡ finished_out f room g out → one ≡ finished_text f room g text → length one ≡ length text
      → Puts (mid_of came.count (length one - came.count) one) 0 (last_line came.progress.counts) r last
      → Closes f room g out text (record { bytes = came.bytes; count = came.count + r }) out'
      (put_mid came.count (length one - came.count) one last)
  closes_so out' last r eb eo long p =
      let text' = put_mid came.count (length one - came.count) one last in
      let put = puts_part one (last_line came.progress.counts) last came.count r (finish_fits long) p in
      let own = subst (λ o. Puts o came.count (last_line came.progress.counts) (came.count + r) text') eo put in (
        ap (λ (t : Turn). t.bytes) ec,
        (eb, subst (λ (h : Turn). Puts (finished_text f room g text) h.count (last_line h.progress.counts) (came.count + r) text') ec own),
      )

pub closes_fits : (f : Family) (room : List ℕ) (g : Progress) (out text : List ℕ) (r : Last) (out' text' : List ℕ)
    → Closes f room g out text r out' text' → (r.bytes ≤ length out') × (r.count ≤ length text')
closes_fits f room g out text r out' text' h =
    let fits = finished_fits f room g (length out) (length text) in (
      omega (arith, h.0, fits.0, ap length h.1.0, finished_long f room g out),
      puts_within (finished_text f room g text) (finished f room g (length out) (length text)).count _ h.1.1,
    )

-- what a byte leaves is within its rooms, and they are as long as before

module _ (f : Family) (room : List ℕ) (g : Progress) (b : ℕ) (out text : List ℕ) where
  abbrev leaves : Bool → Fed
  leaves = fed_by f room g b out text

  fed_fits : ((fed f room g b out text).turn.bytes ≤ length out) × ((fed f room g b out text).turn.count ≤ length text)
  fed_fits = by (is_joined g.mark b)
    where
      by : (t : Bool) → ((leaves t).turn.bytes ≤ length out) × ((leaves t).turn.count ≤ length text)
      by true = (omega arith, omega arith)
      by false = (min-le_right _ (length out), min-le_right _ (length text))

  fed_kept : (fed f room g b out text).turn.progress.kept ≤ length room
  fed_kept = by (is_joined g.mark b)
    where
      by : (t : Bool) → (leaves t).turn.progress.kept ≤ length room
      by true = min-le_right _ (length room)
      by false = min-le_right _ (length room)

  fed_room : length (fed f room g b out text).room ≡ length room
  fed_room = by (is_joined g.mark b)
    where
      by : (t : Bool) → length (leaves t).room ≡ length room
      by true = put_length room (b ∷ []) g.kept
      by false = put_length room (b ∷ []) 0

-- what a turn of the code leaves, where it stood at s
module _ (f : Family) (s : Standing) (b : ℕ) (r : Turn) (room out text : List ℕ)
    (h : Feeds f s.room s.progress b s.out s.text r room out text) where
  pub turn_fits : (r.bytes ≤ length s.out) × (r.count ≤ length s.text)
  turn_fits =
      let fits = fed_fits f s.room s.progress b s.out s.text in
      (omega (arith, ap (λ (t : Turn). t.bytes) h.0, fits.0), omega (arith, ap (λ (t : Turn). t.count) h.0, fits.1))

  pub turn_next : next f s b ≡ standing room r.progress out text
  turn_next = sym (λ i. record { progress = (h.0 i).progress; room = h.1.0 i; out = h.1.1.0 i; text = h.1.1.1 i })

-- byte after byte

pub after_more : (f : Family) (s : Standing) (bytes : List ℕ) (i : ℕ) → i < length bytes
    → after_bytes f s (drop i bytes) ≡ after_bytes f (next f s (get_or bytes i 0)) (drop (i + 1) bytes)
unfolding after_bytes
after_more f s bytes i h = rw (drop-cons bytes i 0 h, add-one i)

pub after_none : (f : Family) (s : Standing) (bytes : List ℕ) (i : ℕ) → length bytes ≤ i → after_bytes f s (drop i bytes) ≡ s
unfolding after_bytes
after_none f s bytes i h = rw (drop_of_length-le bytes h)

after_kept : (f : Family) (l : List ℕ) (s : Standing) → s.progress.kept ≤ length s.room
    → (after_bytes f s l).progress.kept ≤ length (after_bytes f s l).room
unfolding after_bytes
after_kept f [] s h = h
after_kept f (b ∷ l) s h =
    let kept = fed_kept f s.room s.progress b s.out s.text in
    after_kept f l (next f s b) (omega (arith, kept, fed_room f s.room s.progress b s.out s.text))

-- where the code has come to: what is kept there is within the room; one byte on, and many; and what is handed over there is due

module _ (f : Family) (room : List ℕ) (g : Progress) (out text : List ℕ) (at : Reached f room g out text) where
  abbrev here : Standing
  here = standing room g out text

  pub reached_kept : g.kept ≤ length room
  unfolding begun
  reached_kept = subst (λ (s : Standing). s.progress.kept ≤ length s.room) at.1 (after_kept f at.0 begun (omega arith))

  pub reached_on : (bytes : List ℕ) (room' : List ℕ) (g' : Progress) (out' text' : List ℕ)
      → after_bytes f here bytes ≡ standing room' g' out' text' → Reached f room' g' out' text'
  reached_on bytes room' g' out' text' e = (at.0 ++ bytes, after_append f at.0 bytes begun ∙ ap (λ s. after_bytes f s bytes) at.1 ∙ e)

  pub reached_next : (b : ℕ) (r : Turn) (room' out' text' : List ℕ) → Feeds f room g b out text r room' out' text'
      → Reached f room' r.progress out' text'
  unfolding after_bytes
  reached_next b r room' out' text' h = reached_on (b ∷ []) room' r.progress out' text' (turn_next f here b r room' out' text' h)

  pub byte_due : (b : ℕ) (r : Turn) (room' out' text' : List ℕ) → Feeds f room g b out text r room' out' text'
      → Due f (take r.bytes out') (take r.count text')
  byte_due b r room' out' text' h = (
    at.0,
    b ∷ [],
    (λ i. record { blocks = take (h.0 i).bytes (h.1.1.0 i); told = take (h.0 i).count (h.1.1.1 i) }) ∙ ap (λ s. handed f s b) (sym at.1),
  )

  pub end_due : (r : Last) (out' text' : List ℕ) → Closes f room g out text r out' text' → Due f (take r.bytes out') (take r.count text')
  end_due r out' text' h = (
    at.0,
    [],
    (λ i. record { blocks = take (h.0 i) (h.1.0 i); told = take (h.1.1.0 i) (h.1.1.1 i) }) ∙ ap (closing f) (sym at.1),
  )
