-- "Bytes past the terminator aren't copied", nor looked at: where the mended bytes read, the input up to its terminator says what they are.
use Prim.Native.Nat.{ℕ, zero, suc, ◌+◌, ◌<◌, ◌≤◌}
use mathlib.Core.Path.{◌≡◌, refl, sym, ap, ◌∙◌}
use mathlib.Core.Bool.{Bool, true, false, cond}
use mathlib.Core.List.{List, [], ◌∷◌, ◌++◌, append_assoc}
use native.Mathlib.Omega.{arith}
use borrow.Author.Tests.{ltb-true, ltb-false}
use lib.Dec.{ltb}
use lib.ListN.{length, take, drop, length-append, take-append-drop}
use lib.Seq.{length-take-le, take_at, drop_at, take-add}
use Rattle.std.specs.Prelude.{Ok}
use Rattle.figures.specs.Text.{cr, lf, end_bytes, star_bytes}
use Rattle.figures.proofs.Tests.{by_test}
use Rattle.words.specs.Records.{width}
use Rattle.words.specs.Reading.{word_size}
use Rattle.units.specs.declared.kinds.Family.{Family}
use Rattle.words.specs.declared.records.Word.{Word}
use Rattle.blocks.specs.Judging.{is_at, is_wide, first_at, block_from, judged}
use Rattle.blocks.specs.declared.answers.Reading.{Reading}
use Rattle.blocks.proofs.Rooms.{star_length}
use Rattle.listings.specs.Edits.{cr_kind}
use Rattle.listings.specs.Mending.{Mending, copied, put_before, joined, lacks_dot, word_mended, word_taken, is_end, blank_mended}
use Rattle.listings.specs.Mending.{end_mended, to_next, mended_from, mended}
use Rattle.listings.specs.Telling.{taken}
use Rattle.listings.proofs.Seen.{is_first, at_is, ends_on, lacks_on}
use Rattle.listings.proofs.Turns.{no_end, over, at_end, nothing_left, step, steps, taken_least, word_edits, blank_edits, word, word_most}
use Rattle.listings.proofs.Turns.{step_long, step_unended, last_word, end_on, to_kept, steps_on}
use Rattle.listings.proofs.Told.{taken_most}
use Rattle.listings.proofs.Reader.{judged_reads, read_end, read_none, read_word}
use Rattle.listings.proofs.Twice.{wide_kept}

-- from a place on where a word would start, when the mended bytes read as r: the bytes of the input that are taken, and what comes after them isn't looked at
record On (more : ℕ) (wide : Bool) (at : ℕ) (rest : List ℕ) (r : Reading) : Type 0 where
  own : List ℕ
  left : List ℕ
  whole : rest ≡ own ++ left
  some : 1 ≤ length own
  counts : length (mended_from more wide at rest).bytes ≡ length own + length (mended_from more wide at rest).edits
  past : (after : List ℕ) → (r.crlf ≡ false → is_at 10 after ≡ false) → mended_from more wide at (own ++ after) ≡ mended_from more wide at rest

-- a word, the byte in its blank's place, and then so
word_on : (more : ℕ) (wide : Bool) (at : ℕ) (rest : List ℕ) (r : Reading) → word_taken wide rest < length rest → is_end rest ≡ false
    → On more wide (at + to_next wide rest) (drop (to_next wide rest) rest) r → On (suc more) wide at rest r
word_on more wide at rest r long unended on =
    let size = word_taken wide rest in
    let to = to_next wide rest in
    let here = step wide at rest in
    let next = mended_from more wide (at + to) (drop to rest) in
    let own = take to rest ++ on.own in
    let left = on.left in
    let whole : rest ≡ own ++ left =
    sym (take-append-drop to rest) ∙ ap (λ t. take to rest ++ t) on.whole ∙ sym (append_assoc (take to rest) on.own left) in
    let blank = blank_edits (at + size) (drop size rest) in
    let taken = length-take-le to rest (omega arith) in
    let sized : length own ≡ to + length on.own = omega (arith, length-append (take to rest) on.own) in
    let lacks : lacks_dot own ≡ lacks_dot rest =
    sym (lacks_on own left (omega (arith, taken_least wide rest, on.some))) ∙ ap lacks_dot (sym whole) in
    let same : word_taken wide own ≡ size = λ i. cond (lacks i) (width wide + 6) (width wide + 7) in
    let held : word_taken wide own < length own = omega (arith, on.some) in
    let first : is_end own ≡ false = sym (ends_on own left (omega arith)) ∙ ap is_end (sym whole) ∙ unended in
    let there : to_next wide own ≡ to = sym (to_kept wide at own left held) ∙ ap (to_next wide) (sym whole) in
    let then : drop (to_next wide own) own ≡ on.own = ap (λ n. drop n own) there ∙ drop_at (take to rest) on.own to taken in
    let turn : (after : List ℕ) → mended_from (suc more) wide at (own ++ after) ≡ joined (step wide at own) (mended_from more wide (at + to) (on.own ++ after)) =
    λ after. steps_on wide at own after held more first ∙ (λ i. joined (step wide at own) (mended_from more wide (at + there i) (then i ++ after))) in
    record {
      own = own;
      left = left;
      whole = whole;
      some = omega (arith, on.some);
      counts =
          rw (steps more wide at rest unended)
          (omega (
            arith,
            length-append here.bytes next.bytes,
            length-append here.edits next.edits,
            length-append (word_mended wide at rest).edits (blank_mended (at + size) (drop size rest)).edits,
            step_long wide at rest long,
            word_edits wide at rest,
            on.counts,
          ));
      past = λ after h.
          turn after
          ∙ ap (joined (step wide at own)) (on.past after h ∙ ap (mended_from more wide (at + to)) on.whole)
          ∙ sym (turn left)
          ∙ ap (mended_from (suc more) wide at) (sym whole);
    }

-- a terminator
ends_so : (more : ℕ) (wide : Bool) (at : ℕ) (rest : List ℕ) (r : Reading) (own left : List ℕ) (m : Mending) → rest ≡ own ++ left → 1 ≤ length own
    → is_end own ≡ true → end_mended at rest ≡ m → length m.bytes ≡ length own + length m.edits
    → ((after : List ℕ) → (r.crlf ≡ false → is_at lf after ≡ false) → end_mended at (own ++ after) ≡ m) → On more wide at rest r
ends_so more wide at rest r own left m whole some end is counts past =
    let ends : (after : List ℕ) → is_end (own ++ after) ≡ true = λ after. ends_on own after some ∙ end in
    let here : mended_from more wide at rest ≡ m = at_end more wide at rest (ap is_end whole ∙ ends left) ∙ is in
    record {
      own = own;
      left = left;
      whole = whole;
      some = some;
      counts = rw here counts;
      past = λ after h. at_end more wide at (own ++ after) (ends after) ∙ past after h ∙ sym here;
    }

-- the mended bytes that are read begin with a terminator: a CR LF, a CR, or an LF that gets its CR
ended_on : (f : Family) (more : ℕ) (wide : Bool) (places at at' : ℕ) (rest : List ℕ) (ws : List Word) (r : Reading) → is_end rest ≡ true
    → (block_from f more wide places at' (mended_from more wide at rest).bytes ws).answer ≡ Ok r → On more wide at rest r
ended_on f more wide places at at' rest ws r q e =
    by_test (is_at cr rest) (λ c.
    by_test (is_at lf (drop 1 rest)) (λ l.
    let whole = at_is cr rest c ∙ ap (λ t. cr ∷ t) (at_is lf (drop 1 rest) l) in
    ends_so more wide at rest r (end_bytes true) (drop 1 (drop 1 rest)) (copied (end_bytes true)) whole (omega arith) refl (rw (c, l)) refl
    (λ after _. end_on at (end_bytes true) after (omega arith))) (λ l.
    let alone : mended_from more wide at rest ≡ copied (end_bytes false) = at_end more wide at rest q ∙ rw (c, l) in
    let told = ap (λ (r : Reading). r.crlf) (read_end f wide places at' (end_bytes false) ws r more refl (rw alone at e)) in
    ends_so more wide at rest r (end_bytes false) (drop 1 rest) (copied (end_bytes false)) (at_is cr rest c) (omega arith) refl (rw (c, l)) refl
    (λ after h. rw (is_first cr cr after, h told)))) (λ c.
    let l : is_at lf rest ≡ true = rw c at q in
    ends_so more wide at rest r (lf ∷ []) (drop 1 rest) (joined (put_before at cr_kind) (copied (lf ∷ []))) (at_is lf rest l) (omega arith) refl (rw (c, l)) refl
    (λ after _. rw (is_first cr lf after, is_first lf lf after)))

-- or with a word, which is there whole with a byte or an end in its blank's place: a shorter one is refused
goes_on : (f : Family) (more : ℕ) (wide : Bool) (places at at' x : ℕ) (l : List ℕ) (ws : List Word) (r : Reading) → is_end (x ∷ l) ≡ false
    → ((at at' : ℕ) (rest : List ℕ) (ws : List Word) → (block_from f more wide places at' (mended_from more wide at rest).bytes ws).answer ≡ Ok r
    → On more wide at rest r)
    → (block_from f (suc more) wide places at' (mended_from (suc more) wide at (x ∷ l)).bytes ws).answer ≡ Ok r → On (suc more) wide at (x ∷ l) r
goes_on f more wide places at at' x l ws r unended later e =
    let rest = x ∷ l in
    let size = word_taken wide rest in
    let to = to_next wide rest in
    let s = (step wide at rest).bytes in
    let t = (mended_from more wide (at + to) (drop to rest)).bytes in
    let w = read_word f wide places at' (s ++ t) ws r more (step_unended wide at x l t unended) (rw (steps more wide at rest unended) at e) in
    by_test (ltb size (length rest)) (λ q.
    let whole = ltb-true size (length rest) q in
    word_on more wide at rest r whole unended
    (later (at + to) _ (drop to rest) _ (rw (drop_at s t (word_size wide) (step_long wide at rest whole)) at w.next))) (λ q.
    let short = ltb-false size (length rest) q in
    let all : s ++ t ≡ word wide at rest = ap (λ (m : Mending). m.bytes) (sym (steps more wide at rest unended) ∙ last_word more wide at rest unended short) in
    absurd (omega (arith, w.long, ap length all, word_most wide at rest)))

from_on : (f : Family) (more : ℕ) (wide : Bool) (places at at' : ℕ) (rest : List ℕ) (ws : List Word) (r : Reading)
    → (block_from f more wide places at' (mended_from more wide at rest).bytes ws).answer ≡ Ok r → On more wide at rest r
from_on f zero wide places at at' rest ws r e =
    by_test (is_end rest) (λ q. ended_on f zero wide places at at' rest ws r q e)
    (λ q. absurd (read_none f wide places at' [] ws r refl (rw (over 0 wide at rest refl, no_end at rest q) at e)))
from_on f (suc more) wide places at at' [] ws r e =
    absurd (omega (arith, (read_word f wide places at' [] ws r more refl (rw (nothing_left (suc more) wide at) at e)).long))
from_on f (suc more) wide places at at' (x ∷ l) ws r e =
    by_test (is_end (x ∷ l)) (λ q. ended_on f (suc more) wide places at at' (x ∷ l) ws r q e)
    (λ q. goes_on f more wide places at at' x l ws r q (λ at at' rest ws reads. from_on f more wide places at at' rest ws r reads) e)

-- the whole block: a first `*` is taken too

after_star : (s : List ℕ) → drop (first_at (is_wide s)) (mended s).bytes ≡ (mended_from 32 (is_wide s) (first_at (is_wide s)) (drop (first_at (is_wide s)) s)).bytes
unfolding mended
after_star s = drop_at (star_bytes (is_wide s)) _ (first_at (is_wide s)) (star_length (is_wide s))

block_on : (f : Family) (s : List ℕ) (places : ℕ) (r : Reading) → (judged f (mended s).bytes places).answer ≡ Ok r
    → On 32 (is_wide s) (first_at (is_wide s)) (drop (first_at (is_wide s)) s) r
block_on f s places r e =
    from_on f 32 (is_wide s) places (first_at (is_wide s)) _ (drop (first_at (is_wide s)) s) _ r
    (rw (wide_kept s, after_star s) at (judged_reads f (mended s).bytes places r e))

taken_is : (s : List ℕ) (n : ℕ) → length (mended_from 32 (is_wide s) (first_at (is_wide s)) (drop (first_at (is_wide s)) s)).bytes
    ≡ n + length (mended_from 32 (is_wide s) (first_at (is_wide s)) (drop (first_at (is_wide s)) s)).edits → taken (mended s) ≡ first_at (is_wide s) + n
unfolding mended
taken_is s n e =
    let t = mended_from 32 (is_wide s) (first_at (is_wide s)) (drop (first_at (is_wide s)) s) in
    omega (arith, star_length (is_wide s), length-append (star_bytes (is_wide s)) t.bytes)

mended_as : (s u : List ℕ) → is_wide u ≡ is_wide s → mended_from 32 (is_wide s) (first_at (is_wide s)) (drop (first_at (is_wide s)) u)
    ≡ mended_from 32 (is_wide s) (first_at (is_wide s)) (drop (first_at (is_wide s)) s) → mended u ≡ mended s
unfolding mended
mended_as s u wide e = rw (wide, e)

wide_taken : (s after : List ℕ) (n : ℕ) → 1 ≤ n → 1 ≤ length s → is_wide (take n s ++ after) ≡ is_wide s
wide_taken [] after n h some = absurd (omega arith)
wide_taken (x ∷ s) after zero h some = absurd (omega arith)
wide_taken (x ∷ s) after (suc n) h some = refl

pub never_looks_past : (f : Family) (s : List ℕ) (places : ℕ) (r : Reading) (more : List ℕ) → (judged f (mended s).bytes places).answer ≡ Ok r
    → (r.crlf ≡ false → is_at lf more ≡ false) → mended (take (taken (mended s)) s ++ more) ≡ mended s
never_looks_past f s places r more e apart =
    let first = first_at (is_wide s) in
    let on = block_on f s places r e in
    let own = on.own in
    let n = length own in
    let size = taken_is s n on.counts in
    let inside : first + n ≤ length s = omega (arith, taken_most s) in
    let mine : take n (drop first s) ≡ own = ap (take n) on.whole ∙ take_at own on.left n refl in
    let cut : take (first + n) s ++ more ≡ take first s ++ (own ++ more) =
    ap (λ t. t ++ more) (take-add first n s ∙ ap (λ t. take first s ++ t) mine) ∙ append_assoc (take first s) own more in
    let left = ap (drop first) cut ∙ drop_at (take first s) (own ++ more) first (length-take-le first s (omega arith)) in
    rw size
    (mended_as s (take (first + n) s ++ more) (wide_taken s more (first + n) (omega (arith, on.some)) (omega (arith, on.some)))
    (rw left (on.past more apart)))
