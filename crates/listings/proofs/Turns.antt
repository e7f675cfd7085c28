-- One turn of the walk that mends: where it ends, what a word and its blank come to where it goes on, and that it doesn't look past them.
use Prim.Native.Nat.{ℕ, zero, suc, ◌+◌, ◌<◌, ◌≤◌}
use mathlib.Core.Path.{◌≡◌, refl, sym, ap, ◌∙◌}
use mathlib.Core.Bool.{Bool, true, false, cond, not, ◌&&◌, and-false}
use mathlib.Core.List.{List, [], ◌∷◌, ◌++◌, append_assoc, append-nil}
use native.Mathlib.Nat.{add-zero}
use native.Mathlib.Omega.{arith}
use borrow.Author.Tests.{lt-ltb, not-false}
use lib.Dec.{ltb}
use lib.ListN.{length, take, drop, length-append, length-take, length-drop, drop_of_length-le}
use lib.Seq.{take-add, take_all, take_at, drop_at, take-append-le, drop-append-le, length-take-le, get_or_at}
use Rattle.figures.specs.Text.{cr, lf, end_bytes}
use Rattle.figures.proofs.Tests.{by_test}
use Rattle.words.specs.Records.{width}
use Rattle.words.specs.Reading.{word_size}
use Rattle.words.proofs.Checks.{width_bounds}
use Rattle.blocks.specs.Judging.{is_at}
use Rattle.blocks.proofs.Steps.{cond_by}
use Rattle.listings.specs.Edits.{dot_kind, blank_kind, cr_kind}
use Rattle.listings.specs.Mending.{Mending, copied, put_before, joined, lacks_dot, word_mended, word_taken, is_end, blank_mended, blank_taken}
use Rattle.listings.specs.Mending.{end_mended, to_next, mended_from}
use Rattle.listings.specs.Keeping.{one_if}
use Rattle.listings.proofs.Seen.{at_on, ends_on, end_first, lacks_on, lacks_taken, lacks_long, no_plus, no_return}

-- the bytes in a blank's place and at a block's end are the same at any place

module _ (at : ℕ) (rest : List ℕ) where
  pub blank_any : (blank_mended at rest).bytes ≡ (blank_mended 0 rest).bytes
  blank_any = by_test (is_end rest) (λ e. rw e) (λ e. rw e)

  pub end_any : (end_mended at rest).bytes ≡ (end_mended 0 rest).bytes
  end_any = by_test (is_at cr rest) (λ e. rw e) (λ e. by_test (is_at lf rest) (λ l. rw (e, l)) (λ l. rw (e, l)))

-- a CR LF, a CR, an LF that gets its CR, or none
pub end_cases : (P : Mending → Type 0) (at : ℕ) (rest : List ℕ) → (is_at cr rest ≡ true → is_at lf (drop 1 rest) ≡ true → P (copied (end_bytes true)))
    → (is_at cr rest ≡ true → is_at lf (drop 1 rest) ≡ false → P (copied (end_bytes false)))
    → (is_at cr rest ≡ false → is_at lf rest ≡ true → P (joined (put_before at cr_kind) (copied (lf ∷ [])))) → (is_end rest ≡ false → P (copied []))
    → P (end_mended at rest)
end_cases P at rest crlf return alone none =
    cond_by P (is_at cr rest) _ _ (λ c. cond_by (λ (t : List ℕ). P (copied t)) (is_at lf (drop 1 rest)) _ _ (crlf c) (return c))
    (λ c. cond_by P (is_at lf rest) _ _ (alone c) (λ l. none (rw (c, l))))

pub no_end : (at : ℕ) (rest : List ℕ) → is_end rest ≡ false → end_mended at rest ≡ copied []
no_end at rest e =
    let unended = no_return rest e in
    rw (unended, rw unended at e)

-- two bytes at most, and one edit
pub end_small : (at : ℕ) (rest : List ℕ) → (length (end_mended at rest).bytes ≤ 2) × (length (end_mended at rest).edits ≤ 1)
end_small at rest =
    end_cases (λ (m : Mending). (length m.bytes ≤ 2) × (length m.edits ≤ 1)) at rest (λ _ _. (omega arith, omega arith))
    (λ _ _. (omega arith, omega arith)) (λ _ _. (omega arith, omega arith)) (λ _. (omega arith, omega arith))

-- the walk ends where no more words may come or an end is next
pub over : (more : ℕ) (wide : Bool) (at : ℕ) (rest : List ℕ) → ltb 0 more && not (is_end rest) ≡ false → mended_from more wide at rest ≡ end_mended at rest
unfolding mended_from
over zero wide at rest e = refl
over (suc more) wide at rest e = rw (not-false (is_end rest) (rw (lt-ltb 0 (suc more) (omega arith)) at e))

pub at_end : (more : ℕ) (wide : Bool) (at : ℕ) (rest : List ℕ) → is_end rest ≡ true → mended_from more wide at rest ≡ end_mended at rest
at_end more wide at rest e = over more wide at rest (rw (e, and-false))

-- where the input ends mending ends
pub nothing_left : (more : ℕ) (wide : Bool) (at : ℕ) → mended_from more wide at [] ≡ copied []
unfolding mended_from
nothing_left zero wide at = refl
nothing_left (suc more) true at = nothing_left more true (at + 24)
nothing_left (suc more) false at = nothing_left more false (at + 16)

-- otherwise a word comes, what stands in its blank's place, and what comes then

pub goes : (more : ℕ) (wide : Bool) (at : ℕ) (rest : List ℕ) → is_end rest ≡ false
    → mended_from (suc more) wide at rest
    ≡ joined (word_mended wide at rest) (joined (blank_mended (at + word_taken wide rest) (drop (word_taken wide rest) rest))
    (mended_from more wide (at + to_next wide rest) (drop (to_next wide rest) rest)))
unfolding mended_from
goes more wide at rest e = rw e

pub joined_on : (m a b : Mending) → joined (joined m a) b ≡ joined m (joined a b)
joined_on m a b =
    λ i. record { bytes = append_assoc m.bytes a.bytes b.bytes i; edits = append_assoc m.edits a.edits b.edits i }

abbrev pub step : Bool → ℕ → List ℕ → Mending
step wide at rest = joined (word_mended wide at rest) (blank_mended (at + word_taken wide rest) (drop (word_taken wide rest) rest))

pub steps : (more : ℕ) (wide : Bool) (at : ℕ) (rest : List ℕ) → is_end rest ≡ false
    → mended_from (suc more) wide at rest ≡ joined (step wide at rest) (mended_from more wide (at + to_next wide rest) (drop (to_next wide rest) rest))
steps more wide at rest e = goes more wide at rest e ∙ sym (joined_on (word_mended wide at rest) _ _)

-- how many bytes they take, and how many edits they make of them

pub taken_least : (wide : Bool) (rest : List ℕ) → width wide + 6 ≤ word_taken wide rest
taken_least wide rest = cond_by (λ (n : ℕ). width wide + 6 ≤ n) (lacks_dot rest) _ _ (λ _. omega arith) (λ _. omega arith)

pub word_edits : (wide : Bool) (at : ℕ) (rest : List ℕ) → word_taken wide rest + length (word_mended wide at rest).edits ≡ width wide + 7
word_edits wide at rest = by_test (lacks_dot rest) (λ q. rw q (omega arith)) (λ q. rw q (omega arith))

pub blank_edits : (at : ℕ) (rest : List ℕ) → blank_taken rest + length (blank_mended at rest).edits ≡ 1
blank_edits at rest = by_test (is_end rest) (λ q. rw q) (λ q. rw q)

-- before a blank that was put an end stands
pub blank_ends : (wide : Bool) (at : ℕ) (rest : List ℕ) →
    let size = word_taken wide rest in length (blank_mended (at + size) (drop size rest)).edits ≤ one_if (is_end (drop (to_next wide rest) rest))
blank_ends wide at rest =
    let size = word_taken wide rest in
    by_test (is_end (drop size rest)) (λ q. rw (q, add-zero size, q) (omega arith)) (λ q. rw q (omega arith))

pub blank_most : (at : ℕ) (rest : List ℕ) → length (blank_mended at rest).bytes ≤ 1
blank_most at rest = cond_by (λ (m : Mending). length m.bytes ≤ 1) (is_end rest) _ _ (λ _. omega arith) (λ _. simp length-take (omega arith))

-- a mended word: it lacks no dot, is as long as a word is where the input is, and starts as the input does

abbrev pub word : Bool → ℕ → List ℕ → List ℕ
word wide at rest = (word_mended wide at rest).bytes

module _ (wide : Bool) (at : ℕ) (rest : List ℕ) where
  pub word_dots : lacks_dot (word wide at rest) ≡ false
  word_dots =
      let (least, most) = width_bounds wide in
      cond_by (λ (m : Mending). lacks_dot m.bytes ≡ false) (lacks_dot rest) _ _ (λ q.
      let tail = take (width wide + 1) (drop 5 rest) in
      let dot = get_or_at (take 5 rest) 46 tail 0 5 (length-take-le 5 rest (omega (arith, lacks_long rest q))) in
      no_plus (take 5 rest ++ (46 ∷ tail)) (rw dot)) (λ q. lacks_taken (width wide + 7) rest (omega arith) ∙ q)

  pub word_most : length (word wide at rest) ≤ width wide + 7
  word_most =
      cond_by (λ (m : Mending). length m.bytes ≤ width wide + 7) (lacks_dot rest) _ _ (λ q. simp (length-append, length-take) (omega arith))
      (λ q. simp length-take (omega arith))

  pub word_long : word_taken wide rest ≤ length rest → length (word wide at rest) ≡ width wide + 7
  word_long h =
      cond_by (λ (m : Mending). length m.bytes ≡ width wide + 7) (lacks_dot rest) _ _ (λ q.
      let long : width wide + 6 ≤ length rest = rw q at h in
      simp (length-append, length-take, length-drop) (omega arith)) (λ q.
      let long : width wide + 7 ≤ length rest = rw q at h in
      length-take-le (width wide + 7) rest long)

pub word_first : (wide : Bool) (at x : ℕ) (rest : List ℕ) → (t : List ℕ) × (word wide at (x ∷ rest) ≡ x ∷ t)
word_first true at x rest =
    cond_by (λ (m : Mending). (t : List ℕ) × (m.bytes ≡ x ∷ t)) (lacks_dot (x ∷ rest)) _ _ (λ _. (_, refl)) (λ _. (_, refl))
word_first false at x rest =
    cond_by (λ (m : Mending). (t : List ℕ) × (m.bytes ≡ x ∷ t)) (lacks_dot (x ∷ rest)) _ _ (λ _. (_, refl)) (λ _. (_, refl))

pub word_starts : (wide : Bool) (at x : ℕ) (rest u : List ℕ) → is_end (word wide at (x ∷ rest) ++ u) ≡ is_end (x ∷ rest)
word_starts wide at x rest u = let (t, is) = word_first wide at x rest in ap (λ l. is_end (l ++ u)) is ∙ end_first x (t ++ u) rest

-- with the byte in its blank's place, which ends nothing, it is as long as the reader's words, and no CR is next

pub blank_byte : (at : ℕ) (rest : List ℕ) → 1 ≤ length rest → (b : ℕ) × ((blank_mended at rest).bytes ≡ b ∷ []) × (is_end (b ∷ []) ≡ false)
blank_byte at [] h = absurd (omega arith)
blank_byte at (y ∷ l) h = by_test (is_end (y ∷ l)) (λ q. (32, rw q, refl)) (λ q. (y, rw q, end_first y [] l ∙ q))

pub step_long : (wide : Bool) (at : ℕ) (rest : List ℕ) → word_taken wide rest < length rest → length (step wide at rest).bytes ≡ word_size wide
step_long wide at rest h =
    let size = word_taken wide rest in
    let (_, blank, _) = blank_byte (at + size) (drop size rest) (omega (arith, length-drop size rest)) in
    omega (arith, length-append (word wide at rest) (blank_mended (at + size) (drop size rest)).bytes, word_long wide at rest (omega arith), ap length blank)

pub step_unended : (wide : Bool) (at x : ℕ) (rest t : List ℕ) → is_end (x ∷ rest) ≡ false → is_at cr ((step wide at (x ∷ rest)).bytes ++ t) ≡ false
step_unended wide at x rest t q = no_return ((step wide at (x ∷ rest)).bytes ++ t) (rw append_assoc (word_starts wide at x rest _ ∙ q))

-- without one it is the last
pub last_word : (more : ℕ) (wide : Bool) (at : ℕ) (rest : List ℕ) → is_end rest ≡ false → length rest ≤ word_taken wide rest
    → mended_from (suc more) wide at rest ≡ word_mended wide at rest
last_word more wide at rest q h =
    let to = to_next wide rest in
    let none = drop_of_length-le rest {i = to} (omega arith) in
    let gone = drop_of_length-le rest {i = word_taken wide rest} h in
    goes more wide at rest q ∙ rw (none, nothing_left more wide (at + to), gone) (simp append-nil)

-- a word that lacks nothing is copied with its blank

module _ (more : ℕ) (wide : Bool) (at : ℕ) where
  -- a word that lacks no dot, and a blank or another byte that ends nothing in its place
  pub plain : (t : List ℕ) → is_end t ≡ false → lacks_dot t ≡ false → is_end (drop (width wide + 7) t) ≡ false
      → mended_from (suc more) wide at t ≡ joined (copied (take (word_size wide) t)) (mended_from more wide (at + word_size wide) (drop (word_size wide) t))
  plain t unended dots blank =
      let next : width wide + 7 + 1 ≡ word_size wide = omega arith in
      steps more wide at t unended ∙ rw (dots, blank, next, ← next, take-add (width wide + 7) 1 t)

  -- all that is left, and no more than a word without its blank
  pub plain_last : (t : List ℕ) → length t ≤ width wide + 7 → is_end t ≡ false → lacks_dot t ≡ false → mended_from (suc more) wide at t ≡ copied t
  plain_last t short unended dots = last_word more wide at t unended (rw dots short) ∙ rw (dots, take_all (width wide + 7) t short)

  -- a word, a byte in its blank's place, and what comes then
  pub plain_next : (w : List ℕ) (b : ℕ) (t : List ℕ) → length w ≡ width wide + 7 → is_end (w ++ (b ∷ t)) ≡ false → lacks_dot (w ++ (b ∷ t)) ≡ false
      → is_end (b ∷ t) ≡ false
      → mended_from (suc more) wide at (w ++ (b ∷ t)) ≡ joined (copied (w ++ (b ∷ []))) (mended_from more wide (at + word_size wide) t)
  plain_next w b t long unended dots blank =
      let split : w ++ (b ∷ t) ≡ (w ++ (b ∷ [])) ++ t = sym (append_assoc w (b ∷ []) t) in
      let size : length (w ++ (b ∷ [])) ≡ word_size wide = omega (arith, length-append w (b ∷ [])) in
      plain (w ++ (b ∷ t)) unended dots (rw (drop_at w (b ∷ t) (width wide + 7) long) blank)
      ∙ rw (split, take_at (w ++ (b ∷ [])) t (word_size wide) size, drop_at (w ++ (b ∷ [])) t (word_size wide) size)

-- what follows a terminator's two bytes, or a word and the byte in its blank's place, isn't looked at

pub end_on : (at : ℕ) (s rest : List ℕ) → 2 ≤ length s → end_mended at (s ++ rest) ≡ end_mended at s
end_on at s rest h =
    rw (
      at_on cr s rest (omega arith),
      at_on lf s rest (omega arith),
      drop-append-le 1 s rest (omega arith),
      at_on lf (drop 1 s) rest (omega (arith, length-drop 1 s)),
    )

module _ (wide : Bool) (at : ℕ) (s rest : List ℕ) (whole : word_taken wide s < length s) where
  fits : width wide + 7 ≤ length s
  fits = omega (arith, taken_least wide s)

  lacks_kept : lacks_dot (s ++ rest) ≡ lacks_dot s
  lacks_kept = lacks_on s rest (omega (arith, fits, (width_bounds wide).0))

  taken_kept : word_taken wide (s ++ rest) ≡ word_taken wide s
  taken_kept = λ i. cond (lacks_kept i) (width wide + 6) (width wide + 7)

  past_word : drop (word_taken wide (s ++ rest)) (s ++ rest) ≡ drop (word_taken wide s) s ++ rest
  past_word = ap (λ n. drop n (s ++ rest)) taken_kept ∙ drop-append-le (word_taken wide s) s rest (omega arith)

  byte_left : 1 ≤ length (drop (word_taken wide s) s)
  byte_left = omega (arith, length-drop (word_taken wide s) s)

  ends_kept : is_end (drop (word_taken wide (s ++ rest)) (s ++ rest)) ≡ is_end (drop (word_taken wide s) s)
  ends_kept = ap is_end past_word ∙ ends_on (drop (word_taken wide s) s) rest byte_left

  pub to_kept : to_next wide (s ++ rest) ≡ to_next wide s
  to_kept = λ i. taken_kept i + cond (ends_kept i) 0 1

  step_kept : step wide at (s ++ rest) ≡ step wide at s
  step_kept =
      let first = take-append-le 5 s rest (omega (arith, fits)) in
      let five = drop-append-le 5 s rest (omega (arith, fits)) in
      let tail : take (width wide + 1) (drop 5 (s ++ rest)) ≡ take (width wide + 1) (drop 5 s) =
      ap (take (width wide + 1)) five ∙ take-append-le (width wide + 1) (drop 5 s) rest (omega (arith, fits, length-drop 5 s)) in
      let all = take-append-le (width wide + 7) s rest fits in
      let one : take 1 (drop (word_taken wide (s ++ rest)) (s ++ rest)) ≡ take 1 (drop (word_taken wide s) s) =
      ap (take 1) past_word ∙ take-append-le 1 (drop (word_taken wide s) s) rest byte_left in
      λ i. joined
      (cond (lacks_kept i) (joined (copied (first i)) (joined (put_before (at + 5) dot_kind) (copied (tail i)))) (copied (all i)))
      (cond (ends_kept i) (put_before (at + taken_kept i) blank_kind) (copied (one i)))

  pub steps_on : (more : ℕ) → is_end s ≡ false
      → mended_from (suc more) wide at (s ++ rest) ≡ joined (step wide at s) (mended_from more wide (at + to_next wide s) (drop (to_next wide s) s ++ rest))
  steps_on more unended =
      let to = to_next wide s in
      let left : drop (to_next wide (s ++ rest)) (s ++ rest) ≡ drop to s ++ rest =
      ap (λ n. drop n (s ++ rest)) to_kept ∙ drop-append-le to s rest (omega (arith, blank_edits at (drop (word_taken wide s) s))) in
      steps more wide at (s ++ rest) (ends_on s rest (omega arith) ∙ unended)
      ∙ λ i. joined (step_kept i) (mended_from more wide (at + to_kept i) (left i))
