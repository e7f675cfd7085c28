-- What the loop that puts a list's words knows after i turns: what stands in the room.
use Prim.Native.Nat.{ℕ, zero, suc, ◌+◌, ◌*◌, ◌<◌, ◌≤◌}
use mathlib.Core.Path.{◌≡◌, refl, sym, ap, ◌∙◌}
use mathlib.Core.Bool.{Bool, true, and-eq-true_iff}
use mathlib.Core.List.{List, [], ◌∷◌, ◌++◌, append_assoc}
use native.Mathlib.Nat.{le_refl, le_of_suc-le-suc, not-suc-le-zero, suc-mul, mul-le-mul}
use native.Mathlib.Omega.{arith}
use lib.ListN.{length, get_or, take, drop, length-append, length-drop, take-append-drop}
use lib.Seq.{length-take-le, take_at, drop_at, drop-drop, take-nil}
use Rattle.figures.specs.Bytes.{laid}
use Rattle.figures.specs.Text.{star_bytes}
use Rattle.figures.proofs.Bytes.{laid_fits, length_laid}
use Rattle.words.specs.Records.{is_right}
use Rattle.words.specs.Reading.{word_size}
use Rattle.words.specs.Writing.{bytes_of}
use Rattle.units.specs.declared.kinds.Family.{Family}
use Rattle.words.specs.declared.records.Word.{Word}
use Rattle.words.proofs.RoundTrip.{bytes_length}
use Rattle.blocks.specs.Judging.{first_at}
use Rattle.blocks.specs.Rules.{right_all, word_start}
use Rattle.blocks.specs.Composing.{words_bytes}
use Rattle.blocks.specs.Keeping.{laid_at, PutsFit}
use Rattle.blocks.proofs.Rooms.{put_next, words_length}

module _ (f : Family) (wide : Bool) where
  -- the words so far

  words_next : (ws : List Word) (i : ℕ) (d : Word) → i < length ws
      → words_bytes f wide (take (i + 1) ws) ≡ words_bytes f wide (take i ws) ++ bytes_of f wide (get_or ws i d)
  words_next ws i d h =
      let star = star_bytes wide in
      let size = length star in
      let so_far = words_bytes f wide (take i ws) in
      let word = bytes_of f wide (get_or ws i d) in
      sym (drop_at star (words_bytes f wide (take (i + 1) ws)) size refl)
      ∙ (ap (drop size) (put_next f wide ws i d h ∙ append_assoc star so_far word) ∙ drop_at star (so_far ++ word) size refl)

  right_part : (ws : List Word) (i : ℕ) → right_all f wide ws ≡ true → right_all f wide (take i ws) ≡ true
  unfolding right_all
  right_part [] i e = rw take-nil
  right_part (w ∷ ws) zero e = refl
  right_part (w ∷ ws) (suc i) e =
      let parts = (and-eq-true_iff (is_right f wide w) (right_all f wide ws)).0 e in
      rw parts.0 (right_part ws i parts.1)

  right_at : (ws : List Word) (i : ℕ) (d : Word) → i < length ws → right_all f wide ws ≡ true → is_right f wide (get_or ws i d) ≡ true
  unfolding right_all
  right_at [] i d h e = absurd (not-suc-le-zero h)
  right_at (w ∷ ws) zero d h e = ((and-eq-true_iff (is_right f wide w) (right_all f wide ws)).0 e).0
  right_at (w ∷ ws) (suc i) d h e = right_at ws i d (le_of_suc-le-suc h) ((and-eq-true_iff (is_right f wide w) (right_all f wide ws)).0 e).1

-- bytes laid from a place on

pub length_laid_at : (a : ℕ) (bytes room : List ℕ) → length (laid_at a bytes room) ≡ length room
length_laid_at a bytes room =
    omega (
      arith,
      length-append (take a room) (laid bytes (drop a room)),
      length_laid bytes (drop a room),
      length-append (take a room) (drop a room),
      ap length (take-append-drop a room),
    )

-- and others after them
pub laid_further : (a : ℕ) (xs ys room : List ℕ) → a + (length xs + length ys) ≤ length room
    → laid_at (a + length xs) ys (laid_at a xs room) ≡ laid_at a (xs ++ ys) room
laid_further a xs ys room h =
    let head = take a room in
    let rest = drop a room in
    let more = drop (length xs) rest in
    let last = drop (length ys) more in
    let rest_long = length-drop a room in
    let more-long = length-drop (length xs) rest in
    let both = length-append xs ys in
    let start : length (head ++ xs) ≡ a + length xs = omega (arith, length-append head xs, length-take-le a room (omega arith)) in
    let first : laid_at a xs room ≡ (head ++ xs) ++ more = rw (laid_fits xs rest (omega arith)) (sym (append_assoc head xs more)) in
    let all : laid (xs ++ ys) rest ≡ (xs ++ ys) ++ last =
    laid_fits (xs ++ ys) rest (omega arith) ∙ rw (both, drop-drop (length ys) (length xs) rest) in
    rw (first, take_at (head ++ xs) more (a + length xs) start, drop_at (head ++ xs) more (a + length xs) start, laid_fits ys more (omega arith), all)
    (append_assoc head xs (ys ++ last) ∙ ap (λ (r : List ℕ). head ++ r) (sym (append_assoc xs ys last)))

-- one more word in the room, where the words of right records fit
module _ (f : Family) (wide : Bool) (ws : List Word) (room₀ : List ℕ) (ok : PutsFit f wide ws room₀) where
  abbrev size : ℕ
  size = word_size wide

  pub laid_none : laid_at (first_at wide) (words_bytes f wide (take 0 ws)) room₀ ≡ room₀
  unfolding words_bytes
  laid_none = rw take-nil (take-append-drop (first_at wide) room₀)

  module _ (i : ℕ) (d : Word) (h : i < length ws) where
    pub right_here : is_right f wide (get_or ws i d) ≡ true
    right_here = right_at f wide ws i d h ok.right

    words_to : word_start wide i + size ≤ length room₀
    words_to =
        let most : suc i * size ≤ length ws * size = mul-le-mul h (le_refl size) in
        omega (arith, most, suc-mul i size, ok.fits)

    pub fits_here : word_start wide i + size ≤ length (laid_at (first_at wide) (words_bytes f wide (take i ws)) room₀)
    fits_here = omega (arith, words_to, length_laid_at (first_at wide) (words_bytes f wide (take i ws)) room₀)

    pub laid_word : laid_at (word_start wide i) (bytes_of f wide (get_or ws i d)) (laid_at (first_at wide) (words_bytes f wide (take i ws)) room₀)
        ≡ laid_at (first_at wide) (words_bytes f wide (take (i + 1) ws)) room₀
    laid_word =
        let so_far = words_bytes f wide (take i ws) in
        let word = bytes_of f wide (get_or ws i d) in
        let room = laid_at (first_at wide) so_far room₀ in
        let count = length-take-le i ws (omega arith) in
        let long : length so_far ≡ i * size = rw count at (words_length f wide (take i ws) (right_part f wide ws i ok.right)) in
        let word_long = bytes_length f wide (get_or ws i d) right_here in
        let there : word_start wide i ≡ first_at wide + length so_far = rw long in
        ap (λ (a : ℕ). laid_at a word room) there
        ∙ (laid_further (first_at wide) so_far word room₀ (omega (arith, long, word_long, words_to))
        ∙ ap (λ (bytes : List ℕ). laid_at (first_at wide) bytes room₀) (sym (words_next f wide ws i d h)))
