-- The typed values of a block that is read: each of its records is what the input's own bytes at its word give, and its typed count is what
-- their digits counted.
use Prim.Native.Nat.{ℕ, zero, suc, ◌+◌, ◌*◌, ◌<◌}
use mathlib.Core.Path.{◌≡◌, ap, ◌∙◌}
use mathlib.Core.Bool.{Bool, true, and-eq-true_iff}
use mathlib.Core.List.{List, [], ◌∷◌, ◌++◌, append_assoc}
use native.Mathlib.Nat.{zero-mul, suc-mul}
use native.Mathlib.Omega.{arith}
use lib.ListN.{length, get_or, drop}
use lib.Seq.{drop_at, drop-drop}
use Rattle.words.specs.Records.{blank, is_right, typed_of}
use Rattle.words.specs.Reading.{word_size, value_in, word_of, right_word}
use Rattle.words.specs.Writing.{bytes_of}
use Rattle.units.specs.declared.kinds.Family.{Family}
use Rattle.std.specs.Prelude.{Some}
use Rattle.words.specs.declared.records.Word.{Word}
use Rattle.words.proofs.RoundTrip.{write_read, bytes_length}
use Rattle.words.proofs.Typed.{given_typed}
use Rattle.blocks.specs.Judging.{is_at, first_at, judged}
use Rattle.blocks.specs.Composing.{words_bytes}
use Rattle.figures.specs.Text.{end_bytes, star_bytes}
use Rattle.blocks.specs.Rules.{right_all, read_as, word_start}
use Rattle.blocks.specs.declared.answers.Reading.{Reading}
use Rattle.blocks.proofs.Rooms.{words_length, star_length}
use Rattle.blocks.proofs.Written.{end_at}
use Rattle.blocks.proofs.Exactly.{read_ruled}

-- past a first part
drop_past : (p q : List ℕ) (n m : ℕ) → length p ≡ n → drop (n + m) (p ++ q) ≡ drop m q
drop_past p q n m e = rw (← drop-drop m n (p ++ q), drop_at p q n e)

-- the words one after the other: where the k-th starts, it is read
word_at : (f : Family) (wide : Bool) (ws : List Word) (k : ℕ) (rest : List ℕ) → right_all f wide ws ≡ true → k < length ws
    → word_of f wide (drop (k * word_size wide) (words_bytes f wide ws ++ rest)) ≡ right_word (get_or ws k blank)
unfolding words_bytes right_all
word_at f wide [] k rest right h = absurd (omega arith)
word_at f wide (w ∷ ws) zero rest right h =
    let later = words_bytes f wide ws ++ rest in
    let parts = (and-eq-true_iff (is_right f wide w) (right_all f wide ws)).0 right in
    let is : drop (0 * word_size wide) ((bytes_of f wide w ++ words_bytes f wide ws) ++ rest) ≡ bytes_of f wide w ++ later =
    rw (zero-mul (word_size wide), append_assoc (bytes_of f wide w) (words_bytes f wide ws) rest) in
    ap (word_of f wide) is ∙ write_read f wide w later parts.0
word_at f wide (w ∷ ws) (suc k) rest right h =
    let size = word_size wide in
    let later = words_bytes f wide ws ++ rest in
    let parts = (and-eq-true_iff (is_right f wide w) (right_all f wide ws)).0 right in
    let next : suc k * size ≡ size + k * size = omega (arith, suc-mul k size) in
    let is : drop (suc k * size) ((bytes_of f wide w ++ words_bytes f wide ws) ++ rest) ≡ drop (k * size) later =
    rw (append_assoc (bytes_of f wide w) (words_bytes f wide ws) rest, next)
    (drop_past (bytes_of f wide w) later size (k * size) (bytes_length f wide w parts.0)) in
    ap (word_of f wide) is ∙ word_at f wide ws k rest parts.1 (omega arith)

module _ (f : Family) (s : List ℕ) (places : ℕ) (r : Reading) (ws : List Word) (e : judged f s places ≡ read_as r ws) where
  abbrev rest : List ℕ
  rest = end_bytes r.crlf ++ drop r.used s

  -- the input from where a word would start
  from_start : (k : ℕ) → drop (word_start r.wide k) s ≡ drop (k * word_size r.wide) (words_bytes f r.wide ws ++ rest)
  from_start k =
      let wide = r.wide in
      let is : s ≡ star_bytes wide ++ (words_bytes f wide ws ++ rest) = (read_ruled f s places r ws e).0.bytes ∙ simp append_assoc in
      ap (drop (word_start wide k)) is ∙ drop_past (star_bytes wide) (words_bytes f wide ws ++ rest) (first_at wide) (k * word_size wide) (star_length wide)

  -- each record is what its word's bytes in the input give
  pub block_words : (k : ℕ) → k < length ws → word_of f r.wide (drop (word_start r.wide k) s) ≡ right_word (get_or ws k blank)
  block_words k h = ap (word_of f r.wide) (from_start k) ∙ word_at f r.wide ws k rest (read_ruled f s places r ws e).0.lawful.right h

  pub block_typed : (k : ℕ) → k < length ws → value_in f r.wide (drop (word_start r.wide k) s) ≡ Some (typed_of f (get_or ws k blank))
  block_typed k h = given_typed f r.wide (drop (word_start r.wide k) s) (get_or ws k blank) (block_words k h)

  -- and after the last a CR stands
  pub block_ends : is_at 13 (drop (word_start r.wide (length ws)) s) ≡ true
  block_ends =
      let size = words_length f r.wide ws (read_ruled f s places r ws e).0.lawful.right in
      ap (is_at 13) (from_start (length ws) ∙ drop_at (words_bytes f r.wide ws) rest (length ws * word_size r.wide) size)
      ∙ end_at r.crlf (drop r.used s)
