-- The words of GET/I one after the other, with `*` before them where they are wide, are a block, and it reads to the records of their values.
use Prim.Native.Nat.{ℕ, suc, ◌≤◌}
use mathlib.Core.Path.{◌≡◌, refl, sym, ap, ◌∙◌}
use mathlib.Core.Bool.{Bool, true}
use mathlib.Core.List.{List, [], ◌∷◌, ◌++◌, append-nil}
use native.Mathlib.Omega.{arith}
use lib.ListN.{length}
use Rattle.figures.specs.Text.{end_bytes, star_bytes}
use Rattle.words.specs.declared.records.Word.{Word}
use Rattle.units.specs.declared.kinds.Family.TheVariants.{Station}
use Rattle.blocks.specs.Judging.{judged}
use Rattle.blocks.specs.Composing.{words_bytes, block_bytes}
use Rattle.blocks.specs.Rules.{right_all, Lawful, read_as, reading_of}
use Rattle.blocks.proofs.Written.{block_read}
use Rattle.instrument.specs.Values.{Kept, is_put, kept_right, get_word, word_in}
use Rattle.controller.specs.Given.{given}
use Rattle.controller.proofs.Words.{given_right, given_bytes}

-- a place with a value that a PUT left there
pub record Held : Type 0 where
  pub place : ℕ
  pub kept : Kept
  pub put : is_put kept ≡ true
  pub right : kept_right place kept ≡ true

unfoldable pub held_bytes : Bool → List Held → List ℕ
held_bytes wide [] = []
held_bytes wide (h ∷ hs) = word_in wide (get_word h.place h.kept) ++ held_bytes wide hs

unfoldable pub held_words : Bool → List Held → List Word
held_words wide [] = []
held_words wide (h ∷ hs) = given wide h.place h.kept ∷ held_words wide hs

pub held_length : (wide : Bool) (hs : List Held) → length (held_words wide hs) ≡ length hs
unfolding held_words
held_length wide [] = refl
held_length wide (h ∷ hs) = ap suc (held_length wide hs)

pub held_right : (wide : Bool) (hs : List Held) → right_all Station wide (held_words wide hs) ≡ true
unfolding held_words right_all
held_right wide [] = refl
held_right wide (h ∷ hs) = rw (given_right wide h.place h.kept h.put h.right) (held_right wide hs)

pub held_bytes_lem : (wide : Bool) (hs : List Held) → words_bytes Station wide (held_words wide hs) ≡ held_bytes wide hs
unfolding held_words held_bytes words_bytes
held_bytes_lem wide [] = refl
held_bytes_lem wide (h ∷ hs) = rw (given_bytes wide h.place h.kept h.put h.right, held_bytes_lem wide hs)

pub held_block : (wide crlf : Bool) (hs : List Held) → star_bytes wide ++ (held_bytes wide hs ++ end_bytes crlf) ≡ block_bytes Station wide crlf (held_words wide hs)
held_block wide crlf hs = ap (λ l. star_bytes wide ++ (l ++ end_bytes crlf)) (sym (held_bytes_lem wide hs))

pub words_read : (wide crlf : Bool) (hs : List Held) (places : ℕ) → 1 ≤ length hs → length hs ≤ 32 → length hs ≤ places
    → judged Station (star_bytes wide ++ (held_bytes wide hs ++ end_bytes crlf)) places
    ≡ read_as (reading_of Station wide crlf (held_words wide hs)) (held_words wide hs)
words_read wide crlf hs places some most placed =
    let ws = held_words wide hs in
    let long = held_length wide hs in
    let lawful : Lawful Station wide ws = record { some = omega arith; most = omega arith; right = held_right wide hs } in
    ap (λ s. judged Station s places) (held_block wide crlf hs ∙ sym (append-nil (block_bytes Station wide crlf ws)))
    ∙ block_read Station wide crlf ws [] places lawful (omega arith) (λ _. refl)
