-- "We want a tool that takes one block, mends only these, left to right, and says each edit": the last blank stripped, LF alone, three dots for four in 42-49
-- (request 105).
use Rattle.std.specs.Prelude.{ℕ, zero, suc, ◌+◌, Bool, cond, ◌&&◌, ◌||◌, List, [], ◌∷◌, ◌++◌, eqb, take, drop}
use Rattle.figures.specs.Text.{byte, cr, lf, end_bytes, star_bytes}
use Rattle.figures.specs.Bytes.{within}
use Rattle.units.specs.Information.{is_dot}
use Rattle.words.specs.Records.{width}
use Rattle.words.specs.Reading.{pos}
use Rattle.blocks.specs.Judging.{is_at, is_wide, first_at}
use Rattle.listings.specs.declared.edits.Edit.{Edit}
use Rattle.listings.specs.Edits.{dot_kind, blank_kind, cr_kind, kind_byte, edit}

-- mended bytes, and the edits that made them, first to last
pub record Mending : Type 0 where
  pub bytes : List ℕ
  pub edits : List Edit

-- bytes of the input as they are
abbrev pub copied : List ℕ → Mending
copied s = record { bytes = s; edits = [] }

-- a byte that was put before the input's byte at that place
abbrev pub put_before : ℕ → ℕ → Mending
put_before place kind = record { bytes = kind_byte kind ∷ []; edits = edit place kind ∷ [] }

-- one part, and then the next
abbrev pub joined : Mending → Mending → Mending
joined m n = record { bytes = m.bytes ++ n.bytes; edits = m.edits ++ n.edits }

-- "a `+` right after three dots in 42-49"
abbrev pub lacks_dot : List ℕ → Bool
lacks_dot word =
    (eqb (pos 1 word) (byte "4") && within (byte "2") (byte "9") (pos 2 word))
    && ((is_dot (pos 3 word) && (is_dot (pos 4 word) && is_dot (pos 5 word))) && eqb (pos 6 word) (byte "+"))

-- "gets a dot before it": a word up to the place of its blank, 15 or 23 bytes, the dot among them; the word starts at that place of the input
abbrev pub word_mended : Bool → ℕ → List ℕ → Mending
word_mended wide at word =
    cond (lacks_dot word)
    (joined (copied (take 5 word)) (joined (put_before (at + 5) dot_kind) (copied (take (width wide + 1) (drop 5 word)))))
    (copied (take (width wide + 7) word))

-- how many bytes of the input that takes
abbrev pub word_taken : Bool → List ℕ → ℕ
word_taken wide word = cond (lacks_dot word) (width wide + 6) (width wide + 7)

-- CR or LF comes next
abbrev pub is_end : List ℕ → Bool
is_end rest = is_at cr rest || is_at lf rest

-- "a CR or LF in the place of a word's blank gets the blank"; another byte is copied as it is
abbrev pub blank_mended : ℕ → List ℕ → Mending
blank_mended at rest = cond (is_end rest) (put_before at blank_kind) (copied (take 1 rest))

abbrev pub blank_taken : List ℕ → ℕ
blank_taken rest = cond (is_end rest) 0 1

-- "then an LF where a word would start gets a CR"; a CR ends the block as it is, with an LF that follows. "Bytes past the terminator aren't copied."
abbrev pub end_mended : ℕ → List ℕ → Mending
end_mended at rest =
    cond (is_at cr rest) (copied (end_bytes (is_at lf (drop 1 rest)))) (cond (is_at lf rest) (joined (put_before at cr_kind) (copied (lf ∷ []))) (copied []))

-- from where a word would start to where the next would
abbrev pub to_next : Bool → List ℕ → ℕ
to_next wide rest = word_taken wide rest + blank_taken (drop (word_taken wide rest) rest)

-- from a place on where a word would start, when so many more words may come. Where the input ends mending ends
unfoldable pub mended_from : ℕ → Bool → ℕ → List ℕ → Mending
mended_from zero wide at rest = end_mended at rest
mended_from (suc more) wide at rest =
    let word = word_taken wide rest in
    cond (is_end rest) (end_mended at rest)
    (joined (word_mended wide at rest)
    (joined (blank_mended (at + word) (drop word rest)) (mended_from more wide (at + to_next wide rest) (drop (to_next wide rest) rest))))

-- of so many words at most; a first `*` is copied and means wide words
abbrev pub mended_of : ℕ → List ℕ → Mending
mended_of most s =
    let first = first_at (is_wide s) in
    joined (copied (star_bytes (is_wide s))) (mended_from most (is_wide s) first (drop first s))

-- a block has 32 words at most. What goes on after them is refused by 4, whatever it is, so no more of it is copied or looked at: `to_the_end`, in
-- proofs/Endless.antt, shows that a walk to the input's end comes to the same
unfoldable pub mended : List ℕ → Mending
mended s = mended_of 32 s
