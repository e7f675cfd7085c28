-- What the edits tell: the whole difference between the input and the mended bytes, and nothing but the three rules of request 105.
use Rattle.std.specs.Prelude.{ℕ, suc, ◌+◌, ◌-◌, ◌<◌, ◌≤◌, ◌≡◌, true, false, List, [], ◌∷◌, ◌++◌, length, take, drop}
use Rattle.figures.specs.Text.{lf}
use Rattle.blocks.specs.Judging.{is_at, is_wide, first_at}
use Rattle.listings.specs.declared.edits.Edit.{Edit}
use Rattle.listings.specs.Edits.{dot_kind, blank_kind, cr_kind, kind_byte, edit}
use Rattle.listings.specs.Mending.{Mending, lacks_dot, is_end, word_taken, to_next}

-- each edit's byte put in before its place; s starts at the place `at` of the input
unfoldable pub put_in : ℕ → List Edit → List ℕ → List ℕ
put_in at [] s = s
put_in at (e ∷ es) s = take (e.place - at) s ++ (kind_byte e.kind ∷ put_in e.place es (drop (e.place - at) s))

-- and taken out again
unfoldable pub take_out : ℕ → List Edit → List ℕ → List ℕ
take_out at [] t = t
take_out at (e ∷ es) t = take (e.place - at) t ++ take_out e.place es (drop (e.place - at + 1) t)

-- how many bytes of the input the mended bytes hold, up to the terminator: those that weren't put
abbrev pub taken : Mending → ℕ
taken m = length m.bytes - length m.edits

-- the edits stand first to last between two places, each before a byte
unfoldable pub InOrder : ℕ → List Edit → ℕ → Type 0
InOrder from [] to = from ≤ to
InOrder from (e ∷ es) to = (from ≤ e.place) × (e.place < to) × InOrder e.place es to

-- where a word would start in the input, so many words after the first
pub data Starts (s : List ℕ) : ℕ → ℕ → Type 0 where
  first : Starts s 0 (first_at (is_wide s))
  next : {n at : ℕ} → Starts s n at → n < 32 → is_end (drop at s) ≡ false → Starts s (suc n) (at + to_next (is_wide s) (drop at s))

-- the three rules, each at a place that the walk reaches: "a `+` right after three dots in 42-49 gets a dot before it, a CR or LF in the place of a word's
-- blank gets the blank, then an LF where a word would start gets a CR"
pub data Due (s : List ℕ) : Edit → Type 0 where
  dot : {n at : ℕ} → Starts s n at → n < 32 → lacks_dot (drop at s) ≡ true → Due s (edit (at + 5) dot_kind)
  blank : {n at : ℕ} → Starts s n at → n < 32 → is_end (drop at s) ≡ false → is_end (drop (at + word_taken (is_wide s) (drop at s)) s) ≡ true
      → Due s (edit (at + word_taken (is_wide s) (drop at s)) blank_kind)
  return : {n at : ℕ} → Starts s n at → is_at lf (drop at s) ≡ true → Due s (edit at cr_kind)
