-- The byte that is told is "the first that breaks the rule" (request 104): every byte before it can be kept in some word that is accepted or refused
-- by a later rule that looks at several bytes at once, and no word with the bytes up to and including it is right.
use Rattle.std.specs.Prelude.{ℕ, suc, ◌≤◌, ◌≡◌, Bool, true, ◌&&◌, ◌||◌, List, Ok, Err, eqb, leb, length, take}
use Rattle.units.specs.declared.kinds.Family.{Family}
use Rattle.words.specs.Reading.{fault_number, word_size, word_of, Judged, judged_right, judged_wrong, judged_in}
use Rattle.words.specs.declared.reading.Fault.{Fault}

-- which refusals look at several bytes at once: 10 at all data, after 8 and 9 (no angle begins as `21.102+9A000000` does), and 15 at the whole index,
-- after 5 (none begins with 0, as `0A....` does)
abbrev pub looks_at_all : ℕ → ℕ → Bool
looks_at_all told later = (leb 8 told && eqb later 10) || (eqb told 5 && eqb later 15)

-- accepted, or refused by such a rule
abbrev pub Survives : Fault → Judged → Type 0
Survives x (Ok u) = Unit {0}
Survives x (Err y) = looks_at_all (fault_number x) (fault_number y.fault) ≡ true

-- a whole word with the bytes before that place
pub record KeptWord (f : Family) (wide : Bool) (s : List ℕ) (x : Fault) (at : ℕ) : Type 0 where
  pub word : List ℕ
  pub size : length word ≡ word_size wide
  pub same : take at word ≡ take at s
  pub survives : Survives x (judged_in (word_of f wide word))

-- what the byte told by a fault of the word s is. `again`: a whole word with the bytes up to and including it is refused by the same rule at the same
-- byte. `never`: whole or not, it isn't right
pub record First (f : Family) (wide : Bool) (s : List ℕ) (x : Fault) (at : ℕ) : Type 0 where
  pub kept : KeptWord f wide s x at
  pub again : (t : List ℕ) → word_size wide ≤ length t → take (suc at) t ≡ take (suc at) s → judged_in (word_of f wide t) ≡ judged_wrong x at
  pub never : (t : List ℕ) → take (suc at) t ≡ take (suc at) s → judged_in (word_of f wide t) ≡ judged_right → ⊥
