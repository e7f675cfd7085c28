-- `is_right` is just what it says: a record is right exactly where some word of the family and width gives it.
use mathlib.Core.Path.{◌≡◌}
use mathlib.Core.Bool.{Bool, true}
use mathlib.Core.List.{List, [], append-nil}
use Prim.Native.Nat.{ℕ}
use Rattle.words.specs.Records.{is_right}
use Rattle.words.specs.Reading.{right_word, word_of}
use Rattle.words.specs.Writing.{bytes_of}
use Rattle.units.specs.declared.kinds.Family.{Family}
use Rattle.words.specs.declared.records.Word.{Word}
use Rattle.words.proofs.RoundTrip.{read_write, write_read}

pub given_by : (f : Family) (wide : Bool) (w : Word) → is_right f wide w ≡ true → (s : List ℕ) × (word_of f wide s ≡ right_word w)
given_by f wide w e = (bytes_of f wide w, rw append-nil at (write_read f wide w [] e))

pub gives : (f : Family) (wide : Bool) (w : Word) (s : List ℕ) → word_of f wide s ≡ right_word w → is_right f wide w ≡ true
gives f wide w s e = (read_write f wide s w e).0
