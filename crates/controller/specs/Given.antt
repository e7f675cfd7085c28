-- The records that a controller reads out of a GET's reply: the values that were put, in words of either width.
use Rattle.std.specs.Prelude.{ℕ, Bool, cond, List, [], ◌∷◌, ◌++◌, eqb, replicate, Some, None}
use Rattle.figures.specs.Text.{codes, byte}
use Rattle.figures.specs.Bytes.{laid}
use Rattle.figures.specs.Decimal.{number_of}
use Rattle.units.specs.Counts.{tenths_of}
use Rattle.words.specs.Records.{blank}
use Rattle.words.specs.declared.records.Word.{Word}
use Rattle.instrument.specs.Values.{Eight, Kept, stored_at, index_number, is_text, eight_bytes}

-- "zeros added on the left of the data"
abbrev pub zeros : Bool → List ℕ
zeros wide = cond wide (codes "00000000") []

-- a text from the start of 16 bytes, the rest 0
abbrev pub text_given : Bool → Eight → List ℕ
text_given wide d = laid (zeros wide ++ eight_bytes d) (replicate 16 0)

-- the size that digits of that unit say: unit 4 counts tenths of a second
abbrev pub size_in : ℕ → ℕ → ℕ
size_in u n = cond (eqb u (byte "4")) (tenths_of n) n

-- a text as it was put, with the zeros before it in a wide word; a number as it was put, whatever the width; and the information that GET answers
abbrev pub given : Bool → ℕ → Kept → Word
given wide place None = blank
given wide place (Some p) =
    record {
      index = index_number (stored_at place);
      info = byte "." ∷ byte "." ∷ cond (is_text place) (byte ".") (byte "1") ∷ p.unit ∷ [];
      minus = p.minus;
      mmminus = 0;
      size = cond (is_text place) 0 (size_in p.unit (number_of (eight_bytes p.eight)));
      mm = 0;
      text = cond (is_text place) (text_given wide p.eight) (replicate 16 0);
    }
