-- What holds of any list of rows: the lookup of one by its number, and its key on a sheet.
use Rattle.std.specs.Prelude.{ℕ, ◌+◌, cond, Option, Some, None, List, [], ◌∷◌, ◌++◌, eqb, replicate}
use Prim.Native.String.{String}
use Rattle.figures.specs.Text.{codes}
use Rattle.figures.specs.Bytes.{laid}
use Rattle.figures.specs.Decimal.{decimal_of}

-- the place, counted from i, of the first row of that number
unfoldable pub seek : {A : Type 0} → (A → ℕ) → List A → ℕ → ℕ → Option ℕ
seek number [] i n = None
seek number (r ∷ rs) i n = cond (eqb (number r) n) (Some i) (seek number rs (i + 1) n)

-- "`s` and each setting", "`v` and each index": a letter and the number
abbrev pub name_of : String → ℕ → List ℕ
name_of letter n = codes letter ++ decimal_of n

-- with the `=` that follows it on a sheet
abbrev pub key_of : String → ℕ → List ℕ
key_of letter n = name_of letter n ++ codes "="

-- as a row holds it: from the start of eight bytes, the rest 0
abbrev pub key_bytes : String → ℕ → List ℕ
key_bytes letter n = laid (key_of letter n) (replicate 8 0)
