-- Text as bytes, so that a definition can be read: `codes "SET/"` is the four bytes of it.
use Rattle.std.specs.Prelude.{ℕ, Bool, cond, List, [], ◌∷◌, get_or}
use Prim.Native.Char.{code}
use Prim.Native.String.{String}
use Prim.Native.String as text

abbrev pub codes : String → List ℕ
codes text.[] = []
codes (text.◌∷◌ c s) = code c ∷ codes s

-- the byte of one character: `byte "8"` is 56
abbrev pub byte : String → ℕ
byte s = get_or (codes s) 0 0

abbrev pub cr : ℕ
cr = byte "\r"

abbrev pub lf : ℕ
lf = byte "\n"

-- CR LF or CR
abbrev pub end_bytes : Bool → List ℕ
end_bytes crlf = cond crlf (codes "\r\n") (codes "\r")

-- what stands before wide words
abbrev pub star_bytes : Bool → List ℕ
star_bytes wide = cond wide (codes "*") []
