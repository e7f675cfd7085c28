-- "says each edit, its place in the input and its kind" (request 105).
use Rattle.std.specs.Prelude.{ℕ, cond, eqb, List, replicate}
use Rattle.figures.specs.Text.{byte, cr}
use Rattle.listings.specs.declared.edits.Edit.{Edit}

-- what was put: a dot, a blank or a CR
abbrev pub dot_kind : ℕ
dot_kind = 1

abbrev pub blank_kind : ℕ
blank_kind = 2

abbrev pub cr_kind : ℕ
cr_kind = 3

abbrev pub kind_byte : ℕ → ℕ
kind_byte k = cond (eqb k dot_kind) (byte ".") (cond (eqb k blank_kind) (byte " ") cr)

-- something of that kind was put before the byte of the input at that place
abbrev pub edit : ℕ → ℕ → Edit
edit place kind = record { place = place; kind = kind }

-- no edit, and what stands in a list by value where none was made
abbrev pub no_edit : Edit
no_edit = edit 0 0

abbrev pub no_edits : List Edit
no_edits = replicate 34 no_edit
