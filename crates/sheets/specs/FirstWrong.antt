-- What 40 tells: "the start of the first wrong, missing or surplus line", by sheets alone and without the lines' rules; or, of a sheet of the second form,
-- "at `undo=` where each line is right but no state has that list" (request 106).
use Rattle.std.specs.Prelude.{ℕ, suc, ◌+◌, ◌≤◌, ◌≡◌, Bool, true, false, ◌&&◌, List, [], ◌∷◌, ◌++◌, eqb, leb, length, take, drop}
use Rattle.figures.specs.Text.{lf}
use Rattle.figures.specs.Bytes.{every, run_of, is_other, starts_with}
use Rattle.instrument.specs.declared.settings.Series.{Series}
use Rattle.state.specs.Entries.{entries_n, contents_of, contents_right, entry_right, is_state}
use Rattle.state.specs.declared.entries.Entry.{Entry}
use Rattle.state.specs.declared.entries.State.{State}
use Rattle.sheets.specs.Sheet.{sheet_of}
use Rattle.sheets.specs.Undo.{form_line, entries_of, sheet_as}
use Rattle.sheets.specs.declared.forms.Form.{Form}
use Rattle.sheets.specs.declared.forms.Form.TheVariants.{Two}

-- whole lines: there is no byte, or the last is LF
unfoldable pub are_lines : List ℕ → Bool
are_lines [] = true
are_lines (b ∷ []) = eqb b lf
are_lines (b ∷ c ∷ l) = are_lines (c ∷ l)

abbrev pub has_no_lf : List ℕ → Bool
has_no_lf = every (is_other lf)

-- how many bytes there are up to and including the first LF
abbrev pub line_n : List ℕ → ℕ
line_n l = suc (run_of (is_other lf) l)

-- "each line is right": what a sheet shows, line by line, may be held, whether or not a state has that list. Of every state it is so.
unfoldable pub each_right : Series → List Entry → Bool
each_right k [] = true
each_right k (e ∷ es) = entry_right k e && each_right k es

abbrev pub is_lined : State → Bool
is_lined s = contents_right (contents_of s) && (leb (length (entries_of s)) entries_n && each_right s.series (entries_of s))

-- a sheet of the series, of either form, that begins with the bytes
pub record Begun (k : Series) (bytes : List ℕ) : Type 0 where
  pub form : Form
  pub state : State
  pub is : is_lined state ≡ true
  pub of : state.series ≡ k
  pub begins : starts_with bytes (sheet_as form state) ≡ true

-- no sheet of the series begins with the bytes
abbrev pub NoneBegins : Series → List ℕ → Type 0
NoneBegins k bytes = (f : Form) (s : State) → is_lined s ≡ true → s.series ≡ k → starts_with bytes (sheet_as f s) ≡ false

-- the place at which an input is first wrong as a sheet of the series
pub record FirstWrong (k : Series) (input : List ℕ) (at : ℕ) : Type 0 where
  -- it is the start of a line, or the input's end where a line is missing
  pub within : at ≤ length input
  pub lines : are_lines (take at input) ≡ true
  -- each line before it is right in its turn
  pub before : Begun k (take at input)
  -- no LF stands from there on, and the input is no sheet of any series
  pub unended : has_no_lf (drop at input) ≡ true → (f : Form) (s : State) → is_lined s ≡ true → sheet_as f s ≡ input → ⊥
  -- or no sheet begins with the bytes up to and including that line
  pub ended : has_no_lf (drop at input) ≡ false → NoneBegins k (take (at + line_n (drop at input)) input)
  -- of a surplus line, one after a whole sheet, none begins with the bytes before it and one byte more
  pub surplus : (f : Form) (s : State) → is_lined s ≡ true → s.series ≡ k → take at input ≡ sheet_as f s → NoneBegins k (take (suc at) input)

-- each line is right, but no state has that list: the place is the start of the `undo=` line
pub record NoList (k : Series) (input : List ℕ) (at : ℕ) : Type 0 where
  pub shown : State
  pub lined : is_lined shown ≡ true
  pub of : shown.series ≡ k
  pub is : sheet_as Two shown ≡ input
  pub here : at ≡ length (form_line Two ++ sheet_of shown)
  pub none : (s : State) → is_state s ≡ true → sheet_as Two s ≡ input → ⊥

-- what 40 tells is one of the two
pub data Tells (k : Series) (input : List ℕ) (at : ℕ) : Type 0 where
  wrong_line : FirstWrong k input at → Tells k input at
  no_list : NoList k input at → Tells k input at
