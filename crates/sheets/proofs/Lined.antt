-- What a sheet can show, each line right, whether or not a state has that list: a state that is right line by line shows it, and what can be shown is one's.
-- Every state is right so.
use Prim.Native.Nat.{ℕ, ◌+◌}
use mathlib.Core.Path.{◌≡◌, refl, sym, ap, ◌∙◌}
use mathlib.Core.Bool.{Bool, true, ◌&&◌}
use mathlib.Core.List.{List, [], ◌∷◌, ◌++◌}
use native.Mathlib.Omega.{arith}
use borrow.Author.Tests.{eq-eqb, le-leb, leb-true}
use lib.Dec.{leb}
use lib.ListN.{length}
use lib.Seq.{take-append_seam}
use Rattle.figures.proofs.Tests.{both}
use Rattle.instrument.specs.Settings.{held}
use Rattle.instrument.specs.Values.{values_n}
use Rattle.instrument.specs.declared.settings.Series.{Series}
use Rattle.instrument.specs.Values.{Kept}
use Rattle.state.specs.Entries.{entries_n, contents_of, contents_right, entry_right, is_state}
use Rattle.state.specs.declared.entries.Entry.{Entry}
use Rattle.state.specs.declared.entries.State.{State}
use Rattle.state.proofs.Images.{held_right, held_long, padded_right}
use Rattle.state.proofs.Steps.{all_of, state_parts, back_now}
use Rattle.lines.proofs.Deeds.{right_parts}
use Rattle.sheets.specs.Undo.{entry_lines, entries_of}
use Rattle.sheets.specs.Loading.{loaded_state, contents_named}
use Rattle.sheets.specs.FirstWrong.{each_right, is_lined}
use Rattle.sheets.specs.declared.forms.Form.{Form}
use Rattle.sheets.specs.declared.forms.Form.TheVariants.{One, Two}
use Rattle.sheets.proofs.Partwise.{right_by}
use Rattle.sheets.proofs.Says.{ranges_right, values_right_lem, Named, Listed, state_listed}

-- entries that a form can show: form 1 shows none

abbrev pub Shows : Form → List Entry → Type 0
Shows One entries = entries ≡ []
Shows Two entries = Unit {0}

-- what a sheet can show: each line is right, whether or not a state has that list
pub record Lined (f : Form) (k : Series) (settings : List ℕ) (values : List Kept) (entries : List Entry) : Type 0 where
  pub named : Named k settings values
  pub listed : Listed k entries
  pub shows : Shows f entries

abbrev pub entries_in : Form → State → List Entry
entries_in One s = []
entries_in Two s = entries_of s

each_by : (k : Series) (got : List Entry) (i : ℕ) (entries : List Entry) → each_right k entries ≡ right_by (entry_lines k) got i entries
unfolding each_right right_by
each_by k got i [] = refl
each_by k got i (e ∷ es) = ap (λ (t : Bool). entry_right k e && t) (each_by k (got ++ (e ∷ [])) (i + 1) es)

module _ (s : State) (e : is_lined s ≡ true) where
  lined_contents : contents_right (contents_of s) ≡ true
  lined_contents = (both (contents_right (contents_of s)) _ e).0

  pub lined_named : Named s.series (held s.series s.settings) s.values
  lined_named =
      let k = s.series in
      let r = right_parts (contents_of s) lined_contents in
      let many = held_long k s.settings r.ranges in
      record {
        settings_long = many;
        settings_right = sym (ranges_right k (held k s.settings) many) ∙ held_right k s.settings r.ranges;
        values_long = r.values_long;
        values_right_lem = sym (values_right_lem [] 0 s.values) ∙ r.values_right_lem;
      }

  pub lined_listed : Listed s.series (entries_of s)
  lined_listed =
      let k = s.series in
      let n = length (entries_of s) in
      let list = both (leb n entries_n) (each_right k (entries_of s)) (both (contents_right (contents_of s)) _ e).1 in
      record { few = leb-true n entries_n list.0; each = sym (each_by k [] 0 (entries_of s)) ∙ list.1 }

pub state_lined : (s : State) → is_state s ≡ true → is_lined s ≡ true
state_lined s e =
    let l = state_listed s e in
    all_of (back_now s.count (contents_of s) s.undo (state_parts entries_n s e).back)
    (all_of (le-leb (length (entries_of s)) entries_n l.few) (each_by s.series [] 0 (entries_of s) ∙ l.each))

-- what a sheet shows of such a state, and a state that shows what a sheet can

none_listed : (k : Series) → Listed k []
unfolding right_by
none_listed k = record { few = omega arith; each = refl }

pub lined_as : (f : Form) (s : State) → is_lined s ≡ true → Lined f s.series (held s.series s.settings) s.values (entries_in f s)
lined_as One s e = record { named = lined_named s e; listed = none_listed s.series; shows = refl }
lined_as Two s e = record { named = lined_named s e; listed = lined_listed s e; shows = tt }

pub unlisted : (f : Form) (k : Series) (settings : List ℕ) (values : List Kept) → Named k settings values → Lined f k settings values []
unlisted One k settings values n = record { named = n; listed = none_listed k; shows = refl }
unlisted Two k settings values n = record { named = n; listed = none_listed k; shows = tt }

pub named_contents : (k : Series) (settings : List ℕ) (values : List Kept) → Named k settings values → contents_right (contents_named k settings values) ≡ true
named_contents k settings values n =
    let ranges = ranges_right k settings n.settings_long ∙ n.settings_right in
    let judged = values_right_lem [] 0 values ∙ n.values_right_lem in
    all_of (padded_right k settings ranges) (all_of (eq-eqb (length values) values_n n.values_long) judged)

-- the entries of a state that has them
pub entries_back : (k : Series) (settings : List ℕ) (values : List Kept) (entries : List Entry) → entries_of (loaded_state k settings values entries) ≡ entries
entries_back k settings values entries = take-append_seam entries _

pub shown_lined : (f : Form) (k : Series) (settings : List ℕ) (values : List Kept) (entries : List Entry) → Lined f k settings values entries
    → is_lined (loaded_state k settings values entries) ≡ true
shown_lined f k settings values entries l =
    rw (entries_back k settings values entries)
    (all_of (named_contents k settings values l.named)
    (all_of (le-leb (length entries) entries_n l.listed.few) (each_by k [] 0 entries ∙ l.listed.each)))
