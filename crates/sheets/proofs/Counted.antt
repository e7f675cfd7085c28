-- A sheet of form 2 whose count isn't that of its `u=` lines: 40 where the next should start, at the first surplus one, or at a count that no state has.
use Prim.Native.Nat.{ℕ, ◌+◌, ◌≤◌, ◌<◌}
use mathlib.Core.Path.{◌≡◌, refl, sym, ap, subst, ◌∙◌}
use mathlib.Core.Bool.{true}
use mathlib.Core.List.{List, [], ◌∷◌, ◌++◌, append_assoc, append-nil}
use native.Mathlib.Omega.{arith}
use borrow.Author.Tests.{leb-true}
use lib.ListN.{length, take, drop, length-append, take-append-drop}
use lib.Seq.{drop-cons, drop-length, drop_at, length-take-le}
use Rattle.figures.specs.Bytes.{starts_with}
use Rattle.figures.specs.Decimal.{decimal_of}
use Rattle.figures.proofs.Bytes.{starts_append}
use Rattle.figures.proofs.Tests.{both, by_test}
use Rattle.instrument.specs.Settings.{held}
use Rattle.instrument.specs.declared.settings.Series.{Series}
use Rattle.state.specs.Entries.{entries_n, blank_entry}
use Rattle.state.specs.declared.entries.Entry.{Entry}
use Rattle.state.specs.declared.entries.State.{State}
use Rattle.sheets.specs.Lines.{LinesOf, lines_by}
use Rattle.sheets.specs.Sheet.{sheet_of}
use Rattle.sheets.specs.Undo.{form_line, count_key, count_line, count_lines, entry_lines, entries_of, undo_text, sheet_as}
use Rattle.sheets.specs.Loading.{wrong, form_in, loading_of}
use Rattle.sheets.specs.FirstWrong.{is_lined}
use Rattle.sheets.specs.declared.forms.Form.{Form}
use Rattle.sheets.specs.declared.forms.Form.TheVariants.{Two}
use Rattle.sheets.proofs.Linewise.{lines_append}
use Rattle.sheets.proofs.Partwise.{right_by, starts_parted, NoLine}
use Rattle.sheets.proofs.Says.{said_after, count_said}
use Rattle.sheets.proofs.Sheets.{sheet_by, Parted}
use Rattle.sheets.proofs.Lined.{lined_named, lined_listed}
use Rattle.sheets.proofs.Broken.{Broken, broken_count, broken_entry, broken_surplus}
use Rattle.sheets.proofs.FirstWrong.{first_wrong}
use Rattle.sheets.proofs.OnePlace.{first_wrong_told}

-- the sheet of a state, up to some of its entries, with any count
abbrev pub counted_to : State → ℕ → List Entry → List ℕ
counted_to s n entries = form_line Two ++ (sheet_of s ++ (count_line n ++ lines_by (entry_lines s.series) 0 entries))

abbrev pub counted : State → ℕ → List ℕ
counted s n = counted_to s n (entries_of s)

-- with its own it is the state's
pub own_count : (s : State) → counted s (length (entries_of s)) ≡ sheet_as Two s
unfolding sheet_as undo_text
own_count s = refl

two_in : (l : List ℕ) → form_in (form_line Two ++ l) ≡ Two
two_in l = rw (starts_append (form_line Two) l)

broken_told : (k : Series) (l : List ℕ) (at : ℕ) → Broken Two k (form_line Two ++ l) at → loading_of k (form_line Two ++ l) ≡ wrong at
broken_told k l at b =
    let input = form_line Two ++ l in
    first_wrong_told k input at (first_wrong k input at (subst (λ (f : Form). Broken f k input at) (sym (two_in l)) b))

-- a count above the number of `u=` lines: at the input's end, where the next should start
pub count_high : (s : State) (n : ℕ) → is_lined s ≡ true → length (entries_of s) < n → n ≤ entries_n
    → loading_of s.series (counted s n) ≡ wrong (length (counted s n))
unfolding sheet_of starts_with
count_high s n e more few =
    let k = s.series in
    let input = counted s n in
    let at = length input in
    let end : drop at input ≡ [] = drop-length input in
    let parted : Parted input at input = record { is = sym (append-nil input) ∙ ap (λ (l : List ℕ). input ++ l) (sym end); here = refl } in
    let none : NoLine (entry_lines k) (entries_of s) (0 + length (entries_of s)) (drop at input) = λ x m. rw end in
    broken_told k _ at
    (broken_entry k input at (held k s.settings) s.values n (entries_of s) parted (lined_named s e) few (lined_listed s e).each more none)

-- a count above what a state holds: at the `undo=` line
pub count_over : (s : State) (n : ℕ) → is_lined s ≡ true → entries_n < n → n < 1000
    → loading_of s.series (counted s n) ≡ wrong (length (form_line Two ++ sheet_of s))
unfolding sheet_of
count_over s n e more few =
    let k = s.series in
    let input = counted s n in
    let front = form_line Two ++ sheet_of s in
    let at = length front in
    let lines = lines_by (entry_lines k) 0 (entries_of s) in
    let whole : input ≡ front ++ (count_line n ++ lines) = sym (append_assoc (form_line Two) (sheet_of s) (count_line n ++ lines)) in
    let after : drop at input ≡ count_line n ++ lines = ap (drop at) whole ∙ drop_at front (count_line n ++ lines) at refl in
    let parted : Parted front at input = record { is = whole ∙ ap (λ (l : List ℕ). front ++ l) (sym after); here = refl } in
    let line : count_line n ++ lines ≡ count_key ++ (decimal_of n ++ (10 ∷ lines)) = simp append_assoc in
    let says : count_lines.says 0 (drop at input) ≡ n = ap (count_lines.says 0) (after ∙ line) ∙ said_after count_key n 10 lines refl few in
    let none : NoLine count_lines [] 0 (drop at input) =
    λ m may.
    by_test (starts_with (count_line m) (drop at input))
    (λ y.
    let same : n ≡ m = sym says ∙ ap (count_lines.says 0) (starts_parted (count_line m) (drop at input) y) ∙ count_said [] 0 m _ may in
    absurd (omega (arith, leb-true m entries_n may)))
    (λ y. y) in
    broken_told k _ at (broken_count k input at (held k s.settings) s.values parted (lined_named s e) none)

-- those before some are right where all are
right_before : {A : Type 0} (l : LinesOf A) (xs ys got : List A) (i : ℕ) → right_by l got i (xs ++ ys) ≡ true → right_by l got i xs ≡ true
unfolding right_by
right_before l [] ys got i e = refl
right_before l (x ∷ xs) ys got i e =
    let parts = both (l.may got i x) (right_by l (got ++ (x ∷ [])) (i + 1) (xs ++ ys)) e in
    rw parts.0 (right_before l xs ys (got ++ (x ∷ [])) (i + 1) parts.1)

-- a count below it: at the first surplus line
pub count_low : (s : State) (n : ℕ) → is_lined s ≡ true → n < length (entries_of s)
    → loading_of s.series (counted s n) ≡ wrong (length (counted_to s n (take n (entries_of s))))
unfolding sheet_of lines_by
count_low s n e less =
    let k = s.series in
    let entries = entries_of s in
    let before = take n entries in
    let input = counted s n in
    let front = counted_to s n before in
    let at = length front in
    let listed = lined_listed s e in
    let long : length before ≡ n = length-take-le n entries (omega arith) in
    let rest = lines_by (entry_lines k) (0 + length before) (drop n entries) in
    let split : lines_by (entry_lines k) 0 entries ≡ lines_by (entry_lines k) 0 before ++ rest =
    ap (lines_by (entry_lines k) 0) (sym (take-append-drop n entries)) ∙ lines_append (entry_lines k) 0 before (drop n entries) in
    let whole : input ≡ front ++ rest =
    ap (λ (l : List ℕ). form_line Two ++ (sheet_of s ++ (count_line n ++ l))) split ∙ simp append_assoc in
    let after : drop at input ≡ rest = ap (drop at) whole ∙ drop_at front rest at refl in
    let some : 0 < length rest = rw (drop-cons entries n blank_entry less) (omega arith) in
    let parted : Parted (sheet_by Two k (held k s.settings) s.values before) at input =
    rw long (record { is = whole ∙ ap (λ (l : List ℕ). front ++ l) (sym after); here = refl }) in
    broken_told k _ at
    (broken_surplus k input at Two (held k s.settings) s.values before parted (omega (arith, ap length whole, length-append front rest, some))
    (record {
      named = lined_named s e;
      listed = record {
        few = omega (arith, listed.few);
        each = right_before (entry_lines k) before (drop n entries) [] 0 (ap (right_by (entry_lines k) [] 0) (take-append-drop n entries) ∙ listed.each);
      };
      shows = tt;
    }))
