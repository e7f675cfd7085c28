-- There is one place at which an input is first wrong as a sheet, and none where each line is right. So 40 is told there, and at the `undo=` line where each
-- line is right but no state has that list.
use Prim.Native.Nat.{ℕ, ◌+◌, ◌-◌, ◌≤◌, ◌<◌}
use mathlib.Core.Path.{◌≡◌, refl, sym, ap, subst, ◌∙◌}
use mathlib.Core.Bool.{Bool, true, false, false≢true}
use mathlib.Core.List.{List, [], ◌∷◌, ◌++◌, append_assoc}
use native.Mathlib.Omega.{arith}
use borrow.Author.Tests.{ltb-true, ltb-false}
use lib.Dec.{ltb}
use lib.ListN.{length, take, drop, length-append, length-drop, take-append-drop}
use lib.Seq.{take-add, take-take, length-take-le}
use Rattle.figures.specs.Bytes.{every, run_of, is_other, starts_with}
use Rattle.figures.proofs.Bytes.{every_append, run_other, starts_append}
use Rattle.figures.proofs.Tests.{by_test}
use Rattle.instrument.specs.Settings.{held}
use Rattle.instrument.specs.declared.settings.Series.{Series}
use Rattle.instrument.specs.Values.{Kept}
use Rattle.state.specs.declared.entries.Entry.{Entry}
use Rattle.state.specs.declared.entries.State.{State}
use Rattle.sheets.specs.Sheet.{sheet_of}
use Rattle.sheets.specs.Undo.{form_line, undo_text, sheet_as}
use Rattle.sheets.specs.Loading.{Loading, wrong, right, loaded_state, form_in, loading_of}
use Rattle.sheets.specs.FirstWrong.{are_lines, has_no_lf, line_n, is_lined, FirstWrong, NoList, Tells, wrong_line, no_list}
use Rattle.sheets.specs.declared.forms.Form.{Form}
use Rattle.sheets.specs.declared.forms.Form.TheVariants.{Two}
use Rattle.sheets.proofs.Partwise.{starts_parted}
use Rattle.sheets.proofs.Sheets.{body_by, tail_by, form_in_lem, loads_sheet_of}
use Rattle.sheets.proofs.Lined.{entries_in, state_lined}
use Rattle.sheets.proofs.UndoWrites.{sheet_long}
use Rattle.sheets.proofs.Ended.{lines_lf, lines_end}
use Rattle.sheets.proofs.Broken.{body_off}
use Rattle.sheets.proofs.FirstWrong.{as_lined, tells}

run_first : (p : ℕ → Bool) (a b : List ℕ) → every p a ≡ false → run_of p (a ++ b) ≡ run_of p a
unfolding every run_of
run_first p [] b e = absurd (false≢true (sym e))
run_first p (x ∷ a) b e = by_test (p x) (λ t. rw (t, run_first p a b (rw t at e))) (λ t. rw t)

earlier : (k : Series) (input : List ℕ) (a b : ℕ) → FirstWrong k input a → FirstWrong k input b → a < b → ⊥
earlier k input a b one two h =
    let rest = drop a input in
    let n = b - a in
    let mid = take n rest in
    let to : a + n ≡ b = omega arith in
    let split : take b input ≡ take a input ++ mid = ap (λ (m : ℕ). take m input) (sym to) ∙ take-add a n input in
    let long : length mid ≡ n = length-take-le n rest (omega (arith, length-drop a input, two.within)) in
    let lf = lines_lf mid (omega arith) (lines_end (take a input) mid (omega arith) (sym (ap are_lines split) ∙ two.lines)) in
    let parted : rest ≡ mid ++ drop n rest = sym (take-append-drop n rest) in
    let some : has_no_lf rest ≡ false = ap has_no_lf parted ∙ every_append (is_other 10) mid (drop n rest) ∙ rw lf in
    let line = line_n rest in
    let run : line ≤ n =
    omega (arith, ap (run_of (is_other 10)) parted, run_first (is_other 10) mid (drop n rest) lf, run_other (is_other 10) mid lf) in
    let f = two.before.form in
    let s = two.before.state in
    let bytes = take (a + line) input in
    let part : take b input ≡ bytes ++ drop (a + line) (take b input) =
    sym (take-append-drop (a + line) (take b input)) ∙ ap (λ (l : List ℕ). l ++ drop (a + line) (take b input)) (take-take (a + line) b input (omega arith)) in
    let more = drop (length (take b input)) (sheet_as f s) in
    let whole : sheet_as f s ≡ bytes ++ (drop (a + line) (take b input) ++ more) =
    starts_parted (take b input) (sheet_as f s) two.before.begins ∙ ap (λ (l : List ℕ). l ++ more) part ∙ append_assoc bytes _ more in
    false≢true (sym (one.ended some f s two.before.is two.before.of) ∙ ap (starts_with bytes) whole ∙ starts_append bytes _)

pub one_place : (k : Series) (input : List ℕ) (a b : ℕ) → FirstWrong k input a → FirstWrong k input b → a ≡ b
one_place k input a b one two =
    by_test (ltb a b) (λ e. absurd (earlier k input a b one two (ltb-true a b e)))
    (λ e. by_test (ltb b a) (λ f. absurd (earlier k input b a two one (ltb-true b a f))) (λ f. omega (arith, ltb-false a b e, ltb-false b a f)))

-- and none in a sheet whose lines are right
pub lined_nowhere : (k : Series) (input : List ℕ) (f : Form) (s : State) → is_lined s ≡ true → s.series ≡ k → sheet_as f s ≡ input → (at : ℕ)
    → FirstWrong k input at → ⊥
lined_nowhere k input f s e of is at w =
    by_test (has_no_lf (drop at input)) (λ q. w.unended q f s e is)
    (λ q.
    let n = at + line_n (drop at input) in
    let parted = is ∙ sym (take-append-drop n input) in
    false≢true (sym (w.ended q f s e of) ∙ ap (starts_with (take n input)) parted ∙ starts_append (take n input) (drop n input)))

-- so none in one that loads
pub right_nowhere : (k : Series) (input settings : List ℕ) (values : List Kept) (entries : List Entry) → loading_of k input ≡ right settings values entries
    → (at : ℕ) → FirstWrong k input at → ⊥
right_nowhere k input settings values entries e =
    let s = loaded_state k settings values entries in
    let (is, same) = loads_sheet_of k input settings values entries e in
    lined_nowhere k input (form_in input) s (state_lined s is) refl same

-- a list that no state has stands at one place too

pub not_both : (k : Series) (input : List ℕ) (a b : ℕ) → FirstWrong k input a → NoList k input b → ⊥
not_both k input a b w n = lined_nowhere k input Two n.shown n.lined n.of n.is a w

-- how long a sheet is up to its `undo=` line, and from there on
pub undo_at : (k : Series) (s : State) → s.series ≡ k → length (sheet_as Two s) ≡ length (form_line Two ++ sheet_of s) + length (tail_by Two k (entries_in Two s))
unfolding undo_text
undo_at k s of =
    omega (arith, sheet_long Two s, length-append (form_line Two) (sheet_of s), ap (λ (t : Series). length (tail_by Two t (entries_in Two s))) of)

pub one_list : (k : Series) (input : List ℕ) (a b : ℕ) → NoList k input a → NoList k input b → a ≡ b
one_list k input a b one two =
    let s = one.shown in
    let t = two.shown in
    let p = as_lined Two k s one.lined one.of in
    let q = as_lined Two k t two.lined two.of in
    let body = body_by k (held s.series s.settings) s.values in
    let list = tail_by Two k (entries_in Two s) in
    let same : list ≡ tail_by Two k (entries_in Two t) =
    body_off k Two _ _ _ _ list (tail_by Two k (entries_in Two t)) p.0.named q.0.named
    (append_assoc (form_line Two) body list ∙ sym p.1 ∙ one.is ∙ sym two.is ∙ q.1) in
    omega (arith, one.here, two.here, ap length one.is, ap length two.is, undo_at k s one.of, undo_at k t two.of, ap length same)

-- what is told there is 40
pub told : (k : Series) (input : List ℕ) (at : ℕ) → Tells k input at → loading_of k input ≡ wrong at
told k input at t = by (loading_of k input) refl t
  where
    same : (b : ℕ) → Tells k input b → Tells k input at → b ≡ at
    same b (wrong_line v) (wrong_line w) = one_place k input b at v w
    same b (wrong_line v) (no_list n) = absurd (not_both k input b at v n)
    same b (no_list m) (wrong_line w) = absurd (not_both k input at b w m)
    same b (no_list m) (no_list n) = one_list k input b at m n

    by : (l : Loading) → loading_of k input ≡ l → Tells k input at → loading_of k input ≡ wrong at
    by (wrong b) q u = q ∙ ap wrong (same b (tells k input b q) u)
    by (right settings values entries) q (wrong_line w) = absurd (right_nowhere k input settings values entries q at w)
    by (right settings values entries) q (no_list n) =
        let s = loaded_state k settings values entries in
        let (is, again) = loads_sheet_of k input settings values entries q in
        let two : form_in input ≡ Two = ap form_in (sym n.is) ∙ form_in_lem Two n.shown in
        absurd (n.none s is (subst (λ (f : Form). sheet_as f s ≡ input) two again))

pub first_wrong_told : (k : Series) (input : List ℕ) (at : ℕ) → FirstWrong k input at → loading_of k input ≡ wrong at
first_wrong_told k input at w = told k input at (wrong_line w)
