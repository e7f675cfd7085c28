-- A line that is written has one LF, its last byte. So two lines at the start of the same bytes are one line.
use Prim.Native.Nat.{ℕ, ◌+◌, ◌/◌, ◌%◌, ◌<◌}
use mathlib.Core.Path.{◌≡◌, refl, sym, ap, ◌∙◌}
use mathlib.Core.Bool.{true, false, not, ◌&&◌, false≢true, and-false}
use mathlib.Core.List.{List, [], ◌∷◌, ◌++◌, append_assoc}
use native.Mathlib.Omega.{arith}
use borrow.Author.Tests.{eq-eqb, ne_eqb, eqb-true, not-false, not-true}
use lib.Dec.{eqb, ltb}
use lib.ListN.{length, take}
use Rattle.figures.specs.Text.{codes}
use Rattle.figures.specs.Bytes.{within, every, run_of, is_other, starts_with}
use Rattle.figures.specs.Decimal.{is_digit, digits_n, decimal_of}
use Rattle.figures.proofs.Bytes.{within_bounds, every_append, is_other_lem}
use Rattle.figures.proofs.Decimal.{digits_are}
use Rattle.figures.proofs.Tests.{both, by_test, either}
use Rattle.words.specs.Records.{is_graphic}
use Rattle.instrument.specs.Settings.{setting_number, row_at}
use Rattle.instrument.specs.Values.{values_n, no_stored, stored, stored_at, index_number, value_word, eight_bytes, kept_right}
use Rattle.state.specs.Entries.{item_right}
use Rattle.state.specs.declared.entries.Item.{Item}
use Rattle.state.specs.declared.entries.Item.TheVariants as item
use Rattle.state.specs.declared.entries.Former.{Former}
use Rattle.instrument.specs.declared.settings.Series.{Series}
use Rattle.instrument.specs.declared.settings.Series.TheVariants.{Tps100, Tps300}
use Rattle.instrument.specs.Values.{Kept}
use Rattle.instrument.specs.declared.values.Stored.{Stored}
use Rattle.instrument.proofs.Kept.{kept_parts, held_by, kept_held, put_parts}
use Rattle.instrument.proofs.Seek.{each_row, row_tested}
use Rattle.sheets.specs.Lines.{LinesOf, lines_by}
use Rattle.sheets.specs.Sheet.{setting_key, setting_lines, characters_of, value_key, value_lines, series_line}
use Rattle.sheets.specs.Undo.{form_line, count_key, count_lines, item_key, former_text, entry_lines}
use Rattle.sheets.specs.declared.forms.Form.TheVariants.{Two}
use Rattle.sheets.specs.FirstWrong.{are_lines, has_no_lf, line_n}
use Rattle.sheets.proofs.Partwise.{right_by}
use Rattle.std.specs.Prelude.{Some, None}

-- bytes, LF
pub record OneLf (line : List ℕ) : Type 0 where
  pub body : List ℕ
  pub clean : has_no_lf body ≡ true
  pub is : line ≡ body ++ (10 ∷ [])

no_lf : (b : ℕ) {A : Type 0} → is_other 10 b ≡ true → b ≡ 10 → A
no_lf b e q = absurd (false≢true (rw (eq-eqb b 10 q) at e))

-- two lines at the start of the same bytes

bodies : (a b x y : List ℕ) → has_no_lf a ≡ true → has_no_lf b ≡ true → a ++ (10 ∷ x) ≡ b ++ (10 ∷ y) → (a ≡ b) × (x ≡ y)
unfolding every
bodies [] [] x y ea eb e = (refl, (cc))
bodies [] (c ∷ b) x y ea eb e = let q : c ≡ 10 = cc in no_lf c (both (is_other 10 c) (has_no_lf b) eb).0 q
bodies (c ∷ a) [] x y ea eb e = let q : c ≡ 10 = cc in no_lf c (both (is_other 10 c) (has_no_lf a) ea).0 q
bodies (c ∷ a) (d ∷ b) x y ea eb e =
    let q : c ≡ d = cc in
    let rest : a ++ (10 ∷ x) ≡ b ++ (10 ∷ y) = cc in
    let t = bodies a b x y (both (is_other 10 c) (has_no_lf a) ea).1 (both (is_other 10 d) (has_no_lf b) eb).1 rest in
    ((λ j. q j ∷ t.0 j), t.1)

pub one_line : (v w x y : List ℕ) → OneLf v → OneLf w → v ++ x ≡ w ++ y → (v ≡ w) × (x ≡ y)
one_line v w x y p q e =
    let first : v ++ x ≡ p.body ++ (10 ∷ x) = ap (λ (l : List ℕ). l ++ x) p.is ∙ append_assoc p.body (10 ∷ []) x in
    let second : w ++ y ≡ q.body ++ (10 ∷ y) = ap (λ (l : List ℕ). l ++ y) q.is ∙ append_assoc q.body (10 ∷ []) y in
    let t = bodies p.body q.body x y p.clean q.clean (sym first ∙ e ∙ second) in
    (p.is ∙ ap (λ (l : List ℕ). l ++ (10 ∷ [])) t.0 ∙ sym q.is, t.1)

-- the first line of bytes that have an LF

pub first_line : (l : List ℕ) → has_no_lf l ≡ false → OneLf (take (line_n l) l)
unfolding every run_of
first_line [] e = absurd (false≢true (sym e))
first_line (b ∷ l) e =
    by_test (is_other 10 b)
    (λ o.
    let t = first_line l (rw o at e) in
    record { body = b ∷ t.body; clean = rw o t.clean; is = rw o (ap (λ (r : List ℕ). b ∷ r) t.is) })
    (λ o. record { body = []; clean = refl; is = rw o (ap (λ (x : ℕ). x ∷ []) (eqb-true b 10 (not-false (eqb b 10) o))) })

-- whole lines

pub lines_more : (a b : List ℕ) → are_lines a ≡ true → are_lines b ≡ true → are_lines (a ++ b) ≡ true
unfolding are_lines
lines_more [] b ea eb = eb
lines_more (x ∷ []) [] ea eb = ea
lines_more (x ∷ []) (y ∷ b) ea eb = eb
lines_more (x ∷ y ∷ a) b ea eb = lines_more (y ∷ a) b ea eb

snoc_lines : (a : List ℕ) → are_lines (a ++ (10 ∷ [])) ≡ true
unfolding are_lines
snoc_lines [] = refl
snoc_lines (x ∷ []) = refl
snoc_lines (x ∷ y ∷ a) = snoc_lines (y ∷ a)

pub one_lines : (w : List ℕ) → OneLf w → are_lines w ≡ true
one_lines w p = rw p.is (snoc_lines p.body)

-- their last byte is an LF

pub lines_lf : (l : List ℕ) → 0 < length l → are_lines l ≡ true → has_no_lf l ≡ false
unfolding are_lines every
lines_lf [] h e = absurd (omega arith)
lines_lf (x ∷ []) h e = rw e
lines_lf (x ∷ y ∷ l) h e = rw (lines_lf (y ∷ l) (omega arith) e, and-false)

pub lines_end : (a b : List ℕ) → 0 < length b → are_lines (a ++ b) ≡ true → are_lines b ≡ true
unfolding are_lines
lines_end [] b h e = e
lines_end (x ∷ []) [] h e = absurd (omega arith)
lines_end (x ∷ []) (y ∷ b) h e = e
lines_end (x ∷ y ∷ a) b h e = lines_end (y ∷ a) b h e

-- so whether a line stands at their start they say, whatever stands after them

line_starts : (body l a : List ℕ) → has_no_lf body ≡ true → 0 < length l → are_lines l ≡ true
    → starts_with (body ++ (10 ∷ [])) (l ++ a) ≡ starts_with (body ++ (10 ∷ [])) l
unfolding are_lines every starts_with
line_starts body [] a c h e = absurd (omega arith)
line_starts [] (x ∷ l) a c h e = refl
line_starts (b ∷ body) (x ∷ []) a c h e = rw (eqb-true x 10 e, ne_eqb 10 b (λ q. no_lf b (both (is_other 10 b) (has_no_lf body) c).0 (sym q)))
line_starts (b ∷ body) (x ∷ y ∷ l) a c h e = rw (line_starts body (y ∷ l) a (both (is_other 10 b) (has_no_lf body) c).1 (omega arith) e)

pub lines_start : (w l a : List ℕ) → OneLf w → 0 < length l → are_lines l ≡ true → starts_with w (l ++ a) ≡ starts_with w l
lines_start w l a p h e = rw p.is (line_starts p.body l a p.clean h e)

-- each line that may stand

abbrev pub LinesEnd : {A : Type 0} → LinesOf A → Type 0
LinesEnd l = (got : List _) (i : ℕ) (x : _) → l.may got i x ≡ true → OneLf (l.write i x)

pub part_lines : {A : Type 0} (l : LinesOf A) → LinesEnd l → (got : List A) (i : ℕ) (xs : List A) → right_by l got i xs ≡ true → are_lines (lines_by l i xs) ≡ true
unfolding are_lines lines_by right_by
part_lines l ends got i [] e = refl
part_lines l ends got i (x ∷ xs) e =
    let parts = both (l.may got i x) (right_by l (got ++ (x ∷ [])) (i + 1) xs) e in
    lines_more (l.write i x) (lines_by l (i + 1) xs) (one_lines (l.write i x) (ends got i x parts.0))
    (part_lines l ends (got ++ (x ∷ [])) (i + 1) xs parts.1)

-- a key and what follows it
keyed_line : (key text : List ℕ) → has_no_lf key ≡ true → has_no_lf text ≡ true → OneLf (key ++ (text ++ codes "\n"))
keyed_line key text k t =
    record { body = key ++ text; clean = every_append (is_other 10) key text ∙ rw (k, t); is = sym (append_assoc key text (10 ∷ [])) }

pub series_line_lem : (k : Series) → OneLf (series_line k)
unfolding every
series_line_lem Tps100 = record { body = codes "series=TPS100"; clean = refl; is = refl }
series_line_lem Tps300 = record { body = codes "series=TPS300"; clean = refl; is = refl }

pub form_line_lem : OneLf (form_line Two)
unfolding every
form_line_lem = record { body = codes "form=2"; clean = refl; is = refl }

-- a byte above LF is none
high : (low top : ℕ) → 10 < low → (l : List ℕ) → every (within low top) l ≡ true → has_no_lf l ≡ true
unfolding every
high low top h [] e = refl
high low top h (b ∷ l) e =
    let parts = both (within low top b) (every (within low top) l) e in
    let bounds = within_bounds low top b parts.0 in
    rw (is_other_lem 10 b (λ q. omega arith)) (high low top h l parts.1)

number_clean : (n : ℕ) → has_no_lf (decimal_of n) ≡ true
number_clean n = high 48 57 (omega arith) (decimal_of n) (digits_are (digits_n n) n)

-- a letter, a number and the byte that follows them
name_clean : (letter n after : ℕ) → is_other 10 letter ≡ true → is_other 10 after ≡ true → has_no_lf ((letter ∷ decimal_of n) ++ (after ∷ [])) ≡ true
unfolding every
name_clean letter n after e f = every_append (is_other 10) (letter ∷ decimal_of n) (after ∷ []) ∙ rw (e, f, number_clean n)

pub setting_ends : (k : Series) → LinesEnd (setting_lines k)
setting_ends k got i p e =
    let r = row_at k i in keyed_line (setting_key r) (decimal_of p) (name_clean 115 (setting_number r) 61 refl refl) (number_clean p)

-- the characters of a value that may be held

unit_clean : (i : ℕ) → within (stored_at i).first (stored_at i).last 10 ≡ false
unfolding each_row stored
unit_clean i = not-true _ (row_tested (λ (r : Stored). not (within r.first r.last 10)) stored no_stored refl units i)
  where
    units : each_row (λ (r : Stored). not (within r.first r.last 10)) stored ≡ true
    units = refl

data_clean : (r : Stored) (u m : ℕ) (l : List ℕ) → held_by r u m l ≡ true → has_no_lf l ≡ true
data_clean r u m l e =
    by_test (eqb r.first 46) (λ q. high 33 126 (omega arith) l (both (eqb m 0) (every is_graphic l) (rw q at e)).1)
    (λ q. high 48 57 (omega arith) l (both (every is_digit l) _ (rw q at e)).0)

characters_clean : (i : ℕ) (k : Kept) → kept_right i k ≡ true → has_no_lf (characters_of i k) ≡ true
unfolding every
characters_clean i None r = refl
characters_clean i (Some p) r =
    let u = p.unit in
    let m = p.minus in
    let d = p.eight in
    let word = value_word 46 i u m d in
    let parts = kept_parts i p r in
    let unit = (put_parts i word parts.right).unit in
    let bounds = within_bounds (stored_at i).first (stored_at i).last u unit in
    let data_is : has_no_lf (eight_bytes d) ≡ true =
    data_clean (stored_at i) u m (eight_bytes d) (sym (kept_held u m d parts.small i parts.long bounds.0 bounds.1) ∙ r) in
    let unit-is : is_other 10 u ≡ true = is_other_lem 10 u (λ q. absurd (false≢true (sym (unit_clean i) ∙ rw q at unit))) in
    rw (
      is_other_lem 10 (48 + (stored_at i).index / 10 % 10) (omega arith),
      is_other_lem 10 (48 + (stored_at i).index % 10) (omega arith),
      either (λ b. is_other 10 b ≡ true) (eqb (stored_at i).first 46) 46 49 (λ _. refl) refl,
      unit-is,
      either (λ b. is_other 10 b ≡ true) (eqb m 0) 43 45 (λ _. refl) refl,
    ) data_is

pub value_ends : LinesEnd value_lines
value_ends got i v e =
    keyed_line (value_key i) (characters_of i v) (name_clean 118 (index_number (stored_at i)) 61 refl refl) (characters_clean i v e)

-- the undo list

pub count_ends : LinesEnd count_lines
unfolding every
count_ends got i n e = keyed_line count_key (decimal_of n) refl (number_clean n)

pub entry_ends : (k : Series) → LinesEnd (entry_lines k)
unfolding every
entry_ends k got i e m = by e.item e.former m
  where
    by : (x : Item) (f : Former) → item_right k x f.parameter f.kept ≡ true → OneLf (item_key k x ++ (former_text x f ++ codes "\n"))
    by item.Free f r = absurd (false≢true r)
    by (item.Setting j) f r =
        let p = f.parameter in
        keyed_line (item_key k (item.Setting j)) (decimal_of p) (name_clean 115 (setting_number (row_at k j)) 58 refl refl) (number_clean p)
    by (item.Stored j) f r =
        let rest = (both (ltb j values_n) (eqb f.parameter 0 && kept_right j f.kept) r).1 in
        keyed_line (item_key k (item.Stored j)) (characters_of j f.kept) (name_clean 118 (index_number (stored_at j)) 58 refl refl)
        (characters_clean j f.kept (both (eqb f.parameter 0) (kept_right j f.kept) rest).1)
