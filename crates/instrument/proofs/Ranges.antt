-- Laws of the series and of the loops over their rows: parameters in range, and a list mapped into an array.
use Prim.Native.Nat.{ℕ, zero, suc, ◌+◌, ◌-◌, ◌<◌, ◌≤◌}
use mathlib.Core.Path.{◌≡◌, refl, sym, ap, ◌∙◌}
use mathlib.Core.Bool.{Bool, true, false, cond, not, ◌&&◌, false≢true, and-eq-true_iff}
use mathlib.Core.List.{List, [], ◌∷◌, ◌++◌, map}
use native.Mathlib.Numerals.{add-one}
use native.Mathlib.Omega.{arith}
use borrow.Author.Rules.{rules}
use borrow.Author.Tests.{le-leb, leb-true, leb-false, not-true}
use lib.Dec.{leb}
use lib.ListN.{length, get_or, set, take, drop, replicate, drop_of_length-le, length-map, length-append, length-replicate, get_or-map}
use lib.Seq.{drop-cons, take-suc, take-suc-set, take_all}
use Rattle.instrument.specs.declared.settings.Row.{Row}
use Rattle.instrument.specs.declared.settings.Series.{Series}
use Rattle.instrument.specs.declared.settings.Series.TheVariants.{Tps100, Tps300}
use Rattle.instrument.specs.Settings.{factory_of, factory_settings, rows100, rows300, setting_number, setting_place, rows_of, settings_n, settings_most, no_row, row_at, held_rows, only, is_gap, in_range, in_ranges, modes161}
use Rattle.instrument.specs.Rows.{seek, key_bytes}
use Rattle.std.specs.Prelude.{Some, None}
use Rattle.instrument.proofs.Seek.{each_at, each_row, row_tested, turn_at, turn_on, seek_past}
use Rattle.figures.specs.Bytes.{among, every}
use Rattle.figures.proofs.Tests.{and_on, and_off, by_test, along, among_above}

-- the series

pub settings_100 : settings_n Tps100 ≡ 19
unfolding rows100
settings_100 = refl

pub settings_300 : settings_n Tps300 ≡ 30
unfolding rows300
settings_300 = refl

pub settings_few : (k : Series) → settings_n k ≤ settings_most
settings_few Tps100 = omega (arith, settings_100)
settings_few Tps300 = omega (arith, settings_300)

pub held_rows_long : (k : Series) → length (held_rows k) ≡ settings_most
held_rows_long k =
    let all = length-append (rows_of k) (replicate (settings_most - settings_n k) no_row) in
    omega (arith, settings_few k, length-replicate (settings_most - settings_n k) no_row)

get_d_same : {A : Type 0} (n : ℕ) (d : A) (i : ℕ) → get_or (replicate n d) i d ≡ d
get_d_same zero d i = refl
get_d_same (suc n) d zero = refl
get_d_same (suc n) d (suc i) = get_d_same n d i

row_there : (rs : List Row) (n i : ℕ) → get_or (rs ++ replicate n no_row) i no_row ≡ get_or rs i no_row
row_there [] n i = get_d_same n no_row i
row_there (r ∷ rs) n zero = refl
row_there (r ∷ rs) n (suc i) = row_there rs n i

-- past the series' last both are blank
pub place_row : (k : Series) (i : ℕ) → get_or (held_rows k) i no_row ≡ row_at k i
place_row k i = row_there (rows_of k) (settings_most - settings_n k) i

-- each row has the key of its number
abbrev Keyed : Row → Type 0
Keyed r = r.key ≡ key_bytes "s" r.number

pub keyed : (k : Series) (i : ℕ) → (row_at k i).key ≡ key_bytes "s" (row_at k i).number
unfolding rows100 rows300
keyed Tps100 = each_at Keyed no_row rows100 (search rules)
keyed Tps300 = each_at Keyed no_row rows300 (search rules)

-- a turn of the lookup of a series: the row there has that number, or the place is that among the rows after it

pub seek_here : (k : Series) (i n : ℕ) → setting_place k n ≡ seek setting_number (drop i (rows_of k)) i n → i < settings_n k
    → setting_number (row_at k i) ≡ n → Some i ≡ setting_place k n
seek_here k i n e h q = turn_at setting_number (rows_of k) no_row (row_at k i) i n (setting_place k n) e h refl q

pub seek_further : (k : Series) (i n : ℕ) → setting_place k n ≡ seek setting_number (drop i (rows_of k)) i n → i < settings_n k
    → (setting_number (row_at k i) ≡ n → ⊥) → setting_place k n ≡ seek setting_number (drop (i + 1) (rows_of k)) (i + 1) n
seek_further k i n e h q = turn_on setting_number (rows_of k) no_row (row_at k i) i n (setting_place k n) e h refl q

pub seek_none : (k : Series) (i n : ℕ) → setting_place k n ≡ seek setting_number (drop i (rows_of k)) i n → settings_n k ≤ i → None ≡ setting_place k n
seek_none k i n e h = sym (e ∙ seek_past setting_number (rows_of k) i n h)

-- parameters

ranges_turn : (rs : List Row) (ps : List ℕ) (d : Row) (i : ℕ) → i < length rs → i < length ps
    → in_ranges (drop i rs) (drop i ps) ≡ in_range (get_or rs i d) (get_or ps i 0) && in_ranges (drop (i + 1) rs) (drop (i + 1) ps)
unfolding in_ranges
ranges_turn rs ps d i hr hp = rw (drop-cons rs i d hr, drop-cons ps i 0 hp, add-one i)

pub ranges_more : (rs : List Row) (ps : List ℕ) (d : Row) (i : ℕ) → i < length rs → i < length ps → in_range (get_or rs i d) (get_or ps i 0) ≡ true
    → in_ranges (drop i rs) (drop i ps) ≡ in_ranges (drop (i + 1) rs) (drop (i + 1) ps)
ranges_more rs ps d i hr hp e = ranges_turn rs ps d i hr hp ∙ and_on e

pub ranges_not : (rs : List Row) (ps : List ℕ) (d : Row) (i : ℕ) → i < length rs → i < length ps → in_range (get_or rs i d) (get_or ps i 0) ≡ false
    → in_ranges (drop i rs) (drop i ps) ≡ false
ranges_not rs ps d i hr hp e = ranges_turn rs ps d i hr hp ∙ and_off _ e

-- the parameter at a place is in the range of the row there; past the end both are noughts
pub ranges_at : (rs : List Row) (ps : List ℕ) (i : ℕ) → in_ranges rs ps ≡ true → in_range (get_or rs i no_row) (get_or ps i 0) ≡ true
unfolding in_ranges
ranges_at [] [] i e = refl
ranges_at [] (p ∷ ps) i e = absurd (false≢true e)
ranges_at (r ∷ rs) [] i e = absurd (false≢true e)
ranges_at (r ∷ rs) (p ∷ ps) zero e = ((and-eq-true_iff (in_range r p) (in_ranges rs ps)).0 e).0
ranges_at (r ∷ rs) (p ∷ ps) (suc i) e = ranges_at rs ps i ((and-eq-true_iff (in_range r p) (in_ranges rs ps)).0 e).1

pub ranges_long : (rs : List Row) (ps : List ℕ) → in_ranges rs ps ≡ true → length ps ≡ length rs
unfolding in_ranges
ranges_long [] [] e = refl
ranges_long [] (p ∷ ps) e = absurd (false≢true e)
ranges_long (r ∷ rs) [] e = absurd (false≢true e)
ranges_long (r ∷ rs) (p ∷ ps) e = ap suc (ranges_long rs ps ((and-eq-true_iff (in_range r p) (in_ranges rs ps)).0 e).1)

pub ranges_short : (rs : List Row) (ps : List ℕ) → (length ps ≡ length rs → ⊥) → in_ranges rs ps ≡ false
ranges_short rs ps n = by_test (in_ranges rs ps) (λ e. absurd (n (ranges_long rs ps e))) (λ e. e)

pub ranges_all : (rs : List Row) (ps : List ℕ) (i : ℕ) → length rs ≤ i → length ps ≤ i → in_ranges (drop i rs) (drop i ps) ≡ true
unfolding in_ranges
ranges_all rs ps i hr hp = rw (drop_of_length-le rs hr, drop_of_length-le ps hp)

pub range_high : (r : Row) (p : ℕ) → in_range r p ≡ true → p ≤ r.highest
range_high r p e =
    let top = leb p r.highest in
    let held = not (is_gap r.gaps p) in
    leb-true p r.highest ((and-eq-true_iff top held).0 ((and-eq-true_iff (leb r.lowest p) (top && held)).0 e).1).0

-- each row's highest parameter is a byte, so each parameter that a setting has

rows_byte : (k : Series) → each_row (λ (r : Row). leb r.highest 255) (rows_of k) ≡ true
unfolding each_row rows100 rows300
rows_byte Tps100 = refl
rows_byte Tps300 = refl

pub rows_high : (k : Series) (i : ℕ) → (row_at k i).highest ≤ 255
rows_high k i = leb-true (row_at k i).highest 255 (row_tested (λ (r : Row). leb r.highest 255) (rows_of k) no_row refl (rows_byte k) i)

pub range_byte : (k : Series) (i p : ℕ) → in_range (row_at k i) p ≡ true → p ≤ 255
range_byte k i p e = omega (arith, range_high (row_at k i) p e, rows_high k i)

-- "161 only 0, 1, 5, 6, 7, 9 or 10"

pub only_those : (p : ℕ) → in_range (only 161 modes161) p ≡ among p modes161
unfolding among every
only_those p =
    by_test (leb p 10)
    (λ e. same (in_range (only 161 modes161) p) (among p modes161) (sym (along agree 0 11 {n = p} refl (omega arith) (omega (arith, leb-true p 10 e)))))
    (λ e. rw (le-leb 0 p (omega arith), e) (sym (among_above 10 modes161 refl p (omega (arith, leb-false p 10 e)))))
  where
    agree : ℕ → Bool
    agree p = cond (in_range (only 161 modes161) p) (among p modes161) (not (among p modes161))

    same : (a b : Bool) → cond a b (not b) ≡ true → a ≡ b
    same true b e = sym e
    same false b e = sym (not-true b e)

-- a turn of the loop that judges parameters by a series' rows

pub ranges_else : (k : Series) (ps : List ℕ) → (length ps ≡ settings_n k → ⊥) → false ≡ in_ranges (rows_of k) ps
ranges_else k ps n = sym (ranges_short (rows_of k) ps n)

pub ranges_off : (k : Series) (ps : List ℕ) (i : ℕ) → in_ranges (rows_of k) ps ≡ in_ranges (drop i (rows_of k)) (drop i ps) → length ps ≡ settings_n k
    → i < length ps → in_range (row_at k i) (get_or ps i 0) ≡ false → false ≡ in_ranges (rows_of k) ps
ranges_off k ps i e long h off = sym (e ∙ ranges_not (rows_of k) ps no_row i (omega arith) h off)

pub ranges_on : (k : Series) (ps : List ℕ) (i : ℕ) → in_ranges (rows_of k) ps ≡ in_ranges (drop i (rows_of k)) (drop i ps) → length ps ≡ settings_n k
    → i < length ps → in_range (row_at k i) (get_or ps i 0) ≡ true
    → in_ranges (rows_of k) ps ≡ in_ranges (drop (i + 1) (rows_of k)) (drop (i + 1) ps)
ranges_on k ps i e long h on = e ∙ ranges_more (rows_of k) ps no_row i (omega arith) h on

pub ranges_done : (k : Series) (ps : List ℕ) (i : ℕ) → in_ranges (rows_of k) ps ≡ in_ranges (drop i (rows_of k)) (drop i ps) → length ps ≡ settings_n k
    → length ps ≤ i → true ≡ in_ranges (rows_of k) ps
ranges_done k ps i e long h = sym (e ∙ ranges_all (rows_of k) ps i (omega arith) h)

-- a list mapped into an array

module _ {A B : Type 0} (f : A → B) where
  pub map_more : (l : List A) (out : List B) (d : A) (i : ℕ) → i < length l → i < length out → take i out ≡ take i (map f l)
      → take (i + 1) (set out i (f (get_or l i d))) ≡ take (i + 1) (map f l)
  map_more l out d i hl ho e =
      rw (add-one i, take-suc-set out i (f (get_or l i d)) ho, take-suc (map f l) i (f d) (rw (length-map l f) hl), e, get_or-map f l i d)

  pub map_all : (l : List A) (out : List B) (i : ℕ) → length l ≤ i → length out ≤ i → take i out ≡ take i (map f l) → out ≡ map f l
  map_all l out i hl ho e = sym (take_all i out ho) ∙ e ∙ take_all i (map f l) (rw (length-map l f) hl)

-- the loop that lays the factory's parameters down

pub factory_more : (k : Series) (out : List ℕ) (i : ℕ) → length out ≡ settings_most → i < settings_most → take i out ≡ take i (factory_settings k)
    → take (i + 1) (set out i (row_at k i).factory) ≡ take (i + 1) (factory_settings k)
factory_more k out i long h e =
    rw (sym (place_row k i)) (map_more factory_of (held_rows k) out no_row i (omega (arith, held_rows_long k)) (omega arith) e)

pub factory_all : (k : Series) (out : List ℕ) (i : ℕ) → length out ≡ settings_most → settings_most ≤ i → take i out ≡ take i (factory_settings k)
    → out ≡ factory_settings k
factory_all k out i long h e = map_all factory_of (held_rows k) out i (omega (arith, held_rows_long k)) (omega arith) e
