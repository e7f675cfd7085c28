-- Laws of bytes judged where they lie: those of one value and of one entry, by what stands first in them.
use Prim.Native.Nat.{ℕ, zero, suc, ◌+◌, ◌-◌, ◌*◌, ◌<◌, ◌≤◌}
use mathlib.Core.Path.{◌≡◌, refl, sym, ap, ◌∙◌}
use mathlib.Core.Bool.{Bool, true, false, ◌&&◌, false≢true, and-true, and-false, and_assoc, and_comm}
use mathlib.Core.List.{List, [], ◌∷◌}
use native.Mathlib.Omega.{arith}
use borrow.Author.Tests.{eq-eqb, eqb-true, eqb-false, ne_eqb, lt-leb, lt-ltb, ltb-true}
use borrow.Rule.Slice.PartMut.{mid_of}
use lib.Dec.{eqb, ltb}
use lib.ListN.{length, get_or, set, take, drop, replicate, length-drop, length-replicate}
use lib.Seq.{drop-cons, drop-drop, get_or-drop, take_all}
use Rattle.figures.specs.Bytes.{within, every, starts_with, same_bytes}
use Rattle.figures.proofs.Bytes.{same_refl}
use Rattle.figures.proofs.Tests.{both, by_test, and_on, and_off}
use Rattle.instrument.specs.Values.{values_n, is_put, kept_right, parts_in, parts_n, parts_right, eight_of, eight_bytes}
use Rattle.instrument.specs.declared.settings.Series.{Series}
use Rattle.std.specs.Prelude.{None}
use Rattle.state.specs.Entries.{entries_n, is_never, settable}
use Rattle.state.specs.declared.entries.Item.{Item}
use Rattle.state.specs.Image.{value_n, entry_n, kept_bytes, kept_in, entry_in}
use Rattle.state.specs.Keeping.{back_right, puts_back, value_lies, values_lie, entry_lies, row_from, entries_lie, all_zeros}
use Rattle.state.proofs.Rows.{tab, spelt, row_long}
use Rattle.state.proofs.Images.{kept_long}

-- noughts

zero_within : (b : ℕ) → eqb b 0 ≡ within 0 0 b
zero_within b = by_test (eqb b 0) (λ e. let z = eqb-true b 0 e in rw z) (λ e. rw (e, lt-leb b 0 (positive b (eqb-false b 0 e)), and-false))
  where
    positive : (n : ℕ) → (n ≡ 0 → ⊥) → 0 < n
    positive zero h = absurd (h refl)
    positive (suc n) h = omega arith

starts_zeros : (l : List ℕ) → starts_with (replicate (length l) 0) l ≡ all_zeros l
unfolding starts_with every
starts_zeros [] = refl
starts_zeros (b ∷ l) = rw (zero_within b, starts_zeros l)

pub same_zeros : (n : ℕ) (l : List ℕ) → length l ≡ n → same_bytes l (replicate n 0) ≡ all_zeros l
same_zeros n l long = rw (length-replicate {A = ℕ} n 0, eq-eqb (length l) n long) (rw long at (starts_zeros l))

pub zeros_first : (l : List ℕ) → 0 < length l → all_zeros l ≡ within 0 0 (get_or l 0 0) && all_zeros (drop 1 l)
unfolding every
zeros_first l h = ap all_zeros (drop-cons l 0 0 h)

-- a value

never_bytes : kept_bytes None ≡ replicate value_n 0
unfolding kept_bytes
never_bytes = refl

-- that was never put
pub never_row : (l : List ℕ) → length l ≡ value_n → (get_or l 0 0 ≡ 1 → ⊥) → same_bytes l (kept_bytes (kept_in l)) ≡ all_zeros l
never_row l long n = rw (ne_eqb (get_or l 0 0) 1 n, never_bytes) (same_zeros value_n l long)

-- that was put: its bytes are those that lie there
pub put_bytes : (l : List ℕ) → length l ≡ value_n → get_or l 0 0 ≡ 1 → kept_bytes (kept_in l) ≡ l
unfolding kept_bytes
put_bytes l long e =
    let is : 1 ∷ get_or l 1 0 ∷ get_or l 2 0 ∷ eight_bytes (eight_of (drop 3 l)) ≡ tab value_n (λ k. get_or l k 0) = simp (e, get_or-drop) in
    rw (eq-eqb (get_or l 0 0) 1 e) (is ∙ spelt 0 value_n l long)

module _ (i : ℕ) (l : List ℕ) (long : length l ≡ value_n) where
  abbrev parts : List ℕ
  parts = take 10 (drop 1 l)

  parts_are : parts ≡ drop 1 l
  parts_are = take_all 10 (drop 1 l) (omega (arith, length-drop 1 l))

  pub value_never : get_or l 0 0 ≡ 0 → value_lies i l ≡ all_zeros parts
  value_never e =
      let not-put : get_or l 0 0 ≡ 1 → ⊥ = λ q. absurd (omega (arith, e, q)) in
      rw (never_row l long not-put, ne_eqb (get_or l 0 0) 1 not-put, and-true, parts_are) (zeros_first l (omega arith) ∙ rw e)

  pub value_put : get_or l 0 0 ≡ 1 → value_lies i l ≡ parts_right i parts
  value_put e =
      let short : length parts ≡ parts_n = ap length parts_are ∙ length-drop 1 l ∙ omega arith in
      let same : same_bytes l (kept_bytes (kept_in l)) ≡ true = rw (put_bytes l long e) (same_refl l) in
      let is : kept_in l ≡ parts_in parts = rw (eq-eqb (get_or l 0 0) 1 e, parts_are) (simp get_or-drop) in
      and_on same ∙ rw is (sym (and_on (eq-eqb (length parts) parts_n short)))

  pub value_none : (get_or l 0 0 ≡ 0 → ⊥) → (get_or l 0 0 ≡ 1 → ⊥) → value_lies i l ≡ false
  value_none z n =
      let first : within 0 0 (get_or l 0 0) ≡ false = sym (zero_within (get_or l 0 0)) ∙ ne_eqb (get_or l 0 0) 0 z in
      and_off _ (never_row l long n ∙ zeros_first l (omega arith) ∙ and_off _ first)

-- bytes that are those of a value which was never put
pub never_held : (l : List ℕ) → length l ≡ value_n → same_bytes l (kept_bytes (kept_in l)) && is_never (kept_in l) ≡ all_zeros l
never_held l long =
    by_test (eqb (get_or l 0 0) 1)
    (λ e.
    let one = eqb-true (get_or l 0 0) 1 e in
    rw (e, and-false) (sym (zeros_first l (omega arith) ∙ rw one)))
    (λ e. let n = eqb-false (get_or l 0 0) 1 e in rw (never_row l long n, e, and-true))

-- n values, from the place i on
pub values_lie_lem : (m i : ℕ) (l : List ℕ) → i < m
    → values_lie i (m - i) (drop (i * value_n) l)
    ≡ value_lies i (take value_n (drop (i * value_n) l)) && values_lie (i + 1) (m - (i + 1)) (drop ((i + 1) * value_n) l)
unfolding values_lie
values_lie_lem m i l h =
    let n : m - i ≡ suc (m - (i + 1)) = omega arith in
    let past : drop ((i + 1) * value_n) l ≡ drop value_n (drop (i * value_n) l) = (let q : (i + 1) * value_n ≡ i * value_n + value_n = omega arith in rw q (sym (drop-drop value_n (i * value_n) l))) in
    rw (n, past)

pub values_done : (i n : ℕ) (l : List ℕ) → n ≡ 0 → values_lie i n l ≡ true
unfolding values_lie
values_done i n l e = rw e

pub put_kept_lem : (l : List ℕ) → is_put (kept_in l) ≡ eqb (get_or l 0 0) 1
put_kept_lem l = by_test (eqb (get_or l 0 0) 1) (λ e. rw e) (λ e. rw e)

-- an entry

module _ (k : Series) (l : List ℕ) (long : length l ≡ entry_n) where
  abbrev kept : List ℕ
  kept = take value_n (drop 3 l)

  kept_are : kept ≡ drop 3 l
  kept_are = take_all value_n (drop 3 l) (omega (arith, length-drop 3 l))

  kept_n : length kept ≡ value_n
  kept_n = ap length kept_are ∙ length-drop 3 l ∙ omega arith

  split : l ≡ get_or l 0 0 ∷ get_or l 1 0 ∷ get_or l 2 0 ∷ kept
  split =
      let front : drop 0 l ≡ get_or l 0 0 ∷ get_or l 1 0 ∷ get_or l 2 0 ∷ drop 3 l =
      rw (drop-cons l 0 0 (omega arith), drop-cons l 1 0 (omega arith), drop-cons l 2 0 (omega arith))
      in
      front ∙ ap (λ (t : List ℕ). get_or l 0 0 ∷ get_or l 1 0 ∷ get_or l 2 0 ∷ t) (sym kept_are)

  -- after its first three bytes an entry's are those of a value
  rest_same : (a b c : ℕ) → a ≡ get_or l 0 0 → b ≡ get_or l 1 0 → c ≡ get_or l 2 0
      → same_bytes l (a ∷ b ∷ c ∷ kept_bytes (kept_in kept)) ≡ same_bytes kept (kept_bytes (kept_in kept))
  unfolding starts_with
  rest_same a b c ea eb ec =
      let w = kept_bytes (kept_in kept) in
      let lw : length w ≡ value_n = kept_long (kept_in kept) in
      ap (λ (t : List ℕ). same_bytes t (a ∷ b ∷ c ∷ w)) split
      ∙ rw (ea, eb, ec, kept_n, lw, eq-eqb (get_or l 0 0) (get_or l 0 0) refl, eq-eqb (get_or l 1 0) (get_or l 1 0) refl, eq-eqb (get_or l 2 0) (get_or l 2 0) refl)

  pub entry_set : get_or l 0 0 ≡ 1 → entry_lies k l ≡ settable k (get_or l 1 0) (get_or l 2 0) && all_zeros kept
  entry_set e =
      let may = settable k (get_or l 1 0) (get_or l 2 0) in
      let never = is_never (kept_in kept) in
      let same = same_bytes kept (kept_bytes (kept_in kept)) in
      rw (eq-eqb (get_or l 0 0) 1 e, rest_same 1 (get_or l 1 0) (get_or l 2 0) (sym e) refl refl)
      (and_comm same (may && never) ∙ and_assoc may never same ∙ rw (and_comm never same, never_held kept kept_n))

  pub entry_put : get_or l 0 0 ≡ 2 → entry_lies k l ≡ ltb (get_or l 1 0) values_n && (eqb (get_or l 2 0) 0 && value_lies (get_or l 1 0) kept)
  entry_put e =
      let one : get_or l 0 0 ≡ 1 → ⊥ = λ q. absurd (omega (arith, e, q)) in
      let there = ltb (get_or l 1 0) values_n in
      let blank = eqb (get_or l 2 0) 0 in
      let same = same_bytes kept (kept_bytes (kept_in kept)) in
      let right = kept_right (get_or l 1 0) (kept_in kept) in
      rw (ne_eqb (get_or l 0 0) 1 one, eq-eqb (get_or l 0 0) 2 e, rest_same 2 (get_or l 1 0) (get_or l 2 0) (sym e) refl refl)
      (moved same there blank right)
    where
      moved : (a b c d : Bool) → a && (b && (c && d)) ≡ b && (c && (a && d))
      moved true b c d = refl
      moved false b c d = sym (rw (and-false c) (and-false b))

  pub entry_none : (get_or l 0 0 ≡ 1 → ⊥) → (get_or l 0 0 ≡ 2 → ⊥) → entry_lies k l ≡ false
  entry_none one two = rw (ne_eqb (get_or l 0 0) 1 one, ne_eqb (get_or l 0 0) 2 two, and-false)

  -- taken back: of a setting it changes no flag; of a value that is put it sets the value's

  pub back_set : (puts : List Bool) → entry_lies k l ≡ true → (get_or l 0 0 ≡ 2 → ⊥)
      → (back_right puts (entry_in l).item ≡ true) × (puts_back puts (entry_in l).item (entry_in l).former.kept ≡ puts)
  back_set puts right two =
      by_test (eqb (get_or l 0 0) 1)
      (λ e. (rw e, rw e))
      (λ e. absurd (false≢true (sym (entry_none (eqb-false (get_or l 0 0) 1 e) two) ∙ right)))

  pub back_there : entry_lies k l ≡ true → get_or l 0 0 ≡ 2 → get_or l 1 0 < values_n
  back_there right e =
      let there = ltb (get_or l 1 0) values_n in
      ltb-true (get_or l 1 0) values_n (both there (eqb (get_or l 2 0) 0 && value_lies (get_or l 1 0) kept) (sym (entry_put e) ∙ right)).0

  pub back_put : (puts : List Bool) → entry_lies k l ≡ true → get_or l 0 0 ≡ 2
      → (back_right puts (entry_in l).item ≡ get_or puts (get_or l 1 0) false)
      × (puts_back puts (entry_in l).item (entry_in l).former.kept ≡ set puts (get_or l 1 0) (eqb (get_or l 3 0) 1))
  back_put puts right e =
      let one : get_or l 0 0 ≡ 1 → ⊥ = λ q. absurd (omega (arith, e, q)) in
      let first : get_or kept 0 0 ≡ get_or l 3 0 = ap (λ (t : List ℕ). get_or t 0 0) kept_are ∙ get_or-drop 3 l 0 0 in
      let there = lt-ltb (get_or l 1 0) values_n (back_there right e) in (
        rw (ne_eqb (get_or l 0 0) 1 one, eq-eqb (get_or l 0 0) 2 e, there),
        rw (ne_eqb (get_or l 0 0) 1 one, eq-eqb (get_or l 0 0) 2 e, put_kept_lem kept, first),
      )

-- entries taken back, the newest at a time
pub entries_turn : (k : Series) (n : ℕ) (puts : List Bool) (l : List ℕ) → 0 < n
    → let e = entry_in (row_from (n - 1) l) in
    entries_lie k n puts l
    ≡ entry_lies k (row_from (n - 1) l) && (back_right puts e.item && entries_lie k (n - 1) (puts_back puts e.item e.former.kept) l)
unfolding entries_lie
entries_turn k zero puts l h = absurd (omega arith)
entries_turn k (suc n) puts l h = let q : suc n - 1 ≡ n = omega arith in rw q

pub entries_none : (k : Series) (n : ℕ) (puts : List Bool) (l : List ℕ) → n ≤ 0 → entries_lie k n puts l ≡ true
unfolding entries_lie
entries_none k n puts l h = let q : n ≡ 0 = omega arith in rw q

-- a turn of the loop that takes entries back: the newest of n lies in the part of the list that is lent

module _ (k : Series) (n : ℕ) (puts : List Bool) (l : List ℕ) (long : length l ≡ entries_n * entry_n) (more : 0 < n) (few : n ≤ entries_n) where
  abbrev newest : List ℕ
  newest = row_from (n - 1) l

  abbrev lent : List ℕ
  lent = mid_of ((n - 1) * 14) ((n - 1) * 14 + 14 - (n - 1) * 14) l

  pub lent_long : length lent ≡ entry_n
  lent_long = row_long 14 ((n - 1) * 14) l (omega arith)

  lent_is : lent ≡ newest
  lent_is = let w : (n - 1) * 14 + 14 - (n - 1) * 14 ≡ 14 = omega arith in rw w

  whole : length newest ≡ entry_n
  whole = ap length (sym lent_is) ∙ lent_long

  same : (i : ℕ) → get_or newest i 0 ≡ get_or lent i 0
  same i = ap (λ (t : List ℕ). get_or t i 0) (sym lent_is)

  abbrev left : List Bool → Bool
  left p = entries_lie k (n - 1) p l

  -- one that may not stand
  pub turn_off : entry_lies k lent ≡ false → entries_lie k n puts l ≡ false
  turn_off off = entries_turn k n puts l more ∙ and_off _ (ap (entry_lies k) (sym lent_is) ∙ off)

  module _ (right : entry_lies k lent ≡ true) where
    held : entry_lies k newest ≡ true
    held = ap (entry_lies k) (sym lent_is) ∙ right

    abbrev item : Item
    item = (entry_in newest).item

    step : entries_lie k n puts l ≡ back_right puts item && left (puts_back puts item (entry_in newest).former.kept)
    step = entries_turn k n puts l more ∙ and_on held

    -- of a setting
    pub turn_set : (get_or lent 0 0 ≡ 2 → ⊥) → entries_lie k n puts l ≡ left puts
    turn_set n2 =
        let b = back_set k newest whole puts held (λ q. n2 (sym (same 0) ∙ q)) in
        step ∙ and_on b.0 ∙ ap left b.1

    -- of a value: it is put then, or the entry may not stand
    module _ (two : get_or lent 0 0 ≡ 2) (place : ℕ) (is : place ≡ get_or lent 1 0) where
      there : place ≡ get_or newest 1 0
      there = is ∙ sym (same 1)

      back : (back_right puts item ≡ get_or puts (get_or newest 1 0) false)
          × (puts_back puts item (entry_in newest).former.kept ≡ set puts (get_or newest 1 0) (eqb (get_or newest 3 0) 1))
      back = back_put k newest whole puts held (same 0 ∙ two)

      flag : back_right puts item ≡ get_or puts place false
      flag = back.0 ∙ ap (λ (j : ℕ). get_or puts j false) (sym there)

      pub turn_unput : get_or puts place false ≡ false → entries_lie k n puts l ≡ false
      turn_unput off = step ∙ and_off _ (flag ∙ off)

      pub turn_put : get_or puts place false ≡ true → entries_lie k n puts l ≡ left (set puts place (eqb (get_or lent 3 0) 1))
      turn_put on = step ∙ and_on (flag ∙ on) ∙ ap left (back.1 ∙ (λ i. set puts (sym there i) (eqb (same 3 i) 1)))
