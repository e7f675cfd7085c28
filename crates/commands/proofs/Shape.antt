-- Laws of a line's shape: its parts, the groups of GET, a number, what an order says of the line.
use Prim.Native.Nat.{ℕ, zero, suc, ◌+◌, ◌-◌, ◌*◌, ◌%◌, ◌<◌, ◌≤◌}
use mathlib.Core.Path.{◌≡◌, ◌∙◌, refl, sym, ap, subst}
use mathlib.Core.Bool.{true, false, ◌&&◌, and-eq-true_iff}
use mathlib.Core.List.{List, [], ◌∷◌, ◌++◌}
use native.Mathlib.Nat.{sub-zero, zero-add}
use native.Mathlib.Omega.{arith}
use borrow.Author.Tests.{le-leb, eqb-true, leb-true, ltb-true}
use lib.Dec.{eqb, leb, ltb}
use lib.ListN.{length, get_or, take, drop, length-drop, length-append}
use lib.Seq.{take_all, take_at, drop_at, drop-cons}
use Rattle.figures.specs.Bytes.{starts_with, same_bytes}
use Rattle.figures.specs.Decimal.{number_from, number_of}
use denote.Ref.{Bor}
use Rattle.std.specs.Iterator.{AlwaysYields}
use Rattle.std.specs.Slice.Iter.{chunks_exact_steps}
use Rattle.std.specs.declared.slice.ChunksExact.{ChunksExact}
use Rattle.std.specs.Prelude.{Result, Ok, Err}
use Rattle.std.specs.List.{list_all}
use Rattle.std.proofs.lemmas.Iterator.{YieldsList}
use Rattle.figures.proofs.Bytes.{same_true, starts_length}
use Rattle.figures.proofs.Tests.{by_test, either}
use Rattle.commands.specs.Shapes.{slash_at, number_right, group_right, groups_right, groups_in, indexes_in, has_keyword, order_of}
use Rattle.commands.specs.Shapes.{set_slash, conf_slash, put_slash, get_i, undo_word, keep_word}
use Rattle.commands.specs.declared.shapes.Order.{Order}
use Rattle.commands.specs.declared.shapes.Order.TheVariants.{Set, Conf, Put, Get, Undo, Keep}
use Rattle.commands.specs.declared.shapes.NoOrder.{NoOrder}
use Rattle.commands.specs.declared.shapes.NoOrder.TheVariants.{WrongShape, NoKeyword}

-- parts of a line

pub from_start : (k : ℕ) (s : List ℕ) → take (k - 0) s ≡ take k s
from_start k s = rw (sub-zero k)

pub to_end : (a : ℕ) (s : List ℕ) → take (length s - a) (drop a s) ≡ drop a s
to_end a s = take_all (length s - a) (drop a s) (omega (arith, length-drop a s))

-- the groups of GET

pub group_long : (g : List ℕ) → group_right g ≡ true → 5 ≤ length g
group_long g e = leb-true 5 (length g) ((and-eq-true_iff (leb 5 (length g)) _).0 e).0

pub groups_length : (n : ℕ) (g : List ℕ) → groups_right n g ≡ true → length g ≡ n * 5
unfolding groups_right
groups_length zero g e = eqb-true (length g) 0 e
groups_length (suc n) g e =
    let both = (and-eq-true_iff (group_right g) (groups_right n (drop 5 g))).0 e in
    let long = group_long g both.0 in
    omega (arith, groups_length n (drop 5 g) both.1, length-drop 5 g)

-- the groups are right one by one: as chunks of five bytes

abbrev pub fives : ℕ → List ℕ → List (List ℕ)
fives zero g = []
fives (suc n) g = take 5 g ∷ fives n (drop 5 g)

fives_yield : (n : ℕ) (g : List ℕ) (s : ChunksExact ℕ) → s.rest.now ≡ g → s.size ≡ 5 → length g ≡ n * 5
    → AlwaysYields chunks_exact_steps (λ (x : Bor (List ℕ)). x.now) s (fives n g)
fives_yield zero g s is five e = λ x t step. absurd (omega (arith, step.1.1, ap length step.1.0, length-append x.now t.rest.now, ap length is))
fives_yield (suc n) g s is five e = (
  (λ t step. absurd (omega (arith, step.1.0, ap length is))),
  λ x t step.
      let cut : g ≡ x.now ++ t.rest.now = sym is ∙ step.1.0 in
      let long : length x.now ≡ 5 = step.1.1 ∙ five in (
        rw cut (sym (take_at x.now t.rest.now 5 long)),
        fives_yield n (drop 5 g) t (rw cut (sym (drop_at x.now t.rest.now 5 long))) (step.0 ∙ five) (omega (arith, length-drop 5 g)),
      ),
)

pub fives_come : (g : List ℕ) {s : ChunksExact ℕ} → s.rest.now ≡ g → s.size ≡ 5 → length g % 5 ≡ 0
    → YieldsList chunks_exact_steps (λ (x : Bor (List ℕ)). x.now) s (fives (groups_in g) g)
fives_come g {s} is five e = record { runs = fives_yield (groups_in g) g s is five (omega arith) }

group_cut : (g : List ℕ) → 5 ≤ length g → group_right (take 5 g) ≡ group_right g
unfolding starts_with
group_cut [] h = absurd (omega arith)
group_cut (a ∷ []) h = absurd (omega arith)
group_cut (a ∷ b ∷ []) h = absurd (omega arith)
group_cut (a ∷ b ∷ c ∷ []) h = absurd (omega arith)
group_cut (a ∷ b ∷ c ∷ d ∷ []) h = absurd (omega arith)
group_cut (a ∷ b ∷ c ∷ d ∷ e ∷ t) h = rw (le-leb 5 (length (a ∷ b ∷ c ∷ d ∷ e ∷ t)) h) refl

groups_all : (n : ℕ) (g : List ℕ) → length g ≡ n * 5 → list_all group_right (fives n g) ≡ groups_right n g
unfolding groups_right
groups_all zero g e = rw e refl
groups_all (suc n) g e = rw (group_cut g (omega arith), groups_all n (drop 5 g) (omega (arith, length-drop 5 g))) refl

pub groups_by : (g : List ℕ) → length g % 5 ≡ 0 → list_all group_right (fives (groups_in g) g) ≡ groups_right (groups_in g) g
groups_by g e = groups_all (groups_in g) g (omega arith)

pub groups_over : (g : List ℕ) → ¬ (length g % 5 ≡ 0) → groups_right (groups_in g) g ≡ false
groups_over g over = by_test (groups_right (groups_in g) g) (λ t. absurd (over (omega (arith, groups_length (groups_in g) g t)))) (λ f. f)

-- a group's number is that of its two digits
pub group_number : (g : List ℕ) → 5 ≤ length g → number_of (take 2 (drop 3 g)) ≡ (get_or g 3 0 - 48) * 10 + (get_or g 4 0 - 48)
unfolding number_from
group_number g h = rw (drop-cons g 3 0 (omega arith), drop-cons g 4 0 (omega arith), zero-add)

pub indexes_many : (n : ℕ) (g : List ℕ) → length (indexes_in n g) ≡ n
unfolding indexes_in
indexes_many zero g = refl
indexes_many (suc n) g = ap suc (indexes_many n (drop 5 g))

-- what holds of an order holds of the line's, if it holds of each that the line may be

pub order_by : (P : Result Order NoOrder → Type 0) (t : List ℕ) → P (Err WrongShape) → P (Err NoKeyword) → (starts_with set_slash t ≡ true → (n p : ℕ) → P (Ok (Set n p))) → ((n : ℕ) → P (Ok (Conf n)))
    → (starts_with put_slash t ≡ true → length t ≡ 20 → P (Ok Put))
    → (starts_with get_i t ≡ true → (0 < length (drop 5 t)) × (groups_right (groups_in (drop 5 t)) (drop 5 t) ≡ true) → P (Ok Get))
    → (same_bytes t undo_word ≡ true → P (Ok Undo)) → (same_bytes t keep_word ≡ true → P (Ok Keep)) → P (order_of t)
order_by P t none unknown set conf put get undo keep =
    let s = drop 4 t in
    let k = slash_at s in
    let g = drop 5 t in
    either P (starts_with set_slash t) _ _
    (λ e. either P (ltb k (length s) && (number_right (take k s) && number_right (drop (k + 1) s))) _ _ (λ _. set e _ _) none)
    (either P (starts_with conf_slash t) _ _ (λ _. either P (number_right g) _ _ (λ _. conf _) none)
    (either P (starts_with put_slash t) _ _ (λ e. either P (eqb (length t) 20) _ _ (λ long. put e (eqb-true (length t) 20 long)) none)
    (either P (starts_with get_i t) _ _
    (λ e. either P (ltb 0 (length g) && groups_right (groups_in g) g) _ _
    (λ r. let some = (and-eq-true_iff (ltb 0 (length g)) _).0 r in get e (ltb-true 0 (length g) some.0, some.1)) none)
    (either P (same_bytes t undo_word) _ _ undo
    (either P (same_bytes t keep_word) _ _ keep (either P (has_keyword t) _ _ (λ _. none) unknown))))))

-- what an order says of the line

abbrev OrderTells : List ℕ → Result Order NoOrder → Type 0
OrderTells t (Ok (Set n p)) = Unit {0}
OrderTells t (Ok (Conf n)) = Unit {0}
OrderTells t (Ok Put) = length t ≡ 20
OrderTells t (Ok Get) = (5 ≤ length t) × (groups_right (groups_in (drop 5 t)) (drop 5 t) ≡ true) × (0 < length (drop 5 t))
OrderTells t (Ok Undo) = length t ≡ 4
OrderTells t (Ok Keep) = Unit {0}
OrderTells t (Err e) = Unit {0}

order_says : (t : List ℕ) → OrderTells t (order_of t)
order_says t =
    order_by (OrderTells t) t tt tt (λ _ n p. tt) (λ n. tt) (λ _ long. long) (λ e groups. (starts_length get_i t e, groups.1, groups.0))
    (λ e. ap length (same_true t undo_word e)) (λ _. tt)

pub order_put : (t : List ℕ) → order_of t ≡ Ok Put → length t ≡ 20
order_put t e = subst (OrderTells t) e (order_says t)

pub order_get : (t : List ℕ) → order_of t ≡ Ok Get → (5 ≤ length t) × (groups_right (groups_in (drop 5 t)) (drop 5 t) ≡ true) × (0 < length (drop 5 t))
order_get t e = subst (OrderTells t) e (order_says t)

pub order_undo : (t : List ℕ) → order_of t ≡ Ok Undo → length t ≡ 4
order_undo t e = subst (OrderTells t) e (order_says t)
