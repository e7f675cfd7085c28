-- Laws of rows of one width: laid down one after the other, read again; of a room filled from its start, of bytes laid down from a place on, and of a list
-- spelt out.
use Prim.Native.Nat.{ℕ, zero, suc, ◌+◌, ◌*◌, ◌-◌, ◌<◌, ◌≤◌}
use mathlib.Core.Path.{◌≡◌, refl, sym, ap, ◌∙◌, subst}
use mathlib.Core.List.{List, [], ◌∷◌, ◌++◌, append_assoc, append-nil}
use native.Mathlib.Nat.{zero-add, suc-add, zero-mul, suc-mul, add_comm, mul-le-mul_right}
use native.Mathlib.Numerals.{add-one}
use native.Mathlib.Omega.{arith}
use borrow.Author.Tests.{le-leb, lt-leb, leb-true, leb-false}
use lib.Dec.{leb}
use borrow.Rule.Slice.PartMut.{put_mid, mid_of, post_of, same_len_mid, mid_len}
use lib.ListN.{length, get_or, set, take, drop, replicate, drop_of_length-le, length-append, length-drop, replicate-append-replicate}
use lib.Seq.{take-suc, take_all, take_at, take-take, take-add, take-append-add, take-append-le, drop_at, drop-drop, drop-append-add, drop-append-le}
use lib.Seq.{set_at, set_split, append_snoc, length-take-le}
use Rattle.figures.specs.Bytes.{laid}
use Rattle.figures.proofs.Bytes.{laid_cut}
use Rattle.figures.proofs.Tests.{by_test}
use Rattle.state.specs.Image.{flat, rows_in}
use Rattle.state.specs.Keeping.{laid_at}

-- a list is its elements

abbrev pub tab : {A : Type 0} → ℕ → (ℕ → A) → List A
tab zero f = []
tab (suc n) f = f 0 ∷ tab n (λ k. f (suc k))

tab_length : {A : Type 0} (d : A) (l : List A) → tab (length l) (λ k. get_or l k d) ≡ l
tab_length d [] = refl
tab_length d (x ∷ l) = ap (λ (t : List _). x ∷ t) (tab_length d l)

-- at a numeral the left side computes to get_or l 0 d ∷ get_or l 1 d ∷ ..
pub spelt : {A : Type 0} (d : A) (n : ℕ) (l : List A) → length l ≡ n → tab n (λ k. get_or l k d) ≡ l
spelt d n l h = subst (λ (m : ℕ). tab m (λ k. get_or l k d) ≡ l) h (tab_length d l)

-- laid into a part of its own length

pub laid_whole : (w room : List ℕ) → length w ≡ length room → laid w room ≡ w
laid_whole w room h = laid_cut w room (omega arith) ∙ take_all (length room) w (omega arith)

-- done is all that there is room for
pub filled : (done room₀ : List ℕ) {room : List ℕ} → length done ≡ length room₀ → room ≡ done ++ drop (length done) room₀ → room ≡ done
filled done room₀ h e = e ∙ rw (drop_of_length-le room₀ {i = length done} (omega arith), append-nil)

-- the part that holds a row
pub row_long : (w a : ℕ) (l : List ℕ) → a + w ≤ length l → length (mid_of a (a + w - a) l) ≡ w
row_long w a l h = mid_len a (a + w) l h ∙ omega arith

-- laid down from a place on

pub laid_fit : (a : ℕ) (w l : List ℕ) → a + length w ≤ length l → laid_at a w l ≡ take a l ++ (w ++ drop (a + length w) l)
laid_fit a w l h = rw (le-leb (a + length w) (length l) h)

pub laid_not : (a : ℕ) (w l : List ℕ) → length l < a + length w → laid_at a w l ≡ l
laid_not a w l h = rw (lt-leb (a + length w) (length l) h)

-- in the second of two lists, in the first, in the whole of one, and one byte

pub laid_after : (p q : ℕ) (w a b : List ℕ) → length a ≡ p → laid_at (p + q) w (a ++ b) ≡ a ++ laid_at q w b
laid_after p q w a b h = rw (← h) (by_test (leb (q + length w) (length b)) (λ t. fits (leb-true _ _ t)) (λ t. not (leb-false _ _ t)))
  where
    n : length a + q + length w ≡ length a + (q + length w)
    n = omega arith

    fits : q + length w ≤ length b → laid_at (length a + q) w (a ++ b) ≡ a ++ laid_at q w b
    fits f =
        laid_fit (length a + q) w (a ++ b) (omega (arith, length-append a b))
        ∙ rw (n, take-append-add a b q, drop-append-add a b (q + length w), append_assoc, laid_fit q w b f)

    not : length b < q + length w → laid_at (length a + q) w (a ++ b) ≡ a ++ laid_at q w b
    not f = laid_not (length a + q) w (a ++ b) (omega (arith, length-append a b)) ∙ rw (laid_not q w b f)

pub laid_before : (q : ℕ) (w a b : List ℕ) → q + length w ≤ length a → laid_at q w (a ++ b) ≡ laid_at q w a ++ b
laid_before q w a b h =
    laid_fit q w (a ++ b) (omega (arith, length-append a b))
    ∙ rw (laid_fit q w a h, take-append-le q a b (omega arith), drop-append-le (q + length w) a b h, append_assoc (take q a), append_assoc w)

pub laid_all : (w l : List ℕ) → length w ≡ length l → laid_at 0 w l ≡ w
laid_all w l h = laid_fit 0 w l (omega arith) ∙ rw (drop_of_length-le l {i = 0 + length w} (omega arith), append-nil)

pub byte_laid : (i p : ℕ) (l : List ℕ) → i < length l → laid_at i (p ∷ []) l ≡ set l i p
byte_laid i p l h = laid_fit i (p ∷ []) l (omega arith) ∙ rw (add-one i) (sym (set_split l i p h))

-- rows laid down

pub flat_none : {A : Type 0} (f : A → List ℕ) → flat f [] ≡ []
unfolding flat
flat_none f = refl

pub flat_append : {A : Type 0} (f : A → List ℕ) (xs ys : List A) → flat f (xs ++ ys) ≡ flat f xs ++ flat f ys
unfolding flat
flat_append f [] ys = refl
flat_append f (x ∷ xs) ys = rw (flat_append f xs ys, append_assoc)

flat_one : {A : Type 0} (f : A → List ℕ) (x : A) → flat f (x ∷ []) ≡ f x
unfolding flat
flat_one f x = append-nil (f x)

pub flat_length : {A : Type 0} (f : A → List ℕ) (w : ℕ) → ((x : A) → length (f x) ≡ w) → (u : List A) → length (flat f u) ≡ length u * w
unfolding flat
flat_length f w long [] = sym (zero-mul w)
flat_length f w long (x ∷ u) =
    length-append (f x) (flat f u) ∙ rw (long x, flat_length f w long u, suc-mul (length u) w, add_comm (length u * w) w)

-- rows that are alike, and all noughts
pub flat_zeros : {A : Type 0} (f : A → List ℕ) (w : ℕ) (x : A) → f x ≡ replicate w 0 → (n : ℕ) → flat f (replicate n x) ≡ replicate (n * w) 0
unfolding flat
flat_zeros f w x e zero = rw (zero-mul w)
flat_zeros f w x e (suc n) = rw (e, flat_zeros f w x e n, replicate-append-replicate {A = ℕ} w (n * w) 0, suc-mul n w, add_comm (n * w) w)

-- one row of many laid down anew
pub row_laid : {A : Type 0} (f : A → List ℕ) (w : ℕ) → ((x : A) → length (f x) ≡ w) → (u : List A) (i : ℕ) (x : A)
    → i < length u → laid_at (i * w) (f x) (flat f u) ≡ flat f (set u i x)
unfolding flat
row_laid f w long [] i x h = absurd (omega arith)
row_laid f w long (y ∷ u) zero x h =
    let same : length (f x) ≡ length (f y) = long x ∙ sym (long y) in
    rw (zero-mul w) (laid_before 0 (f x) (f y) (flat f u) (omega arith) ∙ ap (λ (t : List ℕ). t ++ flat f u) (laid_all (f x) (f y) same))
row_laid f w long (y ∷ u) (suc i) x h =
    rw (suc-mul i w, add_comm (i * w) w)
    (laid_after w (i * w) (f x) (f y) (flat f u) (long y) ∙ ap (λ (t : List ℕ). f y ++ t) (row_laid f w long u i x (omega arith)))

-- a turn of a loop that lays rows down: row i goes into the part from a to a + w
pub rows_more : {A : Type 0} (f : A → List ℕ) (w : ℕ) (u : List A) (d : A) (i a : ℕ) (out row : List ℕ)
    → a ≡ i * w → i < length u → a + w ≤ length out → length row ≡ w → row ≡ f (get_or u i d)
    → take a out ≡ flat f (take i u)
    → (length (put_mid a (a + w - a) out row) ≡ length out) × (take ((i + 1) * w) (put_mid a (a + w - a) out row) ≡ flat f (take (i + 1) u))
rows_more f w u d i a out row ea hi he hl er h =
    let la : length (take a out) ≡ a = length-take-le a out (omega arith) in
    let lm = row_long w a out he in
    let le : length (take a out ++ row) ≡ a + w = length-append (take a out) row ∙ omega arith in
    let en : (i + 1) * w ≡ a + w = rw (add-one i, suc-mul i w, ← ea) in
    let rest = post_of a (a + w - a) out in
    let front : take (a + w) (put_mid a (a + w - a) out row) ≡ take a out ++ row =
    rw (← append_assoc (take a out) row rest) (take_at (take a out ++ row) rest (a + w) le) in
    let next : flat f (take (i + 1) u) ≡ flat f (take i u) ++ f (get_or u i d) =
    rw (add-one i, take-suc u i d hi, flat_append f (take i u) (get_or u i d ∷ []), flat_one f (get_or u i d)) in
    (same_len_mid a (a + w - a) out row (omega arith), rw (en, front, next, h, er))

-- rows read

pub rows_none : {A : Type 0} (g : List ℕ → A) (w : ℕ) (l : List ℕ) → rows_in g w 0 l ≡ []
unfolding rows_in
rows_none g w l = refl

-- past one row more
pub drop_row : {A : Type 0} (w n : ℕ) (l : List A) → drop (suc n * w) l ≡ drop (n * w) (drop w l)
drop_row w n l = rw (suc-mul n w, add_comm (n * w) w, drop-drop (n * w) w l)

rows_snoc : {A : Type 0} (g : List ℕ → A) (w i : ℕ) (l : List ℕ) → rows_in g w (suc i) l ≡ rows_in g w i l ++ (g (take w (drop (i * w) l)) ∷ [])
unfolding rows_in
rows_snoc g w zero l = rw (zero-mul w)
rows_snoc g w (suc i) l = rw (drop_row w i l) (ap (λ (t : List _). g (take w l) ∷ t) (rows_snoc g w i (drop w l)))

pub rows_long : {A : Type 0} (g : List ℕ → A) (w n : ℕ) (l : List ℕ) → length (rows_in g w n l) ≡ n
unfolding rows_in
rows_long g w zero l = refl
rows_long g w (suc n) l = ap suc (rows_long g w n (drop w l))

-- the row at a place, and those from there on

pub row_at_lem : {A : Type 0} (g : List ℕ → A) (w i n : ℕ) (l : List ℕ) (d : A) → i < n → get_or (rows_in g w n l) i d ≡ g (take w (drop (i * w) l))
unfolding rows_in
row_at_lem g w i zero l d h = absurd (omega arith)
row_at_lem g w zero (suc n) l d h = rw (zero-mul w)
row_at_lem g w (suc i) (suc n) l d h = rw (drop_row w i l) (row_at_lem g w i n (drop w l) d (omega arith))

pub rows_drop : {A : Type 0} (g : List ℕ → A) (w i n : ℕ) (l : List ℕ) → drop i (rows_in g w (i + n) l) ≡ rows_in g w n (drop (i * w) l)
unfolding rows_in
rows_drop g w zero n l = rw (zero-add n, zero-mul w)
rows_drop g w (suc i) n l = rw (suc-add i n, drop_row w i l) (rows_drop g w i n (drop w l))

-- one of them, and the first of them

pub rows_first : {A : Type 0} (g : List ℕ → A) (w n m : ℕ) (l : List ℕ) → n ≤ m → take n (rows_in g w m l) ≡ rows_in g w n l
unfolding rows_in
rows_first g w zero m l h = refl
rows_first g w (suc n) zero l h = absurd (omega arith)
rows_first g w (suc n) (suc m) l h = rw (rows_first g w n m (drop w l) (omega arith))

-- a row of the first m bytes
pub row_in : (w n m : ℕ) (l : List ℕ) → n + w ≤ m → m ≤ length l → take w (drop n (take m l)) ≡ take w (drop n l)
row_in w n m l h hl =
    let q : m ≡ n + (m - n) = omega arith in
    let past : drop n (take m l) ≡ take (m - n) (drop n l) =
    ap (λ (j : ℕ). drop n (take j l)) q ∙ ap (drop n) (take-add n (m - n) l) ∙ drop_at (take n l) (take (m - n) (drop n l)) n (length-take-le n l (omega arith)) in
    ap (take w) past ∙ take-take w (m - n) (drop n l) (omega arith)

-- a row of those that lie from a place on
pub row_part : {A : Type 0} (g : List ℕ → A) (w i n a : ℕ) (l : List ℕ) (d : A) → i < n → a + n * w ≤ length l
    → get_or (rows_in g w n (take (n * w) (drop a l))) i d ≡ g (take w (drop (a + i * w) l))
row_part g w i n a l d h hl =
    let there : i * w + w ≤ n * w = rw suc-mul at (mul-le-mul_right {m = suc i} {n = n} w (omega arith)) in
    row_at_lem g w i n (take (n * w) (drop a l)) d h
    ∙ ap g (row_in w (i * w) (n * w) (drop a l) there (omega (arith, length-drop a l)))
    ∙ rw (drop-drop (i * w) a l)

-- an element stored after the first i of m, where those past them are alike
pub set_next : {A : Type 0} (done : List A) (i m : ℕ) (d x : A) → length done ≡ i → i < m
    → set (done ++ replicate (m - i) d) i x ≡ (done ++ (x ∷ [])) ++ replicate (m - (i + 1)) d
set_next done i m d x long h =
    let n : m - i ≡ suc (m - (i + 1)) = omega arith in
    let past = replicate (m - (i + 1)) d in
    rw (n, append_snoc done x past) (set_at done d past x i long)

-- a turn of a loop that reads rows into a list of m that is blank past them: row i stands in the part from i * w
pub read_more : {A : Type 0} (g : List ℕ → A) (w i m : ℕ) (l : List ℕ) (u : List A) (d x : A)
    → i < m → x ≡ g (mid_of (i * w) (i * w + w - i * w) l) → u ≡ rows_in g w i l ++ replicate (m - i) d
    → set u i x ≡ rows_in g w (i + 1) l ++ replicate (m - (i + 1)) d
read_more g w i m l u d x hi hx h =
    let e : i * w + w - i * w ≡ w = omega arith in
    rw (h, set_next (rows_in g w i l) i m d x (rows_long g w i l) hi, add-one i, rows_snoc g w i l, hx, e)

-- what was laid down is read again
pub rows_flat : {A : Type 0} (f : A → List ℕ) (g : List ℕ → A) (w : ℕ)
    → ((x : A) → length (f x) ≡ w) → (u : List A) (d : A) → ((i : ℕ) → i < length u → g (f (get_or u i d)) ≡ get_or u i d)
    → rows_in g w (length u) (flat f u) ≡ u
unfolding rows_in flat
rows_flat f g w long [] d back = refl
rows_flat f g w long (x ∷ u) d back =
    let rest = rows_flat f g w long u d (λ i h. back (suc i) (omega arith)) in
    rw (take_at (f x) (flat f u) w (long x), drop_at (f x) (flat f u) w (long x), back 0 (omega arith), rest)
