-- A part of a sheet, whatever its lines hold: a turn of the loop that takes them, what is written taken back, and what is taken, which is what
-- would be written.
use Prim.Native.Nat.{ℕ, zero, suc, ◌+◌, ◌-◌, ◌≤◌, ◌<◌}
use mathlib.Core.Path.{◌≡◌, refl, sym, ap, subst, ◌∙◌}
use mathlib.Core.Bool.{Bool, true, false, cond, ◌&&◌, false≢true}
use mathlib.Core.List.{List, [], ◌∷◌, ◌++◌, append_assoc, append-nil}
use native.Mathlib.Nat.{add-zero}
use native.Mathlib.Numerals.{add-one}
use native.Mathlib.Omega.{arith}
use borrow.Rule.Slice.PartMut.{mid_of}
use lib.ListN.{length, set, take, drop, length-append, length-drop, take-append-drop}
use lib.Seq.{append_snoc, take_all, take-suc-set, drop-drop, drop-set-lt, drop-append_seam}
use Rattle.figures.specs.Bytes.{starts_with}
use Rattle.figures.proofs.Bytes.{starts_append, starts_true, starts_length}
use Rattle.figures.proofs.Tests.{both, by_test}
use Rattle.commands.proofs.Shape.{to_end}
use Rattle.sheets.specs.Lines.{LinesOf, lines_by, Came, Part, wrong_at, part_by}
use Rattle.sheets.specs.Keeping.{line_stands, line_taken, kept_as}
use Rattle.sheets.specs.declared.answers.SheetRefusal.{SheetRefusal}
use Rattle.sheets.specs.declared.answers.SheetRefusal.TheVariants.{Wrong}
use Rattle.sheets.specs.declared.loading.Taken.{Taken}
use Rattle.std.specs.Prelude.{Option, Some, None, Ok, Err}

-- what is held at the places from i on, after what the lines before them hold, may all be held in its turn
unfoldable pub right_by : {A : Type 0} → LinesOf A → List A → ℕ → List A → Bool
right_by l got i [] = true
right_by l got i (x ∷ xs) = l.may got i x && right_by l (got ++ (x ∷ [])) (i + 1) xs

-- a line says what it holds, whatever stands after it
abbrev pub Said : {A : Type 0} → LinesOf A → Type 0
Said l = (got : List _) (i : ℕ) (x : _) (rest : List ℕ) → l.may got i x ≡ true → l.says i (l.write i x ++ rest) ≡ x

-- a part that came to a place
abbrev pub came : {A : Type 0} → ℕ → List A → Part A
came to got = record { came = Ok to; got = got }

pub wrong_came : {A : Type 0} {at to : ℕ} {all : List A} → wrong_at at ≡ came to all → ⊥
wrong_came e =
    let never = ap (λ (p : Part _). p.came) e in
    let z : ◌≡◌ {A = ℕ} 0 1 = cc in
    omega arith

pub starts_parted : (w s : List ℕ) → starts_with w s ≡ true → s ≡ w ++ drop (length w) s
starts_parted w s e = sym (take-append-drop (length w) s) ∙ ap (λ (l : List ℕ). l ++ drop (length w) s) (starts_true w s e)

-- n lines that stand in the sheet from one place to another, after those that held got, and what they hold
pub record TakenLines {A : Type 0} (l : LinesOf A) (n : ℕ) (got : List A) (i : ℕ) (sheet : List ℕ) (at to : ℕ) (all : List A) : Type 0 where
  pub long : length all ≡ n
  pub judged : right_by l got i all ≡ true
  pub to_is : to ≡ at + length (lines_by l i all)
  pub after : drop at sheet ≡ lines_by l i all ++ drop to sheet

-- so they end within it
pub taken_within : {A : Type 0} {l : LinesOf A} {n : ℕ} {got : List A} {i : ℕ} {sheet : List ℕ} {at to : ℕ} {all : List A}
    → TakenLines l n got i sheet at to all → at ≤ length sheet → to ≤ length sheet
taken_within {l = l} {i = i} {sheet = sheet} {at = at} {to = to} {all = all} t h =
    omega (arith, t.to_is, ap length t.after, length-append (lines_by l i all) (drop to sheet), length-drop at sheet, length-drop to sheet)

-- what is left of a part at a place, once the first i of n are got
abbrev pub left_of : {A : Type 0} → LinesOf A → ℕ → ℕ → ℕ → List ℕ → List A → Part A
left_of l n i at sheet got = part_by l (n - i) i at (drop at sheet) (take i got)

-- a turn, by the line that was taken, if it is right
pub record Turned {A : Type 0} (l : LinesOf A) (n i at : ℕ) (sheet : List ℕ) (got : List A) (taken : Option (Taken A)) : Type 0 where
  pub astray : taken ≡ None → left_of l n i at sheet got ≡ wrong_at at
  pub within : (t : Taken A) → taken ≡ Some t → at + t.to ≤ length sheet
  pub more : (t : Taken A) → taken ≡ Some t → left_of l n i at sheet got ≡ left_of l n (i + 1) (at + t.to) sheet (set got i t.held)

-- no line that may stand at a place stands there
abbrev pub NoLine : {A : Type 0} → LinesOf A → List A → ℕ → List ℕ → Type 0
NoLine l got i rest = (x : _) → l.may got i x ≡ true → starts_with (l.write i x) rest ≡ false

-- how far a part came: to its end, or to a line at whose place no line that may stand there stands
pub data Went {A : Type 0} (l : LinesOf A) (n : ℕ) (got : List A) (i : ℕ) (sheet : List ℕ) (at : ℕ) (p : Part A) : Type 0 where
  finished : (to : ℕ) (held : List A) → p ≡ came to (got ++ held) → TakenLines l n got i sheet at to held → Went l n got i sheet at p
  stopped : (to : ℕ) (held : List A) → p ≡ wrong_at to → TakenLines l (length held) got i sheet at to held → length held < n
      → NoLine l (got ++ held) (i + length held) (drop to sheet)
      → Went l n got i sheet at p

pub none_some : {T : Type 0} {t : T} → ◌≡◌ {A = Option T} None (Some t) → ⊥
none_some e = cc

pub some_same : {T : Type 0} {t u : T} → ◌≡◌ {A = Option T} (Some t) (Some u) → t ≡ u
some_same e = cc

-- past a place that is set, a list is as it was
pub set_past : {A : Type 0} (xs blanks : List A) (i : ℕ) (x : A) → drop i xs ≡ drop i blanks → drop (i + 1) (set xs i x) ≡ drop (i + 1) blanks
set_past xs blanks i x e =
    drop-set-lt (i + 1) xs i x (omega arith) ∙ sym (drop-drop 1 i xs) ∙ ap (drop 1) e ∙ drop-drop 1 i blanks

-- what is kept of lines tells how far they came

pub record Astray (c : Came) (e : SheetRefusal) : Type 0 where
  pub at : ℕ
  pub came : c ≡ Err at
  pub tells : e ≡ Wrong at

pub kept_astray : {A : Type 0} (held : A) (c : Came) {e : SheetRefusal} → kept_as held c ≡ Err e → Astray c e
kept_astray held (Err at) q = record { at = at; came = refl; tells = cc }
kept_astray held (Ok at) q = absurd (cc q)

pub kept_whole : {A : Type 0} (held : A) (c : Came) {t : Taken A} → kept_as held c ≡ Ok t → (c ≡ Ok t.to) × (t.held ≡ held)
kept_whole held (Err at) q = absurd (cc q)
kept_whole held (Ok at) {t} q =
    let same : t ≡ record { to = at; held = held } = cc in
    (ap (λ (x : Taken _). Ok x.to) (sym same), ap (λ (x : Taken _). x.held) same)

module _ {A : Type 0} (l : LinesOf A) where
  -- a turn of the loop, by what the call in it answers: the line where it is right, whatever the lines before it hold
  pub part_turned : (n i at : ℕ) (sheet : List ℕ) (got : List A) → i < n → i < length got → at ≤ length sheet
      → ((before : List A) (x : A) → l.may before i x ≡ l.may [] i x)
      → (taken : Option (Taken A)) → taken ≡ line_taken l i (mid_of at (length sheet - at) sheet) → Turned l n i at sheet got taken
  unfolding part_by
  part_turned n i at sheet got hn hg ha any taken is =
      let rest = mid_of at (length sheet - at) sheet in
      let here = to_end at sheet in
      let x = l.says i rest in
      let w = l.write i x in
      let some : Taken A = record { to = length w; held = x } in
      let left : n - i ≡ suc (n - (i + 1)) = omega arith in
      let past : drop (length w) rest ≡ drop (at + length w) sheet = ap (drop (length w)) here ∙ drop-drop (length w) at sheet in
      let next = part_by l (n - (i + 1)) (i + 1) (at + length w) (drop (length w) rest) (take i got ++ (x ∷ [])) in
      let turn : left_of l n i at sheet got ≡ cond (line_stands l i rest) next (wrong_at at) =
      ap (λ (r : List ℕ). part_by l (n - i) i at r (take i got)) (sym here) ∙ rw (left, any (take i got) x) in
      by_test (line_stands l i rest)
      (λ e.
      let so : taken ≡ Some some = is ∙ rw e in
      let stands = (both (l.may [] i x) (starts_with w rest) e).1 in record {
        astray = λ z. absurd (none_some (sym z ∙ so));
        within = λ t z.
            let same : t ≡ some = some_same (sym z ∙ so) in
            omega (arith, ap (λ (r : Taken A). r.to) same, starts_length w rest stands, ap length here, length-drop at sheet);
        more = λ t z.
            let same : t ≡ some = some_same (sym z ∙ so) in
            turn ∙ rw (e, same, past, add-one i, take-suc-set got i x hg);
      })
      (λ e.
      let so : taken ≡ None = is ∙ rw e in
      record { astray = λ z. turn ∙ rw e; within = λ t z. absurd (none_some (sym so ∙ z)); more = λ t z. absurd (none_some (sym so ∙ z)) })

  pub part_ended : (n i at : ℕ) (sheet : List ℕ) (got : List A) → i ≡ n → left_of l n i at sheet got ≡ came at (take i got)
  unfolding part_by
  part_ended n i at sheet got e = let none : n - i ≡ 0 = omega arith in rw none

  pub part_done : (n i at : ℕ) (sheet : List ℕ) (got : List A) → i ≡ n → length got ≡ n → left_of l n i at sheet got ≡ came at got
  part_done n i at sheet got e h = part_ended n i at sheet got e ∙ ap (λ (g : List A). came at g) (take_all i got (omega arith))

  module _ (said : Said l) where
    -- what is written is taken back

    pub part_load : (xs : List A) (i at : ℕ) (rest : List ℕ) (got : List A) → right_by l got i xs ≡ true
        → part_by l (length xs) i at (lines_by l i xs ++ rest) got ≡ came (at + length (lines_by l i xs)) (got ++ xs)
    unfolding part_by lines_by right_by
    part_load [] i at rest got e = rw (add-zero, append-nil)
    part_load (x ∷ xs) i at rest got e =
        let more = lines_by l (i + 1) xs in
        let w = l.write i x in
        let parts = both (l.may got i x) (right_by l (got ++ (x ∷ [])) (i + 1) xs) e in
        let to : at + length w + length more ≡ at + length (w ++ more) = omega (arith, length-append w more) in
        rw (append_assoc w more rest, said got i x (more ++ rest) parts.0, parts.0)
        (rw (starts_append w (more ++ rest), drop-append_seam w (more ++ rest))
        (part_load xs (i + 1) (at + length w) rest (got ++ (x ∷ [])) parts.1 ∙ (λ j. came (to j) (append_snoc got x xs j))))

    -- and what is taken is what would be written, as far as it goes

    -- a line that may stand there and stands is the line of what it says
    only : (got : List A) (i : ℕ) (rest : List ℕ) (x : A) → l.may got i x ≡ true → starts_with (l.write i x) rest ≡ true → l.says i rest ≡ x
    only got i rest x m e = let w = l.write i x in ap (l.says i) (starts_parted w rest e) ∙ said got i x (drop (length w) rest) m

    none_here : (got : List A) (i : ℕ) (rest : List ℕ) → l.may got i (l.says i rest) && starts_with (l.write i (l.says i rest)) rest ≡ false
        → NoLine l got i rest
    none_here got i rest s x m =
        by_test (starts_with (l.write i x) rest) (λ e. absurd (false≢true (sym (rw (only got i rest x m e, m, e) at s)))) (λ e. e)

    -- one line more before those that were taken
    took : {n i at : ℕ} {sheet : List ℕ} {got : List A} {to : ℕ} {held : List A} (x : A) → l.may got i x ≡ true
        → starts_with (l.write i x) (drop at sheet) ≡ true → TakenLines l n (got ++ (x ∷ [])) (i + 1) sheet (at + length (l.write i x)) to held
        → TakenLines l (suc n) got i sheet at to (x ∷ held)
    unfolding lines_by right_by
    took {i = i} {at = at} {sheet = sheet} {to = to} {held = held} x m s t =
        let w = l.write i x in
        let more = lines_by l (i + 1) held in
        let past : drop (length w) (drop at sheet) ≡ drop (at + length w) sheet = drop-drop (length w) at sheet in
        record {
          long = ap suc t.long;
          judged = rw m t.judged;
          to_is = omega (arith, t.to_is, length-append w more);
          after = starts_parted w (drop at sheet) s ∙ ap (λ (r : List ℕ). w ++ r) (past ∙ t.after) ∙ sym (append_assoc w more (drop to sheet));
        }

    more_went : {n i at : ℕ} {sheet : List ℕ} {got : List A} {p : Part A} (x : A) → l.may got i x ≡ true
        → starts_with (l.write i x) (drop at sheet) ≡ true → Went l n (got ++ (x ∷ [])) (i + 1) sheet (at + length (l.write i x)) p
        → Went l (suc n) got i sheet at p
    more_went {got = got} x m s (finished to held e t) = finished to (x ∷ held) (e ∙ ap (λ (g : List A). came to g) (append_snoc got x held)) (took x m s t)
    more_went {i = i} {sheet = sheet} {got = got} x m s (stopped to held e t few none) =
        let place : i + 1 + length held ≡ i + suc (length held) = omega arith in
        stopped to (x ∷ held) e (took x m s t) (omega arith)
        (subst (λ (g : List A). NoLine l g (i + suc (length held)) (drop to sheet)) (append_snoc got x held)
        (subst (λ (j : ℕ). NoLine l ((got ++ (x ∷ [])) ++ held) j (drop to sheet)) place none))

    pub part_went : (n i at : ℕ) (sheet : List ℕ) (got : List A) → Went l n got i sheet at (part_by l n i at (drop at sheet) got)
    unfolding part_by lines_by right_by
    part_went zero i at sheet got =
        finished at [] (ap (λ (g : List A). came at g) (sym (append-nil got))) (record { long = refl; judged = refl; to_is = omega arith; after = refl })
    part_went (suc n) i at sheet got =
        let rest = drop at sheet in
        let x = l.says i rest in
        let w = l.write i x in
        let past : drop (length w) rest ≡ drop (at + length w) sheet = drop-drop (length w) at sheet in
        let stands = l.may got i x && starts_with w rest in
        by_test stands
        (λ s.
        let parts = both (l.may got i x) (starts_with w rest) s in
        rw (s, past) (more_went x parts.0 parts.1 (part_went n (i + 1) (at + length w) sheet (got ++ (x ∷ [])))))
        (λ s. stopped at [] (rw s) (record { long = refl; judged = refl; to_is = omega arith; after = refl }) (omega arith)
        (rw (append-nil, add-zero) (none_here got i rest s)))

  pub part_taken : (n at : ℕ) (sheet : List ℕ) (to : ℕ) (all : List A) → Said l → part_by l n 0 at (drop at sheet) [] ≡ came to all
      → TakenLines l n [] 0 sheet at to all
  part_taken n at sheet to all said e = by (part_went said n 0 at sheet [])
    where
      by : Went l n [] 0 sheet at (part_by l n 0 at (drop at sheet) []) → TakenLines l n [] 0 sheet at to all
      by (finished b held q t) =
          let same = sym q ∙ e in
          let place = ap (λ (p : Part A). p.came) same in
          let there : b ≡ to = cc in
          rw (← there, ← ap (λ (p : Part A). p.got) same) t
      by (stopped b held q t few none) = absurd (wrong_came (sym q ∙ e))
