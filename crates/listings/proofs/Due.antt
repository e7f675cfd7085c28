-- Each edit is one of the three rules' at a place that the walk reaches, and no place is passed over that the walk reaches and where a rule holds.
use Prim.Native.Nat.{ℕ, zero, suc, ◌+◌, ◌-◌, ◌<◌, ◌≤◌}
use mathlib.Core.Path.{◌≡◌, refl, sym, ap, subst, ◌∙◌}
use mathlib.Core.Bool.{true, false}
use mathlib.Core.List.Memᴰ
use mathlib.Core.List.{List, [], ◌∷◌, Memᴰ}
use mathlib.Core.Logic.{◌↔◌, ◌⊎◌, inl, inr, ⊎_elim}
use native.Mathlib.Nat.{add-zero}
use native.Mathlib.Omega.{arith}
use lib.ListN.{get_or, drop}
use lib.Seq.{get_or-drop, drop-drop}
use Rattle.figures.specs.Text.{byte, cr, lf}
use Rattle.figures.proofs.Tests.{by_test}
use Rattle.blocks.specs.Judging.{is_wide, first_at}
use Rattle.blocks.proofs.Steps.{cond_by}
use Rattle.listings.specs.declared.edits.Edit.{Edit}
use Rattle.listings.specs.Edits.{dot_kind, blank_kind, cr_kind, edit}
use Rattle.listings.specs.Mending.{Mending, lacks_dot, word_mended, word_taken, is_end, blank_mended, end_mended, to_next, mended_from, mended}
use Rattle.listings.specs.Telling.{Starts, first, next, Due, dot, blank, return}
use Rattle.listings.proofs.Seen.{next_is, end_is, lf_no_cr, lacks_tells, lacks_no_end}
use Rattle.listings.proofs.Turns.{end_cases, over, at_end, goes}

-- a mending has the edit
abbrev Has : Mending → Edit → Type 0
Has m e = Memᴰ e m.edits

-- one edit is told, or none

only : (s : List ℕ) {d e : Edit} → Due s d → Memᴰ e (d ∷ []) → Due s e
only s due m = subst (λ (x : Edit). Due s x) (sym (Memᴰ.eq_of_singleton m)) due

none : {e : Edit} {A : Type 0} → Memᴰ e [] → A
none m = absurd (Memᴰ.not-nil m)

-- what the walk puts is due

module _ (s : List ℕ) (e : Edit) where
  end_due : {n at : ℕ} → Starts s n at → Has (end_mended at (drop at s)) e → Due s e
  end_due {at} st =
      end_cases (λ (m : Mending). Has m e → Due s e) at (drop at s) (λ _ _. none) (λ _ _. none) (λ _ l. only s (return st l)) (λ _. none)

  word_due : {n at : ℕ} → Starts s n at → n < 32 → Has (word_mended (is_wide s) at (drop at s)) e → Due s e
  word_due {at} st small =
      cond_by (λ (m : Mending). Has m e → Due s e) (lacks_dot (drop at s)) _ _ (λ l. only s (dot st small l)) (λ _. none)

  blank_due : {n at : ℕ} → Starts s n at → n < 32 → is_end (drop at s) ≡ false
      → Has (blank_mended (at + word_taken (is_wide s) (drop at s)) (drop (word_taken (is_wide s) (drop at s)) (drop at s))) e → Due s e
  blank_due {at} st small going =
      let word = word_taken (is_wide s) (drop at s) in
      cond_by (λ (m : Mending). Has m e → Due s e) (is_end (drop word (drop at s))) _ _
      (λ l. only s (blank st small going (ap is_end (sym (drop-drop word at s)) ∙ l))) (λ _. none)

  from_due : (more n at : ℕ) → n + more ≡ 32 → Starts s n at → Has (mended_from more (is_wide s) at (drop at s)) e → Due s e
  from_due zero n at q st m = end_due st (rw (over 0 (is_wide s) at (drop at s) refl) at m)
  from_due (suc more) n at q st m =
      let wide = is_wide s in
      let rest = drop at s in
      let word = word_taken wide rest in
      let to = to_next wide rest in
      by_test (is_end rest) (λ h. end_due st (rw (at_end (suc more) wide at rest h) at m)) (λ going.
      ⊎_elim (word_due st (omega arith)) (λ m'.
      ⊎_elim (blank_due st (omega arith) going) (λ m''.
      from_due more (suc n) (at + to) (omega arith) (next st (omega arith) going) (rw (drop-drop to at s) at m''))
      (Memᴰ.append_cases (blank_mended (at + word) (drop word rest)).edits m'))
      (Memᴰ.append_cases (word_mended wide at rest).edits (rw (goes more wide at rest going) at m)))

-- what is due is put: what the walk does from a place on that it reaches is a part of what it does from the start

starts_most : {s : List ℕ} {n at : ℕ} → Starts s n at → n ≤ 32
starts_most first = omega arith
starts_most (next st small going) = small

reached : {s : List ℕ} {e : Edit} {n at : ℕ} → Starts s n at → (more : ℕ) → n + more ≡ 32
    → Has (mended_from more (is_wide s) at (drop at s)) e → Has (mended s) e
unfolding mended
reached {s} {e} first more q m =
    let all : more ≡ 32 = omega arith in
    subst (λ (k : ℕ). Has (mended_from k (is_wide s) (first_at (is_wide s)) (drop (first_at (is_wide s)) s)) e) all m
reached {s} {e} (next {n} {at} st small going) more q m =
    let wide = is_wide s in
    let rest = drop at s in
    let word = word_taken wide rest in
    let to = to_next wide rest in
    let m' : Has (mended_from more wide (at + to) (drop to rest)) e = rw (drop-drop to at s) m in
    reached st (suc more) (omega arith)
    (rw (goes more wide at rest going)
    (Memᴰ.append_right (word_mended wide at rest).edits (Memᴰ.append_right (blank_mended (at + word) (drop word rest)).edits m')))

due_told : {s : List ℕ} {e : Edit} → Due s e → Has (mended s) e
due_told {s} (dot {n} {at} st small lacks) =
    let wide = is_wide s in
    let rest = drop at s in
    let here : Has (word_mended wide at rest) (edit (at + 5) dot_kind) = rw lacks (Memᴰ.head refl) in
    reached st (suc (31 - n)) (omega arith) (rw (goes (31 - n) wide at rest (lacks_no_end rest lacks)) (Memᴰ.append_left _ here))
due_told {s} (blank {n} {at} st small going ended) =
    let wide = is_wide s in
    let rest = drop at s in
    let word = word_taken wide rest in
    let there : is_end (drop word rest) ≡ true = ap is_end (drop-drop word at s) ∙ ended in
    let here : Has (blank_mended (at + word) (drop word rest)) (edit (at + word) blank_kind) = rw there (Memᴰ.head refl) in
    reached st (suc (31 - n)) (omega arith)
    (rw (goes (31 - n) wide at rest going) (Memᴰ.append_right (word_mended wide at rest).edits (Memᴰ.append_left _ here)))
due_told {s} (return {n} {at} st ended) =
    let rest = drop at s in
    let no-cr = lf_no_cr rest ended in
    let there : is_end rest ≡ true = rw (no-cr, ended) in
    let here : Has (end_mended at rest) (edit at cr_kind) = rw (no-cr, ended) (Memᴰ.head refl) in
    reached st (32 - n) (omega (arith, starts_most st)) (rw (at_end (32 - n) (is_wide s) at rest there) here)

pub due : (s : List ℕ) (e : Edit) → Memᴰ e (mended s).edits ↔ Due s e
unfolding mended
due s e = (from_due s e 32 0 (first_at (is_wide s)) (omega arith) first, due_told)

-- so each edit is of one of the three kinds, and stands before a byte of the input that its kind is for

due_kinds : {s : List ℕ} {e : Edit} → Due s e → (e.kind ≡ dot_kind) ⊎ (e.kind ≡ blank_kind) ⊎ (e.kind ≡ cr_kind)
due_kinds (dot st small lacks) = inl refl
due_kinds (blank st small going ended) = inr (inl refl)
due_kinds (return st ended) = inr (inr refl)

pub kinds : (s : List ℕ) (e : Edit) → Memᴰ e (mended s).edits → (e.kind ≡ dot_kind) ⊎ (e.kind ≡ blank_kind) ⊎ (e.kind ≡ cr_kind)
kinds s e m = due_kinds ((due s e).0 m)

abbrev pub Stands : List ℕ → Edit → Type 0
Stands s e =
    let b = get_or s e.place 0 in
    (e.kind ≡ dot_kind → b ≡ byte "+") × (e.kind ≡ blank_kind → (b ≡ cr) ⊎ (b ≡ lf)) × (e.kind ≡ cr_kind → b ≡ lf)

at_place : (s : List ℕ) (at : ℕ) → get_or (drop at s) 0 0 ≡ get_or s at 0
at_place s at = rw (get_or-drop, add-zero)

due_stands : {s : List ℕ} {e : Edit} → Due s e → Stands s e
due_stands {s} (dot {at} st small lacks) =
    (λ k. sym (get_or-drop at s 5 0) ∙ (lacks_tells (drop at s) lacks).1, λ k. absurd (omega arith), λ k. absurd (omega arith))
due_stands {s} (blank {at} st small going ended) =
    let place = at + word_taken (is_wide s) (drop at s) in (
      λ k. absurd (omega arith),
      λ k. subst (λ (b : ℕ). (b ≡ cr) ⊎ (b ≡ lf)) (at_place s place) (end_is (drop place s) ended),
      λ k. absurd (omega arith),
    )
due_stands {s} (return {at} st ended) =
    (λ k. absurd (omega arith), λ k. absurd (omega arith), λ k. sym (at_place s at) ∙ next_is lf (drop at s) ended)

pub stands : (s : List ℕ) (e : Edit) → Memᴰ e (mended s).edits → Stands s e
stands s e m = due_stands ((due s e).0 m)
