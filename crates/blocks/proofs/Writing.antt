-- Laws of a list on its way into the room: the star, the words and the terminator, laid one after the other, are the block that is written.
use Prim.Native.Nat.{ℕ, suc, ◌+◌, ◌-◌, ◌*◌, ◌<◌, ◌≤◌}
use mathlib.Core.Path.{◌≡◌, refl, sym, ap, subst, ◌∙◌}
use mathlib.Core.Bool.{Bool, true, false, cond, ◌&&◌, ◌||◌}
use mathlib.Core.List.{List, [], ◌∷◌, ◌++◌, append_assoc}
use native.Mathlib.Numerals.{add-one}
use native.Mathlib.Nat.{mul-le-mul_right}
use native.Mathlib.Omega.{arith}
use borrow.Author.Tests.{ltb-true, ltb-false, eqb-false}
use lib.Dec.{eqb, ltb}
use lib.ListN.{length, set, drop, length-append, length-drop, length-set}
use lib.Seq.{drop-drop, set_split}
use Rattle.std.specs.Prelude.{Ok, Err, not}
use Rattle.std.specs.List.{position_or_len}
use Rattle.std.proofs.lemmas.List.Sums.{prefix_len-le-length}
use Rattle.figures.specs.Bytes.{laid}
use Rattle.figures.specs.Text.{star_bytes, end_bytes}
use Rattle.figures.proofs.Bytes.{laid_fits, length_laid}
use Rattle.figures.proofs.Tests.{by_test}
use Rattle.words.specs.Records.{is_right}
use Rattle.words.specs.Reading.{word_size}
use Rattle.units.specs.declared.kinds.Family.{Family}
use Rattle.words.specs.declared.records.Word.{Word}
use Rattle.blocks.specs.declared.answers.Refusal.{Refusal}
use Rattle.blocks.specs.declared.answers.Refusal.TheVariants.{Record}
use Rattle.blocks.specs.Judging.{first_at}
use Rattle.blocks.specs.Composing.{words_bytes, block_bytes, unless_wrong, Wrote, Written·room, refused_room, block_in_room, written, Writes}
use Rattle.blocks.specs.Rules.{right_all, Lawful}
use Rattle.blocks.specs.Keeping.{right_run, size_of, judged_list, laid_at, PutsFit, EndsFit, ended_room}
use Rattle.blocks.proofs.Steps.{cond_by}
use Rattle.blocks.proofs.Rooms.{star_length, words_length}
use Rattle.blocks.proofs.Written.{neither, lawful_written}
use Rattle.blocks.proofs.Sound.{laid_further, length_laid_at}

-- the run of right records is all of them, or ends at the first that no word gives
module _ (f : Family) (wide : Bool) {A : Type 0} (wrong : ℕ → A) (next : A) where
  -- up to the first that isn't right, by recursion
  abbrev run : List Word → ℕ
  run ws = position_or_len (λ w. not (is_right f wide w)) ws

  run_is : (ws : List Word) → right_run f wide ws ≡ run ws
  run_is ws =
      let most = prefix_len-le-length (λ w. not (not (is_right f wide w))) ws in
      by_test (ltb (run ws) (length ws)) (λ q. rw q) (λ q. rw q (omega (arith, ltb-false (run ws) (length ws) q)))

  run_all : (i : ℕ) (ws : List Word) → length ws ≤ run ws → (right_all f wide ws ≡ true) × (unless_wrong f wide i ws wrong next ≡ next)
  unfolding right_all unless_wrong
  run_all i [] h = (refl, refl)
  run_all i (w ∷ ws) h = by (is_right f wide w) (unless_wrong f wide (i + 1) ws wrong next) h (run_all (i + 1) ws)
    where
      by : (t : Bool) (later : A) → suc (length ws) ≤ cond (not (not t)) (1 + run ws) 0
          → (length ws ≤ run ws → (right_all f wide ws ≡ true) × (later ≡ next))
          → (t && right_all f wide ws ≡ true) × (cond t later (wrong i) ≡ next)
      by true later k all = all (omega arith)
      by false later k all = absurd (omega arith)

  run_wrong : (i : ℕ) (ws : List Word) → run ws < length ws → unless_wrong f wide i ws wrong next ≡ wrong (i + run ws)
  unfolding unless_wrong
  run_wrong i [] h = absurd (omega arith)
  run_wrong i (w ∷ ws) h = by (is_right f wide w) (unless_wrong f wide (i + 1) ws wrong next) h (run_wrong (i + 1) ws)
    where
      by : (t : Bool) (later : A) → cond (not (not t)) (1 + run ws) 0 < suc (length ws)
          → (run ws < length ws → later ≡ wrong (i + 1 + run ws))
          → cond t later (wrong i) ≡ wrong (i + cond (not (not t)) (1 + run ws) 0)
      by true later k on =
          let past : i + 1 + run ws ≡ i + (1 + run ws) = omega arith in
          on (omega arith) ∙ ap wrong past
      by false later k on =
          let here : i ≡ i + 0 = omega arith in
          ap wrong here

-- bytes laid from a place on, as stores do it

pub set_laid_at : (room : List ℕ) (at v : ℕ) → at < length room → set room at v ≡ laid_at at (v ∷ []) room
set_laid_at room at v h =
    let rest : drop 1 (drop at room) ≡ drop (suc at) room = rw (sym (add-one at)) (drop-drop 1 at room) in
    let fits = laid_fits (v ∷ []) (drop at room) (omega (arith, length-drop at room)) in
    rw (fits, rest) (set_split room at v h)

pub set_crlf : (room : List ℕ) (at next : ℕ) → next ≡ at + 1 → next < length room → set (set room at 13) next 10 ≡ laid_at at (13 ∷ 10 ∷ []) room
set_crlf room at next e h =
    set_laid_at (set room at 13) next 10 (simp length-set h)
    ∙ (ap (laid_at next (10 ∷ [])) (set_laid_at room at 13 (omega arith)) ∙ rw e (laid_further at (13 ∷ []) (10 ∷ []) room (omega arith)))

-- how many bytes a block has
end_size : (crlf : Bool) → length (end_bytes crlf) ≡ cond crlf 2 1
end_size true = refl
end_size false = refl

module _ (f : Family) (wide crlf : Bool) (ws : List Word) (right : right_all f wide ws ≡ true) where
  abbrev star : List ℕ
  star = star_bytes wide

  abbrev words : List ℕ
  words = words_bytes f wide ws

  abbrev end : List ℕ
  end = end_bytes crlf

  block_size : length (block_bytes f wide crlf ws) ≡ size_of (length ws) wide crlf
  block_size =
      omega (
        arith,
        length-append star (words ++ end),
        length-append words end,
        star_length wide,
        words_length f wide ws right,
        end_size crlf,
      )

  block_laid : (room : List ℕ) → size_of (length ws) wide crlf ≤ length room
      → laid_at (size_of (length ws) wide crlf - cond crlf 2 1) end (laid_at (first_at wide) words (laid star room)) ≡ laid (block_bytes f wide crlf ws) room
  block_laid room fits =
      let s = star_length wide in
      let w = words_length f wide ws right in
      let e = end_size crlf in
      let both = length-append star words in
      let past : first_at wide ≡ 0 + length star = omega arith in
      let last : size_of (length ws) wide crlf - cond crlf 2 1 ≡ 0 + length (star ++ words) = omega arith in
      let worded : laid_at (first_at wide) words (laid star room) ≡ laid_at 0 (star ++ words) room =
      ap (λ (at : ℕ). laid_at at words (laid star room)) past ∙ laid_further 0 star words room (omega arith) in
      ap (λ (at : ℕ). laid_at at end (laid_at (first_at wide) words (laid star room))) last
      ∙ ap (laid_at (0 + length (star ++ words)) end) worded
      ∙ laid_further 0 (star ++ words) end room (omega arith)
      ∙ ap (λ (bytes : List ℕ). laid bytes room) (append_assoc star words end)

-- what `write` puts, by what `judge_list` answers

written_as : (m n : ℕ) (a b : List ℕ) → m ≡ n → a ≡ b
    → ◌≡◌ {A = Written·room} (record { answer = Ok m; room = a }) (record { answer = Ok n; room = b })
written_as m n a b e e' = rw (e, e')

-- a list that is taken, and the size of its block
pub record Put (f : Family) (l : List Word) (wide crlf : Bool) (room : List ℕ) (size : ℕ) : Type 0 where
  pub lawful : Lawful f wide l
  pub is : size ≡ size_of (length l) wide crlf
  pub inside : size ≤ length room

module _ (f : Family) (l : List Word) (wide crlf : Bool) (room : List ℕ) where
  abbrev Follows : Wrote → Type 0
  Follows (Err r) = written f l wide crlf room ≡ refused_room room r
  Follows (Ok n) = Put f l wide crlf room n

  follows : Follows (judged_list f wide crlf l (length room))
  follows =
      let n = length l in
      let size = size_of n wide crlf in
      let sound = right_run f wide l in
      let next = block_in_room (block_bytes f wide crlf l) room in
      let wrong : ℕ → Written·room = λ i. refused_room room (Record i) in
      cond_by Follows (eqb n 0 || ltb 32 n) _ _ (λ many. rw many) (λ fine.
      let (some, few) = neither (eqb n 0) (ltb 32 n) fine in
      let judged : written f l wide crlf room ≡ unless_wrong f wide 0 l wrong next = rw (some, few) in
      let is = run_is f wide wrong next l in
      let first : 0 + run f wide wrong next l ≡ sound = omega arith in
      cond_by Follows (ltb sound n) _ _
      (λ h. judged ∙ run_wrong f wide wrong next 0 l (omega (arith, ltb-true sound n h)) ∙ ap wrong first)
      (λ h.
      let all = run_all f wide wrong next 0 l (omega (arith, ltb-false sound n h)) in
      let bytes = block_size f wide crlf l all.0 in
      cond_by Follows (ltb (length room) size) _ _
      (λ k. judged ∙ all.1 ∙ rw (bytes, k))
      (λ k.
      record {
        lawful = record { some = omega (arith, eqb-false n 0 some); most = ltb-false 32 n few; right = all.0 };
        is = refl;
        inside = ltb-false (length room) size k;
      })))

  module _ {w : Wrote} (e : w ≡ judged_list f wide crlf l (length room)) where
    pub refused_there : {r : Refusal} → w ≡ Err r → Writes f l wide crlf room (Err r) room
    refused_there {r} is =
        let h : written f l wide crlf room ≡ refused_room room r = subst Follows (sym e ∙ is) follows in
        (sym (ap (λ (v : Written·room). v.answer) h), sym (ap (λ (v : Written·room). v.room) h))

    pub taken_there : {n : ℕ} → w ≡ Ok n → Put f l wide crlf room n
    taken_there {n} is = subst Follows (sym e ∙ is) follows

-- the star made the room room₁, the words made it room₂ and the terminator room₃
module _ (f : Family) (l : List Word) (wide crlf : Bool) (room : List ℕ) (size : ℕ) (p : Put f l wide crlf room size)
    (room₁ : List ℕ) (e₁ : room₁ ≡ laid (star_bytes wide) room) where
  pub words_there : PutsFit f wide l room₁
  words_there =
      let long = length_laid (star_bytes wide) room in
      let same : length room₁ ≡ length room = ap length e₁ ∙ long in
      record { right = p.lawful.right; fits = omega (arith, p.is, p.inside) }

  module _ (room₂ : List ℕ) (e₂ : room₂ ≡ laid_at (first_at wide) (words_bytes f wide l) room₁) where
    pub end_there : EndsFit size room₂
    end_there =
        let same : length room₂ ≡ length room =
        ap length e₂ ∙ length_laid_at (first_at wide) (words_bytes f wide l) room₁ ∙ ap length e₁ ∙ length_laid (star_bytes wide) room in
        let words : 1 * word_size wide ≤ length l * word_size wide = mul-le-mul_right (word_size wide) p.lawful.some in
        (omega (arith, p.is), omega (arith, p.inside))

    pub writes_there : (room₃ : List ℕ) → room₃ ≡ ended_room size crlf room₂ → Writes f l wide crlf room (Ok size) room₃
    writes_there room₃ e₃ =
        let bytes = block_size f wide crlf l p.lawful.right in
        let made : written f l wide crlf room ≡ record { answer = Ok size; room = room₃ } =
        lawful_written f l wide crlf room p.lawful (omega (arith, p.is, p.inside))
        ∙ written_as (length (block_bytes f wide crlf l)) size (laid (block_bytes f wide crlf l) room) room₃ (bytes ∙ sym p.is)
        (sym (rw (e₃, e₂, e₁, p.is) (block_laid f wide crlf l p.lawful.right room (omega (arith, p.is, p.inside))))) in
        (sym (ap (λ (v : Written·room). v.answer) made), sym (ap (λ (v : Written·room). v.room) made))
