-- What the loop of `walk` keeps of the bytes that it put and the edits that it stored: at the start, after each turn, and at the end, where it is the promise.
use Prim.Native.Nat.{ℕ, suc, ◌+◌, ◌-◌, ◌*◌, ◌≤◌, min}
use mathlib.Core.Path.{◌≡◌, refl, sym, ap, ◌∙◌}
use mathlib.Core.Bool.{Bool, true, false, cond, not, ◌&&◌, and-false}
use mathlib.Core.Logic.{◌⊎◌, inl, inr}
use mathlib.Core.List.{List, [], ◌∷◌, ◌++◌, append_assoc, append-nil}
use native.Mathlib.Omega.{arith}
use borrow.Author.Tests.{leb-true, leb-false}
use lib.Dec.{eqb, leb, ltb}
use lib.ListN.{length, take, drop, length-append, length-take, length-drop}
use lib.ListN.{drop_of_length-le}
use lib.Seq.{drop-drop, take_all, take_at, drop_at, length-take-le}
use Rattle.std.proofs.lemmas.List.{drop-take, take-take}
use Rattle.figures.specs.Text.{cr, lf, star_bytes}
use Rattle.figures.specs.Bytes.{laid}
use Rattle.figures.specs.Rooms.{Puts}
use Rattle.figures.proofs.Bytes.{laid_fits}
use Rattle.figures.proofs.Putting.{puts_long, puts_more, puts_nothing}
use Rattle.figures.proofs.Tests.{by_test}
use Rattle.words.specs.Records.{width}
use Rattle.blocks.specs.Judging.{is_at, is_wide, first_at}
use Rattle.blocks.proofs.Steps.{cond_by, width_small}
use Rattle.blocks.proofs.Rooms.{star_length}
use Rattle.listings.specs.declared.edits.Edit.{Edit}
use Rattle.listings.specs.Edits.{dot_kind, blank_kind, cr_kind}
use Rattle.listings.specs.Mending.{Mending, joined, lacks_dot, word_mended, word_taken, is_end, blank_mended, blank_taken, end_mended}
use Rattle.listings.specs.Mending.{to_next, mended_from, mended}
use Rattle.listings.specs.Keeping.{edits_if, one_if, part, dotted, Walks}
use Rattle.listings.proofs.Seen.{lf_no_cr, star_taken, part_up, one_most}
use Rattle.listings.proofs.Turns.{blank_any, end_any, end_small, over, nothing_left, joined_on, steps, blank_most, word, word_most}

-- a word

abbrev pub taken_by : Bool → Bool → ℕ
taken_by wide lacks = cond lacks (width wide + 6) (width wide + 7)

pub taken_is : (wide lacks : Bool) (w : ℕ) → w ≡ width wide → w + 7 - one_if lacks ≡ taken_by wide lacks
taken_is wide true w e = omega arith
taken_is wide false w e = omega arith

-- the input from a place on, as the code takes it
pub rest_is : (s : List ℕ) (from : ℕ) → take (length s - from) (drop from s) ≡ drop from s
rest_is s from = take_all (length s - from) (drop from s) (omega (arith, length-drop from s))

-- where nothing is left the place is no matter, and so the walk may stop at the input's end
up_to : {A : Type 0} (P : ℕ → List ℕ → A) → ((k n : ℕ) → P k [] ≡ P n []) → (s : List ℕ) (k : ℕ)
    → P k (drop k s) ≡ P (min k (length s)) (drop (min k (length s)) s)
up_to P same s k =
    by_test (leb k (length s)) (λ e.
    let fits = leb-true k (length s) e in
    let is : min k (length s) ≡ k = omega arith in
    rw is) (λ e.
    let past = leb-false k (length s) e in
    rw (drop_of_length-le s {i = k} (omega arith), drop_of_length-le s {i = min k (length s)} (omega arith)) (same k (min k (length s))))

-- one word and its blank

abbrev word_done : (s : List ℕ) (lacks : Bool) (from to : ℕ) → Mending
word_done s lacks from to = record { bytes = dotted lacks (part from to s); edits = edits_if lacks (from + 5) dot_kind }

abbrev blank_done : (s : List ℕ) (ends : Bool) (to : ℕ) → Mending
blank_done s ends to = record { bytes = (blank_mended to (drop to s)).bytes; edits = edits_if ends to blank_kind }

word_is : (wide : Bool) (s : List ℕ) (from to : ℕ) (lacks : Bool) → from ≤ length s → lacks_dot (drop from s) ≡ lacks
    → to ≡ min (from + taken_by wide lacks) (length s) → word_mended wide from (drop from s) ≡ word_done s lacks from to
word_is wide s from to true h e f =
    let rest = drop from s in
    let size = width wide + 6 in
    let all : part from to s ≡ take size rest = rw f (part_up s from size h) in
    let split : size ≡ 5 + (width wide + 1) = omega arith in
    let back : drop 5 (take size rest) ≡ take (width wide + 1) (drop 5 rest) = rw split (drop-take 5 (width wide + 1) rest) in
    rw (e, all, take-take 5 size rest (omega arith), back)
word_is wide s from to false h e f = rw (e, f, part_up s from (width wide + 7) h)

blank_is : (s : List ℕ) (to : ℕ) (ends : Bool) → is_end (drop to s) ≡ ends → blank_mended to (drop to s) ≡ blank_done s ends to
blank_is s to true e = rw e
blank_is s to false e = rw e

blank_one : (ends : Bool) → cond ends 0 1 + one_if ends ≡ 1
blank_one true = refl
blank_one false = refl

-- before a blank that was put an end stands, and there the walk ends
ends_next : (s : List ℕ) (to next : ℕ) (ends : Bool) → to ≤ length s → is_end (drop to s) ≡ ends → next ≡ min (to + 1 - one_if ends) (length s)
    → one_if ends ≤ one_if (is_end (drop next s))
ends_next s to next true h e f =
    let same : next ≡ to = omega arith in
    rw (same, e) (omega arith)
ends_next s to next false h e f = omega arith

module _ (more : ℕ) (wide : Bool) (s : List ℕ) (from to next : ℕ) (lacks ends : Bool) (inside : from ≤ length s) (going : is_end (drop from s) ≡ false)
    (lacking : lacks_dot (drop from s) ≡ lacks) (to_is : to ≡ min (from + taken_by wide lacks) (length s)) (ending : is_end (drop to s) ≡ ends)
    (next_is : next ≡ min (to + 1 - one_if ends) (length s)) where
  step_from : mended_from (suc more) wide from (drop from s)
      ≡ joined (joined (word_done s lacks from to) (blank_done s ends to)) (mended_from more wide next (drop next s))
  step_from =
      let rest = drop from s in
      let size = word_taken wide rest in
      let sized : size ≡ taken_by wide lacks = λ i. taken_by wide (lacking i) in
      let there : drop size rest ≡ drop (from + size) s = drop-drop size from s in
      let here : min (from + size) (length s) ≡ to = omega arith in
      let ended : is_end (drop size rest) ≡ ends =
      ap is_end (there ∙ up_to (λ _ t. t) (λ _ _. refl) s (from + size)) ∙ (ap (λ k. is_end (drop k s)) here ∙ ending) in
      let blank : blank_taken (drop size rest) ≡ cond ends 0 1 = λ i. cond (ended i) 0 1 in
      let place : min (from + to_next wide rest) (length s) ≡ next = omega (arith, blank_one ends) in
      let w = word_is wide s from to lacks inside lacking to_is in
      let b = ap (blank_mended (from + size)) there
      ∙ (up_to blank_mended (λ _ _. refl) s (from + size) ∙ (ap (λ k. blank_mended k (drop k s)) here ∙ blank_is s to ends ending)) in
      let n = ap (mended_from more wide (from + to_next wide rest)) (drop-drop (to_next wide rest) from s)
      ∙ (up_to (mended_from more wide) (λ k m. nothing_left more wide k ∙ sym (nothing_left more wide m)) s (from + to_next wide rest)
      ∙ ap (λ k. mended_from more wide k (drop k s)) place) in
      steps more wide from rest going ∙ (λ i. joined (joined (w i) (b i)) (n i))

  step_most : length (dotted lacks (part from to s) ++ (blank_mended to (drop to s)).bytes) ≤ 24
  step_most =
      let word : word wide from (drop from s) ≡ dotted lacks (part from to s) = ap (λ (m : Mending). m.bytes) (word_is wide s from to lacks inside lacking to_is) in
      let blank = (blank_mended to (drop to s)).bytes in
      omega (
        arith,
        length-append (dotted lacks (part from to s)) blank,
        ap length word,
        word_most wide from (drop from s),
        width_small wide,
        blank_most to (drop to s),
      )

-- the walk at a place: what the block comes to is what stood in the room at first, what was put since and what comes from there on
pub record Walking (s first : List ℕ) (start : ℕ) (wide : Bool) (room : List ℕ) (edits : List Edit) (from at more : ℕ) : Type 0 where
  pub done : List ℕ
  pub put : Puts first start done at room
  pub so_far : mended s ≡ joined (record { bytes = take start first ++ done; edits = edits }) (mended_from more wide from (drop from s))
  pub long : length room ≡ length first
  pub behind : from + 24 * more ≤ 769
  pub inside : from ≤ length s
  pub fits : at + 24 * more ≤ 769
  pub few : length edits + more ≤ 32 + one_if (is_end (drop from s))

edits_most : (due : Bool) (place kind : ℕ) → length (edits_if due place kind) ≡ one_if due
edits_most true place kind = refl
edits_most false place kind = refl

pub edits_more : (edits : List Edit) (due : Bool) (place kind : ℕ) → length (edits ++ edits_if due place kind) ≡ length edits + one_if due
edits_more edits due place kind = omega (arith, length-append edits (edits_if due place kind), edits_most due place kind)

pub few_left : {s first : List ℕ} {start : ℕ} {wide : Bool} {room : List ℕ} {edits : List Edit} {from at more : ℕ}
    → Walking s first start wide room edits from at more → is_end (drop from s) ≡ false → length edits + more ≤ 32
few_left w going = rw going at w.few

-- a turn of the loop
module _ {s first : List ℕ} {start : ℕ} {wide : Bool} {room : List ℕ} {edits : List Edit} {from at more : ℕ}
    (w : Walking s first start wide room edits from at more) (m : ℕ) (large : 771 ≤ length first) (is : more ≡ suc m) (going : is_end (drop from s) ≡ false)
    (lacks ends : Bool) (to next : ℕ) (lacking : lacks_dot (drop from s) ≡ lacks) (to_is : to ≡ min (from + taken_by wide lacks) (length s))
    (ending : is_end (drop to s) ≡ ends) (next_is : next ≡ min (to + 1 - one_if ends) (length s)) where
  abbrev step_bytes : List ℕ
  step_bytes = dotted lacks (part from to s) ++ (blank_mended to (drop to s)).bytes

  pub walk_on : {room₁ room₂ : List ℕ} {at₁ at₂ : ℕ} → Puts room at (dotted lacks (part from to s)) at₁ room₁
      → Puts room₁ at₁ (blank_mended 0 (drop to s)).bytes at₂ room₂
      → Walking s first start wide room₂ ((edits ++ edits_if lacks (from + 5) dot_kind) ++ edits_if ends to blank_kind) next at₂ m
  walk_on {room₁} {room₂} {at₁} {at₂} p q =
      let blanked : Puts room₁ at₁ (blank_mended to (drop to s)).bytes at₂ room₂ = rw (blank_any to (drop to s)) q in
      let put = puts_more room at (dotted lacks (part from to s)) (blank_mended to (drop to s)).bytes p blanked in
      let most = step_most m wide s from to next lacks ends w.inside going lacking to_is ending next_is in
      let dot = edits_if lacks (from + 5) dot_kind in
      let blank = edits_if ends to blank_kind in
      let step = step_from m wide s from to next lacks ends w.inside going lacking to_is ending next_is in
      let after = mended_from m wide next (drop next s) in
      let before : Mending = record { bytes = take start first ++ w.done; edits = edits } in
      record {
        done = w.done ++ step_bytes;
        put = puts_more first start w.done step_bytes w.put put;
        so_far =
            w.so_far
            ∙ (ap (λ k. joined before (mended_from k wide from (drop from s))) is
            ∙ (ap (joined before) step
            ∙ (sym (joined_on before (joined (word_done s lacks from to) (blank_done s ends to)) after)
            ∙ (λ i. joined (record { bytes = append_assoc (take start first) w.done step_bytes i; edits = sym (append_assoc edits dot blank) i }) after))));
        long = puts_long room at step_bytes put ∙ w.long;
        behind = omega (arith, taken_is wide lacks (width wide) refl, width_small wide, w.behind);
        inside = omega arith;
        fits = omega (arith, most, put.0, w.fits);
        few =
            omega (
              arith,
              few_left w going,
              one_most lacks,
              ends_next s to next ends (omega arith) ending next_is,
              length-append (edits ++ dot) blank,
              length-append edits dot,
              edits_most lacks (from + 5) dot_kind,
              edits_most ends to blank_kind,
            );
      }

-- its end: no more words may come, or an end is next

pub no_more : (more : ℕ) (end : Bool) → (more ≡ 0) ⊎ (end ≡ true) → ltb 0 more && not end ≡ false
no_more more end (inl e) = rw e
no_more more end (inr e) = rw (e, and-false)

end_edits : (at : ℕ) (rest : List ℕ) → (end_mended at rest).edits ≡ edits_if (is_at lf rest) at cr_kind
end_edits at rest =
    by_test (is_at lf rest) (λ l. rw (lf_no_cr rest l, l))
    (λ l. rw l (cond_by (λ (m : Mending). m.edits ≡ []) (is_at cr rest) _ _ (λ _. refl) (λ _. refl)))

pub walk_end : {s first : List ℕ} {start : ℕ} {wide : Bool} {room : List ℕ} {edits : List Edit} {from at more : ℕ}
    → Walking s first start wide room edits from at more → (entry : List ℕ) → 771 ≤ length entry → length first ≡ length entry
    → drop start first ≡ drop start entry → ltb 0 more && not (is_end (drop from s)) ≡ false → (alone : Bool) → alone ≡ is_at lf (drop from s)
    → {room' : List ℕ} {r : ℕ} → Puts room at (end_mended 0 (drop from s)).bytes r room'
    → Walks s entry (record { bytes = r; edits = edits ++ edits_if alone from cr_kind }) room'
walk_end {s} {first} {start} {wide} {room} {edits} {from} {at} {more} w entry large same first-is ending alone alone-is {room'} {r} p =
    let last = (end_mended from (drop from s)).bytes in
    let head = take start first in
    let t = w.done ++ last in
    let here : Puts room at last r room' = rw (end_any from (drop from s)) p in
    let (r-is, room-is) = puts_more first start w.done last w.put here in
    let small : start + length t ≤ length first =
    omega (arith, length-append w.done last, (end_small from (drop from s)).0, w.put.0, w.fits) in
    let head-long = length-take-le start first (omega arith) in
    let size : r ≡ length (head ++ t) = omega (arith, length-append head t) in
    let ended : mended_from more wide from (drop from s) ≡ record { bytes = last; edits = edits_if alone from cr_kind } =
    over more wide from (drop from s) ending
    ∙ rw alone-is (λ i. record { bytes = last; edits = end_edits from (drop from s) i }) in
    let whole : mended s ≡ record { bytes = head ++ t; edits = edits ++ edits_if alone from cr_kind } =
    w.so_far ∙ (ap (joined (record { bytes = head ++ w.done; edits = edits })) ended
    ∙ (λ i. record { bytes = append_assoc head w.done last i; edits = edits ++ edits_if alone from cr_kind })) in
    let to_end : start + length t ≡ length (head ++ t) = omega (arith, length-append head t) in
    let beyond : drop (length t) (drop start first) ≡ drop (length (head ++ t)) entry = rw (first-is, ← to_end) (drop-drop (length t) start entry) in
    let laid-is : room' ≡ laid (head ++ t) entry =
    room-is ∙ (rw (laid_fits t (drop start first) (omega (arith, length-drop start first)), beyond)
    (sym (append_assoc head t _) ∙ sym (laid_fits (head ++ t) entry (omega arith)))) in
    rw whole ((λ i. record { bytes = size i; edits = edits ++ edits_if alone from cr_kind }), laid-is)

-- its start

pub first_is : (wide : Bool) → one_if wide ≡ first_at wide
first_is true = refl
first_is false = refl

first_most : (wide : Bool) → first_at wide ≤ 1
first_most true = omega arith
first_most false = omega arith

star_inside : (s : List ℕ) → first_at (is_wide s) ≤ length s
star_inside [] = omega arith
star_inside (x ∷ s) = omega (arith, first_most (eqb x 42))

begins : (s room : List ℕ) (wide : Bool) (at first : ℕ) → wide ≡ is_wide s → first ≡ first_at wide → take at room ≡ star_bytes wide
    → mended s ≡ joined (record { bytes = take at room ++ []; edits = [] }) (mended_from 32 wide first (drop first s))
unfolding mended
begins s room wide at first e f front = rw (append-nil, front, f, e)

-- what the start left of the room
module _ (s entry room : List ℕ) (at first : ℕ) (large : 771 ≤ length entry) (small : first ≤ 1) (p : Puts entry 0 (take first s) at room) where
  start_is : (at ≡ length (take first s)) × (room ≡ take first s ++ drop (length (take first s)) entry)
  start_is =
      let fits : length (take first s) ≤ length entry = omega (arith, length-take first s) in
      (omega (arith, p.0), p.1 ∙ laid_fits (take first s) entry fits)

  pub start_back : (length room ≡ length entry) × (drop at room ≡ drop at entry)
  start_back = (puts_long entry 0 (take first s) p, rw (start_is.1, start_is.0) (drop_at (take first s) _ _ refl))

pub walk_start : (s entry room : List ℕ) (wide : Bool) (at first : ℕ) → 771 ≤ length entry → wide ≡ is_wide s → first ≡ first_at wide
    → Puts entry 0 (take first s) at room → Walking s room at wide room [] first at 32
walk_start s entry room wide at first large e f p =
    let part : take first s ≡ star_bytes wide = rw (f, e) (sym (star_taken s)) in
    let small = first_most wide in
    let (at_is, room-is) = start_is s entry room at first large (omega arith) p in
    let one : at ≡ first_at wide = at_is ∙ (ap length part ∙ star_length wide) in
    record {
      done = [];
      put = puts_nothing room at (omega (arith, (start_back s entry room at first large (omega arith) p).0));
      so_far = begins s room wide at first e f (ap (take at) room-is ∙ (take_at (take first s) _ at (sym at_is) ∙ part));
      long = refl;
      behind = omega arith;
      inside = rw (f, e) (star_inside s);
      fits = omega arith;
      few = omega arith;
    }
