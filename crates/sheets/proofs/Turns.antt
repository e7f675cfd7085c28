-- Laws of the pieces of an input as they are run on an image, a turn of the loop at a time.
use Prim.Native.Nat.{ℕ, ◌+◌, ◌-◌, ◌<◌, ◌≤◌}
use mathlib.Core.Path.{◌≡◌, refl, sym, ap, ◌∙◌}
use mathlib.Core.Bool.{Bool, true, false, cond}
use mathlib.Core.List.{List}
use native.Mathlib.Omega.{arith}
use borrow.Rule.Slice.PartMut.{mid_of}
use lib.ListN.{length, take, drop, replicate, length-drop}
use lib.Seq.{drop-drop, take_all}
use Rattle.state.specs.Image.{state_in, is_image}
use Rattle.lines.specs.Machine.{Outcome, step, told, played, call}
use Rattle.lines.specs.Sessions.{session}
use Rattle.lines.specs.declared.verdicts.Refused.TheVariants.{NoState}
use Rattle.pieces.specs.Pieces.{cut_of, pieces}
use Rattle.pieces.proofs.Pieces.{cut_some, cut_fits, pieces_none, pieces_more}
use Rattle.sheets.specs.Playing.{reply_room}
use Rattle.sheets.specs.Keeping.{run_by}
use Rattle.std.specs.Prelude.{Err}

-- a line on an image, whatever the room holds
pub room_length : (image line room : List ℕ) → length room ≡ reply_room → (call image line room).image ≡ (call image line (replicate reply_room 0)).image
room_length image line room e =
    ap (λ (n : ℕ). (cond (is_image image) (played (step (state_in image) line n) room) (record { answer = told (Err NoState) 0; image = image; room = room })).image) e
    ∙ by (is_image image) (step (state_in image) line reply_room)
  where
    by : (b : Bool) (o : Outcome) → (cond b (played o room) (record { answer = told (Err NoState) 0; image = image; room = room })).image
        ≡ (cond b (played o (replicate reply_room 0)) (record { answer = told (Err NoState) 0; image = image; room = replicate reply_room 0 })).image
    by true o = refl
    by false o = refl

-- the pieces from a place on, run on an image: one piece more, and none left

pub run_more : (input image line room next : List ℕ) (at n : ℕ) → at < length input → n ≡ cut_of (drop at input) → line ≡ take n (drop at input)
    → length room ≡ reply_room → next ≡ (call image line room).image → run_by (pieces (drop at input)) image ≡ run_by (pieces (drop (at + n) input)) next
unfolding session
run_more input image line room next at n h en el er e =
    let rest = drop at input in
    let is : (call image (take (cut_of rest) rest) (replicate reply_room 0)).image ≡ next =
    ap (λ (l : List ℕ). (call image l (replicate reply_room 0)).image) (ap (λ (k : ℕ). take k rest) (sym en) ∙ sym el) ∙ sym (room_length image line room er) ∙ sym e
    in
    let left : drop (cut_of rest) rest ≡ drop (at + n) input = ap (λ (k : ℕ). drop k rest) (sym en) ∙ drop-drop n at input in
    ap (λ (ps : List (List ℕ)). run_by ps image) (pieces_more rest (omega (arith, length-drop at input)))
    ∙ ap (λ (i : List ℕ). run_by (pieces (drop (cut_of rest) rest)) i) is
    ∙ ap (λ (l : List ℕ). run_by (pieces l) next) left

pub run_none : (input image : List ℕ) (at : ℕ) → length input ≤ at → run_by (pieces (drop at input)) image ≡ image
unfolding session
run_none input image at h = rw (pieces_none (drop at input) (omega (arith, length-drop at input)))

-- a turn of the loop that runs them, as the calls in it ensure it
pub run_turn : (input image room next : List ℕ) (at n : ℕ) → at < length input → length room ≡ reply_room
    → n ≡ cut_of (mid_of at (length input - at) input) → next ≡ (call image (mid_of 0 (n - 0) (mid_of at (length input - at) input)) room).image
    → (0 < n) × ((at + n ≤ length input) × (run_by (pieces (drop at input)) image ≡ run_by (pieces (drop (at + n) input)) next))
run_turn input image room next at n h er en e =
    let rest : mid_of at (length input - at) input ≡ drop at input = take_all (length input - at) (drop at input) (omega (arith, length-drop at input)) in
    let cut : n ≡ cut_of (drop at input) = rw rest at en in
    let whole : n - 0 ≡ n = omega arith in
    let left = length-drop at input in (
      rw cut (cut_some (drop at input) (omega arith)),
      (
        omega (arith, cut_fits (drop at input)),
        run_more input image (mid_of 0 (n - 0) (mid_of at (length input - at) input)) room next at n h cut (rw (rest, whole)) er e,
      ),
    )
