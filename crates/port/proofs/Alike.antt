-- What is kept of an over-long line is judged as the whole line is.
use Prim.Native.Nat.{ℕ, ◌+◌, ◌-◌, ◌<◌}
use mathlib.Core.Path.{◌≡◌, refl, sym, ap, ◌∙◌}
use mathlib.Core.Bool.{Bool, true, false, cond, ◌&&◌}
use mathlib.Core.List.{List, [], ◌∷◌, ◌++◌}
use native.Mathlib.Omega.{arith}
use borrow.Author.Tests.{eq-eqb, lt-leb, le-leb}
use lib.Dec.{eqb}
use lib.ListN.{length, length-append}
use lib.Seq.{take_at, get_or_at}
use Rattle.state.specs.Image.{is_image, state_in}
use Rattle.state.specs.declared.entries.State.{State}
use Rattle.commands.specs.Shapes.{from_end, end_of, text_of, is_plain, is_ended}
use Rattle.lines.specs.Replies.{warning, reply_end}
use Rattle.lines.specs.Machine.{Outcome, outcome, run, reply_in_room, told, Called, played, call}
use Rattle.lines.specs.declared.verdicts.Refused.TheVariants.{Unended, Long, NoState}
use Rattle.std.specs.Prelude.{Err}

-- two texts that are judged alike: the same, or both over 100 characters and both plain or neither
pub data JudgedAlike (k l : List ℕ) : Type 0 where
  same : k ≡ l → JudgedAlike k l
  over : 100 < length k → 100 < length l → is_plain k ≡ is_plain l → JudgedAlike k l

-- a text with a CR

module _ (l : List ℕ) where
  abbrev ended : List ℕ
  ended = l ++ (13 ∷ [])

  size : length ended ≡ length l + 1
  size = length-append l (13 ∷ [])

  end_one : end_of ended ≡ 1
  end_one =
      let last : from_end 1 ended ≡ 13 = rw (le-leb 1 (length ended) (omega (arith, size))) (get_or_at l 13 [] 0 (length ended - 1) (omega (arith, size))) in
      ap (λ (t : Bool). cond t 1 (cond (eqb (from_end 1 ended) 10 && eqb (from_end 2 ended) 13) 2 0)) (eq-eqb (from_end 1 ended) 13 last)

  text_is : text_of ended ≡ l
  text_is = take_at l (13 ∷ []) (length ended - end_of ended) (omega (arith, size, end_one))

  ended_is : is_ended ended ≡ is_plain l
  ended_is = rw (text_is, end_one)

  run_over : (s : State) (plain : Bool) → is_plain l ≡ plain → 100 < length l → run s ended ≡ outcome (cond plain (Err Long) (Err Unended)) (warning ++ reply_end s) s
  run_over s true e h = rw (ended_is ∙ e, text_is, lt-leb (length l) 100 h)
  run_over s false e h = rw (ended_is ∙ e)

run_alike : (k l : List ℕ) → JudgedAlike k l → (s : State) → run s (k ++ (13 ∷ [])) ≡ run s (l ++ (13 ∷ []))
run_alike k l (same e) s = rw e
run_alike k l (over hk hl e) s = run_over k s (is_plain k) refl hk ∙ sym (run_over l s (is_plain k) (sym e) hl)

pub call_alike : (image k l room : List ℕ) → JudgedAlike k l → call image (k ++ (13 ∷ [])) room ≡ call image (l ++ (13 ∷ [])) room
call_alike image k l room a =
    let s = state_in image in
    let none : Called = record { answer = told (Err NoState) 0; image = image; room = room } in
    ap (λ (o : Outcome). cond (is_image image) (played (reply_in_room s (length room) o) room) none) (run_alike k l a s)
