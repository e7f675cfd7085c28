-- Laws of a call: what a line comes to in a room that it fits or doesn't, by its verdict, and on a lent image.
use Prim.Native.Nat.{ℕ, ◌<◌, ◌≤◌}
use mathlib.Core.Path.{◌≡◌, refl, sym, ap, subst, ◌∙◌}
use mathlib.Core.Bool.{Bool, true, false, cond, ◌&&◌}
use mathlib.Core.List.{List, [], ◌∷◌, ◌++◌}
use native.Mathlib.Omega.{arith}
use borrow.Author.Tests.{leb-true, le-leb, lt-leb}
use lib.Dec.{eqb, leb}
use lib.ListN.{length}
use Rattle.figures.specs.Bytes.{laid}
use Rattle.state.specs.Image.{image_of}
use Rattle.state.specs.declared.entries.State.{State}
use Rattle.commands.specs.Shapes.{from_end, end_of, text_of, is_ended, order_of}
use Rattle.lines.specs.Verdicts.{is_accepted, order_verdict, line_verdict}
use Rattle.lines.specs.Orders.{taken_back, newest, set_to, put_to, Deed, asks, changes, undoes, keeps, line_deed, done_of}
use Rattle.lines.specs.Replies.{reply_end, warning, body_of}
use Rattle.lines.specs.Machine.{Outcome, outcome, run, step, told}
use Rattle.lines.specs.Keeping.{Answered, Ends, Accepts, order_if, judged}
use Rattle.lines.proofs.Runs.{may_run}
use Rattle.figures.proofs.Tests.{clash}
use Rattle.commands.specs.declared.shapes.Order.{Order}
use Rattle.lines.specs.Verdicts.{Verdict}
use Rattle.lines.specs.Verdicts.{accepted}
use Rattle.lines.specs.declared.verdicts.Refused.{Refused}
use Rattle.lines.specs.declared.verdicts.Refused.TheVariants.{Room}
use Rattle.lines.specs.declared.machine.Told.{Told}
use Rattle.lines.proofs.Replying.{laid_none}
use Rattle.std.specs.Prelude.{Result, Ok, Err}
use Rattle.commands.specs.declared.shapes.NoOrder.{NoOrder}

-- the room

module _ (s : State) (v : Verdict) (reply : List ℕ) (next : State) (room : List ℕ) (r : Told) where
  pub answers_short : length room < length reply → r ≡ told (Err Room) 0 → Answered s (outcome v reply next) room r room
  answers_short h e = rw (lt-leb (length reply) (length room) h) (e, sym (laid_none room))

  pub answers_fits : (room' : List ℕ) (n : ℕ) → n ≡ length reply → n ≤ length room → r ≡ told v n → room' ≡ laid reply room
      → Answered s (outcome v reply next) room r room'
  answers_fits room' n en h e l = rw (le-leb (length reply) (length room) (omega arith)) (e ∙ rw en, l)

  -- and the image: as it was, or that of the next state

  pub ends_short : (image : List ℕ) → image ≡ image_of s → length room < length reply → r ≡ told (Err Room) 0 → Ends s (outcome v reply next) room r image room
  ends_short image i h e = (answers_short h e, rw (lt-leb (length reply) (length room) h) i)

  pub ends_fits : (image' room' : List ℕ) (n : ℕ) → image' ≡ image_of next → n ≡ length reply → n ≤ length room → r ≡ told v n → room' ≡ laid reply room
      → Ends s (outcome v reply next) room r image' room'
  ends_fits image' room' n i en h e l = (answers_fits room' n en h e l, rw (le-leb (length reply) (length room) (omega arith)) i)

-- a refused line's state is as it was, whether the reply fits or not
pub ends_refused : (s : State) (v : Verdict) (reply image room : List ℕ) (r : Told) (room' : List ℕ) → image ≡ image_of s
    → Answered s (outcome v reply s) room r room' → Ends s (outcome v reply s) room r image room'
ends_refused s v reply image room r room' i h = (h, i ∙ ap image_of (sym (by (leb (length reply) (length room)))))
  where
    by : (b : Bool) → (cond b (outcome v reply s) (outcome (Err Room) [] s)).next ≡ s
    by true = refl
    by false = refl

pub ends_so : (s : State) (o o' : Outcome) (room : List ℕ) (r : Told) (image' room' : List ℕ) → o ≡ o' → Ends s o' room r image' room'
    → Ends s o room r image' room'
ends_so s o o' room r image' room' e h = subst (λ (p : Outcome). Ends s p room r image' room') (sym e) h

-- the line

-- its end is part of it
pub end_in : (l : List ℕ) → end_of l ≤ length l
end_in [] = omega arith
end_in (x ∷ []) = one (eqb (from_end 1 (x ∷ [])) 13) (eqb (from_end 1 (x ∷ [])) 10)
  where
    one : (a b : Bool) → cond a 1 (cond (b && false) 2 0) ≤ 1
    one true b = omega arith
    one false true = omega arith
    one false false = omega arith
end_in (x ∷ y ∷ l) = omega (arith, two (eqb (from_end 1 (x ∷ y ∷ l)) 13) (eqb (from_end 1 (x ∷ y ∷ l)) 10 && eqb (from_end 2 (x ∷ y ∷ l)) 13))
  where
    two : (a b : Bool) → cond a 1 (cond b 2 0) ≤ 2
    two true b = omega arith
    two false true = omega arith
    two false false = omega arith

-- a line that is judged: what it orders, or why it is refused

order_so : (v : Verdict) (o : Result Order NoOrder) (p : Order) → Ok p ≡ order_if v o → (v ≡ accepted) × (Ok p ≡ o)
order_so (Ok u) (Ok o) p e = let z : p ≡ o = cc in (refl, ap Ok z)
order_so (Ok u) (Err none) p e = absurd (clash (cc))
order_so (Err r) o p e = absurd (clash (cc))

-- what has no order isn't accepted
refused_so : (s : State) (t : List ℕ) (v : Verdict) (o : Result Order NoOrder) (r : Refused) → (v ≡ accepted → order_verdict s t o ≡ accepted)
    → Err r ≡ order_if v o → v ≡ Err r
refused_so s t (Ok u) (Ok o) r f e = absurd (clash (cc))
refused_so s t (Ok u) (Err none) r f e = let z = f refl in absurd (clash (cc))
refused_so s t (Err q) o r f e = cc

pub judged_accepts : (s : State) (line : List ℕ) (o : Order) → Ok o ≡ judged s line → (line_verdict s line ≡ accepted) × Accepts s (text_of line) o
judged_accepts s line o e =
    let t = text_of line in
    let so = order_so (line_verdict s line) (order_of t) o e in
    let may = may_run (is_ended line) (leb (length t) 100) (order_verdict s t (order_of t)) so.0 in
    (so.0, (so.1, (ap (order_verdict s t) so.1 ∙ may.1, leb-true (length t) 100 may.0)))

pub judged_refuses : (s : State) (line : List ℕ) (r : Refused) → Err r ≡ judged s line → line_verdict s line ≡ Err r
judged_refuses s line r e =
    let t = text_of line in
    refused_so s t (line_verdict s line) (order_of t) r (λ v. (may_run (is_ended line) (leb (length t) 100) (order_verdict s t (order_of t)) v).1) e

-- a line that is refused, and one that is accepted
module _ (s : State) (line : List ℕ) where
  pub run_refused : (r : Refused) → line_verdict s line ≡ Err r → run s line ≡ outcome (Err r) (warning ++ reply_end s) s
  run_refused r e = rw e

  pub run_accepted : line_verdict s line ≡ accepted
      → run s line ≡ outcome accepted (body_of s (text_of line) (order_of (text_of line)) ++ reply_end s) (done_of s (line_deed s.series line))
  run_accepted e = rw e

-- a line leaves the series as it is

either_series : (s t u : State) (b : Bool) → s.series ≡ u.series → t.series ≡ u.series → (cond b s t).series ≡ u.series
either_series s t u true p q = p
either_series s t u false p q = q

done_series : (s : State) (d : Deed) → (done_of s d).series ≡ s.series
done_series s asks = refl
done_series s (changes (set_to i p)) = refl
done_series s (changes (put_to i k)) = refl
done_series s undoes = either_series s (taken_back s (newest s)) s (eqb s.count 0) refl refl
done_series s keeps = refl

next_series : (s : State) (o : Outcome) (b : Bool) → o.next.series ≡ s.series → (cond b o (outcome (Err Room) [] s)).next.series ≡ s.series
next_series s o true e = e
next_series s o false e = refl

pub step_series : (s : State) (line : List ℕ) (room : ℕ) → (step s line room).next.series ≡ s.series
step_series s line room =
    let deed = line_deed s.series line in
    next_series s (run s line) (leb (length (run s line).reply) room)
    (either_series (done_of s deed) s s (is_accepted (line_verdict s line)) (done_series s deed) refl)
