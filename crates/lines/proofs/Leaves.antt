-- What leaves the image as it is: a line that is refused, and one that asks.
use Prim.Native.Nat.{ℕ}
use mathlib.Core.Path.{◌≡◌, refl, sym, ap, ◌∙◌}
use mathlib.Core.Bool.{Bool, true, false, cond, false≢true}
use mathlib.Core.List.{List}
use lib.ListN.{length}
use Rattle.state.specs.Image.{image_of, state_in, is_image}
use Rattle.state.specs.declared.entries.State.{State}
use Rattle.state.proofs.Images.{image_of_lem}
use Rattle.commands.specs.Shapes.{text_of, order_of}
use Rattle.commands.specs.declared.shapes.Order.TheVariants.{Conf, Get}
use Rattle.lines.specs.Verdicts.{is_accepted}
use Rattle.lines.specs.Orders.{asks, deed_of, line_deed, done_of}
use Rattle.lines.specs.Machine.{Outcome, step, told, Called, played, call}
use Rattle.lines.specs.declared.verdicts.Refused.TheVariants.{NoState}
use Rattle.lines.proofs.Runs.{Comes, stays, runs, comes}
use Rattle.std.specs.Prelude.{Err, Ok}

left_so : (s : State) (line : List ℕ) (o : Outcome) → Comes s line o → (is_accepted o.verdict ≡ true → line_deed s.series line ≡ asks) → o.next ≡ s
left_so s line o (stays n e) f = e
left_so s line o (runs a m e) f = e ∙ ap (done_of s) (f a)

module _ (image line room : List ℕ) where
  abbrev pub called_if : Bool → Called
  called_if is = cond is (played (step (state_in image) line (length room)) room) (record { answer = told (Err NoState) 0; image = image; room = room })

  leaves : (is_accepted (call image line room).answer.verdict ≡ true → line_deed (state_in image).series line ≡ asks) → (call image line room).image ≡ image
  leaves f = by (is_image image) refl f
    where
      by : (is : Bool) → is_image image ≡ is → (is_accepted (called_if is).answer.verdict ≡ true → line_deed (state_in image).series line ≡ asks)
          → (called_if is).image ≡ image
      by false e f = refl
      by true e f =
          let s = state_in image in
          ap image_of (left_so s line (step s line (length room)) (comes s line (length room)) f) ∙ sym (image_of_lem image e).1

  -- "A refused line replies `@W127`, with nothing else altered": every refusal, 30 and 31 among them, leaves the image
  pub refused_leaves : is_accepted (call image line room).answer.verdict ≡ false → (call image line room).image ≡ image
  refused_leaves n = leaves (λ a. absurd (false≢true (sym n ∙ a)))

  -- and so does a line that asks
  pub asking_leaves : line_deed (state_in image).series line ≡ asks → (call image line room).image ≡ image
  asking_leaves e = leaves (λ _. e)

  pub conf_leaves : (n : ℕ) → order_of (text_of line) ≡ Ok (Conf n) → (call image line room).image ≡ image
  conf_leaves n e = asking_leaves (ap (deed_of (state_in image).series (text_of line)) e)

  pub get_leaves : order_of (text_of line) ≡ Ok Get → (call image line room).image ≡ image
  get_leaves e = asking_leaves (ap (deed_of (state_in image).series (text_of line)) e)
