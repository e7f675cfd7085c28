-- Demand 3 for a host, which lends an image and any rooms: calls on a state's image are calls on the state.
use Prim.Native.Nat.{ℕ, ◌≤◌}
use mathlib.Core.Path.{◌≡◌, refl, ap, subst, ◌∙◌}
use mathlib.Core.Bool.{true}
use mathlib.Core.List.{List, map}
use native.Mathlib.Omega.{arith}
use borrow.Author.Tests.{leb-true}
use lib.Dec.{leb}
use lib.ListN.{length, take}
use Rattle.std.specs.Prelude.{Ok}
use Rattle.figures.proofs.Tests.{by_test}
use Rattle.figures.proofs.Bytes.{laid_start}
use Rattle.state.specs.Entries.{contents_of, is_state}
use Rattle.state.specs.Image.{image_of, state_in}
use Rattle.state.specs.declared.entries.State.{State}
use Rattle.state.proofs.Images.{image_is, image_back}
use Rattle.commands.specs.Shapes.{is_ended, text_of, order_of}
use Rattle.lines.specs.Verdicts.{is_accepted}
use Rattle.lines.specs.Machine.{run, step, Called, played, call}
use Rattle.lines.specs.Sessions.{session, stepped, after, Lent, in_room, called, image_after}
use Rattle.lines.specs.Demand.{start_of, standing, play_all, stands}
use Rattle.commands.specs.declared.shapes.Order.TheVariants.{Undo}
use Rattle.lines.proofs.Sessions.{Alike, alike}
use Rattle.lines.proofs.Leaves.{called_if}
use Rattle.lines.proofs.States.{step_state}
use Rattle.lines.proofs.Demand as demand

pub call_is : (s : State) (line room : List ℕ) → is_state s ≡ true → call (image_of s) line room ≡ played (step s line (length room)) room
call_is s line room e =
    ap (called_if (image_of s) line room) (image_is s e) ∙ ap (λ (t : State). played (step t line (length room)) room) (image_back s e)

-- an image, and the state that it is of
abbrev pub ImageOf : List ℕ → State → Type 0
ImageOf image s = (image ≡ image_of s) × (is_state s ≡ true)

step_fits : (s : State) (line : List ℕ) (n : ℕ) → length (step s line n).reply ≤ n
step_fits s line n = by_test (leb (length (run s line).reply) n) (λ q. rw q (leb-true (length (run s line).reply) n q)) (λ q. rw q (omega arith))

call_steps : (image : List ℕ) (s : State) (c : Lent) → ImageOf image s
    → ImageOf (called image c).left (stepped s (in_room c)).left × ((called image c).reply ≡ (stepped s (in_room c)).reply)
call_steps image s c h =
    let o = step s c.line (length c.room) in
    let is : call image c.line c.room ≡ played o c.room = ap (λ (i : List ℕ). call i c.line c.room) h.0 ∙ call_is s c.line c.room h.1 in (
      (ap (λ (r : Called). r.image) is, step_state s c.line (length c.room) h.1),
      ap (λ (r : Called). take r.answer.count r.room) is ∙ laid_start o.reply c.room (step_fits s c.line (length c.room)),
    )

-- a host's session is one on the state: the image that it leaves, and each reply
pub hosted : (s : State) → is_state s ≡ true → (cs : List Lent) → Alike ImageOf (session called (image_of s) cs) (session stepped s (map in_room cs))
hosted s e cs = alike called stepped in_room ImageOf call_steps (image_of s) s cs (refl, e)

module _ (s : State) (is : is_state s ≡ true) (cs : List Lent) where
  hosted_state : state_in (image_after (image_of s) cs) ≡ after s (map in_room cs)
  hosted_state =
      let h = (hosted s is cs).0 in ap state_in h.0 ∙ image_back (after s (map in_room cs)) h.1

  pub hosted_played : contents_of (state_in (image_after (image_of s) cs)) ≡ play_all (start_of s) (standing s (map in_room cs))
  hosted_played = ap contents_of hosted_state ∙ demand.played s is (map in_room cs)

  -- an UNDO whose reply fits the lent room
  pub hosted_undo : (line room : List ℕ) → is_ended line ≡ true → order_of (text_of line) ≡ Ok Undo
      → length (run (state_in (image_after (image_of s) cs)) line).reply ≤ length room
      → is_accepted (call (image_after (image_of s) cs) line room).answer.verdict ≡ stands (standing s (map in_room cs))
  hosted_undo line room ended undo fits =
      let t = after s (map in_room cs) in
      let same : call (image_after (image_of s) cs) line room ≡ played (step t line (length room)) room =
      let h = (hosted s is cs).0 in ap (λ (i : List ℕ). call i line room) h.0 ∙ call_is t line room h.1
      in
      ap (λ (o : Called). is_accepted o.answer.verdict) same
      ∙ demand.undo_accepted s is (map in_room cs) line (length room) ended undo
      (subst (λ (u : State). length (run u line).reply ≤ length room) hosted_state fits)
