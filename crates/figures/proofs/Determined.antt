-- Promises that are equations determine what comes out; those of this crate's public functions are.
use mathlib.Core.Path.{◌≡◌, sym, ◌∙◌}
use mathlib.Core.Bool.{Bool}
use mathlib.Core.List.{List, map}
use Prim.Native.Nat.{ℕ, ◌+◌, ◌≤◌, min}
use lib.ListN.{length}
use Rattle.figures.specs.Promises.{Determined}
use Rattle.figures.specs.Bytes.{within, every, run_of, is_other, laid, starts_with, same_bytes}
use Rattle.figures.specs.Decimal.{is_digit, number_in, digits_of, decimal_of}
use Rattle.figures.specs.Rooms.{put_at, Puts, Fills}
use Rattle.figures.specs.declared.rooms.Room.{Room}
use Rattle.figures.specs.Pointing.{shown, caret_text}
use Rattle.std.specs.Prelude.{Option}

-- one equation: the answer, or the one thing that is lent
pub by_equation : (In Out : Type 0) (f : In → Out) → Determined In Out (λ i o. o ≡ f i)
by_equation In Out f i a b p q = p ∙ sym q

-- two equations: an answer and what is lent
pub by_two : (In A B : Type 0) (f : In → A) (g : In → B) → Determined In (A × B) (λ i o. (o.0 ≡ f i) × (o.1 ≡ g i))
by_two In A B f g i a b p q =
    let x : a.0 ≡ b.0 = p.0 ∙ sym q.0 in
    let y : a.1 ≡ b.1 = p.1 ∙ sym q.1 in
    λ k. (x k, y k)

-- three: an answer and two things that are lent
pub by_three : (In A B C : Type 0) (f : In → A) (g : In → B) (h : In → C)
    → Determined In (A × (B × C)) (λ i o. (o.0 ≡ f i) × ((o.1.0 ≡ g i) × (o.1.1 ≡ h i)))
by_three In A B C f g h i a b p q =
    let x : a.0 ≡ b.0 = p.0 ∙ sym q.0 in
    let y : a.1.0 ≡ b.1.0 = p.1.0 ∙ sym q.1.0 in
    let z : a.1.1 ≡ b.1.1 = p.1.1 ∙ sym q.1.1 in
    λ k. (x k, (y k, z k))

pub digit_determined : Determined ℕ Bool (λ b r. r ≡ is_digit b)
digit_determined = by_equation ℕ Bool is_digit

pub number_determined : Determined (List ℕ) (Option ℕ) (λ s r. r ≡ number_in s)
number_determined = by_equation (List ℕ) (Option ℕ) number_in

pub put_number_determined : Determined (ℕ × List ℕ) (List ℕ) (λ i out. out ≡ digits_of (length i.1) i.0)
put_number_determined = by_equation (ℕ × List ℕ) (List ℕ) (λ i. digits_of (length i.1) i.0)

pub all_within_determined : Determined (ℕ × ℕ × List ℕ) Bool (λ i r. r ≡ every (within i.0 i.1) i.2)
all_within_determined = by_equation (ℕ × ℕ × List ℕ) Bool (λ i. every (within i.0 i.1) i.2)

pub run_within_determined : Determined (ℕ × ℕ × List ℕ) ℕ (λ i r. (r ≡ run_of (within i.0 i.1) i.2) × (r ≤ length i.2))
run_within_determined i a b p q = p.0 ∙ sym q.0

pub run_before_determined : Determined (ℕ × List ℕ) ℕ (λ i r. (r ≡ run_of (is_other i.0) i.1) × (r ≤ length i.1))
run_before_determined i a b p q = p.0 ∙ sym q.0

pub lay_determined : Determined (List ℕ × List ℕ) (List ℕ) (λ i room. room ≡ laid i.0 i.1)
lay_determined = by_equation (List ℕ × List ℕ) (List ℕ) (λ i. laid i.0 i.1)

pub starts_determined : Determined (List ℕ × List ℕ) Bool (λ i r. r ≡ starts_with i.1 i.0)
starts_determined = by_equation (List ℕ × List ℕ) Bool (λ i. starts_with i.1 i.0)

pub same_determined : Determined (List ℕ × List ℕ) Bool (λ i r. r ≡ same_bytes i.0 i.1)
same_determined = by_equation (List ℕ × List ℕ) Bool (λ i. same_bytes i.0 i.1)

-- a room, a place in it and a text go in; where the next part begins and the room come out: of a `Room` it is what `Fills` says
pub put_determined : Determined (List ℕ × ℕ × List ℕ) (ℕ × List ℕ) (λ i o. Puts i.0 i.1 i.2 o.0 o.1)
put_determined =
    by_two (List ℕ × ℕ × List ℕ) ℕ (List ℕ) (λ i. min (i.1 + length i.2) (length i.0)) (λ i. put_at i.0 i.1 i.2)

pub put_decimal_determined : Determined (List ℕ × ℕ × ℕ) (ℕ × List ℕ) (λ i o. Puts i.0 i.1 (decimal_of i.2) o.0 o.1)
put_decimal_determined i = put_determined (i.0, i.1, decimal_of i.2)

pub put_shown_determined : Determined (List ℕ × ℕ × List ℕ) (ℕ × List ℕ) (λ i o. Puts i.0 i.1 (map shown i.2) o.0 o.1)
put_shown_determined i = put_determined (i.0, i.1, map shown i.2)

pub put_caret_determined : Determined (List ℕ × ℕ × ℕ) (ℕ × List ℕ) (λ i o. Puts i.0 i.1 (caret_text i.2) o.0 o.1)
put_caret_determined i = put_determined (i.0, i.1, caret_text i.2)

-- all that there is of a room: its place, its bytes, and which lent ones they are
abbrev pub Alike : Room → Room → Type 0
Alike a b = (a.at ≡ b.at) × ((a.bytes.now ≡ b.bytes.now) × (a.bytes.ghost_name ≡ b.bytes.ghost_name))

-- so of each of a `Room`'s methods, whatever it puts
pub fills_determined : (old : Room) (text : List ℕ) (a b : Room) → Fills old text a → Fills old text b → Alike a b
fills_determined old text a b p q = (p.puts.0 ∙ sym q.puts.0, (p.puts.1 ∙ sym q.puts.1, p.same ∙ sym q.same))

-- the lent bytes go in
pub new_determined : (s : List ℕ) (n : ℕ) (a b : Room) → (a.bytes.now ≡ s) × ((a.at ≡ 0) × (a.bytes.ghost_name ≡ n))
    → (b.bytes.now ≡ s) × ((b.at ≡ 0) × (b.bytes.ghost_name ≡ n)) → Alike a b
new_determined s n a b p q = (p.1.0 ∙ sym q.1.0, (p.0 ∙ sym q.0, p.1.1 ∙ sym q.1.1))
