-- What the program writes: all that is printed of an input, of which it reads no more than tells whether it is refused.
use Rattle.std.proofs.Common.{ℕ, ◌<◌, ◌≤◌, ◌≡◌, refl, sym, ap, subst, ◌∙◌, Bool, true, false, cond, List, length, take, Option, None, Some, IfSome, OnOk, Result, Ok, Err, arith, length-take-le}
use borrow.Author.Tests.{le-leb, leb-true, leb-false}
use lib.Dec.{leb}
use lib.Seq.{take_at}
use Rattle.std.specs.Io.KnownBytes.{Consumes, IsAtEnd}
use Rattle.std.proofs.KnownBytes.{Consumes-whole}
use Rattle.figures.specs.Bytes.{laid}
use Rattle.figures.proofs.Bytes.{laid_start}
use Rattle.sheets.specs.Playing.{printed, Prints}
use Rattle.sheet.proofs.Printing.{printed_enough, printed_fits}

-- a text that fits its room stands there whole
laid_out : (t room room' : List ℕ) (k : ℕ) → length t ≤ length room → k ≡ cond (leb (length t) (length room)) (length t) 0
    → room' ≡ cond (leb (length t) (length room)) (laid t room) room → take k room' ≡ t
laid_out t room room' k h p q =
    let there = le-leb (length t) (length room) h in
    let count : k ≡ length t = rw there at p in
    let text : room' ≡ laid t room = rw there at q in
    (λ i. take (count i) (text i)) ∙ laid_start t room h

pub sheet_out : (input room room' : List ℕ) (k : ℕ) → length room ≡ 352 → Prints input room k room' → take k room' ≡ printed input
sheet_out input room room' k long p = laid_out (printed input) room room' k (omega (arith, printed_fits input)) p.0 p.1

-- what was read is all of the input, or enough of it
pub enough_read : (u u' : Option (List ℕ)) (bytes : List ℕ) (P : List ℕ → Type 0) → Consumes u u' bytes → length bytes ≤ 65537
    → (length bytes < 65537 → IsAtEnd u') → P (printed bytes) → IfSome u (λ input. P (printed input))
enough_read u u' bytes P read few end p = by (leb 65537 (length bytes)) refl
  where
    full : (u u' : Option (List ℕ)) → Consumes u u' bytes → length bytes ≡ 65537 → IfSome u (λ input. P (printed input))
    full None u' q e = tt
    full (Some xs) None q e = absurd q
    full (Some xs) (Some ys) q e =
        let start : take 65537 xs ≡ bytes = ap (take 65537) q ∙ take_at bytes ys 65537 e in
        subst P (ap printed (sym start) ∙ printed_enough xs) p

    by : (t : Bool) → leb 65537 (length bytes) ≡ t → IfSome u (λ input. P (printed input))
    by true e = full u u' read (omega (arith, leb-true 65537 (length bytes) e))
    by false e = Consumes-whole u u' bytes (λ input. P (printed input)) read (end (leb-false 65537 (length bytes) e)) p

-- the same of what stands in the room, where no read failed
pub room_read : {A E : Type 0} (r : Result A E) (u u' : Option (List ℕ)) (room : List ℕ) (n : ℕ) (P : List ℕ → Type 0) → length room ≡ 65537 → n ≤ length room
    → Consumes u u' (take n room) → OnOk r (n < length room → IsAtEnd u') → P (printed (take n room)) → OnOk r (IfSome u (λ input. P (printed input)))
room_read (Ok x) u u' room n P long fits read end p =
    let size = length-take-le n room fits in
    enough_read u u' (take n room) P read (omega arith) (λ h. end (omega arith)) p
room_read (Err e) u u' room n P long fits read end p = tt
