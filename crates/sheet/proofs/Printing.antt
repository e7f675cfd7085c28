-- What is printed of an input fits the program's room, "187 to 352 bytes" or the refusal; and one byte more than an input may have is enough for the refusal.
use Rattle.std.proofs.Common.{ℕ, ◌≤◌, ◌≡◌, refl, sym, ap, ◌∙◌, Bool, true, false, List, length, map, take, arith, length-take-le}
use borrow.Author.Tests.{leb-true, leb-false}
use lib.Dec.{leb}
use lib.Seq.{take_all}
use Rattle.instrument.specs.declared.settings.Series.TheVariants.{Tps100}
use Rattle.state.specs.declared.entries.State.{State}
use Rattle.lines.specs.Sessions.{stepped}
use Rattle.lines.proofs.Calling.{step_series}
use Rattle.lines.proofs.Sessions.{lasts}
use Rattle.pieces.specs.Pieces.{pieces}
use Rattle.sheets.specs.Playing.{call_of, input_most, printed}
use Rattle.sheets.proofs.Reached.{factory100, reached, reached_state, printed_sheet, printed_refused}
use Rattle.sheets.proofs.Sizes.{sheet_greatest, sheet_most_lem, sizes_100}

-- whatever lines are played, the series stays the factory's
reached_series : (input : List ℕ) → (reached input).series ≡ Tps100
reached_series input = lasts stepped (λ (s : State). s.series ≡ Tps100) (λ s c e. step_series s c.line c.room ∙ e) factory100 (map call_of (pieces input)) refl

pub printed_fits : (input : List ℕ) → length (printed input) ≤ 352
printed_fits input = by (leb (length input) input_most) refl
  where
    by : (t : Bool) → leb (length input) input_most ≡ t → length (printed input) ≤ 352
    by true e =
        let is = printed_sheet input (leb-true (length input) input_most e) in
        omega (arith, sheet_most_lem (reached input) (reached_state input), ap length is, ap sheet_greatest (reached_series input), sizes_100.1)
    by false e = omega (arith, ap length (printed_refused input (leb-false (length input) input_most e)))

pub printed_enough : (input : List ℕ) → printed (take 65537 input) ≡ printed input
printed_enough input = by (leb (length input) 65537) refl
  where
    by : (t : Bool) → leb (length input) 65537 ≡ t → printed (take 65537 input) ≡ printed input
    by true e = ap printed (take_all 65537 input (leb-true (length input) 65537 e))
    by false e =
        let long = leb-false (length input) 65537 e in
        let size = length-take-le 65537 input (omega arith) in
        printed_refused (take 65537 input) (omega arith) ∙ sym (printed_refused input (omega arith))
