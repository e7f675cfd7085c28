-- What is kept of a piece, its first 800 bytes, is judged and reported as the whole piece is.
use Prim.Native.Nat.{ℕ}
use mathlib.Core.Path.{◌≡◌, ap, ◌∙◌}
use mathlib.Core.List.{List}
use lib.ListN.{take}
use Rattle.units.specs.declared.kinds.Family.{Family}
use Rattle.blocks.specs.Judging.{Judgement}
use Rattle.blocks.proofs.Enough.{judged_enough}
use Rattle.files.proofs.Kept.{Keeps}
use Rattle.reports.specs.Piece.{report_of, is_read}
use Rattle.reports.proofs.Enough.{report_enough}
use Rattle.reading.specs.Turns.{is_taken}

module _ (f : Family) (room : List ℕ) (n : ℕ) (p : List ℕ) (k : Keeps room n p) where
  pub report_kept : (number at : ℕ) → report_of f number at (take n room) ≡ report_of f number at p
  report_kept number at = ap (report_of f number at) k.bytes ∙ report_enough f number at p

  pub accepted_kept : is_taken f (take n room) ≡ is_taken f p
  accepted_kept = ap (is_taken f) k.bytes ∙ ap (λ (j : Judgement). is_read j.answer) (judged_enough f p)
