-- The longest reply: the words of a GET of a hundred characters and CR LF. With that much room 30 never comes.
use Prim.Native.Nat.{ℕ, ◌+◌, ◌≤◌}
use mathlib.Core.Path.{◌≡◌, refl, ap}
use mathlib.Core.Bool.{Bool, true, false, cond, not}
use mathlib.Core.List.{List, ◌++◌}
use native.Mathlib.Omega.{arith}
use borrow.Author.Tests.{leb-true, le-leb}
use lib.Dec.{leb, eqb}
use lib.ListN.{length, length-append}
use Rattle.lines.specs.Keeping.{reply_most}
use Rattle.figures.proofs.Bytes.{end_long}
use Rattle.instrument.specs.Rows.{seek}
use Rattle.instrument.specs.Settings.{rows100, parameter_of}
use Rattle.instrument.specs.declared.settings.Series.{Series}
use Rattle.instrument.specs.declared.settings.Series.TheVariants.{Tps100}
use Rattle.state.specs.declared.entries.State.{State}
use Rattle.commands.specs.Shapes.{is_ended, text_of, order_of}
use Rattle.lines.specs.Verdicts.{is_accepted, order_verdict, line_verdict}
use Rattle.lines.specs.Replies.{ends_lf, answers_wide, reply_end, warning, body_of}
use Rattle.lines.specs.Machine.{run, step}
use Rattle.lines.proofs.Replying.{body_most, body_most_lem, body_short}
use Rattle.lines.proofs.Sorts.{accepted_is}
use Rattle.lines.proofs.Runs.{may_run}

ended_most : (s : State) (body : List ℕ) (b : Bool) (n : ℕ) → 5 ≤ n → (b ≡ true → length body ≤ n) → length (cond b body warning ++ reply_end s) ≤ n + 2
ended_most s body true n few h = omega (arith, h refl, length-append body (reply_end s), end_long (ends_lf s))
ended_most s body false n few h = omega (arith, length-append warning (reply_end s), end_long (ends_lf s))

most_some : (wide : Bool) → 5 ≤ body_most wide
most_some true = omega arith
most_some false = omega arith

-- by how the words are
reply_by : (s : State) (line : List ℕ) → length (run s line).reply ≤ body_most (answers_wide s) + 2
reply_by s line =
    let t = text_of line in
    let v = line_verdict s line in
    ended_most s (body_of s t (order_of t)) (is_accepted v) (body_most (answers_wide s)) (most_some (answers_wide s))
    (λ e.
    let j = may_run (is_ended line) (leb (length t) 100) (order_verdict s t (order_of t)) (accepted_is v e) in
    body_short s t (order_of t) refl j.1 (leb-true (length t) 100 j.0))

pub reply_most_lem : (s : State) (line : List ℕ) → length (run s line).reply ≤ reply_most
reply_most_lem s line = omega (arith, reply_by s line, body_most_lem (answers_wide s))

pub fits_459 : (s : State) (line : List ℕ) → step s line reply_most ≡ run s line
fits_459 s line = rw (le-leb (length (run s line).reply) reply_most (reply_most_lem s line))

-- a TPS100 has no 137, so no wide word
module _ (s : State) (is : s.series ≡ Tps100) where
  pub narrow : answers_wide s ≡ false
  unfolding seek rows100
  narrow = ap (λ (k : Series). not (eqb (parameter_of k s.settings 137) 0)) is

  pub reply_most_100 : (line : List ℕ) → length (run s line).reply ≤ 306
  reply_most_100 line = omega (arith, reply_by s line, ap (λ (b : Bool). body_most b + 2) narrow)

  pub fits_306 : (line : List ℕ) → step s line 306 ≡ run s line
  fits_306 line = rw (le-leb (length (run s line).reply) 306 (reply_most_100 line))
