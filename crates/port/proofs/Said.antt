-- What is said of a refused line fits 231 bytes: 54 of its number and the refusal's, 53 of which rule and byte, 101 of the line, 21 of the caret, and two LF.
use Prim.Native.Nat.{ℕ, ◌≤◌, ◌<◌}
use mathlib.Core.Path.{◌≡◌, refl, ap, subst}
use mathlib.Core.Bool.{Bool, true, false, cond}
use mathlib.Core.List.{List, [], ◌++◌, map}
use native.Mathlib.Omega.{arith}
use lib.ListN.{length, length-append, length-map, length-replicate}
use Rattle.std.specs.Prelude.{Ok, Err, is_ok}
use Rattle.figures.specs.Text.{codes}
use Rattle.figures.specs.Pointing.{shown}
use Rattle.figures.proofs.Decimal.{digits_length}
use Rattle.figures.proofs.Places.{digits_most}
use Rattle.words.specs.Reading.{fault_number}
use Rattle.words.specs.declared.reading.Fault.{Fault}
use Rattle.lines.specs.Verdicts.{verdict_number, verdict_byte, of_word, is_accepted}
use Rattle.lines.specs.Verdicts.{Verdict}
use Rattle.lines.proofs.Sorts.{of_word_lem}
use Rattle.lines.proofs.Telling.{tells, tells_small}
use Rattle.port.specs.Why.{number_text, rule_text, under_text, why_text, why_of}

pub ok_accepted : (v : Verdict) → is_ok v ≡ is_accepted v
ok_accepted (Ok u) = refl
ok_accepted (Err r) = refl

-- what 26 puts is so long at most, if it is where its byte is told
of_most : (most : ℕ) (of : Fault → ℕ → List ℕ) (v : Verdict) → ((x : Fault) → length (of x (verdict_byte v)) ≤ most) → length (of_word of [] v) ≤ most
of_most most of v h =
    of_word_lem of [] (λ l. length l ≤ most) v (λ x at e. subst (λ b. length (of x b) ≤ most) (ap verdict_byte e) (h x)) (omega arith)

number_short : (n : ℕ) (v : Verdict) → length (number_text n v) ≤ 54
number_short n v = simp (length-append, digits_length) (omega (arith, digits_most n, digits_most (verdict_number v)))

rule_short : (v : Verdict) → length (rule_text v) ≤ 53
rule_short v =
    of_most 53 _ v (λ x. simp (length-append, digits_length) (omega (arith, digits_most (fault_number x), digits_most (verdict_byte v))))

under_short : (v : Verdict) → verdict_byte v < 20 → length (under_text v) ≤ 21
under_short v h = of_most 21 _ v (λ x. simp (length-append, length-replicate) (omega arith))

text_short : (n : ℕ) (v : Verdict) (line : List ℕ) → verdict_byte v < 20 → length line ≤ 101 → length (why_text n v line) ≤ 231
text_short n v line near h =
    let end = codes "\n" ++ under_text v in
    let text = codes "\n" ++ (map shown line ++ end) in
    omega (
      arith,
      length-append (number_text n v) (rule_text v ++ text),
      length-append (rule_text v) text,
      length-append (map shown line) end,
      length-map line shown,
      number_short n v,
      rule_short v,
      under_short v near,
    )

-- of a verdict that a call comes to (`call_tells`, crate lines), and a line as the port keeps it
pub why_fits : (n : ℕ) (v : Verdict) (line : List ℕ) → tells v ≡ true → length line ≤ 101 → length (why_of n v line) ≤ 231
why_fits n v line t h = by (is_accepted v)
  where
    by : (b : Bool) → length (cond b [] (why_text n v line)) ≤ 231
    by true = omega arith
    by false = text_short n v line (tells_small v t).1 h
