-- "A block that reads comes back unchanged with no edits": it is mended to its bytes up to the terminator.
use Prim.Native.Nat.{ℕ, zero, suc, ◌+◌, ◌≤◌}
use mathlib.Core.Path.{◌≡◌, refl, sym, ap, ◌∙◌}
use mathlib.Core.Bool.{Bool, true, false, cond, and-false, false≢true}
use mathlib.Core.List.{List, [], append-nil}
use native.Mathlib.Omega.{arith}
use borrow.Author.Tests.{eqb-true, leb-true, ne_eqb}
use lib.Dec.{eqb, leb}
use lib.ListN.{length, get_or, take, drop}
use lib.Seq.{take-add, length-take-le}
use Rattle.std.specs.Prelude.{Ok}
use Rattle.figures.specs.Text.{byte}
use Rattle.figures.specs.Bytes.{among, laid}
use Rattle.figures.specs.Decimal.{is_digit, are_digits}
use Rattle.figures.proofs.Bytes.{within_bounds}
use Rattle.figures.proofs.Tests.{clash, both, by_test}
use Rattle.units.specs.Kinds.{listed_by}
use Rattle.units.specs.Information.{info_marks, numbered_marks, all_right, sign_right}
use Rattle.units.specs.declared.information.Marks.{Marks}
use Rattle.units.specs.declared.kinds.Family.{Family}
use Rattle.units.specs.declared.kinds.Family.TheVariants.{Station, Level}
use Rattle.units.specs.declared.kinds.Kind.{Kind}
use Rattle.units.specs.declared.kinds.Kind.TheVariants as kind
use Rattle.words.specs.Records.{width}
use Rattle.words.specs.Reading.{word_size, pos, kind_at, index_in, lead_in, marks_in, data_in, data_right, unless, OneWord, judged_right, judged_in, word_of}
use Rattle.words.specs.declared.records.Word.{Word}
use Rattle.words.specs.declared.reading.Fault.{Fault}
use Rattle.blocks.specs.Judging.{Judgement, is_at, is_wide, first_at, block_from, judged}
use Rattle.blocks.specs.declared.answers.Reading.{Reading}
use Rattle.blocks.specs.Rules.{Ruled}
use Rattle.blocks.proofs.Accepted.{accepted}
use Rattle.blocks.proofs.Exactly.{ruled_read}
use Rattle.blocks.proofs.Steps.{cond_by, is_in}
use Rattle.listings.specs.Mending.{Mending, copied, lacks_dot, is_end, mended_from, mended}
use Rattle.listings.specs.Outcome.{mended_as, outcome_by, outcome}
use Rattle.listings.proofs.Outcomes.{fits_done}
use Rattle.listings.proofs.Reader.{judged_reads, read_end, read_none, read_word}
use Rattle.listings.proofs.Seen.{no_plus, end_bytes_lem, star_taken}
use Rattle.listings.proofs.Turns.{at_end, plain}

-- a word that is right: it has its bytes, starts with two digits, has no `+` at position 6, and a blank in its place

through : (b : Bool) (x : Fault) (at : ℕ) (o : OneWord) → judged_in (unless b x at o) ≡ judged_right → (b ≡ true) × (judged_in o ≡ judged_right)
through true x at o e = (refl, e)
through false x at o e = absurd (clash (cc))

-- in no kind of word is position 6 a `+`

numbered_unit : (a b c : ℕ) → (numbered_marks a b c (byte "+")).3 ≡ false
numbered_unit a b c = cond_by (λ (m : Marks). m.3 ≡ false) (is_digit a) _ _ (λ _. refl) (λ _. refl)

no_plus_unit : (f : Family) (i : ℕ) (k : Kind) (a b c : ℕ) → (info_marks f i k a b c (byte "+")).3 ≡ false
unfolding among
no_plus_unit Station i kind.Missing a b c = refl
no_plus_unit Station i kind.Numbered a b c = numbered_unit a b c
no_plus_unit Station i kind.Text a b c = refl
no_plus_unit Station i kind.Angle a b c = refl
no_plus_unit Station i kind.Length a b c = refl
no_plus_unit Station i kind.Constant a b c = refl
no_plus_unit Station i kind.Pair a b c = refl
no_plus_unit Level i kind.Missing a b c = refl
no_plus_unit Level i kind.Numbered a b c = numbered_unit a b c
no_plus_unit Level i kind.Text a b c = refl
no_plus_unit Level i kind.Angle a b c = refl
no_plus_unit Level i kind.Length a b c = refl
no_plus_unit Level i kind.Constant a b c = refl
no_plus_unit Level i kind.Pair a b c = refl

right_unit : (f : Family) (i : ℕ) (k : Kind) (a b c d : ℕ) → all_right (info_marks f i k a b c d) ≡ true → eqb d (byte "+") ≡ false
right_unit f i k a b c d e =
    by_test (eqb d 43) (λ q.
    let wrong : (info_marks f i k a b c d).3 ≡ false = rw (eqb-true d 43 q) (no_plus_unit f i k a b c) in
    absurd (false≢true (rw (wrong, and-false, and-false, and-false) at e))) (λ q. q)

module _ (f : Family) (wide : Bool) (t : List ℕ) (right : judged_in (word_of f wide t) ≡ judged_right) where
  sized : (word_size wide ≤ length t) × (are_digits (pos 1 t) (pos 2 t) ≡ true) × (all_right (marks_in f t) ≡ true) × (get_or t (7 + width wide) 0 ≡ 32)
  sized =
      let long = through (leb (word_size wide) (length t)) _ _ _ right in
      let digits = through (are_digits (pos 1 t) (pos 2 t)) _ _ _ long.1 in
      let listed = through (listed_by f (pos 1 t) (pos 2 t) (pos 3 t)) _ _ _ digits.1 in
      let info = through (all_right (marks_in f t)) _ _ _ listed.1 in
      let sign = through (sign_right (kind_at f t) (pos 7 t)) _ _ _ info.1 in
      let letters = through (data_right (kind_at f t) (data_in wide t)) _ _ _ sign.1 in
      let end = through (eqb (get_or t (7 + width wide) 0) (byte " ")) _ _ _ letters.1 in
      (leb-true (word_size wide) (length t) long.0, digits.0, info.0, eqb-true (get_or t (7 + width wide) 0) 32 end.0)

  right_long : word_size wide ≤ length t
  right_long = sized.0

  right_dots : lacks_dot t ≡ false
  right_dots = no_plus t (right_unit f (index_in f t) (kind_at f t) (lead_in f t) (pos 4 t) (pos 5 t) (pos 6 t) sized.2)

  right_starts : is_end t ≡ false
  right_starts =
      let (low, high) = within_bounds 48 57 (pos 1 t) (both (is_digit (pos 1 t)) (is_digit (pos 2 t)) sized.1).0 in
      rw (
        is_in 13 t 0 (omega (arith, right_long)),
        is_in 10 t 0 (omega (arith, right_long)),
        ne_eqb (pos 1 t) 13 (λ e. omega arith),
        ne_eqb (pos 1 t) 10 (λ e. omega arith),
      )

  right_blank : is_end (drop (width wide + 7) t) ≡ false
  right_blank =
      let place : 7 + width wide ≡ width wide + 7 = omega arith in
      let blank : get_or t (width wide + 7) 0 ≡ 32 = rw place at sized.3 in
      rw (is_in 13 t (width wide + 7) (omega (arith, right_long)), is_in 10 t (width wide + 7) (omega (arith, right_long)), blank)

-- from a place on where a word would start: what is read there is so many bytes, and they are mended to themselves
record Same (more : ℕ) (wide : Bool) (at : ℕ) (rest : List ℕ) (r : Reading) : Type 0 where
  size : ℕ
  used : r.used ≡ at + size
  same : mended_from more wide at rest ≡ copied (take size rest)

same_end : (f : Family) (more : ℕ) (wide : Bool) (places at : ℕ) (rest : List ℕ) (ws : List Word) (r : Reading)
    → (block_from f more wide places at rest ws).answer ≡ Ok r → is_at 13 rest ≡ true → Same more wide at rest r
same_end f more wide places at rest ws r e q =
    by (is_at 10 (drop 1 rest)) refl (ap (λ (r : Reading). r.used) (read_end f wide places at rest ws r more q e))
  where
    by : (crlf : Bool) → is_at 10 (drop 1 rest) ≡ crlf → r.used ≡ cond crlf (at + 2) (at + 1) → Same more wide at rest r
    by true is used = record { size = 2; used = used; same = at_end more wide at rest (rw q) ∙ rw (q, is, end_bytes_lem rest true q is) }
    by false is used = record { size = 1; used = used; same = at_end more wide at rest (rw q) ∙ rw (q, is, end_bytes_lem rest false q is) }

-- a right word, its blank, and then the same
same_word : (f : Family) (more : ℕ) (wide : Bool) (at : ℕ) (rest : List ℕ) (r : Reading) → judged_in (word_of f wide rest) ≡ judged_right
    → Same more wide (at + word_size wide) (drop (word_size wide) rest) r → Same (suc more) wide at rest r
same_word f more wide at rest r right on = record {
  size = word_size wide + on.size;
  used = omega (arith, on.used);
  same =
      plain more wide at rest (right_starts f wide rest right) (right_dots f wide rest right) (right_blank f wide rest right)
      ∙ rw (on.same, take-add (word_size wide) on.size rest);
}

from_same : (f : Family) (more : ℕ) (wide : Bool) (places at : ℕ) (rest : List ℕ) (ws : List Word) (r : Reading)
    → (block_from f more wide places at rest ws).answer ≡ Ok r → Same more wide at rest r
from_same f zero wide places at rest ws r e =
    by_test (is_at 13 rest) (same_end f zero wide places at rest ws r e) (λ q. absurd (read_none f wide places at rest ws r q e))
from_same f (suc more) wide places at rest ws r e =
    by_test (is_at 13 rest) (same_end f (suc more) wide places at rest ws r e) (λ q.
    let w = read_word f wide places at rest ws r more q e in
    same_word f more wide at rest r w.right (from_same f more wide places (at + word_size wide) (drop (word_size wide) rest) _ r w.next))

pub unchanged : (f : Family) (s : List ℕ) (places : ℕ) (r : Reading) → (judged f s places).answer ≡ Ok r → mended s ≡ copied (take r.used s)
unfolding mended
unchanged f s places r e =
    let wide = is_wide s in
    let start = first_at wide in
    let on = from_same f 32 wide places start (drop start s) [] r (judged_reads f s places r e) in
    let whole : mended s ≡ copied (take (start + on.size) s) = rw (on.same, star_taken s, take-add start on.size s) in
    whole ∙ ap (λ n. copied (take n s)) (sym on.used)

-- so it is accepted in whatever room it fits, and no place need be lent
pub unchanged_done : (f : Family) (s room : List ℕ) (places : ℕ) (r : Reading) → (judged f s places).answer ≡ Ok r → r.used ≤ length room → (places₂ : ℕ)
    → outcome f s room places₂ ≡ record { answer = mended_as r.used 0; room = laid (take r.used s) room; edits = [] }
unchanged_done f s room places r e fits places₂ =
    let ws = (judged f s places).words in
    let a = accepted f s places r ws (λ i. record { answer = e i; words = ws }) in
    let own = take r.used s in
    let size : length own ≡ r.used = length-take-le r.used s a.within in
    let ruled : Ruled f own r.wide r.crlf ws [] = record { lawful = a.lawful; bytes = sym (append-nil _ ∙ a.bytes); apart = λ _. refl } in
    let reads = ap (λ (j : Judgement). j.answer) (ruled_read f own 32 r.wide r.crlf ws [] ruled a.lawful.most) in
    ap (λ (m : Mending). outcome_by (judged f m.bytes 32).answer m room places₂) (unchanged f s places r e)
    ∙ fits_done _ (copied own) room places₂ _ reads (omega arith) (omega arith) ∙ rw size
