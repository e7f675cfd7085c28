-- The report of any piece fits 5,280 bytes: 160 for its first line, and 160 for each of at most 32 words; of a refused piece its first line, at most
-- 770 bytes of its text with LF, and at most 769 blanks with the caret and LF.
use Prim.Native.Nat.{ℕ, suc, ◌*◌, ◌≤◌}
use mathlib.Core.Path.{◌≡◌, refl, subst}
use mathlib.Core.Bool.{Bool, true, false, ◌&&◌, and-eq-true_iff}
use mathlib.Core.List.{List, [], ◌∷◌, ◌++◌}
use native.Mathlib.Omega.{arith}
use borrow.Author.Tests.{eqb-true}
use lib.Dec.{eqb}
use lib.ListN.{length, take, drop, length-append, length-map, length-take, length-replicate}
use lib.Seq.{take_at}
use Rattle.figures.proofs.Bytes.{laid_fits}
use Rattle.figures.specs.Decimal.{digits_nBy, digits_n}
use Rattle.figures.proofs.Decimal.{digits_length}
use Rattle.figures.specs.Text.{codes}
use Rattle.units.specs.Information.{index_bytes, info_bytes}
use Rattle.units.specs.declared.kinds.Family.{Family}
use Rattle.words.specs.Records.{is_right, width}
use Rattle.words.specs.declared.records.Word.{Word}
use Rattle.blocks.specs.Answers.{refusal_number, refusal_tells}
use Rattle.blocks.specs.Judging.{Answer, judged}
use Rattle.blocks.specs.Rules.{right_all}
use Rattle.blocks.specs.declared.answers.Refusal.{Refusal}
use Rattle.blocks.specs.declared.answers.Reading.{Reading}
use Rattle.std.specs.Prelude.{Ok, Err}
use Rattle.blocks.proofs.Accepted.{accepted}
use Rattle.blocks.proofs.Counts.{judged_by}
use Rattle.measures.proofs.Fits.{value_short, index_short}
use Rattle.reports.specs.Piece.{word_text, words_text, head_text, end_text, reading_text, refusal_text, where_text, answer_text, report_of, Reports}
use Rattle.reports.specs.declared.piece.Reported.{Reported}
use Rattle.figures.proofs.Places.{digits_most}

word_short : (f : Family) (k : ℕ) (wide : Bool) (w : Word) → length w.info ≡ 4 → length (word_text f k wide w) ≤ 160
word_short f k wide w h =
    let index = length-append (index_bytes w.index) (codes " info=" ++ info_bytes w.index w.info) in
    simp (length-append, digits_length) (omega (arith, digits_most k, index, index_short w.index w.info h, value_short f wide w))

info_four : (f : Family) (wide : Bool) (w : Word) → is_right f wide w ≡ true → length w.info ≡ 4
info_four f wide w e =
    let sizes = ((and-eq-true_iff (eqb (length w.info) 4 && eqb (length w.text) 16) _).0 e).0 in
    eqb-true (length w.info) 4 ((and-eq-true_iff (eqb (length w.info) 4) (eqb (length w.text) 16)).0 sizes).0

words_short : (f : Family) (k : ℕ) (wide : Bool) (ws : List Word) → right_all f wide ws ≡ true → length (words_text f k wide ws) ≤ length ws * 160
unfolding words_text right_all
words_short f k wide [] e = omega arith
words_short f k wide (w ∷ ws) e =
    let both = (and-eq-true_iff (is_right f wide w) (right_all f wide ws)).0 e in
    let first = word_short f k wide w (info_four f wide w both.0) in
    omega (arith, length-append (word_text f k wide w) (words_text f (suc k) wide ws), first, words_short f (suc k) wide ws both.1)

head_short : (number at : ℕ) → length (head_text number at) ≤ 50
head_short number at = simp (length-append, digits_length) (omega (arith, digits_most number, digits_most at))

pub refusal_short : (r : Refusal) → length (refusal_text r) ≤ 57
refusal_short r = simp (length-append, digits_length) (omega (arith, digits_most (refusal_number r), digits_most (refusal_tells r)))

where_short : (piece : List ℕ) (place : ℕ) → place ≤ 769 → length (where_text piece place) ≤ 1542
where_short piece place h = simp (length-append, length-map, length-take, length-replicate) (omega arith)

width_short : (wide : Bool) → digits_n (width wide) ≤ 2
unfolding digits_nBy
width_short true = omega arith
width_short false = omega arith

end_short : (crlf : Bool) → length (end_text crlf) ≤ 9
end_short true = omega arith
end_short false = omega arith

reading_short : (r : Reading) → length (reading_text r) ≤ 73
reading_short r =
    simp (length-append, digits_length) (omega (arith, width_short r.wide, end_short r.crlf, digits_most r.words, digits_most r.used))

-- no place that is told is further on
abbrev Near : Answer → Type 0
Near (Err r) = refusal_tells r ≤ 769
Near (Ok r) = Unit {0}

pub told_near : (f : Family) (s : List ℕ) (r : Refusal) → (judged f s 32).answer ≡ Err r → refusal_tells r ≤ 769
told_near f s r e = subst Near e (judged_by f 32 (λ j. Near j.answer) (λ r h. h) (λ wide at rest ws h few. tt) s)

answer_short : (f : Family) (s : List ℕ) (a : Answer) → (judged f s 32).answer ≡ a → length (answer_text f s a (judged f s 32).words) ≤ 5193
answer_short f s (Err r) e =
    let place = refusal_tells r in
    omega (arith, length-append (refusal_text r) (where_text s place), refusal_short r, where_short s place (told_near f s r e))
answer_short f s (Ok r) e =
    let ws = (judged f s 32).words in
    let lawful = (accepted f s 32 r ws (λ i. record { answer = e i; words = ws })).lawful in
    omega (arith, length-append (reading_text r) (words_text f 1 r.wide ws), reading_short r, words_short f 1 r.wide ws lawful.right, lawful.most)

pub report_fits : (f : Family) (number at : ℕ) (piece : List ℕ) → length (report_of f number at piece) ≤ 5280
report_fits f number at piece =
    let text = answer_text f piece (judged f piece 32).answer (judged f piece 32).words in
    omega (arith, length-append (head_text number at) text, head_short number at, answer_short f piece (judged f piece 32).answer refl)

-- so in that much room it stands whole
pub report_whole : (f : Family) (number at : ℕ) (piece room : List ℕ) (r : Reported) (room' : List ℕ) → 5280 ≤ length room
    → Reports f number at piece room r room'
    → take r.count room' ≡ report_of f number at piece
report_whole f number at piece room r room' h p =
    let text = report_of f number at piece in
    let short = report_fits f number at piece in
    let all : length text ≡ r.count = omega (arith, p.0.0) in
    rw (p.0.1, laid_fits text room (omega arith)) (take_at text (drop (length text) room) r.count all)
