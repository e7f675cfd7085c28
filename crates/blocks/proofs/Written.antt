-- Each list that the writer takes reads back to that list.
use Prim.Native.Nat.{ℕ, zero, suc, ◌+◌, ◌≤◌, ◌<◌}
use mathlib.Core.Path.{◌≡◌, refl, sym, ap, ◌∙◌}
use mathlib.Core.Bool.{Bool, true, false, cond, ◌||◌, false≢true, and-eq-true_iff}
use mathlib.Core.List.{List, [], ◌∷◌, ◌++◌, append_assoc, append-nil}
use native.Mathlib.Omega.{arith}
use borrow.Author.Tests.{eqb-false, eq-eqb, ne_eqb, lt-ltb, le-ltb, lt-leb, ltb-false}
use lib.Dec.{eqb, ltb}
use lib.ListN.{length, get_or, take, drop, length-append}
use lib.Seq.{drop_at, take_at}
use Rattle.std.specs.Prelude.{Ok, Err}
use Rattle.figures.specs.Bytes.{laid}
use Rattle.figures.specs.Decimal.{is_digit}
use Rattle.figures.proofs.Bytes.{laid_fits}
use Rattle.words.specs.Records.{is_right}
use Rattle.words.specs.Reading.{word_size, word_of, right_word, judged_in, word_in}
use Rattle.words.specs.Writing.{bytes_of}
use Rattle.units.specs.declared.kinds.Family.{Family}
use Rattle.words.specs.declared.records.Word.{Word}
use Rattle.words.proofs.RoundTrip.{write_read, bytes_length, first_written}
use Rattle.blocks.specs.Judging.{is_at, is_wide, first_at, block_from, judged}
use Rattle.blocks.specs.Composing.{words_bytes, block_bytes, unless_wrong, Written·room, refused_room, block_in_room, written}
use Rattle.figures.specs.Text.{end_bytes, star_bytes}
use Rattle.figures.proofs.Decimal.{digit_not}
use Rattle.blocks.specs.declared.answers.Refusal.{Refusal}
use Rattle.blocks.specs.declared.answers.Refusal.TheVariants.{Count, Record, Room}
use Rattle.blocks.specs.Rules.{right_all, Lawful, read_as, reading_of}
use Rattle.blocks.proofs.Rooms.{wrong_by, star_length}

at_first : (b : ℕ) (rest : List ℕ) → is_at b (b ∷ rest) ≡ true
at_first b rest = rw (lt-ltb 0 (suc (length rest)) (omega arith)) (eq-eqb b b refl)

pub end_at : (crlf : Bool) (rest : List ℕ) → is_at 13 (end_bytes crlf ++ rest) ≡ true
end_at true rest = at_first 13 (10 ∷ rest)
end_at false rest = at_first 13 rest

-- what begins with a digit is not empty, and begins with neither CR nor `*`

digit_some : (s : List ℕ) → is_digit (get_or s 0 0) ≡ true → 0 < length s
digit_some [] e = absurd (false≢true e)
digit_some (x ∷ s) e = omega arith

no_end : (s : List ℕ) → is_digit (get_or s 0 0) ≡ true → is_at 13 s ≡ false
no_end s e = rw (lt-ltb 0 (length s) (digit_some s e), digit_not (get_or s 0 0) 13 e (omega arith))

-- a step of the walk through a block, at a word
goes : (f : Family) (more : ℕ) (wide : Bool) (places at : ℕ) (s rest : List ℕ) (done : List Word) (w : Word) → is_at 13 s ≡ false
    → word_size wide ≤ length s → length done < places → word_of f wide s ≡ right_word w → drop (word_size wide) s ≡ rest
    → block_from f (suc more) wide places at s done ≡ block_from f more wide places (at + word_size wide) rest (done ++ (w ∷ []))
unfolding block_from
goes f more wide places at s rest done w first long free e d =
    let answer = ap judged_in e in
    let word = ap word_in e in
    rw (first, le-ltb (length s) (word_size wide) long, lt-leb places (length done) free, answer, word, d)

-- and at the end
ends : (f : Family) (more : ℕ) (wide crlf : Bool) (places at : ℕ) (rest : List ℕ) (done : List Word) → (crlf ≡ false → is_at 10 rest ≡ false)
    → block_from f more wide places at (end_bytes crlf ++ rest) done
    ≡ read_as (record { wide = wide; crlf = crlf; words = length done; used = at + length (end_bytes crlf) }) done
unfolding block_from
ends f zero wide true places at rest done h = rw (at_first 13 (10 ∷ rest), at_first 10 rest)
ends f (suc more) wide true places at rest done h = rw (at_first 13 (10 ∷ rest), at_first 10 rest)
ends f zero wide false places at rest done h = rw (at_first 13 rest, h refl)
ends f (suc more) wide false places at rest done h = rw (at_first 13 rest, h refl)

-- the walk through the bytes of the words that are still to come
from_written : (f : Family) (more : ℕ) (wide crlf : Bool) (places at : ℕ) (rest : List ℕ) (done ws : List Word) → length ws ≤ more
    → length done + length ws ≤ places
    → right_all f wide ws ≡ true → (crlf ≡ false → is_at 10 rest ≡ false)
    → block_from f more wide places at (words_bytes f wide ws ++ (end_bytes crlf ++ rest)) done
    ≡ read_as (record { wide = wide; crlf = crlf; words = length (done ++ ws); used = at + length (words_bytes f wide ws ++ end_bytes crlf) }) (done ++ ws)
unfolding right_all words_bytes
from_written f more wide crlf places at rest done [] most placed right h = rw append-nil (ends f more wide crlf places at rest done h)
from_written f zero wide crlf places at rest done (w ∷ ws) most placed right h = absurd (omega arith)
from_written f (suc more) wide crlf places at rest done (w ∷ ws) most placed right h =
    let k = word_size wide in
    let parts = (and-eq-true_iff (is_right f wide w) (right_all f wide ws)).0 right in
    let size = bytes_length f wide w parts.0 in
    let word = bytes_of f wide w in
    let words = words_bytes f wide ws in
    let end = end_bytes crlf in
    let tail = words ++ (end ++ rest) in
    let is : (word ++ words) ++ (end ++ rest) ≡ word ++ tail = append_assoc word words (end ++ rest) in
    let whole : at + k + length (words ++ end) ≡ at + length ((word ++ words) ++ end) =
    omega (arith, length-append (word ++ words) end, length-append word words, length-append words end) in
    let list : (done ++ (w ∷ [])) ++ ws ≡ done ++ (w ∷ ws) = append_assoc done (w ∷ []) ws in
    ap (λ s. block_from f (suc more) wide places at s done) is
    ∙ goes f more wide places at (word ++ tail) tail done w (no_end (word ++ tail) (first_written f wide w tail parts.0))
    (omega (arith, length-append word tail)) (omega arith) (write_read f wide w tail parts.0) (drop_at word tail k size)
    ∙ from_written f more wide crlf places (at + k) rest (done ++ (w ∷ [])) ws (omega arith) (omega (arith, length-append done (w ∷ []))) parts.1 h
    ∙ rw (whole, list)

words_digit : (f : Family) (wide : Bool) (ws : List Word) (rest : List ℕ) → Lawful f wide ws → is_digit (get_or (words_bytes f wide ws ++ rest) 0 0) ≡ true
unfolding words_bytes right_all
words_digit f wide [] rest l = absurd (omega arith)
words_digit f wide (w ∷ ws) rest l =
    rw (append_assoc (bytes_of f wide w) (words_bytes f wide ws) rest)
    (first_written f wide w (words_bytes f wide ws ++ rest) ((and-eq-true_iff (is_right f wide w) (right_all f wide ws)).0 l.right).0)

star_wide : (wide : Bool) (t : List ℕ) → is_digit (get_or t 0 0) ≡ true → is_wide (star_bytes wide ++ t) ≡ wide
star_wide true t e = refl
star_wide false t e = digit_not (get_or t 0 0) 42 e (omega arith)

-- past `*`, where the words begin
opens : (f : Family) (wide : Bool) (t : List ℕ) (places : ℕ) → is_digit (get_or t 0 0) ≡ true
    → judged f (star_bytes wide ++ t) places ≡ block_from f 32 wide places (first_at wide) t []
opens f wide t places e =
    let s = star_bytes wide ++ t in
    let some : eqb (length s) 0 ≡ false = ne_eqb (length s) 0 (λ q. omega (arith, length-append (star_bytes wide) t, digit_some t e)) in
    let from : drop (first_at wide) s ≡ t = drop_at (star_bytes wide) t (first_at wide) (star_length wide) in
    rw (some, star_wide wide t e, from, no_end t e)

-- a block reads back to its records, whatever comes after it; but an LF after a lone CR would be the block's own
pub block_read : (f : Family) (wide crlf : Bool) (ws : List Word) (rest : List ℕ) (places : ℕ) → Lawful f wide ws → length ws ≤ places
    → (crlf ≡ false → is_at 10 rest ≡ false)
    → judged f (block_bytes f wide crlf ws ++ rest) places ≡ read_as (reading_of f wide crlf ws) ws
block_read f wide crlf ws rest places l placed h =
    let t = words_bytes f wide ws ++ (end_bytes crlf ++ rest) in
    let is : block_bytes f wide crlf ws ++ rest ≡ star_bytes wide ++ t = simp append_assoc in
    let used : first_at wide + length (words_bytes f wide ws ++ end_bytes crlf) ≡ length (block_bytes f wide crlf ws) =
    omega (arith, star_length wide, length-append (star_bytes wide) (words_bytes f wide ws ++ end_bytes crlf)) in
    ap (λ s. judged f s places) is
    ∙ opens f wide t places (words_digit f wide ws (end_bytes crlf ++ rest) l)
    ∙ from_written f 32 wide crlf places (first_at wide) rest [] ws l.most (omega arith) l.right h
    ∙ rw used

-- what the writer takes

abbrev written_as : ℕ → List ℕ → Written·room
written_as n room = record { answer = Ok n; room = room }

not_written : (f : Refusal) (n : ℕ) (room room' : List ℕ) → refused_room room f ≡ written_as n room' → ⊥
not_written f n room room' e =
    let q : Err f ≡ Ok n = ap (λ (v : Written·room). v.answer) e in
    let z : ◌≡◌ {A = ℕ} 0 1 = cc in
    omega arith

take_written : (b : Bool) (f : Refusal) (n : ℕ) (v : Written·room) (room room' : List ℕ)
    → cond b (refused_room room f) v ≡ written_as n room' → (b ≡ false) × (v ≡ written_as n room')
take_written true f n v room room' e = absurd (not_written f n room room' e)
take_written false f n v room room' e = (refl, e)

unless_right : (f : Family) {A : Type 0} (wide : Bool) (i : ℕ) (ws : List Word) (wrong : ℕ → A) (next : A) → right_all f wide ws ≡ true
    → unless_wrong f wide i ws wrong next ≡ next
unfolding unless_wrong right_all
unless_right f wide i [] wrong next e = refl
unless_right f wide i (w ∷ ws) wrong next e =
    let parts = (and-eq-true_iff (is_right f wide w) (right_all f wide ws)).0 e in
    rw parts.0 (unless_right f wide (i + 1) ws wrong next parts.1)

-- what it says of a list that it is written
pub record Taken (f : Family) (ws : List Word) (wide crlf : Bool) (room : List ℕ) (n : ℕ) (room' : List ℕ) : Type 0 where
  pub lawful : Lawful f wide ws
  pub size : n ≡ length (block_bytes f wide crlf ws)
  pub fits : length (block_bytes f wide crlf ws) ≤ length room
  pub laid_down : room' ≡ laid (block_bytes f wide crlf ws) room

pub neither : (a b : Bool) → a || b ≡ false → (a ≡ false) × (b ≡ false)
neither true b e = absurd (false≢true (sym e))
neither false b e = (refl, e)

pub written_lawful : (f : Family) (ws : List Word) (wide crlf : Bool) (room : List ℕ) (n : ℕ) (room' : List ℕ) → written f ws wide crlf room ≡ written_as n room'
    → Taken f ws wide crlf room n room'
written_lawful f ws wide crlf room n room' e =
    let bytes = block_bytes f wide crlf ws in
    let v : Written·room = written_as n room' in
    let count = take_written (eqb (length ws) 0 || ltb 32 (length ws)) Count n _ room room' e in
    let right =
    wrong_by (λ (x : Written·room). x ≡ v → (right_all f wide ws ≡ true) × (block_in_room bytes room ≡ v)) f wide 0 ws (λ i. refused_room room (Record i))
    (block_in_room bytes room) (λ i _ e. absurd (not_written (Record i) n room room' e)) (λ right e. (right, e)) count.1 in
    let fits = take_written (ltb (length room) (length bytes)) (Room (length bytes)) n _ room room' right.1 in
    let (some, most) = neither (eqb (length ws) 0) (ltb 32 (length ws)) count.0 in
    let size : Ok (length bytes) ≡ Ok n = ap (λ (x : Written·room). x.answer) fits.1 in
    record {
      lawful = record { some = omega (arith, eqb-false (length ws) 0 some); most = ltb-false 32 (length ws) most; right = right.0 };
      size = cc;
      fits = ltb-false (length room) (length bytes) fits.0;
      laid_down = sym (ap (λ (x : Written·room). x.room) fits.1);
    }

-- a list that a block can hold is written where there is room for it
pub lawful_written : (f : Family) (ws : List Word) (wide crlf : Bool) (room : List ℕ) → Lawful f wide ws → length (block_bytes f wide crlf ws) ≤ length room
    → written f ws wide crlf room ≡ written_as (length (block_bytes f wide crlf ws)) (laid (block_bytes f wide crlf ws) room)
lawful_written f ws wide crlf room l fits =
    rw (ne_eqb (length ws) 0 (λ e. omega arith), le-ltb 32 (length ws) l.most)
    (unless_right f wide 0 ws (λ i. refused_room room (Record i)) (block_in_room (block_bytes f wide crlf ws) room) l.right
    ∙ rw (le-ltb (length room) (length (block_bytes f wide crlf ws)) fits))

pub written_read : (f : Family) (ws : List Word) (wide crlf : Bool) (room : List ℕ) (n : ℕ) (room' : List ℕ) (places : ℕ)
    → written f ws wide crlf room ≡ written_as n room' → length ws ≤ places
    → judged f (take n room') places ≡ read_as (record { wide = wide; crlf = crlf; words = length ws; used = n }) ws
written_read f ws wide crlf room n room' places e placed =
    let bytes = block_bytes f wide crlf ws in
    let t = written_lawful f ws wide crlf room n room' e in
    let is : take n room' ≡ bytes ++ [] =
    ap (take n) (t.laid_down ∙ laid_fits bytes room t.fits) ∙ take_at bytes (drop (length bytes) room) n (sym t.size) ∙ sym (append-nil bytes) in
    ap (λ s. judged f s places) is ∙ block_read f wide crlf ws [] places t.lawful placed (λ h. refl) ∙ rw t.size
