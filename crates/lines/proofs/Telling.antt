-- What a line's verdict tells beside its number: "26 also tells which of 6 to 10 it was, with the byte in the line" (request 104), and no other tells either.
use Prim.Native.Nat.{ℕ, ◌+◌, ◌<◌, ◌≤◌}
use mathlib.Core.Path.{◌≡◌, refl, sym, ◌∙◌}
use mathlib.Core.Bool.{Bool, true, false, cond, not, ◌&&◌, false≢true}
use mathlib.Core.List.{List, [], ◌∷◌}
use native.Mathlib.Omega.{arith}
use borrow.Author.Tests.{eqb-true, eq-eqb, ne_eqb, not-true}
use lib.Dec.{eqb, leb}
use lib.ListN.{length, drop, length-drop}
use Rattle.figures.specs.Bytes.{within}
use Rattle.figures.proofs.Bytes.{within_bounds, bounds_within}
use Rattle.figures.proofs.Tests.{both, by_test}
use Rattle.units.specs.Kinds.{index_of}
use Rattle.words.specs.Reading.{Judged, fault_number, pos}
use Rattle.instrument.specs.Settings.{row_at, setting_place, is_asked, in_range}
use Rattle.instrument.specs.Values.{Kept, value_place, put_judged, is_put}
use Rattle.instrument.proofs.Which.{put_which, put_within}
use Rattle.state.specs.Entries.{entries_n, value_held}
use Rattle.state.specs.Image.{state_in, is_image}
use Rattle.state.specs.declared.entries.State.{State}
use Rattle.state.proofs.Images.{image_of_lem}
use Rattle.commands.specs.Shapes.{is_ended, text_of, indexes_of, order_of}
use Rattle.lines.specs.Verdicts.{verdict_number, verdict_which, verdict_byte, full_verdict, set_by, conf_by, place_named}
use Rattle.lines.specs.Verdicts.{word_verdict, put_by, put_verdict, get_by, get_verdict, order_verdict, line_verdict}
use Rattle.lines.specs.Machine.{outcome, run, step, told, played, call}
use Rattle.commands.specs.declared.shapes.Order.{Order}
use Rattle.commands.specs.declared.shapes.NoOrder.{NoOrder}
use Rattle.lines.specs.Verdicts.{Verdict}
use Rattle.lines.specs.Verdicts.{accepted}
use Rattle.lines.specs.declared.verdicts.Refused.TheVariants.{Unended, Long, ReadOnly, Parameter}
use Rattle.lines.specs.declared.verdicts.Refused.TheVariants.{NeverPut, Full, NoEntry, Room, NoState}
use Rattle.commands.proofs.Shape.{order_by}
use Rattle.lines.proofs.Leaves.{called_if}
use Rattle.lines.proofs.Lookups.{value_found, named}
use Rattle.lines.proofs.Replying.{laid_none}
use Rattle.std.specs.Prelude.{Result, Ok, Err, Option, Some, None}

-- a fault of 6 to 10 at a byte of the word after `PUT/`, or neither
abbrev pub tells : Verdict → Bool
tells v =
    cond (eqb (verdict_number v) 26) (within 6 10 (verdict_which v) && within 4 19 (verdict_byte v)) (eqb (verdict_which v) 0 && eqb (verdict_byte v) 0)

-- 30 and 31, which have no reply
abbrev pub unanswered : Verdict → Bool
unanswered v = within 30 31 (verdict_number v)

-- what every line's verdict is before the room is looked at: neither of these, and what it tells is right
abbrev Tells : Verdict → Type 0
Tells v = tells v && not (unanswered v) ≡ true

cond_tells : (b : Bool) (v w : Verdict) → Tells v → Tells w → Tells (cond b v w)
cond_tells true v w p q = p
cond_tells false v w p q = q

full_tells : (count : ℕ) → Tells (full_verdict count)
full_tells count = cond_tells (leb entries_n count) (Err Full) accepted refl refl

set_tells : (s : State) (p : ℕ) (f : Option ℕ) → Tells (set_by s p f)
set_tells s p None = refl
set_tells s p (Some i) =
    let row = row_at s.series i in
    cond_tells (is_asked row) (Err ReadOnly) _ refl (cond_tells (in_range row p) (full_verdict s.count) (Err Parameter) (full_tells s.count) refl)

conf_tells : (f : Option ℕ) → Tells (conf_by f)
conf_tells None = refl
conf_tells (Some i) = refl

-- a word of 16 bytes that names a stored value
put_tells : (count : ℕ) (word : List ℕ) → length word ≡ 16 → Tells (put_verdict count word)
put_tells count word long = go (place_named (pos 1 word) (pos 2 word)) refl
  where
    by : (i : ℕ) (j : Judged) → place_named (pos 1 word) (pos 2 word) ≡ Some i → put_judged i word ≡ j → Tells (word_verdict count j)
    by i (Ok u) f e = full_tells count
    by i (Err w) f e =
        let digits = named (pos 1 word) (pos 2 word) i f in
        let found = value_found (index_of (pos 1 word) (pos 2 word)) i digits.2 in
        let which = put_which i word w.fault w.at found.0 (omega arith) found.1 (rw (digits.0, digits.1)) e in
        rw (bounds_within 6 10 (fault_number w.fault) which.0 which.1, bounds_within 4 19 (4 + w.at) (omega arith) (omega (arith, put_within i word w.fault w.at e)))

    go : (f : Option ℕ) → place_named (pos 1 word) (pos 2 word) ≡ f → Tells (put_by count word f)
    go None e = refl
    go (Some i) e = by i (put_judged i word) e refl

get_tells : (values : List Kept) (indexes : List ℕ) → Tells (get_verdict values indexes)
get_tells values [] = refl
get_tells values (n ∷ ns) = by (value_place n) (get_tells values ns)
  where
    by : (f : Option ℕ) → Tells (get_verdict values ns) → Tells (get_by values f (get_verdict values ns))
    by None later = refl
    by (Some i) later = cond_tells (is_put (value_held values i)) _ (Err NeverPut) later refl

line_told : (s : State) (line : List ℕ) → Tells (line_verdict s line)
line_told s line =
    let t = text_of line in
    let order : Tells (order_verdict s t (order_of t)) =
    order_by (λ (o : Result Order NoOrder). Tells (order_verdict s t o)) t refl refl
    (λ _ n p. set_tells s p (setting_place s.series n))
    (λ n. conf_tells (setting_place s.series n))
    (λ _ long. put_tells s.count (drop 4 t) (omega (arith, length-drop 4 t)))
    (λ _ _. get_tells s.values (indexes_of t))
    (λ _. cond_tells (eqb s.count 0) (Err NoEntry) accepted refl refl)
    (λ _. refl) in
    cond_tells (is_ended line) _ (Err Unended) (cond_tells (leb (length t) 100) _ (Err Long) order refl) refl

pub line_tells : (s : State) (line : List ℕ) → tells (line_verdict s line) ≡ true
line_tells s line = (both (tells (line_verdict s line)) (not (unanswered (line_verdict s line))) (line_told s line)).0

pub line_answered : (s : State) (line : List ℕ) → unanswered (line_verdict s line) ≡ false
line_answered s line =
    not-true (unanswered (line_verdict s line)) (both (tells (line_verdict s line)) (not (unanswered (line_verdict s line))) (line_told s line)).1

-- 30 and 31 tell neither
pub step_tells : (s : State) (line : List ℕ) (room : ℕ) → tells (step s line room).verdict ≡ true
step_tells s line room = by (leb (length (run s line).reply) room)
  where
    by : (b : Bool) → tells (cond b (run s line) (outcome (Err Room) [] s)).verdict ≡ true
    by true = line_tells s line
    by false = refl

pub call_tells : (image line room : List ℕ) → tells (call image line room).answer.verdict ≡ true
call_tells image line room = by (is_image image)
  where
    by : (b : Bool)
        → tells (cond b (played (step (state_in image) line (length room)) room) (record { answer = told (Err NoState) 0; image = image; room = room })).answer.verdict ≡ true
    by true = step_tells (state_in image) line (length room)
    by false = refl

-- so 26 tells one of 6 to 10, and a byte of the word
pub word_tells : (v : Verdict) → tells v ≡ true → verdict_number v ≡ 26
    → ((6 ≤ verdict_which v) × (verdict_which v ≤ 10)) × ((4 ≤ verdict_byte v) × (verdict_byte v < 20))
word_tells v t e =
    let parts = both (within 6 10 (verdict_which v)) (within 4 19 (verdict_byte v)) (rw (eq-eqb (verdict_number v) 26 e) at t) in
    let byte = within_bounds 4 19 (verdict_byte v) parts.1 in
    (within_bounds 6 10 (verdict_which v) parts.0, (byte.0, omega arith))

-- and every other nothing
pub other_tells : (v : Verdict) → tells v ≡ true → (verdict_number v ≡ 26 → ⊥) → (verdict_which v ≡ 0) × (verdict_byte v ≡ 0)
other_tells v t e =
    let parts = both (eqb (verdict_which v) 0) (eqb (verdict_byte v) 0) (rw (ne_eqb (verdict_number v) 26 e) at t) in
    (eqb-true (verdict_which v) 0 parts.0, eqb-true (verdict_byte v) 0 parts.1)

pub tells_small : (v : Verdict) → tells v ≡ true → (verdict_which v ≤ 10) × (verdict_byte v < 20)
tells_small v t =
    by_test (eqb (verdict_number v) 26)
    (λ q. let told = word_tells v t (eqb-true (verdict_number v) 26 q) in (told.0.1, told.1.1))
    (λ q. let told = other_tells v t (λ is. let z : true ≡ false = sym (eq-eqb (verdict_number v) 26 is) ∙ q in let y : ◌≡◌ {A = ℕ} 0 1 = cc in omega arith) in
    (omega arith, omega arith))

-- so of every call
pub call_word : (image line room : List ℕ) → let v = (call image line room).answer.verdict in verdict_number v ≡ 26
    → ((6 ≤ verdict_which v) × (verdict_which v ≤ 10)) × ((4 ≤ verdict_byte v) × (verdict_byte v < 20))
call_word image line room e = word_tells (call image line room).answer.verdict (call_tells image line room) e

pub call_other : (image line room : List ℕ) → let v = (call image line room).answer.verdict in (verdict_number v ≡ 26 → ⊥)
    → (verdict_which v ≡ 0) × (verdict_byte v ≡ 0)
call_other image line room e = other_tells (call image line room).answer.verdict (call_tells image line room) e

-- 30 and 31: "nothing written or changed"
pub call_unanswered : (image line room : List ℕ) → let c = call image line room in unanswered c.answer.verdict ≡ true
    → (c.answer.count ≡ 0) × ((c.image ≡ image) × (c.room ≡ room))
call_unanswered image line room none = by (is_image image) refl none
  where
    s : State
    s = state_in image

    fits : (is : is_image image ≡ true) (b : Bool) → let c = played (cond b (run s line) (outcome (Err Room) [] s)) room in unanswered c.answer.verdict ≡ true
        → (c.answer.count ≡ 0) × ((c.image ≡ image) × (c.room ≡ room))
    fits is true e = absurd (false≢true (sym (line_answered s line) ∙ e))
    fits is false e = (refl, (sym (image_of_lem image is).1, laid_none room))

    by : (is : Bool) → is_image image ≡ is → unanswered (called_if image line room is).answer.verdict ≡ true
        → ((called_if image line room is).answer.count ≡ 0) × (((called_if image line room is).image ≡ image) × ((called_if image line room is).room ≡ room))
    by true is e = fits is (leb (length (run s line).reply) (length room)) e
    by false is e = (refl, (refl, refl))
