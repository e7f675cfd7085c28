-- What acceptance says of a SET, a PUT and an UNDO, and so of what a line does; and what a call comes to: the state as it was, or that done.
use Prim.Native.Nat.{ℕ, ◌<◌}
use mathlib.Core.Path.{◌≡◌, refl, ap}
use mathlib.Core.Bool.{Bool, true, false, cond}
use mathlib.Core.List.{List, []}
use native.Mathlib.Omega.{arith}
use borrow.Author.Tests.{eqb-false, leb-false}
use lib.Dec.{eqb, leb}
use lib.ListN.{length, drop, length-drop}
use Rattle.figures.proofs.Tests.{clash}
use Rattle.units.specs.Kinds.{index_of}
use Rattle.words.specs.Reading.{Judged, pos}
use Rattle.instrument.specs.Settings.{row_at, setting_place, is_asked, in_range, settings_n}
use Rattle.instrument.specs.Values.{put_judged, is_right_word, put_right}
use Rattle.state.specs.Entries.{entries_n}
use Rattle.state.specs.declared.entries.State.{State}
use Rattle.instrument.proofs.Kept.{put_kept_right}
use Rattle.commands.specs.Shapes.{is_ended, text_of, order_of}
use Rattle.lines.specs.Verdicts.{is_accepted, set_by, set_verdict, full_verdict, place_named, word_verdict, put_by, put_verdict, undo_verdict}
use Rattle.lines.specs.Verdicts.{order_verdict, line_verdict}
use Rattle.lines.specs.Orders.{set_to, changes, change_at, set_deed, put_deed, deed_of, line_deed, done_of}
use Rattle.lines.specs.Replies.{reply_of}
use Rattle.lines.specs.Machine.{Outcome, outcome, step}
use Rattle.commands.specs.declared.shapes.Order.{Order}
use Rattle.commands.specs.declared.shapes.Order.TheVariants as order
use Rattle.commands.specs.declared.shapes.NoOrder.{NoOrder}
use Rattle.lines.specs.Verdicts.{Verdict}
use Rattle.lines.specs.Verdicts.{accepted}
use Rattle.lines.specs.declared.verdicts.Refused.TheVariants.{Unended, Long, ReadOnly, Parameter, Full, NoEntry, Room}
use Rattle.commands.proofs.Shape.{order_put}
use Rattle.lines.proofs.Sorts.{accepted_is}
use Rattle.lines.proofs.Deeds.{May}
use Rattle.lines.proofs.Lookups.{setting_in, value_found, named}
use Rattle.std.specs.Prelude.{Result, Ok, Err, Option, Some, None}

-- SET

full_free : (count : ℕ) (b : Bool) → leb entries_n count ≡ b → cond b (Err Full) accepted ≡ accepted → count < entries_n
full_free count true p e = absurd (clash (cc))
full_free count false p e = leb-false entries_n count p

pub set_may : (s : State) (n p : ℕ) → set_verdict s n p ≡ accepted → May s (set_deed s.series n p)
set_may s n p e = go (setting_place s.series n) refl e
  where
    low : (i : ℕ) (a b : Bool) → i < settings_n s.series → is_asked (row_at s.series i) ≡ a → in_range (row_at s.series i) p ≡ b
        → cond a (Err ReadOnly) (cond b (full_verdict s.count) (Err Parameter)) ≡ accepted → May s (changes (set_to i p))
    low i true b l g h e = absurd (clash (cc))
    low i false false l g h e = absurd (clash (cc))
    low i false true l g h e = (full_free s.count (leb entries_n s.count) refl e, (l, g, h))

    go : (f : Option ℕ) → setting_place s.series n ≡ f → set_by s p f ≡ accepted → May s (change_at (λ i. set_to i p) f)
    go None f e = tt
    go (Some i) f e = low i (is_asked (row_at s.series i)) (in_range (row_at s.series i) p) (setting_in s.series n i f) refl refl e

-- PUT

pub record PutRuns (s : State) (word : List ℕ) : Type 0 where
  pub at : ℕ
  pub found : place_named (pos 1 word) (pos 2 word) ≡ Some at
  pub right : put_right at word ≡ true
  pub free : s.count < entries_n

pub put_runs : (s : State) (word : List ℕ) → put_verdict s.count word ≡ accepted → PutRuns s word
put_runs s word e = go (place_named (pos 1 word) (pos 2 word)) refl e
  where
    right : (i : ℕ) → place_named (pos 1 word) (pos 2 word) ≡ Some i → (j : Judged) → put_judged i word ≡ j → word_verdict s.count j ≡ accepted → PutRuns s word
    right i f (Err wrong) h e = absurd (clash (cc))
    right i f (Ok u) h e = record { at = i; found = f; right = ap is_right_word h; free = full_free s.count (leb entries_n s.count) refl e }

    go : (f : Option ℕ) → place_named (pos 1 word) (pos 2 word) ≡ f → put_by s.count word f ≡ accepted → PutRuns s word
    go None f e = absurd (clash (cc))
    go (Some i) f e = right i f (put_judged i word) refl e

put_may : (s : State) (word : List ℕ) → length word ≡ 16 → put_verdict s.count word ≡ accepted → May s (put_deed word)
put_may s word long e =
    let r = put_runs s word e in
    let digits = named (pos 1 word) (pos 2 word) r.at r.found in
    let at = value_found (index_of (pos 1 word) (pos 2 word)) r.at digits.2 in
    rw r.found (r.free, (at.0, refl, put_kept_right r.at word long at.1 digits.0 digits.1 r.right))

-- UNDO

pub undo_some : (n : ℕ) → undo_verdict n ≡ accepted → n ≡ 0 → ⊥
undo_some n e = judge (eqb n 0) refl e
  where
    judge : (b : Bool) → eqb n 0 ≡ b → cond b (Err NoEntry) accepted ≡ accepted → n ≡ 0 → ⊥
    judge true p e z = clash (cc)
    judge false p e z = eqb-false n 0 p z

-- by the line's order
may : (s : State) (t : List ℕ) (o : Result Order NoOrder) → order_of t ≡ o → order_verdict s t o ≡ accepted → May s (deed_of s.series t o)
may s t (Err none) e v = tt
may s t (Ok (order.Set n p)) e v = set_may s n p v
may s t (Ok (order.Conf n)) e v = tt
may s t (Ok order.Put) e v = put_may s (drop 4 t) (omega (arith, length-drop 4 t, order_put t e)) v
may s t (Ok order.Get) e v = tt
may s t (Ok order.Undo) e v = undo_some s.count v
may s t (Ok order.Keep) e v = tt

-- a call

pub data Comes (s : State) (line : List ℕ) (o : Outcome) : Type 0 where
  stays : is_accepted o.verdict ≡ false → o.next ≡ s → Comes s line o
  runs : is_accepted o.verdict ≡ true → May s (line_deed s.series line) → o.next ≡ done_of s (line_deed s.series line) → Comes s line o

pub may_run : (ended short : Bool) (v : Verdict) → cond ended (cond short v (Err Long)) (Err Unended) ≡ accepted → (short ≡ true) × (v ≡ accepted)
may_run false short v e = absurd (clash (cc))
may_run true false v e = absurd (clash (cc))
may_run true true v e = (refl, e)

comes_by : (s : State) (line : List ℕ) (fits : Bool) (v : Verdict) (reply : List ℕ) (b : Bool) → is_accepted v ≡ b
    → (v ≡ accepted → May s (line_deed s.series line))
    → Comes s line (cond fits (outcome v reply (cond b (done_of s (line_deed s.series line)) s)) (outcome (Err Room) [] s))
comes_by s line false v reply b e f = stays refl refl
comes_by s line true v reply false e f = stays e refl
comes_by s line true v reply true e f = runs e (f (accepted_is v e)) refl

pub comes : (s : State) (line : List ℕ) (room : ℕ) → Comes s line (step s line room)
comes s line room =
    let t = text_of line in
    let v = line_verdict s line in
    let reply = reply_of s t (order_of t) v in
    comes_by s line (leb (length reply) room) v reply (is_accepted v) refl
    (λ e. may s t (order_of t) refl (may_run (is_ended line) (leb (length t) 100) (order_verdict s t (order_of t)) e).1)
