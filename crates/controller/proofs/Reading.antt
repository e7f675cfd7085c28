-- What a controller reads in the reply to a GET: the records of its indexes, whatever the width.
use Prim.Native.Nat.{ℕ, zero, suc, ◌+◌, ◌≤◌}
use mathlib.Core.Path.{◌≡◌, refl, sym, ap, subst, ◌∙◌}
use mathlib.Core.Bool.{Bool, true, false, cond}
use mathlib.Core.List.{List, [], ◌∷◌, ◌++◌, flat_map, append_assoc}
use native.Mathlib.Nat.{add-zero, zero-add}
use native.Mathlib.Omega.{arith}
use borrow.Author.Tests.{leb-true}
use lib.Dec.{leb}
use lib.ListN.{length, drop, length-drop}
use lib.Seq.{get_or-set_same}
use Rattle.std.specs.Prelude.{Option, Some, None, Result, Ok}
use Rattle.figures.specs.Text.{codes, end_bytes, star_bytes}
use Rattle.figures.specs.Bytes.{every, starts_with}
use Rattle.figures.specs.Decimal.{is_digit, number_from}
use Rattle.figures.proofs.Tests.{both}
use Rattle.figures.proofs.Decimal.{digit_not}
use Rattle.units.specs.Kinds.{index_of}
use Rattle.words.specs.Reading.{pos, word_of, word_in}
use Rattle.units.specs.declared.kinds.Family.TheVariants.{Station}
use Rattle.blocks.specs.Judging.{Judgement, judged}
use Rattle.blocks.specs.Rules.{read_as, reading_of}
use Rattle.instrument.specs.Values.{Kept, is_put, kept_right, value_place, put_kept}
use Rattle.state.specs.Entries.{value_held, is_state, values_right}
use Rattle.state.specs.declared.entries.State.{State}
use Rattle.commands.specs.Shapes.{text_of, is_plain, is_ended, groups_right, groups_in, indexes_in, indexes_of, order_of}
use Rattle.lines.specs.Verdicts.{is_accepted, place_named, put_verdict, get_verdict, order_verdict, line_verdict}
use Rattle.lines.specs.Orders.{put_to, changed_by, change_at, deed_of, line_deed, done_of}
use Rattle.lines.specs.Replies.{ends_lf, answers_wide, word_at, get_words, reply_end, reply_of}
use Rattle.lines.specs.Machine.{Outcome, run}
use Rattle.lines.specs.Keeping.{reply_most}
use Rattle.commands.specs.declared.shapes.Order.{Order}
use Rattle.commands.specs.declared.shapes.NoOrder.{NoOrder}
use Rattle.commands.specs.declared.shapes.Order.TheVariants.{Put, Get}
use Rattle.lines.specs.Verdicts.{Verdict}
use Rattle.lines.specs.Verdicts.{accepted}
use Rattle.lines.proofs.Deeds.{state_right}
use Rattle.commands.proofs.Shape.{order_put, order_get, groups_length, indexes_many}
use Rattle.lines.proofs.Lookups.{value_found, named, place_in}
use Rattle.lines.proofs.Runs as runs
use Rattle.lines.proofs.Runs.{PutRuns, put_runs}
use Rattle.lines.proofs.States.{step_state}
use Rattle.lines.proofs.Longest.{fits_459}
use Rattle.lines.proofs.Replying.{names_put}
use Rattle.controller.specs.Given.{given}
use Rattle.controller.specs.Gotten.{record_at, gotten}
use Rattle.controller.proofs.Blocks.{Held, held_bytes, held_words, held_length, words_read}
use Rattle.controller.proofs.Put.{PutGiven, put_given}

-- a value that is held is one that its place may hold
values_at : (k : ℕ) (vs : List Kept) (i : ℕ) → values_right k vs ≡ true → kept_right (k + i) (value_held vs i) ≡ true
unfolding values_right
values_at k [] i e = refl
values_at k (v ∷ vs) zero e = rw add-zero (both (kept_right k v) (values_right (k + 1) vs) e).0
values_at k (v ∷ vs) (suc i) e =
    let q : k + suc i ≡ k + 1 + i = omega arith in
    rw q (values_at (k + 1) vs i (both (kept_right k v) (values_right (k + 1) vs) e).1)

-- what indexes get: their values, whose words are the reply's and whose records are those that are given
pub record Gets (wide : Bool) (values : List Kept) (indexes : List ℕ) : Type 0 where
  pub held : List Held
  pub many : length held ≡ length indexes
  pub bytes : get_words wide values indexes ≡ held_bytes wide held
  pub words : gotten wide values indexes ≡ held_words wide held

pub gets : (wide : Bool) (values : List Kept) → values_right 0 values ≡ true → (indexes : List ℕ) → get_verdict values indexes ≡ accepted
    → Gets wide values indexes
unfolding flat_map held_bytes held_words
gets wide values right [] e = record { held = []; many = refl; bytes = refl; words = refl }
gets wide values right (n ∷ ns) e =
    let r = names_put values (value_place n) (get_verdict values ns) e in
    let i = r.1.0 in
    let kept : kept_right i (value_held values i) ≡ true = rw zero-add at (values_at 0 values i right) in
    let h : Held = record { place = i; kept = (value_held values i); put = r.1.1.1; right = kept } in
    let rest = gets wide values right ns r.0 in
    record {
      held = h ∷ rest.held;
      many = ap suc rest.many;
      bytes = λ j. word_at wide values (r.1.1.0 j) ++ rest.bytes j;
      words = λ j. record_at wide values (r.1.1.0 j) ++ rest.words j;
    }

-- as many records as indexes
pub gotten_many : (wide : Bool) (values : List Kept) → values_right 0 values ≡ true → (indexes : List ℕ) → get_verdict values indexes ≡ accepted
    → length (gotten wide values indexes) ≡ length indexes
gotten_many wide values right indexes e = let h = gets wide values right indexes e in ap length h.words ∙ held_length wide h.held ∙ h.many

-- the indexes of a GET of at most a hundred characters: one to nineteen
get_few : (t : List ℕ) → order_of t ≡ Ok Get → length t ≤ 100 → (1 ≤ length (indexes_of t)) × (length (indexes_of t) ≤ 19)
get_few t e short =
    let g = drop 5 t in
    let says = order_get t e in
    let long = groups_length (groups_in g) g says.1 in
    let many = indexes_many (groups_in g) g in
    (omega (arith, long, many, says.2), omega (arith, long, many, length-drop 5 t))

-- the reply to an accepted GET
get_reply : (s : State) (line : List ℕ) → line_verdict s line ≡ accepted → order_of (text_of line) ≡ Ok Get
    → (run s line).reply ≡ star_bytes (answers_wide s) ++ (get_words (answers_wide s) s.values (indexes_of (text_of line)) ++ reply_end s)
get_reply s line v o =
    let t = text_of line in
    ap (reply_of s t (order_of t)) v
    ∙ ap (λ (x : Result Order NoOrder). reply_of s t x accepted) o
    ∙ append_assoc (star_bytes (answers_wide s)) (get_words (answers_wide s) s.values (indexes_of t)) (reply_end s)

pub reply_read : (s : State) → is_state s ≡ true → (line : List ℕ) → line_verdict s line ≡ accepted → order_of (text_of line) ≡ Ok Get → (places : ℕ)
    → length (indexes_of (text_of line)) ≤ places → let ws = gotten (answers_wide s) s.values (indexes_of (text_of line)) in
    judged Station (run s line).reply places ≡ read_as (reading_of Station (answers_wide s) (ends_lf s) ws) ws
reply_read s is line v o places placed =
    let t = text_of line in
    let ns = indexes_of t in
    let wide = answers_wide s in
    let j = runs.may_run (is_ended line) (leb (length t) 100) (order_verdict s t (order_of t)) v in
    let few = get_few t o (leb-true (length t) 100 j.0) in
    let judge : get_verdict s.values ns ≡ accepted = ap (order_verdict s t) (sym o) ∙ j.1 in
    let h = gets wide s.values (state_right s is).values_right_lem ns judge in
    let many = h.many in
    ap (λ r. judged Station r places) (get_reply s line v o ∙ ap (λ l. star_bytes wide ++ (l ++ reply_end s)) h.bytes)
    ∙ words_read wide (ends_lf s) h.held places (omega arith) (omega arith) (omega arith)
    ∙ ap (λ ws. read_as (reading_of Station wide (ends_lf s) ws) ws) (sym h.words)

-- one index, whose value stands as k
pub one_read : (s : State) → is_state s ≡ true → (line : List ℕ) → line_verdict s line ≡ accepted → order_of (text_of line) ≡ Ok Get
    → (n : ℕ) → indexes_of (text_of line) ≡ n ∷ [] → (place : ℕ) → value_place n ≡ Some place → (k : Kept) → (value_held s.values place) ≡ k
    → (places : ℕ) → 1 ≤ places → let ws = given (answers_wide s) place k ∷ [] in
    judged Station (run s line).reply places ≡ read_as (reading_of Station (answers_wide s) (ends_lf s) ws) ws
unfolding flat_map
one_read s is line v o n one place found k held places placed =
    let wide = answers_wide s in
    let words : gotten wide s.values (indexes_of (text_of line)) ≡ given wide place k ∷ [] = rw (one, found, held) in
    reply_read s is line v o places (omega (arith, ap length one)) ∙ ap (λ ws. read_as (reading_of Station wide (ends_lf s) ws) ws) words

-- the one record that is read is that of the word that was put
pub record PutRead (wide crlf : Bool) (b : List ℕ) (j : Judgement) : Type 0 where
  pub place : ℕ
  pub found : place_named (pos 1 b) (pos 2 b) ≡ Some place
  pub read : let ws = given wide place (put_kept b) ∷ [] in
      j ≡ read_as (reading_of Station wide crlf ws) ws
  pub same : PutGiven wide place b (word_in (word_of Station false b))

-- the GET of one index, by its two digits
abbrev pub ask_of : ℕ → ℕ → Bool → List ℕ
ask_of a b crlf = codes "GET/I/WI" ++ (a ∷ b ∷ end_bytes crlf)

ask_text : (a b : ℕ) (crlf : Bool) → text_of (ask_of a b crlf) ≡ codes "GET/I/WI" ++ (a ∷ b ∷ [])
ask_text a b true = refl
ask_text a b false = refl

ask_order : (a b : ℕ) → is_digit a ≡ true → is_digit b ≡ true → order_of (codes "GET/I/WI" ++ (a ∷ b ∷ [])) ≡ Ok Get
unfolding starts_with groups_right
ask_order a b p q = rw (p, q)

ask_index : (a b : ℕ) → indexes_of (codes "GET/I/WI" ++ (a ∷ b ∷ [])) ≡ index_of a b ∷ []
unfolding indexes_in number_from
ask_index a b = rw zero-add

ask_plain : (a b : ℕ) → is_digit a ≡ true → is_digit b ≡ true → is_plain (codes "GET/I/WI" ++ (a ∷ b ∷ [])) ≡ true
unfolding every
ask_plain a b p q =
    rw (digit_not a 13 p (omega arith), digit_not a 10 p (omega arith), digit_not b 13 q (omega arith), digit_not b 10 q (omega arith))

ask_ended : (a b : ℕ) (crlf : Bool) → is_digit a ≡ true → is_digit b ≡ true → is_ended (ask_of a b crlf) ≡ true
ask_ended a b true p q = ask_plain a b p q
ask_ended a b false p q = ask_plain a b p q

ask_accepted : (s : State) (a b : ℕ) (crlf : Bool) → is_digit a ≡ true → is_digit b ≡ true → (i : ℕ) → value_place (index_of a b) ≡ Some i
    → is_put (value_held s.values i) ≡ true → line_verdict s (ask_of a b crlf) ≡ accepted
ask_accepted s a b crlf p q i found is =
    let judge : order_verdict s (codes "GET/I/WI" ++ (a ∷ b ∷ [])) (Ok Get) ≡ accepted = rw (ask_index a b, found, is) in
    rw (ask_ended a b crlf p q, ask_text a b crlf, ask_order a b p q) judge

module _ (s : State) (is : is_state s ≡ true) (line : List ℕ) (v : line_verdict s line ≡ accepted) (o : order_of (text_of line) ≡ Ok Put) where
  abbrev t : List ℕ
  t = text_of line

  abbrev word : List ℕ
  word = drop 4 t

  abbrev next : State
  next = (run s line).next

  put_accepted : put_verdict s.count word ≡ accepted
  put_accepted =
      let j = runs.may_run (is_ended line) (leb (length t) 100) (order_verdict s t (order_of t)) v in
      ap (order_verdict s t) (sym o) ∙ j.1

  abbrev put : PutRuns s word
  put = put_runs s word put_accepted

  next_is : next ≡ changed_by s (put_to put.at (put_kept word))
  next_is =
      ap (λ (x : Verdict). cond (is_accepted x) (done_of s (line_deed s.series line)) s) v
      ∙ ap (λ (x : Result Order NoOrder). done_of s (deed_of s.series t x)) o
      ∙ ap (λ (f : Option ℕ). done_of s (change_at (λ i. put_to i (put_kept word)) f)) put.found

  next_state : is_state next ≡ true
  next_state = ap (λ (x : Outcome). is_state x.next) (sym (fits_459 s line)) ∙ step_state s line reply_most is

  next_held : value_held next.values put.at ≡ put_kept word
  next_held =
      let long = (state_right s is).values_long in
      let i = put.at in
      ap (λ (x : State). (value_held x.values i)) next_is
      ∙ get_or-set_same s.values i (put_kept word) None (omega (arith, place_in (pos 1 word) (pos 2 word) i put.found))

  -- a PUT alters no setting: the width and the end are those that stood before it
  pub put_read : (get : List ℕ) → line_verdict next get ≡ accepted → order_of (text_of get) ≡ Ok Get
      → indexes_of (text_of get) ≡ index_of (pos 1 word) (pos 2 word) ∷ [] → (places : ℕ) → 1 ≤ places → PutRead (answers_wide s) (ends_lf s) word (judged Station (run next get).reply places)
  put_read get w p one places placed =
      let i = put.at in
      let digits = named (pos 1 word) (pos 2 word) i put.found in
      let at = value_found (index_of (pos 1 word) (pos 2 word)) i digits.2 in
      let long : length word ≡ 16 = omega (arith, length-drop 4 t, order_put t o) in
      subst (λ (x : State). PutRead (answers_wide x) (ends_lf x) word (judged Station (run next get).reply places)) next_is
      record {
        place = i;
        found = put.found;
        read = one_read next next_state get w p (index_of (pos 1 word) (pos 2 word)) one i digits.2 (put_kept word) next_held places placed;
        same = put_given i word long at.1 digits.0 digits.1 put.right (answers_wide next);
      }

  -- and there is such a GET: that of the word's own two digits is accepted, whatever its end
  pub put_asked : (crlf : Bool) (places : ℕ) → 1 ≤ places → let get = ask_of (pos 1 word) (pos 2 word) crlf in
      (line_verdict next get ≡ accepted) × PutRead (answers_wide s) (ends_lf s) word (judged Station (run next get).reply places)
  put_asked crlf places placed =
      let i = put.at in
      let a = pos 1 word in
      let b = pos 2 word in
      let digits = named a b i put.found in
      let get = ask_of a b crlf in
      let text = ask_text a b crlf in
      let order : order_of (text_of get) ≡ Ok Get = ap order_of text ∙ ask_order a b digits.0 digits.1 in
      let w = ask_accepted next a b crlf digits.0 digits.1 i digits.2 (ap is_put next_held) in
      (w, put_read get w order (ap indexes_of text ∙ ask_index a b) places placed)
