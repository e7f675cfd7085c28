-- Laws of replies: a text and its end laid down, the words of GET laid one after the other, the nine characters of CONF, and how long each is.
use Prim.Native.Nat.{ℕ, zero, suc, ◌+◌, ◌-◌, ◌*◌, ◌/◌, ◌<◌, ◌≤◌}
use mathlib.Core.Path.{◌≡◌, refl, sym, ap, ◌∙◌}
use mathlib.Core.Bool.{Bool, true, false, cond}
use mathlib.Core.List.{List, [], ◌∷◌, ◌++◌, append_assoc, append-nil}
use native.Mathlib.Nat.{zero-mul, suc-mul, add_comm}
use native.Mathlib.Omega.{arith}
use borrow.Rule.Slice.PartMut.{put_mid, mid_of}
use lib.ListN.{length, get_or, take, drop, length-append, length-drop, get_or-append}
use lib.Seq.{take-nil, drop_at}
use Rattle.figures.specs.Bytes.{laid}
use Rattle.figures.specs.Decimal.{digits_of}
use Rattle.figures.proofs.Bytes.{laid_fits, laid_on}
use Rattle.figures.proofs.Decimal.{digits_on, digits_length}
use Rattle.words.specs.Reading.{word_size}
use Rattle.instrument.specs.Settings.{setting_place}
use Rattle.instrument.specs.Values.{Kept, is_put, get_word, word_in}
use Rattle.instrument.specs.declared.settings.Series.{Series}
use Rattle.state.specs.Entries.{value_held}
use Rattle.state.specs.declared.entries.State.{State}
use Rattle.commands.specs.Shapes.{groups_right, groups_in, order_of}
use Rattle.lines.specs.Verdicts.{conf_by, conf_verdict, place_named, get_by, order_verdict}
use Rattle.lines.specs.Replies.{answers_wide, word_at, conf_body, body_of}
use Rattle.lines.specs.Keeping.{groups_verdict, groups_words, groups_body, GetFits, get_n}
use Rattle.figures.specs.Text.{star_bytes}
use Rattle.figures.proofs.Tests.{clash}
use Rattle.commands.specs.declared.shapes.Order.{Order}
use Rattle.commands.specs.declared.shapes.Order.TheVariants as order
use Rattle.commands.specs.declared.shapes.NoOrder.{NoOrder}
use Rattle.lines.specs.Verdicts.{Verdict}
use Rattle.lines.specs.Verdicts.{accepted}
use Rattle.lines.specs.declared.verdicts.Refused.TheVariants.{NeverPut}
use Rattle.commands.proofs.Shape.{order_get, to_end}
use Rattle.lines.proofs.Lookups.{get_more, groups_verdict_lem, groups_words_lem}
use Rattle.std.specs.Prelude.{Result, Ok, Err, Option, Some, None}

pub not_both : (f : Option ℕ) (i : ℕ) → f ≡ Some i → f ≡ None → ⊥
not_both f i p q = let z : ◌≡◌ {A = ℕ} 0 1 = cc in omega arith

-- a text and its end

pub laid_none : (room : List ℕ) → laid [] room ≡ room
laid_none room = rw (take-nil {A = ℕ} (length room))

-- e laid down behind w
pub laid_then : (w e room₀ room last : List ℕ) (a : ℕ) → a ≡ length w → length w + length e ≤ length room₀ → room ≡ laid w room₀
    → last ≡ laid e (mid_of a (length room - a) room) → put_mid a (length room - a) room last ≡ laid (w ++ e) room₀
laid_then w e room₀ room last a ea h er el =
    laid_on w e room₀ room last a ea h (er ∙ laid_fits w room₀ (omega arith)) el ∙ sym (laid_fits (w ++ e) room₀ (omega (arith, length-append w e)))

-- GET: its words

word_long : (wide : Bool) (i : ℕ) (k : Kept) → length (word_in wide (get_word i k)) ≡ word_size wide
word_long true i None = refl
word_long true i (Some p) = refl
word_long false i None = refl
word_long false i (Some p) = refl

-- an index that isn't refused names a value that was put
abbrev pub NamesPut : List Kept → Option ℕ → Type 0
NamesPut values f = (i : ℕ) × ((f ≡ Some i) × (is_put (value_held values i) ≡ true))

pub names_put : (values : List Kept) (f : Option ℕ) (next : Verdict) → get_by values f next ≡ accepted → (next ≡ accepted) × NamesPut values f
names_put values None next e = absurd (clash (cc))
names_put values (Some i) next e = let p = put (is_put (value_held values i)) e in (p.0, (i, (refl, p.1)))
  where
    put : (b : Bool) → cond b next (Err NeverPut) ≡ accepted → (next ≡ accepted) × (b ≡ true)
    put true e = (e, refl)
    put false e = absurd (clash (cc))

first_right : (values : List Kept) (n : ℕ) (g : List ℕ) → groups_verdict values (suc n) g ≡ accepted
    → (groups_verdict values n (drop 5 g) ≡ accepted) × NamesPut values (place_named (get_or g 3 0) (get_or g 4 0))
unfolding groups_verdict
first_right values n g e = names_put values (place_named (get_or g 3 0) (get_or g 4 0)) (groups_verdict values n (drop 5 g)) e

pub words_long : (wide : Bool) (values : List Kept) (n : ℕ) (g : List ℕ) → groups_verdict values n g ≡ accepted
    → length (groups_words wide values n g) ≡ n * word_size wide
unfolding groups_words
words_long wide values zero g e = sym (zero-mul (word_size wide))
words_long wide values (suc n) g e =
    let r = first_right values n g e in
    let i = r.1.0 in
    let w = word_in wide (get_word i (value_held values i)) in
    rw r.1.1.0
    (length-append w (groups_words wide values n (drop 5 g))
    ∙ rw (word_long wide i (value_held values i), words_long wide values n (drop 5 g) r.0, suc-mul n (word_size wide), add_comm (n * word_size wide) (word_size wide)))

words_more : (wide : Bool) (values : List Kept) (g x t : List ℕ) → g ≡ x ++ t → length x ≡ 5
    → groups_words wide values (groups_in g) g ≡ word_at wide values (place_named (get_or x 3 0) (get_or x 4 0)) ++ groups_words wide values (groups_in t) t
unfolding groups_words
words_more wide values g x t cut five =
    let q : length (x ++ t) / 5 ≡ suc (length t / 5) = omega (arith, length-append x t) in
    rw (cut, q, get_or-append x t 0 3 (omega (arith, five)), get_or-append x t 0 4 (omega (arith, five)), drop_at x t 5 five)

-- some words of GET are laid down, and those of some groups are left
pub record Got (wide : Bool) (values : List Kept) (g room₀ room left : List ℕ) (at : ℕ) : Type 0 where
  pub done : List ℕ
  pub all_put : groups_verdict values (groups_in left) left ≡ accepted
  pub whole : groups_words wide values (groups_in g) g ≡ done ++ groups_words wide values (groups_in left) left
  pub here : at ≡ length done
  pub stands : room ≡ done ++ drop (length done) room₀

module _ (wide : Bool) (values : List Kept) (g room₀ : List ℕ) (fit : GetFits values g (groups_words wide values (groups_in g) g) room₀) where
  pub got_none : Got wide values g room₀ room₀ g 0
  got_none = record { done = []; all_put = fit.all_put; whole = refl; here = refl; stands = refl }

  module _ (room left : List ℕ) (at : ℕ) (h : Got wide values g room₀ room left at) where
    abbrev rest : List ℕ
    rest = groups_words wide values (groups_in left) left

    got_fits : length h.done + length rest ≤ length room₀
    got_fits = omega (arith, fit.fits, ap length h.whole, length-append h.done rest)

    -- none is left
    pub got_all : length left < 5 → let w = groups_words wide values (groups_in g) g in (at ≡ length w) × (room ≡ laid w room₀)
    unfolding groups_words
    got_all short =
        let z : length left / 5 ≡ 0 = omega arith in
        let none : rest ≡ [] = rw z in
        let is : groups_words wide values (groups_in g) g ≡ h.done = h.whole ∙ rw (none, append-nil) in
        rw is (h.here, h.stands ∙ sym (laid_fits h.done room₀ (omega (arith, got_fits))))

    -- the next group names a value, and its word fits
    module _ (x t : List ℕ) (cut : left ≡ x ++ t) (five : length x ≡ 5) where
      abbrev named : Option ℕ
      named = place_named (get_or x 3 0) (get_or x 4 0)

      got_right : (groups_verdict values (groups_in t) t ≡ accepted) × NamesPut values named
      got_right = names_put values named (groups_verdict values (groups_in t) t) (sym (get_more values left x t cut five) ∙ h.all_put)

      pub got_named : named ≡ None → ⊥
      got_named e = not_both named got_right.1.0 got_right.1.1.0 e

      module _ (p : ℕ) (is : named ≡ Some p) where
        abbrev pub word : List ℕ
        word = word_in wide (get_word p (value_held values p))

        next : rest ≡ word ++ groups_words wide values (groups_in t) t
        next = words_more wide values left x t cut five ∙ rw is

        pub got_room : at + length word ≤ length room₀
        got_room = omega (arith, got_fits, h.here, ap length next, length-append word (groups_words wide values (groups_in t) t))

        pub got_more : (n : ℕ) (last : List ℕ) → n ≡ length word → last ≡ laid word (mid_of at (length room - at) room)
            → Got wide values g room₀ (put_mid at (length room - at) room last) t (at + n)
        got_more n last en el = record {
          done = h.done ++ word;
          all_put = got_right.0;
          whole = h.whole ∙ rw (next, append_assoc);
          here = omega (arith, h.here, length-append h.done word);
          stands = laid_on h.done word room₀ room last at h.here (omega (arith, got_room, h.here)) h.stands el;
        }

-- CONF: a place that is found, and its nine characters

pub conf_named : (k : Series) (n : ℕ) → conf_verdict k n ≡ accepted → (i : ℕ) × (setting_place k n ≡ Some i)
conf_named k n e = by (setting_place k n) e
  where
    by : (f : Option ℕ) → conf_by f ≡ accepted → (i : ℕ) × (f ≡ Some i)
    by None e = let z : ◌≡◌ {A = ℕ} 0 1 = cc in absurd (omega arith)
    by (Some i) e = (i, refl)

abbrev pub slashes : List ℕ
slashes = 47 ∷ 47 ∷ 47 ∷ 47 ∷ 47 ∷ []

-- two numbers laid down in nine slashes
pub conf_laid : (n p : ℕ) (l₁ l₂ : List ℕ) → l₁ ≡ digits_of 4 n → l₂ ≡ digits_of (length (mid_of 5 4 (l₁ ++ slashes))) p
    → put_mid 5 4 (l₁ ++ slashes) l₂ ≡ digits_of 4 n ++ (47 ∷ digits_of 4 p)
conf_laid n p l₁ l₂ e₁ e₂ =
    let done = digits_of 4 n ++ (47 ∷ []) in
    let nine : List ℕ = 47 ∷ 47 ∷ 47 ∷ 47 ∷ slashes in
    let five : length done ≡ 5 = omega (arith, length-append (digits_of 4 n) (47 ∷ []), digits_length 4 n) in
    let all : length (done ++ digits_of 4 p) ≡ 9 = omega (arith, length-append done (digits_of 4 p), digits_length 4 p) in
    let stands : l₁ ++ slashes ≡ done ++ drop (length done) nine = rw (e₁, five, append_assoc) in
    digits_on done nine (l₁ ++ slashes) l₂ 5 4 p (sym five) (omega arith) stands e₂ ∙ rw (all, append-nil, append_assoc)

pub conf_long : (k : Series) (settings : List ℕ) (n : ℕ) → conf_verdict k n ≡ accepted → length (conf_body k settings n) ≡ 9
conf_long k settings n e =
    let f = conf_named k n e in
    let p = get_or settings f.0 0 in
    rw f.1 (omega (arith, length-append (digits_of 4 n) (47 ∷ digits_of 4 p), digits_length 4 n, digits_length 4 p))

-- the reply of an order

pub conf_body_long : (s : State) (t : List ℕ) (o : Order) (n : ℕ) → o ≡ order.Conf n → order_verdict s t (Ok o) ≡ accepted → length (body_of s t (Ok o)) ≡ 9
conf_body_long s t o n e v = rw e (conf_long s.series s.settings n (rw e at v))

module _ (s : State) (t : List ℕ) (o : Order) (e : o ≡ order.Get) (is : Ok o ≡ order_of t) (v : order_verdict s t (Ok o) ≡ accepted) where
  pub get_length : 5 ≤ length t
  get_length = (order_get t (sym is ∙ ap Ok e)).0

  get_groups : groups_right (groups_in (drop 5 t)) (drop 5 t) ≡ true
  get_groups = (order_get t (sym is ∙ ap Ok e)).1

  get_judged : groups_verdict s.values (groups_in (drop 5 t)) (drop 5 t) ≡ accepted
  get_judged = groups_verdict_lem s.values (groups_in (drop 5 t)) (drop 5 t) get_groups ∙ (rw e at v)

  pub get_body : body_of s t (Ok o) ≡ groups_body (answers_wide s) s.values (groups_in (drop 5 t)) (drop 5 t)
  get_body = rw (e, groups_words_lem s.values (answers_wide s) (groups_in (drop 5 t)) (drop 5 t) get_groups)

  pub get_body_long : length (body_of s t (Ok o)) ≡ get_n (answers_wide s) ((length t - 5) / 5)
  get_body_long =
      let g = drop 5 t in
      let n : groups_in g ≡ (length t - 5) / 5 = ap (λ (k : ℕ). k / 5) (length-drop 5 t) in
      ap length get_body
      ∙ length-append (star_bytes (answers_wide s)) (groups_words (answers_wide s) s.values (groups_in g) g)
      ∙ rw (words_long (answers_wide s) s.values (groups_in g) g get_judged, n)

  pub get_fits : (room : List ℕ) → length (body_of s t (Ok o)) ≤ length room →
      let g = take (length t - 5) (drop 5 t) in
      GetFits s.values g (groups_body (answers_wide s) s.values (groups_in g) g) room
  get_fits room f =
      rw (to_end 5 t)
      record { all_put = get_judged; fits = omega (arith, ap length get_body) }

-- the words of a line of at most a hundred characters: nineteen

abbrev pub body_most : Bool → ℕ
body_most wide = get_n wide 19

pub body_most_lem : (wide : Bool) → body_most wide ≤ 457
body_most_lem true = omega arith
body_most_lem false = omega arith

words_few : (wide : Bool) (n : ℕ) → n ≤ 19 → get_n wide n ≤ body_most wide
words_few true n h = omega arith
words_few false n h = omega arith

some_few : (wide : Bool) (n : ℕ) → n ≤ 9 → n ≤ body_most wide
some_few true n h = omega arith
some_few false n h = omega arith

-- so such a line has a short reply
pub body_short : (s : State) (t : List ℕ) (o : Result Order NoOrder) → o ≡ order_of t → order_verdict s t o ≡ accepted → length t ≤ 100
    → length (body_of s t o) ≤ body_most (answers_wide s)
body_short s t (Err none) is v h = some_few (answers_wide s) 0 (omega arith)
body_short s t (Ok (order.Set n p)) is v h = some_few (answers_wide s) 1 (omega arith)
body_short s t (Ok (order.Conf n)) is v h = some_few (answers_wide s) _ (omega (arith, conf_body_long s t (order.Conf n) n refl v))
body_short s t (Ok order.Put) is v h = some_few (answers_wide s) 1 (omega arith)
body_short s t (Ok order.Get) is v h =
    let long = get_body_long s t order.Get refl is v in
    let few = words_few (answers_wide s) ((length t - 5) / 5) (omega arith) in
    omega (arith, long, few)
body_short s t (Ok order.Undo) is v h = some_few (answers_wide s) 1 (omega arith)
body_short s t (Ok order.Keep) is v h = some_few (answers_wide s) 1 (omega arith)
