-- How the lines of the undo list are taken from the start of some bytes: the count's, an entry's test by test as the code judges it, and the list of them.
use Prim.Native.Nat.{ℕ, zero, suc, ◌+◌, ◌-◌, ◌≤◌, ◌<◌}
use mathlib.Core.Path.{◌≡◌, refl, sym, ap, ◌∙◌}
use mathlib.Core.Bool.{Bool, true, false, cond, not, ◌&&◌, and-true, and-false, false≢true}
use mathlib.Core.List.{List, [], ◌∷◌, ◌++◌}
use native.Mathlib.Omega.{arith}
use borrow.Author.Tests.{eq-eqb, ne_eqb, leb-true, le-leb, lt-leb, lt-ltb}
use borrow.Rule.Slice.PartMut.{mid_of}
use lib.Dec.{eqb, leb, ltb}
use lib.ListN.{length, get_or, set, take, drop, replicate, length-append, length-drop, take-append-drop}
use lib.Seq.{drop-drop, drop_at, drop-append_seam, get_or-drop, length-take-le}
use Rattle.figures.specs.Text.{codes}
use Rattle.figures.specs.Bytes.{starts_with}
use Rattle.figures.specs.Decimal.{digits_of, digits_nBy, digits_n, decimal_of}
use Rattle.figures.proofs.Bytes.{starts_append, starts_length}
use Rattle.figures.proofs.Decimal.{digits_length}
use Rattle.figures.proofs.Tests.{both, by_test, along, and_on}
use Rattle.commands.proofs.Shape.{to_end}
use Rattle.instrument.specs.Settings.{setting_number, rows_of, settings_n, no_row, row_at, is_asked, in_range, setting_place}
use Rattle.instrument.specs.Values.{values_n, index_number, stored, no_stored, value_place, put_kept, kept_right, is_put}
use Rattle.instrument.specs.declared.settings.Series.{Series}
use Rattle.instrument.specs.Values.{Kept}
use Rattle.instrument.proofs.Seek.{found_at}
use Rattle.state.specs.Entries.{entries_n, entry_of, blank_entry, contents_right, entry_right}
use Rattle.state.specs.Keeping.{puts_of, back_right, puts_back, goes_back}
use Rattle.state.specs.declared.entries.Item.{Item}
use Rattle.state.specs.declared.entries.Item.TheVariants.{Free, Setting, Stored}
use Rattle.state.specs.declared.entries.Entry.{Entry}
use Rattle.state.proofs.Images.{drop_replicate}
use Rattle.state.proofs.Listed.{with_entries_state}
use Rattle.sheets.specs.Lines.{Came, Part, wrong_at}
use Rattle.sheets.specs.Sheet.{said_by, characters_of, value_key, kept_line, kept_said}
use Rattle.sheets.specs.Undo.{count_key, count_line, count_lines, item_key, former_text, entry_line, entry_lines}
use Rattle.sheets.specs.Undo.{setting_said, stored_said, kept_there, number_said, entry_said}
use Rattle.sheets.specs.Loading.{count_from, entries_from, after_entries, after_count, list_from}
use Rattle.sheets.specs.Keeping.{digits_first, said_of, number_taken, value_taken, put_stands}
use Rattle.sheets.specs.Keeping.{setting_start, entry_taken, count_taken, lines_to, entries_filled, contents_by, list_count}
use Rattle.std.specs.Prelude.{Option, Some, None, Result, Ok, Err}
use Rattle.sheets.specs.declared.answers.SheetRefusal.{SheetRefusal}
use Rattle.sheets.specs.declared.answers.SheetRefusal.TheVariants.{Wrong}
use Rattle.sheets.specs.declared.loading.Taken.{Taken}
use Rattle.sheets.specs.declared.loading.Digits.{Digits}
use Rattle.sheets.proofs.Partwise.{starts_parted, none_some, some_same, Astray, came, TakenLines, Turned, part_turned, part_ended, part_taken}
use Rattle.sheets.proofs.Says.{entry_said_lem, each_right}
use Rattle.sheets.proofs.Takes.{starts_both, all, all_not, stands_before, number_none, number_some}
use Rattle.sheets.proofs.Takes.{key_long, value_few, value_never, value_short, value_put}

-- a line that ends with a number: where none was read after the key that stands, it doesn't stand; otherwise it does

module _ (w s : List ℕ) (keyed : starts_with w s ≡ true) (r : Option (Taken ℕ)) (is : r ≡ number_taken (drop (length w) s)) where
  abbrev number : ℕ
  number = said_by 3 0 (drop (length w) s)

  abbrev text : List ℕ
  text = decimal_of number ++ codes "\n"

  whole : starts_with (w ++ text) s ≡ starts_with text (drop (length w) s)
  whole = starts_both w text s (length w) refl ∙ and_on keyed

  pub record NumberEnds (x : Taken ℕ) : Type 0 where
    pub stands : starts_with (w ++ text) s ≡ true
    pub says : x.held ≡ number
    pub long : length w + x.to ≡ length (w ++ text)
    pub within : length w + x.to ≤ length s

  pub number_unread : r ≡ None → starts_with (w ++ text) s ≡ false
  number_unread z = whole ∙ number_none (drop (length w) s) r is z

  pub number_read : {x : Taken ℕ} → r ≡ Some x → NumberEnds x
  number_read z =
      let (stand, some) = number_some (drop (length w) s) r is z in
      let n = ap (λ (q : Taken ℕ). q.to) some in
      record {
        stands = whole ∙ stand;
        says = ap (λ (q : Taken ℕ). q.held) some;
        long = omega (arith, length-append w text);
        within = omega (arith, length-append w text, starts_length (w ++ text) s (whole ∙ stand));
      }

-- the count's line

module _ (s : List ℕ) where
  pub count_unkeyed : starts_with count_key s ≡ false → None ≡ count_taken s
  count_unkeyed e =
      let text = decimal_of (count_lines.says 0 s) ++ codes "\n" in
      rw (starts_both count_key text s 5 refl, e, and-false)

  module _ (keyed : starts_with count_key s ≡ true) (r : Option (Taken ℕ)) (is : r ≡ number_taken (drop 5 s)) where
    pub count_unread : r ≡ None → None ≡ count_taken s
    count_unread z = rw (number_unread count_key s keyed r is z, and-false)

    module _ (x : Taken ℕ) (z : r ≡ Some x) where
      ends : NumberEnds count_key s keyed r is x
      ends = number_read count_key s keyed r is z

      pub count_above : entries_n < x.held → None ≡ count_taken s
      count_above h = rw (lt-leb (count_lines.says 0 s) entries_n (omega (arith, ends.says)))

      pub count_is : x.held ≤ entries_n → Some (record { to = 5 + x.to; held = x.held }) ≡ count_taken s
      count_is h =
          let few = le-leb (count_lines.says 0 s) entries_n (omega (arith, ends.says)) in
          (λ j. Some (record { to = ends.long j; held = ends.says j })) ∙ rw (few, ends.stands)

pub count_turned : (at : ℕ) (sheet got : List ℕ) → 0 < length got → at ≤ length sheet
    → (t : Option (Taken ℕ)) → t ≡ count_taken (mid_of at (length sheet - at) sheet) → Turned count_lines 1 0 at sheet got t
count_turned at sheet got hg ha t is = part_turned count_lines 1 0 at sheet got (omega arith) hg ha (λ before x. refl) t is

-- the key of a value's entry has six bytes
item_long : (k : Series) (i : ℕ) → i < values_n → length (item_key k (Stored i)) ≡ 6
unfolding stored digits_of digits_nBy
item_long k i h = sym (along (λ j. length (item_key k (Stored j))) 0 values_n refl (omega arith) h)

-- the line of an entry, by what it says

abbrev taken_as : Series → List ℕ → Entry → Option (Taken Entry)
taken_as k s e = cond (entry_right k e && starts_with (entry_line k e) s) (Some (record { to = length (entry_line k e); held = e })) None

-- up to the colon: `u=`, a letter, and a number that was read

abbrev start_by : ℕ → ℕ → List ℕ
start_by letter n = codes "u=" ++ ((letter ∷ decimal_of n) ++ codes ":")

pub start_long : (letter n : ℕ) → length (start_by letter n) ≡ 4 + digits_n n
start_long letter n = omega (arith, length-append (letter ∷ decimal_of n) (codes ":"), digits_length (digits_n n) n)

abbrev pub start_tests : ℕ → List ℕ → Digits → List Bool
start_tests letter s r =
    starts_with (codes "u=") s
    ∷ starts_with (letter ∷ []) (drop 2 s)
    ∷ eqb r.digits (digits_n r.number)
    ∷ starts_with (codes ":") (drop (3 + r.digits) s)
    ∷ []

start_as : (letter : ℕ) (s : List ℕ) (r : Digits) → r ≡ said_of (drop 3 s) → starts_with (start_by letter r.number) s ≡ all (start_tests letter s r)
start_as letter s r is =
    let t = drop 3 s in
    let p = said_by 3 0 t in
    rw (
      is,
      starts_both (codes "u=") ((letter ∷ decimal_of p) ++ codes ":") s 2 refl,
      starts_both (letter ∷ []) (decimal_of p ++ codes ":") (drop 2 s) 1 refl,
      drop-drop 1 2 s,
      stands_before 58 refl t,
      drop-drop (digits_first 3 t) 3 s,
      and-true,
    )

module _ (k : Series) (s : List ℕ) where
  said_taken : (e : Entry) → entry_said k s ≡ e → entry_taken k s ≡ taken_as k s e
  said_taken e is = ap (taken_as k s) is

  -- by its letter
  lettered : (b : Bool) → eqb (get_or s 2 0) 115 ≡ b
      → entry_said k s ≡ cond b (setting_said k (setting_place k (number_said s)) s) (stored_said k (value_place (number_said s)) s)
  lettered b e = ap (λ (c : Bool). cond c (setting_said k (setting_place k (number_said s)) s) (stored_said k (value_place (number_said s)) s)) e

  -- up to the colon of a setting's line
  module _ (number : ℕ) (said : number ≡ number_said s) (keyed : starts_with (setting_start number) s ≡ true) where
    setting_said_lem : (f : Option ℕ) → setting_place k number ≡ f → entry_said k s ≡ setting_said k f s
    setting_said_lem f e =
        lettered true (ap (λ (t : List ℕ). eqb (get_or t 2 0) 115) (starts_parted (setting_start number) s keyed))
        ∙ ap (λ (n : ℕ). setting_said k (setting_place k n) s) (sym said)
        ∙ ap (λ (g : Option ℕ). setting_said k g s) e

    pub former_none : setting_place k number ≡ None → None ≡ entry_taken k s
    former_none e = sym (said_taken blank_entry (setting_said_lem None e))

    module _ (i : ℕ) (found : setting_place k number ≡ Some i) where
      pub former_there : (i < settings_n k) × (setting_number (row_at k i) ≡ number)
      former_there = found_at setting_number (rows_of k) no_row number i found

      -- it is of a setting that can be SET, to a parameter that it has, and a number ends the line
      abbrev former_taken : ℕ → Bool → Option (Taken Entry)
      former_taken n placed =
          let w = setting_start n in
          let p = said_by 3 0 (drop (length w) s) in
          let line = w ++ (decimal_of p ++ codes "\n") in
          cond ((placed && (not (is_asked (row_at k i)) && in_range (row_at k i) p)) && starts_with line s)
          (Some (record { to = length line; held = entry_of (Setting i) p None })) None

      former_as : entry_taken k s ≡ former_taken number true
      former_as =
          let (below, is) = former_there in
          said_taken _ (setting_said_lem (Some i) found)
          ∙ rw and-true (ap (λ (n : ℕ). former_taken n (ltb i (settings_n k))) is ∙ ap (former_taken number) (lt-ltb i (settings_n k) below))

      pub former_asked : (row_at k i).asked ≡ true → None ≡ entry_taken k s
      former_asked e = sym (former_as ∙ rw e)

      module _ (r : Option (Taken ℕ)) (is : r ≡ number_taken (drop (length (setting_start number)) s)) where
        pub former_unread : r ≡ None → None ≡ entry_taken k s
        former_unread z = sym (former_as ∙ rw (number_unread (setting_start number) s keyed r is z, and-false))

        module _ (x : Taken ℕ) (z : r ≡ Some x) where
          former_ends : NumberEnds (setting_start number) s keyed r is x
          former_ends = number_read (setting_start number) s keyed r is z

          pub former_out : in_range (row_at k i) x.held ≡ false → None ≡ entry_taken k s
          former_out e = sym (former_as ∙ rw (← former_ends.says, e, and-false))

          pub former_is : (row_at k i).asked ≡ false → in_range (row_at k i) x.held ≡ true
              → Some (record { to = length (setting_start number) + x.to; held = entry_of (Setting i) x.held None }) ≡ entry_taken k s
          former_is free e =
              let p = said_by 3 0 (drop (length (setting_start number)) s) in
              let range : in_range (row_at k i) p ≡ true = ap (in_range (row_at k i)) (sym former_ends.says) ∙ e in
              (λ j. Some (record { to = former_ends.long j; held = entry_of (Setting i) (former_ends.says j) None }))
              ∙ sym (former_as ∙ rw (free, range, former_ends.stands))

  -- up to the colon of a value's line; what follows is as it follows the value's own key
  module _ (i : ℕ) (found : value_place (number_said s) ≡ Some i) (keyed : starts_with (item_key k (Stored i)) s ≡ true) where
    pub stored_there : i < values_n
    unfolding stored
    stored_there = (found_at index_number stored no_stored (number_said s) i found).0

    abbrev line : List ℕ
    line = value_key i ++ drop 6 s

    line_past : drop 4 line ≡ drop 6 s
    line_past = drop_at (value_key i) (drop 6 s) 4 (key_long i stored_there)

    line_starts : (w : List ℕ) → starts_with (item_key k (Stored i) ++ w) s ≡ starts_with (value_key i ++ w) line
    line_starts w =
        (starts_both (item_key k (Stored i)) w s 6 (item_long k i stored_there) ∙ and_on keyed)
        ∙ sym (starts_both (value_key i) w line 4 (key_long i stored_there) ∙ and_on (starts_append (value_key i) (drop 6 s)) ∙ ap (starts_with w) line_past)

    stored_said_lem : entry_said k s ≡ entry_of (Stored i) 0 (kept_said i line)
    stored_said_lem =
        let past : drop (length (item_key k (Stored i))) s ≡ drop (length (value_key i)) line =
        ap (λ (n : ℕ). drop n s) (item_long k i stored_there) ∙ sym (drop-append_seam (value_key i) (drop 6 s)) in
        let kept : kept_there k i s ≡ kept_said i line = λ j. cond (line_starts (codes "\n") j) None (put_kept (past j)) in
        lettered false (ap (λ (t : List ℕ). eqb (get_or t 2 0) 115) (starts_parted (item_key k (Stored i)) s keyed))
        ∙ ap (λ (f : Option ℕ). stored_said k f s) found
        ∙ ap (entry_of (Stored i) 0) kept

    abbrev entry_by : Option (Taken Kept) → Option (Taken Entry)
    entry_by None = None
    entry_by (Some t) = Some (record { to = 2 + t.to; held = entry_of (Stored i) 0 t.held })

    stored_as : entry_taken k s ≡ entry_by (value_taken i line)
    stored_as =
        let w = kept_said i line in
        let e = entry_of (Stored i) 0 w in
        let text = characters_of i w ++ codes "\n" in
        let n = length (kept_line i w) in
        let long : length (entry_line k e) ≡ 2 + n =
        omega (arith, length-append (item_key k (Stored i)) text, length-append (value_key i) text, item_long k i stored_there, key_long i stored_there) in
        let stands : entry_right k e && starts_with (entry_line k e) s ≡ kept_right i w && starts_with (kept_line i w) line =
        rw (lt-ltb i values_n stored_there, line_starts text) in
        said_taken e stored_said_lem
        ∙ by_test (kept_right i w && starts_with (kept_line i w) line) (λ y. rw (stands, y, long)) (λ y. rw (stands, y))

    stored_by : (t : Option (Taken Kept)) → t ≡ value_taken i line → entry_by t ≡ entry_taken k s
    stored_by t is = sym (stored_as ∙ ap entry_by (sym is))

    line_long : length line ≡ 4 + (length s - 6)
    line_long = omega (arith, length-append (value_key i) (drop 6 s), length-drop 6 s, key_long i stored_there)

    line_keyed : starts_with (value_key i) line ≡ true
    line_keyed = starts_append (value_key i) (drop 6 s)

    line_first : get_or line 4 0 ≡ get_or s 6 0
    line_first = sym (get_or-drop 4 line 0 0) ∙ ap (λ (t : List ℕ). get_or t 0 0) line_past ∙ get_or-drop 6 s 0 0

    pub stored_few : length s < 7 → None ≡ entry_taken k s
    stored_few h = stored_by None (value_few i stored_there line (omega (arith, line_long)))

    module _ (h : 6 < length s) where
      more : 4 < length line
      more = omega (arith, line_long)

      pub stored_never : get_or s 6 0 ≡ 10 → Some (record { to = 7; held = entry_of (Stored i) 0 None }) ≡ entry_taken k s
      stored_never e = stored_by _ (value_never i stored_there line line_keyed more (line_first ∙ e))

      module _ (f : get_or s 6 0 ≡ 10 → ⊥) where
        other : get_or line 4 0 ≡ 10 → ⊥
        other e = f (sym line_first ∙ e)

        pub stored_short : length s < 22 → None ≡ entry_taken k s
        stored_short few = stored_by None (value_short i stored_there line line_keyed more other (omega (arith, line_long)))

        abbrev put : List ℕ
        put = mid_of 2 (length s - 2) s

        -- what was put, four bytes after `u=` as in the value's own line
        pub stored_put : (b : Bool) → b ≡ put_stands i put
            → cond b (Some (record { to = 22; held = entry_of (Stored i) 0 (put_kept (drop 4 put)) })) None ≡ entry_taken k s
        stored_put b is =
            let past : drop 4 put ≡ drop 4 line = ap (drop 4) (to_end 2 s) ∙ drop-drop 4 2 s ∙ sym line_past in
            let stands : List ℕ → Bool = λ l. let w = put_kept l in kept_right i w && starts_with (drop 4 (kept_line i w)) l in
            (λ j. cond b (Some (record { to = 22; held = entry_of (Stored i) 0 (put_kept (past j)) })) None)
            ∙ by b ∙ stored_by _ (value_put i stored_there line line_keyed more other b (is ∙ ap stands past))
          where
            by : (b : Bool) → let w = put_kept (drop 4 line) in
                cond b (Some (record { to = 22; held = entry_of (Stored i) 0 w })) None ≡ entry_by (cond b (Some (record { to = 20; held = w })) None)
            by true = refl
            by false = refl

  -- where the line doesn't start as an entry's does, it isn't right
  untaken : (e : Entry) → entry_said k s ≡ e → (entry_right k e ≡ true → starts_with (item_key k e.item) s ≡ false) → None ≡ entry_taken k s
  untaken e is off =
      let key = item_key k e.item in
      let rest = former_text e.item e.former ++ codes "\n" in
      sym (said_taken e is ∙ by_test (entry_right k e) (λ y. rw (starts_both key rest s (length key) refl, off y, and-false)) (λ y. rw y))

  unset : (n : ℕ) (f : Option ℕ) → setting_place k n ≡ f → starts_with (start_by 115 n) s ≡ false
      → entry_right k (setting_said k f s) ≡ true → starts_with (item_key k (setting_said k f s).item) s ≡ false
  unset n None e off y = absurd (false≢true y)
  unset n (Some i) e off y = ap (λ (m : ℕ). starts_with (start_by 115 m) s) (found_at setting_number (rows_of k) no_row n i e).1 ∙ off

  named : (n i : ℕ) → value_place n ≡ Some i → starts_with (item_key k (Stored i)) s ≡ starts_with (start_by 118 n) s
  named n i e = ap (λ (m : ℕ). starts_with (start_by 118 m) s) (found_at index_number stored no_stored n i e).1

  unput : (n : ℕ) (f : Option ℕ) → value_place n ≡ f → starts_with (start_by 118 n) s ≡ false
      → entry_right k (stored_said k f s) ≡ true → starts_with (item_key k (stored_said k f s).item) s ≡ false
  unput n None e off y = absurd (false≢true y)
  unput n (Some i) e off y = named n i e ∙ off

  unstarted : starts_with (start_by 115 (number_said s)) s ≡ false → starts_with (start_by 118 (number_said s)) s ≡ false → None ≡ entry_taken k s
  unstarted set put =
      by_test (eqb (get_or s 2 0) 115)
      (λ e. untaken _ (lettered true e) (unset (number_said s) (setting_place k (number_said s)) refl set))
      (λ e. untaken _ (lettered false e) (unput (number_said s) (value_place (number_said s)) refl put))

  pub stored_none : (get_or s 2 0 ≡ 115 → ⊥) → value_place (number_said s) ≡ None → None ≡ entry_taken k s
  stored_none f e = sym (said_taken blank_entry (lettered false (ne_eqb (get_or s 2 0) 115 f) ∙ ap (λ (g : Option ℕ). stored_said k g s) e))

  module _ (r : Digits) (is : r ≡ said_of (drop 3 s)) where
    pub said_is : r.number ≡ number_said s
    said_is = ap (λ (d : Digits). d.number) is

    -- a test fails, by its place among them
    pub entry_not : (j : ℕ) → get_or (start_tests 115 s r) j true ≡ false → get_or (start_tests 118 s r) j true ≡ false → None ≡ entry_taken k s
    entry_not j set put =
        let off : (letter : ℕ) → get_or (start_tests letter s r) j true ≡ false → starts_with (start_by letter (number_said s)) s ≡ false =
        λ letter e. ap (λ (n : ℕ). starts_with (start_by letter n) s) (sym said_is) ∙ start_as letter s r is ∙ all_not (start_tests letter s r) j e in
        unstarted (off 115 set) (off 118 put)

    pub setting_starts : all (start_tests 115 s r) ≡ true → starts_with (setting_start r.number) s ≡ true
    setting_starts e = start_as 115 s r is ∙ e

    pub stored_starts : (i : ℕ) → value_place r.number ≡ Some i → all (start_tests 118 s r) ≡ true
        → (value_place (number_said s) ≡ Some i) × (starts_with (item_key k (Stored i)) s ≡ true)
    stored_starts i found e = (ap value_place (sym said_is) ∙ found, named r.number i found ∙ start_as 118 s r is ∙ e)

pub entry_turned : (k : Series) (n i at : ℕ) (sheet : List ℕ) (got : List Entry) → i < n → i < length got → at ≤ length sheet
    → (t : Option (Taken Entry)) → t ≡ entry_taken k (mid_of at (length sheet - at) sheet) → Turned (entry_lines k) n i at sheet got t
entry_turned k n i at sheet got hn hg ha t is = part_turned (entry_lines k) n i at sheet got hn hg ha (λ before x. refl) t is

-- the entries as they are filled, once their lines came to their end
pub entries_kept : (i : ℕ) (got : List Entry) → length got ≡ entries_n → drop i got ≡ drop i (replicate entries_n blank_entry) → i ≤ entries_n
    → got ≡ entries_filled (take i got)
entries_kept i got long past few =
    let n : length (take i got) ≡ i = length-take-le i got (omega arith) in
    let all : entries_filled (take i got) ≡ got =
    ap (λ (m : ℕ). take i got ++ replicate (entries_n - m) blank_entry) n
    ∙ ap (λ (l : List Entry). take i got ++ l) (sym (past ∙ drop_replicate i entries_n blank_entry))
    ∙ take-append-drop i got in
    sym all

-- what is told of lines tells how far they came
pub lines_astray : (c : Came) {e : SheetRefusal} → lines_to c ≡ Err e → Astray c e
lines_astray (Err at) q = record { at = at; came = refl; tells = cc }
lines_astray (Ok at) q = absurd (cc q)

pub lines_whole : (c : Came) {to : ℕ} → lines_to c ≡ Ok to → c ≡ Ok to
lines_whole (Err at) q = absurd (cc q)
lines_whole (Ok at) {to} q = let same : at ≡ to = cc in ap (λ (n : ℕ). Ok n) same

-- what was taken goes back: a turn of the loop, and its end

pub back_turn : (n : ℕ) (puts : List Bool) (u : List Entry) → 0 < n
    → let e = get_or u (n - 1) blank_entry in
    goes_back n puts u ≡ back_right puts e.item && goes_back (n - 1) (puts_back puts e.item e.former.kept) u
unfolding goes_back
back_turn zero puts u h = absurd (omega arith)
back_turn (suc n) puts u h = let m : suc n - 1 ≡ n = omega arith in rw m

pub back_done : (n : ℕ) (puts : List Bool) (u : List Entry) → n ≤ 0 → goes_back n puts u ≡ true
unfolding goes_back
back_done n puts u h = let z : n ≡ 0 = omega arith in rw z

-- one of a value: its place is there, and was put
pub back_stored : (n : ℕ) (puts : List Bool) (u : List Entry) → 0 < n → {i : ℕ}
    → let e = get_or u (n - 1) blank_entry in
    e.item ≡ Stored i → goes_back n puts u ≡ (ltb i values_n && get_or puts i false) && goes_back (n - 1) (set puts i (is_put e.former.kept)) u
back_stored n puts u h is =
    let e = get_or u (n - 1) blank_entry in
    back_turn n puts u h ∙ ap (λ (i : Item). back_right puts i && goes_back (n - 1) (puts_back puts i e.former.kept) u) is

-- any other changes nothing

pub item_other : (puts : List Bool) (i : Item) (k : Kept) → ((j : ℕ) → i ≡ Stored j → ⊥) → (back_right puts i ≡ true) × (puts_back puts i k ≡ puts)
item_other puts Free k not = (refl, refl)
item_other puts (Setting i) k not = (refl, refl)
item_other puts (Stored i) k not = absurd (not i refl)

pub back_other : (n : ℕ) (puts : List Bool) (u : List Entry) → 0 < n
    → let e = get_or u (n - 1) blank_entry in
    ((i : ℕ) → e.item ≡ Stored i → ⊥) → goes_back n puts u ≡ goes_back (n - 1) puts u
back_other n puts u h not =
    let e = get_or u (n - 1) blank_entry in
    let (right, same) = item_other puts e.item e.former.kept not in
    back_turn n puts u h ∙ (λ j. right j && goes_back (n - 1) (same j) u)

-- the list, by its count's line and then by its entries'

count_few : (s : List ℕ) (x : Taken ℕ) → Some x ≡ count_taken s → x.held ≤ entries_n
count_few s x is =
    let n = count_lines.says 0 s in
    let line = starts_with (count_line n) s in
    by_test (leb n entries_n && line)
    (λ e.
    let so : x ≡ record { to = length (count_line n); held = n } = some_same (is ∙ rw e) in
    omega (arith, ap (λ (c : Taken ℕ). c.held) so, leb-true n entries_n (both (leb n entries_n) line e).0))
    (λ e. let so : None ≡ Some x = sym (is ∙ rw e) in absurd (none_some so))

module _ (k : Series) (settings : List ℕ) (values : List Kept) (sheet : List ℕ) (at : ℕ) (within : at ≤ length sheet)
    (taken : Option (Taken ℕ)) (is : taken ≡ count_taken (mid_of at (length sheet - at) sheet)) where
  counted : Turned count_lines 1 0 at sheet (0 ∷ []) taken
  counted = count_turned at sheet (0 ∷ []) (omega arith) within taken is

  abbrev list : Part Entry
  list = list_from (contents_by k settings values) sheet at

  by_count : (p : Part ℕ) → count_from sheet at ≡ p → list ≡ after_count (contents_by k settings values) sheet at p.got p.came
  by_count p e = ap (λ (q : Part ℕ). after_count (contents_by k settings values) sheet at q.got q.came) e

  -- of a list that is wrong its wrong line is all there is: no entry of it is got
  pub uncounted_wrong : taken ≡ None → list ≡ wrong_at at
  uncounted_wrong z = by_count (wrong_at at) (counted.astray z)

  pub list_uncounted : taken ≡ None → Err (Wrong at) ≡ list_count list
  list_uncounted z = ap list_count (sym (uncounted_wrong z))

  module _ (t : Taken ℕ) (some : taken ≡ Some t) where
    pub count_most : t.held ≤ entries_n
    count_most = count_few (mid_of at (length sheet - at) sheet) t (sym some ∙ is)

    pub count_within : at + t.to ≤ length sheet
    count_within = counted.within t some

    abbrev lines : Part Entry
    lines = entries_from k t.held sheet (at + t.to)

    list_as_lem : (c : Came) → lines.came ≡ c → list ≡ after_entries (contents_by k settings values) sheet at lines.got c
    list_as_lem c e =
        by_count (came (at + t.to) (t.held ∷ [])) (counted.more t some ∙ part_ended count_lines 1 1 (at + t.to) sheet (t.held ∷ []) refl)
        ∙ ap (after_entries (contents_by k settings values) sheet at lines.got) e

    pub astray_wrong : (to : ℕ) → lines.came ≡ Err to → list ≡ wrong_at to
    astray_wrong to e = list_as_lem (Err to) e

    module _ (told : Result ℕ SheetRefusal) (are : told ≡ lines_to lines.came) where
      pub list_astray : {e : SheetRefusal} → told ≡ Err e → Err e ≡ list_count list
      list_astray {e} z =
          let s = lines_astray lines.came (sym are ∙ z) in
          ap (λ (r : SheetRefusal). Err r) s.tells ∙ ap list_count (sym (astray_wrong s.at s.came))

      module _ (to : ℕ) (ok : told ≡ Ok to) where
        came_to : lines.came ≡ Ok to
        came_to = lines_whole lines.came (sym are ∙ ok)

        pub past_wrong : (to ≡ length sheet → ⊥) → list ≡ wrong_at to
        past_wrong f = list_as_lem (Ok to) came_to ∙ rw (ne_eqb to (length sheet) f)

        pub list_past : (to ≡ length sheet → ⊥) → Err (Wrong to) ≡ list_count list
        list_past f = ap list_count (sym (past_wrong f))

        took : TakenLines (entry_lines k) t.held [] 0 sheet (at + t.to) to lines.got
        took =
            part_taken (entry_lines k) t.held (at + t.to) sheet to lines.got (entry_said_lem k)
            (λ j. record { came = came_to j; got = lines.got })

        module _ (right : contents_right (contents_by k settings values) ≡ true) (end : to ≡ length sheet)
            (held : List Entry) (held_is : held ≡ entries_filled lines.got) (back : Bool) (judged : back ≡ goes_back t.held (puts_of values) held) where
          ended : list ≡ cond back (came to lines.got) (wrong_at at)
          ended =
              let few : length lines.got ≤ entries_n = omega (arith, took.long, count_most) in
              let state = with_entries_state k settings values lines.got right few (each_right k lines.got took.judged) in
              let so = state
              ∙ ap (λ (n : ℕ). goes_back n (puts_of values) (entries_filled lines.got)) took.long
              ∙ ap (goes_back t.held (puts_of values)) (sym held_is)
              ∙ sym judged in
              list_as_lem (Ok to) came_to
              ∙ rw (eq-eqb to (length sheet) end) (ap (λ (b : Bool). cond b (came to lines.got) (wrong_at at)) so)

          pub unheld_wrong : back ≡ false → list ≡ wrong_at at
          unheld_wrong b = ended ∙ rw b

          pub list_unheld : back ≡ false → Err (Wrong at) ≡ list_count list
          list_unheld b = ap list_count (sym (unheld_wrong b))

          -- of one that is right the end is known too
          pub list_held : back ≡ true → list ≡ came to lines.got
          list_held b = ended ∙ rw b

          pub list_counted : back ≡ true → Ok t.held ≡ list_count list
          list_counted b = ap (λ (n : ℕ). Ok n) (sym took.long) ∙ ap list_count (sym (list_held b))

          pub list_filled : back ≡ true → held ≡ entries_filled list.got
          list_filled b = held_is ∙ ap (λ (p : Part Entry). entries_filled p.got) (sym (list_held b))
