-- What a state is. "A state is settings in range, each value never put or as a PUT can leave it, and 0 to 64 entries holding the same; taken back newest
-- first, none names a value then never put."
use Rattle.std.specs.Prelude.{ℕ, zero, suc, ◌+◌, ◌-◌, Bool, true, false, not, ◌&&◌, None, List, [], ◌∷◌, ◌++◌, eqb, leb, ltb, length, get_or, set, drop, replicate}
use Rattle.instrument.specs.Settings.{settings_n, row_at, held_rows, is_asked, factory_settings, in_range, in_ranges}
use Rattle.instrument.specs.Values.{Kept, values_n, is_put, kept_right}
use Rattle.instrument.specs.declared.settings.Series.{Series}
use Rattle.state.specs.declared.entries.Item.{Item}
use Rattle.state.specs.declared.entries.Item.TheVariants.{Free, Setting, Stored}
use Rattle.state.specs.declared.entries.Former.{Former}
use Rattle.state.specs.declared.entries.Entry.{Entry}
use Rattle.state.specs.declared.entries.State.{State}

-- "The undo list holds 64 entries."
abbrev pub entries_n : ℕ
entries_n = 64

-- what is held at a place; past the last, never put
abbrev pub value_held : List Kept → ℕ → Kept
value_held values i = get_or values i None

abbrev pub entry_of : Item → ℕ → Kept → Entry
entry_of i p k = record { item = i; former = record { parameter = p; kept = k } }

abbrev pub blank_entry : Entry
blank_entry = entry_of Free 0 None

-- some undo entries, the oldest first; the places past them are blank
abbrev pub with_entries : Series → List ℕ → List Kept → List Entry → State
with_entries k settings values entries =
    record { series = k; settings = settings; values = values; undo = entries ++ replicate (entries_n - length entries) blank_entry; count = length entries }

-- no undo entry
abbrev pub no_entries : Series → List ℕ → List Kept → State
no_entries k settings values = record { series = k; settings = settings; values = values; undo = replicate entries_n blank_entry; count = 0 }

-- no value put either
abbrev pub unused : Series → List ℕ → State
unused k settings = no_entries k settings (replicate values_n None)

-- "At the factory no value has been put."
abbrev pub factory_state : Series → State
factory_state k = unused k (factory_settings k)

abbrev pub is_never : Kept → Bool
is_never k = not (is_put k)

abbrev pub is_free : Item → Bool
is_free Free = true
is_free (Setting i) = false
is_free (Stored i) = false

abbrev pub is_blank : Entry → Bool
is_blank e = is_free e.item && (eqb e.former.parameter 0 && is_never e.former.kept)

unfoldable pub all_blank : List Entry → Bool
all_blank [] = true
all_blank (e ∷ es) = is_blank e && all_blank es

-- settings and stored values, of a series
pub record Contents : Type 0 where
  pub series : Series
  pub settings : List ℕ
  pub values : List Kept

abbrev pub contents_of : State → Contents
contents_of s = record { series = s.series; settings = s.settings; values = s.values }

-- the values at the places from i on
unfoldable pub values_right : ℕ → List Kept → Bool
values_right i [] = true
values_right i (v ∷ vs) = kept_right i v && values_right (i + 1) vs

-- "settings in range, each value never put or as a PUT can leave it"
abbrev pub contents_right : Contents → Bool
contents_right c = in_ranges (held_rows c.series) c.settings && (eqb (length c.values) values_n && values_right 0 c.values)

-- an item with its former content again
abbrev pub settings_back : List ℕ → Item → Former → List ℕ
settings_back l Free f = l
settings_back l (Setting i) f = set l i f.parameter
settings_back l (Stored i) f = l

abbrev pub values_back : List Kept → Item → Former → List Kept
values_back l Free f = l
values_back l (Setting i) f = l
values_back l (Stored i) f = set l i f.kept

abbrev pub contents_back : Contents → Entry → Contents
contents_back c e = record {
  series = c.series;
  settings = settings_back c.settings e.item e.former;
  values = values_back c.values e.item e.former;
}

-- An entry may be taken back where it is of a setting that can be SET (those that can't "have no undo entries", request 103) or of a value that is put
-- then; what it doesn't use is blank.
abbrev pub may_go_back : Contents → Item → Former → Bool
may_go_back c Free f = false
may_go_back c (Setting i) f = (ltb i (settings_n c.series) && not (is_asked (row_at c.series i))) && is_never f.kept
may_go_back c (Stored i) f = (ltb i values_n && is_put (value_held c.values i)) && eqb f.parameter 0

-- a parameter that a SET can leave at a place
abbrev pub settable : Series → ℕ → ℕ → Bool
settable k i p = ltb i (settings_n k) && (not (is_asked (row_at k i)) && in_range (row_at k i) p)

abbrev pub item_right : Series → Item → ℕ → Kept → Bool
item_right k Free p w = false
item_right k (Setting i) p w = settable k i p && is_never w
item_right k (Stored i) p w = ltb i values_n && (eqb p 0 && kept_right i w)

-- "entries holding the same": an entry by itself, whatever stands when it is taken back
abbrev pub entry_right : Series → Entry → Bool
entry_right k e = item_right k e.item e.former.parameter e.former.kept

-- right now, and right again as each of the first n entries is taken back, newest first
unfoldable pub right_back : ℕ → Contents → List Entry → Bool
right_back zero c u = contents_right c
right_back (suc n) c u =
    let e = get_or u n blank_entry in
    contents_right c && (may_go_back c e.item e.former && right_back n (contents_back c e) u)

-- a state with room for so many entries; those past the count are blank
abbrev pub is_state_of : ℕ → State → Bool
is_state_of capacity s =
    leb s.count capacity
    && (eqb (length s.undo) capacity && (all_blank (drop s.count s.undo) && right_back s.count (contents_of s) s.undo))

abbrev pub is_state : State → Bool
is_state = is_state_of entries_n
