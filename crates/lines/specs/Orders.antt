-- What an accepted line does: it asks, it changes one thing, it undoes or it keeps. "An accepted SET or PUT adds one, even if nothing altered. UNDO
-- takes the newest back, restoring "never put" too. KEEP empties the list".
use Rattle.std.specs.Prelude.{ℕ, ◌+◌, ◌-◌, cond, List, eqb, get_or, set, drop, Option, Some, None, Result, Ok, Err}
use Rattle.words.specs.Reading.{pos}
use Rattle.instrument.specs.Settings.{setting_place}
use Rattle.instrument.specs.Values.{Kept, put_kept}
use Rattle.state.specs.Entries.{value_held, entry_of, blank_entry, no_entries, Contents, contents_of, contents_back}
use Rattle.instrument.specs.declared.settings.Series.{Series}
use Rattle.state.specs.declared.entries.Item.TheVariants.{Setting, Stored}
use Rattle.state.specs.declared.entries.Entry.{Entry}
use Rattle.state.specs.declared.entries.State.{State}
use Rattle.commands.specs.Shapes.{text_of, order_of}
use Rattle.lines.specs.Verdicts.{place_named}
use Rattle.commands.specs.declared.shapes.Order.{Order}
use Rattle.commands.specs.declared.shapes.Order.TheVariants as order
use Rattle.commands.specs.declared.shapes.NoOrder.{NoOrder}

-- a state of some contents
abbrev pub state_with : Contents → List Entry → ℕ → State
state_with c undo count = record { series = c.series; settings = c.settings; values = c.values; undo = undo; count = count }

-- what a SET or PUT changes: a setting, by its place and parameter, or a stored value, by its place and content
pub data Change : Type 0 where
  set_to : ℕ → ℕ → Change
  put_to : ℕ → Kept → Change

-- "playing a line only stores what it names"
abbrev pub stores : Contents → Change → Contents
stores c (set_to i p) = record { series = c.series; settings = set c.settings i p; values = c.values }
stores c (put_to i k) = record { series = c.series; settings = c.settings; values = set c.values i k }

-- the entry that a change adds: the item, and what stood there
abbrev pub entry_for : Contents → Change → Entry
entry_for c (set_to i p) = entry_of (Setting i) (get_or c.settings i 0) None
entry_for c (put_to i k) = entry_of (Stored i) 0 (value_held c.values i)

-- an entry more
abbrev pub pushed : State → Entry → List Entry
pushed s e = set s.undo s.count e

-- "An accepted SET or PUT adds one, even if nothing altered."
abbrev pub changed_by : State → Change → State
changed_by s d = state_with (stores (contents_of s) d) (pushed s (entry_for (contents_of s) d)) (s.count + 1)

abbrev pub newest : State → Entry
newest s = get_or s.undo (s.count - 1) blank_entry

-- "UNDO takes the newest back", and its place is blank again
abbrev pub taken_back : State → Entry → State
taken_back s e = state_with (contents_back (contents_of s) e) (set s.undo (s.count - 1) blank_entry) (s.count - 1)

abbrev pub undo_of : State → State
undo_of s = cond (eqb s.count 0) s (taken_back s (newest s))

-- "KEEP empties the list"
abbrev pub keep_of : State → State
keep_of s = no_entries s.series s.settings s.values

pub data Deed : Type 0 where
  asks : Deed
  changes : Change → Deed
  undoes : Deed
  keeps : Deed

-- by the place that a line names; one that names none isn't accepted, and asks
abbrev pub change_at : (ℕ → Change) → Option ℕ → Deed
change_at change None = asks
change_at change (Some i) = changes (change i)

abbrev pub set_deed : Series → ℕ → ℕ → Deed
set_deed k n p = change_at (λ i. set_to i p) (setting_place k n)

abbrev pub put_deed : List ℕ → Deed
put_deed word = change_at (λ i. put_to i (put_kept word)) (place_named (pos 1 word) (pos 2 word))

abbrev pub deed_of : Series → List ℕ → Result Order NoOrder → Deed
deed_of k t (Err none) = asks
deed_of k t (Ok (order.Set n p)) = set_deed k n p
deed_of k t (Ok (order.Conf n)) = asks
deed_of k t (Ok order.Put) = put_deed (drop 4 t)
deed_of k t (Ok order.Get) = asks
deed_of k t (Ok order.Undo) = undoes
deed_of k t (Ok order.Keep) = keeps

abbrev pub line_deed : Series → List ℕ → Deed
line_deed k line = deed_of k (text_of line) (order_of (text_of line))

-- the state once that is done
abbrev pub done_of : State → Deed → State
done_of s asks = s
done_of s (changes d) = changed_by s d
done_of s undoes = undo_of s
done_of s keeps = keep_of s
