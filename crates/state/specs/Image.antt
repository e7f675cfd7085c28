-- The image of a state, and the state whose image some bytes are. docs/IMAGE.md has the layout byte by byte.
use Rattle.std.specs.Prelude.{ℕ, zero, suc, ◌+◌, ◌*◌, ◌/◌, ◌%◌, Bool, cond, ◌&&◌, Some, None, List, [], ◌∷◌, ◌++◌, eqb, length, get_or, take, drop}
use Rattle.figures.specs.Bytes.{same_bytes}
use Rattle.instrument.specs.Values.{Kept, put_of, eight_bytes, eight_of, values_n}
use Rattle.state.specs.Entries.{entries_n, entry_of, is_state_of}
use Rattle.instrument.specs.Settings.{settings_n, held, padded}
use Rattle.instrument.specs.declared.settings.Series.{Series}
use Rattle.instrument.specs.declared.settings.Series.TheVariants.{Tps100, Tps300}
use Rattle.state.specs.declared.entries.Item.{Item}
use Rattle.state.specs.declared.entries.Item.TheVariants.{Free, Setting, Stored}
use Rattle.state.specs.declared.entries.Entry.{Entry}
use Rattle.state.specs.declared.entries.State.{State}

-- series and form
abbrev pub form_of : Series → ℕ
form_of Tps100 = 1
form_of Tps300 = 17

-- where the values start: after as many settings as the series has
abbrev pub values_at : Series → ℕ
values_at k = 1 + settings_n k

-- the bytes of a value, and of an entry
abbrev pub value_n : ℕ
value_n = 11

abbrev pub entry_n : ℕ
entry_n = 14

-- values, count and entries follow in every series alike; their offsets from there
abbrev pub count_at : ℕ
count_at = values_n * value_n

abbrev pub entries_at : ℕ
entries_at = count_at + 2

-- with room for so many entries
abbrev pub rest_nOf : ℕ → ℕ
rest_nOf capacity = entries_at + capacity * entry_n

abbrev pub rest_n : ℕ
rest_n = rest_nOf entries_n

abbrev pub image_nOf : ℕ → Series → ℕ
image_nOf capacity k = values_at k + rest_nOf capacity

abbrev pub image_n : Series → ℕ
image_n = image_nOf entries_n

-- never put, or unit, sign and eight characters
unfoldable pub kept_bytes : Kept → List ℕ
kept_bytes None = 0 ∷ 0 ∷ 0 ∷ 0 ∷ 0 ∷ 0 ∷ 0 ∷ 0 ∷ 0 ∷ 0 ∷ 0 ∷ []
kept_bytes (Some p) = 1 ∷ p.unit ∷ p.minus ∷ eight_bytes p.eight

abbrev pub item_bytes : Item → List ℕ
item_bytes Free = 0 ∷ 0 ∷ []
item_bytes (Setting i) = 1 ∷ i ∷ []
item_bytes (Stored i) = 2 ∷ i ∷ []

abbrev pub entry_bytes : Entry → List ℕ
entry_bytes e = item_bytes e.item ++ (e.former.parameter ∷ kept_bytes e.former.kept)

-- one after the other
unfoldable pub flat : {A : Type 0} → (A → List ℕ) → List A → List ℕ
flat f [] = []
flat f (x ∷ xs) = f x ++ flat f xs

abbrev pub values_bytes : List Kept → List ℕ
values_bytes = flat kept_bytes

abbrev pub entries_bytes : List Entry → List ℕ
entries_bytes = flat entry_bytes

-- two bytes, the high one first
abbrev pub count_bytes : ℕ → List ℕ
count_bytes n = (n / 256 % 256) ∷ (n % 256) ∷ []

abbrev pub rest_of : List Kept → ℕ → List Entry → List ℕ
rest_of values count undo = values_bytes values ++ (count_bytes count ++ entries_bytes undo)

-- series and form, settings, values, count, entries
unfoldable pub image_of : State → List ℕ
image_of s = form_of s.series ∷ (held s.series s.settings ++ rest_of s.values s.count s.undo)

abbrev pub encoded_in : State → List ℕ → List ℕ
encoded_in s image = cond (eqb (length image) (image_n s.series)) (image_of s) image

abbrev pub kept_in : List ℕ → Kept
kept_in l = cond (eqb (get_or l 0 0) 1) (put_of (get_or l 1 0) (get_or l 2 0) (eight_of (drop 3 l))) None

abbrev pub item_in : List ℕ → Item
item_in l = cond (eqb (get_or l 0 0) 1) (Setting (get_or l 1 0)) (cond (eqb (get_or l 0 0) 2) (Stored (get_or l 1 0)) Free)

abbrev pub entry_in : List ℕ → Entry
entry_in l = entry_of (item_in l) (get_or l 2 0) (kept_in (take value_n (drop 3 l)))

-- n rows of w bytes each
unfoldable pub rows_in : {A : Type 0} → (List ℕ → A) → ℕ → ℕ → List ℕ → List A
rows_in g w zero l = []
rows_in g w (suc n) l = g (take w l) ∷ rows_in g w n (drop w l)

abbrev pub values_in : List ℕ → List Kept
values_in = rows_in kept_in value_n values_n

abbrev pub entries_in_of : ℕ → List ℕ → List Entry
entries_in_of = rows_in entry_in entry_n

abbrev pub entries_in : List ℕ → List Entry
entries_in = entries_in_of entries_n

-- the series that the first byte says; one that says none is in no image
abbrev pub series_in : List ℕ → Series
series_in l = cond (eqb (get_or l 0 0) (form_of Tps300)) Tps300 Tps100

-- how many entries stand
abbrev pub count_from : List ℕ → ℕ
count_from rest = get_or rest count_at 0 * 256 + get_or rest (count_at + 1) 0

-- the state of a series that has those settings' bytes and the rest
abbrev pub state_from : ℕ → Series → List ℕ → List ℕ → State
state_from capacity k settings rest = record {
  series = k;
  settings = padded settings;
  values = values_in (take count_at rest);
  undo = entries_in_of capacity (take (capacity * entry_n) (drop entries_at rest));
  count = count_from rest;
}

-- the state of a series that the bytes would be the image of
unfoldable pub state_as_of : ℕ → Series → List ℕ → State
state_as_of capacity k l = state_from capacity k (take (settings_n k) (drop 1 l)) (drop (values_at k) l)

abbrev pub state_as : Series → List ℕ → State
state_as = state_as_of entries_n

abbrev pub state_in_of : ℕ → List ℕ → State
state_in_of capacity l = state_as_of capacity (series_in l) l

abbrev pub state_in : List ℕ → State
state_in = state_in_of entries_n

-- the bytes are the image of a state with room for so many entries
abbrev pub is_image_of : ℕ → List ℕ → Bool
is_image_of capacity l =
    eqb (length l) (image_nOf capacity (series_in l))
    && (same_bytes l (image_of (state_in_of capacity l)) && is_state_of capacity (state_in_of capacity l))

abbrev pub is_image : List ℕ → Bool
is_image = is_image_of entries_n
