-- How the code keeps an image: judged where it lies, read at its places, and laid down in part. `image_by`, in proofs/Judged.antt, shows that what is
-- judged is what an image is; proofs/Places.antt, that what is read is the state's, and that what is laid down is the image of the state so altered.
use Rattle.std.specs.Prelude.{ℕ, zero, suc, ◌+◌, ◌-◌, ◌*◌, min, ◌≡◌, Bool, true, false, cond, ◌&&◌, None, List, [], ◌∷◌, ◌++◌, map, eqb, leb, ltb, length, get_or, set, take, drop, replicate}
use Rattle.figures.specs.Bytes.{every, within, same_bytes}
use Rattle.instrument.specs.Settings.{settings_n, settings_most, rows_of, in_ranges, held, padded}
use Rattle.instrument.specs.Values.{Kept, values_n, is_put, kept_right}
use Rattle.instrument.specs.declared.settings.Series.{Series}
use Rattle.state.specs.Entries.{entries_n, blank_entry, entry_right}
use Rattle.state.specs.Image.{form_of, value_n, entry_n, values_at, count_at, entries_at, image_n, kept_bytes, entry_bytes, count_bytes, values_bytes}
use Rattle.state.specs.Image.{kept_in, entry_in, rows_in, values_in, count_from, series_in, is_image}
use Rattle.state.specs.declared.entries.Item.{Item}
use Rattle.state.specs.declared.entries.Item.TheVariants.{Free, Setting, Stored}
use Rattle.state.specs.declared.entries.Entry.{Entry}
use Rattle.state.specs.declared.entries.State.{State}

abbrev pub puts_of : List Kept → List Bool
puts_of = map is_put

-- which values are put, once an entry is taken back; a value that is never put then may not be named
abbrev pub back_right : List Bool → Item → Bool
back_right puts Free = true
back_right puts (Setting i) = true
back_right puts (Stored i) = ltb i values_n && get_or puts i false

abbrev pub puts_back : List Bool → Item → Kept → List Bool
puts_back puts Free k = puts
puts_back puts (Setting i) k = puts
puts_back puts (Stored i) k = set puts i (is_put k)

-- eleven bytes that are those of a value, which the place may hold
abbrev pub value_lies : ℕ → List ℕ → Bool
value_lies i l = same_bytes l (kept_bytes (kept_in l)) && kept_right i (kept_in l)

-- n of them, from the place i on
unfoldable pub values_lie : ℕ → ℕ → List ℕ → Bool
values_lie i zero l = true
values_lie i (suc n) l = value_lies i (take value_n l) && values_lie (i + 1) n (drop value_n l)

-- fourteen bytes that are those of an entry, which may stand
abbrev pub entry_lies : Series → List ℕ → Bool
entry_lies k l = same_bytes l (entry_bytes (entry_in l)) && entry_right k (entry_in l)

abbrev pub row_from : ℕ → List ℕ → List ℕ
row_from n l = take entry_n (drop (n * entry_n) l)

-- n entries, taken back newest first, in one pass
unfoldable pub entries_lie : Series → ℕ → List Bool → List ℕ → Bool
entries_lie k zero puts l = true
entries_lie k (suc n) puts l =
    let e = entry_in (row_from n l) in
    entry_lies k (row_from n l) && (back_right puts e.item && entries_lie k n (puts_back puts e.item e.former.kept) l)

-- the same of entries that are each right by themselves: none, taken back newest first, names a value then never put
unfoldable pub goes_back : ℕ → List Bool → List Entry → Bool
goes_back zero puts u = true
goes_back (suc n) puts u =
    let e = get_or u n blank_entry in back_right puts e.item && goes_back n (puts_back puts e.item e.former.kept) u

abbrev pub all_zeros : List ℕ → Bool
all_zeros = every (within 0 0)

-- what follows the settings, of a series
abbrev pub rest_right : Series → List ℕ → Bool
rest_right k rest =
    let values = take count_at rest in
    let entries = drop entries_at rest in
    let n = count_from rest in
    values_lie 0 values_n values
    && (leb n entries_n && (all_zeros (drop (n * entry_n) entries) && entries_lie k n (puts_of (values_in values)) entries))

abbrev pub is_image_by : List ℕ → Bool
is_image_by l =
    let k = series_in l in
    eqb (length l) (image_n k)
    && (eqb (get_or l 0 0) (form_of k) && (in_ranges (rows_of k) (take (settings_n k) (drop 1 l)) && rest_right k (drop (values_at k) l)))

-- what may be relied on once the judge has said yes: the bytes are an image, of that series
pub record Imaged (k : Series) (l : List ℕ) : Type 0 where
  pub is : is_image l ≡ true
  pub series : k ≡ series_in l

abbrev pub count_in : Series → List ℕ → ℕ
count_in k l = count_from (drop (values_at k) l)

-- the value that is stored at a place; past the last, and past the end of the bytes, never put
abbrev pub stored_in : Series → ℕ → List ℕ → Kept
stored_in k i l =
    let at = values_at k + i * value_n in
    cond (ltb i values_n && leb (at + value_n) (length l)) (kept_in (take value_n (drop at l))) None

-- the entry at a place of the list; past the last, and past the end of the bytes, blank
abbrev pub entry_at : Series → ℕ → List ℕ → Entry
entry_at k n l =
    let at = values_at k + entries_at + n * entry_n in
    cond (ltb n entries_n && leb (at + entry_n) (length l)) (entry_in (take entry_n (drop at l))) blank_entry

-- values and entries from bytes as many as an image has for them, and blank otherwise; entries past the count are blank
abbrev pub values_read : List ℕ → List Kept
values_read l = cond (eqb (length l) (values_n * value_n)) (values_in l) (replicate values_n None)

abbrev pub entries_read : ℕ → List ℕ → List Entry
entries_read count l =
    let n = cond (eqb (length l) (entries_n * entry_n)) (min count entries_n) 0 in
    rows_in entry_in entry_n n l ++ replicate (entries_n - n) blank_entry

-- a state by the parts of its image
abbrev pub state_of : Series → List ℕ → List ℕ → List ℕ → ℕ → State
state_of k settings values entries count = record {
  series = k;
  settings = padded settings;
  values = values_read values;
  undo = entries_read count entries;
  count = count;
}

-- bytes laid down from a place on, where they fit
abbrev pub laid_at : ℕ → List ℕ → List ℕ → List ℕ
laid_at at w l = cond (leb (at + length w) (length l)) (take at l ++ (w ++ drop (at + length w) l)) l

abbrev pub parameter_laid : ℕ → ℕ → List ℕ → List ℕ
parameter_laid i p l = cond (ltb i settings_most) (laid_at (1 + i) (p ∷ []) l) l

abbrev pub value_laid : Series → ℕ → Kept → List ℕ → List ℕ
value_laid k i w l = cond (ltb i values_n) (laid_at (values_at k + i * value_n) (kept_bytes w) l) l

abbrev pub entry_laid : Series → ℕ → Entry → List ℕ → List ℕ
entry_laid k n e l = cond (ltb n entries_n) (laid_at (values_at k + entries_at + n * entry_n) (entry_bytes e) l) l

abbrev pub count_laid : Series → ℕ → List ℕ → List ℕ
count_laid k n l = laid_at (values_at k + count_at) (count_bytes n) l

-- the entries up to the count blank, and the count 0
abbrev pub cleared : Series → List ℕ → List ℕ
cleared k l =
    let n = count_in k l * entry_n in
    let at = values_at k + entries_at in
    cond (leb (at + n) (length l)) (count_laid k 0 (laid_at at (replicate n 0) l)) l

abbrev pub contents_laid : Series → List ℕ → List Kept → List ℕ → List ℕ
contents_laid k settings values l = laid_at 1 (held k settings ++ values_bytes values) l
