-- Where a word's positions stand in its bytes: the bytes of a word are its positions in order, and a word looks at no byte past its own.
use Prim.Native.Nat.{ℕ, suc, ◌+◌, ◌<◌, ◌≤◌}
use mathlib.Core.Path.{◌≡◌, sym, ap, ◌∙◌}
use mathlib.Core.Bool.{Bool}
use mathlib.Core.List.{List, [], ◌∷◌, ◌++◌, append_assoc}
use native.Mathlib.Omega.{arith}
use borrow.Author.Tests.{le-leb}
use lib.Dec.{eqb}
use Rattle.std.specs.Prelude.{Option}
use lib.ListN.{length, get_or, take, drop, length-append, take-append-drop}
use lib.Seq.{take_at, get_or_at, get_or-drop, drop-drop, drop-cons, length-take-le}
use Rattle.figures.specs.Decimal.{are_digits}
use Rattle.units.specs.Kinds.{kind_of, index_by, first_other, listed_by}
use Rattle.units.specs.Information.{info_marks, all_right, first_wrong, lead_of, sign_of, sign_right}
use Rattle.units.specs.declared.information.Marks.{Marks}
use Rattle.units.specs.Counts.{value_at}
use Rattle.words.specs.Records.{width, record_of}
use Rattle.words.specs.Reading.{OneWord, word_size, pos, data_in, data_right, data_at, figures_in, text_field, is_counted, count_or, right_word, unless, word_of}
use Rattle.units.specs.declared.kinds.Family.{Family}
use Rattle.units.specs.declared.counts.Count.{Count}
use Rattle.words.specs.declared.records.Word.{Word}
use Rattle.words.specs.declared.reading.Fault.TheVariants.{Index, Unlisted, Information, Sign, Characters, Separator, Value}
use Rattle.words.proofs.Checks.{data_length}

-- the positions of a word
pub record Places : Type 0 where
  pub tens : ℕ
  pub ones : ℕ
  pub first : ℕ
  pub second : ℕ
  pub mode : ℕ
  pub unit : ℕ
  pub sign : ℕ
  pub letters : List ℕ
  pub end : ℕ

abbrev pub index_from : Family → Places → ℕ
index_from f p = index_by f p.tens p.ones p.first

-- the bytes of a word, and then the rest
abbrev pub spread : Places → List ℕ → List ℕ
spread p rest = p.tens ∷ p.ones ∷ p.first ∷ p.second ∷ p.mode ∷ p.unit ∷ p.sign ∷ (p.letters ++ (p.end ∷ rest))

abbrev pub places_in : Bool → List ℕ → Places
places_in wide s = record {
  tens = pos 1 s;
  ones = pos 2 s;
  first = pos 3 s;
  second = pos 4 s;
  mode = pos 5 s;
  unit = pos 6 s;
  sign = pos 7 s;
  letters = data_in wide s;
  end = get_or s (7 + width wide) 0;
}

-- what 5, 6, 8 and 9 tell of a word
pub record Tells : Type 0 where
  pub other : ℕ
  pub info : ℕ
  pub letters : ℕ
  pub end : ℕ

-- the rules in order, and the first that fails gives its fault
abbrev pub rules : Tells → Bool → Bool → Bool → Bool → Bool → Bool → Bool → OneWord → OneWord
rules t digits listed info sign letters end value r =
    unless digits Index t.other
    (unless listed Unlisted 0
    (unless info Information t.info
    (unless sign Sign 6 (unless letters Characters t.letters (unless end Separator t.end (unless value Value 7 r))))))

-- what the places count, by the index that they say
abbrev pub value_by : Family → ℕ → Places → Option Count
value_by f i p = value_at (kind_of f i) i p.unit (sign_of p.sign) (figures_in (kind_of f i) p.letters)

abbrev pub record_by : Family → ℕ → Places → Count → Word
record_by f i p c = record_of i (lead_of i p.first ∷ p.second ∷ p.mode ∷ p.unit ∷ []) c (text_field (kind_of f i) p.letters)

abbrev pub informed_at : Family → ℕ → Places → Marks
informed_at f i p = info_marks f i (kind_of f i) (lead_of i p.first) p.second p.mode p.unit

abbrev pub tells_by : Family → Bool → ℕ → Places → Tells
tells_by f wide i p = record {
  other = first_other p.tens;
  info = 2 + first_wrong (informed_at f i p);
  letters = 7 + data_at (kind_of f i) p.letters;
  end = 7 + width wide;
}

abbrev pub word_at : Family → Bool → ℕ → Places → OneWord
word_at f wide i p =
    rules (tells_by f wide i p)
    (are_digits p.tens p.ones)
    (listed_by f p.tens p.ones p.first)
    (all_right (informed_at f i p))
    (sign_right (kind_of f i) p.sign)
    (data_right (kind_of f i) p.letters)
    (eqb p.end 32)
    (is_counted (value_by f i p))
    (right_word (record_by f i p (count_or (value_by f i p))))

abbrev pub word_by : Family → Bool → Places → OneWord
word_by f wide p = word_at f wide (index_from f p) p

long_word : (f : Family) (wide : Bool) (s : List ℕ) → word_size wide ≤ length s → word_of f wide s ≡ word_by f wide (places_in wide s)
long_word f wide s h = rw (le-leb (word_size wide) (length s) h)

-- a list that is long enough is its places, and then the rest
pub spread_places : (wide : Bool) (s : List ℕ) → word_size wide ≤ length s → s ≡ spread (places_in wide s) (drop (word_size wide) s)
spread_places wide s h =
    let next : suc (7 + width wide) ≡ word_size wide = omega arith in
    let tail : drop 7 s ≡ data_in wide s ++ (get_or s (7 + width wide) 0 ∷ drop (word_size wide) s) =
    sym (take-append-drop (width wide) (drop 7 s)) ∙ rw (drop-drop (width wide) 7 s, drop-cons s (7 + width wide) 0 (omega arith), next) in
    let from : (i : ℕ) → i < 7 → drop i s ≡ get_or s i 0 ∷ drop (suc i) s = λ i near. drop-cons s i 0 (omega arith) in
    from 0 (omega arith)
    ∙ rw (from 1 (omega arith), from 2 (omega arith), from 3 (omega arith), from 4 (omega arith), from 5 (omega arith), from 6 (omega arith)) (cc)

pub spread_on : (p : Places) (more rest : List ℕ) → spread p more ++ rest ≡ spread p (more ++ rest)
spread_on p more rest = rw (append_assoc p.letters (p.end ∷ more) rest)

module _ (wide : Bool) (p : Places) (l : length p.letters ≡ width wide) where
  spread_length : (rest : List ℕ) → length (spread p rest) ≡ word_size wide + length rest
  spread_length rest = omega (arith, length-append p.letters (p.end ∷ rest))

  pub word_spread : (f : Family) (rest : List ℕ) → word_of f wide (spread p rest) ≡ word_by f wide p
  word_spread f rest =
      let letters-are : data_in wide (spread p rest) ≡ p.letters = take_at p.letters (p.end ∷ rest) (width wide) l in
      let end_is : get_or (spread p rest) (7 + width wide) 0 ≡ p.end =
      sym (get_or-drop 7 (spread p rest) (width wide) 0) ∙ get_or_at p.letters p.end rest 0 (width wide) l in
      long_word f wide (spread p rest) (omega (arith, spread_length rest)) ∙ rw (letters-are, end_is)

  pub size_spread : length (spread p []) ≡ word_size wide
  size_spread = spread_length [] ∙ omega arith

  pub take_spread : (rest : List ℕ) → take (word_size wide) (spread p rest) ≡ spread p []
  take_spread rest = rw (← spread_on p [] rest) (take_at (spread p []) rest (word_size wide) size_spread)

-- a word looks at no byte past its own
pub never_past : (f : Family) (wide : Bool) (s rest : List ℕ) → word_size wide ≤ length s → word_of f wide (s ++ rest) ≡ word_of f wide s
never_past f wide s rest h =
    let p = places_in wide s in
    let more = drop (word_size wide) s in
    let is : s ++ rest ≡ spread p (more ++ rest) = ap (λ r. r ++ rest) (spread_places wide s h) ∙ spread_on p more rest in
    ap (word_of f wide) is ∙ word_spread wide p (data_length wide s h) f (more ++ rest) ∙ sym (long_word f wide s h)

pub never_short : (f : Family) (wide : Bool) (s : List ℕ) → word_size wide ≤ length s → word_of f wide (take (word_size wide) s) ≡ word_of f wide s
never_short f wide s h =
    let own = take (word_size wide) s in
    let long = length-take-le (word_size wide) s h in
    sym (never_past f wide own (drop (word_size wide) s) (omega arith)) ∙ ap (word_of f wide) (take-append-drop (word_size wide) s)
