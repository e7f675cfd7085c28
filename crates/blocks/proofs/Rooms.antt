-- Laws of writing: the first record that no word gives, the bytes of the words, and how long they are.
use Prim.Native.Nat.{ℕ, ◌+◌, ◌*◌, ◌<◌, ◌≤◌}
use mathlib.Core.Path.{◌≡◌, refl, sym, ◌∙◌}
use mathlib.Core.Bool.{Bool, true, false, and-eq-true_iff}
use mathlib.Core.List.{List, [], ◌∷◌, ◌++◌, append_assoc, append-nil}
use native.Mathlib.Nat.{zero-mul, suc-mul, mul-le-mul}
use native.Mathlib.Numerals.{add-one}
use native.Mathlib.Omega.{arith}
use lib.ListN.{length, get_or, take, replicate, length-append, length-replicate}
use lib.Seq.{take-suc}
use Rattle.figures.specs.Bytes.{laid}
use Rattle.figures.specs.Text.{star_bytes}
use Rattle.figures.proofs.Bytes.{length_laid}
use Rattle.words.specs.Records.{is_right}
use Rattle.words.specs.Reading.{word_size}
use Rattle.words.specs.Writing.{bytes_of}
use Rattle.units.specs.declared.kinds.Family.{Family}
use Rattle.words.specs.declared.records.Word.{Word}
use Rattle.words.proofs.RoundTrip.{bytes_length}
use Rattle.blocks.specs.Judging.{first_at}
use Rattle.blocks.specs.Composing.{words_bytes, unless_wrong}
use Rattle.blocks.specs.Rules.{right_all}
use Rattle.blocks.proofs.Steps.{cond_by, width_small, start_small}

-- what holds of each record's number and, where all are right, of what comes then
pub wrong_by : {A : Type 0} (P : A → Type 0) (f : Family) (wide : Bool) (i : ℕ) (ws : List Word) (wrong : ℕ → A) (next : A)
    → ((j : ℕ) → j < i + length ws → P (wrong j)) → (right_all f wide ws ≡ true → P next) → P (unless_wrong f wide i ws wrong next)
unfolding unless_wrong right_all
wrong_by P f wide i [] wrong next at last = last refl
wrong_by P f wide i (w ∷ ws) wrong next at last =
    cond_by P (is_right f wide w) (unless_wrong f wide (i + 1) ws wrong next) (wrong i)
    (λ e. wrong_by P f wide (i + 1) ws wrong next (λ j h. at j (omega arith)) (λ right. last (rw e right)))
    (λ _. at i (omega arith))

-- the words one after the other

words_snoc : (f : Family) (wide : Bool) (ws : List Word) (w : Word) → words_bytes f wide (ws ++ (w ∷ [])) ≡ words_bytes f wide ws ++ bytes_of f wide w
unfolding words_bytes
words_snoc f wide [] w = append-nil (bytes_of f wide w)
words_snoc f wide (v ∷ ws) w = rw (words_snoc f wide ws w) (sym (append_assoc (bytes_of f wide v) (words_bytes f wide ws) (bytes_of f wide w)))

-- those before the i-th, from the block's start
abbrev pub put_bytes : (f : Family) → Bool → List Word → ℕ → List ℕ
put_bytes f wide ws i = star_bytes wide ++ words_bytes f wide (take i ws)

pub put_next : (f : Family) (wide : Bool) (ws : List Word) (i : ℕ) (d : Word) → i < length ws
    → put_bytes f wide ws (i + 1) ≡ put_bytes f wide ws i ++ bytes_of f wide (get_or ws i d)
put_next f wide ws i d h =
    rw (add-one i, take-suc ws i d h, words_snoc f wide (take i ws) (get_or ws i d))
    (sym (append_assoc (star_bytes wide) (words_bytes f wide (take i ws)) (bytes_of f wide (get_or ws i d))))

pub words_length : (f : Family) (wide : Bool) (ws : List Word) → right_all f wide ws ≡ true → length (words_bytes f wide ws) ≡ length ws * word_size wide
unfolding words_bytes right_all
words_length f wide [] right = sym (zero-mul (word_size wide))
words_length f wide (w ∷ ws) right =
    let parts = (and-eq-true_iff (is_right f wide w) (right_all f wide ws)).0 right in
    omega (
      arith,
      length-append (bytes_of f wide w) (words_bytes f wide ws),
      bytes_length f wide w parts.0,
      words_length f wide ws parts.1,
      suc-mul (length ws) (word_size wide),
    )

pub words_fit : (f : Family) (wide : Bool) (ws : List Word) → length ws ≤ 32 → right_all f wide ws ≡ true → length (words_bytes f wide ws) ≤ 768
words_fit f wide ws few right =
    let size : word_size wide ≤ 24 = omega (arith, width_small wide) in
    let most : length ws * word_size wide ≤ 32 * 24 = mul-le-mul few size in
    omega (arith, words_length f wide ws right)

-- a room for the longest block
pub room_size : length (replicate {A = ℕ} 771 0) ≡ 771
room_size = length-replicate {A = ℕ} 771 0

pub room_length : (bytes : List ℕ) → length (laid bytes (replicate 771 0)) ≡ 771
room_length bytes = length_laid bytes (replicate 771 0) ∙ room_size

pub star_length : (wide : Bool) → length (star_bytes wide) ≡ first_at wide
star_length true = refl
star_length false = refl

pub star_small : (wide : Bool) → length (star_bytes wide) ≤ 1
star_small wide = rw (star_length wide) (start_small wide)
