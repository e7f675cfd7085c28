-- Decimal digits as bytes, and the number that they say.
use Rattle.std.specs.Prelude.{ℕ, zero, suc, ◌+◌, ◌-◌, ◌*◌, ◌/◌, ◌%◌, Bool, cond, ◌&&◌, List, [], ◌∷◌, ◌++◌, leb, ltb, length, Option, Some, None}
use Rattle.figures.specs.Bytes.{within, every}

-- `0` to `9`
abbrev pub is_digit : ℕ → Bool
is_digit = within 48 57

abbrev pub are_digits : ℕ → ℕ → Bool
are_digits tens ones = is_digit tens && is_digit ones

-- n, and then the digits of the list
unfoldable pub number_from : ℕ → List ℕ → ℕ
number_from n [] = n
number_from n (b ∷ l) = number_from (n * 10 + (b - 48)) l

abbrev pub number_of : List ℕ → ℕ
number_of = number_from 0

-- the last k digits of n
unfoldable pub digits_of : ℕ → ℕ → List ℕ
digits_of zero n = []
digits_of (suc k) n = digits_of k (n / 10) ++ ((48 + n % 10) ∷ [])

-- no word has more than 16 digits
abbrev pub number_in : List ℕ → Option ℕ
number_in s = cond (leb (length s) 16 && every is_digit s) (Some (number_of s)) None

-- how many digits a number has; one below 2^64 has 20 at most
unfoldable pub digits_nBy : ℕ → ℕ → ℕ
digits_nBy zero n = 1
digits_nBy (suc k) n = cond (ltb n 10) 1 (suc (digits_nBy k (n / 10)))

abbrev pub digits_n : ℕ → ℕ
digits_n = digits_nBy 19

-- a number in its fewest digits
abbrev pub decimal_of : ℕ → List ℕ
decimal_of n = digits_of (digits_n n) n
