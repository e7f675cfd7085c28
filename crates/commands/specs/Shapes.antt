-- A line's end and its shape. "One call takes exactly one line with its CR or CR LF, whatever setting 73 says .. Upper case only."
use Rattle.std.specs.Prelude.{ℕ, zero, suc, ◌+◌, ◌-◌, ◌/◌, Bool, cond, not, ◌&&◌, ◌||◌, List, [], ◌∷◌, eqb, leb, ltb, length, get_or, take, drop, Option, Some, None, Result, Ok, Err}
use Rattle.figures.specs.Text.{codes, byte, cr, lf}
use Rattle.figures.specs.Bytes.{within, every, run_of, is_other, starts_with, same_bytes}
use Rattle.figures.specs.Decimal.{is_digit, number_of, are_digits}
use Rattle.commands.specs.declared.shapes.Order.{Order}
use Rattle.commands.specs.declared.shapes.Order.TheVariants.{Set, Conf, Put, Get, Undo, Keep}
use Rattle.commands.specs.declared.shapes.NoOrder.{NoOrder}
use Rattle.commands.specs.declared.shapes.NoOrder.TheVariants.{WrongShape, NoKeyword}

-- the byte at a place from the end, the last at 1
abbrev pub from_end : ℕ → List ℕ → ℕ
from_end k l = cond (leb k (length l)) (get_or l (length l - k) 0) 0

-- the length of a line's end: CR, CR LF, or none
abbrev pub end_of : List ℕ → ℕ
end_of l = cond (eqb (from_end 1 l) cr) 1 (cond (eqb (from_end 1 l) lf && eqb (from_end 2 l) cr) 2 0)

-- the line without its end
abbrev pub text_of : List ℕ → List ℕ
text_of l = take (length l - end_of l) l

abbrev pub is_plain : List ℕ → Bool
is_plain = every (λ b. not (eqb b cr) && not (eqb b lf))

-- 20: "no CR or CR LF at the end, or a CR or LF earlier"
abbrev pub is_ended : List ℕ → Bool
is_ended l = ltb 0 (end_of l) && is_plain (text_of l)

-- "Numbers have 1 to 4 digits and no leading zero, save `0` itself."
abbrev pub number_right : List ℕ → Bool
number_right s = within 1 4 (length s) && ((eqb (length s) 1 || not (eqb (get_or s 0 0) (byte "0"))) && every is_digit s)

abbrev pub number_shape : List ℕ → Option ℕ
number_shape s = cond (number_right s) (Some (number_of s)) None

-- the place of the first slash, or the length where there is none
abbrev pub slash_at : List ℕ → ℕ
slash_at s = run_of (is_other (byte "/")) s

-- `number/parameter`
abbrev pub set_order : List ℕ → Result Order NoOrder
set_order s =
    cond (ltb (slash_at s) (length s) && (number_right (take (slash_at s) s) && number_right (drop (slash_at s + 1) s)))
    (Ok (Set (number_of (take (slash_at s) s)) (number_of (drop (slash_at s + 1) s)))) (Err WrongShape)

-- `number`
abbrev pub conf_order : List ℕ → Result Order NoOrder
conf_order s = cond (number_right s) (Ok (Conf (number_of s))) (Err WrongShape)

-- `/WI` and two digits
abbrev pub group_right : List ℕ → Bool
group_right g = leb 5 (length g) && (starts_with (codes "/WI") g && are_digits (get_or g 3 0) (get_or g 4 0))

-- n groups and nothing after them
unfoldable pub groups_right : ℕ → List ℕ → Bool
groups_right zero g = eqb (length g) 0
groups_right (suc n) g = group_right g && groups_right n (drop 5 g)

abbrev pub groups_in : List ℕ → ℕ
groups_in s = length s / 5

-- "one or more `/WI` with two digits"
abbrev pub get_order : List ℕ → Result Order NoOrder
get_order s = cond (ltb 0 (length s) && groups_right (groups_in s) s) (Ok Get) (Err WrongShape)

-- the numbers after each `/WI` of n groups
unfoldable pub indexes_in : ℕ → List ℕ → List ℕ
indexes_in zero g = []
indexes_in (suc n) g = number_of (take 2 (drop 3 g)) ∷ indexes_in n (drop 5 g)

-- the indexes that a GET names, in the line's order
abbrev pub indexes_of : List ℕ → List ℕ
indexes_of t = indexes_in (groups_in (drop 5 t)) (drop 5 t)

-- the keywords
abbrev pub set_slash : List ℕ
set_slash = codes "SET/"

abbrev pub conf_slash : List ℕ
conf_slash = codes "CONF/"

abbrev pub put_slash : List ℕ
put_slash = codes "PUT/"

abbrev pub get_i : List ℕ
get_i = codes "GET/I"

abbrev pub undo_word : List ℕ
undo_word = codes "UNDO"

abbrev pub keep_word : List ℕ
keep_word = codes "KEEP"

-- "a line that starts with no keyword (SET, CONF, PUT, GET, UNDO, KEEP)" (request 104)
abbrev pub has_keyword : List ℕ → Bool
has_keyword t =
    starts_with (codes "SET") t
    || (starts_with (codes "CONF") t
    || (starts_with (codes "PUT") t || (starts_with (codes "GET") t || (starts_with undo_word t || starts_with keep_word t))))

-- the shapes; "`PUT/` and 16 characters". WrongShape is "a known keyword with a wrong remainder"
abbrev pub order_of : List ℕ → Result Order NoOrder
order_of t =
    cond (starts_with set_slash t) (set_order (drop 4 t))
    (cond (starts_with conf_slash t) (conf_order (drop 5 t))
    (cond (starts_with put_slash t) (cond (eqb (length t) 20) (Ok Put) (Err WrongShape))
    (cond (starts_with get_i t) (get_order (drop 5 t))
    (cond (same_bytes t undo_word) (Ok Undo)
    (cond (same_bytes t keep_word) (Ok Keep)
    (cond (has_keyword t) (Err WrongShape) (Err NoKeyword)))))))
