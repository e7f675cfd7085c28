-- The reply to a line. "Each reply ends as setting 73 said before the line (0 CR, 1 CR LF). A refused line replies `@W127`".
use Rattle.std.specs.Prelude.{ℕ, Bool, cond, not, eqb, get_or, Option, Some, None, Result, Ok, Err}
use mathlib.Core.List.{List, [], ◌++◌, flat_map}
use Rattle.figures.specs.Text.{codes, end_bytes, star_bytes}
use Rattle.figures.specs.Decimal.{digits_of}
use Rattle.instrument.specs.Settings.{setting_place, parameter_of}
use Rattle.instrument.specs.Values.{Kept, value_place, get_word, word_in}
use Rattle.instrument.specs.declared.settings.Series.{Series}
use Rattle.state.specs.Entries.{value_held}
use Rattle.state.specs.declared.entries.State.{State}
use Rattle.commands.specs.Shapes.{indexes_of}
use Rattle.lines.specs.Verdicts.{Verdict, is_accepted}
use Rattle.commands.specs.declared.shapes.Order.{Order}
use Rattle.commands.specs.declared.shapes.Order.TheVariants as order
use Rattle.commands.specs.declared.shapes.NoOrder.{NoOrder}

abbrev pub ends_lf : State → Bool
ends_lf s = not (eqb (parameter_of s.series s.settings 73) 0)

abbrev pub reply_end : State → List ℕ
reply_end s = end_bytes (ends_lf s)

-- `@W127`
abbrev pub warning : List ℕ
warning = codes "@W127"

-- `?`
abbrev pub done : List ℕ
done = codes "?"

-- "Reply both as four digits, `0070/0005`."
abbrev pub conf_at : List ℕ → ℕ → Option ℕ → List ℕ
conf_at settings n None = []
conf_at settings n (Some i) = digits_of 4 n ++ (codes "/" ++ digits_of 4 (get_or settings i 0))

abbrev pub conf_body : Series → List ℕ → ℕ → List ℕ
conf_body k settings n = conf_at settings n (setting_place k n)

-- "Reply: the words in that order, each with its blank; an index may repeat."
abbrev pub word_at : Bool → List Kept → Option ℕ → List ℕ
word_at wide values None = []
word_at wide values (Some i) = word_in wide (get_word i (value_held values i))

abbrev pub get_words : Bool → List Kept → List ℕ → List ℕ
get_words wide values = flat_map (λ n. word_at wide values (value_place n))

-- "When 137 is 1, GET answers a `*` and then wide words" (request 103); a series that hasn't 137 never does
abbrev pub answers_wide : State → Bool
answers_wide s = not (eqb (parameter_of s.series s.settings 137) 0)

abbrev pub get_body : Bool → List Kept → List ℕ → List ℕ
get_body wide values indexes = star_bytes wide ++ get_words wide values indexes

-- the reply to an accepted line, without its end
abbrev pub body_of : State → List ℕ → Result Order NoOrder → List ℕ
body_of s t (Err none) = []
body_of s t (Ok (order.Set n p)) = done
body_of s t (Ok (order.Conf n)) = conf_body s.series s.settings n
body_of s t (Ok order.Put) = done
body_of s t (Ok order.Get) = get_body (answers_wide s) s.values (indexes_of t)
body_of s t (Ok order.Undo) = done
body_of s t (Ok order.Keep) = done

-- the reply that would be given
abbrev pub reply_of : State → List ℕ → Result Order NoOrder → Verdict → List ℕ
reply_of s t o v = cond (is_accepted v) (body_of s t o) warning ++ reply_end s
