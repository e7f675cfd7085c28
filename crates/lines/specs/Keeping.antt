-- How the code keeps what the other files define: what a line comes to, and what may be relied on meanwhile.
use Rattle.instrument.specs.Values.{Kept}
use Rattle.std.specs.Prelude.{ℕ, zero, suc, ◌+◌, ◌*◌, ◌≤◌, ◌≡◌, List, [], ◌++◌, Bool, length, get_or, drop, Result, Ok, Err}
use Rattle.figures.specs.Bytes.{laid}
use Rattle.figures.specs.Text.{star_bytes}
use Rattle.words.specs.Reading.{word_size}
use Rattle.state.specs.Image.{image_of}
use Rattle.state.specs.Keeping.{parameter_laid, value_laid}
use Rattle.state.specs.declared.entries.Item.{Item}
use Rattle.state.specs.declared.entries.Item.TheVariants.{Free, Setting, Stored}
use Rattle.state.specs.declared.entries.Former.{Former}
use Rattle.state.specs.declared.entries.State.{State}
use Rattle.lines.specs.declared.machine.Told.{Told}
use Rattle.lines.specs.Machine.{Outcome, reply_in_room, told}
use Rattle.instrument.specs.declared.settings.Series.{Series}
use Rattle.commands.specs.Shapes.{groups_in, text_of, order_of}
use Rattle.lines.specs.Verdicts.{Verdict, accepted, refused_of, set_verdict, place_named, get_by, order_verdict, line_verdict}
use Rattle.commands.specs.declared.shapes.Order.{Order}
use Rattle.commands.specs.declared.shapes.NoOrder.{NoOrder}
use Rattle.lines.specs.declared.verdicts.Refused.{Refused}
use Rattle.lines.specs.Replies.{word_at}

-- what a line that runs to an outcome is answered in a room
abbrev pub Answered : State → Outcome → List ℕ → Told → List ℕ → Type 0
Answered s o room r room' =
    let f = reply_in_room s (length room) o in (r ≡ told f.verdict (length f.reply)) × (room' ≡ laid f.reply room)

-- and the image that it leaves
abbrev pub Ends : State → Outcome → List ℕ → Told → List ℕ → List ℕ → Type 0
Ends s o room r image' room' = Answered s o room r room' × (image' ≡ image_of (reply_in_room s (length room) o).next)

-- an image with an item's former content laid down again
abbrev pub back_laid : Series → Item → Former → List ℕ → List ℕ
back_laid k Free f l = l
back_laid k (Setting i) f l = parameter_laid i f.parameter l
back_laid k (Stored i) f l = value_laid k i f.kept l

-- what the code that runs a line and writes its reply may rely on: the line is accepted
abbrev pub Accepts : State → List ℕ → Order → Type 0
Accepts s t o = (Ok o ≡ order_of t) × ((order_verdict s t (Ok o) ≡ accepted) × (length t ≤ 100))

-- what an accepted line orders, or why it is refused
abbrev pub order_if : Verdict → Result Order NoOrder → Result Order Refused
order_if (Ok u) (Ok o) = Ok o
order_if (Ok u) (Err none) = Err (refused_of none)
order_if (Err r) o = Err r

abbrev pub judged : State → List ℕ → Result Order Refused
judged s line = order_if (line_verdict s line) (order_of (text_of line))

-- a SET is judged by the series and the count alone
abbrev pub bare_state : Series → ℕ → State
bare_state k count = record { series = k; settings = []; values = []; undo = []; count = count }

abbrev pub set_verdict_by : Series → ℕ → ℕ → ℕ → Verdict
set_verdict_by k count n p = set_verdict (bare_state k count) n p

-- GET's indexes are walked group by group, `/WI` and two digits each; `groups_verdict_lem` and `groups_words_lem`, in proofs/Lookups.antt, show that this is
-- `get_verdict` and `get_words` of the indexes
unfoldable pub groups_verdict : List Kept → ℕ → List ℕ → Verdict
groups_verdict values zero g = accepted
groups_verdict values (suc n) g = get_by values (place_named (get_or g 3 0) (get_or g 4 0)) (groups_verdict values n (drop 5 g))

unfoldable pub groups_words : Bool → List Kept → ℕ → List ℕ → List ℕ
groups_words wide values zero g = []
groups_words wide values (suc n) g = word_at wide values (place_named (get_or g 3 0) (get_or g 4 0)) ++ groups_words wide values n (drop 5 g)

abbrev pub groups_body : Bool → List Kept → ℕ → List ℕ → List ℕ
groups_body wide values n g = star_bytes wide ++ groups_words wide values n g

-- what a GET's words may rely on: they are accepted, and what is answered fits
pub record GetFits (values : List Kept) (g body room : List ℕ) : Type 0 where
  pub all_put : groups_verdict values (groups_in g) g ≡ accepted
  pub fits : length body ≤ length room

-- the longest reply: a `*`, the 19 wide words that 100 characters can ask for, and CR LF
abbrev pub reply_most : ℕ
reply_most = 1 + 19 * 24 + 2

-- how long the words of so many indexes are
abbrev pub get_n : Bool → ℕ → ℕ
get_n wide n = length (star_bytes wide) + n * word_size wide
