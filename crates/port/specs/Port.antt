-- The instrument's port: a line is run at its CR, and an LF right after it is swallowed, however long the line is.
use Rattle.std.specs.Prelude.{ℕ, ◌+◌, ◌≡◌, Bool, true, false, cond, ◌&&◌, ◌||◌, eqb, ltb, take, set, replicate}
use mathlib.Core.List.{List, [], ◌∷◌, ◌++◌, map, flatten}
use Rattle.figures.specs.Text.{codes, cr, lf}
use Rattle.lines.specs.Machine.{told, Called, call, Calls}
use Rattle.lines.specs.Sessions.{Exchange, session, called}
use Rattle.lines.specs.declared.machine.Told.{Told}
use Rattle.lines.specs.Verdicts.{accepted}
use Rattle.port.specs.declared.Port.{Port}
use Rattle.port.specs.declared.Turn.{Turn}

-- the bytes of a line that are kept: enough that 20 and 21 are judged of it as of the whole line
abbrev pub kept_most : ℕ
kept_most = 101

abbrev pub is_end : ℕ → Bool
is_end b = eqb b cr || eqb b lf

abbrev pub quiet_port : Bool → Port
quiet_port after = record { bytes = replicate kept_most 0; n = 0; after = after }

abbrev pub kept_by : Port → ℕ → Port
kept_by p b =
    cond (ltb p.n kept_most) (record { bytes = set p.bytes p.n b; n = p.n + 1; after = false })
    (record { bytes = cond (is_end b) (set p.bytes 100 b) p.bytes; n = p.n; after = false })

-- what is kept of the line that comes in
abbrev pub line_kept : Port → List ℕ
line_kept p = take p.n p.bytes

-- the line that is run for it
abbrev pub line_of : Port → List ℕ
line_of p = line_kept p ++ codes "\r"

abbrev pub Answers : List ℕ → Port → List ℕ → Told → List ℕ → List ℕ → Type 0
Answers image p room r image' room' = Calls image (line_of p) room r image' room'

-- what comes of one byte; where it ends no line, nothing is told
pub record Heard : Type 0 where
  pub turn : Turn
  pub image : List ℕ
  pub room : List ℕ

abbrev pub waits : Port → List ℕ → List ℕ → Heard
waits p image room = record { turn = record { port = p; told = told accepted 0 }; image = image; room = room }

abbrev pub runs : Called → Heard
runs c = record { turn = record { port = quiet_port true; told = c.answer }; image = c.image; room = c.room }

abbrev pub heard : List ℕ → Port → ℕ → List ℕ → Heard
heard image p b room =
    cond (eqb b cr) (runs (call image (line_of p) room))
    (cond (eqb b lf && p.after) (waits (record { bytes = p.bytes; n = p.n; after = false }) image room)
    (waits (kept_by p b) image room))

abbrev pub Turns : List ℕ → Port → ℕ → List ℕ → Turn → List ℕ → List ℕ → Type 0
Turns image p b room r image' room' =
    let h = heard image p b room in (r ≡ h.turn) × ((image' ≡ h.image) × (room' ≡ h.room))

-- What that comes to, said of the lines themselves (proofs/Heard.antt): the lines of all that came in, whole, each with its CR
unfoldable pub lines_from : List ℕ → Bool → List ℕ → List (List ℕ)
lines_from line after [] = []
lines_from line after (b ∷ s) =
    cond (eqb b cr) ((line ++ codes "\r") ∷ lines_from [] true s)
    (cond (eqb b lf && after) (lines_from line false s)
    (lines_from (line ++ (b ∷ [])) false s))

abbrev pub lines_of : List ℕ → List (List ℕ)
lines_of = lines_from [] false

-- what goes out in all, and the image then
pub record Spoken : Type 0 where
  pub image : List ℕ
  pub out : List ℕ

-- each byte at the port, with a room of its own
pub record Listening : Type 0 where
  pub port : Port
  pub image : List ℕ

abbrev pub hears : List ℕ → Listening → ℕ → Exchange Listening
hears room l b =
    let h = heard l.image l.port b room in
    record { left = record { port = h.turn.port; image = h.image }; reply = take h.turn.told.count h.room }

abbrev pub spoken_by : List ℕ → Port → List ℕ → List ℕ → Spoken
spoken_by room p image s =
    let e = session (hears room) (record { port = p; image = image }) s in
    record { image = e.left.image; out = flatten e.replies }

-- each line by itself
abbrev pub spoken_for : List ℕ → List ℕ → List (List ℕ) → Spoken
spoken_for room image ls =
    let e = session called image (map (λ l. record { line = l; room = room }) ls) in
    record { image = e.left; out = flatten e.replies }
