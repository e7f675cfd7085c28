-- One call of the line machine: number, reply and next state for a state, a line and a room; and the same on a lent image.
use Rattle.std.specs.Prelude.{ℕ, ◌≡◌, cond, List, [], leb, length, Err}
use Rattle.figures.specs.Bytes.{laid}
use Rattle.state.specs.Image.{image_of, state_in, is_image}
use Rattle.state.specs.declared.entries.State.{State}
use Rattle.commands.specs.Shapes.{text_of, order_of}
use Rattle.lines.specs.Verdicts.{Verdict, is_accepted, line_verdict}
use Rattle.lines.specs.Orders.{line_deed, done_of}
use Rattle.lines.specs.Replies.{reply_of}
use Rattle.lines.specs.declared.verdicts.Refused.TheVariants.{Room, NoState}
use Rattle.lines.specs.declared.machine.Told.{Told}

pub record Outcome : Type 0 where
  pub verdict : Verdict
  pub reply : List ℕ
  pub next : State

abbrev pub outcome : Verdict → List ℕ → State → Outcome
outcome v r s = record { verdict = v; reply = r; next = s }

-- the line before the room is looked at: "A refused line replies `@W127`, with nothing else altered"
abbrev pub run : State → List ℕ → Outcome
run s line =
    let v = line_verdict s line in
    outcome v (reply_of s (text_of line) (order_of (text_of line)) v) (cond (is_accepted v) (done_of s (line_deed s.series line)) s)

-- 30: "reply or sheet, `@W127` included, longer than the room: nothing written or changed"
abbrev pub reply_in_room : State → ℕ → Outcome → Outcome
reply_in_room s room o = cond (leb (length o.reply) room) o (outcome (Err Room) [] s)

abbrev pub step : State → List ℕ → ℕ → Outcome
step s line room = reply_in_room s room (run s line)

-- "A call returns its number, 0 if accepted, and the count of reply bytes written (0 at 30 and 31)."
abbrev pub told : Verdict → ℕ → Told
told v n = record { verdict = v; count = n }

-- what a call on an image comes to
pub record Called : Type 0 where
  pub answer : Told
  pub image : List ℕ
  pub room : List ℕ

abbrev pub played : Outcome → List ℕ → Called
played o room = record { answer = told o.verdict (length o.reply); image = image_of o.next; room = laid o.reply room }

-- 31: "lent state bytes aren't a state: nothing written or changed"
abbrev pub call : List ℕ → List ℕ → List ℕ → Called
call image line room =
    cond (is_image image) (played (step (state_in image) line (length room)) room) (record { answer = told (Err NoState) 0; image = image; room = room })

abbrev pub Calls : List ℕ → List ℕ → List ℕ → Told → List ℕ → List ℕ → Type 0
Calls image line room r image' room' =
    (r ≡ (call image line room).answer) × ((image' ≡ (call image line room).image) × (room' ≡ (call image line room).room))
