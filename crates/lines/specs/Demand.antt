-- Demand 3, by itself: which changes are unstruck, and what playing them gives.
use Rattle.std.specs.Prelude.{ℕ, zero, suc, Bool, true, false, cond, List, [], ◌∷◌, get_or}
use Rattle.state.specs.Entries.{value_held, blank_entry, Contents, contents_of, contents_back}
use Rattle.state.specs.declared.entries.Item.{Item}
use Rattle.state.specs.declared.entries.Item.TheVariants.{Free, Setting, Stored}
use Rattle.state.specs.declared.entries.Entry.{Entry}
use Rattle.state.specs.declared.entries.State.{State}
use Rattle.lines.specs.Verdicts.{is_accepted}
use Rattle.lines.specs.Orders.{Change, set_to, put_to, stores, Deed, asks, changes, undoes, keeps, line_deed}
use Rattle.lines.specs.Machine.{step}
use Rattle.lines.specs.Sessions.{Exchange, session, Call}

-- what stands of the calls so far, newest first: the changes that SET and PUT lines made and that are left unstruck, and each KEEP
pub data Mark : Type 0 where
  changed : Change → Mark
  kept : Mark

-- each accepted UNDO strikes the newest
unfoldable pub strike : List Mark → List Mark
strike [] = []
strike (changed d ∷ ms) = ms
strike (kept ∷ ms) = kept ∷ strike ms

abbrev pub mark : List Mark → Deed → List Mark
mark ms asks = ms
mark ms (changes d) = changed d ∷ ms
mark ms undoes = strike ms
mark ms keeps = kept ∷ ms

-- What stands at a start, which may be any state. "A loaded list counts as lines accepted since the last KEEP, each a SET or PUT that stored what stands
-- just before its entry is taken back, newest first" (request 106). The factory and a sheet of form 1 have no entry, and nothing stands there.
abbrev pub mark_of : Contents → Item → List Mark → List Mark
mark_of c Free ms = ms
mark_of c (Setting i) ms = changed (set_to i (get_or c.settings i 0)) ∷ ms
mark_of c (Stored i) ms = changed (put_to i (value_held c.values i)) ∷ ms

-- of the first n entries
unfoldable pub marks_back : ℕ → Contents → List Entry → List Mark
marks_back zero c u = []
marks_back (suc n) c u = let e = get_or u n blank_entry in mark_of c e.item (marks_back n (contents_back c e) u)

abbrev pub stands_at : State → List Mark
stands_at s = marks_back s.count (contents_of s) s.undo

-- "demand 3 then plays from the state with all of them taken back"
unfoldable pub all_back : ℕ → Contents → List Entry → Contents
all_back zero c u = c
all_back (suc n) c u = all_back n (contents_back c (get_or u n blank_entry)) u

abbrev pub start_of : State → Contents
start_of s = all_back s.count (contents_of s) s.undo

-- a line that is refused leaves no mark
abbrev pub marked : State → Call → List Mark → List Mark
marked s c ms = cond (is_accepted (step s c.line c.room).verdict) (mark ms (line_deed s.series c.line)) ms

-- a state, and what stands of the calls that led to it
pub record Followed : Type 0 where
  pub state : State
  pub standing : List Mark

abbrev pub follows : Followed → Call → Exchange Followed
follows f c =
    let o = step f.state c.line c.room in
    record { left = record { state = o.next; standing = marked f.state c f.standing }; reply = o.reply }

abbrev pub begins : State → Followed
begins s = record { state = s; standing = stands_at s }

-- what stands after some calls from a state
abbrev pub standing : State → List Call → List Mark
standing s cs = (session follows (begins s) cs).left.standing

-- the unstruck changes played in order, the oldest first
unfoldable pub play_all : Contents → List Mark → Contents
play_all c [] = c
play_all c (changed d ∷ ms) = stores (play_all c ms) d
play_all c (kept ∷ ms) = play_all c ms

-- an unstruck change stands after the last KEEP, what stands at the start coming after one
abbrev pub stands : List Mark → Bool
stands [] = false
stands (changed d ∷ ms) = true
stands (kept ∷ ms) = false
