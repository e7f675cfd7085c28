-- Text put part by part: one put and then another come to one put of both.
use Prim.Native.Nat.{ℕ, ◌+◌, ◌-◌, ◌≤◌, min}
use mathlib.Core.Path.{subst, ◌≡◌, refl, sym, ap, ◌∙◌}
use mathlib.Core.Bool.{Bool, true, false}
use mathlib.Core.List.{List, [], ◌++◌, append_assoc, append-nil}
use native.Mathlib.Omega.{arith}
use borrow.Author.Tests.{leb-true, leb-false}
use borrow.Rule.Slice.PartMut.{put_mid, mid_of}
use lib.Dec.{leb}
use lib.ListN.{length, take, drop, length-append, length-take, length-drop, take-append-drop, drop_of_length-le}
use lib.Seq.{take_all, drop-nil, take-nil, take_at, drop_at, take-append-le, take-append-add, drop-drop, length-take-le}
use Rattle.figures.specs.Bytes.{laid}
use Rattle.figures.proofs.Bytes.{length_laid, laid_fits, laid_cut}
use Rattle.figures.specs.declared.rooms.Room.{Room}
use Rattle.figures.specs.Rooms.{put_at, Puts, Fills}

pub put_length : (room t : List ℕ) (at : ℕ) → length (put_at room at t) ≡ length room
put_length room t at =
    omega (arith, length-append (take at room) (laid t (drop at room)), length-take at room, length_laid t (drop at room), length-drop at room)

-- past the end nothing is put
pub put_past : (room t : List ℕ) (at : ℕ) → length room ≤ at → put_at room at t ≡ room
put_past room t at h = rw (take_all at room h, drop_of_length-le room h, drop-nil, append-nil)

-- b after a
laid_more : (a b room : List ℕ) → length a ≤ length room → laid (a ++ b) room ≡ a ++ laid b (drop (length a) room)
laid_more a b room h =
    let on : length room ≡ length a + (length room - length a) = omega arith in
    rw (length-append a b, drop-drop (length b) (length a) room, length-drop (length a) room, ← append_assoc)
    (ap (λ n. take n (a ++ b) ++ drop (length a + length b) room) on ∙ rw take-append-add)

laid_none : (a b room : List ℕ) → length room ≤ length a → laid (a ++ b) room ≡ laid a room
laid_none a b room h = rw (laid_cut a room h, laid_cut (a ++ b) room (omega (arith, length-append a b)), take-append-le (length room) a b h)

put_by : (room a b : List ℕ) (at : ℕ) (fits : Bool) → leb (at + length a) (length room) ≡ fits
    → put_at (put_at room at a) (min (at + length a) (length room)) b ≡ put_at room at (a ++ b)
put_by room a b at true e =
    let h = leb-true (at + length a) (length room) e in
    let m : min (at + length a) (length room) ≡ at + length a = omega arith in
    let done = take at room ++ a in
    let rest = drop (at + length a) room in
    let size : length done ≡ at + length a = length-append (take at room) a ∙ rw (length-take-le at room (omega arith)) in
    let fits : length a ≤ length (drop at room) = omega (arith, length-drop at room) in
    let one : put_at room at a ≡ done ++ rest = rw (laid_fits a (drop at room) fits, drop-drop (length a) at room, append_assoc) in
    let front = take_at done rest (at + length a) size in
    let back = drop_at done rest (at + length a) size in
    rw (m, one, front, back, append_assoc, laid_more a b (drop at room) fits, drop-drop (length a) at room)
put_by room a b at false e =
    let h = leb-false (at + length a) (length room) e in
    let long = put_length room a at in
    put_past (put_at room at a) b (min (at + length a) (length room)) (omega arith) ∙ rw (laid_none a b (drop at room) (omega (arith, length-drop at room)))

pub puts_more : (room : List ℕ) (at : ℕ) (a b : List ℕ) {one two : List ℕ} {m n : ℕ} → Puts room at a m one → Puts one m b n two → Puts room at (a ++ b) n two
puts_more room at a b {one} p q =
    let long : length one ≡ length room = ap length p.1 ∙ put_length room a at in (
      omega (arith, p.0, q.0, length-append a b),
      q.1 ∙ rw (p.1, p.0) (put_by room a b at (leb (at + length a) (length room)) refl),
    )

pub lay_put : (room t last : List ℕ) (at : ℕ) → at ≤ length room → last ≡ laid t (mid_of at (length room - at) room)
    → put_mid at (length room - at) room last ≡ put_at room at t
lay_put room t last at h e =
    let rest = drop at room in
    let size = length-drop at room in
    rw (e, take_all (length room - at) rest (omega arith), drop_of_length-le rest {i = length room - at} (omega arith), append-nil)

-- the room is as long as it was
pub puts_long : (room : List ℕ) (at : ℕ) (t : List ℕ) {room' : List ℕ} {r : ℕ} → Puts room at t r room' → length room' ≡ length room
puts_long room at t p = ap length p.1 ∙ put_length room t at

pub puts_nothing : (room : List ℕ) (at : ℕ) → at ≤ length room → Puts room at [] at room
puts_nothing room at h = (omega arith, rw take-nil (sym (take-append-drop at room)))

pub puts_within : (room : List ℕ) (at : ℕ) (t : List ℕ) {room' : List ℕ} {r : ℕ} → Puts room at t r room' → r ≤ length room'
puts_within room at t p = omega (arith, p.0, puts_long room at t p)

-- a text and then another come to both

pub fills_more : {a b c : Room} {s t : List ℕ} → Fills a s b → Fills b t c → Fills a (s ++ t) c
fills_more p q = record { puts = puts_more _ _ _ _ p.puts q.puts; same = q.same ∙ p.same }

pub fills_as : {a b : Room} {s t : List ℕ} → Fills a s b → s ≡ t → Fills a t b
fills_as {a} {b} p e = subst (λ x. Fills a x b) e p

-- a room that was lent bytes, filled from its start
pub fills_new : {a b : Room} {bytes t : List ℕ} → a.bytes.now ≡ bytes → a.at ≡ 0 → Fills a t b → Puts bytes 0 t b.at b.bytes.now
fills_new eb ea p = rw (eb, ea) at p.puts

pub fills_nothing : (a : Room) → a.at ≤ length a.bytes.now → Fills a [] a
fills_nothing a h = record { puts = puts_nothing a.bytes.now a.at h; same = refl }
