-- What `put_word` leaves of the room: positions 1-6, the sign, the data and the blank stand one after the other.
use Prim.Native.Nat.{◌+◌, ◌≤◌}
use mathlib.Core.Path.{◌≡◌, ap, ◌∙◌}
use native.Mathlib.Omega.{arith}
use lib.ListN.{length}
use Rattle.figures.specs.Bytes.{laid}
use Rattle.figures.proofs.Bytes.{length_mid}
use Rattle.blocks.proofs.Puts.{headed_in, headed_length, data_room, word_on, word_is}
use Rattle.blocks.proofs.putting.put_word.Goals as goal

pub returns : goal.returns
returns c =
    let a = c.args in
    let out = a.out.now in
    let n = c.width_of-end.result in
    let head = c.put_head.new.out in
    let put = c.put_data.new.out in
    let sign = c.sign_byte.result in
    let long : n + 8 ≤ length out = omega (arith, c.width_of-end.ensures) in
    let room = headed_in out head sign in
    let whole = headed_length out head sign c.put_head.auto.out in
    let six : length head ≡ 6 = c.put_head.auto.out ∙ length_mid 0 6 out (omega arith) in
    let letters : length put ≡ n = c.put_data.auto.out ∙ data_room room n (omega (arith, whole)) in
    word_on out head put sign n (omega arith) six letters
    ∙ ap (λ x. laid x out) (word_is a.family a.wide a.w head put sign c.put_head.ensures c.sign_byte.ensures c.put_data.ensures)
