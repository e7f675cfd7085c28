-- Settings and values are laid down one after the other, as many settings as the series has.
use Rattle.std.proofs.Common.{◌≡◌, ℕ, ◌+◌, ◌-◌, ◌≤◌, ◌∙◌, sym, ap, arith, List, ◌++◌, append_assoc, length, take, drop, length-append, rules}
use Rattle.std.proofs.Math.ListN.{take-append-drop}
use Rattle.std.proofs.Math.Seq.{length-take-le}
use borrow.Rule.Slice.PartMut.{put_mid, mid_of, mid_len}
use Rattle.figures.proofs.Bytes.{fill_on}
use Rattle.instrument.specs.Settings.{settings_most, held}
use Rattle.instrument.specs.Values.{values_n}
use Rattle.state.specs.Image.{count_at, values_bytes}
use Rattle.state.specs.Keeping.{laid_at}
use Rattle.state.proofs.Rows.{laid_fit, laid_not}
use Rattle.state.proofs.Images.{length_held, length_values, held_laid}
use Rattle.state.proofs.laying.put_contents.Goals as goal

parts : (l g v : List ℕ) (at : ℕ) → length g + 1 ≡ at → length v ≡ count_at → at + count_at ≤ length l
    → put_mid at (at + count_at - at) (put_mid 1 (at - 1) l g) v ≡ laid_at 1 (g ++ v) l
parts l g v at hg hv h =
    let f = take 1 l in
    let lf : length f ≡ 1 = length-take-le 1 l (omega arith) in
    let lg : length (f ++ g) ≡ at = length-append f g ∙ omega arith in
    let lv : length (g ++ v) + 1 ≡ at + count_at = omega (arith, length-append g v) in
    let first : l ≡ f ++ drop (length f) l = rw lf (sym (take-append-drop 1 l)) in
    let e2 = fill_on f l l g 1 (at - 1) (sym lf) first (omega arith) in
    let e3 = fill_on (f ++ g) l (put_mid 1 (at - 1) l g) v at (at + count_at - at) (sym lg) e2 (omega arith) in
    let end : length ((f ++ g) ++ v) ≡ 1 + length (g ++ v) = length-append (f ++ g) v ∙ omega arith in
    e3 ∙ rw (end, append_assoc f g v, append_assoc f (g ++ v)) (sym (laid_fit 1 (g ++ v) l (omega arith)))

pub returns-then-image-z : goal.returns-then-image-z
returns-then-image-z c =
    let a = c.args in
    let g = held a.series a.settings in
    let v = values_bytes a.values in
    let settings : length a.settings ≡ settings_most = search rules in
    let values : length a.values ≡ values_n = search rules in
    let lg = length_held a.series a.settings settings in
    let lv = length_values a.values values in
    sym (laid_not 1 (g ++ v) a.image.now (omega (arith, length-append g v, c.values_at-at.ensures.0)))

pub returns : goal.returns
returns c =
    let a = c.args in
    let l = a.image.now in
    let n = c.values_at-at.result in
    let g = c.lay.new.room in
    let v = c.put_values.new.out in
    let settings : length a.settings ≡ settings_most = search rules in
    let values : length a.values ≡ values_n = search rules in
    let room = mid_of 1 (n - 1) l in
    let hn = c.values_at-at.ensures.0 in
    let hr : length room ≡ n - 1 = mid_len 1 n l (omega arith) in
    let hv : length v ≡ count_at = ap length c.put_values.ensures ∙ length_values a.values values in
    let eg = held_laid a.series a.settings room g settings (omega arith) c.lay.ensures in
    parts l g v n (omega (arith, c.lay.auto.room)) hv (omega arith) ∙ (λ i. laid_at 1 (eg i ++ c.put_values.ensures i) l)
