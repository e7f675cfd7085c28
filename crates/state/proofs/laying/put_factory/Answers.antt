-- All is blank but the first byte and the settings, and so is the factory's image.
use Rattle.std.proofs.Common.{◌≡◌, ℕ, ◌+◌, ◌-◌, ◌∙◌, refl, sym, ap, arith, List, [], ◌∷◌, ◌++◌, length, replicate, length-set, rules, suc}
use Rattle.std.proofs.Math.ListN.{set, length-replicate}
use borrow.Author.Tests.{eq-eqb}
use borrow.Rule.Slice.PartMut.{put_mid, mid_of, mid_len}
use Rattle.figures.proofs.Bytes.{fill_on, store_on}
use Rattle.instrument.specs.Settings.{settings_most, held}
use Rattle.state.specs.Image.{rest_n, image_n}
use Rattle.state.proofs.Images.{held_laid, drop_replicate, factory_image}
use Rattle.state.proofs.laying.put_factory.Goals as goal

parts : (x g : List ℕ) (f at : ℕ) → x ≡ replicate (at + rest_n) 0 → length g + 1 ≡ at → put_mid 1 (at - 1) (set x 0 f) g ≡ f ∷ (g ++ replicate rest_n 0)
parts x g f at ex hg =
    let hx : length x ≡ at + rest_n = ap length ex ∙ length-replicate (at + rest_n) 0 in
    let e1 = store_on [] x x 0 f refl (omega arith) refl in
    let e2 = fill_on (f ∷ []) x (set x 0 f) g 1 (at - 1) refl e1 (omega arith) in
    let n : at + rest_n - suc (length g) ≡ rest_n = omega arith in
    e2 ∙ ap (λ (t : List ℕ). (f ∷ g) ++ t) (rw (ex, drop_replicate {A = ℕ} (suc (length g)) (at + rest_n) 0, n))

alike : {f h : ℕ} {g w : List ℕ} → f ≡ h → g ≡ w → f ∷ (g ++ replicate rest_n 0) ≡ h ∷ (w ++ replicate rest_n 0)
alike ef eg = rw (ef, eg)

pub returns : goal.returns
returns c =
    let k = c.args.series in
    let l = c.args.image.now in
    let n = c.values_at.result in
    let here = c.values_at.ensures.0 in
    let long : length l ≡ n + rest_n = omega (arith, c.if-image-image_size.false, c.image_size.ensures, here) in
    let blank : c.fill.new.self ≡ replicate (length l) 0 = search rules in
    let zeros : c.fill.new.self ≡ replicate (n + rest_n) 0 = blank ∙ ap (λ (m : ℕ). replicate m 0) long in
    let room = set c.fill.new.self 0 c.form_of.result in
    let wide : length room ≡ n + rest_n = length-set c.fill.new.self 0 c.form_of.result ∙ ap length zeros ∙ length-replicate (n + rest_n) 0 in
    let settings : length c.factory_settings.result ≡ settings_most = search rules in
    let part : length (mid_of 1 (n - 1) room) ≡ n - 1 = mid_len 1 n room (omega arith) in
    let g = c.lay.new.room in
    let laid = held_laid k c.factory_settings.result (mid_of 1 (n - 1) room) g settings (omega arith) c.lay.ensures in
    let all = parts c.fill.new.self g c.form_of.result n zeros (omega (arith, c.lay.auto.room)) in
    rw (eq-eqb (length l) (image_n k) (omega arith)) (all ∙ alike c.form_of.ensures (laid ∙ ap (held k) c.factory_settings.ensures) ∙ sym (factory_image k))
