-- The parts that are read are those of an image.
use Rattle.std.proofs.Common.{arith, ◌≡◌, ℕ, ◌+◌, ◌-◌, ◌*◌, sym, ap, ◌∙◌, take, drop}
use lib.Seq.{drop-drop}
use Rattle.instrument.specs.Settings.{settings_n}
use Rattle.state.specs.Entries.{entries_n}
use Rattle.state.specs.Image.{entry_n, values_at, count_at, entries_at}
use Rattle.state.specs.Keeping.{state_of}
use Rattle.state.proofs.Places.{count_read, state_read}
use Rattle.lines.proofs.images.Image.state.Goals as goal

pub returns : goal.returns
returns c =
    let k = c.args.self.series in
    let l = c.args.self.bytes.now in
    let im = c.args.self.judged in
    let values = c.values_at-values.result in
    let at : values ≡ values_at k = c.values_at-values.ensures.0 in
    let settings : values - 1 ≡ settings_n k = omega arith in
    let to_count : values + 121 - values ≡ count_at = omega arith in
    let to_end : values + 1019 - (values + 123) ≡ entries_n * entry_n = omega arith in
    let entries : drop (values + 123) l ≡ drop entries_at (drop (values_at k) l) = sym (drop-drop 123 values l) ∙ ap (λ (i : ℕ). drop 123 (drop i l)) at in
    let count = c.count.ensures ∙ sym (count_read im) in
    c.state_of.ensures
    ∙ (λ i. state_of k (take (settings i) (drop 1 l)) (take (to_count i) (drop (at i) l)) (take (to_end i) (entries i)) (count i))
    ∙ state_read im
