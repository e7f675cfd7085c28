-- The same of a block: the byte that 5 to 9 tell is one of its first wrong word, and the first of that word that breaks the rule.
use Prim.Native.Nat.{ℕ, ◌≤◌}
use mathlib.Core.Path.{◌≡◌}
use mathlib.Core.List.{List}
use lib.ListN.{drop}
use Rattle.std.specs.Prelude.{Err}
use Rattle.units.specs.declared.kinds.Family.{Family}
use Rattle.words.specs.Reading.{fault_number}
use Rattle.words.specs.declared.reading.Fault.{Fault}
use Rattle.blocks.specs.Judging.{is_wide, judged}
use Rattle.blocks.specs.Rules.{word_start, FirstFault}
use Rattle.blocks.specs.declared.answers.Refusal.TheVariants.{Wrong}
use Rattle.blocks.proofs.Faults.{own_fault}
use Rattle.damage.specs.Breaks.{First}
use Rattle.damage.proofs.Breaks.{first_breaks}

pub block_breaks : (f : Family) (s : List ℕ) (places : ℕ) (x : Fault) (at : ℕ) → (judged f s places).answer ≡ Err (Wrong x at)
    → 5 ≤ fault_number x → fault_number x ≤ 9
    → (own : FirstFault f s x at) × First f (is_wide s) (drop (word_start (is_wide s) own.number) s) x own.byte
block_breaks f s places x at is low high =
    let own = own_fault f s places x at is in
    (own, first_breaks f (is_wide s) (drop (word_start (is_wide s) own.number) s) x own.byte own.fault low high)
