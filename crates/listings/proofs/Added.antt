-- One more edit in a list by value, where it is due: past the count the noughts stay.
use mathlib.Core.Path.{◌≡◌, sym, ap, ◌∙◌}
use mathlib.Core.Bool.{Bool, true, false, cond}
use mathlib.Core.List.{List, ◌∷◌}
use Prim.Native.Nat.{ℕ, suc, ◌+◌, ◌<◌}
use native.Mathlib.Nat.{add-zero}
use native.Mathlib.Omega.{arith}
use lib.ListN.{set, drop, length-replicate, get_or-replicate}
use lib.Seq.{drop-drop, drop-set-lt, drop-cons, drop-set-add}
use Rattle.listings.specs.declared.edits.Edit.{Edit}
use Rattle.listings.specs.Edits.{no_edit, no_edits}
use Rattle.listings.specs.Keeping.{one_if}

module _ (list : List Edit) (n : ℕ) (few : n < 34) (past : drop n list ≡ drop n no_edits) where
  pub past_due : (x : Edit) → drop (n + 1) (set list n x) ≡ drop (n + 1) no_edits
  past_due x = drop-set-lt (n + 1) list n x (omega arith) ∙ (sym (drop-drop 1 n list) ∙ (ap (drop 1) past ∙ drop-drop 1 n no_edits))

  pub past_none : drop n (set list n no_edit) ≡ drop n no_edits
  past_none =
      let here : drop n no_edits ≡ no_edit ∷ drop (suc n) no_edits =
      drop-cons no_edits n no_edit (omega (arith, length-replicate 34 no_edit)) ∙ rw (get_or-replicate 34 n no_edit no_edit few) in
      let there : drop n (set list n no_edit) ≡ set (drop n list) 0 no_edit = rw add-zero at (drop-set-add n list 0 no_edit) in
      rw (there, past, here)

  pub past_added : (due : Bool) (x : Edit) → drop (n + one_if due) (set list n (cond due x no_edit)) ≡ drop (n + one_if due) no_edits
  past_added true x = past_due x
  past_added false x = rw (add-zero n) past_none
