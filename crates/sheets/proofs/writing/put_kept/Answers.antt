-- `put_kept` meets its contract: the three bytes of the name, the separator, the fifteen characters of a value that was put, and LF.
use Rattle.std.proofs.Common.{◌≡◌, ◌<◌, ℕ, true, false, List, ◌∷◌, ◌++◌, sym, ap, ◌∙◌}
use Rattle.figures.specs.Text.{codes}
use Rattle.figures.proofs.Putting.{fills_as}
use Rattle.instrument.specs.Values.{Kept, values_n, stored_at, get_word, is_put}
use Rattle.instrument.specs.declared.values.Stored.{Stored}
use Rattle.instrument.proofs.Kept.{elements}
use Rattle.sheets.specs.Sheet.{characters_of}
use Rattle.sheets.specs.Keeping.{kept_text}
use Rattle.sheets.proofs.Keyed.{first_three, value_name_lem}
use Rattle.sheets.proofs.Linewise.{fits_as}
use Rattle.sheets.proofs.writing.put_kept.Goals as goal
use Rattle.std.specs.Prelude.{Some, None}

module _ {i : ℕ} {r : Stored} (separator : ℕ) (h : i < values_n) (row : r ≡ stored_at i) where
  named : (kept : Kept) → kept_text i separator kept ≡ first_three (stored_at i).key ++ (separator ∷ (characters_of i kept ++ codes "\n"))
  named kept = ap (λ (t : List ℕ). t ++ (separator ∷ (characters_of i kept ++ codes "\n"))) (value_name_lem i h)

  put : (kept : Kept) {w : List ℕ} → true ≡ is_put kept → w ≡ get_word i kept
      → kept_text i separator kept ≡ first_three r.key ++ (separator ∷ (elements 15 0 w ++ codes "\n"))
  unfolding elements
  put None e word = absurd (cc e)
  put (Some p) e word = named (Some p) ∙ rw (word, row)

  never : (kept : Kept) → false ≡ is_put kept → kept_text i separator kept ≡ first_three r.key ++ (separator ∷ codes "\n")
  never None e = named None ∙ rw row
  never (Some p) e = absurd (cc e)

pub lay_text-requires : goal.lay_text-requires
unfolding elements
lay_text-requires c =
    fits_as c.requires.fits (put c.args.separator c.requires.place c.stored_at.ensures c.args.kept (sym c.if-is_put.true ∙ c.is_put.ensures) c.get_word-w.ensures)

pub returns-then-is_put : goal.returns-then-is_put
unfolding elements
returns-then-is_put c =
    fills_as c.lay_text.ensures
    (sym (put c.args.separator c.requires.place c.stored_at.ensures c.args.kept (sym c.if-is_put.true ∙ c.is_put.ensures) c.get_word-w.ensures))

pub lay_text-requires-else-is_put : goal.lay_text-requires-else-is_put
lay_text-requires-else-is_put c =
    fits_as c.requires.fits (never c.args.separator c.requires.place c.stored_at.ensures c.args.kept (sym c.if-is_put.false ∙ c.is_put.ensures))

pub returns-else-is_put : goal.returns-else-is_put
returns-else-is_put c =
    fills_as c.lay_text-else-is_put.ensures
    (sym (never c.args.separator c.requires.place c.stored_at.ensures c.args.kept (sym c.if-is_put.false ∙ c.is_put.ensures)))
