-- What a printer writes of one byte, of the file's end and of a whole file.
use Rattle.std.proofs.Common.{ℕ, ◌<◌, ◌≡◌, refl, sym, ap, subst, ◌∙◌, List, [], ◌∷◌, ◌++◌, append-nil, length, take, Option, None, Some, IfSome}
use Rattle.std.specs.Io.KnownBytes.{Appends}
use Rattle.streams.specs.Written.{WritesStart}
use Rattle.streams.proofs.Written.{start_longer, start_whole}
use Rattle.units.specs.declared.kinds.Family.{Family}
use Rattle.files.specs.Counting.{largest}
use Rattle.reading.specs.declared.turns.Progress.{Progress}
use Rattle.reading.specs.declared.turns.Turn.{Turn}
use Rattle.reading.specs.Turns.{Feeds, Closes, Standing, standing_at, next, after_bytes, begun}
use Rattle.reading.specs.Printed.{printed_of, handed, closing, printed_from, handed_from}
use Rattle.reading.specs.Printing.{printing, PrintsPart, PrintsAll, PrintsStart}
use Rattle.reading.proofs.Turning.{turn_next}
use Rattle.reading.proofs.Printed.{printed}

-- of one byte

module _ (f : Family) (room : List ℕ) (g : Progress) (text : List ℕ) (b : ℕ) (r : Turn) (room' text' : List ℕ) (n n' : ℕ) (w w' : Option (List ℕ))
    (fed : Feeds f room g b text r room' text') where
  put_out : take r.count text' ≡ handed f (standing_at room g text) b
  put_out = λ j. take (fed.0 j).count (fed.1.1 j)

  pub part_byte : Appends w w' (take r.count text') → PrintsPart (printing f room g text n w) (b ∷ []) (printing f room' r.progress text' n' w')
  unfolding after_bytes handed_from
  part_byte p = (refl, turn_next f (standing_at room g text) b r room' text' fed, subst (Appends w w') (put_out ∙ sym (append-nil _)) p)

  pub start_byte : WritesStart w w' (take r.count text') → (rest : List ℕ)
      → PrintsStart (printing f room g text n w) (b ∷ rest) (printing f room' r.progress text' n' w')
  unfolding printed_from
  start_byte p rest =
      subst (λ l. WritesStart w w' (l ++ printed_from f (next f (standing_at room g text) b) rest)) put_out (start_longer w w' _ _ p)

-- of the file's end

module _ (f : Family) (room : List ℕ) (g : Progress) (text : List ℕ) (r : ℕ) (text' : List ℕ) (n n' : ℕ) (w w' : Option (List ℕ)) (closes : Closes f room g text r text') where
  end_out : take r text' ≡ closing f (standing_at room g text)
  end_out = λ j. take (closes.0 j) (closes.1 j)

  pub end_written : Appends w w' (take r text') → PrintsAll (printing f room g text n w) [] (printing f room g text' n' w')
  unfolding printed_from
  end_written p = subst (Appends w w') end_out p

  pub end_started : WritesStart w w' (take r text') → PrintsStart (printing f room g text n w) [] (printing f room g text' n' w')
  unfolding printed_from
  end_started p = subst (WritesStart w w') end_out p

-- of a whole file

all_of : (f : Family) (s : Standing) (file : List ℕ) → s ≡ begun → length file < largest → printed_from f s file ≡ printed_of f file
all_of f s file e h = ap (λ t. printed_from f t file) e ∙ printed f file h

pub whole_written : (f : Family) (s : Standing) (u w w' : Option (List ℕ)) → s ≡ begun → IfSome u (λ file. Appends w w' (printed_from f s file))
    → IfSome u (λ file. length file < largest → Appends w w' (printed_of f file))
whole_written f s None w w' e p = tt
whole_written f s (Some file) w w' e p = λ h. subst (Appends w w') (all_of f s file e h) p

pub start_written : (f : Family) (s : Standing) (u w w' : Option (List ℕ)) → s ≡ begun → IfSome u (λ file. WritesStart w w' (printed_from f s file))
    → IfSome u (λ file. length file < largest → WritesStart w w' (printed_of f file))
start_written f s None w w' e p = tt
start_written f s (Some file) w w' e p = λ h. subst (WritesStart w w') (all_of f s file e h) p

pub whole_started : (f : Family) (u w w' : Option (List ℕ)) → IfSome u (λ file. length file < largest → Appends w w' (printed_of f file))
    → IfSome u (λ file. length file < largest → WritesStart w w' (printed_of f file))
whole_started f None w w' p = tt
whole_started f (Some file) w w' p = λ h. start_whole w w' _ (p h)
