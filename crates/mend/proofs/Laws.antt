-- What is put of one byte, of the listing's end and of a whole listing.
use Rattle.std.proofs.Common.{ℕ, ◌<◌, ◌≡◌, refl, sym, ap, subst, ◌∙◌, List, [], ◌∷◌, ◌++◌, append-nil, length, take, Option, None, Some, IfSome}
use Rattle.std.specs.Io.KnownBytes.{Appends}
use Rattle.streams.specs.Written.{WritesStart}
use Rattle.streams.proofs.Written.{start_whole, start_joined}
use Rattle.units.specs.declared.kinds.Family.{Family}
use Rattle.files.specs.Counting.{largest}
use Rattle.mend.specs.declared.turns.Progress.{Progress}
use Rattle.mend.specs.declared.turns.Turn.{Turn}
use Rattle.mend.specs.declared.turns.Last.{Last}
use Rattle.mend.specs.Turns.{Feeds, Closes, Standing, standing, after_bytes, begun}
use Rattle.mend.specs.Put.{Put, both, put_of, put_by, put_in, handed, closing, handed_from, handed_next, Wrote, IsStart, WroteStart, BreaksOff}
use Rattle.mend.specs.Mending.{mending, PutsPart, PutsAll, PutsStart}
use Rattle.mend.specs.Laws.{put_on}
use Rattle.mend.proofs.Turning.{turn_next}
use Rattle.mend.proofs.Put.{put, next_out}

-- of one byte

both_none : (p : Put) → both p (record { blocks = []; told = [] }) ≡ p
both_none p = let b = append-nil p.blocks in let t = append-nil p.told in λ i. record { blocks = b i; told = t i }

module _ (f : Family) (room : List ℕ) (g : Progress) (out text : List ℕ) (b : ℕ) (r : Turn) (room' out' text' : List ℕ) (m m' n n' : ℕ)
    (t t' w w' : Option (List ℕ)) (fed : Feeds f room g b out text r room' out' text') where
  is_put : put_in (take r.bytes out') (take r.count text') ≡ handed f (standing room g out text) b
  is_put = λ j. record { blocks = take (fed.0 j).bytes (fed.1.1.0 j); told = take (fed.0 j).count (fed.1.1.1 j) }

  pub part_byte : Wrote t t' w w' (put_in (take r.bytes out') (take r.count text'))
      → PutsPart (mending f room g out text m t n w) (b ∷ []) (mending f room' r.progress out' text' m' t' n' w')
  unfolding after_bytes handed_from
  part_byte p = (refl, turn_next f (standing room g out text) b r room' out' text' fed, subst (Wrote t t' w w') (is_put ∙ sym (both_none _)) p)

  pub start_byte : WroteStart t t' w w' (put_in (take r.bytes out') (take r.count text')) → (rest : List ℕ)
      → PutsStart (mending f room g out text m t n w) (b ∷ rest) (mending f room' r.progress out' text' m' t' n' w')
  unfolding after_bytes handed_from
  start_byte p rest = ([], b ∷ rest, refl, (p.0, subst (IsStart p.0) is_put p.1, p.2))

-- of the listing's end

module _ (f : Family) (room : List ℕ) (g : Progress) (out text : List ℕ) (r : Last) (out' text' : List ℕ) (m m' n n' : ℕ) (t t' w w' : Option (List ℕ))
    (closes : Closes f room g out text r out' text') where
  end_out : put_in (take r.bytes out') (take r.count text') ≡ closing f (standing room g out text)
  end_out = λ i. record { blocks = take (closes.0 i) (closes.1.0 i); told = take (closes.1.1.0 i) (closes.1.1.1 i) }

  pub end_written : Wrote t t' w w' (put_in (take r.bytes out') (take r.count text'))
      → PutsAll (mending f room g out text m t n w) [] (mending f room g out' text' m' t' n' w')
  unfolding put_by
  end_written p = subst (Wrote t t' w w') end_out p

  pub end_started : WroteStart t t' w w' (put_in (take r.bytes out') (take r.count text'))
      → PutsStart (mending f room g out text m t n w) [] (mending f room g out' text' m' t' n' w')
  unfolding handed_from after_bytes
  end_started p = ([], [], refl, subst (WroteStart t t' w w') end_out p)

-- of a whole listing

pub whole_written : (f : Family) (s : Standing) (u t t' w w' : Option (List ℕ)) → s ≡ begun → IfSome u (λ file. Wrote t t' w w' (put_by f s file))
    → IfSome u (λ file. length file < largest → Wrote t t' w w' (put_of f file))
whole_written f s None t t' w w' e p = tt
whole_written f s (Some file) t t' w w' e p = λ h. subst (Wrote t t' w w') (ap (λ k. put_by f k file) e ∙ put f file h) p

pub broken_written : (f : Family) (s : Standing) (u t t' w w' : Option (List ℕ)) → s ≡ begun → IfSome u (λ file. BreaksOff f s file t t' w w')
    → IfSome u (λ file. BreaksOff f begun file t t' w w')
broken_written f s u t t' w w' e p = subst (λ k. IfSome u (λ file. BreaksOff f k file t t' w w')) e p

-- what was written is the start of what is put out

start_part : (o o' : Option (List ℕ)) (l m part after : List ℕ) (n : ℕ) → part ≡ take n m → Appends o o' (l ++ part) → WritesStart o o' (l ++ (m ++ after))
start_part o o' l m part after n e p = start_joined o o' l m after n (subst (λ x. Appends o o' (l ++ x)) e p)

module _ (f : Family) (file : List ℕ) (t t' b b' : Option (List ℕ)) (q : BreaksOff f begun file t t' b b') (h : length file < largest) where
  abbrev seen : List ℕ
  seen = q.0

  abbrev later : (after : Put) × (put_by f (after_bytes f begun seen) q.1 ≡ both (handed_next f (after_bytes f begun seen) q.1) after)
  later = next_out f (after_bytes f begun seen) q.1

  all_put : put_of f file ≡ both (handed_from f begun seen) (both (handed_next f (after_bytes f begun seen) q.1) later.0)
  all_put = sym (put f file h) ∙ ap (put_by f begun) q.2 ∙ put_on f seen q.1 begun ∙ ap (both (handed_from f begun seen)) later.1

  pub broken_told : WritesStart t t' (put_of f file).told
  broken_told =
      subst (WritesStart t t') (ap (λ (p : Put). p.told) (sym all_put))
      (start_part t t' (handed_from f begun seen).told (handed_next f (after_bytes f begun seen) q.1).told q.3.0.told later.0.told q.3.1.0 q.3.1.2 q.3.2.0)

  pub broken_blocks : WritesStart b b' (put_of f file).blocks
  broken_blocks =
      subst (WritesStart b b') (ap (λ (p : Put). p.blocks) (sym all_put))
      (start_part b b' (handed_from f begun seen).blocks (handed_next f (after_bytes f begun seen) q.1).blocks q.3.0.blocks later.0.blocks q.3.1.1 q.3.1.3 q.3.2.1)

-- the same where all went well, where it broke off, and where nothing more was written
pub whole_starts : (f : Family) (u t t' b b' : Option (List ℕ)) → IfSome u (λ file. length file < largest → Wrote t t' b b' (put_of f file))
    → IfSome u (λ file. length file < largest → WritesStart t t' (put_of f file).told) × IfSome u (λ file. length file < largest → WritesStart b b' (put_of f file).blocks)
whole_starts f None t t' b b' p = (tt, tt)
whole_starts f (Some xs) t t' b b' p = (λ h. start_whole t t' _ (p h).0, λ h. start_whole b b' _ (p h).1)

pub broken_starts : (f : Family) (u t t' b b' : Option (List ℕ)) → IfSome u (λ file. BreaksOff f begun file t t' b b')
    → IfSome u (λ file. length file < largest → WritesStart t t' (put_of f file).told) × IfSome u (λ file. length file < largest → WritesStart b b' (put_of f file).blocks)
broken_starts f None t t' b b' p = (tt, tt)
broken_starts f (Some xs) t t' b b' p = (broken_told f xs t t' b b' p, broken_blocks f xs t t' b b' p)
