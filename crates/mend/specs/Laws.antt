-- What is put of bytes, one after the other, and where that breaks off: the laws of what takes a listing.
use Rattle.std.proofs.Common.{ℕ, ◌≡◌, refl, sym, ap, subst, ◌∙◌, List, [], ◌∷◌, ◌++◌, append_assoc, Option}
use mathlib.Core.Logic.{inr}
use Rattle.std.proofs.KnownBytes.{Appends-trans, Appends-nil}
use Rattle.units.specs.declared.kinds.Family.{Family}
use Rattle.files.specs.Feeding.{SinkLaws}
use Rattle.mend.specs.Turns.{Standing, next, after_bytes}
use Rattle.mend.specs.Put.{Put, both, handed, handed_from, handed_next, put_by, Wrote, IsStart, BreaksOff}
use Rattle.mend.specs.Mending.{Mending, PutsTo, PutsPart, PutsAll, PutsStart}

pub after_append : (f : Family) (l m : List ℕ) (s : Standing) → after_bytes f s (l ++ m) ≡ after_bytes f (after_bytes f s l) m
unfolding after_bytes
after_append f [] m s = refl
after_append f (b ∷ l) m s = after_append f l m (next f s b)

abbrev pub none : Put
none = record { blocks = []; told = [] }

pub both_assoc : (p q r : Put) → both (both p q) r ≡ both p (both q r)
both_assoc p q r =
    let b = append_assoc p.blocks q.blocks r.blocks in
    let t = append_assoc p.told q.told r.told in λ i. record { blocks = b i; told = t i }

pub handed_on : (f : Family) (l m : List ℕ) (s : Standing) → handed_from f s (l ++ m) ≡ both (handed_from f s l) (handed_from f (after_bytes f s l) m)
unfolding handed_from after_bytes
handed_on f [] m s = refl
handed_on f (b ∷ l) m s = ap (both (handed f s b)) (handed_on f l m (next f s b)) ∙ sym (both_assoc (handed f s b) _ _)

pub put_on : (f : Family) (l rest : List ℕ) (s : Standing) → put_by f s (l ++ rest) ≡ both (handed_from f s l) (put_by f (after_bytes f s l) rest)
unfolding put_by handed_from after_bytes
put_on f [] rest s = refl
put_on f (b ∷ l) rest s = ap (both (handed f s b)) (put_on f l rest (next f s b)) ∙ sym (both_assoc (handed f s b) _ _)

pub wrote_none : (t b : Option (List ℕ)) → Wrote t t b b none
wrote_none t b = (Appends-nil t, Appends-nil b)

pub wrote_on : (t t' t'' b b' b'' : Option (List ℕ)) (p q : Put) → Wrote t t' b b' p → Wrote t' t'' b' b'' q → Wrote t t'' b b'' (both p q)
wrote_on t t' t'' b b' b'' p q h k = (Appends-trans t t' t'' p.told q.told h.0 k.0, Appends-trans b b' b'' p.blocks q.blocks h.1 k.1)

-- nothing is the start of anything
pub none_start : (all : Put) → IsStart none all
none_start all = (0, 0, refl, refl, inr refl)

part_none : (p : Mending) → PutsPart p [] p
unfolding after_bytes handed_from
part_none p = (refl, refl, wrote_none p.told p.blocks)

part_more : (p q r : Mending) (l m : List ℕ) → PutsPart p l q → PutsPart q m r → PutsPart p (l ++ m) r
part_more p q r l m x y =
    let s = p.standing in
    let led = after_append p.family l m s ∙ ap (λ t. after_bytes p.family t m) x.1 ∙ ap (λ f. after_bytes f q.standing m) x.0 ∙ y.1 in
    let out = handed_on p.family l m s ∙ ap (λ t. both (handed_from p.family s l) (handed_from p.family t m)) x.1
    ∙ ap (λ f. both (handed_from p.family s l) (handed_from f q.standing m)) x.0 in
    (x.0 ∙ y.0, led, subst (Wrote p.told r.told p.blocks r.blocks) (sym out) (wrote_on p.told q.told r.told p.blocks q.blocks r.blocks _ _ x.2 y.2))

all_on : (p q r : Mending) (l m : List ℕ) → PutsPart p l q → PutsAll q m r → PutsAll p (l ++ m) r
all_on p q r l m x y =
    let s = p.standing in
    let out = put_on p.family l m s ∙ ap (λ t. both (handed_from p.family s l) (put_by p.family t m)) x.1
    ∙ ap (λ f. both (handed_from p.family s l) (put_by f q.standing m)) x.0 in
    subst (Wrote p.told r.told p.blocks r.blocks) (sym out) (wrote_on p.told q.told r.told p.blocks q.blocks r.blocks _ _ x.2 y)

-- it breaks off where nothing was written of what comes
broken_at_once : (p : Mending) (file : List ℕ) → PutsStart p file p
unfolding handed_from
broken_at_once p file = ([], file, refl, (none, none_start _, wrote_none p.told p.blocks))

-- or after what was taken
broken_on : (f : Family) (s s' : Standing) (l m : List ℕ) (t t' t'' b b' b'' : Option (List ℕ)) → after_bytes f s l ≡ s' → Wrote t t' b b' (handed_from f s l)
    → BreaksOff f s' m t' t'' b' b'' → BreaksOff f s (l ++ m) t t'' b b''
broken_on f s s' l m t t' t'' b b' b'' e w q =
    let seen = q.0 in
    let rest = q.1 in
    let p = q.3.0 in
    let file = ap (λ k. l ++ k) q.2 ∙ sym (append_assoc l seen rest) in
    let led = after_append f l seen s ∙ ap (λ k. after_bytes f k seen) e in
    let out = handed_on f l seen s ∙ ap (λ k. both (handed_from f s l) (handed_from f k seen)) e in
    let joined = sym (both_assoc (handed_from f s l) (handed_from f s' seen) p) ∙ ap (λ k. both k p) (sym out) in (
      l ++ seen,
      rest,
      file,
      (
        p,
        subst (λ k. IsStart p (handed_next f k rest)) (sym led) q.3.1,
        subst (Wrote t t'' b b'') joined (wrote_on t t' t'' b b' b'' (handed_from f s l) (both (handed_from f s' seen) p) w q.3.2),
      ),
    )

start_on : (p q r : Mending) (l m : List ℕ) → PutsPart p l q → PutsStart q m r → PutsStart p (l ++ m) r
start_on p q r l m x y =
    broken_on p.family p.standing q.standing l m p.told q.told r.told p.blocks q.blocks r.blocks x.1 x.2
    (subst (λ f. BreaksOff f q.standing m q.told r.told q.blocks r.blocks) (sym x.0) y)

pub mender_laws : SinkLaws PutsTo PutsPart PutsAll PutsStart
mender_laws = record {
  same = λ p. (refl, refl);
  still = λ p q r x y. (y.0 ∙ x.0, y.1 ∙ x.1);
  none = part_none;
  more = part_more;
  ends = all_on;
  at_once = broken_at_once;
  breaks = start_on;
}
