-- What a printer writes of bytes, one after the other, and where it breaks off: the laws of what takes a file.
use Rattle.std.proofs.Common.{ℕ, ◌≡◌, refl, sym, ap, subst, ◌∙◌, List, [], ◌∷◌, ◌++◌, append_assoc}
use Rattle.std.specs.Io.KnownBytes.{Appends}
use Rattle.std.proofs.KnownBytes.{Appends-trans, Appends-nil, Keeps-refl}
use Rattle.streams.specs.Written.{WritesStart}
use Rattle.streams.proofs.Written.{start_after, start_kept}
use Rattle.units.specs.declared.kinds.Family.{Family}
use Rattle.files.specs.Feeding.{SinkLaws}
use Rattle.reading.specs.Turns.{Standing, next, after_bytes}
use Rattle.reading.specs.Printed.{handed, printed_from, handed_from}
use Rattle.reading.specs.Printing.{Printing, PrintsTo, PrintsPart, PrintsAll, PrintsStart}

pub after_append : (f : Family) (l m : List ℕ) (s : Standing) → after_bytes f s (l ++ m) ≡ after_bytes f (after_bytes f s l) m
unfolding after_bytes
after_append f [] m s = refl
after_append f (b ∷ l) m s = after_append f l m (next f s b)

pub handed_on : (f : Family) (l m : List ℕ) (s : Standing) → handed_from f s (l ++ m) ≡ handed_from f s l ++ handed_from f (after_bytes f s l) m
unfolding handed_from after_bytes
handed_on f [] m s = refl
handed_on f (b ∷ l) m s = ap (λ t. handed f s b ++ t) (handed_on f l m (next f s b)) ∙ sym (append_assoc (handed f s b) _ _)

pub printed_on : (f : Family) (l rest : List ℕ) (s : Standing) → printed_from f s (l ++ rest) ≡ handed_from f s l ++ printed_from f (after_bytes f s l) rest
unfolding printed_from handed_from after_bytes
printed_on f [] rest s = refl
printed_on f (b ∷ l) rest s = ap (λ m. handed f s b ++ m) (printed_on f l rest (next f s b)) ∙ sym (append_assoc (handed f s b) _ _)

part_none : (p : Printing) → PrintsPart p [] p
unfolding after_bytes handed_from
part_none p = (refl, refl, Appends-nil p.written)

part_more : (p q r : Printing) (l m : List ℕ) → PrintsPart p l q → PrintsPart q m r → PrintsPart p (l ++ m) r
part_more p q r l m x y =
    let s = p.standing in
    let led = after_append p.family l m s ∙ ap (λ t. after_bytes p.family t m) x.1 ∙ ap (λ f. after_bytes f q.standing m) x.0 ∙ y.1 in
    let out = handed_on p.family l m s ∙ ap (λ t. handed_from p.family s l ++ handed_from p.family t m) x.1
    ∙ ap (λ f. handed_from p.family s l ++ handed_from f q.standing m) x.0 in
    (x.0 ∙ y.0, led, subst (Appends p.written r.written) (sym out) (Appends-trans p.written q.written r.written _ _ x.2 y.2))

printed_more : (p q : Printing) (l m : List ℕ) → PrintsPart p l q
    → printed_from p.family p.standing (l ++ m) ≡ handed_from p.family p.standing l ++ printed_from q.family q.standing m
printed_more p q l m x =
    printed_on p.family l m p.standing
    ∙ ap (λ t. handed_from p.family p.standing l ++ printed_from p.family t m) x.1
    ∙ ap (λ f. handed_from p.family p.standing l ++ printed_from f q.standing m) x.0

all_on : (p q r : Printing) (l m : List ℕ) → PrintsPart p l q → PrintsAll q m r → PrintsAll p (l ++ m) r
all_on p q r l m x y = subst (Appends p.written r.written) (sym (printed_more p q l m x)) (Appends-trans p.written q.written r.written _ _ x.2 y)

start_on : (p q r : Printing) (l m : List ℕ) → PrintsPart p l q → PrintsStart q m r → PrintsStart p (l ++ m) r
start_on p q r l m x y = subst (WritesStart p.written r.written) (sym (printed_more p q l m x)) (start_after p.written q.written r.written _ _ x.2 y)

pub printer_laws : SinkLaws PrintsTo PrintsPart PrintsAll PrintsStart
printer_laws = record {
  same = λ p. refl;
  still = λ p q r x y. y ∙ x;
  none = part_none;
  more = part_more;
  ends = all_on;
  at_once = λ p l. start_kept p.written p.written _ (Keeps-refl p.written);
  breaks = start_on;
}
