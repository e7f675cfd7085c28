-- A text's start is the start of a longer text, also after what was written before.
use Rattle.std.proofs.Common.{◌≡◌, Option, ℕ, zero, suc, ◌+◌, List, [], ◌∷◌, ◌++◌, refl, sym, ap, subst, ◌∙◌, length, take, le_refl}
use Rattle.std.specs.Io.KnownBytes.{Appends, Keeps}
use Rattle.std.proofs.KnownBytes.{Appends-trans, Appends-nil, Appends-kept}
use Rattle.streams.specs.Written.{WritesStart}
use lib.Seq.{take_all, take-append-add}

-- of any number of bytes, no more than there are
take_short : (n : ℕ) (l m : List ℕ) → (k : ℕ) × (take k (l ++ m) ≡ take n l)
take_short zero l m = (0, refl)
take_short (suc n) [] m = (0, refl)
take_short (suc n) (x ∷ l) m = let r = take_short n l m in (suc r.0, ap (λ t. x ∷ t) r.1)

pub start_longer : (a b : Option (List ℕ)) (l m : List ℕ) → WritesStart a b l → WritesStart a b (l ++ m)
start_longer a b l m s = let t = take_short s.0 l m in (t.0, subst (Appends a b) (sym t.1) s.1)

pub start_after : (a b c : Option (List ℕ)) (l m : List ℕ) → Appends a b l → WritesStart b c m → WritesStart a c (l ++ m)
start_after a b c l m p s = (length l + s.0, subst (Appends a c) (sym (take-append-add l m s.0)) (Appends-trans a b c l (take s.0 m) p s.1))

pub start_whole : (a b : Option (List ℕ)) (l : List ℕ) → Appends a b l → WritesStart a b l
start_whole a b l p = (length l, subst (Appends a b) (sym (take_all (length l) l (le_refl _))) p)

pub start_kept : (a b : Option (List ℕ)) (l : List ℕ) → Keeps a b → WritesStart a b l
start_kept a b l p = (0, Appends-kept a a b [] (Appends-nil a) p)

-- what was written is a text and the start of another, which goes on
pub start_joined : (a b : Option (List ℕ)) (l m after : List ℕ) (n : ℕ) → Appends a b (l ++ take n m) → WritesStart a b (l ++ (m ++ after))
start_joined a b l m after n p =
    let short = take_short n m after in
    (length l + short.0, subst (Appends a b) (sym (take-append-add l (m ++ after) short.0 ∙ ap (λ t. l ++ t) short.1)) p)
