-- Laws of sessions: two whose calls go alike go alike, and what each call keeps lasts.
use mathlib.Core.Path.{◌≡◌, refl, subst}
use mathlib.Core.List.{List, [], ◌∷◌, map, map-id}
use Rattle.lines.specs.Sessions.{Exchange, Session, session}

pub lasts : {S C : Type 0} (play : S → C → Exchange S) (P : S → Type 0) → ((s : S) (c : C) → P s → P (play s c).left)
    → (s : S) (cs : List C) → P s → P (session play s cs).left
unfolding session
lasts play P keep s [] p = p
lasts play P keep s (c ∷ cs) p = lasts play P keep (play s c).left cs (keep s c p)

-- what two sessions leave is related, and they reply the same
abbrev pub Alike : {S T : Type 0} → (S → T → Type 0) → Session S → Session T → Type 0
Alike R a b = R a.left b.left × (a.replies ≡ b.replies)

pub alike : {S T C D : Type 0} (a : S → C → Exchange S) (b : T → D → Exchange T) (f : C → D) (R : S → T → Type 0)
    → ((s : S) (t : T) (c : C) → R s t → R (a s c).left (b t (f c)).left × ((a s c).reply ≡ (b t (f c)).reply))
    → (s : S) (t : T) (cs : List C) → R s t → Alike R (session a s cs) (session b t (map f cs))
unfolding session
alike a b f R go s t [] r = (r, refl)
alike a b f R go s t (c ∷ cs) r =
    let here = go s t c r in
    let later = alike a b f R go (a s c).left (b t (f c)).left cs here.0 in
    (later.0, λ i. here.1 i ∷ later.1 i)

-- of the same calls
pub alike_calls : {S T C : Type 0} (a : S → C → Exchange S) (b : T → C → Exchange T) (R : S → T → Type 0)
    → ((s : S) (t : T) (c : C) → R s t → R (a s c).left (b t c).left × ((a s c).reply ≡ (b t c).reply))
    → (s : S) (t : T) (cs : List C) → R s t → Alike R (session a s cs) (session b t cs)
alike_calls a b R go s t cs r = subst (λ ds. Alike R (session a s cs) (session b t ds)) (map-id cs) (alike a b (λ c. c) R go s t cs r)
