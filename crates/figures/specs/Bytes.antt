-- Byte strings: what every byte of one is, laid down in a room, compared.
use Rattle.std.specs.Prelude.{ℕ, suc, Bool, true, false, cond, not, ◌&&◌, List, [], ◌∷◌, ◌++◌, eqb, leb, length, take, drop}

-- from low to high
abbrev pub within : ℕ → ℕ → ℕ → Bool
within low high b = leb low b && leb b high

-- one of the list
unfoldable pub among : ℕ → List ℕ → Bool
among b [] = false
among b (x ∷ l) = elim (eqb b x) [ true ↦ true | false ↦ among b l ]

unfoldable pub every : (ℕ → Bool) → List ℕ → Bool
every p [] = true
every p (b ∷ l) = p b && every p l

-- how many bytes at the start are so: the place of the first that isn't, or the length
unfoldable pub run_of : (ℕ → Bool) → List ℕ → ℕ
run_of p [] = 0
run_of p (b ∷ l) = cond (p b) (suc (run_of p l)) 0

abbrev pub is_other : ℕ → ℕ → Bool
is_other x b = not (eqb b x)

-- w from the start of the room, as far as it goes; the room beyond is as it was
abbrev pub laid : List ℕ → List ℕ → List ℕ
laid w room = take (length room) w ++ drop (length w) room

-- w is the start of s
unfoldable pub starts_with : List ℕ → List ℕ → Bool
starts_with [] s = true
starts_with (x ∷ w) [] = false
starts_with (x ∷ w) (y ∷ s) = eqb y x && starts_with w s

abbrev pub same_bytes : List ℕ → List ℕ → Bool
same_bytes a b = eqb (length a) (length b) && starts_with b a
