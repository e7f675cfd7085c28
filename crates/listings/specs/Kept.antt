-- Edits and mended bytes that are kept by value: past their counts stand noughts, so that what they are seen as gives the fields back.
use Rattle.std.proofs.Common.{◌≡◌, ℕ, ◌≤◌, List, ◌++◌, sym, subst, length, take, drop, take-append-drop, length-take-le}

pub kept_long : {A : Type 0} (n most : ℕ) (s : List A) → n ≤ most → length s ≡ most → length (take n s) ≡ n
kept_long n most s few long = length-take-le n s (subst (λ (m : ℕ). n ≤ m) (sym long) few)

pub given_back : {A : Type 0} (n most : ℕ) (s rest : List A) → n ≤ most → length s ≡ most → drop n s ≡ drop n rest
    → take n s ++ drop (length (take n s)) rest ≡ s
given_back n most s rest few long past = rw (kept_long n most s few long, sym past) (take-append-drop n s)
