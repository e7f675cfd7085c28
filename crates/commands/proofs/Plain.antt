-- What is left of a line from a place on is plain, as its first byte tells.
use Rattle.std.proofs.Common.{◌≡◌, ◌≢◌, ℕ, ◌+◌, ◌<◌, ◌≤◌, true, false, List, length, get_or, drop}
use borrow.Author.Tests.{eq-eqb, ne_eqb}
use Rattle.figures.proofs.Bytes.{every_more, every_not, every_all}
use Rattle.commands.specs.Shapes.{is_plain}

pub plain_more : (s : List ℕ) (i : ℕ) → i < length s → get_or s i 0 ≢ 13 → get_or s i 0 ≢ 10 → is_plain (drop i s) ≡ is_plain (drop (i + 1) s)
plain_more s i h no_cr no_lf = every_more _ s i h (rw (ne_eqb (get_or s i 0) 13 no_cr, ne_eqb (get_or s i 0) 10 no_lf))

pub plain_cr : (s : List ℕ) (i : ℕ) → i < length s → get_or s i 0 ≡ 13 → is_plain (drop i s) ≡ false
plain_cr s i h e = every_not _ s i h (rw (eq-eqb (get_or s i 0) 13 e))

pub plain_lf : (s : List ℕ) (i : ℕ) → i < length s → get_or s i 0 ≡ 10 → is_plain (drop i s) ≡ false
plain_lf s i h e = every_not _ s i h (rw e)

pub plain_end : (s : List ℕ) (i : ℕ) → length s ≤ i → is_plain (drop i s) ≡ true
plain_end s i h = every_all _ s i h
