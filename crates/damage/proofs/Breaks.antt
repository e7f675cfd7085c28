-- The byte that 5 to 9 tell is the first that breaks the rule: see specs/Breaks.antt.
use Prim.Native.Nat.{ℕ, zero, suc, ◌+◌, ◌<◌, ◌≤◌}
use mathlib.Core.Path.{◌≡◌, refl, sym, ap, ◌∙◌}
use mathlib.Core.Bool.{Bool, true, false, cond, ◌&&◌}
use mathlib.Core.List.{List, ◌∷◌, ◌++◌}
use native.Mathlib.Omega.{arith}
use borrow.Author.Tests.{leb-true, ltb-true, eqb-true, lt-ltb, le-leb}
use lib.Dec.{eqb, leb, ltb}
use lib.ListN.{length, get_or, take, drop, replicate, length-replicate}
use lib.Seq.{get_or-take, drop-cons, take-add, drop_at, length-take-le}
use Rattle.figures.specs.Bytes.{among}
use Rattle.figures.specs.Decimal.{is_digit, are_digits}
use Rattle.figures.proofs.Bytes.{within_bounds}
use Rattle.figures.proofs.Tests.{clash, by_test, along}
use Rattle.units.specs.Kinds.{first_other, listed_by}
use Rattle.units.specs.declared.kinds.Family.{Family}
use Rattle.units.specs.declared.kinds.Family.TheVariants.{Station, Level}
use Rattle.words.specs.Records.{width}
use Rattle.words.specs.Reading.{fault_number, word_size, pos, passing, value_in, is_counted, faulty, word_of, judged_right, judged_wrong, judged_in}
use Rattle.words.specs.declared.reading.Fault.{Fault}
use Rattle.words.specs.declared.reading.Fault.TheVariants.{Short, Index, Unlisted, Information, Sign, Characters, Separator, Value}
use Rattle.words.proofs.Checks.{width_bounds}
use Rattle.words.proofs.Told.{past, fault_in, told_at}
use Rattle.damage.specs.Breaks.{KeptWord, First}
use Rattle.damage.proofs.Passed.{passing_again}
use Rattle.damage.proofs.Marks.{third_right, dot_right}
use Rattle.damage.proofs.Answers.{tests_in, fault_at, told, word_told}
use Rattle.damage.proofs.Kept.{fill_by, kept_by}

-- what a refusal by one of 6 to 9 says of a word of which n bytes after position 2 pass: it is whole, its index is listed, and the next is told
record Refused (f : Family) (wide : Bool) (s : List ℕ) (x : Fault) (at n : ℕ) : Type 0 where
  whole : word_size wide ≤ length s
  digits : are_digits (pos 1 s) (pos 2 s) ≡ true
  listed : listed_by f (pos 1 s) (pos 2 s) (pos 3 s) ≡ true
  near : n < 6 + width wide
  fault : x ≡ fault_at (width wide) n
  place : at ≡ 2 + n

module _ (x : Fault) (at : ℕ) (low : 5 ≤ fault_number x) (high : fault_number x ≤ 9) where
  failed : (w n : ℕ) (counts : Bool) → told w counts n ≡ judged_wrong x at → (n < 6 + w) × (x ≡ fault_at w n) × (at ≡ 2 + n)
  failed w n counts e = go (ltb n (6 + w)) counts (ltb-true n (6 + w)) e
    where
      go : (b c : Bool) → (b ≡ true → n < 6 + w) → cond b (judged_wrong (fault_at w n) (2 + n)) (cond c judged_right (judged_wrong Value 7)) ≡ judged_wrong x at
          → (n < 6 + w) × (x ≡ fault_at w n) × (at ≡ 2 + n)
      go true c h q = (h refl, sym (ap fault_in q), sym (ap told_at q))
      go false true h q = absurd (clash (cc))
      go false false h q = let is : Value ≡ x = ap fault_in q in let ten = ap fault_number is in absurd (omega arith)

  -- where positions 1-2 are digits
  refused : (f : Family) (wide : Bool) (s : List ℕ) → word_size wide ≤ length s → are_digits (pos 1 s) (pos 2 s) ≡ true → judged_in (word_of f wide s) ≡ judged_wrong x at
      → Refused f wide s x at (passing (tests_in f wide s) (drop 2 s))
  refused f wide s whole digits e =
      let (listed, _) = past x at (listed_by f (pos 1 s) (pos 2 s) (pos 3 s)) Unlisted _ _ (λ q. omega arith) (rw (le-leb (word_size wide) (length s) whole, digits) at e) in
      let n = passing (tests_in f wide s) (drop 2 s) in
      let (near, fault, place) = failed (width wide) n (is_counted (value_in f wide s)) (sym (word_told f wide s whole digits listed) ∙ e) in
      record { whole = whole; digits = digits; listed = listed; near = near; fault = fault; place = place }

-- the same bytes at the start, and after some of them

pub same_byte : (m i : ℕ) (s t : List ℕ) → take m t ≡ take m s → i < m → get_or t i 0 ≡ get_or s i 0
same_byte m i s t e h = sym (get_or-take m t i 0 h) ∙ ap (λ l. get_or l i 0) e ∙ get_or-take m s i 0 h

pub take_later : (n m : ℕ) (s : List ℕ) → n ≤ length s → drop n (take (n + m) s) ≡ take m (drop n s)
take_later n m s h = ap (drop n) (take-add n m s) ∙ drop_at (take n s) (take m (drop n s)) n (length-take-le n s h)

-- 6 and 7 tell none of the data
before_data : (w n : ℕ) → fault_number (fault_at w n) < 8 → n ≤ 4
before_data w n = go (ltb n 4) (eqb n 4) (ltb n (5 + w)) (λ q. omega (arith, ltb-true n 4 q)) (λ q. omega (arith, eqb-true n 4 q))
  where
    go : (a b c : Bool) → (a ≡ true → n ≤ 4) → (b ≡ true → n ≤ 4) → fault_number (cond a Information (cond b Sign (cond c Characters Separator))) < 8 → n ≤ 4
    go true b c x y h = x refl
    go false true c x y h = y refl
    go false false true x y h = absurd (omega arith)
    go false false false x y h = absurd (omega arith)

head_same : (n c : ℕ) (x y : List ℕ) → get_or (take n (c ∷ x) ++ drop n (c ∷ y)) 0 0 ≡ c
head_same zero c x y = refl
head_same (suc n) c x y = refl

-- a word that is refused again, where it is whole, isn't right
never_by : (f : Family) (wide : Bool) (t : List ℕ) (x : Fault) (at : ℕ) → (word_size wide ≤ length t → judged_in (word_of f wide t) ≡ judged_wrong x at)
    → judged_in (word_of f wide t) ≡ judged_right → ⊥
never_by f wide t x at again right =
    by_test (leb (word_size wide) (length t)) (λ q. let wrong = again (leb-true (word_size wide) (length t) q) in clash (cc))
    (λ q. let short = rw q at right in clash (cc))

module _ (f : Family) (wide : Bool) (s : List ℕ) (x : Fault) (at : ℕ) (r : Refused f wide s x at (passing (tests_in f wide s) (drop 2 s))) where
  again : (t : List ℕ) → word_size wide ≤ length t → take (suc at) t ≡ take (suc at) s → judged_in (word_of f wide t) ≡ judged_wrong x at
  again t long same =
      let w = width wide in
      let n = passing (tests_in f wide s) (drop 2 s) in
      let least = (width_bounds wide).0 in
      let one = same_byte (suc at) 0 s t same (omega arith) in
      let two = same_byte (suc at) 1 s t same (omega arith) in
      let three = same_byte (suc at) 2 s t same (omega arith) in
      let far : suc at ≡ 2 + suc n = omega arith in
      let later : take (suc n) (drop 2 t) ≡ take (suc n) (drop 2 s) =
      sym (take_later 2 (suc n) t (omega arith)) ∙ ap (drop 2) (rw far at same) ∙ take_later 2 (suc n) s (omega arith) in
      let count : passing (tests_in f wide t) (drop 2 t) ≡ n = rw (one, two, three) (passing_again (tests_in f wide s) (drop 2 s) (drop 2 t) later) in
      let fails : told w (is_counted (value_in f wide t)) n ≡ judged_wrong x at = rw (lt-ltb n (6 + w) r.near) (cc (r.fault, r.place)) in
      word_told f wide t long (rw (one, two) r.digits) (rw (one, two, three) r.listed) ∙ ap (told w (is_counted (value_in f wide t))) count ∙ fails

  kept : KeptWord f wide s x at
  kept =
      let n = passing (tests_in f wide s) (drop 2 s) in
      let least = (width_bounds wide).0 in
      let t = pos 1 s in
      let o = pos 2 s in
      let c = pos 3 s in
      let early : fault_number x < 8 → n ≤ 4 = λ h. before_data (width wide) n (rw r.fault at h) in
      let start : drop 2 s ≡ c ∷ drop 3 s = drop-cons s 2 0 (omega arith) in
      rw r.place (by_test (third_right f t o c)
      (λ q. kept_by f wide s r.whole x n c r.near r.digits r.listed q (omega arith)
      (ap (λ l. get_or (take n l ++ drop n (fill_by f wide t o c)) 0 0) start ∙ head_same n c (drop 3 s) _) early)
      (λ q.
      let none : n ≡ 0 = ap (passing (tests_in f wide s)) start ∙ rw q in
      let (listed, right) = dot_right f t o c r.digits r.listed q in
      kept_by f wide s r.whole x n 46 r.near r.digits listed right (omega arith) (rw none) early))

-- 5: a byte that is no digit is so in any word; a digit before it may begin an index, and with a nought after it that one is missing from the tables

no_index : (f : Family) (c : ℕ) → is_digit c ≡ true → listed_by f c 48 46 ≡ false
unfolding among
no_index f c e = let (low, high) = within_bounds 48 57 c e in go f low high
  where
    go : (g : Family) → 48 ≤ c → c ≤ 57 → listed_by g c 48 46 ≡ false
    go Station low high = sym (along (λ b. listed_by Station b 48 46) 48 58 refl low (omega arith))
    go Level low high = sym (along (λ b. listed_by Level b 48 46) 48 58 refl low (omega arith))

module _ (f : Family) (wide : Bool) where
  unlisted : (t : List ℕ) → word_size wide ≤ length t → are_digits (pos 1 t) (pos 2 t) ≡ true → listed_by f (pos 1 t) (pos 2 t) (pos 3 t) ≡ false
      → judged_in (word_of f wide t) ≡ judged_wrong Unlisted 0
  unlisted t long digits none = rw (le-leb (word_size wide) (length t) long, digits, none)

  kept_digit : (s : List ℕ) (n c : ℕ) → is_digit c ≡ true → take n (c ∷ 48 ∷ 46 ∷ replicate (5 + width wide) 46) ≡ take n s → KeptWord f wide s Index n
  kept_digit s n c digit same =
      let t = c ∷ 48 ∷ 46 ∷ replicate (5 + width wide) 46 in
      let size : length t ≡ word_size wide = omega (arith, length-replicate {A = ℕ} (5 + width wide) 46) in
      record { word = t; size = size; same = same; survives = rw (unlisted t (omega arith) (rw digit) (no_index f c digit)) }

  first_digit : (s : List ℕ) → word_size wide ≤ length s → (p : Bool) → is_digit (pos 1 s) ≡ p → p && is_digit (pos 2 s) ≡ false
      → First f wide s Index (cond p 1 0)
  first_digit s long true one two =
      let again : (t : List ℕ) → word_size wide ≤ length t → take 2 t ≡ take 2 s → judged_in (word_of f wide t) ≡ judged_wrong Index 1 =
      λ t h e. let a = same_byte 2 0 s t e (omega arith) in let b = same_byte 2 1 s t e (omega arith) in
      rw (le-leb (word_size wide) (length t) h, a, b, one, two) in
      record {
        kept = kept_digit s 1 (pos 1 s) one (sym (ap (take 1) (drop-cons s 0 0 (omega arith))));
        again = again;
        never = λ t e. never_by f wide t Index 1 (λ h. again t h e);
      }
  first_digit s long false one two =
      let again : (t : List ℕ) → word_size wide ≤ length t → take 1 t ≡ take 1 s → judged_in (word_of f wide t) ≡ judged_wrong Index 0 =
      λ t h e. let a = same_byte 1 0 s t e (omega arith) in rw (le-leb (word_size wide) (length t) h, a, one) in
      record { kept = kept_digit s 0 48 refl refl; again = again; never = λ t e. never_by f wide t Index 0 (λ h. again t h e) }

pub first_breaks : (f : Family) (wide : Bool) (s : List ℕ) (x : Fault) (at : ℕ) → judged_in (word_of f wide s) ≡ judged_wrong x at
    → 5 ≤ fault_number x → fault_number x ≤ 9 → First f wide s x at
first_breaks f wide s x at e low high =
    let (long, told) = past x at (leb (word_size wide) (length s)) Short _ _ (λ z. omega arith) e in
    let whole = leb-true (word_size wide) (length s) long in
    by_test (are_digits (pos 1 s) (pos 2 s))
    (λ q.
    let r = refused x at low high f wide s whole q e in
    let on = again f wide s x at r in
    record { kept = kept f wide s x at r; again = on; never = λ t same. never_by f wide t x at (λ h. on t h same) })
    (λ q.
    let five : judged_in (faulty Index (first_other (pos 1 s))) ≡ judged_wrong x at = rw q at told in
    let is : Index ≡ x = ap fault_in five in
    let place : first_other (pos 1 s) ≡ at = ap told_at five in
    rw (← is, ← place) (first_digit f wide s whole (is_digit (pos 1 s)) refl q))
