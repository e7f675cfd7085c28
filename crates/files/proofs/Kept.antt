-- What is kept of a piece that comes in byte by byte is its first 800 bytes.
use Prim.Native.Nat.{ℕ, ◌+◌, min}
use mathlib.Core.Path.{◌≡◌, refl, sym, ◌∙◌}
use mathlib.Core.Bool.{Bool, true, false}
use mathlib.Core.List.{List, [], ◌∷◌, ◌++◌, append_assoc}
use native.Mathlib.Nat.{min-eq_left, min-eq_right}
use native.Mathlib.Omega.{arith}
use borrow.Author.Tests.{leb-true, leb-false}
use lib.Dec.{leb}
use lib.ListN.{length, take, drop, length-append, length-drop}
use lib.Seq.{take_at, take_all, take-append-le, length-take-le}
use Rattle.figures.specs.Rooms.{put_at}
use Rattle.figures.proofs.Bytes.{laid_fits}
use Rattle.figures.proofs.Putting.{put_past, put_length}

pub record Keeps (room : List ℕ) (n : ℕ) (p : List ℕ) : Type 0 where
  pub size : length room ≡ 800
  pub count : n ≡ min (length p) 800
  pub bytes : take n room ≡ take 800 p

pub keeps_none : (room : List ℕ) → length room ≡ 800 → Keeps room 0 []
keeps_none room e = record { size = e; count = refl; bytes = refl }

pub keeps_more : (room : List ℕ) (n : ℕ) (p : List ℕ) (b : ℕ) → Keeps room n p → Keeps (put_at room n (b ∷ [])) (min (n + 1) (length room)) (p ++ (b ∷ []))
keeps_more room n p b k = by (leb 800 (length p)) refl
  where
    by : (t : Bool) → leb 800 (length p) ≡ t → Keeps (put_at room n (b ∷ [])) (min (n + 1) (length room)) (p ++ (b ∷ []))
    by true e =
        let long = leb-true 800 (length p) e in
        let full : n ≡ 800 = k.count ∙ min-eq_right long in
        let count : min (n + 1) (length room) ≡ 800 = rw k.size (min-eq_right {n = 800} {m = n + 1} (omega arith)) in
        let all : take 800 room ≡ take 800 (p ++ (b ∷ [])) = (rw full at k.bytes) ∙ sym (take-append-le 800 p (b ∷ []) long) in
        record {
          size = put_length room (b ∷ []) n ∙ k.size;
          count = count ∙ sym (min-eq_right {n = 800} {m = length (p ++ (b ∷ []))} (omega (arith, length-append p (b ∷ []))));
          bytes = rw (count, put_past room (b ∷ []) n (omega (arith, k.size))) all;
        }
    by false e =
        let short = leb-false 800 (length p) e in
        let at : n ≡ length p = k.count ∙ min-eq_left {n = length p} {m = 800} (omega arith) in
        let size = k.size in
        let count : min (n + 1) (length room) ≡ n + 1 = min-eq_left {n = n + 1} {m = length room} (omega arith) in
        let more = length-append p (b ∷ []) in
        let own : length (take n room ++ (b ∷ [])) ≡ n + 1 = omega (arith, length-append (take n room) (b ∷ []), length-take-le n room (omega arith)) in
        let put : put_at room n (b ∷ []) ≡ (take n room ++ (b ∷ [])) ++ drop 1 (drop n room) =
        rw (laid_fits (b ∷ []) (drop n room) (omega (arith, length-drop n room)), append_assoc (take n room) (b ∷ []) (drop 1 (drop n room))) in
        record {
          size = put_length room (b ∷ []) n ∙ k.size;
          count = count ∙ (omega arith ∙ sym (min-eq_left {n = length (p ++ (b ∷ []))} {m = 800} (omega arith)));
          bytes =
              rw (count, put, take_at (take n room ++ (b ∷ [])) (drop 1 (drop n room)) (n + 1) own, k.bytes, take_all 800 p (omega arith))
              (sym (take_all 800 (p ++ (b ∷ [])) (omega arith)));
        }
