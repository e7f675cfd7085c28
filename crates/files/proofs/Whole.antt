-- A text that fits its room stands there whole.
use Prim.Native.Nat.{ℕ, ◌+◌, ◌≤◌, min}
use mathlib.Core.Path.{◌≡◌, refl, ◌∙◌}
use mathlib.Core.List.{List, ◌++◌, append_assoc}
use native.Mathlib.Nat.{min-eq_left}
use native.Mathlib.Omega.{arith}
use lib.ListN.{length, take, drop, length-append, length-drop}
use lib.Seq.{take_at, length-take-le}
use Rattle.figures.specs.Rooms.{put_at}
use Rattle.figures.proofs.Bytes.{laid_fits}

-- a text that fits is printed whole
pub put_out : (text t : List ℕ) → length t ≤ length text → take (min (length t) (length text)) (put_at text 0 t) ≡ t
put_out text t h = rw (min-eq_left {n = length t} {m = length text} h, laid_fits t text h) (take_at t (drop (length t) text) (length t) refl)

-- and so is one that is put after the n bytes that are there already
pub put_after : (text t : List ℕ) (n : ℕ) → n + length t ≤ length text → take (min (n + length t) (length text)) (put_at text n t) ≡ take n text ++ t
put_after text t n h =
    let rest = drop (length t) (drop n text) in
    let size : length (take n text ++ t) ≡ n + length t = length-append (take n text) t ∙ rw (length-take-le n text (omega arith)) in
    let fits = laid_fits t (drop n text) (omega (arith, length-drop n text)) in
    let put : put_at text n t ≡ (take n text ++ t) ++ rest = rw (fits, append_assoc (take n text) t rest) in
    rw (min-eq_left {n = n + length t} {m = length text} h, put) (take_at (take n text ++ t) rest (n + length t) size)
