-- Accepted blocks write back to the same bytes.
use Prim.Native.Nat.{ℕ, zero, suc, ◌+◌, ◌≤◌, ◌<◌}
use mathlib.Core.Path.{◌≡◌, refl, sym, ap, subst₂, ◌∙◌}
use mathlib.Core.Bool.{Bool, true, false, cond, false≢true}
use mathlib.Core.List.{List, [], ◌∷◌, ◌++◌, append_assoc, append-nil}
use native.Mathlib.Omega.{arith}
use borrow.Author.Tests.{eqb-true, eqb-false, lt-ltb}
use lib.Dec.{eqb}
use lib.ListN.{length, take, drop, length-append, length-drop}
use lib.Seq.{take-add, drop-drop, length-take-le, take-append_seam, drop-append_seam}
use Rattle.std.specs.Prelude.{Ok, Err}
use Rattle.figures.specs.Bytes.{laid}
use Rattle.words.specs.Reading.{word_size, word_of, right_word, Judged, judged_right, judged_in, word_in}
use Rattle.words.specs.Writing.{bytes_of}
use Rattle.units.specs.declared.kinds.Family.{Family}
use Rattle.words.specs.declared.records.Word.{Word}
use Rattle.words.specs.declared.reading.Fault.TheVariants.{Short}
use Rattle.words.proofs.RoundTrip.{read_write}
use Rattle.blocks.specs.Judging.{Judgement, is_at, is_wide, first_at, refused_by, ended_at, after_word, block_from, judged}
use Rattle.blocks.specs.Composing.{words_bytes, block_bytes, written}
use Rattle.figures.specs.Text.{end_bytes, star_bytes}
use Rattle.blocks.specs.declared.answers.Refusal.{Refusal}
use Rattle.blocks.specs.declared.answers.Refusal.TheVariants.{Empty, Wrong, NoWord, NoEnd, NoPlace}
use Rattle.blocks.specs.declared.answers.Reading.{Reading}
use Rattle.blocks.specs.Rules.{right_all, Lawful, read_as}
use Rattle.blocks.proofs.Steps.{cond_by, start_by, start_small, right_is}
use Rattle.blocks.proofs.Written.{lawful_written}

pub record Accepted (f : Family) (s : List ℕ) (places : ℕ) (r : Reading) (ws : List Word) : Type 0 where
  pub width : r.wide ≡ is_wide s
  pub lawful : Lawful f r.wide ws
  pub placed : length ws ≤ places
  pub counted : r.words ≡ length ws
  pub within : r.used ≤ length s
  pub bytes : block_bytes f r.wide r.crlf ws ≡ take r.used s
  pub apart : r.crlf ≡ false → is_at 10 (drop r.used s) ≡ false

-- a refusal accepts nothing

never : (f : Refusal) (r : Reading) (ws : List Word) → refused_by f ≡ read_as r ws → ⊥
never f r ws e =
    let q : Err f ≡ Ok r = ap (λ (j : Judgement). j.answer) e in
    let z : ◌≡◌ {A = ℕ} 0 1 = cc in
    omega arith

past : (b : Bool) (f : Refusal) (j : Judgement) (r : Reading) (ws : List Word) → cond b (refused_by f) j ≡ read_as r ws → (b ≡ false) × (j ≡ read_as r ws)
past true f j r ws e = absurd (never f r ws e)
past false f j r ws e = (refl, e)

past_word : (a : Judged) (at : ℕ) (j : Judgement) (r : Reading) (ws : List Word) → after_word at a j ≡ read_as r ws → (a ≡ judged_right) × (j ≡ read_as r ws)
past_word (Ok u) at j r ws e = (refl, e)
past_word (Err x) at j r ws e = absurd (never (Wrong x.fault (at + x.at)) r ws e)

at_is : (b : ℕ) (rest : List ℕ) → is_at b rest ≡ true → rest ≡ b ∷ drop 1 rest
at_is b [] e = absurd (false≢true e)
at_is b (x ∷ rest) e = ap (λ n. n ∷ rest) (eqb-true x b (rw (lt-ltb 0 (suc (length rest)) (omega arith)) at e))

-- a terminator, and what comes after it
end_is : (rest : List ℕ) (lf : Bool) → is_at 13 rest ≡ true → is_at 10 (drop 1 rest) ≡ lf
    → (after : List ℕ) × (rest ≡ end_bytes lf ++ after) × (lf ≡ false → is_at 10 after ≡ false)
end_is rest true cr is = (drop 1 (drop 1 rest), at_is 13 rest cr ∙ ap (λ t. 13 ∷ t) (at_is 10 (drop 1 rest) is), λ e. absurd (false≢true (sym e)))
end_is rest false cr is = (drop 1 rest, at_is 13 rest cr, λ e. is)

end_used : (lf : Bool) (at : ℕ) → cond lf (at + 2) (at + 1) ≡ at + length (end_bytes lf)
end_used true at = refl
end_used false at = refl

-- what acceptance says of the words that are still to come
record On (f : Family) (more : ℕ) (wide : Bool) (places at : ℕ) (rest : List ℕ) (done : List Word) (r : Reading) (ws : List Word) : Type 0 where
  new : List Word
  size : ℕ
  list : ws ≡ done ++ new
  some : is_at 13 rest ≡ false → 1 ≤ length new
  most : length new ≤ more
  placed : length done ≤ places → length done + length new ≤ places
  right : right_all f wide new ≡ true
  width : r.wide ≡ wide
  counted : r.words ≡ length ws
  used : r.used ≡ at + size
  within : size ≤ length rest
  bytes : words_bytes f wide new ++ end_bytes r.crlf ≡ take size rest
  apart : r.crlf ≡ false → is_at 10 (drop size rest) ≡ false

end_on : (f : Family) (more : ℕ) (wide : Bool) (places at : ℕ) (rest : List ℕ) (done : List Word) (lf : Bool) → is_at 13 rest ≡ true → is_at 10 (drop 1 rest) ≡ lf
    → On f more wide places at rest done (record { wide = wide; crlf = lf; words = length done; used = cond lf (at + 2) (at + 1) }) done
unfolding right_all words_bytes
end_on f more wide places at rest done lf cr is =
    let (after, split, apart) = end_is rest lf cr is in
    let ended = end_bytes lf in
    record {
      new = [];
      size = length ended;
      list = sym (append-nil done);
      some = λ e. absurd (false≢true (sym e ∙ cr));
      most = omega arith;
      placed = λ h. omega arith;
      right = refl;
      width = refl;
      counted = refl;
      used = end_used lf at;
      within = omega (arith, ap length split, length-append ended after);
      bytes = sym (ap (take (length ended)) split ∙ take-append_seam ended after);
      apart = λ e. ap (λ t. is_at 10 (drop (length ended) t)) split ∙ ap (is_at 10) (drop-append_seam ended after) ∙ apart e;
    }

ended_on : (f : Family) (more : ℕ) (wide : Bool) (places at : ℕ) (rest : List ℕ) (done : List Word) (r : Reading) (ws : List Word) → is_at 13 rest ≡ true
    → record { answer = ended_at wide at rest (length done); words = done } ≡ read_as r ws → On f more wide places at rest done r ws
ended_on f more wide places at rest done r ws cr e =
    let a : ended_at wide at rest (length done) ≡ Ok r = ap (λ (j : Judgement). j.answer) e in
    let is : record { wide = wide; crlf = is_at 10 (drop 1 rest); words = length done; used = cond (is_at 10 (drop 1 rest)) (at + 2) (at + 1) } ≡ r = cc in
    subst₂ (On f more wide places at rest done) is (ap (λ (j : Judgement). j.words) e) (end_on f more wide places at rest done (is_at 10 (drop 1 rest)) cr refl)

step_on : (f : Family) (more : ℕ) (wide : Bool) (places at : ℕ) (rest : List ℕ) (done : List Word) (r : Reading) (ws : List Word) (w : Word)
    → word_size wide ≤ length rest → length done < places → word_of f wide rest ≡ right_word w
    → On f more wide places (at + word_size wide) (drop (word_size wide) rest) (done ++ (w ∷ [])) r ws → On f (suc more) wide places at rest done r ws
unfolding right_all words_bytes
step_on f more wide places at rest done r ws w long free e o =
    let k = word_size wide in
    let one_more = length-append done (w ∷ []) in
    let (right, bytes) = read_write f wide rest w e in
    record {
      new = w ∷ o.new;
      size = k + o.size;
      list = o.list ∙ append_assoc done (w ∷ []) o.new;
      some = λ h. omega arith;
      most = omega arith;
      placed = λ h. omega (arith, o.placed (omega arith));
      right = rw right o.right;
      width = o.width;
      counted = o.counted;
      used = omega arith;
      within = omega (arith, length-drop k rest);
      bytes = append_assoc (bytes_of f wide w) (words_bytes f wide o.new) (end_bytes r.crlf) ∙ rw (o.bytes, bytes) (sym (take-add k o.size rest));
      apart = λ h. rw drop-drop at (o.apart h);
    }

from_on : (f : Family) (more : ℕ) (wide : Bool) (places at : ℕ) (rest : List ℕ) (done : List Word) (r : Reading) (ws : List Word)
    → block_from f more wide places at rest done ≡ read_as r ws → On f more wide places at rest done r ws
unfolding block_from
from_on f zero wide places at rest done r ws =
    cond_by (λ (j : Judgement). j ≡ read_as r ws → On f zero wide places at rest done r ws) (is_at 13 rest) _ _ (ended_on f zero wide places at rest done r ws)
    (λ _ e. absurd (never (NoEnd at) r ws e))
from_on f (suc more) wide places at rest done r ws =
    let o = word_of f wide rest in
    start_by (λ (j : Judgement). j ≡ read_as r ws → On f (suc more) wide places at rest done r ws) false (word_size wide) places (length done) at rest
    refused_by _ _ (ended_on f (suc more) wide places at rest done r ws) (λ e. absurd (never (NoEnd at) r ws e))
    (λ _ _ e. absurd (never (Wrong Short at) r ws e)) (λ e. absurd (never (NoPlace at) r ws e)) (λ _ _ long free e.
    let (right, on) = past_word (judged_in o) at _ r ws e in
    step_on f more wide places at rest done r ws (word_in o) long free (right_is o right)
    (from_on f more wide places (at + word_size wide) (drop (word_size wide) rest) (done ++ (word_in o ∷ [])) r ws on))

star_is : (s : List ℕ) (wide : Bool) → eqb (length s) 0 ≡ false → is_wide s ≡ wide → star_bytes wide ≡ take (first_at wide) s
star_is [] wide e h = absurd (false≢true (sym e))
star_is (x ∷ s) true e h = ap (λ n. n ∷ []) (sym (eqb-true x 42 h))
star_is (x ∷ s) false e h = refl

accepted_on : (f : Family) (s : List ℕ) (places : ℕ) (r : Reading) (ws : List Word) (wide : Bool) → eqb (length s) 0 ≡ false → is_wide s ≡ wide
    → is_at 13 (drop (first_at wide) s) ≡ false → On f 32 wide places (first_at wide) (drop (first_at wide) s) [] r ws → Accepted f s places r ws
accepted_on f s places r ws wide full star first o =
    let list : ws ≡ o.new = o.list in
    let front = star_is s wide full star in
    let some : 1 ≤ length ws = rw list (o.some first) in
    let most : length ws ≤ 32 = rw list o.most in
    record {
      width = o.width ∙ sym star;
      lawful = record { some = some; most = most; right = rw (o.width, list) o.right };
      placed = rw list (omega (arith, o.placed (omega arith)));
      counted = o.counted;
      within = omega (arith, length-drop (first_at wide) s, start_small wide, eqb-false (length s) 0 full);
      bytes = rw (o.width, list, o.used, front, o.bytes) (sym (take-add (first_at wide) o.size s));
      apart = λ h. rw o.used (rw drop-drop at (o.apart h));
    }

-- what is read keeps the rules, and writes back to the bytes that were read
pub accepted : (f : Family) (s : List ℕ) (places : ℕ) (r : Reading) (ws : List Word) → judged f s places ≡ read_as r ws → Accepted f s places r ws
accepted f s places r ws e =
    let wide = is_wide s in
    let full = past (eqb (length s) 0) Empty _ r ws e in
    let first = past (is_at 13 (drop (first_at wide) s)) NoWord _ r ws full.1 in
    accepted_on f s places r ws wide full.0 refl first.0 (from_on f 32 wide places (first_at wide) (drop (first_at wide) s) [] r ws first.1)

pub accepted_written : (f : Family) (s : List ℕ) (places : ℕ) (r : Reading) (ws : List Word) (room : List ℕ) → judged f s places ≡ read_as r ws
    → r.used ≤ length room
    → written f ws r.wide r.crlf room ≡ record { answer = Ok r.used; room = laid (take r.used s) room }
accepted_written f s places r ws room e fits =
    let a = accepted f s places r ws e in
    let size = length-take-le r.used s a.within in
    lawful_written f ws r.wide r.crlf room a.lawful (omega (arith, ap length a.bytes)) ∙ rw (a.bytes, size)
