-- What was taken of the bytes of one read, and of a file read by read.
use Rattle.std.proofs.Common.{ℕ, suc, ◌+◌, ◌<◌, ◌≤◌, ◌≡◌, sym, ap, subst, ◌∙◌, List, [], ◌∷◌, ◌++◌, append_assoc, append-nil, length, get_or, take, drop, Option, None, Some, IfSome, Result, Ok, Err, OnOk, OnErr, take-append-drop, drop-cons}
use Rattle.std.proofs.lemmas.List.{take_more}
use Rattle.std.specs.Io.KnownBytes.{Consumes, IsAtEnd}
use Rattle.std.proofs.KnownBytes.{Consumes-trans, Consumes-whole}
use lib.Seq.{take_all}
use Rattle.files.specs.Feeding.{SinkLaws}

pub on_err : {A E P : Type 0} (r : Result A E) → P → OnErr r P
on_err (Ok x) p = tt
on_err (Err e) p = p

pub on_err_too : {A E P Q : Type 0} (r : Result A E) → (P → Q) → OnErr r P → OnErr r Q
on_err_too (Ok x) f p = tt
on_err_too (Err e) f p = f p

pub on_ok : {A E P : Type 0} (r : Result A E) → P → OnOk r P
on_ok (Ok x) p = p
on_ok (Err e) p = tt

pub on_ok_too : {A E P Q : Type 0} (r : Result A E) → (P → Q) → OnOk r P → OnOk r Q
on_ok_too (Ok x) f p = f p
on_ok_too (Err e) f p = tt

pub on_either : {A E P Q X : Type 0} (r : Result A E) → OnOk r P → OnErr r Q → (P → X) → (Q → X) → X
on_either (Ok x) p q f g = f p
on_either (Err e) p q f g = g q

pub none_read : (n : ℕ) (bytes : List ℕ) (u u' : Option (List ℕ)) → n ≡ 0 → Consumes u u' (take n bytes) → Consumes u u' []
none_read n bytes u u' h p = subst (Consumes u u') (ap (λ k. take k bytes) h) p

-- a file so far
pub record Going {S : Type 0} (Takes : S → List ℕ → S → Type 0) (r r' : Option (List ℕ)) (s t : S) : Type 0 where
  pub file : List ℕ
  pub read : Consumes r r' file
  pub taken : Takes s file t

module _ {S : Type 0} (Keeps : S → S → Type 0) (Takes Ends Breaks : S → List ℕ → S → Type 0) (laws : SinkLaws Keeps Takes Ends Breaks) where
  module _ (bytes : List ℕ) (i : ℕ) (h : i < length bytes) (s t u : S) (taken : Takes s (take i bytes) t) where
    pub takes_next : Takes t (get_or bytes i 0 ∷ []) u → Takes s (take (i + 1) bytes) u
    takes_next p = subst (λ l. Takes s l u) (sym (take_more bytes i 0 h)) (laws.more s t u _ _ taken p)

    pub breaks_within : ((rest : List ℕ) → Breaks t (get_or bytes i 0 ∷ rest) u) → (rest : List ℕ) → Breaks s (bytes ++ rest) u
    breaks_within p rest =
        let split = sym (take-append-drop i bytes) ∙ ap (λ l. take i bytes ++ l) (drop-cons bytes i 0 h) in
        let file = ap (λ l. l ++ rest) split ∙ append_assoc (take i bytes) (get_or bytes i 0 ∷ drop (suc i) bytes) rest in
        subst (λ l. Breaks s l u) (sym file) (laws.breaks s t u _ _ taken (p (drop (suc i) bytes ++ rest)))

  pub takes_all : (bytes : List ℕ) (i : ℕ) (s t : S) → length bytes ≤ i → Takes s (take i bytes) t → Takes s bytes t
  takes_all bytes i s t h p = subst (λ l. Takes s l t) (take_all i bytes h) p

  module _ (r r' r'' : Option (List ℕ)) (s t u : S) (going : Going Takes r r' s t) where
    pub going_next : (bytes : List ℕ) → Consumes r' r'' bytes → Takes t bytes u → Going Takes r r'' s u
    going_next bytes p q = record {
      file = going.file ++ bytes;
      read = Consumes-trans r r' r'' going.file bytes going.read p;
      taken = laws.more s t u going.file bytes going.taken q;
    }

    pub going_end : Consumes r' r'' [] → IsAtEnd r'' → Ends t [] u → IfSome r (λ file. Ends s file u)
    going_end p e q =
        let read : Consumes r r'' going.file = subst (Consumes r r'') (append-nil going.file) (Consumes-trans r r' r'' going.file [] going.read p) in
        Consumes-whole r r'' going.file (λ file. Ends s file u) read e (subst (λ l. Ends s l u) (append-nil going.file) (laws.ends s t u going.file [] going.taken q))

  breaks_on : (xs ys : List ℕ) (s t u : S) (file : List ℕ) → Takes s file t → xs ≡ file ++ ys → Breaks t ys u → Breaks s xs u
  breaks_on xs ys s t u file p e q = subst (λ l. Breaks s l u) (sym e) (laws.breaks s t u file ys p q)

  pub going_breaks : (r r' : Option (List ℕ)) (s t u : S) → Going Takes r r' s t → IfSome r' (λ file. Breaks t file u) → IfSome r (λ file. Breaks s file u)
  going_breaks None r' s t u going p = tt
  going_breaks (Some xs) None s t u going p = absurd going.read
  going_breaks (Some xs) (Some ys) s t u going p = breaks_on xs ys s t u going.file going.taken going.read p

  -- a part that was read goes before what was left
  pub breaks_of : (r r' : Option (List ℕ)) (t u : S) (bytes : List ℕ) → Consumes r r' bytes → ((rest : List ℕ) → Breaks t (bytes ++ rest) u) → IfSome r (λ file. Breaks t file u)
  breaks_of None r' t u bytes p q = tt
  breaks_of (Some xs) None t u bytes p q = absurd p
  breaks_of (Some xs) (Some ys) t u bytes p q = subst (λ l. Breaks t l u) (sym p) (q ys)

  pub breaks_at_end : (r r' : Option (List ℕ)) (t u : S) → Consumes r r' [] → IsAtEnd r' → Breaks t [] u → IfSome r (λ file. Breaks t file u)
  breaks_at_end r r' t u p e q = Consumes-whole r r' [] (λ file. Breaks t file u) p e q

  pub breaks_at_once : (r : Option (List ℕ)) (t : S) → IfSome r (λ file. Breaks t file t)
  breaks_at_once None t = tt
  breaks_at_once (Some xs) t = laws.at_once t xs

-- the laws of a value hold of all that is seen as one
pub laws_through : {S T : Type 0} (f : S → T) (Keeps : T → T → Type 0) (Takes Ends Breaks : T → List ℕ → T → Type 0) → SinkLaws Keeps Takes Ends Breaks
    → SinkLaws (λ s t. Keeps (f s) (f t)) (λ s l t. Takes (f s) l (f t)) (λ s l t. Ends (f s) l (f t)) (λ s l t. Breaks (f s) l (f t))
laws_through f Keeps Takes Ends Breaks laws = record {
  same = λ s. laws.same (f s);
  still = λ s t u. laws.still (f s) (f t) (f u);
  none = λ s. laws.none (f s);
  more = λ s t u l m. laws.more (f s) (f t) (f u) l m;
  ends = λ s t u l m. laws.ends (f s) (f t) (f u) l m;
  at_once = λ s l. laws.at_once (f s) l;
  breaks = λ s t u l m. laws.breaks (f s) (f t) (f u) l m;
}
