-- `put_stands` meets its contract: the bytes that stand in every line are compared, and where they all stand the parts are judged.
use Rattle.std.proofs.Common.{◌≡◌, ℕ, List, [], ◌∷◌, get_or, sym, ap, ◌∙◌, cond, not, eqb}
use borrow.Author.Tests.{eq-eqb, ne_eqb, not-true, not-false}
use lib.Pointwise.{pointwise}
use Rattle.units.specs.Information.{sign_byte, sign_of}
use Rattle.instrument.specs.Values.{stored_at, is_text, kept_right}
use Rattle.instrument.specs.declared.values.Stored.{Stored}
use Rattle.sheets.proofs.Takes.{signed_at, all, put_tests, put_off, put_is}
use Rattle.sheets.proofs.loading.put_stands.Goals as goal
use Rattle.sheets.proofs.loading.put_stands.Goals.{then-row-eq46, else-row-eq46}

-- a byte of the row's key
key_byte : (i : ℕ) (row : Stored) → row ≡ stored_at i → (n : ℕ) → get_or (stored_at i).key n 0 ≡ get_or row.key n 0
key_byte i row is n = sym (ap (λ (r : Stored). get_or r.key n 0) is)

-- the mark of a text and that of a number
mark_text : (i : ℕ) (row : Stored) (m : ℕ) → row ≡ stored_at i → row.first ≡ 46 → m ≡ 46 → m ≡ cond (is_text i) 46 49
mark_text i row m is e q = q ∙ rw (eq-eqb (stored_at i).first 46 (sym (ap (λ (r : Stored). r.first) is) ∙ e))

mark_number : (i : ℕ) (row : Stored) (m : ℕ) → row ≡ stored_at i → (row.first ≡ 46 → ⊥) → m ≡ 49 → m ≡ cond (is_text i) 46 49
mark_number i row m is e q = q ∙ rw (ne_eqb (stored_at i).first 46 (λ p. e (ap (λ (r : Stored). r.first) is ∙ p)))

-- a sign stands where it is that of what it says
sign_is : (b : ℕ) {m n : ℕ} → m ≡ sign_of b → n ≡ sign_byte m → n ≡ sign_byte (sign_of b)
sign_is b e q = q ∙ ap sign_byte e

-- the bytes that are compared
abbrev there : List ℕ → List ℕ
there s = get_or s 4 0 ∷ get_or s 5 0 ∷ get_or s 6 0 ∷ get_or s 7 0 ∷ get_or s 8 0 ∷ get_or s 10 0 ∷ get_or s 19 0 ∷ []

abbrev wanted : ℕ → ℕ → ℕ → ℕ → List ℕ
wanted one two mark sign = one ∷ two ∷ 46 ∷ 46 ∷ mark ∷ sign ∷ 10 ∷ []

tested : (i : ℕ) (s : List ℕ) {one two mark sign : ℕ} → one ≡ get_or (stored_at i).key 1 0 → two ≡ get_or (stored_at i).key 2 0
    → mark ≡ cond (is_text i) 46 49 → sign ≡ sign_byte (sign_of (get_or s 10 0)) → pointwise eqb (there s) (wanted one two mark sign) ≡ all (put_tests i s)
tested i s one two mark sign = rw (one, two, mark, sign)

pub returns-then-ne : goal.returns-then-ne
returns-then-ne c =
    let i = c.args.place in
    let s = c.args.s.now in
    let row = c.stored_at-row.result in
    let is = c.stored_at-row.ensures in
    let mark : c.if-row-eq46.mark ≡ cond (is_text i) 46 49 =
    elim c.if-row-eq46.branch [
      | then-row-eq46 w ↦ mark_text i row _ is w.if-row-eq46.true w.mark-is
      | else-row-eq46 w ↦ mark_number i row _ is w.if-row-eq46.false w.mark-is
    ] in
    let same = tested i s (sym (key_byte i row is 1)) (sym (key_byte i row is 2)) mark (sign_is (get_or s 10 0) c.sign_of-minus.ensures c.sign_byte-sign.ensures) in
    let apart : c.ne.result ≡ not (pointwise eqb (there s) (wanted (get_or row.key 1 0) (get_or row.key 2 0) c.if-row-eq46.mark c.sign_byte-sign.result)) = c.ne.ensures in
    put_off i c.requires.0 s c.requires.1 (not-true _ (sym (apart ∙ ap not same) ∙ c.if-ne.true))

pub returns : goal.returns
returns c =
    let i = c.args.place in
    let s = c.args.s.now in
    let row = c.stored_at-row.result in
    let is = c.stored_at-row.ensures in
    let mark : c.if-row-eq46.mark ≡ cond (is_text i) 46 49 =
    elim c.if-row-eq46.branch [
      | then-row-eq46 w ↦ mark_text i row _ is w.if-row-eq46.true w.mark-is
      | else-row-eq46 w ↦ mark_number i row _ is w.if-row-eq46.false w.mark-is
    ] in
    let same = tested i s (sym (key_byte i row is 1)) (sym (key_byte i row is 2)) mark (sign_is (get_or s 10 0) c.sign_of-minus.ensures c.sign_byte-sign.ensures) in
    let apart : c.ne.result ≡ not (pointwise eqb (there s) (wanted (get_or row.key 1 0) (get_or row.key 2 0) c.if-row-eq46.mark c.sign_byte-sign.result)) = c.ne.ensures in
    c.parts_right.ensures
    ∙ ap (λ (m : ℕ). kept_right i (signed_at s m)) c.sign_of-minus.ensures
    ∙ put_is i c.requires.0 s c.requires.1 (not-false _ (sym (apart ∙ ap not same) ∙ c.if-ne.false))
