-- How a choice reads whose readers take the next token themselves, and a choice by the token behind the next one.
use Rattle.std.proofs.Common.{◌≡◌, ℕ, zero, suc, ◌<◌, List, [], ◌∷◌, ◌++◌, length, arith, Option, Some, None, refl, sym, ◌∙◌, ap, subst, ◌⊎◌, inl, inr}
use Rattle.mm_reading.specs.Parsing.{Outcome, Parsed, Fault, ◌>>◌, fail, peek, skip, head}
use Rattle.mm_reading.proofs.Combining.{Family, Read, Broken, At, Reads, Takes, Example, Never}
use Rattle.mm_parse_expr.specs.declared.terminal.Terminal.{Terminal}
use Rattle.mm_parse_expr.specs.reading.ExprReading.{Reader}
use Rattle.mm_parse_expr.proofs.Follow.{Any}
use Rattle.mm_grammar.specs.reading.StatementReading.{peek_behind}
use Rattle.mm_grammar.proofs.MarkReads.{Follow}

-- a reader for each bound on the terminals
abbrev pub Many : Type 0 → Type 0
Many A = Family Terminal A

-- ---- outcomes

-- what is read is read once
one_outcome : {A : Type 0} (o : Outcome Terminal A) (a : A) (ts us : List Terminal) → o ≡ Fault ts → o ≡ Parsed a us → ⊥
one_outcome o a ts us f p = cc

one_rest : {A : Type 0} (o : Outcome Terminal A) (a b : A) (ts us : List Terminal) → o ≡ Parsed a ts → o ≡ Parsed b us → ts ≡ us
one_rest o a b ts us f p = cc

-- ---- examples

-- a choice that takes a token, over the same bound
pub example_taken : {A : Type 0} (P Q C : Follow) (t : Terminal) (q p : Many A) → P (Some t) → ((m : ℕ) (ts : List Terminal) → q m (t ∷ ts) ≡ p m ts) → Example Q C p → Example P C q
example_taken P Q C t q p b e x = record {
  more = t ∷ x.more;
  value = x.value;
  fits = λ tail c m l. e m (x.more ++ tail) ∙ x.fits tail c m (omega arith);
  starts = λ tail c. b;
}

-- t by itself has the value a
abbrev pub Alone : {A : Type 0} → Follow → Terminal → A → Many A → Type 0
Alone C t a q = (tail : List Terminal) → C (head tail) → (m : ℕ) → length (t ∷ tail) < m → q m (t ∷ tail) ≡ Parsed a tail

-- what is read where nothing follows is read before all that may follow
pub alone : {A : Type 0} (B C : Follow) (t : Terminal) (a : A) (p : Reader A) (q : Many A) → Reads 2 B C p q → p (t ∷ []) ≡ Parsed a [] → Alone C t a q
alone {A = A} B C t a p q r e = over (subst (λ (o : Outcome Terminal A). At q B C o (t ∷ [])) e (r.at (t ∷ []) (omega arith)))
  where
    by : (read : List Terminal) → read ++ [] ≡ t ∷ [] → ((tail : List Terminal) → C (head tail) → (m : ℕ) → length (read ++ tail) < m → q m (read ++ tail) ≡ Parsed a tail) → Alone C t a q
    by [] parts fits = cc
    by (x ∷ []) parts fits = subst (λ (u : Terminal). Alone C u a q) (same parts) fits
      where
        same : x ∷ [] ≡ t ∷ [] → x ≡ t
        same e = cc
    by (x ∷ (y ∷ ys)) parts fits = cc

    over : Read q B C a [] (t ∷ []) → Alone C t a q
    over h = by h.read h.parts (λ tail c m l. h.fits tail (inl c) m l)

-- a family that reads t as another does
pub example_alone : {A : Type 0} (P C : Follow) (t : Terminal) (a : A) (q q' : Many A) → P (Some t) → Alone C t a q → ((m : ℕ) (ts : List Terminal) → q' m (t ∷ ts) ≡ q m (t ∷ ts)) → Example P C q'
example_alone P C t a q q' b x e = record { more = t ∷ []; value = a; fits = λ tail c m l. e m tail ∙ x tail c m l; starts = λ tail c. b }

-- ---- a choice whose readers take the next token themselves

-- where t stands next it is taken, or the reader goes on with it and reads nothing from no tokens
pub data Begun {A : Type 0} (n : ℕ) (C : Follow) (f : Option Terminal → Reader A) (g : Option Terminal → Many A) (t : Terminal) : Type 0 where
  takes : Takes n t C (f (Some t)) (g (Some t)) → Begun n C f g t
  begins : g (Some t) 1 [] ≡ Fault [] → Reads n Any C (f (Some t)) (g (Some t)) → Begun n C f g t

module _ {A : Type 0} (n : ℕ) (P C : Follow) (f : Option Terminal → Reader A) (g : Option Terminal → Many A) (free : C None) (ex : Example P C (λ m. peek (λ h. g h m))) where
  abbrev all : Many A
  all m = peek (λ h. g h m)

  first : (t x : Terminal) (xs rest ts : List Terminal) → (x ∷ xs) ++ rest ≡ t ∷ ts → Some x ≡ Some t
  first t x xs rest ts e = ap head e

  parsed : (t : Terminal) (ts : List Terminal) (a : A) (rest read : List Terminal) → (read ≡ [] → ⊥) → read ++ rest ≡ t ∷ ts → ((tail : List Terminal) → C (head tail) ⊎ (head tail ≡ head rest) → (m : ℕ) → length (read ++ tail) < m → g (Some t) m (read ++ tail) ≡ Parsed a tail) → Read all P C a rest (t ∷ ts)
  unfolding peek
  parsed t ts a rest [] some parts fits = absurd (some refl)
  parsed t ts a rest (x ∷ xs) some parts fits = record {
    read = x ∷ xs;
    parts = parts;
    fits = λ tail c m l. ap (λ h. g h m (x ∷ (xs ++ tail))) (first t x xs rest ts parts) ∙ fits tail c m l;
    starts = λ e tail c. cc;
  }

  -- where the fault stands at the next token the choice is completed by any example
  broken : (t : Terminal) (ts rest read more : List Terminal) (value : A) → read ++ rest ≡ t ∷ ts → ((tail : List Terminal) → head tail ≡ head rest → (m : ℕ) → length (read ++ tail) < m → g (Some t) m (read ++ tail) ≡ Fault tail) → ((tail : List Terminal) → C (head tail) → (m : ℕ) → length (read ++ (more ++ tail)) < m → g (Some t) m (read ++ (more ++ tail)) ≡ Parsed value tail) → Broken all P C rest (t ∷ ts)
  unfolding peek
  broken t ts rest [] more value parts same fits = record {
    read = [];
    parts = parts;
    same = λ tail s m l. ap (λ h. g h m tail) (s ∙ ap head parts) ∙ same tail s m l;
    more = ex.more;
    value = ex.value;
    fits = λ tail c m l. ex.fits tail c m l;
    starts = λ none tail c. ex.starts tail c;
  }
  broken t ts rest (x ∷ xs) more value parts same fits = record {
    read = x ∷ xs;
    parts = parts;
    same = λ tail s m l. ap (λ h. g h m (x ∷ (xs ++ tail))) (first t x xs rest ts parts) ∙ same tail s m l;
    more = more;
    value = value;
    fits = λ tail c m l. ap (λ h. g h m (x ∷ (xs ++ (more ++ tail)))) (first t x xs rest ts parts) ∙ fits tail c m l;
    starts = λ e tail c. cc;
  }

  -- where the next token is taken
  took : (t : Terminal) (ts : List Terminal) (o : Outcome Terminal A) → At (g (Some t)) Never C o (t ∷ ts) → At all P C o (t ∷ ts)
  took t ts (Parsed a rest) k = parsed t ts a rest k.read (λ e. k.starts e [] free) k.parts k.fits
  took t ts (Fault rest) k = broken t ts rest k.read k.more k.value k.parts k.same k.fits

  -- a value is read from one token at least
  begun : (t : Terminal) (ts : List Terminal) (o : Outcome Terminal A) → g (Some t) 1 [] ≡ Fault [] → At (g (Some t)) Any C o (t ∷ ts) → At all P C o (t ∷ ts)
  begun t ts (Parsed a rest) none k = parsed t ts a rest k.read some k.parts k.fits
    where
      some : k.read ≡ [] → ⊥
      some e = one_outcome (g (Some t) 1 []) a [] [] none (subst (λ (read : List Terminal). g (Some t) 1 (read ++ []) ≡ Parsed a []) e (k.fits [] (inl free) 1 (subst (λ (read : List Terminal). length (read ++ []) < 1) (sym e) (omega arith))))
  begun t ts (Fault rest) none k = broken t ts rest k.read k.more k.value k.parts k.same k.fits

  -- where no token stands
  ended : f None ≡ fail → ((m : ℕ) → g None (suc m) ≡ fail) → At all P C (f None []) []
  unfolding peek fail
  ended e none = subst (λ (p : Reader A). At all P C (p []) []) (sym e) (record { read = []; parts = refl; same = λ tail s m l. over tail s m l; more = ex.more; value = ex.value; fits = λ tail c m l. ex.fits tail c m l; starts = λ none tail c. ex.starts tail c })
    where
      over : (tail : List Terminal) → head tail ≡ None → (m : ℕ) → length tail < m → g (head tail) m tail ≡ Fault tail
      over [] s zero l = absurd (omega arith)
      over [] s (suc m) l = ap (λ (p : Reader A). p []) (none m)
      over (t ∷ ts) s m l = cc

  -- where each token is taken or gone on with, and nothing begins where no token stands
  pub reads_begun : f None ≡ fail → ((m : ℕ) → g None (suc m) ≡ fail) → ((t : Terminal) → Begun n C f g t) → Reads n P C (peek f) all
  unfolding peek
  reads_begun e none each = record { at = over }
    where
      by : (t : Terminal) (ts : List Terminal) → length (t ∷ ts) < n → Begun n C f g t → At all P C (f (Some t) (t ∷ ts)) (t ∷ ts)
      by t ts l (takes k) = took t ts (f (Some t) (t ∷ ts)) (k.at ts l)
      by t ts l (begins nothing k) = begun t ts (f (Some t) (t ∷ ts)) nothing (k.at (t ∷ ts) l)

      over : (ts : List Terminal) → length ts < n → At all P C (f (head ts) ts) ts
      over [] l = ended e none
      over (t ∷ ts) l = by t ts l (each t)

-- ---- a choice by the token behind the next one

-- what the choice does where h stands behind t: it takes both, or it reads as p does
pub data Behind {A : Type 0} (n : ℕ) (C : Follow) (f : Option Terminal → Reader A) (g : Option Terminal → Many A) (p : Reader A) (q : Many A) : Option Terminal → Type 0 where
  both : {u : Terminal} (p' : Reader A) (q' : Many A) → f (Some u) ≡ (skip >> (skip >> p')) → ((m : ℕ) → g (Some u) m ≡ (skip >> (skip >> q' m))) → Reads n Any C p' q' → Behind n C f g p q (Some u)
  same : {h : Option Terminal} → f h ≡ p → ((m : ℕ) → g h m ≡ q m) → Behind n C f g p q h

module _ {A : Type 0} (n : ℕ) (C : Follow) (f : Option Terminal → Reader A) (g : Option Terminal → Many A) (t : Terminal) (a : A) (p : Reader A) (q : Many A) (free : C None) (reads : Reads n Any C p q) (single : Alone C t a q) (clear : (h : Option Terminal) (m : ℕ) → C h → g h m ≡ q m) where
  abbrev behind : Many A
  behind m = peek_behind (λ h. g h m)

  -- where both tokens are taken
  two : (u : Terminal) (us : List Terminal) (q' : Many A) → ((m : ℕ) → g (Some u) m ≡ (skip >> (skip >> q' m))) → (o : Outcome Terminal A) → At q' Any C o us → At behind Never C o (t ∷ (u ∷ us))
  unfolding peek_behind skip
  two u us q' e (Parsed b rest) k = record {
    read = t ∷ (u ∷ k.read);
    parts = ap (λ xs. t ∷ (u ∷ xs)) k.parts;
    fits = λ tail c m l. ap (λ (s : Reader A). s (t ∷ (u ∷ (k.read ++ tail)))) (e m) ∙ k.fits tail c m (omega arith);
    starts = λ e tail c. cc;
  }
  two u us q' e (Fault rest) k = record {
    read = t ∷ (u ∷ k.read);
    parts = ap (λ xs. t ∷ (u ∷ xs)) k.parts;
    same = λ tail s m l. ap (λ (s : Reader A). s (t ∷ (u ∷ (k.read ++ tail)))) (e m) ∙ k.same tail s m (omega arith);
    more = k.more;
    value = k.value;
    fits = λ tail c m l. ap (λ (s : Reader A). s (t ∷ (u ∷ (k.read ++ (k.more ++ tail))))) (e m) ∙ k.fits tail c m (omega arith);
    starts = λ e tail c. cc;
  }

  -- behind the tokens xs that were read, and where what follows is allowed or begins alike, the choice is the same
  chosen : (ts rest : List Terminal) → ((m : ℕ) → g (head ts) m ≡ q m) → (xs tail : List Terminal) → xs ++ rest ≡ ts → C (head tail) ⊎ (head tail ≡ head rest) → (m : ℕ) → g (head (xs ++ tail)) m ≡ q m
  chosen ts rest e [] tail parts (inl c) m = clear (head tail) m c
  chosen ts rest e [] tail parts (inr s) m = ap (λ h. g h m) (s ∙ ap head parts) ∙ e m
  chosen ts rest e (x ∷ xs) tail parts c m = ap (λ h. g h m) (ap head parts) ∙ e m

  behind_first : (x : Terminal) (xs rest ts : List Terminal) → x ∷ (xs ++ rest) ≡ t ∷ ts → xs ++ rest ≡ ts
  behind_first x xs rest ts e = cc

  one : (x : Terminal) (xs rest ts : List Terminal) → x ∷ (xs ++ rest) ≡ t ∷ ts → x ≡ t
  one x xs rest ts e = cc

  -- where the choice reads as p does, at least t was read
  parsed_plain : (ts : List Terminal) → ((m : ℕ) → g (head ts) m ≡ q m) → (b : A) (rest read : List Terminal) → read ++ rest ≡ t ∷ ts → ((tail : List Terminal) → C (head tail) ⊎ (head tail ≡ head rest) → (m : ℕ) → length (read ++ tail) < m → q m (read ++ tail) ≡ Parsed b tail) → Read behind Never C b rest (t ∷ ts)
  unfolding peek_behind
  parsed_plain ts e b rest [] parts fits =
      let e : [] ≡ t ∷ [] = one_rest (q 2 (t ∷ [])) a b [] (t ∷ []) (single [] free 2 (omega arith)) (fits (t ∷ []) (inr (sym (ap head parts))) 2 (omega arith)) in
      cc
  parsed_plain ts e b rest (x ∷ xs) parts fits = record {
    read = x ∷ xs;
    parts = parts;
    fits = λ tail c m l. ap (λ (s : Reader A). s (x ∷ (xs ++ tail))) (chosen ts rest e xs tail (behind_first x xs rest ts parts) c m) ∙ fits tail c m l;
    starts = λ e tail c. cc;
  }

  -- t alone is complete where the fault stands behind it
  broken_plain : (ts : List Terminal) → ((m : ℕ) → g (head ts) m ≡ q m) → (rest read more : List Terminal) (value : A) → read ++ rest ≡ t ∷ ts → ((tail : List Terminal) → head tail ≡ head rest → (m : ℕ) → length (read ++ tail) < m → q m (read ++ tail) ≡ Fault tail) → ((tail : List Terminal) → C (head tail) → (m : ℕ) → length (read ++ (more ++ tail)) < m → q m (read ++ (more ++ tail)) ≡ Parsed value tail) → Broken behind Never C rest (t ∷ ts)
  unfolding peek_behind
  broken_plain ts e rest [] more value parts alike fits = absurd (one_outcome (q 2 (t ∷ [])) a (t ∷ []) [] (alike (t ∷ []) (sym (ap head parts)) 2 (omega arith)) (single [] free 2 (omega arith)))
  broken_plain ts e rest (x ∷ []) more value parts alike fits = record {
    read = x ∷ [];
    parts = parts;
    same = λ tail s m l. ap (λ (p : Reader A). p (x ∷ tail)) (chosen ts rest e [] tail (behind_first x [] rest ts parts) (inr s) m) ∙ alike tail s m l;
    more = [];
    value = a;
    fits = λ tail c m l. ap (λ (p : Reader A). p (x ∷ tail)) (clear (head tail) m c) ∙ ap (λ (u : Terminal). q m (u ∷ tail)) (one x [] rest ts parts) ∙ single tail c m (omega arith);
    starts = λ e tail c. cc;
  }
  broken_plain ts e rest (x ∷ (y ∷ ys)) more value parts alike fits = record {
    read = x ∷ (y ∷ ys);
    parts = parts;
    same = λ tail s m l. ap (λ (p : Reader A). p (x ∷ (y ∷ (ys ++ tail)))) (chosen ts rest e (y ∷ ys) tail (behind_first x (y ∷ ys) rest ts parts) (inr s) m) ∙ alike tail s m l;
    more = more;
    value = value;
    fits = λ tail c m l. ap (λ (p : Reader A). p (x ∷ (y ∷ (ys ++ (more ++ tail))))) (ap (λ h. g h m) (ap head (behind_first x (y ∷ ys) rest ts parts)) ∙ e m) ∙ fits tail c m l;
    starts = λ e tail c. cc;
  }

  plain : (ts : List Terminal) → ((m : ℕ) → g (head ts) m ≡ q m) → (o : Outcome Terminal A) → At q Any C o (t ∷ ts) → At behind Never C o (t ∷ ts)
  plain ts e (Parsed b rest) k = parsed_plain ts e b rest k.read k.parts k.fits
  plain ts e (Fault rest) k = broken_plain ts e rest k.read k.more k.value k.parts k.same k.fits

  -- t is taken, whatever stands behind it
  pub takes_behind : ((h : Option Terminal) → Behind n C f g p q h) → Takes n t C (peek_behind f) behind
  unfolding peek_behind skip
  takes_behind each = record { at = λ ts l. by ts l (head ts) refl (each (head ts)) }
    where
      by : (ts : List Terminal) → length (t ∷ ts) < n → (h : Option Terminal) → head ts ≡ h → Behind n C f g p q h → At behind Never C (f h (t ∷ ts)) (t ∷ ts)
      by [] l (Some u) e (both p' q' i j k) = cc
      by (x ∷ us) l (Some u) e (both p' q' i j k) = subst (λ (s : Reader A). At behind Never C (s (t ∷ (x ∷ us))) (t ∷ (x ∷ us))) (sym i) (two x us q' (λ m. ap (λ h. g h m) e ∙ j m) (p' us) (k.at us (omega arith)))
      by ts l h e (same i j) = subst (λ (s : Reader A). At behind Never C (s (t ∷ ts)) (t ∷ ts)) (sym i) (plain ts (λ m. ap (λ h. g h m) e ∙ j m) (p (t ∷ ts)) (reads.at (t ∷ ts) l))
