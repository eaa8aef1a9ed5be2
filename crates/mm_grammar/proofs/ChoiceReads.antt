-- How a choice by the next terminal reads, where some terminals leave all to another reader, which takes them itself.
use Rattle.std.proofs.Common.{◌≡◌, ℕ, zero, suc, ◌<◌, arith, List, [], ◌∷◌, ◌++◌, length, Option, Some, refl, sym, ◌∙◌, ap, subst, ◌⊎◌, inl, inr}
use Rattle.mm_reading.specs.Parsing.{Outcome, Parsed, Fault, head, pure, fail, peek}
use Rattle.mm_reading.proofs.Combining.{Family, Never, At, Reads, Takes, Example, reads_pure}
use Rattle.mm_parse_expr.specs.declared.terminal.Terminal.{Terminal}
use Rattle.mm_parse_expr.specs.reading.ExprReading.{Reader}
use Rattle.mm_grammar.proofs.MarkReads.{Follow}

module _ {A : Type 0} (P C : Follow) (g : Option Terminal → Family Terminal A) where
  abbrev pub choice : Family Terminal A
  choice m = peek (λ h. g h m)

  -- with these terminals first the choice is q
  abbrev pub Leaves : Follow → Family Terminal A → Type 0
  Leaves Q q = (h : Option Terminal) (m : ℕ) → Q h → g h (suc m) ≡ q (suc m)

  chosen : (q : Family Terminal A) (m : ℕ) (xs : List Terminal) (o : Outcome Terminal A) → length xs < m → ((j : ℕ) → g (head xs) (suc j) ≡ q (suc j)) → ((j : ℕ) → length xs < j → q j xs ≡ o) → choice m xs ≡ o
  unfolding peek
  chosen q zero xs o l e k = absurd (omega arith)
  chosen q (suc m) xs o l e k = ap (λ (s : Reader A). s xs) (e m) ∙ k (suc m) l

  pub example_leaving : (Q : Follow) (q : Family Terminal A) → ((h : Option Terminal) → Q h → P h) → Leaves Q q → Example Q C q → Example P C choice
  example_leaving Q q firsts leaves x = record {
    more = x.more;
    value = x.value;
    fits = λ tail c m l. chosen q m (x.more ++ tail) _ l (λ j. leaves (head (x.more ++ tail)) j (x.starts tail c)) (x.fits tail c);
    starts = λ tail c. firsts (head (x.more ++ tail)) (x.starts tail c);
  }

  module _ (n : ℕ) (f : Option Terminal → Reader A) where
    -- how it reads where h stands next
    pub record AtNext (h : Option Terminal) : Type 0 where
      pub at : (ts : List Terminal) → length ts < n → head ts ≡ h → At choice P C (f h ts) ts

    pub reads_choice : ((h : Option Terminal) → AtNext h) → Reads n P C (peek f) choice
    unfolding peek
    reads_choice ways = record { at = λ ts l. (ways (head ts)).at ts l refl }

    module _ (Q : Follow) (q : Family Terminal A) (firsts : (h : Option Terminal) → Q h → P h) (leaves : Leaves Q q) (h : Option Terminal) (here : (m : ℕ) → g h (suc m) ≡ q (suc m)) where
      next : (ts read rest tail : List Terminal) → head ts ≡ h → read ++ rest ≡ ts → (read ≡ [] → Q (head tail) ⊎ (head tail ≡ head rest)) → (j : ℕ) → g (head (read ++ tail)) (suc j) ≡ q (suc j)
      next ts [] rest tail e parts c j = elim (c refl) [ inl d ↦ leaves (head tail) j d | inr s ↦ ap (λ k. g k (suc j)) (s ∙ ap head parts ∙ e) ∙ here j ]
      next ts (x ∷ xs) rest tail e parts c j = ap (λ k. g k (suc j)) (ap head parts ∙ e) ∙ here j

      left : (o : Outcome Terminal A) (ts : List Terminal) → head ts ≡ h → At q Q C o ts → At choice P C o ts
      left (Parsed a rest) ts e k = record {
        read = k.read;
        parts = k.parts;
        fits = λ tail c m l. chosen q m (k.read ++ tail) _ l (next ts k.read rest tail e k.parts (λ none. elim c [ inl d ↦ inl (k.starts none tail d) | inr s ↦ inr s ])) (k.fits tail c);
        starts = λ none tail c. firsts (head tail) (k.starts none tail c);
      }
      left (Fault rest) ts e k = record {
        read = k.read;
        parts = k.parts;
        same = λ tail s m l. chosen q m (k.read ++ tail) _ l (next ts k.read rest tail e k.parts (λ none. inr s)) (k.same tail s);
        more = k.more;
        value = k.value;
        fits = λ tail c m l. chosen q m (k.read ++ (k.more ++ tail)) _ l (next ts k.read rest (k.more ++ tail) e k.parts (λ none. inl (k.starts none tail c))) (k.fits tail c);
        starts = λ none tail c. firsts (head (k.more ++ tail)) (k.starts none tail c);
      }

    -- it leaves all to p
    pub by_leaving : (Q : Follow) (p : Reader A) (q : Family Terminal A) → ((h : Option Terminal) → Q h → P h) → Leaves Q q → Reads n Q C p q → (h : Option Terminal) → f h ≡ p → ((m : ℕ) → g h (suc m) ≡ q (suc m)) → AtNext h
    by_leaving Q p q firsts leaves r h e here = record { at = λ ts l same. left Q q firsts leaves h here (f h ts) ts same (subst (λ (s : Reader A). At q Q C (s ts) ts) (sym e) (r.at ts l)) }

    -- it takes the next terminal
    pub by_taking : (t : Terminal) → Takes n t C (f (Some t)) (g (Some t)) → AtNext (Some t)
    by_taking t r = record { at = took }
      where
        took : (ts : List Terminal) → length ts < n → head ts ≡ Some t → At choice P C (f (Some t) ts) ts
        took [] l e = cc
        took (u ∷ us) l e =
            let same : u ≡ t = cc in
            left Never (g (Some t)) (λ h c. absurd c) (λ h m c. absurd c) (Some t) (λ m. refl) (f (Some t) (u ∷ us)) (u ∷ us) e
            (subst (λ (v : Terminal). At (g (Some t)) Never C (f (Some t) (v ∷ us)) (v ∷ us)) (sym same) (r.at us (omega arith)))

    -- it ends with a
    pub by_ending : (a : A) → ((h : Option Terminal) → C h → P h) → Leaves C (λ m. pure a) → (h : Option Terminal) → f h ≡ pure a → ((m : ℕ) → g h (suc m) ≡ pure a) → AtNext h
    by_ending a firsts ends h e here = by_leaving C (pure a) (λ m. pure a) firsts ends (reads_pure n C a) h e here

    -- it fails
    pub by_failing : Example P C choice → (h : Option Terminal) → f h ≡ fail → ((m : ℕ) → g h (suc m) ≡ fail) → AtNext h
    unfolding fail
    by_failing x h e here = record { at = λ ts l same. subst (λ (s : Reader A). At choice P C (s ts) ts) (sym e) (failed ts same) }
      where
        failed : (ts : List Terminal) → head ts ≡ h → At choice P C (Fault ts) ts
        failed ts same = record {
          read = [];
          parts = refl;
          same = λ tail s m l. chosen (λ j. fail) m tail _ l (λ j. ap (λ k. g k (suc j)) (s ∙ same) ∙ here j) (λ j l. refl);
          more = x.more;
          value = x.value;
          fits = x.fits;
          starts = λ none tail c. x.starts tail c;
        }
