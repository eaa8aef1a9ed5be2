-- A parser that is sound and complete for a language reads the longest run of tokens that begins a value.
use Rattle.std.proofs.Common.{◌≡◌, ℕ, ◌+◌, ◌<◌, ◌≤◌, List, [], ◌∷◌, ◌++◌, length, length-append, append_assoc, arith, Option, Some, None, refl, sym, ◌∙◌, ap, subst, ◌⊎◌, inl, inr}
use Rattle.mm_reading.specs.Parsing.{Outcome, Parsed, Fault, head}
use Rattle.mm_reading.specs.Runs.{Begins, IsLongestRun, IsRead, IsFirstFault, IsFirstRefusal}
use Rattle.mm_reading.proofs.Combining.{Family, At, Read, Broken}
use Rattle.mm_reading.proofs.Onwards.{Onward, Extends}

no_longer : {T : Type 0} (longer after read rest : List T) → longer ++ after ≡ read ++ rest → ((t : T) (xs : List T) → longer ≡ read ++ (t ∷ xs) → Some t ≡ head rest → ⊥) → length longer ≤ length read
no_longer [] after read rest e h = omega arith
no_longer (t ∷ xs) after [] rest e h = absurd (h t xs refl (ap head e))
no_longer {T = T} (t ∷ xs) after (r ∷ read) rest e h = omega (arith, no_longer xs after read rest tails (λ u ys k s. h u ys (whole u ys k) s))
  where
    tails : xs ++ after ≡ read ++ rest
    tails = cc

    whole : (u : T) (ys : List T) → xs ≡ read ++ (u ∷ ys) → (t ∷ xs) ≡ (r ∷ read) ++ (u ∷ ys)
    whole u ys k = cc

module _ {T A : Type 0} (L : List T → A → Type 0) (P C : Option T → Type 0) (q : Family T A) (at_end : C None)
    (sound : (m : ℕ) (ts : List T) (a : A) → q m ts ≡ Parsed a [] → L ts a)
    (complete : (ts : List T) (a : A) → L ts a → (m : ℕ) → length ts < m → q m ts ≡ Parsed a []) where
  abbrev above : List T → ℕ
  above ts = length ts + 1

  -- no value begins with what was read and the next token
  stops : (ts read rest : List T) → read ++ rest ≡ ts → ((tail : List T) (a : A) → head tail ≡ head rest → L (read ++ tail) a → ⊥ ⊎ (tail ≡ [])) → (longer after : List T) → longer ++ after ≡ ts → Begins L longer → length longer ≤ length read
  stops ts read rest parts none longer after e b = no_longer longer after read rest (e ∙ sym parts) found
    where
      found : (t : T) (xs : List T) → longer ≡ read ++ (t ∷ xs) → Some t ≡ head rest → ⊥
      found t xs k s = elim (none ((t ∷ xs) ++ b.0) b.1 s (subst (λ (zs : List T). L zs b.1) (ap (λ zs. zs ++ b.0) k ∙ append_assoc read (t ∷ xs) b.0) b.2)) [ inl x ↦ x | inr y ↦ cc ]

  read_run : (ts : List T) (a : A) (rest : List T) → Read q P C a rest ts → IsRead L ts a rest
  read_run ts a rest h = record {
    run = h.read;
    is_longest = record {
      parts = h.parts;
      begins = ([], a, sound (above (h.read ++ [])) (h.read ++ []) a (h.fits [] (inl at_end) (above (h.read ++ [])) (omega arith)));
      longest = stops ts h.read rest h.parts none;
    };
    value = subst (λ (zs : List T). L zs a) (nil h.read) (sound (above (h.read ++ [])) (h.read ++ []) a (h.fits [] (inl at_end) (above (h.read ++ [])) (omega arith)));
  }
    where
      nil : (xs : List T) → xs ++ [] ≡ xs
      nil [] = refl
      nil (x ∷ xs) = ap (λ ys. x ∷ ys) (nil xs)

      same : {b : A} (tail : List T) → Parsed a tail ≡ Parsed b [] → tail ≡ []
      same tail e = cc

      none : (tail : List T) (b : A) → head tail ≡ head rest → L (h.read ++ tail) b → ⊥ ⊎ (tail ≡ [])
      none tail b s d = inr (same tail (sym (h.fits tail (inr s) (above (h.read ++ tail)) (omega arith)) ∙ complete (h.read ++ tail) b d (above (h.read ++ tail)) (omega arith)))

  never : {b : A} (tail : List T) → Fault tail ≡ Parsed b [] → ⊥
  never tail e = cc

  fault_longest : (ts rest : List T) (h : Broken q P C rest ts) → IsLongestRun L ts h.read rest
  fault_longest ts rest h = record {
    parts = h.parts;
    begins = (h.more ++ [], h.value, sound (above (h.read ++ (h.more ++ []))) (h.read ++ (h.more ++ [])) h.value (h.fits [] at_end (above (h.read ++ (h.more ++ []))) (omega arith)));
    longest = stops ts h.read rest h.parts (λ tail b s d. inl (none tail b s d));
  }
    where
      none : (tail : List T) (b : A) → head tail ≡ head rest → L (h.read ++ tail) b → ⊥
      none tail b s d = never tail (sym (h.same tail s (above (h.read ++ tail)) (omega arith)) ∙ complete (h.read ++ tail) b d (above (h.read ++ tail)) (omega arith))

  -- where the parser gives a value, the longest run is that value
  pub parsed_is_read : (n : ℕ) (ts : List T) (a : A) (rest : List T) → At q P C (q n ts) ts → q n ts ≡ Parsed a rest → IsRead L ts a rest
  parsed_is_read n ts a rest h e = read_run ts a rest (subst (λ (o : Outcome T A). At q P C o ts) e h)

  -- where it gives a fault for all the tokens, they are no value, and the fault stands behind the longest run
  pub fault_refuses : (n : ℕ) (ts rest : List T) → length ts < n → At q P C (q n ts) ts → q n ts ≡ Fault rest → IsFirstRefusal L ts rest
  fault_refuses n ts rest l h e =
      let broken : Broken q P C rest ts = subst (λ (o : Outcome T A). At q P C o ts) e h in
      record {
        run = broken.read;
        is_longest = fault_longest ts rest broken;
        none = λ a d. never rest (sym e ∙ complete ts a d n l);
      }

  module _ (onward : (m : ℕ) → Onward (q m)) where
    fault_run : (ts rest : List T) → Broken q P C rest ts → IsFirstFault L ts rest
    fault_run ts rest h = record { run = h.read; is_longest = fault_longest ts rest h; none = whole }
      where
        later : {b : A} → Extends {A = A} rest (Parsed b []) (Fault rest) → ⊥
        later (inl e) = cc
        later (inr l) = omega arith

        whole : (a : A) → L h.read a → ⊥
        whole a d =
            let m : ℕ = length h.read + length rest + 1 in
            let e : q m h.read ≡ Parsed a [] = complete h.read a d m (omega arith) in
            let f : q m (h.read ++ rest) ≡ Fault rest = h.same rest refl m (omega (arith, length-append h.read rest)) in
            later {b = a} (subst (λ (o : Outcome T A). Extends rest o (Fault rest)) e (subst (λ (o : Outcome T A). Extends rest (q m h.read) o) f ((onward m).extends h.read rest)))

    -- where it gives a fault, the longest run is no value, and the fault stands behind it
    pub fault_is_first : (n : ℕ) (ts rest : List T) → At q P C (q n ts) ts → q n ts ≡ Fault rest → IsFirstFault L ts rest
    fault_is_first n ts rest h e = fault_run ts rest (subst (λ (o : Outcome T A). At q P C o ts) e h)

-- ---- more tokens

begins_shorter : {T A : Type 0} (L : List T → A → Type 0) (run more : List T) → Begins L (run ++ more) → Begins L run
begins_shorter L run more b = (more ++ b.0, b.1, subst (λ xs. L xs b.1) (append_assoc run more b.0) b.2)

longest_before : {T A : Type 0} (L : List T → A → Type 0) (ts run rest more : List T) → (rest ≡ [] → more ≡ []) → IsLongestRun L ts run rest → IsLongestRun L (ts ++ more) run (rest ++ more)
longest_before {T = T} L ts run rest more cut h = record {
  parts = sym (append_assoc run rest more) ∙ ap (λ xs. xs ++ more) h.parts;
  begins = h.begins;
  longest = λ longer after e b. no_longer longer after run (rest ++ more) (e ∙ ap (λ xs. xs ++ more) (sym h.parts) ∙ append_assoc run rest more) (λ t xs k s. one_more rest cut h.parts h.longest t xs s (begins_shorter L (run ++ (t ∷ [])) xs (subst (λ (ys : List T). Begins L ys) (k ∙ sym (append_assoc run (t ∷ []) xs)) b)));
}
  where
    one_more : (rest : List T) → (rest ≡ [] → more ≡ []) → run ++ rest ≡ ts → ((longer after : List T) → longer ++ after ≡ ts → Begins L longer → length longer ≤ length run) → (t : T) (xs : List T) → Some t ≡ head (rest ++ more) → Begins L (run ++ (t ∷ [])) → ⊥
    one_more [] cut parts longest t xs s b = subst (λ (ys : List T). Some t ≡ head ys → ⊥) (sym (cut refl)) (λ e. cc) s
    one_more (r ∷ rest) cut parts longest t xs s b =
        let e : (run ++ (t ∷ [])) ++ rest ≡ ts = append_assoc run (t ∷ []) rest ∙ ap (λ u. run ++ (u ∷ rest)) (same s) ∙ parts in
        let l : length (run ++ (t ∷ [])) ≤ length run = longest (run ++ (t ∷ [])) rest e b in
        omega (arith, length-append run (t ∷ []))
      where
        same : {u r : T} → Some u ≡ Some r → u ≡ r
        same e = cc

-- what is read of some tokens is read of more tokens too, where something is left
pub read_before : {T A : Type 0} (L : List T → A → Type 0) (ts : List T) (a : A) (rest more : List T) → (rest ≡ [] → more ≡ []) → IsRead L ts a rest → IsRead L (ts ++ more) a (rest ++ more)
read_before L ts a rest more cut h = record { run = h.run; is_longest = longest_before L ts h.run rest more cut h.is_longest; value = h.value }

pub fault_before : {T A : Type 0} (L : List T → A → Type 0) (ts rest more : List T) → (rest ≡ [] → more ≡ []) → IsFirstFault L ts rest → IsFirstFault L (ts ++ more) (rest ++ more)
fault_before L ts rest more cut h = record { run = h.run; is_longest = longest_before L ts h.run rest more cut h.is_longest; none = h.none }
