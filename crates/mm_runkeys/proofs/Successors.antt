-- Where steps lead by edges of a kind, edge by edge.
use Rattle.std.proofs.Common.{arith, ◌≡◌, ℕ, zero, suc, ◌+◌, ◌<◌, ◌≤◌, ◌⊎◌, inl, inr, Bool, true, false, if◌then◌else◌, List, [], ◌∷◌, ◌++◌, length, replicate, take, Option, Some, None, refl, sym, ◌∙◌, ap, subst, slice_set, slice_index_or, append_assoc, append-nil}
use Rattle.std.specs.Prelude.{Contains}
use Rattle.std.proofs.lemmas.Bool.{cases_eq, false≢true}
use Rattle.std.proofs.lemmas.List.{length-set, length-replicate, take_more}
use Rattle.std.proofs.lemmas.List.Elements.{Contains-append_left, Contains-append_right, Contains-append_cases}
use Rattle.mm_runkeys.specs.declared.graph.EdgeKind.{EdgeKind}
use Rattle.mm_runkeys.specs.declared.graph.EdgeKind.TheVariants.{Issue, Coherence}
use Rattle.mm_runkeys.specs.declared.graph.RunEdge.{RunEdge}
use Rattle.mm_runkeys.specs.reading.Tables.{edge}
use Rattle.mm_runkeys.specs.reading.Behind.{kind_of, has_kind, got, AreNext, noted, behind, behind_one}
use Rattle.mm_runkeys.proofs.Links.{here, front, empty}

kind_is : (issue : Bool) (k : EdgeKind) → has_kind issue k ≡ true → k ≡ kind_of issue
kind_is true Issue h = refl
kind_is true k h = cc
kind_is false Coherence h = refl
kind_is false k h = cc

is_kind : (issue : Bool) → has_kind issue (kind_of issue) ≡ true
is_kind true = refl
is_kind false = refl

got_none : (n a : ℕ) → got (replicate n None) a ≡ None
got_none zero a = refl
got_none (suc n) zero = refl
got_none (suc n) (suc a) = got_none n a

got_same : (xs : List (Option ℕ)) (a : ℕ) (o : Option ℕ) → a < length xs → got (slice_set xs a o) a ≡ o
got_same [] a o l = absurd (omega arith)
got_same (x ∷ xs) zero o l = refl
got_same (x ∷ xs) (suc a) o l = got_same xs a o (omega arith)

got_other : (xs : List (Option ℕ)) (a c : ℕ) (o : Option ℕ) → (c ≡ a → ⊥) → got (slice_set xs a o) c ≡ got xs c
got_other [] a c o n = refl
got_other (x ∷ xs) zero zero o n = absurd (n refl)
got_other (x ∷ xs) zero (suc c) o n = refl
got_other (x ∷ xs) (suc a) zero o n = refl
got_other (x ∷ xs) (suc a) (suc c) o n = got_other xs a c o (λ e. n (ap suc e))

-- what is got where it was set
got_set : (xs : List (Option ℕ)) (a : ℕ) (o : Option ℕ) (b : ℕ) → got (slice_set xs a o) a ≡ Some b → o ≡ Some b
got_set [] a o b h = cc
got_set (x ∷ xs) zero o b h = h
got_set (x ∷ xs) (suc a) o b h = got_set xs a o b h

-- nothing is set past the end
pub set_past : (xs : List (Option ℕ)) (a : ℕ) (o : Option ℕ) → length xs ≤ a → slice_set xs a o ≡ xs
set_past [] a o l = refl
set_past (x ∷ xs) zero o l = absurd (omega arith)
set_past (x ∷ xs) (suc a) o l = ap (λ z. x ∷ z) (set_past xs a o (omega arith))

pub next_none : (issue : Bool) (n : ℕ) → AreNext [] issue n (replicate n None)
next_none issue n = record { size = length-replicate n None; sound = λ a b h. absurd (none_some b (sym (got_none n a) ∙ h)); there = λ a b m c. absurd (empty (edge b (kind_of issue) a) c) }
  where
    none_some : (b : ℕ) → None ≡ Some b → ⊥
    none_some b h = cc

module _ (es : List RunEdge) (e : RunEdge) (issue : Bool) (n : ℕ) (xs : List (Option ℕ)) (so_far : AreNext es issue n xs) where
  some_same : (p q : ℕ) → Some p ≡ Some q → p ≡ q
  some_same p q h = cc

  more : (b : Bool) → has_kind issue e.kind ≡ b → AreNext (es ++ e ∷ []) issue n (if b then slice_set xs e.from (Some e.to) else xs)
  more true k = record {
    size = length-set xs e.from (Some e.to) ∙ so_far.size;
    sound = λ a b h. sound a b h (cases_eq a e.from);
    there = λ a b m c. found a b m (cases_eq a e.from) (Contains-append_cases es (e ∷ []) (edge b (kind_of issue) a) c);
  }
    where
      same : kind_of issue ≡ e.kind
      same = sym (kind_is issue e.kind k)

      sound : (a b : ℕ) → got (slice_set xs e.from (Some e.to)) a ≡ Some b → (a ≡ e.from) ⊎ (a ≡ e.from → ⊥) → Contains (es ++ e ∷ []) (edge b (kind_of issue) a)
      sound a b h (inl i) =
          let to : e.to ≡ b = some_same e.to b (got_set xs e.from (Some e.to) b (subst (λ j. got (slice_set xs e.from (Some e.to)) j ≡ Some b) i h)) in
          Contains-append_right es (e ∷ []) (edge b (kind_of issue) a) (rw (sym to, same, i) (here e []))
      sound a b h (inr i) = Contains-append_left es (e ∷ []) (edge b (kind_of issue) a) (so_far.sound a b (sym (got_other xs e.from a (Some e.to) i) ∙ h))

      found : (a b : ℕ) → a < n → (a ≡ e.from) ⊎ (a ≡ e.from → ⊥) → Contains es (edge b (kind_of issue) a) ⊎ Contains (e ∷ []) (edge b (kind_of issue) a) → (c : ℕ) × (got (slice_set xs e.from (Some e.to)) a ≡ Some c)
      found a b m (inl i) c = (e.to, ap (got (slice_set xs e.from (Some e.to))) i ∙ got_same xs e.from (Some e.to) (let k : e.from < n = subst (λ j. j < n) i m in rw so_far.size k))
      found a b m (inr i) (inl c) = let z = so_far.there a b m c in (z.0, got_other xs e.from a (Some e.to) i ∙ z.1)
      found a b m (inr i) (inr c) = absurd (last (front e [] (edge b (kind_of issue) a) c))
        where
          last : (e ≡ edge b (kind_of issue) a) ⊎ Contains [] (edge b (kind_of issue) a) → ⊥
          last (inl z) = i (sym (ap (λ (d : RunEdge). d.from) z))
          last (inr z) = empty (edge b (kind_of issue) a) z
  more false k = record {
    size = so_far.size;
    sound = λ a b h. Contains-append_left es (e ∷ []) (edge b (kind_of issue) a) (so_far.sound a b h);
    there = λ a b m c. found a b m (Contains-append_cases es (e ∷ []) (edge b (kind_of issue) a) c);
  }
    where
      found : (a b : ℕ) → a < n → Contains es (edge b (kind_of issue) a) ⊎ Contains (e ∷ []) (edge b (kind_of issue) a) → (c : ℕ) × (got xs a ≡ Some c)
      found a b m (inl c) = so_far.there a b m c
      found a b m (inr c) = absurd (last (front e [] (edge b (kind_of issue) a) c))
        where
          last : (e ≡ edge b (kind_of issue) a) ⊎ Contains [] (edge b (kind_of issue) a) → ⊥
          last (inl z) = false≢true (sym k ∙ ap (has_kind issue) (ap (λ (d : RunEdge). d.kind) z) ∙ is_kind issue)
          last (inr z) = empty (edge b (kind_of issue) a) z

pub next_more : (es : List RunEdge) (d : RunEdge) (i : ℕ) (issue : Bool) (n : ℕ) (xs : List (Option ℕ)) → i < length es → AreNext (take i es) issue n xs → AreNext (take (i + 1) es) issue n (noted xs issue (slice_index_or es i d))
next_more es d i issue n xs l h = subst (λ ys. AreNext ys issue n (noted xs issue (slice_index_or es i d))) (sym (take_more es i d l)) (more (take i es) (slice_index_or es i d) issue n xs h (has_kind issue (slice_index_or es i d).kind) refl)

behind_append : (fs ns : List (Option ℕ)) (xs ys : List RunEdge) → behind fs ns (xs ++ ys) ≡ behind fs ns xs ++ behind fs ns ys
behind_append fs ns [] ys = refl
behind_append fs ns (x ∷ xs) ys = ap (λ z. behind_one fs ns x ++ z) (behind_append fs ns xs ys) ∙ sym (append_assoc (behind_one fs ns x) (behind fs ns xs) (behind fs ns ys))

pub behind_more : (fs ns : List (Option ℕ)) (ts : List RunEdge) (i : ℕ) (d : RunEdge) → i < length ts → behind fs ns (take (i + 1) ts) ≡ behind fs ns (take i ts) ++ behind_one fs ns (slice_index_or ts i d)
behind_more fs ns ts i d l = ap (behind fs ns) (take_more ts i d l) ∙ behind_append fs ns (take i ts) (slice_index_or ts i d ∷ []) ∙ ap (λ z. behind fs ns (take i ts) ++ z) (append-nil (behind_one fs ns (slice_index_or ts i d)))

pub behind_next : (fs ns : List (Option ℕ)) (ts old mid new : List RunEdge) (i : ℕ) (d : RunEdge) → i < length ts → mid ≡ old ++ behind fs ns (take i ts) → new ≡ mid ++ behind_one fs ns (slice_index_or ts i d) → new ≡ old ++ behind fs ns (take (i + 1) ts)
behind_next fs ns ts old mid new i d l h k = k ∙ ap (λ z. z ++ behind_one fs ns (slice_index_or ts i d)) h ∙ append_assoc old (behind fs ns (take i ts)) (behind_one fs ns (slice_index_or ts i d)) ∙ ap (λ z. old ++ z) (sym (behind_more fs ns ts i d l))
