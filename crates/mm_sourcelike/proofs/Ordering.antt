-- Main starts threads in the order of their numbers, and waits for none before it is started.
use Rattle.std.proofs.Common.{arith, ◌≡◌, ◌⊎◌, inl, inr, ℕ, zero, suc, ◌+◌, ◌<◌, ◌≤◌, Bool, true, false, cond, List, [], ◌∷◌, ◌++◌, length, take, codes, refl, ◌∙◌, sym, ap, subst, Option, Some, None}
use Rattle.std.specs.List.{AllByRecursion, filter, slice_get}
use Rattle.std.proofs.lemmas.Bool.{cases_lt}
use Rattle.std.proofs.lemmas.List.{append-nil}
use Rattle.mm_goto.specs.declared.ident.Ident.{Ident}
use Rattle.mm_goto.specs.declared.program.Instr.{Instr}
use Rattle.mm_goto.specs.declared.program.Instr.TheVariants as instr
use Rattle.mm_goto.specs.Listing.{Listing}
use Rattle.mm_goto.specs.Sourcelike.{is_start_or_join}
use Rattle.mm_goto.specs.Valid.{code_of}
use Rattle.mm_tree.specs.declared.item.Tree.{Tree}
use Rattle.mm_tree.specs.declared.side.Side.{Side}
use Rattle.mm_flow.specs.declared.names.Parts.{Parts}
use Rattle.mm_flow.specs.declared.names.Started.{Started}
use Rattle.mm_flow.specs.Flow.{Flow, Empty, Do, Then, When, Either, While, DoWhile, For, Body, Leave, Mark, Goto, Ways, Placed, size, lay, in_loop, in_body, placed}
use Rattle.mm_flow.specs.Programs.{all_to, end_of, flow_of, parts_of, program_of, limit_passed}
use Rattle.mm_flow.specs.Scopes.{thread_in}
use Rattle.mm_flow.specs.Statements.{or_0}
use Rattle.mm_scope.specs.Notes.{Use}
use Rattle.mm_names.specs.Programs.{IsAccepted}
use Rattle.mm_sourcelike.specs.Ints.{AreInts}
use Rattle.mm_sourcelike.specs.Shapes.{IsScoped}
use Rattle.mm_sourcelike.proofs.Counting.{code_append, code_in, steps}
use Rattle.mm_sourcelike.proofs.Law.{main_events}
use Rattle.mm_sourcelike.proofs.Leaves.{last_below, some_below}
use Rattle.mm_sourcelike.proofs.Scoping.{none_is_not, same_some}
use Rattle.mm_sourcelike.proofs.Starts.{behind_use, events, filter_append, numbered, use_instr}
use Rattle.mm_sourcelike.proofs.Tables.{true_is_not}
use Rattle.mm_sourcelike.proofs.Validity.{main_flow}

-- ---- the Starts and Joins of laid code

abbrev marked : List Placed → List Instr
marked ps = filter is_start_or_join (code_in ps)

split : (ps qs : List Placed) → marked (ps ++ qs) ≡ marked ps ++ marked qs
split ps qs = ap (filter is_start_or_join) (code_append ps qs) ∙ filter_append (code_in ps) (code_in qs)

joined : (ps qs : List Placed) (is js : List Instr) → marked ps ≡ is → marked qs ≡ js → marked (ps ++ qs) ≡ is ++ js
joined ps qs is js e f = split ps qs ∙ (ap (λ ks. ks ++ marked qs) e ∙ ap (λ ks. is ++ ks) f)

-- what has none at its end
ended : (ps qs : List Placed) (is : List Instr) → marked ps ≡ is → marked qs ≡ [] → marked (ps ++ qs) ≡ is
ended ps qs is e f = joined ps qs is [] e f ∙ append-nil is

both : (a b : Flow) → events a ++ events b ≡ filter is_start_or_join (steps a ++ steps b)
both a b = sym (filter_append (steps a) (steps b))

pub laid_events : (x : Ways) (f : Flow) (k : ℕ) → marked (lay x f k) ≡ events f
laid_events x Empty k = refl
laid_events x (Do at i) k = refl
laid_events x (Then a b) k = joined (lay x a k) (lay x b (k + size a)) (events a) (events b) (laid_events x a k) (laid_events x b (k + size a)) ∙ both a b
laid_events x (When at e a) k = laid_events x a (k + 1)
laid_events x (Either at e a b) k =
    let other : ℕ = k + 1 + size a + 1 in
    joined (lay x a (k + 1)) (placed at (instr.Jump (other + size b)) ∷ lay x b other) (events a) (events b) (laid_events x a (k + 1)) (laid_events x b other) ∙ both a b
laid_events x (While at c e a) k =
    let end : ℕ = k + size c + 1 + size a + 1 in
    let turn = lay (in_loop x end k) a (k + size c + 1) in
    let back = placed at (instr.Jump k) ∷ [] in
    joined (lay x c k) (placed at (instr.Branch e end) ∷ (turn ++ back)) (events c) (events a) (laid_events x c k) (ended turn back (events a) (laid_events (in_loop x end k) a (k + size c + 1)) refl) ∙ both c a
laid_events x (DoWhile at a c e) k =
    let next : ℕ = k + size a in
    let end : ℕ = next + size c + 2 in
    let turn = lay (in_loop x end next) a k in
    let back = placed at (instr.Branch e end) ∷ (placed at (instr.Jump k) ∷ []) in
    joined turn (lay x c next ++ back) (events a) (events c) (laid_events (in_loop x end next) a k) (ended (lay x c next) back (events c) (laid_events x c next) refl) ∙ both a c
laid_events x (For at c e a j) k =
    let next : ℕ = k + size c + 1 + size a in
    let end : ℕ = next + size j + 1 in
    let turn = lay (in_loop x end next) a (k + size c + 1) in
    let back = placed at (instr.Jump k) ∷ [] in
    joined (lay x c k) (placed at (instr.Branch e end) ∷ (turn ++ (lay x j next ++ back))) (events c) (events a ++ events j) (laid_events x c k)
    (joined turn (lay x j next ++ back) (events a) (events j) (laid_events (in_loop x end next) a (k + size c + 1)) (ended (lay x j next) back (events j) (laid_events x j next) refl))
    ∙ (ap (λ is. events c ++ is) (both a j) ∙ sym (filter_append (steps c) (steps a ++ steps j)))
laid_events x (Body names a) k = laid_events (in_body x names a k) a k
laid_events x (Leave at w) k = refl
laid_events x (Mark y) k = refl
laid_events x (Goto at y) k = refl

-- ---- order

-- of two Starts the earlier has the lower number, and no Join is before its Start
pub record Before (i j : Instr) : Type 0 where
  pub starts : (u v : ℕ) → i ≡ instr.Start u → j ≡ instr.Start v → u < v
  pub joins : (u : ℕ) → i ≡ instr.Join u → j ≡ instr.Start u → ⊥

abbrev Ordered : List Instr → Type 0
Ordered [] = Unit {0}
Ordered (i ∷ is) = AllByRecursion (Before i) is × Ordered is

-- each Start has a number above this
abbrev Above : ℕ → Instr → Type 0
Above n i = (v : ℕ) → i ≡ instr.Start v → n < v

start_number : (m v : ℕ) → instr.Start m ≡ instr.Start v → m ≡ v
start_number m v e = cc

join_number : (m v : ℕ) → instr.Join m ≡ instr.Join v → m ≡ v
join_number m v e = cc

no_join : (m v : ℕ) → instr.Start m ≡ instr.Join v → ⊥
no_join m v e = cc

above_head : (all : List Started) (n : ℕ) (x : Ident) (f : Option Ident) → Above n (use_instr all n x f)
above_head all n x (Some f) v e = omega (arith, start_number (n + 1) v e)
above_head all n x None v e = absurd (no_join v (or_0 (thread_in all n x)) (sym e))

more_above : (n m : ℕ) → n ≤ m → (is : List Instr) → AllByRecursion (Above m) is → AllByRecursion (Above n) is
more_above n m l [] h = tt
more_above n m l (i ∷ is) h = (λ v e. omega (arith, l, h.0 v e), more_above n m l is h.1)

behind_grows : (n : ℕ) (f : Option Ident) → n ≤ behind_use n f
behind_grows n (Some f) = omega arith
behind_grows n None = omega arith

above : (all : List Started) (n : ℕ) (us : List Use) → AllByRecursion (Above n) (numbered all n us)
above all n [] = tt
above all n (u ∷ us) = (above_head all n u.variable u.function, more_above n (behind_use n u.function) (behind_grows n u.function) (numbered all (behind_use n u.function) us) (above all (behind_use n u.function) us))

few_taken : {A : Type 0} (n : ℕ) (xs : List A) → length (take n xs) ≤ n
few_taken zero xs = omega arith
few_taken (suc n) [] = omega arith
few_taken (suc n) (x ∷ xs) = omega (arith, few_taken n xs)

join_below : (all : List Started) (n : ℕ) (x : Ident) → or_0 (thread_in all n x) < n + 1
join_below all n x = some_below (thread_in all n x) (n + 1) (omega arith) (last_below (take n all) 1 x None (n + 1) (omega (arith, few_taken n all)) (λ v e. absurd (none_is_not v e)))

head_before : (all : List Started) (n : ℕ) (x : Ident) (f : Option Ident) (j : Instr) → Above (behind_use n f) j → Before (use_instr all n x f) j
head_before all n x (Some f) j h = record { starts = λ u v e q. omega (arith, start_number (n + 1) u e, h v q); joins = λ u e q. no_join (n + 1) u e }
head_before all n x None j h = record {
  starts = λ u v e q. absurd (no_join u (or_0 (thread_in all n x)) (sym e));
  joins = λ u e q. absurd (omega (arith, join_below all n x, join_number (or_0 (thread_in all n x)) u e, h u q));
}

each_before : (all : List Started) (n : ℕ) (x : Ident) (f : Option Ident) (is : List Instr) → AllByRecursion (Above (behind_use n f)) is → AllByRecursion (Before (use_instr all n x f)) is
each_before all n x f [] h = tt
each_before all n x f (j ∷ is) h = (head_before all n x f j h.0, each_before all n x f is h.1)

numbered_ordered : (all : List Started) (n : ℕ) (us : List Use) → Ordered (numbered all n us)
numbered_ordered all n [] = tt
numbered_ordered all n (u ∷ us) =
    (each_before all n u.variable u.function (numbered all (behind_use n u.function) us) (above all (behind_use n u.function) us), numbered_ordered all (behind_use n u.function) us)

-- ---- places

pub in_rest : (P : Instr → Type 0) (cs : List Instr) (k : ℕ) (y : Instr) → AllByRecursion P (filter is_start_or_join cs) → slice_get cs k ≡ Some y → is_start_or_join y ≡ true → P y
in_rest P [] k y h e q = absurd (none_is_not y e)
in_rest P (c ∷ cs) zero y h e q = by (is_start_or_join c) (ap is_start_or_join (same_some c y e) ∙ q) h
  where
    by : (b : Bool) → b ≡ true → AllByRecursion P (cond b (c ∷ filter is_start_or_join cs) (filter is_start_or_join cs)) → P y
    by true r g = subst P (same_some c y e) g.0
    by false r g = true_is_not (sym r)
in_rest P (c ∷ cs) (suc k) y h e q = in_rest P cs k y (by (is_start_or_join c) h) e q
  where
    by : (b : Bool) → AllByRecursion P (cond b (c ∷ filter is_start_or_join cs) (filter is_start_or_join cs)) → AllByRecursion P (filter is_start_or_join cs)
    by true g = g.1
    by false g = g

pub before_at : (cs : List Instr) (j k : ℕ) (x y : Instr) → Ordered (filter is_start_or_join cs) → j < k → slice_get cs j ≡ Some x → slice_get cs k ≡ Some y → is_start_or_join x ≡ true → is_start_or_join y ≡ true → Before x y
before_at [] j k x y h l e f p q = absurd (none_is_not x e)
before_at (c ∷ cs) j zero x y h l e f p q = absurd (omega arith)
before_at (c ∷ cs) zero (suc k) x y h l e f p q = by (is_start_or_join c) (ap is_start_or_join (same_some c x e) ∙ p) h
  where
    by : (b : Bool) → b ≡ true → Ordered (cond b (c ∷ filter is_start_or_join cs) (filter is_start_or_join cs)) → Before x y
    by true r g = subst (λ z. Before z y) (same_some c x e) (in_rest (Before c) cs k y g.0 f q)
    by false r g = true_is_not (sym r)
before_at (c ∷ cs) (suc j) (suc k) x y h l e f p q = before_at cs j k x y (by (is_start_or_join c) h) (omega arith) e f p q
  where
    by : (b : Bool) → Ordered (cond b (c ∷ filter is_start_or_join cs) (filter is_start_or_join cs)) → Ordered (filter is_start_or_join cs)
    by true g = g.1
    by false g = g

-- ---- the whole

module _ (side : Side) (tree : Tree) (ints : AreInts tree) (scoped : IsScoped tree) (accepted : IsAccepted side tree) (none : limit_passed side tree ≡ None) where
  abbrev p : Listing
  p = program_of side tree

  abbrev parts : Parts
  parts = parts_of side tree.items

  main_ordered : Ordered (filter is_start_or_join (code_of p 0))
  main_ordered =
      subst Ordered (sym (laid_events (all_to (end_of parts tree.items (codes "main"))) (flow_of parts tree.items (codes "main")) 0 ∙ (filter_append (steps (main_flow parts tree.items)) (instr.End ∷ []) ∙ append-nil (events (main_flow parts tree.items)))))
      (main_events side tree ints scoped accepted none Ordered (λ all us. numbered_ordered all 0 us))

  pub starts_rise : (j k u v : ℕ) → j < k → slice_get (code_of p 0) j ≡ Some (instr.Start u) → slice_get (code_of p 0) k ≡ Some (instr.Start v) → u < v
  starts_rise j k u v l e f = (before_at (code_of p 0) j k (instr.Start u) (instr.Start v) main_ordered l e f refl refl).starts u v refl refl

  pub joins_follow : (j k u : ℕ) → slice_get (code_of p 0) j ≡ Some (instr.Start u) → slice_get (code_of p 0) k ≡ Some (instr.Join u) → j < k
  joins_follow j k u e f = by (cases_lt j k) (cases_lt k j)
    where
      by : (j < k) ⊎ (k ≤ j) → (k < j) ⊎ (j ≤ k) → j < k
      by (inl l) o = l
      by (inr l) (inl m) = absurd ((before_at (code_of p 0) k j (instr.Join u) (instr.Start u) main_ordered m f e refl refl).joins u refl refl)
      by (inr l) (inr m) =
          let same : j ≡ k = omega arith in
          absurd (no_join u u (same_some (instr.Start u) (instr.Join u) (sym e ∙ (ap (slice_get (code_of p 0)) same ∙ f))))
