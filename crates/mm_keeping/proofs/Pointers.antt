-- What the pointers of a state point to, and what an instruction makes of them.
use Rattle.std.proofs.Common.{arith, ◌≡◌, ℕ, zero, suc, ◌+◌, ◌<◌, ◌≤◌, ℤ, pos, negsuc, List, [], ◌∷◌, length, Option, Some, None, refl, Bool, true, false, nat_lt, sym, ◌∙◌, ap, subst, slice_get, slice_index_or, if◌then◌else◌, ltb-true}
use Rattle.std.specs.Prelude.{IsSomeAnd}
use Rattle.std.specs.List.{All, Contains, flat_map}
use Rattle.std.proofs.lemmas.List.Elements.{All-head, All-contains}
use Rattle.mm_goto.specs.declared.limits.TheConstants.{MAX_CELLS}
use Rattle.mm_goto.specs.declared.pure.Pure.{Pure}
use Rattle.mm_goto.specs.declared.program.Cell.{Cell}
use Rattle.mm_goto.specs.declared.program.Instr.{Instr}
use Rattle.mm_goto.specs.declared.program.Instr.TheVariants.{Set, Load, Store, Input, Jump, Branch, Assert, Assume, Fence, Lock, Unlock, Add, Cas, Start, Join, AtomBegin, AtomEnd, End}
use Rattle.mm_goto.specs.declared.program.Target.{Target}
use Rattle.mm_goto.specs.declared.program.Target.TheVariants as target
use Rattle.mm_goto.specs.declared.program.Thread.{Thread}
use Rattle.mm_goto.specs.declared.row.Row.{Row}
use Rattle.mm_goto.specs.Checks.{checks_of, targets, target_exprs, value_exprs}
use Rattle.mm_goto.specs.Kinds.{IsOf, IsTargetOf, IsInstrTyped, NamesInts}
use Rattle.mm_goto.specs.Listing.{Listing}
use Rattle.mm_goto.specs.Parts.{arrays_of}
use Rattle.mm_goto.specs.PointsTo.{aims_of, MayName, local, expr, place, itself, element as by_element, behind, instr_at}
use Rattle.mm_goto.specs.Sourcelike.{IsSourcelike, IsSourceInstr, IsWholeArray, exprs_of, target_rows, wants}
use Rattle.mm_goto.specs.Valid.{IsNextElement, IsRow, IsPureIn, IsTargetIn, IsInstrIn, IsThreadIn, code_of}
use Rattle.mm_goto.specs.Value.{value_of}
use Rattle.mm_sched.specs.Event.{element, cell_of}
use Rattle.mm_sched.proofs.Steps.{if-at}
use Rattle.mm_sched.proofs.Within.{All-get}
use Rattle.mm_keeping.proofs.Values.{all_left, all_right, numbered, element_named, IsIntCell, int_cell, Points, points_to, Holds, value_points}
use Rattle.mm_keeping.proofs.Guards.{all_flat, target_wanted, value_wanted}

-- ---- the instruction at a place

pub code_at : (p : Listing) (t : ℕ) (thread : Thread) → slice_get p.threads t ≡ Some thread → code_of p t ≡ thread.code
code_at p t thread e = rw e refl

code_none : (p : Listing) (t : ℕ) → slice_get p.threads t ≡ None → code_of p t ≡ []
code_none p t e = rw e refl

nothing_at : {A : Type 0} (xs : List A) (k : ℕ) (x : A) → xs ≡ [] → slice_get xs k ≡ Some x → ⊥
nothing_at [] k x e h = cc
nothing_at (y ∷ xs) k x e h = cc

module _ (p : Listing) (source : IsSourcelike p) where
  -- which locals of a thread hold a pointer
  abbrev Typing : ℕ → Type 0
  Typing t = (pointers : ℕ → Bool) × ((k : ℕ) (i : Instr) → instr_at p t k ≡ Some i → IsInstrTyped p pointers i)

  typing : (t : ℕ) → Typing t
  typing t = go (slice_get p.threads t) refl
    where
      go : (o : Option Thread) → slice_get p.threads t ≡ o → Typing t
      go None e = (λ l. false, λ k i h. absurd (nothing_at (code_of p t) k i (code_none p t e) h))
      go (Some thread) e =
          let q = source.typed t thread e in
          (q.0, λ k i h. if-at (IsInstrTyped p q.0) (slice_get thread.code k) i (subst (λ code. slice_get code k ≡ Some i) (code_at p t thread e) h) (All-get (IsInstrTyped p q.0) thread.code k q.1))

  pub pointers : ℕ → ℕ → Bool
  pointers t = (typing t).0

  pub record Standing (t k : ℕ) (i : Instr) : Type 0 where
    pub here : instr_at p t k ≡ Some i
    pub thread : Thread
    pub code : code_of p t ≡ thread.code
    pub within : IsInstrIn p thread i
    pub is : IsSourceInstr p thread.code k i
    pub typed : IsInstrTyped p (pointers t) i

  pub standing : (t k : ℕ) (i : Instr) → instr_at p t k ≡ Some i → Standing t k i
  unfolding pointers
  standing t k i h = go (slice_get p.threads t) refl
    where
      go : (o : Option Thread) → slice_get p.threads t ≡ o → Standing t k i
      go None e = absurd (nothing_at (code_of p t) k i (code_none p t e) h)
      go (Some thread) e =
          let there : slice_get thread.code k ≡ Some i = subst (λ code. slice_get code k ≡ Some i) (code_at p t thread e) h in
          let valid : IsThreadIn p thread = if-at (IsThreadIn p) (slice_get p.threads t) thread e (All-get (IsThreadIn p) p.threads t source.valid.each_thread) in
          record { here = h; thread = thread; code = code_at p t thread e; within = if-at (IsInstrIn p thread) (slice_get thread.code k) i there (All-get (IsInstrIn p thread) thread.code k valid.instructions); is = source.each t k thread i e there; typed = (typing t).1 k i h }

  -- ---- arrays hold ints

  next_index : (n : ℕ) (o q : Option Cell) → IsSomeAnd o (λ a. IsSomeAnd q (IsNextElement a)) → IsSomeAnd o (λ a. a.index ≡ Some n) → IsSomeAnd q (λ b. b.index ≡ Some (suc n))
  next_index n None q h k = absurd h
  next_index n (Some a) None h k = absurd h
  next_index n (Some a) (Some b) h k = go a.index h.1 k
    where
      go : (i : Option ℕ) → IsSomeAnd i (λ i. b.index ≡ Some (i + 1)) → i ≡ Some n → b.index ≡ Some (suc n)
      go None h k = absurd h
      go (Some i) h k = h ∙ ap Some (let same : i ≡ n = cc in let e : i + 1 ≡ suc n = omega (arith, same) in e)

  elements : (row : Row) → IsRow p.cells row → IsWholeArray p row → (n : ℕ) → n < row.len → IsSomeAnd (slice_get p.cells (row.first + n)) (λ a. a.index ≡ Some n)
  elements row is whole zero l = subst (λ k. IsSomeAnd (slice_get p.cells k) (λ a. a.index ≡ Some 0)) (let e : row.first ≡ row.first + 0 = omega arith in e) whole.first
  elements row is whole (suc n) l =
      subst (λ k. IsSomeAnd (slice_get p.cells k) (λ a. a.index ≡ Some (suc n))) (let e : row.first + n + 1 ≡ row.first + suc n = omega arith in e)
      (next_index n (slice_get p.cells (row.first + n)) (slice_get p.cells (row.first + n + 1)) (is.together n (let e : n + 1 < row.len = omega (arith, l) in e)) (elements row is whole n (omega (arith, l))))

  array_ints : (row : Row) → IsRow p.cells row → IsWholeArray p row → (n : ℕ) → n < row.len → IsIntCell p (row.first + n)
  array_ints row is whole n l = go (slice_get p.cells (row.first + n)) refl (elements row is whole n l)
    where
      go : (o : Option Cell) → slice_get p.cells (row.first + n) ≡ o → IsSomeAnd o (λ a. a.index ≡ Some n) → IsIntCell p (row.first + n)
      go None e h = absurd h
      go (Some a) e h = int_cell p (row.first + n) (rw e (source.arrays.ints (row.first + n) n a e h))

  -- ---- what an instruction's expressions and targets name

  small : length p.cells ≤ MAX_CELLS
  small = source.valid.cells

  -- the index of an element, where there is one
  elemented : (z : ℤ) (first len c : ℕ) → element z first len ≡ Some c → (n : ℕ) × (z ≡ pos n) × (n < len) × (first + n ≡ c)
  elemented (negsuc n) first len c e = cc
  elemented (pos n) first len c e = go (nat_lt n len) refl e
    where
      go : (b : Bool) → nat_lt n len ≡ b → (if b then Some (first + n) else None) ≡ Some c → (m : ℕ) × (pos n ≡ pos m) × (m < len) × (first + m ≡ c)
      go true h e = (n, refl, ltb-true n len h, let same : first + n ≡ c = cc in same)
      go false h e = cc

  module _ (t : ℕ) (locals : List ℤ) (known : (l : ℕ) → pointers t l ≡ true → Points p (local t l) (slice_index_or locals l (pos 0))) where
    module _ (k : ℕ) (i : Instr) (at : Standing t k i) (checks : All (Holds locals) (wants i)) where
      -- a pointer's value
      pub expr_points : (e : Pure) → Contains (value_exprs i) e → IsOf (pointers t) e true → IsPureIn p at.thread e → Points p (expr t e) (value_of e locals)
      expr_points e c kind within = value_points p small t locals (pointers t) known e kind within.cells
          (All-contains (NamesInts p) (value_exprs i) e (all_right (NamesInts p) (flat_map target_exprs (targets i)) (value_exprs i) at.is.ints) c)
          (All-contains (λ e. All (Holds locals) (checks_of e)) (value_exprs i) e (value_wanted i locals checks) c)

      abbrev pub Sure : Target → Type 0
      Sure (target.Cell c) = Unit {0}
      Sure (target.Elem first len index) = IsRow p.cells (record { first = first; len = len }) × IsWholeArray p (record { first = first; len = len })
      Sure (target.Deref e) = Points p (expr t e) (value_of e locals)

      pub sure : (to : Target) (b : Bool) → Contains (targets i) to → IsTargetOf p (pointers t) to b → IsTargetIn p at.thread to → Sure to
      sure (target.Cell c) b h typed within = tt
      sure (target.Elem first len index) b h typed within =
          (within.0, All-head (IsWholeArray p) (record { first = first; len = len }) [] (all_flat (IsWholeArray p) target_rows (targets i) (target.Elem first len index) (all_left (IsWholeArray p) (flat_map target_rows (targets i)) (flat_map arrays_of (exprs_of i)) at.is.arrays) h))
      sure (target.Deref e) b h typed within = value_points p small t locals (pointers t) known e typed.1 within.cells
          (All-head (NamesInts p) e [] (all_flat (NamesInts p) target_exprs (targets i) (target.Deref e) (all_left (NamesInts p) (flat_map target_exprs (targets i)) (value_exprs i) at.is.ints) h))
          (All-head (λ e. All (Holds locals) (checks_of e)) e [] (target_wanted i locals (target.Deref e) checks h))

      by_sure : (to : Target) (b : Bool) → Sure to → IsTargetOf p (pointers t) to b → (c : ℕ) → cell_of (length p.cells) locals to ≡ Some c → MayName p (place t to) c × (b ≡ false → IsIntCell p c)
      by_sure (target.Cell d) b s typed c e =
          let same : d ≡ c = cc in
          (subst (MayName p (place t (target.Cell d))) same itself, λ i. subst (IsIntCell p) same (int_cell p d (subst (λ z. IsSomeAnd (slice_get p.cells d) (λ cell. cell.pointer ≡ z)) i typed)))
      by_sure (target.Elem first len index) b s typed c e =
          let q = elemented (value_of index locals) first len c e in
          (subst (MayName p (place t (target.Elem first len index))) q.3 (by_element (element_named first len q.0 (aims_of index).constant q.2 (λ z h. sym q.1 ∙ numbered index z h locals))), λ i. subst (IsIntCell p) q.3 (array_ints (record { first = first; len = len }) s.0 s.1 q.0 q.2))
      by_sure (target.Deref e) b s typed c h =
          let q = points_to (λ c. MayName p (expr t e) c × IsIntCell p c) (value_of e locals) (length p.cells) c h s in
          (behind q.0, λ i. q.1)

      -- the cell of a target is one that it may name; where the target is of ints, it holds one
      pub target_names : (to : Target) (b : Bool) → Contains (targets i) to → IsTargetOf p (pointers t) to b → IsTargetIn p at.thread to → (c : ℕ) → cell_of (length p.cells) locals to ≡ Some c → MayName p (place t to) c × (b ≡ false → IsIntCell p c)
      target_names to b h typed within c e = by_sure to b (sure to b h typed within) typed c e

      one_target : (x y : Target) → Contains (x ∷ []) y → x ≡ y
      one_target x y (zero, l, e) = e
      one_target x y (suc k, l, e) = absurd (omega (arith, l))

      abbrev pub Fitting : Target → Type 0
      Fitting to = (b : Bool) × IsTargetOf p (pointers t) to b × IsTargetIn p at.thread to

    pub fitting : (k : ℕ) (i : Instr) (at : Standing t k i) (checks : All (Holds locals) (wants i)) (to : Target) → Contains (targets i) to → Fitting k i at checks to
    fitting k (Load l x) at checks to c = subst (Fitting k (Load l x) at checks) (one_target k (Load l x) at checks x to c) (pointers t l, at.typed, at.within.1)
    fitting k (Store x e) at checks to c = subst (Fitting k (Store x e) at checks) (one_target k (Store x e) at checks x to c) (at.typed.0, at.typed.1, at.within.0)
    fitting k (Add l x e) at checks to c = subst (Fitting k (Add l x e) at checks) (one_target k (Add l x e) at checks x to c) (false, at.typed.1, at.within.1)
    fitting k (Cas l x e g) at checks to c = subst (Fitting k (Cas l x e g) at checks) (one_target k (Cas l x e g) at checks x to c) (false, at.typed.1, at.within.1)
    fitting k (Set l e) at checks to c = absurd (let l = c.1 in omega (arith, l))
    fitting k (Input l) at checks to c = absurd (let l = c.1 in omega (arith, l))
    fitting k (Jump n) at checks to c = absurd (let l = c.1 in omega (arith, l))
    fitting k (Branch e n) at checks to c = absurd (let l = c.1 in omega (arith, l))
    fitting k (Assert e n) at checks to c = absurd (let l = c.1 in omega (arith, l))
    fitting k (Assume e) at checks to c = absurd (let l = c.1 in omega (arith, l))
    fitting k Fence at checks to c = absurd (let l = c.1 in omega (arith, l))
    fitting k (Lock n) at checks to c = absurd (let l = c.1 in omega (arith, l))
    fitting k (Unlock n) at checks to c = absurd (let l = c.1 in omega (arith, l))
    fitting k (Start u) at checks to c = absurd (let l = c.1 in omega (arith, l))
    fitting k (Join u) at checks to c = absurd (let l = c.1 in omega (arith, l))
    fitting k AtomBegin at checks to c = absurd (let l = c.1 in omega (arith, l))
    fitting k AtomEnd at checks to c = absurd (let l = c.1 in omega (arith, l))
    fitting k End at checks to c = absurd (let l = c.1 in omega (arith, l))

    -- the cell of an instruction's target is one that the target may name
    pub names_cell : (k : ℕ) (i : Instr) (at : Standing t k i) (checks : All (Holds locals) (wants i)) (to : Target) → Contains (targets i) to → (c : ℕ) → cell_of (length p.cells) locals to ≡ Some c → MayName p (place t to) c
    names_cell k i at checks to h c e = let q = fitting k i at checks to h in (target_names k i at checks to q.0 h q.1 q.2 c e).0
