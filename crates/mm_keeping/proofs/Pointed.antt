-- States whose pointers point to what they may name, and that a step leads to such a state.
use Rattle.std.proofs.Common.{arith, ◌≡◌, ℕ, ◌+◌, ℤ, pos, ◌⊎◌, inl, inr, ⊎_elim, List, [], ◌∷◌, length, reverse, cond, Option, Some, None, refl, Bool, true, false, not, nat_lt, sym, ◌∙◌, ap, subst, slice_get, slice_index_or, if◌then◌else◌, IfSome}
use Rattle.std.specs.Prelude.{unwrap_or, option_map}
use Rattle.std.specs.List.{All, Contains, find}
use Rattle.std.specs.Int.{w32, int_wrapping_add}
use Rattle.std.proofs.lemmas.Bool.{false≢true, true≢false, cases_eq, ne_eqb}
use Rattle.std.proofs.lemmas.List.{reverse-append}
use Rattle.std.proofs.lemmas.List.Elements.{All-head, All-tail, All-push}
use Rattle.mm_goto.specs.Bounds.{Bounding, bound_of}
use Rattle.mm_goto.specs.declared.model.Model.{Model}
use Rattle.mm_goto.specs.declared.pure.Pure.{Pure}
use Rattle.mm_goto.specs.declared.program.Instr.{Instr}
use Rattle.mm_goto.specs.declared.program.Instr.TheVariants.{Set, Load, Store, Input, Jump, Branch, Assert, Assume, Fence, Lock, Unlock, Add, Cas, Start, Join, AtomBegin, AtomEnd, End}
use Rattle.mm_goto.specs.declared.program.Target.{Target}
use Rattle.mm_goto.specs.declared.program.Target.TheVariants as target
use Rattle.mm_goto.specs.Checks.{written_local}
use Rattle.mm_goto.specs.Kinds.{IsOf, IsTargetOf}
use Rattle.mm_goto.specs.Listing.{Listing}
use Rattle.mm_goto.specs.PointsTo.{HoldsPointer, MayName, local, cell, expr, place, itself, set, load, store}
use Rattle.mm_goto.specs.Sourcelike.{IsSourcelike, wants}
use Rattle.mm_goto.specs.Valid.{code_of}
use Rattle.mm_goto.specs.Value.{value_of, is_zero}
use Rattle.mm_sched.specs.declared.entry.Rules.TheVariants.{Buffered}
use Rattle.mm_sched.specs.declared.entry.How.TheVariants.{Delayed, NotEnabled}
use Rattle.mm_sched.specs.declared.entry.Act.{Act}
use Rattle.mm_sched.specs.declared.entry.Act.TheVariants.{Goes, Assigns, Fails, Loads, Pushes, Puts, Fences, Updates, Misses}
use Rattle.mm_sched.specs.Guarded.{◌>>=◌}
use Rattle.mm_sched.specs.State.{Frame, State, Pending, frame_of, pending_of, at_cell}
use Rattle.mm_sched.specs.Buffer.{is_empty, is_to, part, seen, pends}
use Rattle.mm_sched.specs.Event.{cell_of, stored, locked, unlocked, begun, joined, is_same, act, input, is_int}
use Rattle.mm_sched.proofs.Steps.{bind-there, guarded-if, locked-if, unlocked-if, begun-if, joined-if}
use Rattle.mm_keeping.proofs.Values.{IsIntCell, Points, Holds, some_then}
use Rattle.mm_keeping.proofs.Guards.{Walked}
use Rattle.mm_keeping.proofs.Pointers.{pointers, Standing, expr_points, target_names}

-- ---- lists

all_reverse : {A : Type 0} (P : A → Type 0) (xs : List A) → All P xs → All P (reverse xs)
all_reverse P [] h = h
all_reverse P (x ∷ xs) h = subst (All P) (sym (reverse-append (x ∷ []) xs)) (All-push P (reverse xs) x (all_reverse P xs (All-tail P x xs h)) (All-head P x xs h))

found_all : {A : Type 0} (P : A → Type 0) (test : A → Bool) (xs : List A) → All P xs → IfSome (find test xs) (λ x. P x × (test x ≡ true))
found_all P test [] h = tt
found_all P test (x ∷ xs) h = go (test x) refl (found_all P test xs (All-tail P x xs h))
  where
    go : (b : Bool) → test x ≡ b → IfSome (find test xs) (λ x. P x × (test x ≡ true)) → IfSome (cond b (Some x) (find test xs)) (λ x. P x × (test x ≡ true))
    go true e k = (All-head P x xs h, e)
    go false e k = k

same_cell : (c : ℕ) (q : Pending) → is_to c q ≡ true → q.0 ≡ c
same_cell c q h = ⊎_elim (λ (e : q.0 ≡ c). e) (λ n. absurd (false≢true (sym (ne_eqb q.0 c n) ∙ h))) (cases_eq q.0 c)

module _ (p : Listing) (source : IsSourcelike p) where
  -- the pointers of the state point to what they may name, and each thread has come by a flow path with its checks
  pub record Pointed (s : State) : Type 0 where
    pub locals : (t l : ℕ) → pointers p source t l ≡ true → Points p (local t l) (slice_index_or (frame_of s t).locals l (pos 0))
    pub memory : (c : ℕ) → HoldsPointer p c → Points p (cell c) (at_cell s c)
    pub pending : (t : ℕ) → All (λ q. HoldsPointer p q.0 → Points p (cell q.0) q.1) (pending_of s t)
    pub walked : (t : ℕ) → Walked (code_of p t) (frame_of s t).place (frame_of s t).locals

  -- what a thread reads at a cell
  seen_points : (s : State) → Pointed s → (t c : ℕ) → HoldsPointer p c → Points p (cell c) (seen s t c)
  seen_points s h t c pointer = go (find (is_to c) (reverse (pending_of s t))) (found_all (λ q. HoldsPointer p q.0 → Points p (cell q.0) q.1) (is_to c) (reverse (pending_of s t)) (all_reverse (λ q. HoldsPointer p q.0 → Points p (cell q.0) q.1) (pending_of s t) (h.pending t)))
    where
      one : (q : Pending) (d : ℕ) → q.0 ≡ d → (HoldsPointer p q.0 → Points p (cell q.0) q.1) → HoldsPointer p d → Points p (cell d) q.1
      one q d e f = subst (λ z. HoldsPointer p z → Points p (cell z) q.1) e f

      go : (o : Option Pending) → IfSome o (λ q. (HoldsPointer p q.0 → Points p (cell q.0) q.1) × (is_to c q ≡ true)) → Points p (cell c) (unwrap_or (option_map (λ q. q.1) o) (at_cell s c))
      go None f = h.memory c pointer
      go (Some q) f = one q c (same_cell c q f.1) f.0 pointer

  -- ---- what an act makes

  -- the local that an act writes, with its value
  abbrev pub Writes : ℕ → Instr → ℕ → ℤ → Type 0
  Writes t i l v = (written_local i ≡ Some l) × (pointers p source t l ≡ true → Points p (local t l) v)

  abbrev pub LocalOf : ℕ → Instr → Act → Type 0
  LocalOf t i (Assigns l v) = Writes t i l v
  LocalOf t i (Loads l c v) = Writes t i l v
  LocalOf t i (Updates l v c w) = Writes t i l v
  LocalOf t i (Misses l c) = Writes t i l (pos 0)
  LocalOf t i _ = Unit {0}

  -- and the cell
  abbrev pub CellOf : Act → Type 0
  CellOf (Pushes c v) = HoldsPointer p c → Points p (cell c) v
  CellOf (Puts c v) = HoldsPointer p c → Points p (cell c) v
  CellOf (Updates l v c w) = HoldsPointer p c → Points p (cell c) w
  CellOf _ = Unit {0}

  pub record Makes (t : ℕ) (locals : List ℤ) (i : Instr) (a : Act) : Type 0 where
    pub local : LocalOf t i a
    pub cell : CellOf a
    pub check : (check : Pure) → i ≡ Assert check 0 → (a ≡ Fails 0) ⊎ Holds locals check

  module _ (m : Model) (bound : Bounding) (s : State) (memory : length s.memory ≡ length p.cells) (sound : Pointed s) (t : ℕ) (f : Frame) (is_frame : frame_of s t ≡ f) where
    abbrev Made : Instr → Act → Type 0
    Made i = Makes t f.locals i

    pub known : (l : ℕ) → pointers p source t l ≡ true → Points p (local t l) (slice_index_or f.locals l (pos 0))
    known l h = subst (λ (g : Frame). Points p (local t l) (slice_index_or g.locals l (pos 0))) is_frame (sound.locals t l h)

    sized : (to : Target) (c : ℕ) → cell_of (length s.memory) f.locals to ≡ Some c → cell_of (length p.cells) f.locals to ≡ Some c
    sized to c e = subst (λ n. cell_of n f.locals to ≡ Some c) memory e

    -- it is no assertion, and writes no local and no cell
    abbrev IsPlain : Act → Type 0
    IsPlain a = (i : Instr) → LocalOf t i a × CellOf a

    only : (x : Target) → Contains (x ∷ []) x
    only x = (0, omega arith, refl)

    first : {A : Type 0} (x : A) (xs : List A) → Contains (x ∷ xs) x
    first x xs = (0, omega arith, refl)

    -- a load into a pointer is from a cell of its own
    loaded : (k l : ℕ) (to : Target) → Standing p source t k (Load l to) → IsTargetOf p (pointers p source t) to true → (c : ℕ) → cell_of (length s.memory) f.locals to ≡ Some c → Points p (local t l) (seen s t c)
    loaded k l (target.Cell d) at typed c e =
        let same : d ≡ c = cc in
        let holds : HoldsPointer p c = subst (HoldsPointer p) same typed in
        some_then (λ x. MayName p (cell c) x × IsIntCell p x) (λ x. MayName p (local t l) x × IsIntCell p x) (seen s t c) (length p.cells) (seen_points s sound t c holds) (λ x q. (load k (target.Cell d) c at.here (subst (MayName p (place t (target.Cell d))) same itself) holds q.0, q.1))
    loaded k l (target.Elem first len index) at typed c e = absurd (true≢false typed.0)
    loaded k l (target.Deref x) at typed c e = absurd (true≢false typed.0)

    stores : (k : ℕ) (to : Target) (e : Pure) (at : Standing p source t k (Store to e)) → All (Holds f.locals) (wants (Store to e)) → (c : ℕ) → cell_of (length s.memory) f.locals to ≡ Some c → HoldsPointer p c → Points p (cell c) (value_of e f.locals)
    stores k to e at checks c is holds = go at.typed.0 at.typed.1 at.typed.2
      where
        go : (b : Bool) → IsTargetOf p (pointers p source t) to b → IsOf (pointers p source t) e b → Points p (cell c) (value_of e f.locals)
        go false typed kind = absurd ((target_names p source t f.locals known k (Store to e) at checks to false (only to) typed at.within.0 c (sized to c is)).1 refl holds)
        go true typed kind =
            let named = target_names p source t f.locals known k (Store to e) at checks to true (only to) typed at.within.0 c (sized to c is) in
            some_then (λ x. MayName p (expr t e) x × IsIntCell p x) (λ x. MayName p (cell c) x × IsIntCell p x) (value_of e f.locals) (length p.cells) (expr_points p source t f.locals known k (Store to e) at checks e (first e []) kind at.within.1)
            (λ x q. (store t k to e at.here named.0 holds q.0, q.1))

    int_add : (k l : ℕ) (to : Target) (e : Pure) (at : Standing p source t k (Add l to e)) → All (Holds f.locals) (wants (Add l to e)) → (c : ℕ) → cell_of (length s.memory) f.locals to ≡ Some c → IsIntCell p c
    int_add k l to e at checks c is = (target_names p source t f.locals known k (Add l to e) at checks to false (only to) at.typed.1 at.within.1 c (sized to c is)).1 refl

    int_cas : (k l : ℕ) (to : Target) (e g : Pure) (at : Standing p source t k (Cas l to e g)) → All (Holds f.locals) (wants (Cas l to e g)) → (c : ℕ) → cell_of (length s.memory) f.locals to ≡ Some c → IsIntCell p c
    int_cas k l to e g at checks c is = (target_names p source t f.locals known k (Cas l to e g) at checks to false (only to) at.typed.1 at.within.1 c (sized to c is)).1 refl

    no_pointer : (l : ℕ) → pointers p source t l ≡ false → (z : ℤ) → pointers p source t l ≡ true → Points p (local t l) z
    no_pointer l e z h = absurd (false≢true (sym e ∙ h))

    sets : (k l : ℕ) (e : Pure) (at : Standing p source t k (Set l e)) → All (Holds f.locals) (wants (Set l e)) → pointers p source t l ≡ true → Points p (local t l) (value_of e f.locals)
    sets k l e at checks h =
        some_then (λ x. MayName p (expr t e) x × IsIntCell p x) (λ x. MayName p (local t l) x × IsIntCell p x) (value_of e f.locals) (length p.cells) (expr_points p source t f.locals known k (Set l e) at checks e (first e []) (subst (IsOf (pointers p source t) e) h at.typed) at.within.1)
        (λ x q. (set k e at.here q.0, q.1))

    pends_makes : (i : Instr) (b : Bool) (c : ℕ) (v : ℤ) → Made i (Pushes c v) → IfSome (stored (if b then Delayed else NotEnabled) c v) (Made i)
    pends_makes i true c v h = h
    pends_makes i false c v h = tt

    asserted : (e : Pure) (n : ℕ) (b : Bool) → is_zero (value_of e f.locals) ≡ b → Made (Assert e n) (if b then Fails n else Goes (f.place + 1))
    asserted e n true h = record { local = tt; cell = tt; check = λ c same. inl (ap Fails (let z : n ≡ 0 = cc in z)) }
    asserted e n false h = record { local = tt; cell = tt; check = λ c same. inr (subst (Holds f.locals) (let z : e ≡ c = cc in z) h) }

    updates : (k l : ℕ) (to : Target) (e g : Pure) (at : Standing p source t k (Cas l to e g)) → All (Holds f.locals) (wants (Cas l to e g)) → (c : ℕ) (w : ℤ) (b : Bool) → cell_of (length s.memory) f.locals to ≡ Some c → Made (Cas l to e g) (if b then Updates l (pos 1) c w else Misses l c)
    updates k l to e g at checks c w true is = record { local = (refl, no_pointer l at.typed.0 (pos 1)); cell = λ h. absurd (int_cas k l to e g at checks c is h); check = λ x same. absurd (cc) }
    updates k l to e g at checks c w false is = record { local = (refl, no_pointer l at.typed.0 (pos 0)); cell = tt; check = λ x same. absurd (cc) }

    pub act_makes : (k : ℕ) (i : Instr) → Standing p source t k i → All (Holds f.locals) (wants i) → IfSome (act (Buffered m bound) s t f i) (Made i)
    unfolding act
    act_makes k (Set l e) at checks = record { local = (refl, sets k l e at checks); cell = tt; check = λ c same. absurd (cc) }
    act_makes k (Load l to) at checks = bind-there (Made (Load l to)) (cell_of (length s.memory) f.locals to) (λ c. Some (Loads l c (seen s t c))) (λ c is. record { local = (refl, λ h. loaded k l to at (subst (IsTargetOf p (pointers p source t) to) h at.typed) c is); cell = tt; check = λ c same. absurd (cc) })
    act_makes k (Store to e) at checks = bind-there (Made (Store to e)) (cell_of (length s.memory) f.locals to) (λ c. stored (pends m (bound_of bound t) (pending_of s t) c) c (value_of e f.locals)) (λ c is. pends_makes (Store to e) (nat_lt (length (part m (pending_of s t) c)) (bound_of bound t)) c (value_of e f.locals) (record { local = tt; cell = stores k to e at checks c is; check = λ c same. absurd (cc) }))
    act_makes k (Input l) at checks = tt
    act_makes k (Jump n) at checks = record { local = tt; cell = tt; check = λ c same. absurd (cc) }
    act_makes k (Branch e n) at checks = record { local = tt; cell = tt; check = λ c same. absurd (cc) }
    act_makes k (Assert e n) at checks = asserted e n (is_zero (value_of e f.locals)) refl
    act_makes k (Assume e) at checks = guarded-if (Made (Assume e)) (not (is_zero (value_of e f.locals))) (Some (Goes (f.place + 1))) (record { local = tt; cell = tt; check = λ c same. absurd (cc) })
    act_makes k Fence at checks = guarded-if (Made Fence) (is_empty (pending_of s t)) (Some Fences) (record { local = tt; cell = tt; check = λ c same. absurd (cc) })
    act_makes k (Lock n) at checks = guarded-if (Made (Lock n)) (is_empty (pending_of s t)) (locked (slice_get s.owners n) n) (locked-if (Made (Lock n)) (slice_get s.owners n) n (record { local = tt; cell = tt; check = λ c same. absurd (cc) }))
    act_makes k (Unlock n) at checks = guarded-if (Made (Unlock n)) (is_empty (pending_of s t)) (unlocked (slice_get s.owners n) t n) (unlocked-if (Made (Unlock n)) (slice_get s.owners n) t n (record { local = tt; cell = tt; check = λ c same. absurd (cc) }))
    act_makes k (Add l to e) at checks = guarded-if (Made (Add l to e)) (is_empty (pending_of s t)) (cell_of (length s.memory) f.locals to >>= (λ c. Some (Updates l (at_cell s c) c (int_wrapping_add w32 (at_cell s c) (value_of e f.locals))))) (bind-there (Made (Add l to e)) (cell_of (length s.memory) f.locals to) (λ c. Some (Updates l (at_cell s c) c (int_wrapping_add w32 (at_cell s c) (value_of e f.locals)))) (λ c is. record { local = (refl, no_pointer l at.typed.0 (at_cell s c)); cell = λ h. absurd (int_add k l to e at checks c is h); check = λ x same. absurd (cc) }))
    act_makes k (Cas l to e g) at checks = guarded-if (Made (Cas l to e g)) (is_empty (pending_of s t)) (cell_of (length s.memory) f.locals to >>= (λ c. Some (if is_same (at_cell s c) (value_of e f.locals) then Updates l (pos 1) c (value_of g f.locals) else Misses l c))) (bind-there (Made (Cas l to e g)) (cell_of (length s.memory) f.locals to) (λ c. Some (if is_same (at_cell s c) (value_of e f.locals) then Updates l (pos 1) c (value_of g f.locals) else Misses l c)) (λ c is. updates k l to e g at checks c (value_of g f.locals) (is_same (at_cell s c) (value_of e f.locals)) is))
    act_makes k (Start u) at checks = guarded-if (Made (Start u)) (is_empty (pending_of s t)) (begun (slice_get s.threads u) u) (begun-if (Made (Start u)) (slice_get s.threads u) u (record { local = tt; cell = tt; check = λ c same. absurd (cc) }))
    act_makes k (Join u) at checks = guarded-if (Made (Join u)) (is_empty (pending_of s t)) (joined (slice_get s.threads u) (is_empty (pending_of s u)) u) (joined-if (Made (Join u)) (slice_get s.threads u) (is_empty (pending_of s u)) u (record { local = tt; cell = tt; check = λ c same. absurd (cc) }))
    act_makes k AtomBegin at checks = absurd (true≢false at.is.sections)
    act_makes k AtomEnd at checks = absurd (true≢false at.is.sections)
    act_makes k End at checks = record { local = tt; cell = tt; check = λ c same. absurd (cc) }

    pub input_makes : (k : ℕ) (i : Instr) (v : ℤ) → Standing p source t k i → IfSome (input i v) (Made i)
    input_makes k (Input l) v at = guarded-if (Made (Input l)) (is_int v) (Some (Assigns l v)) (record { local = (refl, no_pointer l at.typed v); cell = tt; check = λ c same. absurd (cc) })
    input_makes k i v at = tt
