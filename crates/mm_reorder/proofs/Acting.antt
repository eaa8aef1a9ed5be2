-- What a step reads: where that is as it was, the same is done.
use Rattle.std.proofs.Common.{◌≡◌, ℕ, ◌<◌, ℤ, pos, length, Option, Some, None, refl, Bool, true, false, not, sym, ◌∙◌, ap, ap₂, subst, nat_lt, lt-ltb, slice_get, if◌then◌else◌}
use Rattle.std.specs.Prelude.{is_none, ◌&&◌}
use Rattle.std.specs.Int.{w32, int_wrapping_add}
use Rattle.std.proofs.lemmas.Option.{same_Some, option_and_then_some}
use Rattle.mm_goto.specs.Bounds.{Bounding, bound_of}
use Rattle.mm_goto.specs.declared.model.Model.{Model}
use Rattle.mm_goto.specs.declared.program.Instr.{Instr}
use Rattle.mm_goto.specs.declared.program.Instr.TheVariants.{Set, Load, Store, Input, Jump, Branch, Assert, Assume, Fence, Lock, Unlock, Add, Cas, Start, Join, AtomBegin, AtomEnd, End}
use Rattle.mm_goto.specs.declared.program.Target.{Target}
use Rattle.mm_goto.specs.Value.{value_of}
use Rattle.mm_sched.specs.declared.entry.Rules.TheVariants.{Buffered}
use Rattle.mm_sched.specs.declared.entry.How.TheVariants.{Delayed, NotEnabled}
use Rattle.mm_sched.specs.declared.entry.Act.{Act}
use Rattle.mm_sched.specs.declared.entry.Act.TheVariants.{Goes, Assigns, Fails, Ends, Loads, Pushes, Puts, Fences, Takes, Gives, Updates, Misses, Starts, Joins, Enters, Leaves}
use Rattle.mm_sched.specs.Guarded.{◌>>=◌, guarded}
use Rattle.mm_sched.specs.State.{Frame, State, pending_of, at_cell}
use Rattle.mm_sched.specs.Buffer.{is_empty, part, seen, pends}
use Rattle.mm_sched.specs.Event.{cell_of, stored, locked, unlocked, begun, joined, is_owner, is_same, act}

-- ---- steps that may fail

pub bind_again : {A B : Type 0} (o : Option A) (g h : A → Option B) (b : B) → (o >>= g) ≡ Some b → ((a : A) → o ≡ Some a → g a ≡ Some b → h a ≡ Some b) → (o >>= h) ≡ Some b
bind_again None g h b e k = cc
bind_again (Some a) g h b e k = k a refl e

pub guarded_some : {A : Type 0} (b : Bool) (x : Option A) (a : A) → guarded b x ≡ Some a → (b ≡ true) × (x ≡ Some a)
guarded_some true x a e = (refl, e)
guarded_some false x a e = cc

-- ---- the act that an instruction comes to

locked_is : (o : Option (Option ℕ)) (k : ℕ) (a : Act) → locked o k ≡ Some a → a ≡ Takes k
locked_is None k a e = cc
locked_is (Some owner) k a e = sym (same_Some (Takes k) a (guarded_some (is_none owner) (Some (Takes k)) a e).1)

unlocked_is : (o : Option (Option ℕ)) (t k : ℕ) (a : Act) → unlocked o t k ≡ Some a → a ≡ Gives k
unlocked_is None t k a e = cc
unlocked_is (Some owner) t k a e = sym (same_Some (Gives k) a (guarded_some (is_owner t owner) (Some (Gives k)) a e).1)

begun_is : (o : Option Frame) (u : ℕ) (a : Act) → begun o u ≡ Some a → a ≡ Starts u
begun_is None u a e = cc
begun_is (Some g) u a e = sym (same_Some (Starts u) a (guarded_some (not g.started) (Some (Starts u)) a e).1)

joined_is : (o : Option Frame) (empty : Bool) (u : ℕ) (a : Act) → joined o empty u ≡ Some a → a ≡ Joins u
joined_is None empty u a e = cc
joined_is (Some g) empty u a e = sym (same_Some (Joins u) a (guarded_some (g.ended && empty) (Some (Joins u)) a e).1)

pub pends_is : (b : Bool) (c : ℕ) (v : ℤ) (a : Act) → stored (if b then Delayed else NotEnabled) c v ≡ Some a → (b ≡ true) × (a ≡ Pushes c v)
pends_is true c v a e = (refl, sym (same_Some (Pushes c v) a e))
pends_is false c v a e = cc

-- ---- the same is done

module _ (m : Model) (bound : Bounding) (s s' : State) (t : ℕ) where
  abbrev pub EmptyAlike : ℕ → Type 0
  EmptyAlike u = is_empty (pending_of s u) ≡ is_empty (pending_of s' u)

  -- what the act reads is as it was; for a store that is made pending there is room
  abbrev pub Needs : Act → Type 0
  Needs (Goes k) = Unit {0}
  Needs (Assigns l v) = Unit {0}
  Needs (Fails n) = Unit {0}
  Needs Ends = Unit {0}
  Needs (Loads l c v) = seen s t c ≡ seen s' t c
  Needs (Pushes c v) = length (part m (pending_of s' t) c) < bound_of bound t
  Needs (Puts c v) = Unit {0}
  Needs Fences = EmptyAlike t
  Needs (Takes k) = EmptyAlike t × (slice_get s.owners k ≡ slice_get s'.owners k)
  Needs (Gives k) = EmptyAlike t × (slice_get s.owners k ≡ slice_get s'.owners k)
  Needs (Updates l v c w) = EmptyAlike t × (at_cell s c ≡ at_cell s' c)
  Needs (Misses l c) = EmptyAlike t × (at_cell s c ≡ at_cell s' c)
  Needs (Starts u) = EmptyAlike t × (slice_get s.threads u ≡ slice_get s'.threads u)
  Needs (Joins u) = EmptyAlike t × (slice_get s.threads u ≡ slice_get s'.threads u) × EmptyAlike u
  Needs Enters = s.section ≡ s'.section
  Needs Leaves = s.section ≡ s'.section

  cas_needs : (b : Bool) (l c : ℕ) (w : ℤ) (a : Act) → (if b then Updates l (pos 1) c w else Misses l c) ≡ a → Needs a → EmptyAlike t × (at_cell s c ≡ at_cell s' c)
  cas_needs true l c w a e h = subst Needs (sym e) h
  cas_needs false l c w a e h = subst Needs (sym e) h

  module _ (f : Frame) (sizes : length s.memory ≡ length s'.memory) where
    cell_now : Target → Option ℕ
    cell_now target = cell_of (length s.memory) f.locals target

    -- a cell that is looked up, and then what is done with it
    at_target : (target : Target) (k k' : ℕ → Option Act) (a : Act) → (cell_of (length s.memory) f.locals target >>= k) ≡ Some a → ((c : ℕ) → k c ≡ Some a → k' c ≡ Some a) → (cell_of (length s'.memory) f.locals target >>= k') ≡ Some a
    at_target target k k' a e h = ap (λ n. cell_of n f.locals target >>= k') (sym sizes) ∙ bind_again (cell_of (length s.memory) f.locals target) k k' a e (λ c d x. h c x)

    -- the same where the thread has nothing pending
    at_drained : (target : Target) (k k' : ℕ → Option Act) (a : Act) → guarded (is_empty (pending_of s t)) (cell_of (length s.memory) f.locals target >>= k) ≡ Some a → EmptyAlike t → ((c : ℕ) → k c ≡ Some a → k' c ≡ Some a) → guarded (is_empty (pending_of s' t)) (cell_of (length s'.memory) f.locals target >>= k') ≡ Some a
    at_drained target k k' a e q h =
        let g = guarded_some (is_empty (pending_of s t)) (cell_of (length s.memory) f.locals target >>= k) a e in
        ap (λ b. guarded b (cell_of (length s'.memory) f.locals target >>= k')) (sym q ∙ g.0) ∙ at_target target k k' a g.1 h

    pub act_again : (i : Instr) (a : Act) → act (Buffered m bound) s t f i ≡ Some a → Needs a → act (Buffered m bound) s' t f i ≡ Some a
    unfolding act
    act_again (Set l e) a x h = x
    act_again (Load l target) a x h = at_target target (λ c. Some (Loads l c (seen s t c))) (λ c. Some (Loads l c (seen s' t c))) a x (λ c d. ap (λ v. Some (Loads l c v)) (sym (subst Needs (sym (same_Some (Loads l c (seen s t c)) a d)) h)) ∙ d)
    act_again (Store target e) a x h = at_target target (λ c. stored (pends m (bound_of bound t) (pending_of s t) c) c (value_of e f.locals)) (λ c. stored (pends m (bound_of bound t) (pending_of s' t) c) c (value_of e f.locals)) a x (λ c d.
        let is = pends_is (nat_lt (length (part m (pending_of s t) c)) (bound_of bound t)) c (value_of e f.locals) a d in
        let room : length (part m (pending_of s' t) c) < bound_of bound t = subst Needs is.1 h in
        ap (λ b. stored (if b then Delayed else NotEnabled) c (value_of e f.locals)) (lt-ltb (length (part m (pending_of s' t) c)) (bound_of bound t) room) ∙ ap Some (sym is.1))
    act_again (Input l) a x h = x
    act_again (Jump k) a x h = x
    act_again (Branch e k) a x h = x
    act_again (Assert e n) a x h = x
    act_again (Assume e) a x h = x
    act_again Fence a x h = let q : EmptyAlike t = subst Needs (sym (same_Some Fences a (guarded_some (is_empty (pending_of s t)) (Some Fences) a x).1)) h in ap (λ b. guarded b (Some Fences)) (sym q) ∙ x
    act_again (Lock k) a x h =
        let q : Needs (Takes k) = subst Needs (locked_is (slice_get s.owners k) k a (guarded_some (is_empty (pending_of s t)) (locked (slice_get s.owners k) k) a x).1) h in
        ap₂ (λ b o. guarded b (locked o k)) (sym q.0) (sym q.1) ∙ x
    act_again (Unlock k) a x h =
        let q : Needs (Gives k) = subst Needs (unlocked_is (slice_get s.owners k) t k a (guarded_some (is_empty (pending_of s t)) (unlocked (slice_get s.owners k) t k) a x).1) h in
        ap₂ (λ b o. guarded b (unlocked o t k)) (sym q.0) (sym q.1) ∙ x
    act_again (Add l target e) a x h =
        let k : ℕ → Option Act = λ c. Some (Updates l (at_cell s c) c (int_wrapping_add w32 (at_cell s c) (value_of e f.locals))) in
        let needs : (c : ℕ) → k c ≡ Some a → EmptyAlike t × (at_cell s c ≡ at_cell s' c) = λ c d. subst Needs (sym (same_Some (Updates l (at_cell s c) c (int_wrapping_add w32 (at_cell s c) (value_of e f.locals))) a d)) h in
        option_and_then_some k (cell_of (length s.memory) f.locals target) a (guarded_some (is_empty (pending_of s t)) (cell_of (length s.memory) f.locals target >>= k) a x).1 (λ c d y.
        at_drained target k (λ c. Some (Updates l (at_cell s' c) c (int_wrapping_add w32 (at_cell s' c) (value_of e f.locals)))) a x (needs c y).0 (λ b z. ap (λ v. Some (Updates l v b (int_wrapping_add w32 v (value_of e f.locals)))) (sym (needs b z).1) ∙ z))
    act_again (Cas l target e g) a x h =
        let k : ℕ → Option Act = λ c. Some (if is_same (at_cell s c) (value_of e f.locals) then Updates l (pos 1) c (value_of g f.locals) else Misses l c) in
        let needs : (c : ℕ) → k c ≡ Some a → EmptyAlike t × (at_cell s c ≡ at_cell s' c) = λ c d. cas_needs (is_same (at_cell s c) (value_of e f.locals)) l c (value_of g f.locals) a (same_Some (if is_same (at_cell s c) (value_of e f.locals) then Updates l (pos 1) c (value_of g f.locals) else Misses l c) a d) h in
        option_and_then_some k (cell_of (length s.memory) f.locals target) a (guarded_some (is_empty (pending_of s t)) (cell_of (length s.memory) f.locals target >>= k) a x).1 (λ c d y.
        at_drained target k (λ c. Some (if is_same (at_cell s' c) (value_of e f.locals) then Updates l (pos 1) c (value_of g f.locals) else Misses l c)) a x (needs c y).0 (λ b z. ap (λ v. Some (if is_same v (value_of e f.locals) then Updates l (pos 1) b (value_of g f.locals) else Misses l b)) (sym (needs b z).1) ∙ z))
    act_again (Start u) a x h =
        let q : Needs (Starts u) = subst Needs (begun_is (slice_get s.threads u) u a (guarded_some (is_empty (pending_of s t)) (begun (slice_get s.threads u) u) a x).1) h in
        ap₂ (λ b o. guarded b (begun o u)) (sym q.0) (sym q.1) ∙ x
    act_again (Join u) a x h =
        let q : Needs (Joins u) = subst Needs (joined_is (slice_get s.threads u) (is_empty (pending_of s u)) u a (guarded_some (is_empty (pending_of s t)) (joined (slice_get s.threads u) (is_empty (pending_of s u)) u) a x).1) h in
        ap (λ b. guarded b (joined (slice_get s'.threads u) (is_empty (pending_of s' u)) u)) (sym q.0)
        ∙ ap₂ (λ o b. guarded (is_empty (pending_of s t)) (joined o b u)) (sym q.1) (sym q.2) ∙ x
    act_again AtomBegin a x h = let q : s.section ≡ s'.section = subst Needs (sym (same_Some Enters a (guarded_some (is_none s.section) (Some Enters) a x).1)) h in ap (λ o. guarded (is_none o) (Some Enters)) (sym q) ∙ x
    act_again AtomEnd a x h = let q : s.section ≡ s'.section = subst Needs (sym (same_Some Leaves a (guarded_some (is_owner t s.section) (Some Leaves) a x).1)) h in ap (λ o. guarded (is_owner t o) (Some Leaves)) (sym q) ∙ x
    act_again End a x h = x

-- ---- what an act tells of the state

module _ (m : Model) (bound : Bounding) (s : State) (t : ℕ) where
  abbrev pub Tells : Act → Type 0
  Tells (Goes k) = Unit {0}
  Tells (Assigns l v) = Unit {0}
  Tells (Fails n) = Unit {0}
  Tells Ends = Unit {0}
  Tells (Loads l c v) = Unit {0}
  Tells (Pushes c v) = length (part m (pending_of s t) c) < bound_of bound t
  Tells (Puts c v) = ⊥
  Tells Fences = is_empty (pending_of s t) ≡ true
  Tells (Takes k) = (is_empty (pending_of s t) ≡ true) × (slice_get s.owners k ≡ Some None)
  Tells (Gives k) = (is_empty (pending_of s t) ≡ true) × (slice_get s.owners k ≡ Some (Some t))
  Tells (Updates l v c w) = is_empty (pending_of s t) ≡ true
  Tells (Misses l c) = is_empty (pending_of s t) ≡ true
  Tells (Starts u) = (is_empty (pending_of s t) ≡ true) × ((g : Frame) × (slice_get s.threads u ≡ Some g) × (g.started ≡ false))
  Tells (Joins u) = (is_empty (pending_of s t) ≡ true) × (is_empty (pending_of s u) ≡ true) × ((g : Frame) × (slice_get s.threads u ≡ Some g) × (g.ended ≡ true))
  Tells Enters = ⊥
  Tells Leaves = ⊥
