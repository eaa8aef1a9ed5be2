-- Which instruction an executed act is of.
use Rattle.std.proofs.Common.{◌≡◌, ℕ, ◌+◌, ℤ, pos, ◌⊎◌, inl, inr, ⊎_elim, List, length, Option, Some, None, refl, Bool, true, false, not, nat_lt, sym, ◌∙◌, ap, subst, slice_get, if◌then◌else◌, IfSome}
use Rattle.std.specs.Prelude.{IsSomeAnd, is_none}
use Rattle.std.specs.Int.{w32, int_wrapping_add}
use Rattle.std.proofs.lemmas.Option.{none-some, same_Some}
use Rattle.std.proofs.lemmas.Bool.{false≢true}
use Rattle.mm_goto.specs.Bounds.{Bounding, bound_of}
use Rattle.mm_goto.specs.declared.model.Model.{Model}
use Rattle.mm_goto.specs.declared.pure.Pure.{Pure}
use Rattle.mm_goto.specs.declared.program.Instr.{Instr}
use Rattle.mm_goto.specs.declared.program.Instr.TheVariants.{Set, Load, Store, Input, Jump, Branch, Assert, Assume, Fence, Lock, Unlock, Add, Cas, Start, Join, AtomBegin, AtomEnd, End}
use Rattle.mm_goto.specs.declared.program.Target.{Target}
use Rattle.mm_goto.specs.declared.spot.Spot.{Spot}
use Rattle.mm_goto.specs.Listing.{Listing}
use Rattle.mm_goto.specs.PointsTo.{instr_at}
use Rattle.mm_goto.specs.Sites.{Is, is_site, Accesses, Writes}
use Rattle.mm_goto.specs.Valid.{IsValid}
use Rattle.mm_goto.specs.Value.{value_of, is_zero}
use Rattle.mm_sched.specs.declared.entry.Entry.{Entry}
use Rattle.mm_sched.specs.declared.entry.Rules.TheVariants.{Buffered}
use Rattle.mm_sched.specs.declared.entry.How.TheVariants.{Delayed, NotEnabled}
use Rattle.mm_sched.specs.declared.entry.Act.{Act}
use Rattle.mm_sched.specs.declared.entry.Act.TheVariants.{Goes, Assigns, Fails, Ends, Loads, Pushes, Puts, Fences, Takes, Gives, Updates, Misses, Starts, Joins, Enters, Leaves}
use Rattle.mm_sched.specs.declared.entry.Event.{Event}
use Rattle.mm_sched.specs.Guarded.{◌>>=◌}
use Rattle.mm_sched.specs.State.{Frame, State, initial, pending_of, at_cell}
use Rattle.mm_sched.specs.Buffer.{is_empty, part, seen, pends}
use Rattle.mm_sched.specs.Event.{cell_of, stored, locked, unlocked, begun, joined, is_same, act, input, is_int}
use Rattle.mm_sched.proofs.Steps.{if-at, bind-if, guarded-if, locked-if, unlocked-if, begun-if, joined-if}
use Rattle.mm_rungraph.specs.Traces.{events_of}
use Rattle.mm_keeping.specs.Executions.{Executes, touched}
use Rattle.mm_keeping.proofs.Stepping.{doing, instr_is, state}

-- the instruction that an act is of
abbrev pub Suits : Instr → Act → Type 0
Suits i (Goes k) = is_site i ≡ false
Suits i (Assigns l v) = is_site i ≡ false
Suits i (Fails n) = is_site i ≡ false
Suits i Ends = is_site i ≡ false
Suits i (Loads l c v) = (to : Target) × (i ≡ Load l to)
Suits i (Pushes c v) = (to : Target) × (e : Pure) × (i ≡ Store to e)
Suits i (Puts c v) = ⊥
Suits i Fences = is_site i ≡ false
Suits i (Takes m) = i ≡ Lock m
Suits i (Gives m) = i ≡ Unlock m
Suits i (Updates l v c w) = ((to : Target) × (e : Pure) × (i ≡ Add l to e)) ⊎ ((to : Target) × (e : Pure) × (g : Pure) × (i ≡ Cas l to e g))
Suits i (Misses l c) = (to : Target) × (e : Pure) × (g : Pure) × (i ≡ Cas l to e g)
Suits i (Starts u) = i ≡ Start u
Suits i (Joins u) = i ≡ Join u
Suits i Enters = is_site i ≡ false
Suits i Leaves = is_site i ≡ false

module _ (m : Model) (bound : Bounding) (s : State) (t : ℕ) (f : Frame) where
  pends_suits : (to : Target) (e : Pure) (b : Bool) (c : ℕ) (v : ℤ) → IfSome (stored (if b then Delayed else NotEnabled) c v) (Suits (Store to e))
  pends_suits to e true c v = (to, e, refl)
  pends_suits to e false c v = tt

  asserted : (e : Pure) (n : ℕ) (b : Bool) → Suits (Assert e n) (if b then Fails n else Goes (f.place + 1))
  asserted e n true = refl
  asserted e n false = refl

  matched : (l : ℕ) (to : Target) (e g : Pure) (c : ℕ) (w : ℤ) (b : Bool) → Suits (Cas l to e g) (if b then Updates l (pos 1) c w else Misses l c)
  matched l to e g c w true = inr (to, e, g, refl)
  matched l to e g c w false = (to, e, g, refl)

  act_suits : (i : Instr) → IfSome (act (Buffered m bound) s t f i) (Suits i)
  unfolding act
  act_suits (Set l e) = refl
  act_suits (Load l to) = bind-if (Suits (Load l to)) (cell_of (length s.memory) f.locals to) (λ c. Some (Loads l c (seen s t c))) (λ c. (to, refl))
  act_suits (Store to e) = bind-if (Suits (Store to e)) (cell_of (length s.memory) f.locals to) (λ c. stored (pends m (bound_of bound t) (pending_of s t) c) c (value_of e f.locals)) (λ c. pends_suits to e (nat_lt (length (part m (pending_of s t) c)) (bound_of bound t)) c (value_of e f.locals))
  act_suits (Input l) = tt
  act_suits (Jump n) = refl
  act_suits (Branch e n) = refl
  act_suits (Assert e n) = asserted e n (is_zero (value_of e f.locals))
  act_suits (Assume e) = guarded-if (Suits (Assume e)) (not (is_zero (value_of e f.locals))) (Some (Goes (f.place + 1))) refl
  act_suits Fence = guarded-if (Suits Fence) (is_empty (pending_of s t)) (Some Fences) refl
  act_suits (Lock n) = guarded-if (Suits (Lock n)) (is_empty (pending_of s t)) (locked (slice_get s.owners n) n) (locked-if (Suits (Lock n)) (slice_get s.owners n) n refl)
  act_suits (Unlock n) = guarded-if (Suits (Unlock n)) (is_empty (pending_of s t)) (unlocked (slice_get s.owners n) t n) (unlocked-if (Suits (Unlock n)) (slice_get s.owners n) t n refl)
  act_suits (Add l to e) = guarded-if (Suits (Add l to e)) (is_empty (pending_of s t)) (cell_of (length s.memory) f.locals to >>= (λ c. Some (Updates l (at_cell s c) c (int_wrapping_add w32 (at_cell s c) (value_of e f.locals))))) (bind-if (Suits (Add l to e)) (cell_of (length s.memory) f.locals to) (λ c. Some (Updates l (at_cell s c) c (int_wrapping_add w32 (at_cell s c) (value_of e f.locals)))) (λ c. inl (to, e, refl)))
  act_suits (Cas l to e g) = guarded-if (Suits (Cas l to e g)) (is_empty (pending_of s t)) (cell_of (length s.memory) f.locals to >>= (λ c. Some (if is_same (at_cell s c) (value_of e f.locals) then Updates l (pos 1) c (value_of g f.locals) else Misses l c))) (bind-if (Suits (Cas l to e g)) (cell_of (length s.memory) f.locals to) (λ c. Some (if is_same (at_cell s c) (value_of e f.locals) then Updates l (pos 1) c (value_of g f.locals) else Misses l c)) (λ c. matched l to e g c (value_of g f.locals) (is_same (at_cell s c) (value_of e f.locals))))
  act_suits (Start u) = guarded-if (Suits (Start u)) (is_empty (pending_of s t)) (begun (slice_get s.threads u) u) (begun-if (Suits (Start u)) (slice_get s.threads u) u refl)
  act_suits (Join u) = guarded-if (Suits (Join u)) (is_empty (pending_of s t)) (joined (slice_get s.threads u) (is_empty (pending_of s u)) u) (joined-if (Suits (Join u)) (slice_get s.threads u) (is_empty (pending_of s u)) u refl)
  act_suits AtomBegin = guarded-if (Suits AtomBegin) (is_none s.section) (Some Enters) refl
  act_suits AtomEnd = guarded-if (Suits AtomEnd) _ (Some Leaves) refl
  act_suits End = refl

  input_suits : (i : Instr) (v : ℤ) → IfSome (input i v) (Suits i)
  input_suits (Input l) v = guarded-if (Suits (Input l)) (is_int v) (Some (Assigns l v)) refl
  input_suits i v = tt

-- ---- what other threads can see

abbrev pub is_visible : Act → Bool
is_visible (Goes k) = false
is_visible (Assigns l v) = false
is_visible (Fails n) = false
is_visible Ends = false
is_visible (Loads l c v) = true
is_visible (Pushes c v) = true
is_visible (Puts c v) = true
is_visible Fences = false
is_visible (Takes m) = true
is_visible (Gives m) = true
is_visible (Updates l v c w) = true
is_visible (Misses l c) = true
is_visible (Starts u) = true
is_visible (Joins u) = true
is_visible Enters = false
is_visible Leaves = false

pub visible_site : (i : Instr) (a : Act) → Suits i a → is_site i ≡ is_visible a
visible_site i (Goes k) h = h
visible_site i (Assigns l v) h = h
visible_site i (Fails n) h = h
visible_site i Ends h = h
visible_site i (Loads l c v) h = ap is_site h.1
visible_site i (Pushes c v) h = ap is_site h.2
visible_site i (Puts c v) h = absurd h
visible_site i Fences h = h
visible_site i (Takes m) h = ap is_site h
visible_site i (Gives m) h = ap is_site h
visible_site i (Updates l v c w) (inl h) = ap is_site h.2
visible_site i (Updates l v c w) (inr h) = ap is_site h.3
visible_site i (Misses l c) h = ap is_site h.3
visible_site i (Starts u) h = ap is_site h
visible_site i (Joins u) h = ap is_site h
visible_site i Enters h = h
visible_site i Leaves h = h

pub accesses : (i : Instr) (a : Act) (c : ℕ) → Suits i a → touched a ≡ Some c → Accesses i
accesses i (Loads l d v) c h e = subst Accesses (sym h.1) tt
accesses i (Pushes d v) c h e = subst Accesses (sym h.2) tt
accesses i (Puts d v) c h e = absurd h
accesses i (Updates l v d w) c (inl h) e = subst Accesses (sym h.2) tt
accesses i (Updates l v d w) c (inr h) e = subst Accesses (sym h.3) tt
accesses i (Misses l d) c h e = subst Accesses (sym h.3) tt
accesses i (Goes k) c h e = absurd (none-some c e)
accesses i a c h e = absurd (none-some c e)

-- it makes a store pending, or writes memory at once
abbrev pub IsWriting : Act → Type 0
IsWriting (Pushes c v) = Unit {0}
IsWriting (Updates l v c w) = Unit {0}
IsWriting _ = ⊥

pub writes_there : (i : Instr) (a : Act) → Suits i a → IsWriting a → Writes i
writes_there i (Pushes d v) h w = subst Writes (sym h.2) tt
writes_there i (Updates l v d w) (inl h) x = subst Writes (sym h.2) tt
writes_there i (Updates l v d w) (inr h) x = subst Writes (sym h.3) tt
writes_there i (Goes k) h w = absurd w
writes_there i a h w = absurd w

-- ---- at the spot

pub is_there : {A : Type 0} (P : A → Type 0) (o : Option A) (a : A) → o ≡ Some a → P a → IsSomeAnd o P
is_there P None a e h = cc
is_there P (Some b) a e h = subst P (sym (same_Some b a e)) h

module _ (m : Model) (bound : Bounding) (p : Listing) (valid : IsValid p) (es : List Entry) (vs : List Event) (happens : events_of (Buffered m bound) p (initial p) es ≡ Some vs) where
  -- the instruction at the spot that is executed
  pub record Instruction (s : Spot) (a : Act) : Type 0 where
    pub it : Instr
    pub at : instr_at p s.thread s.index ≡ Some it
    pub suits : Suits it a

  pub instruction : (k : ℕ) (s : Spot) (x : Executes p vs k s) → Instruction s x.act
  instruction k s x =
      let d = doing m bound p valid es vs happens k s.thread x.act x.does in
      record {
        it = d.instr;
        at = sym (ap (instr_at p s.thread) x.place) ∙ instr_is m bound p valid es vs happens k s.thread x.act d;
        suits = ⊎_elim
            (λ e. if-at (Suits d.instr) (act (Buffered m bound) (state m bound p valid es vs happens k) s.thread d.frame d.instr) x.act e (act_suits m bound (state m bound p valid es vs happens k) s.thread d.frame d.instr))
            (λ e. if-at (Suits d.instr) (input d.instr e.0) x.act e.1 (input_suits m bound (state m bound p valid es vs happens k) s.thread d.frame d.instr e.0))
            d.way;
      }

  pub is_site_at : (k : ℕ) (s : Spot) (x : Executes p vs k s) → is_visible x.act ≡ true → Is p s (λ it. is_site it ≡ true)
  is_site_at k s x h = let i = instruction k s x in is_there (λ it. is_site it ≡ true) (instr_at p s.thread s.index) i.it i.at (visible_site i.it x.act i.suits ∙ h)

  pub no_site_at : (k : ℕ) (s : Spot) (x : Executes p vs k s) → is_visible x.act ≡ false → Is p s (λ it. is_site it ≡ true) → ⊥
  no_site_at k s x h is = let i = instruction k s x in false≢true (sym (visible_site i.it x.act i.suits ∙ h) ∙ (rw i.at at is))
