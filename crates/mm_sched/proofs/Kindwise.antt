-- What each kind of instruction does where its thread may step.
use Rattle.std.proofs.Common.{◌≡◌, ◌≢◌, ℕ, ℤ, pos, ◌+◌, Bool, true, false, not, ◌&&◌, List, [], ◌∷◌, length, slice_get, slice_set, Option, Some, None, option_map, refl, ◌∙◌, ap, eqb-true, eq-eqb}
use Rattle.std.specs.Prelude.{find, is_none, ◌==◌, if◌then◌else◌}
use Rattle.std.specs.Int.{w32, int_wrapping_add}
use Rattle.mm_goto.specs.declared.model.Model.{Model}
use Rattle.mm_goto.specs.declared.model.Model.TheVariants.{Tso, Pso}
use Rattle.mm_goto.specs.declared.program.Instr.{Instr}
use Rattle.mm_goto.specs.declared.program.Instr.TheVariants.{Set, Load, Store, Input, Jump, Branch, Assert, Assume, Fence, Lock, Unlock, Add, Cas, Start, Join, AtomBegin, AtomEnd, End}
use Rattle.mm_goto.specs.declared.program.Target.{Target}
use Rattle.mm_goto.specs.declared.pure.Pure.{Pure}
use Rattle.mm_goto.specs.Listing.{Listing}
use Rattle.mm_goto.specs.Value.{value_of, is_zero}
use Rattle.mm_sched.specs.declared.entry.Act.{Act}
use Rattle.mm_sched.specs.declared.entry.Act.TheVariants.{Goes, Assigns, Fails, Ends, Loads, Pushes, Puts, Fences, Takes, Gives, Updates, Misses, Starts, Joins, Enters, Leaves}
use Rattle.mm_sched.specs.declared.entry.Entry.{Entry}
use Rattle.mm_sched.specs.declared.entry.Entry.TheVariants.{In, Flush, FlushCell}
use Rattle.mm_sched.specs.declared.entry.Event.TheVariants.{Flushes}
use Rattle.mm_sched.specs.declared.entry.How.TheVariants.{AtOnce, Delayed, NotEnabled}
use Rattle.mm_sched.specs.declared.entry.Rules.{Rules}
use Rattle.mm_sched.specs.declared.entry.Rules.TheVariants.{Sc, Buffered, Partial}
use Rattle.mm_sched.specs.Buffer.{flush_of, flush_under, is_empty, is_to, seen, store_of, without}
use Rattle.mm_sched.specs.Event.{act, after, assigned, begun, cell_of, done, drained, event, flushed, flushes, framed, input, is_int, is_owner, is_same, joined, locked, moved, next, on, owned, pushed, started, stored, unlocked, written}
use Rattle.mm_sched.specs.Guarded.{◌>>=◌, guarded}
use Rattle.mm_sched.specs.State.{Frame, Pending, State, at_cell, pending_of}
use Rattle.mm_sched.specs.Turn.{IsAt, IsUnder, StepsTo, Waits, Whenever, is_drained}
use Rattle.mm_sched.proofs.Laid.{found-to}
use Rattle.mm_sched.proofs.Steps.{if-at}
use Rattle.mm_sched.proofs.Turns.{step_is, in_is}

-- ---- from what the instruction does to the step

module _ (r : Rules) (p : Listing) (s : State) (t : ℕ) (f : Frame) (i : Instr) (at : IsAt p s t f i) where
  steps : (a : Act) → act r s t f i ≡ Some a → StepsTo r p s t (moved (done s t a) t (framed f a))
  steps a e = step_is r p s t f i at ∙ ap (option_map (λ b. moved (done s t b) t (framed f b))) e

  waits : act r s t f i ≡ None → Waits r p s t
  waits e = step_is r p s t f i at ∙ ap (option_map (λ b. moved (done s t b) t (framed f b))) e

  takes : (v : ℤ) (a : Act) → input i v ≡ Some a → next r p s (In t v) ≡ Some (moved (done s t a) t (framed f a))
  takes v a e = in_is r p s t f i at v ∙ ap (option_map (λ b. moved (done s t b) t (framed f b))) e

  takes_none : (v : ℤ) → input i v ≡ None → next r p s (In t v) ≡ None
  takes_none v e = in_is r p s t f i at v ∙ ap (option_map (λ b. moved (done s t b) t (framed f b))) e

-- ---- parts of a step

empties : (ps : List Pending) → ps ≡ [] → is_empty ps ≡ true
empties ps e = ap is_empty e

fills : (ps : List Pending) → ps ≢ [] → is_empty ps ≡ false
fills [] ne = absurd (ne refl)
fills (q ∷ ps) ne = refl

drained_is : (s : State) (t : ℕ) (o : Option Act) → pending_of s t ≡ [] → drained s t o ≡ o
drained_is s t o e = ap (λ b. guarded b o) (empties (pending_of s t) e)

drained_none : (s : State) (t : ℕ) (o : Option Act) → pending_of s t ≢ [] → drained s t o ≡ None
drained_none s t o ne = ap (λ b. guarded b o) (fills (pending_of s t) ne)

guarded_none : (b : Bool) → guarded {A = Act} b None ≡ None
guarded_none true = refl
guarded_none false = refl

-- what does nothing does nothing where it is drained
none_drained : (s : State) (t : ℕ) (o : Option Act) → o ≡ None → drained s t o ≡ None
none_drained s t o e = ap (drained s t) e ∙ guarded_none (is_empty (pending_of s t))

-- ---- locals and control

pub set : (l : ℕ) (e : Pure) → Whenever (Set l e) (λ r p s t f. StepsTo r p s t (moved s t (assigned f l (value_of e f.locals))))
unfolding act
set l e r p s t f at = steps r p s t f (Set l e) at (Assigns l (value_of e f.locals)) refl

pub jump : (k : ℕ) → Whenever (Jump k) (λ r p s t f. StepsTo r p s t (moved s t (record f { place = k })))
unfolding act
jump k r p s t f at = steps r p s t f (Jump k) at (Goes k) refl

pub branch_goes : (e : Pure) (k : ℕ) → Whenever (Branch e k) (λ r p s t f. is_zero (value_of e f.locals) ≡ true → StepsTo r p s t (moved s t (record f { place = k })))
unfolding act
branch_goes e k r p s t f at z = steps r p s t f (Branch e k) at (Goes k) (ap (λ b. Some (Goes (if b then k else f.place + 1))) z)

pub branch_goes_on : (e : Pure) (k : ℕ) → Whenever (Branch e k) (λ r p s t f. is_zero (value_of e f.locals) ≡ false → StepsTo r p s t (moved s t (on f)))
unfolding act
branch_goes_on e k r p s t f at z = steps r p s t f (Branch e k) at (Goes (f.place + 1)) (ap (λ b. Some (Goes (if b then k else f.place + 1))) z)

pub assert_fails : (e : Pure) (n : ℕ) → Whenever (Assert e n) (λ r p s t f. is_zero (value_of e f.locals) ≡ true → StepsTo r p s t (moved (record s { verdict = Some n }) t (on f)))
unfolding act
assert_fails e n r p s t f at z = steps r p s t f (Assert e n) at (Fails n) (ap (λ b. Some (if b then Fails n else Goes (f.place + 1))) z)

pub assert_holds : (e : Pure) (n : ℕ) → Whenever (Assert e n) (λ r p s t f. is_zero (value_of e f.locals) ≡ false → StepsTo r p s t (moved s t (on f)))
unfolding act
assert_holds e n r p s t f at z = steps r p s t f (Assert e n) at (Goes (f.place + 1)) (ap (λ b. Some (if b then Fails n else Goes (f.place + 1))) z)

pub assume_holds : (e : Pure) → Whenever (Assume e) (λ r p s t f. is_zero (value_of e f.locals) ≡ false → StepsTo r p s t (moved s t (on f)))
unfolding act
assume_holds e r p s t f at z = steps r p s t f (Assume e) at (Goes (f.place + 1)) (ap (λ b. guarded (not b) (Some (Goes (f.place + 1)))) z)

pub assume_waits : (e : Pure) → Whenever (Assume e) (λ r p s t f. is_zero (value_of e f.locals) ≡ true → Waits r p s t)
unfolding act
assume_waits e r p s t f at z = waits r p s t f (Assume e) at (ap (λ b. guarded (not b) (Some (Goes (f.place + 1)))) z)

pub end : Whenever End (λ r p s t f. StepsTo r p s t (moved s t (record f { ended = true })))
unfolding act
end r p s t f at = steps r p s t f End at Ends refl

-- ---- inputs

pub input_takes : (l : ℕ) → Whenever (Input l) (λ r p s t f. (v : ℤ) → is_int v ≡ true → next r p s (In t v) ≡ Some (moved s t (assigned f l v)))
input_takes l r p s t f at v z = takes r p s t f (Input l) at v (Assigns l v) (ap (λ b. guarded b (Some (Assigns l v))) z)

pub input_no_int : (l : ℕ) → Whenever (Input l) (λ r p s t f. (v : ℤ) → is_int v ≡ false → next r p s (In t v) ≡ None)
input_no_int l r p s t f at v z = takes_none r p s t f (Input l) at v (ap (λ b. guarded b (Some (Assigns l v))) z)

pub input_no_step : (l : ℕ) → Whenever (Input l) (λ r p s t f. Waits r p s t)
unfolding act
input_no_step l r p s t f at = waits r p s t f (Input l) at refl

takes_no_input : (i : Instr) (v : ℤ) → ((l : ℕ) → i ≢ Input l) → input i v ≡ None
takes_no_input (Input l) v ne = absurd (ne l refl)
takes_no_input _ v ne = refl

pub input_alone : (i : Instr) → ((l : ℕ) → i ≢ Input l) → Whenever i (λ r p s t f. (v : ℤ) → next r p s (In t v) ≡ None)
input_alone i ne r p s t f at v = takes_none r p s t f i at v (takes_no_input i v ne)

-- ---- accesses

pub load : (l : ℕ) (target : Target) → Whenever (Load l target) (λ r p s t f. (c : ℕ) → cell_of (length s.memory) f.locals target ≡ Some c → StepsTo r p s t (moved s t (assigned f l (seen s t c))))
unfolding act
load l target r p s t f at c e = steps r p s t f (Load l target) at (Loads l c (seen s t c)) (ap (λ (o : Option ℕ). o >>= (λ k. Some (Loads l k (seen s t k)))) e)

pub load_nowhere : (l : ℕ) (target : Target) → Whenever (Load l target) (λ r p s t f. cell_of (length s.memory) f.locals target ≡ None → Waits r p s t)
unfolding act
load_nowhere l target r p s t f at e = waits r p s t f (Load l target) at (ap (λ (o : Option ℕ). o >>= (λ k. Some (Loads l k (seen s t k)))) e)

store_is : (r : Rules) (s : State) (t : ℕ) (f : Frame) (target : Target) (e : Pure) (c : ℕ) → cell_of (length s.memory) f.locals target ≡ Some c → act r s t f (Store target e) ≡ stored (store_of r t f.place (pending_of s t) c) c (value_of e f.locals)
unfolding act
store_is r s t f target e c d = ap (λ (o : Option ℕ). o >>= (λ k. stored (store_of r t f.place (pending_of s t) k) k (value_of e f.locals))) d

pub store_pends : (target : Target) (e : Pure) → Whenever (Store target e) (λ r p s t f. (c : ℕ) → cell_of (length s.memory) f.locals target ≡ Some c → store_of r t f.place (pending_of s t) c ≡ Delayed → StepsTo r p s t (moved (pushed s t c (value_of e f.locals)) t (on f)))
store_pends target e r p s t f at c d how = steps r p s t f (Store target e) at (Pushes c (value_of e f.locals)) (store_is r s t f target e c d ∙ ap (λ h. stored h c (value_of e f.locals)) how)

pub store_writes : (target : Target) (e : Pure) → Whenever (Store target e) (λ r p s t f. (c : ℕ) → cell_of (length s.memory) f.locals target ≡ Some c → store_of r t f.place (pending_of s t) c ≡ AtOnce → StepsTo r p s t (moved (written s c (value_of e f.locals)) t (on f)))
store_writes target e r p s t f at c d how = steps r p s t f (Store target e) at (Puts c (value_of e f.locals)) (store_is r s t f target e c d ∙ ap (λ h. stored h c (value_of e f.locals)) how)

pub store_waits : (target : Target) (e : Pure) → Whenever (Store target e) (λ r p s t f. (c : ℕ) → cell_of (length s.memory) f.locals target ≡ Some c → store_of r t f.place (pending_of s t) c ≡ NotEnabled → Waits r p s t)
store_waits target e r p s t f at c d how = waits r p s t f (Store target e) at (store_is r s t f target e c d ∙ ap (λ h. stored h c (value_of e f.locals)) how)

pub store_nowhere : (target : Target) (e : Pure) → Whenever (Store target e) (λ r p s t f. cell_of (length s.memory) f.locals target ≡ None → Waits r p s t)
unfolding act
store_nowhere target e r p s t f at d = waits r p s t f (Store target e) at (ap (λ (o : Option ℕ). o >>= (λ k. stored (store_of r t f.place (pending_of s t) k) k (value_of e f.locals))) d)

-- ---- what is drained

not_drained : (r : Rules) (s : State) (t : ℕ) (f : Frame) (i : Instr) → is_drained i ≡ true → pending_of s t ≢ [] → act r s t f i ≡ None
unfolding act
not_drained r s t f Fence d ne = drained_none s t _ ne
not_drained r s t f (Lock m) d ne = drained_none s t _ ne
not_drained r s t f (Unlock m) d ne = drained_none s t _ ne
not_drained r s t f (Add l target e) d ne = drained_none s t _ ne
not_drained r s t f (Cas l target e g) d ne = drained_none s t _ ne
not_drained r s t f (Start u) d ne = drained_none s t _ ne
not_drained r s t f (Join u) d ne = drained_none s t _ ne
not_drained r s t f _ d ne = absurd (cc)

pub drained_waits : (i : Instr) → is_drained i ≡ true → Whenever i (λ r p s t f. pending_of s t ≢ [] → Waits r p s t)
drained_waits i d r p s t f at ne = waits r p s t f i at (not_drained r s t f i d ne)

pub fence : Whenever Fence (λ r p s t f. pending_of s t ≡ [] → StepsTo r p s t (moved s t (on f)))
unfolding act
fence r p s t f at e = steps r p s t f Fence at Fences (drained_is s t _ e)

-- ---- mutexes

pub lock_takes : (m : ℕ) → Whenever (Lock m) (λ r p s t f. pending_of s t ≡ [] → slice_get s.owners m ≡ Some None → StepsTo r p s t (moved (owned s m (Some t)) t (on f)))
unfolding act
lock_takes m r p s t f at e o = steps r p s t f (Lock m) at (Takes m) (drained_is s t _ e ∙ ap (λ x. locked x m) o)

pub lock_waits : (m : ℕ) → Whenever (Lock m) (λ r p s t f. (u : ℕ) → slice_get s.owners m ≡ Some (Some u) → Waits r p s t)
unfolding act
lock_waits m r p s t f at u o = waits r p s t f (Lock m) at (none_drained s t _ (ap (λ x. locked x m) o))

pub lock_of_none : (m : ℕ) → Whenever (Lock m) (λ r p s t f. slice_get s.owners m ≡ None → Waits r p s t)
unfolding act
lock_of_none m r p s t f at o = waits r p s t f (Lock m) at (none_drained s t _ (ap (λ x. locked x m) o))

own_mutex : (t m : ℕ) → unlocked (Some (Some t)) t m ≡ Some (Gives m)
own_mutex t m = ap (λ b. guarded b (Some (Gives m))) (eq-eqb t t refl)

another_mutex : (o : Option (Option ℕ)) (t m : ℕ) → o ≢ Some (Some t) → unlocked o t m ≡ None
another_mutex None t m ne = refl
another_mutex (Some None) t m ne = refl
another_mutex (Some (Some u)) t m ne = test (u == t) refl
  where
    test : (b : Bool) → (u == t) ≡ b → guarded (u == t) (Some (Gives m)) ≡ None
    test true e = absurd (ne (ap (λ x. Some (Some x)) (eqb-true u t e)))
    test false e = ap (λ b. guarded b (Some (Gives m))) e

pub unlock_gives : (m : ℕ) → Whenever (Unlock m) (λ r p s t f. pending_of s t ≡ [] → slice_get s.owners m ≡ Some (Some t) → StepsTo r p s t (moved (owned s m None) t (on f)))
unfolding act
unlock_gives m r p s t f at e o = steps r p s t f (Unlock m) at (Gives m) (drained_is s t _ e ∙ ap (λ x. unlocked x t m) o ∙ own_mutex t m)

pub unlock_waits : (m : ℕ) → Whenever (Unlock m) (λ r p s t f. slice_get s.owners m ≢ Some (Some t) → Waits r p s t)
unfolding act
unlock_waits m r p s t f at ne = waits r p s t f (Unlock m) at (none_drained s t _ (another_mutex (slice_get s.owners m) t m ne))

-- ---- updates

pub add : (l : ℕ) (target : Target) (e : Pure) → Whenever (Add l target e) (λ r p s t f. (c : ℕ) → pending_of s t ≡ [] → cell_of (length s.memory) f.locals target ≡ Some c → StepsTo r p s t (moved (written s c (int_wrapping_add w32 (at_cell s c) (value_of e f.locals))) t (assigned f l (at_cell s c))))
unfolding act
add l target e r p s t f at c d o =
    steps r p s t f (Add l target e) at (Updates l (at_cell s c) c (int_wrapping_add w32 (at_cell s c) (value_of e f.locals)))
    (drained_is s t _ d ∙ ap (λ (x : Option ℕ). x >>= (λ k. Some (Updates l (at_cell s k) k (int_wrapping_add w32 (at_cell s k) (value_of e f.locals))))) o)

pub add_nowhere : (l : ℕ) (target : Target) (e : Pure) → Whenever (Add l target e) (λ r p s t f. cell_of (length s.memory) f.locals target ≡ None → Waits r p s t)
unfolding act
add_nowhere l target e r p s t f at o = waits r p s t f (Add l target e) at (none_drained s t _ (ap (λ (x : Option ℕ). x >>= (λ k. Some (Updates l (at_cell s k) k (int_wrapping_add w32 (at_cell s k) (value_of e f.locals))))) o))

module _ (l : ℕ) (target : Target) (e g : Pure) where
  swaps : State → Frame → ℕ → Act
  swaps s f k = if is_same (at_cell s k) (value_of e f.locals) then Updates l (pos 1) k (value_of g f.locals) else Misses l k

  cas_is : (r : Rules) (s : State) (t : ℕ) (f : Frame) (c : ℕ) → pending_of s t ≡ [] → cell_of (length s.memory) f.locals target ≡ Some c → act r s t f (Cas l target e g) ≡ Some (swaps s f c)
  unfolding act swaps
  cas_is r s t f c d o = drained_is s t _ d ∙ ap (λ (x : Option ℕ). x >>= (λ k. Some (if is_same (at_cell s k) (value_of e f.locals) then Updates l (pos 1) k (value_of g f.locals) else Misses l k))) o

  pub cas_writes : Whenever (Cas l target e g) (λ r p s t f. (c : ℕ) → pending_of s t ≡ [] → cell_of (length s.memory) f.locals target ≡ Some c → is_same (at_cell s c) (value_of e f.locals) ≡ true → StepsTo r p s t (moved (written s c (value_of g f.locals)) t (assigned f l (pos 1))))
  unfolding swaps
  cas_writes r p s t f at c d o same = steps r p s t f (Cas l target e g) at (Updates l (pos 1) c (value_of g f.locals)) (cas_is r s t f c d o ∙ ap (λ b. Some (if b then Updates l (pos 1) c (value_of g f.locals) else Misses l c)) same)

  pub cas_misses : Whenever (Cas l target e g) (λ r p s t f. (c : ℕ) → pending_of s t ≡ [] → cell_of (length s.memory) f.locals target ≡ Some c → is_same (at_cell s c) (value_of e f.locals) ≡ false → StepsTo r p s t (moved s t (assigned f l (pos 0))))
  unfolding swaps
  cas_misses r p s t f at c d o other = steps r p s t f (Cas l target e g) at (Misses l c) (cas_is r s t f c d o ∙ ap (λ b. Some (if b then Updates l (pos 1) c (value_of g f.locals) else Misses l c)) other)

  pub cas_nowhere : Whenever (Cas l target e g) (λ r p s t f. cell_of (length s.memory) f.locals target ≡ None → Waits r p s t)
  unfolding act
  cas_nowhere r p s t f at o = waits r p s t f (Cas l target e g) at (none_drained s t _ (ap (λ (x : Option ℕ). x >>= (λ k. Some (if is_same (at_cell s k) (value_of e f.locals) then Updates l (pos 1) k (value_of g f.locals) else Misses l k))) o))

-- ---- threads

pub start : (u : ℕ) → Whenever (Start u) (λ r p s t f. (g : Frame) → pending_of s t ≡ [] → slice_get s.threads u ≡ Some g → g.started ≡ false → StepsTo r p s t (moved (started s u) t (on f)))
unfolding act
start u r p s t f at g e o b = steps r p s t f (Start u) at (Starts u) (drained_is s t _ e ∙ ap (λ x. begun x u) o ∙ ap (λ x. guarded (not x) (Some (Starts u))) b)

pub start_twice : (u : ℕ) → Whenever (Start u) (λ r p s t f. (g : Frame) → slice_get s.threads u ≡ Some g → g.started ≡ true → Waits r p s t)
unfolding act
start_twice u r p s t f at g o b = waits r p s t f (Start u) at (none_drained s t _ (ap (λ x. begun x u) o ∙ ap (λ x. guarded (not x) (Some (Starts u))) b))

pub start_of_none : (u : ℕ) → Whenever (Start u) (λ r p s t f. slice_get s.threads u ≡ None → Waits r p s t)
unfolding act
start_of_none u r p s t f at o = waits r p s t f (Start u) at (none_drained s t _ (ap (λ x. begun x u) o))

pub join : (u : ℕ) → Whenever (Join u) (λ r p s t f. (g : Frame) → pending_of s t ≡ [] → slice_get s.threads u ≡ Some g → g.ended ≡ true → pending_of s u ≡ [] → StepsTo r p s t (moved s t (on f)))
unfolding act
join u r p s t f at g e o b d =
    steps r p s t f (Join u) at (Joins u)
    (drained_is s t _ e ∙ ap (λ x. joined x (is_empty (pending_of s u)) u) o ∙ ap (λ x. guarded (x && is_empty (pending_of s u)) (Some (Joins u))) b ∙ ap (λ x. guarded x (Some (Joins u))) (empties (pending_of s u) d))

pub join_running : (u : ℕ) → Whenever (Join u) (λ r p s t f. (g : Frame) → slice_get s.threads u ≡ Some g → g.ended ≡ false → Waits r p s t)
unfolding act
join_running u r p s t f at g o b = waits r p s t f (Join u) at (none_drained s t _ (ap (λ x. joined x (is_empty (pending_of s u)) u) o ∙ ap (λ x. guarded (x && is_empty (pending_of s u)) (Some (Joins u))) b))

joins_none : (o : Option Frame) (u : ℕ) → joined o false u ≡ None
joins_none None u = refl
joins_none (Some g) u = ended g.ended
  where
    ended : (b : Bool) → guarded (b && false) (Some (Joins u)) ≡ None
    ended true = refl
    ended false = refl

pub join_pending : (u : ℕ) → Whenever (Join u) (λ r p s t f. pending_of s u ≢ [] → Waits r p s t)
unfolding act
join_pending u r p s t f at ne = waits r p s t f (Join u) at (none_drained s t _ (ap (λ b. joined (slice_get s.threads u) b u) (fills (pending_of s u) ne) ∙ joins_none (slice_get s.threads u) u))

pub join_of_none : (u : ℕ) → Whenever (Join u) (λ r p s t f. slice_get s.threads u ≡ None → Waits r p s t)
unfolding act
join_of_none u r p s t f at o = waits r p s t f (Join u) at (none_drained s t _ (ap (λ x. joined x (is_empty (pending_of s u)) u) o))

-- ---- atomic sections

taken : (o : Option ℕ) → o ≢ None → is_none o ≡ false
taken None ne = absurd (ne refl)
taken (Some u) ne = refl

owner_of : (o : Option ℕ) (t : ℕ) → o ≢ Some t → is_owner t o ≡ false
owner_of None t ne = refl
owner_of (Some u) t ne = test (u == t) refl
  where
    test : (b : Bool) → (u == t) ≡ b → (u == t) ≡ false
    test true e = absurd (ne (ap (λ x. Some x) (eqb-true u t e)))
    test false e = e

pub section_begins : Whenever AtomBegin (λ r p s t f. s.section ≡ None → StepsTo r p s t (moved (record s { section = Some t }) t (on f)))
unfolding act
section_begins r p s t f at e = steps r p s t f AtomBegin at Enters (ap (λ (o : Option ℕ). guarded (is_none o) (Some Enters)) e)

pub section_is_taken : Whenever AtomBegin (λ r p s t f. s.section ≢ None → Waits r p s t)
unfolding act
section_is_taken r p s t f at ne = waits r p s t f AtomBegin at (ap (λ b. guarded b (Some Enters)) (taken s.section ne))

pub section_ends : Whenever AtomEnd (λ r p s t f. s.section ≡ Some t → StepsTo r p s t (moved (record s { section = None }) t (on f)))
unfolding act
section_ends r p s t f at e = steps r p s t f AtomEnd at Leaves (ap (λ o. guarded (is_owner t o) (Some Leaves)) e ∙ ap (λ b. guarded b (Some Leaves)) (eq-eqb t t refl))

pub section_is_not_its_own : Whenever AtomEnd (λ r p s t f. s.section ≢ Some t → Waits r p s t)
unfolding act
section_is_not_its_own r p s t f at ne = waits r p s t f AtomEnd at (ap (λ b. guarded b (Some Leaves)) (owner_of s.section t ne))

-- ---- flushes

module _ (m : Model) (r : Rules) (p : Listing) (s : State) (t : ℕ) (e : Entry) (under : IsUnder m r) where
  flush_under_is : (ps : List Pending) → flush_of r e ps ≡ flush_under m e ps
  flush_under_is ps = by_rules r under
    where
      by_rules : (r : Rules) → IsUnder m r → flush_of r e ps ≡ flush_under m e ps
      by_rules Sc h = absurd h
      by_rules (Buffered n bound) h = ap (λ k. flush_under k e ps) h
      by_rules (Partial n bound set) h = ap (λ k. flush_under k e ps) h

  flush_is : (o : Option Pending) → flush_under m e (pending_of s t) ≡ o → option_map (after s) (flushes r s t e) ≡ option_map (λ q. flushed s t q.0 q.1) o
  flush_is o d = ap (λ (x : Option Pending). option_map (after s) (x >>= λ q. Some (Flushes t q.0 q.1))) (flush_under_is (pending_of s t) ∙ d) ∙ mapped o
    where
      mapped : (o : Option Pending) → option_map (after s) (o >>= λ q. Some (Flushes t q.0 q.1)) ≡ option_map (λ q. flushed s t q.0 q.1) o
      mapped None = refl
      mapped (Some q) = refl

own_first : (q : Pending) (rest : List Pending) → without (q ∷ rest) q.0 ≡ rest
own_first q rest = ap (λ b. if b then rest else q ∷ without rest q.0) (eq-eqb q.0 q.0 refl)

module _ (r : Rules) (p : Listing) (s : State) (t : ℕ) where
  pub flush_tso : (q : Pending) (rest : List Pending) → IsUnder Tso r → pending_of s t ≡ q ∷ rest → next r p s (Flush t) ≡ Some (record (written s q.0 q.1) { pending = slice_set s.pending t rest })
  unfolding event flushed
  flush_tso q rest under e =
      flush_is Tso r p s t (Flush t) under (Some q) (ap (λ ps. slice_get ps 0) e)
      ∙ ap (λ ps. Some (record (written s q.0 q.1) { pending = slice_set s.pending t ps })) (ap (λ ps. without ps q.0) e ∙ own_first q rest)

  pub flush_of_none : IsUnder Tso r → pending_of s t ≡ [] → next r p s (Flush t) ≡ None
  unfolding event
  flush_of_none under e = flush_is Tso r p s t (Flush t) under None (ap (λ ps. slice_get ps 0) e)

  pub flush_no_list : IsUnder Pso r → next r p s (Flush t) ≡ None
  unfolding event
  flush_no_list under = flush_is Pso r p s t (Flush t) under None refl

  module _ (c : ℕ) where
    pub flush_pso : (q : Pending) → IsUnder Pso r → find (is_to c) (pending_of s t) ≡ Some q → next r p s (FlushCell t c) ≡ Some (record (written s c q.1) { pending = slice_set s.pending t (without (pending_of s t) c) })
    unfolding event flushed
    flush_pso q under e =
        flush_is Pso r p s t (FlushCell t c) under (Some q) e
        ∙ ap (λ d. Some (record (written s d q.1) { pending = slice_set s.pending t (without (pending_of s t) d) })) (if-at (λ x. (x.0 ≡ c) × (find (is_to c) (pending_of s t) ≡ Some x)) (find (is_to c) (pending_of s t)) q e (found-to (pending_of s t) c)).0

    pub flush_of_no_cell : IsUnder Pso r → find (is_to c) (pending_of s t) ≡ None → next r p s (FlushCell t c) ≡ None
    unfolding event
    flush_of_no_cell under e = flush_is Pso r p s t (FlushCell t c) under None e

    pub flush_no_cell : IsUnder Tso r → next r p s (FlushCell t c) ≡ None
    unfolding event
    flush_no_cell under = flush_is Tso r p s t (FlushCell t c) under None refl

pub flush_sc : (p : Listing) (s : State) (t c : ℕ) → (next Sc p s (Flush t) ≡ None) × (next Sc p s (FlushCell t c) ≡ None)
unfolding event
flush_sc p s t c = (refl, refl)
