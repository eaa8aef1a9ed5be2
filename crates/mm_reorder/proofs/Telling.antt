-- What an act that is enabled tells of the state.
use Rattle.std.proofs.Common.{◌≡◌, ℕ, ℤ, pos, length, Option, Some, None, refl, Bool, true, false, not, IfSome, sym, ◌∙◌, ap, nat_lt, ltb-true, eqb-true, slice_get, if◌then◌else◌}
use Rattle.std.specs.Prelude.{◌&&◌}
use Rattle.std.specs.List.{All}
use Rattle.std.specs.Int.{w32, int_wrapping_add}
use Rattle.std.proofs.lemmas.Bool.{and_parts, not-true, false≢true}
use Rattle.mm_goto.specs.Bounds.{Bounding, bound_of}
use Rattle.mm_goto.specs.declared.model.Model.{Model}
use Rattle.mm_goto.specs.declared.program.Instr.{Instr}
use Rattle.mm_goto.specs.declared.program.Instr.TheVariants.{Set, Load, Store, Input, Jump, Branch, Assert, Assume, Fence, Lock, Unlock, Add, Cas, Start, Join, AtomBegin, AtomEnd, End}
use Rattle.mm_goto.specs.declared.program.Thread.{Thread}
use Rattle.mm_goto.specs.Listing.{Listing}
use Rattle.mm_goto.specs.Sourcelike.{is_section}
use Rattle.mm_goto.specs.Value.{value_of, is_zero}
use Rattle.mm_sched.specs.declared.entry.Rules.TheVariants.{Buffered}
use Rattle.mm_sched.specs.declared.entry.How.TheVariants.{Delayed, NotEnabled}
use Rattle.mm_sched.specs.declared.entry.Act.{Act}
use Rattle.mm_sched.specs.declared.entry.Act.TheVariants.{Goes, Assigns, Fails, Loads, Pushes, Fences, Gives, Updates, Misses, Starts, Joins}
use Rattle.mm_sched.specs.Guarded.{◌>>=◌, guarded}
use Rattle.mm_sched.specs.Sections.{HasNoSection}
use Rattle.mm_sched.specs.State.{Frame, State, pending_of, at_cell}
use Rattle.mm_sched.specs.Buffer.{is_empty, part, seen, pends}
use Rattle.mm_sched.specs.Event.{cell_of, stored, locked, unlocked, begun, joined, is_owner, is_same, fetched, act, input}
use Rattle.mm_sched.proofs.Steps.{bind-if}
use Rattle.mm_sched.proofs.Within.{All-get}
use Rattle.mm_reorder.proofs.Acting.{Tells}

module _ (m : Model) (bound : Bounding) (s : State) (t : ℕ) where
  abbrev Told : Act → Type 0
  Told = Tells m bound s t

  guarded_tells : (b : Bool) (x : Option Act) → (b ≡ true → IfSome x Told) → IfSome (guarded b x) Told
  guarded_tells true x h = h refl
  guarded_tells false x h = tt

  pends_tells : (b : Bool) (c : ℕ) (v : ℤ) → (b ≡ true → Told (Pushes c v)) → IfSome (stored (if b then Delayed else NotEnabled) c v) Told
  pends_tells true c v h = h refl
  pends_tells false c v h = tt

  locked_tells : (o : Option (Option ℕ)) (k : ℕ) → slice_get s.owners k ≡ o → is_empty (pending_of s t) ≡ true → IfSome (locked o k) Told
  locked_tells None k e d = tt
  locked_tells (Some None) k e d = (d, e)
  locked_tells (Some (Some u)) k e d = tt

  unlocked_tells : (o : Option (Option ℕ)) (k : ℕ) → slice_get s.owners k ≡ o → is_empty (pending_of s t) ≡ true → IfSome (unlocked o t k) Told
  unlocked_tells None k e d = tt
  unlocked_tells (Some None) k e d = tt
  unlocked_tells (Some (Some u)) k e d = guarded_tells (is_owner t (Some u)) (Some (Gives k)) (λ b. (d, e ∙ ap (λ w. Some (Some w)) (eqb-true u t b)))

  begun_tells : (o : Option Frame) (u : ℕ) → slice_get s.threads u ≡ o → is_empty (pending_of s t) ≡ true → IfSome (begun o u) Told
  begun_tells None u e d = tt
  begun_tells (Some g) u e d = guarded_tells (not g.started) (Some (Starts u)) (λ b. (d, (g, e, not-true g.started b)))

  joined_tells : (o : Option Frame) (u : ℕ) → slice_get s.threads u ≡ o → is_empty (pending_of s t) ≡ true → IfSome (joined o (is_empty (pending_of s u)) u) Told
  joined_tells None u e d = tt
  joined_tells (Some g) u e d = guarded_tells (g.ended && is_empty (pending_of s u)) (Some (Joins u)) (λ b. let q = and_parts g.ended (is_empty (pending_of s u)) b in (d, q.1, (g, e, q.0)))

  matched : (l c : ℕ) (w : ℤ) (b : Bool) → is_empty (pending_of s t) ≡ true → Told (if b then Updates l (pos 1) c w else Misses l c)
  matched l c w true e = e
  matched l c w false e = e

  asserted : (b : Bool) (n k : ℕ) → Told (if b then Fails n else Goes k)
  asserted true n k = tt
  asserted false n k = tt

  pub act_tells : (f : Frame) (i : Instr) → is_section i ≡ false → IfSome (act (Buffered m bound) s t f i) Told
  unfolding act
  act_tells f (Set l e) n = tt
  act_tells f (Load l target) n = bind-if Told (cell_of (length s.memory) f.locals target) (λ c. Some (Loads l c (seen s t c))) (λ c. tt)
  act_tells f (Store target e) n = bind-if Told (cell_of (length s.memory) f.locals target) (λ c. stored (pends m (bound_of bound t) (pending_of s t) c) c (value_of e f.locals)) (λ c. pends_tells (nat_lt (length (part m (pending_of s t) c)) (bound_of bound t)) c (value_of e f.locals) (λ b. ltb-true (length (part m (pending_of s t) c)) (bound_of bound t) b))
  act_tells f (Input l) n = tt
  act_tells f (Jump k) n = tt
  act_tells f (Branch e k) n = tt
  act_tells f (Assert e k) n = asserted (is_zero (value_of e f.locals)) k _
  act_tells f (Assume e) n = guarded_tells (not (is_zero (value_of e f.locals))) (Some (Goes _)) (λ b. tt)
  act_tells f Fence n = guarded_tells (is_empty (pending_of s t)) (Some Fences) (λ b. b)
  act_tells f (Lock k) n = guarded_tells (is_empty (pending_of s t)) (locked (slice_get s.owners k) k) (λ b. locked_tells (slice_get s.owners k) k refl b)
  act_tells f (Unlock k) n = guarded_tells (is_empty (pending_of s t)) (unlocked (slice_get s.owners k) t k) (λ b. unlocked_tells (slice_get s.owners k) k refl b)
  act_tells f (Add l target e) n = guarded_tells (is_empty (pending_of s t)) (cell_of (length s.memory) f.locals target >>= (λ c. Some (Updates l (at_cell s c) c (int_wrapping_add w32 (at_cell s c) (value_of e f.locals))))) (λ b. bind-if Told (cell_of (length s.memory) f.locals target) (λ c. Some (Updates l (at_cell s c) c (int_wrapping_add w32 (at_cell s c) (value_of e f.locals)))) (λ c. b))
  act_tells f (Cas l target e g) n = guarded_tells (is_empty (pending_of s t)) (cell_of (length s.memory) f.locals target >>= (λ c. Some (if is_same (at_cell s c) (value_of e f.locals) then Updates l (pos 1) c (value_of g f.locals) else Misses l c))) (λ b. bind-if Told (cell_of (length s.memory) f.locals target) (λ c. Some (if is_same (at_cell s c) (value_of e f.locals) then Updates l (pos 1) c (value_of g f.locals) else Misses l c)) (λ c. matched l c (value_of g f.locals) (is_same (at_cell s c) (value_of e f.locals)) b))
  act_tells f (Start u) n = guarded_tells (is_empty (pending_of s t)) (begun (slice_get s.threads u) u) (λ b. begun_tells (slice_get s.threads u) u refl b)
  act_tells f (Join u) n = guarded_tells (is_empty (pending_of s t)) (joined (slice_get s.threads u) (is_empty (pending_of s u)) u) (λ b. joined_tells (slice_get s.threads u) u refl b)
  act_tells f AtomBegin n = absurd (false≢true (sym n))
  act_tells f AtomEnd n = absurd (false≢true (sym n))
  act_tells f End n = tt

  pub input_tells : (i : Instr) (v : ℤ) → IfSome (input i v) Told
  input_tells (Input l) v = guarded_tells _ (Some (Assigns l v)) (λ b. tt)
  input_tells _ v = tt

-- an instruction that is fetched begins and ends no section
pub no_section : (p : Listing) (t k : ℕ) (i : Instr) → HasNoSection p → fetched p t k ≡ Some i → is_section i ≡ false
no_section p t k i h e = go (slice_get p.threads t) (All-get (λ (thread : Thread). All (λ j. is_section j ≡ false) thread.code) p.threads t h) e
  where
    code : (o : Option Instr) → IfSome o (λ j. is_section j ≡ false) → o ≡ Some i → is_section i ≡ false
    code None q d = cc
    code (Some j) q d = let same : j ≡ i = cc in ap is_section (sym same) ∙ q

    go : (o : Option Thread) → IfSome o (λ thread. All (λ j. is_section j ≡ false) thread.code) → (o >>= λ thread. slice_get thread.code k) ≡ Some i → is_section i ≡ false
    go None q d = cc
    go (Some thread) q d = code (slice_get thread.code k) (All-get (λ j. is_section j ≡ false) thread.code k q) d
