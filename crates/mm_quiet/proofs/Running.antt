-- Code that uses locals alone runs as it means, step by step.
use Rattle.std.proofs.Common.{arith, ◌≡◌, ℕ, zero, suc, ◌+◌, ℤ, Bool, true, false, not, ◌&&◌, is_none, if◌then◌else◌, List, [], ◌∷◌, replicate, slice_get, slice_set, Option, Some, None, option_map, refl, sym, ◌∙◌, ap, subst}
use Rattle.std.proofs.lemmas.List.{set-set, replicate-append-replicate}
use Rattle.std.proofs.lemmas.Option.{slice_get_within, get_or_from_slice_get}
use Rattle.mm_goto.specs.Listing.{Listing}
use Rattle.mm_goto.specs.Value.{value_of, is_zero}
use Rattle.mm_goto.specs.declared.pure.Pure.{Pure}
use Rattle.mm_goto.specs.declared.program.Instr.{Instr}
use Rattle.mm_goto.specs.declared.program.Instr.TheVariants.{Set, Load, Store, Input, Jump, Branch, Assert, Assume, Fence, Lock, Unlock, Add, Cas, Start, Join, AtomBegin, AtomEnd, End}
use Rattle.mm_sched.specs.declared.entry.Act.{Act}
use Rattle.mm_sched.specs.declared.entry.Act.TheVariants.{Goes, Assigns, Fails}
use Rattle.mm_sched.specs.declared.entry.Entry.TheVariants.{Step}
use Rattle.mm_sched.specs.declared.entry.Event.TheVariants.{Does}
use Rattle.mm_sched.specs.declared.entry.Rules.TheVariants.{Sc}
use Rattle.mm_sched.specs.Event.{event, next, after, acted, act as machine_act, moved, may_step, is_open_to}
use Rattle.mm_sched.specs.Guarded.{◌>>=◌, guarded}
use Rattle.mm_sched.specs.Runs.{run}
use Rattle.mm_sched.specs.State.{Frame, State, frame_of, idle}
use Rattle.mm_sched.proofs.Joins.{run-append}
use Rattle.mm_flow.specs.Flow.{Flow, Empty, Do, Then, When, Either, While, DoWhile, For, Body, Leave, Mark, Goto, Ways, size}
use Rattle.mm_meaning.specs.Acting.{act, let_local}
use Rattle.mm_meaning.specs.Inside.{frame}
use Rattle.mm_meaning.specs.Meaning.{View, Outcome, Done, Failed, Halted, Left, Other, meaning, pick, then_do}
use Rattle.mm_meaning.specs.Sections.{HasCode}
use Rattle.mm_meaning.specs.Standing.{Stands}
use Rattle.mm_meaning.proofs.Machine.{get-set}
use Rattle.mm_quiet.specs.Quietly.{IsLocal, IsQuiet, Quietly}

same_done : (v u : View) → Done v ≡ Done u → v ≡ u
same_done v u e = cc

-- a value that is not 0, or is
picked : (b : Bool) (v u : View) (o : Outcome) → pick b o (Done v) ≡ Done u → (o ≡ Done u → ⊥) → (b ≡ false) × (v ≡ u)
picked true v u o e n = absurd (n e)
picked false v u o e n = (refl, same_done v u e)

put_same : (xs : List Frame) (t : ℕ) (f : Frame) → slice_get xs t ≡ Some f → slice_set xs t f ≡ xs
put_same [] t f e = refl
put_same (x ∷ xs) zero f e = ap (λ y. y ∷ xs) (same e)
  where
    same : Some x ≡ Some f → f ≡ x
    same q = cc
put_same (x ∷ xs) (suc t) f e = ap (λ ys. x ∷ ys) (put_same xs t f e)

mapped : (s : State) (t : ℕ) (o : Option Act) → option_map (after s) (o >>= λ a. Some (Does t a)) ≡ option_map (acted s t) o
mapped s t None = refl
mapped s t (Some a) = refl

-- the first of two parts comes to its end
first_done : (o : Outcome) (go : View → Outcome) (u : View) → then_do o go ≡ Done u → (w : View) × (o ≡ Done w) × (go w ≡ Done u)
first_done (Done w) go u e = (w, refl, e)
first_done (Left y w) go u e = cc
first_done (Failed n) go u e = cc
first_done Halted go u e = cc
first_done Other go u e = cc

module _ (p : Listing) (t : ℕ) where
  -- no step
  stays : (f : Frame) → Quietly p t 0 f f
  stays f s at section verdict = ap (λ (fs : List Frame). Some (record s { threads = fs })) (sym (put_same s.threads t f at))

  -- some steps, and more behind them
  joined : (a b : ℕ) (f g h : Frame) → Quietly p t a f g → Quietly p t b g h → Quietly p t (a + b) f h
  joined a b f g h q r s at section verdict =
      ap (run Sc p s) (sym (replicate-append-replicate a b (Step t)))
      ∙ run-append Sc p s (replicate a (Step t)) (replicate b (Step t))
      ∙ ap (λ (o : Option State). o >>= λ m. run Sc p m (replicate b (Step t))) (q s at section verdict)
      ∙ r (moved s t g) (get-set s.threads t g (slice_get_within s.threads t f at)) section verdict
      ∙ ap (λ (fs : List Frame). Some (record s { threads = fs })) (set-set s.threads t g h)

  module _ (code : List Instr) (is_code : HasCode p t code) where
    -- a thread that runs may step
    may : (s : State) (k : ℕ) (v : View) → is_open_to t s.section ≡ true → s.verdict ≡ None → may_step s t (frame k v) ≡ true
    may s k v section verdict = nothing_failed s.verdict verdict
      where
        nothing_failed : (x : Option ℕ) → x ≡ None → (is_none x && is_open_to t s.section) ≡ true
        nothing_failed None e = section
        nothing_failed (Some n) e = cc

    -- one step of the thread
    step_is : (k : ℕ) (v : View) (i : Instr) → slice_get code k ≡ Some i → (s : State) → slice_get s.threads t ≡ Some (frame k v) → is_open_to t s.section ≡ true → s.verdict ≡ None
        → next Sc p s (Step t) ≡ option_map (acted s t) (machine_act Sc s t (frame k v) i)
    unfolding event
    step_is k v i h s at section verdict = rw at (rw (is_code k) (rw h (
        ap (λ (b : Bool). option_map (after s) (guarded b (machine_act Sc s t (frame k v) i) >>= λ a. Some (Does t a))) (may s k v section verdict)
        ∙ mapped s t (machine_act Sc s t (frame k v) i))))

    one : (k : ℕ) (v : View) (i : Instr) (g : Frame) → slice_get code k ≡ Some i → ((s : State) → slice_get s.threads t ≡ Some (frame k v) → option_map (acted s t) (machine_act Sc s t (frame k v) i) ≡ Some (moved s t g)) → Quietly p t 1 (frame k v) g
    one k v i g h does s at section verdict = ap (λ (o : Option State). o >>= λ m. Some m) (step_is k v i h s at section verdict ∙ does s at)

    own : (s : State) (f : Frame) → slice_get s.threads t ≡ Some f → frame_of s t ≡ f
    own s f at = get_or_from_slice_get s.threads t f idle at

    assigns : (k l : ℕ) (z : ℤ) (v : View) (s : State) → slice_get s.threads t ≡ Some (frame k v) → Some (acted s t (Assigns l z)) ≡ Some (moved s t (frame (k + 1) (let_local v l z)))
    unfolding acted
    assigns k l z v s at = ap (λ (f : Frame). Some (moved s t (record f { place = f.place + 1; locals = slice_set f.locals l z }))) (own s (frame k v) at)

    goes : (k j : ℕ) (v : View) (s : State) → slice_get s.threads t ≡ Some (frame k v) → Some (acted s t (Goes j)) ≡ Some (moved s t (frame j v))
    unfolding acted
    goes k j v s at = ap (λ (f : Frame). Some (moved s t (record f { place = j }))) (own s (frame k v) at)

    -- ---- instructions

    sets : (k l : ℕ) (e : Pure) (v : View) → slice_get code k ≡ Some (Set l e) → Quietly p t 1 (frame k v) (frame (k + 1) (let_local v l (value_of e v.locals)))
    unfolding machine_act
    sets k l e v h = one k v (Set l e) (frame (k + 1) (let_local v l (value_of e v.locals))) h (λ s at. assigns k l (value_of e v.locals) v s at)

    asserts : (k n : ℕ) (e : Pure) (v : View) → slice_get code k ≡ Some (Assert e n) → is_zero (value_of e v.locals) ≡ false → Quietly p t 1 (frame k v) (frame (k + 1) v)
    unfolding machine_act
    asserts k n e v h z = one k v (Assert e n) (frame (k + 1) v) h (λ s at. ap (λ b. Some (acted s t (if b then Fails n else Goes (k + 1)))) z ∙ goes k (k + 1) v s at)

    assumes : (k : ℕ) (e : Pure) (v : View) → slice_get code k ≡ Some (Assume e) → is_zero (value_of e v.locals) ≡ false → Quietly p t 1 (frame k v) (frame (k + 1) v)
    unfolding machine_act
    assumes k e v h z = one k v (Assume e) (frame (k + 1) v) h (λ s at. ap (λ b. option_map (acted s t) (guarded (not b) (Some (Goes (k + 1))))) z ∙ goes k (k + 1) v s at)

    jumps : (k j : ℕ) (v : View) → slice_get code k ≡ Some (Jump j) → Quietly p t 1 (frame k v) (frame j v)
    unfolding machine_act
    jumps k j v h = one k v (Jump j) (frame j v) h (λ s at. goes k j v s at)

    branches : (k j : ℕ) (e : Pure) (v : View) (b : Bool) → slice_get code k ≡ Some (Branch e j) → is_zero (value_of e v.locals) ≡ b → Quietly p t 1 (frame k v) (frame (if b then j else k + 1) v)
    unfolding machine_act
    branches k j e v b h z = one k v (Branch e j) (frame (if b then j else k + 1) v) h (λ s at. ap (λ c. Some (acted s t (Goes (if c then j else k + 1)))) z ∙ goes k (if b then j else k + 1) v s at)

    -- ---- code

    abbrev Ran : ℕ → View → ℕ → View → Type 0
    Ran k v j u = (steps : ℕ) × Quietly p t steps (frame k v) (frame j u) × (u.memory ≡ v.memory) × (u.inputs ≡ v.inputs)

    ran_on : (k i j : ℕ) (a b c : View) → Ran k a i b → Ran i b j c → Ran k a j c
    ran_on k i j a b c f g = (f.0 + g.0, joined f.0 g.0 (frame k a) (frame i b) (frame j c) f.1 g.1, g.2 ∙ f.2, g.3 ∙ f.3)

    ran_at : (k i j : ℕ) (a b c : View) → i ≡ j → b ≡ c → Ran k a i b → Ran k a j c
    ran_at k i j a b c e h r = subst (λ w. Ran k a j w) h (subst (λ n. Ran k a n b) e r)

    abbrev Runs : Flow → Type 0
    Runs f = (x : Ways) (n k : ℕ) (v u : View) → Stands code x f k → meaning act f n v ≡ Done u → Ran k v (k + size f) u

    local_runs : (i : Instr) → IsLocal i → (k : ℕ) (v u : View) → slice_get code k ≡ Some i → act i v ≡ Done u → Ran k v (k + 1) u
    local_runs (Set l e) h k v u at e2 = ran_at k (k + 1) (k + 1) v (let_local v l (value_of e v.locals)) u refl (same_done (let_local v l (value_of e v.locals)) u e2) (1, sets k l e v at, refl, refl)
    local_runs (Assert e m) h k v u at e2 = let q = picked (is_zero (value_of e v.locals)) v u (Failed m) e2 (λ z. failed z) in ran_at k (k + 1) (k + 1) v v u refl q.1 (1, asserts k m e v at q.0, refl, refl)
      where
        failed : Failed m ≡ Done u → ⊥
        failed z = cc
    local_runs (Assume e) h k v u at e2 = let q = picked (is_zero (value_of e v.locals)) v u Halted e2 (λ z. halted z) in ran_at k (k + 1) (k + 1) v v u refl q.1 (1, assumes k e v at q.0, refl, refl)
      where
        halted : Halted ≡ Done u → ⊥
        halted z = cc
    local_runs (Load l a) h k v u at e2 = absurd h
    local_runs (Store a e) h k v u at e2 = absurd h
    local_runs (Input l) h k v u at e2 = absurd h
    local_runs (Jump j) h k v u at e2 = absurd h
    local_runs (Branch e j) h k v u at e2 = absurd h
    local_runs Fence h k v u at e2 = absurd h
    local_runs (Lock m) h k v u at e2 = absurd h
    local_runs (Unlock m) h k v u at e2 = absurd h
    local_runs (Add l a e) h k v u at e2 = absurd h
    local_runs (Cas l a e f) h k v u at e2 = absurd h
    local_runs (Start w) h k v u at e2 = absurd h
    local_runs (Join w) h k v u at e2 = absurd h
    local_runs AtomBegin h k v u at e2 = absurd h
    local_runs AtomEnd h k v u at e2 = absurd h
    local_runs End h k v u at e2 = absurd h

    pub quiet_runs : (f : Flow) → IsQuiet f → Runs f
    quiet_runs Empty h x n k v u stands e = ran_at k k (k + 0) v v u (omega arith) (same_done v u e) (0, stays (frame k v), refl, refl)
    quiet_runs (Mark y) h x n k v u stands e = ran_at k k (k + 0) v v u (omega arith) (same_done v u e) (0, stays (frame k v), refl, refl)
    quiet_runs (Do at i) h x n k v u stands e = local_runs i h k v u stands e
    quiet_runs (Then a b) h x n k v u stands e =
        let w = first_done (meaning act a n v) (meaning act b n) u e in
        ran_at k ((k + size a) + size b) (k + (size a + size b)) v u u (omega arith) refl
        (ran_on k (k + size a) ((k + size a) + size b) v w.0 u (quiet_runs a h.0 x n k v w.0 stands.0 w.1) (quiet_runs b h.1 x n (k + size a) w.0 u stands.1 w.2))
    quiet_runs (When at c a) h x n k v u stands e = by (is_zero (value_of c v.locals)) refl e (quiet_runs a h x n (k + 1) v u stands.1)
      where
        by : (b : Bool) → is_zero (value_of c v.locals) ≡ b → pick b (Done v) (meaning act a n v) ≡ Done u → (meaning act a n v ≡ Done u → Ran (k + 1) v ((k + 1) + size a) u) → Ran k v (k + (1 + size a)) u
        by true z q more = ran_at k (k + 1 + size a) (k + (1 + size a)) v v u (omega arith) (same_done v u q) (1, branches k (k + 1 + size a) c v true stands.0 z, refl, refl)
        by false z q more = ran_at k ((k + 1) + size a) (k + (1 + size a)) v u u (omega arith) refl (ran_on k (k + 1) ((k + 1) + size a) v v u (1, branches k (k + 1 + size a) c v false stands.0 z, refl, refl) (more q))
    quiet_runs (Either at c a b) h x n k v u stands e = by (is_zero (value_of c v.locals)) refl e (quiet_runs a h.0 x n (k + 1) v u stands.1) (quiet_runs b h.1 x n (k + 1 + size a + 1) v u stands.3)
      where
        by : (z : Bool) → is_zero (value_of c v.locals) ≡ z → pick z (meaning act b n v) (meaning act a n v) ≡ Done u
            → (meaning act a n v ≡ Done u → Ran (k + 1) v ((k + 1) + size a) u) → (meaning act b n v ≡ Done u → Ran (k + 1 + size a + 1) v ((k + 1 + size a + 1) + size b) u) → Ran k v (k + size (Either at c a b)) u
        by true z q first second = ran_at k ((k + 1 + size a + 1) + size b) (k + size (Either at c a b)) v u u (omega arith) refl
            (ran_on k (k + 1 + size a + 1) ((k + 1 + size a + 1) + size b) v v u (1, branches k (k + 1 + size a + 1) c v true stands.0 z, refl, refl) (second q))
        by false z q first second = ran_at k ((k + 1 + size a + 1) + size b) (k + size (Either at c a b)) v u u (omega arith) refl
            (ran_on k (k + 1) ((k + 1 + size a + 1) + size b) v v u (1, branches k (k + 1 + size a + 1) c v false stands.0 z, refl, refl)
            (ran_on (k + 1) (k + 1 + size a) ((k + 1 + size a + 1) + size b) v u u (first q) (1, jumps (k + 1 + size a) ((k + 1 + size a + 1) + size b) u stands.2, refl, refl)))
    quiet_runs (While at c e a) h x n k v u stands g = absurd h
    quiet_runs (DoWhile at a c e) h x n k v u stands g = absurd h
    quiet_runs (For at c e a j) h x n k v u stands g = absurd h
    quiet_runs (Body names a) h x n k v u stands g = absurd h
    quiet_runs (Leave at w) h x n k v u stands g = absurd h
    quiet_runs (Goto at y) h x n k v u stands g = absurd h
