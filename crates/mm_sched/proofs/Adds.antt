-- A run under sequential consistency of a program of one thread, with each store flushed at once, is a run with store
-- buffers.
use Rattle.std.proofs.Common.{arith, ◌≡◌, ℕ, zero, suc, ◌≤◌, ℤ, true, List, [], ◌∷◌, ◌++◌, length, cond, slice_get, Option, Some, None, option_map, refl, sym, ◌∙◌, ap, subst, IfSome, if◌then◌else◌, lt-ltb, eq-eqb}
use Rattle.std.proofs.lemmas.Option.{IfSome_then}
use Rattle.mm_goto.specs.declared.program.Target.{Target}
use Rattle.mm_goto.specs.declared.program.Instr.{Instr}
use Rattle.mm_goto.specs.declared.program.Instr.TheVariants.{Store}
use Rattle.mm_goto.specs.declared.pure.Pure.{Pure}
use Rattle.mm_goto.specs.Bounds.{Bounding, bound_of}
use Rattle.mm_goto.specs.declared.model.Model.{Model}
use Rattle.mm_goto.specs.declared.model.Model.TheVariants.{Tso, Pso}
use Rattle.mm_sched.specs.declared.entry.Entry.{Entry}
use Rattle.mm_sched.specs.declared.entry.Entry.TheVariants.{Step, In, Flush, FlushCell}
use Rattle.mm_sched.specs.declared.entry.Rules.TheVariants.{Sc, Buffered}
use Rattle.mm_sched.specs.declared.entry.How.TheVariants.{Delayed, NotEnabled}
use Rattle.mm_sched.specs.declared.entry.Act.{Act}
use Rattle.mm_sched.specs.declared.entry.Act.TheVariants.{Pushes, Puts}
use Rattle.mm_sched.specs.declared.entry.Event.TheVariants.{Does, Flushes}
use Rattle.mm_sched.specs.Guarded.{◌>>=◌}
use Rattle.mm_goto.specs.Listing.{Listing}
use Rattle.mm_sched.specs.State.{Frame, State, Pending, initial}
use Rattle.mm_sched.specs.Buffer.{part, pends}
use Rattle.mm_sched.specs.Event.{act, acted, after, event, next, fetched, flushed, may_step, cell_of, stored}
use Rattle.mm_goto.specs.Value.{value_of}
use Rattle.mm_sched.specs.Runs.{run, Reaches}
use Rattle.mm_sched.proofs.Steps.{map-if, bind-there, guarded-there}
use Rattle.mm_sched.proofs.Joins.{run-append}
use Rattle.mm_sched.proofs.Quiet.{run-keeps}
use Rattle.mm_sched.proofs.Settled.{loaded}
use Rattle.mm_sched.proofs.Drops.{other-does, starts-empty}

itself : {A : Type 0} (o : Option A) → IfSome o (λ a. o ≡ Some a)
itself None = tt
itself (Some a) = refl

does-one : {A B C : Type 0} (g : B → C) (h : A → B) (o : Option A) → option_map g (o >>= (λ a. Some (h a))) ≡ option_map (λ a. g (h a)) o
does-one g h None = refl
does-one g h (Some a) = refl

-- ---- the flush of the store just made

-- the entry that flushes the store, where no other is pending
abbrev own_flush : Model → ℕ → ℕ → Entry
own_flush Tso t c = Flush t
own_flush Pso t c = FlushCell t c

flush-event : (m : Model) (bound : Bounding) (p : Listing) (s : State) (c : ℕ) (v : ℤ) → event (Buffered m bound) p (acted (loaded s []) 0 (Pushes c v)) (own_flush m 0 c) ≡ Some (Flushes 0 c v)
unfolding event acted
flush-event Tso bound p s c v = refl
flush-event Pso bound p s c v = ap (λ b. ◌>>=◌ {A = Pending} (cond b (Some (c, v)) None) (λ q. Some (Flushes 0 q.0 q.1))) (eq-eqb c c refl)

flush-after : (s : State) (c : ℕ) (v : ℤ) → flushed (acted (loaded s []) 0 (Pushes c v)) 0 c v ≡ acted (loaded s []) 0 (Puts c v)
unfolding flushed acted
flush-after s c v = ap (λ b. record (acted (loaded s []) 0 (Puts c v)) { pending = (if b then [] else (c, v) ∷ []) ∷ [] }) (eq-eqb c c refl)

part-none : (m : Model) (c : ℕ) → length (part m [] c) ≡ 0
part-none Tso c = refl
part-none Pso c = refl

pends-is : (m : Model) (bound : ℕ) → 1 ≤ bound → (c : ℕ) → pends m bound [] c ≡ Delayed
pends-is m bound l c = ap (λ b. if b then Delayed else NotEnabled) (lt-ltb (length (part m [] c)) bound (omega (arith, part-none m c)))

module _ (m : Model) (bound : Bounding) (room : 1 ≤ bound_of bound 0) (p : Listing) (one : length p.threads ≡ 1) (s : State) where
  -- some entries lead from the state with nothing pending to this one
  abbrev pub Leads : State → Type 0
  Leads s' = (es : List Entry) × (run (Buffered m bound) p (loaded s []) es ≡ Some s')

  step-is : (f : Frame) (i : Instr) → slice_get s.threads 0 ≡ Some f → fetched p 0 f.place ≡ Some i → may_step s 0 f ≡ true → next (Buffered m bound) p (loaded s []) (Step 0) ≡ option_map (acted (loaded s []) 0) (act (Buffered m bound) (loaded s []) 0 f i)
  unfolding event
  step-is f i a b c = rw a (rw b (rw c (does-one (after (loaded s [])) (Does 0) (act (Buffered m bound) (loaded s []) 0 f i))))

  flush-next : (c : ℕ) (v : ℤ) → next (Buffered m bound) p (acted (loaded s []) 0 (Pushes c v)) (own_flush m 0 c) ≡ Some (acted (loaded s []) 0 (Puts c v))
  flush-next c v = ap (option_map (after (acted (loaded s []) 0 (Pushes c v)))) (flush-event m bound p s c v) ∙ ap (λ (z : State). Some z) (flush-after s c v)

  store-is : (f : Frame) (target : Target) (e : Pure) (c : ℕ) → cell_of (length s.memory) f.locals target ≡ Some c → act (Buffered m bound) (loaded s []) 0 f (Store target e) ≡ Some (Pushes c (value_of e f.locals))
  unfolding act
  store-is f target e c d = ap (λ (o : Option ℕ). o >>= (λ k. stored (pends m (bound_of bound 0) [] k) k (value_of e f.locals))) d ∙ ap (λ how. stored how c (value_of e f.locals)) (pends-is m (bound_of bound 0) room c)

  abbrev LeadsBy : Act → Type 0
  LeadsBy a = Leads (acted (loaded s []) 0 a)

  store-leads : (f : Frame) (target : Target) (e : Pure) → slice_get s.threads 0 ≡ Some f → fetched p 0 f.place ≡ Some (Store target e) → may_step s 0 f ≡ true → IfSome (act Sc (loaded s []) 0 f (Store target e)) LeadsBy
  unfolding act
  store-leads f target e a b k = bind-there LeadsBy (cell_of (length s.memory) f.locals target) (λ c. Some (Puts c (value_of e f.locals))) (λ c d.
      (Step 0 ∷ own_flush m 0 c ∷ [], rw (step-is f (Store target e) a b k) (rw (store-is f target e c d) (rw (flush-next c (value_of e f.locals)) refl))))

  same-leads : (f : Frame) (i : Instr) → slice_get s.threads 0 ≡ Some f → fetched p 0 f.place ≡ Some i → may_step s 0 f ≡ true → (o : Option Act) → act (Buffered m bound) (loaded s []) 0 f i ≡ o → IfSome o LeadsBy
  same-leads f i a b k o e = IfSome_then o (itself o) (λ z d. (Step 0 ∷ [], rw (step-is f i a b k) (rw (e ∙ d) refl)))

  instr-leads : (f : Frame) (i : Instr) → slice_get s.threads 0 ≡ Some f → fetched p 0 f.place ≡ Some i → may_step s 0 f ≡ true → IfSome (act Sc (loaded s []) 0 f i) LeadsBy
  unfolding act
  instr-leads f (Store target e) a b k = store-leads f target e a b k
  instr-leads f i a b k = same-leads f i a b k (act Sc (loaded s []) 0 f i) refl

  entry-leads : (e : Entry) → IfSome (next Sc p (loaded s []) e) Leads
  unfolding event
  entry-leads (Step zero) = map-if Leads (after (loaded s [])) (event Sc p (loaded s []) (Step 0)) (
      bind-there (λ v. Leads (after (loaded s []) v)) (slice_get s.threads 0) _ (λ f a.
      bind-there (λ v. Leads (after (loaded s []) v)) (fetched p 0 f.place) _ (λ i b.
      guarded-there (λ v. Leads (after (loaded s []) v)) (may_step s 0 f) (act Sc (loaded s []) 0 f i) (λ z. Some (Does 0 z)) (λ k.
      wrapped (act Sc (loaded s []) 0 f i) (instr-leads f i a b k)))))
    where
      wrapped : (o : Option Act) → IfSome o LeadsBy → IfSome (o >>= (λ z. Some (Does 0 z))) (λ v. Leads (after (loaded s []) v))
      wrapped None h = tt
      wrapped (Some z) h = h
  entry-leads (In t v) = IfSome_then (next Sc p (loaded s []) (In t v)) (itself (next Sc p (loaded s []) (In t v))) (λ s' d. (In t v ∷ [], rw d refl))
  entry-leads (Step (suc t)) = rw (other-does p one (loaded s []) t (act Sc (loaded s []) (suc t))) tt
  entry-leads (Flush t) = tt
  entry-leads (FlushCell t c) = tt

-- ---- whole runs

module _ (m : Model) (bound : Bounding) (room : 1 ≤ bound_of bound 0) (p : Listing) (one : length p.threads ≡ 1) where
  -- some entries lead from the one state to the other
  abbrev LeadsFrom : State → State → Type 0
  LeadsFrom s s' = (es : List Entry) × (run (Buffered m bound) p s es ≡ Some s')

  empty-leads : (s : State) → s ≡ loaded s [] → (e : Entry) → IfSome (next Sc p s e) (LeadsFrom s)
  empty-leads s h e = subst (λ (z : State). IfSome (next Sc p z e) (LeadsFrom z)) (sym h) (entry-leads m bound room p one s e)

  run-leads : (es : List Entry) (s last : State) → s ≡ loaded s [] → run Sc p s es ≡ Some last → LeadsFrom s last
  run-leads [] s last h e = ([], e)
  run-leads (x ∷ es) s last h e = go (next Sc p s x) (empty-leads s h x) (run-keeps p s (x ∷ [])) e (λ mid. run-leads es mid last)
    where
      go : (o : Option State) → IfSome o (LeadsFrom s) → IfSome (o >>= (λ mid. Some mid)) (λ mid. mid.pending ≡ s.pending) → (o >>= (λ mid. run Sc p mid es)) ≡ Some last → ((mid : State) → mid ≡ loaded mid [] → run Sc p mid es ≡ Some last → LeadsFrom mid last) → LeadsFrom s last
      go None a b d ih = cc
      go (Some mid) a b d ih =
          let later = ih mid (ap (λ (xs : List (List Pending)). record mid { pending = xs }) (b ∙ ap (λ (z : State). z.pending) h)) d in
          (a.0 ++ later.0, run-append (Buffered m bound) p s a.0 later.0 ∙ ap (λ (o : Option State). o >>= (λ z. run (Buffered m bound) p z later.0)) a.1 ∙ later.1)

  pub adds : (n : ℕ) → Reaches Sc p n → Reaches (Buffered m bound) p n
  adds n h = let r = run-leads h.0 (initial p) h.1.last (starts-empty p one) h.1.runs in (r.0, record { last = h.1.last; runs = r.1; verdict = h.1.verdict })
