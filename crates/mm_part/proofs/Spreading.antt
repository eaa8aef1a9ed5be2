-- A run with partial buffers, where behind each store outside the set stands its flush, is a run with store buffers.
use Rattle.std.proofs.Common.{arith, ◌≡◌, ℕ, zero, suc, ◌<◌, ◌≤◌, ℤ, Bool, true, false, List, [], ◌∷◌, ◌++◌, length, reverse, cond, slice_get, slice_set, slice_index_or, Option, Some, None, option_map, refl, sym, ◌∙◌, ap, IfSome, if◌then◌else◌, lt-ltb, eq-eqb}
use Rattle.std.specs.Prelude.{filter, find}
use Rattle.std.specs.List.{filter_map}
use mathlib.Core.List.{reverse-cons}
use Rattle.std.proofs.lemmas.Option.{IfSome_then, slice_get_within}
use Rattle.std.proofs.lemmas.List.{get_or-set_same, set-set, reverse-append}
use Rattle.std.proofs.lemmas.List.Elements.{filter_map-append}
use Rattle.mm_goto.specs.declared.program.Target.{Target}
use Rattle.mm_goto.specs.declared.program.Instr.{Instr}
use Rattle.mm_goto.specs.declared.program.Instr.TheVariants.{Store}
use Rattle.mm_goto.specs.declared.pure.Pure.{Pure}
use Rattle.mm_goto.specs.Bounds.{Bounding, bound_of}
use Rattle.mm_goto.specs.declared.model.Model.{Model}
use Rattle.mm_goto.specs.declared.model.Model.TheVariants.{Tso, Pso}
use Rattle.mm_goto.specs.Listing.{Listing}
use Rattle.mm_goto.specs.Value.{value_of}
use Rattle.mm_sched.specs.declared.entry.Entry.{Entry}
use Rattle.mm_sched.specs.declared.entry.Entry.TheVariants.{Step, In, Flush, FlushCell}
use Rattle.mm_sched.specs.declared.entry.Rules.{Rules}
use Rattle.mm_sched.specs.declared.entry.Rules.TheVariants.{Buffered, Partial}
use Rattle.mm_sched.specs.declared.entry.How.TheVariants.{AtOnce, Delayed, NotEnabled}
use Rattle.mm_sched.specs.declared.entry.Act.{Act}
use Rattle.mm_sched.specs.declared.entry.Act.TheVariants.{Pushes, Puts}
use Rattle.mm_sched.specs.declared.entry.Event.TheVariants.{Does, Flushes}
use Rattle.mm_sched.specs.Guarded.{◌>>=◌}
use Rattle.mm_sched.specs.State.{Frame, State, Pending, pending_of}
use Rattle.mm_sched.specs.Buffer.{is_empty, is_in, is_to, part, pends, without}
use Rattle.mm_sched.specs.Event.{act, acted, after, event, next, fetched, flushed, may_step, cell_of, stored}
use Rattle.mm_sched.specs.Invariant.{Fits}
use Rattle.mm_sched.specs.Runs.{run, step_of, failing_thread}
use Rattle.mm_sched.proofs.Steps.{map-if, bind-there, guarded-there}
use Rattle.mm_sched.proofs.Joins.{run-append}
use Rattle.mm_sched.proofs.Fitting.{next_fits}

itself : {A : Type 0} (o : Option A) → IfSome o (λ a. o ≡ Some a)
itself None = tt
itself (Some a) = refl

does_one : {A B C : Type 0} (g : B → C) (h : A → B) (o : Option A) → option_map g (o >>= (λ a. Some (h a))) ≡ option_map (λ a. g (h a)) o
does_one g h None = refl
does_one g h (Some a) = refl

-- ---- the pending stores, where none that counts is there

empty_length : {A : Type 0} (xs : List A) → is_empty xs ≡ true → length xs ≡ 0
empty_length [] e = refl
empty_length (x ∷ xs) e = cc

-- none is to the cell
none_to : (m : Model) (ps : List Pending) (c : ℕ) → is_empty (part m ps c) ≡ true → is_empty (filter (is_to c) ps) ≡ true
none_to Tso [] c e = refl
none_to Tso (q ∷ ps) c e = cc
none_to Pso ps c e = e

-- a store to it that comes last is found, and without it the others are left
found_last : (ps : List Pending) (c : ℕ) (v : ℤ) → is_empty (filter (is_to c) ps) ≡ true → find (is_to c) (ps ++ (c, v) ∷ []) ≡ Some (c, v)
found_last [] c v e = ap (λ b. cond b (Some (c, v)) None) (eq-eqb c c refl)
found_last (q ∷ ps) c v e = by (is_to c q) e (found_last ps c v)
  where
    by : (b : Bool) → is_empty (cond b (q ∷ filter (is_to c) ps) (filter (is_to c) ps)) ≡ true → (is_empty (filter (is_to c) ps) ≡ true → find (is_to c) (ps ++ (c, v) ∷ []) ≡ Some (c, v)) → cond b (Some q) (find (is_to c) (ps ++ (c, v) ∷ [])) ≡ Some (c, v)
    by true h more = cc
    by false h more = more h

left_without : (ps : List Pending) (c : ℕ) (v : ℤ) → is_empty (filter (is_to c) ps) ≡ true → without (ps ++ (c, v) ∷ []) c ≡ ps
left_without [] c v e = ap (λ b. if b then [] else (c, v) ∷ []) (eq-eqb c c refl)
left_without (q ∷ ps) c v e = by (is_to c q) e (left_without ps c v)
  where
    by : (b : Bool) → is_empty (cond b (q ∷ filter (is_to c) ps) (filter (is_to c) ps)) ≡ true → (is_empty (filter (is_to c) ps) ≡ true → without (ps ++ (c, v) ∷ []) c ≡ ps) → (if b then ps ++ (c, v) ∷ [] else q ∷ without (ps ++ (c, v) ∷ []) c) ≡ q ∷ ps
    by true h more = cc
    by false h more = ap (λ xs. q ∷ xs) (more h)

-- what stands at a place, put there again
put_again : {A : Type 0} (xs : List A) (t : ℕ) (d : A) → slice_set xs t (slice_index_or xs t d) ≡ xs
put_again [] t d = refl
put_again (x ∷ xs) zero d = refl
put_again (x ∷ xs) (suc t) d = ap (λ ys. x ∷ ys) (put_again xs t d)

module _ (m : Model) (bound : Bounding) (room : 1 ≤ bound) (set : List (List Bool)) (p : Listing) where
  abbrev Part : Rules
  Part = Partial m bound set

  abbrev Full : Rules
  Full = Buffered m bound

  -- the entry that flushes the store just made
  abbrev own_flush : Model → ℕ → ℕ → Entry
  own_flush Tso t c = Flush t
  own_flush Pso t c = FlushCell t c

  -- entries with the steps of these lead with store buffers from the one state to the other
  pub record Spread (s : State) (es : List Entry) (last : State) : Type 0 where
    pub entries : List Entry
    pub goes : run Full p s entries ≡ Some last
    pub steps : filter_map step_of entries ≡ filter_map step_of es

  module _ (s : State) (t : ℕ) (there : t < length s.pending) where
    abbrev pending : List Pending
    pending = pending_of s t

    -- the list of the thread behind its store
    behind_store : (c : ℕ) (v : ℤ) → pending_of (acted s t (Pushes c v)) t ≡ pending ++ (c, v) ∷ []
    unfolding acted
    behind_store c v = get_or-set_same s.pending t (pending ++ (c, v) ∷ []) [] there

    flush_event : (c : ℕ) (v : ℤ) → is_empty (part m pending c) ≡ true → event Full p (acted s t (Pushes c v)) (own_flush m t c) ≡ Some (Flushes t c v)
    unfolding event
    flush_event c v e = by m e
      where
        first : (ps : List Pending) → is_empty ps ≡ true → slice_get (ps ++ (c, v) ∷ []) 0 ≡ Some (c, v)
        first [] h = refl
        first (q ∷ ps) h = cc

        by : (n : Model) → is_empty (part n pending c) ≡ true → event (Buffered n bound) p (acted s t (Pushes c v)) (own_flush n t c) ≡ Some (Flushes t c v)
        by Tso h = ap (λ ps. ◌>>=◌ {A = Pending} (slice_get ps 0) (λ q. Some (Flushes t q.0 q.1))) (behind_store c v) ∙ ap (λ o. ◌>>=◌ {A = Pending} o (λ q. Some (Flushes t q.0 q.1))) (first pending h)
        by Pso h = ap (λ ps. ◌>>=◌ {A = Pending} (find (is_to c) ps) (λ q. Some (Flushes t q.0 q.1))) (behind_store c v) ∙ ap (λ o. ◌>>=◌ {A = Pending} o (λ q. Some (Flushes t q.0 q.1))) (found_last pending c v h)

    -- the store and its flush at once are a store to memory
    flush_after : (c : ℕ) (v : ℤ) → is_empty (part m pending c) ≡ true → flushed (acted s t (Pushes c v)) t c v ≡ acted s t (Puts c v)
    unfolding flushed acted
    flush_after c v e =
        ap (λ (lists : List (List Pending)). record (acted s t (Puts c v)) { pending = lists })
        (ap (λ ps. slice_set (slice_set s.pending t (pending ++ (c, v) ∷ [])) t (without ps c)) (behind_store c v)
        ∙ ap (slice_set (slice_set s.pending t (pending ++ (c, v) ∷ [])) t) (left_without pending c v (none_to m pending c e))
        ∙ set-set s.pending t (pending ++ (c, v) ∷ []) pending
        ∙ put_again s.pending t [])

    flush_next : (c : ℕ) (v : ℤ) → is_empty (part m pending c) ≡ true → next Full p (acted s t (Pushes c v)) (own_flush m t c) ≡ Some (acted s t (Puts c v))
    flush_next c v e = ap (option_map (after (acted s t (Pushes c v)))) (flush_event c v e) ∙ ap (λ (z : State). Some z) (flush_after c v e)

    pends_is : (c : ℕ) → is_empty (part m pending c) ≡ true → pends m (bound_of bound t) pending c ≡ Delayed
    pends_is c e = ap (λ b. if b then Delayed else NotEnabled) (lt-ltb (length (part m pending c)) bound (let n = empty_length (part m pending c) e in omega (arith, n, room)))

    abbrev LeadsBy : Act → Type 0
    LeadsBy a = Spread s (Step t ∷ []) (acted s t a)

    module _ (f : Frame) (i : Instr) (at : slice_get s.threads t ≡ Some f) (code : fetched p t f.place ≡ Some i) (may : may_step s t f ≡ true) where
      step_is : next Full p s (Step t) ≡ option_map (acted s t) (act Full s t f i)
      unfolding event
      step_is = rw at (rw code (rw may (does_one (after s) (Does t) (act Full s t f i))))

      same_leads : (o : Option Act) → act Full s t f i ≡ o → IfSome o LeadsBy
      same_leads o e = IfSome_then o (itself o) (λ z d. record { entries = Step t ∷ []; goes = rw step_is (rw (e ∙ d) refl); steps = refl })

    module _ (f : Frame) (target : Target) (e : Pure) (at : slice_get s.threads t ≡ Some f) (code : fetched p t f.place ≡ Some (Store target e)) (may : may_step s t f ≡ true) where
      abbrev value : ℤ
      value = value_of e f.locals

      store_leads : IfSome (act Part s t f (Store target e)) LeadsBy
      unfolding act
      store_leads = bind-there LeadsBy (cell_of (length s.memory) f.locals target) _ (λ c d. by (is_in set t f.place) c d)
        where
          full : (c : ℕ) → cell_of (length s.memory) f.locals target ≡ Some c → act Full s t f (Store target e) ≡ stored (pends m (bound_of bound t) pending c) c value
          full c d = ap (λ (o : Option ℕ). o >>= (λ k. stored (pends m (bound_of bound t) pending k) k value)) d

          direct : (c : ℕ) → cell_of (length s.memory) f.locals target ≡ Some c → (b : Bool) → is_empty (part m pending c) ≡ b → IfSome (stored (if b then AtOnce else NotEnabled) c value) LeadsBy
          direct c d true h = record {
            entries = Step t ∷ own_flush m t c ∷ [];
            goes = rw (step_is f (Store target e) at code may) (rw (full c d ∙ ap (λ how. stored how c value) (pends_is c h)) (rw (flush_next c value h) refl));
            steps = no_step m;
          }
            where
              no_step : (n : Model) → filter_map step_of (Step t ∷ own_flush n t c ∷ []) ≡ filter_map step_of (Step t ∷ [])
              no_step Tso = refl
              no_step Pso = refl
          direct c d false h = tt

          by : (b : Bool) (c : ℕ) → cell_of (length s.memory) f.locals target ≡ Some c → IfSome (stored (if b then pends m (bound_of bound t) pending c else (if is_empty (part m pending c) then AtOnce else NotEnabled)) c value) LeadsBy
          by true c d = same_leads f (Store target e) at code may (stored (pends m (bound_of bound t) pending c) c value) (full c d)
          by false c d = direct c d (is_empty (part m pending c)) refl

    instr_leads : (f : Frame) (i : Instr) → slice_get s.threads t ≡ Some f → fetched p t f.place ≡ Some i → may_step s t f ≡ true → IfSome (act Part s t f i) LeadsBy
    unfolding act
    instr_leads f (Store target e) a b k = store_leads f target e a b k
    instr_leads f i a b k = same_leads f i a b k (act Part s t f i) refl

  entry_leads : (s : State) → Fits Part p s → (e : Entry) → IfSome (next Part p s e) (Spread s (e ∷ []))
  unfolding event
  entry_leads s fits (Step t) = map-if (Spread s (Step t ∷ [])) (after s) (event Part p s (Step t)) (
      bind-there (λ v. Spread s (Step t ∷ []) (after s v)) (slice_get s.threads t) _ (λ f a.
      bind-there (λ v. Spread s (Step t ∷ []) (after s v)) (fetched p t f.place) _ (λ i b.
      guarded-there (λ v. Spread s (Step t ∷ []) (after s v)) (may_step s t f) (act Part s t f i) (λ z. Some (Does t z)) (λ k.
      wrapped (act Part s t f i) (instr_leads s t (let here = slice_get_within s.threads t f a in let many = fits.threads in let lists = fits.pending in omega (arith, here, many, lists)) f i a b k)))))
    where
      wrapped : (o : Option Act) → IfSome o (λ z. Spread s (Step t ∷ []) (acted s t z)) → IfSome (o >>= (λ z. Some (Does t z))) (λ v. Spread s (Step t ∷ []) (after s v))
      wrapped None h = tt
      wrapped (Some z) h = h
  entry_leads s fits (In t v) = IfSome_then (next Full p s (In t v)) (itself (next Full p s (In t v))) (λ z d. record { entries = In t v ∷ []; goes = rw d refl; steps = refl })
  entry_leads s fits (Flush t) = IfSome_then (next Full p s (Flush t)) (itself (next Full p s (Flush t))) (λ z d. record { entries = Flush t ∷ []; goes = rw d refl; steps = refl })
  entry_leads s fits (FlushCell t c) = IfSome_then (next Full p s (FlushCell t c)) (itself (next Full p s (FlushCell t c))) (λ z d. record { entries = FlushCell t c ∷ []; goes = rw d refl; steps = refl })

  -- ---- whole runs

  pub spread : (es : List Entry) (s last : State) → Fits Part p s → run Part p s es ≡ Some last → Spread s es last
  spread [] s last fits e = record { entries = []; goes = e; steps = refl }
  spread (x ∷ es) s last fits e = go (next Part p s x) (entry_leads s fits x) (next_fits Part p s fits x) e (λ mid. spread es mid last)
    where
      go : (o : Option State) → IfSome o (Spread s (x ∷ [])) → IfSome o (Fits Part p) → (o >>= (λ mid. run Part p mid es)) ≡ Some last → ((mid : State) → Fits Part p mid → run Part p mid es ≡ Some last → Spread mid es last) → Spread s (x ∷ es) last
      go None a b d ih = absurd (nothing d)
        where
          nothing : None ≡ Some last → ⊥
          nothing q = cc
      go (Some mid) a b d ih =
          let later = ih mid b d in
          record {
            entries = a.entries ++ later.entries;
            goes = run-append Full p s a.entries later.entries ∙ ap (λ (o : Option State). o >>= (λ z. run Full p z later.entries)) a.goes ∙ later.goes;
            steps = filter_map-append step_of a.entries later.entries ∙ ap (λ xs. xs ++ filter_map step_of later.entries) a.steps ∙ ap (λ xs. filter_map step_of (x ∷ []) ++ xs) later.steps ∙ sym (filter_map-append step_of (x ∷ []) es);
          }

-- ---- the thread that fails

steps_back : (es : List Entry) → filter_map step_of (reverse es) ≡ reverse (filter_map step_of es)
steps_back [] = refl
steps_back (e ∷ es) =
    ap (filter_map step_of) (reverse-cons e es)
    ∙ filter_map-append step_of (reverse es) (e ∷ [])
    ∙ ap (λ xs. xs ++ filter_map step_of (e ∷ [])) (steps_back es)
    ∙ ap (λ xs. reverse (filter_map step_of es) ++ xs) (one e)
    ∙ sym (reverse-append (filter_map step_of (e ∷ [])) (filter_map step_of es))
    ∙ ap reverse (sym (filter_map-append step_of (e ∷ []) es))
  where
    one : (x : Entry) → filter_map step_of (x ∷ []) ≡ reverse (filter_map step_of (x ∷ []))
    one (Step t) = refl
    one (In t v) = refl
    one (Flush t) = refl
    one (FlushCell t c) = refl

pub same_thread : (es fs : List Entry) → filter_map step_of fs ≡ filter_map step_of es → failing_thread es ≡ failing_thread fs
same_thread es fs e = ap (λ xs. slice_get xs 0) (steps_back es ∙ ap reverse (sym e) ∙ sym (steps_back fs))
