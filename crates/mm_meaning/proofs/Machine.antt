-- The law of runs for one thread of the machine that is inside its section: nobody else steps.
use Rattle.std.proofs.Common.{arith, ◌≡◌, ℕ, suc, ◌+◌, ◌<◌, ◌≤◌, ℤ, List, [], ◌∷◌, ◌++◌, length, Option, Some, None, option_map, refl, Bool, true, false, sym, ◌∙◌, ap, ⊎_elim, ◌&&◌, slice_get, slice_set, unwrap_or, append_assoc, length-append, inl, inr}
use Rattle.std.specs.Prelude.{◌==◌}
use Rattle.std.proofs.lemmas.List.{set-set, length-set, get_or-set_same}
use Rattle.std.proofs.lemmas.Option.{slice_get-get_or}
use Rattle.mm_goto.specs.Listing.{Listing}
use Rattle.mm_goto.specs.Value.{value_of, is_zero}
use Rattle.mm_goto.specs.declared.pure.Pure.{Pure}
use Rattle.mm_goto.specs.declared.program.Instr.{Instr}
use Rattle.mm_goto.specs.declared.program.Instr.TheVariants as instr
use Rattle.mm_sched.specs.declared.entry.Entry.TheVariants.{Step, In}
use Rattle.mm_sched.specs.declared.entry.Rules.TheVariants.{Sc}
use Rattle.mm_sched.specs.declared.entry.Act.{Act}
use Rattle.mm_sched.specs.declared.entry.Act.TheVariants.{Goes, Assigns, Fails, Loads, Puts}
use Rattle.mm_sched.specs.declared.entry.Event.TheVariants.{Does}
use Rattle.mm_sched.specs.State.{State, frame_of, pending_of}
use Rattle.mm_sched.specs.Buffer.{newest}
use Rattle.mm_sched.specs.Event.{event, next, after, acted, act as machine_act, input, cell_of, is_int, fetched}
use Rattle.mm_sched.specs.Guarded.{◌>>=◌, guarded}
use Rattle.mm_sched.proofs.Steps.{bind-same, bind-assoc}
use Rattle.mm_flow.specs.Flow.{Flow, Ways, size}
use Rattle.mm_meaning.specs.Meaning.{View, Outcome, Done, Failed, Halted, pick, meaning}
use Rattle.mm_meaning.specs.Standing.{Stands}
use Rattle.mm_meaning.specs.Inside.{own, values, stays, inside, frame, stand, FitsIn, Ends, Leads, Stops, Breaks, RunsInside}
use Rattle.mm_meaning.specs.Acting.{act, at_slot, let_local, let_cell, with_cell, with_input}
use Rattle.mm_meaning.proofs.Law.{flow_runs}

pub inside-append : (p : Listing) (t : ℕ) (s : State) (xs ys : List (Option ℤ)) → inside p t s (xs ++ ys) ≡ (inside p t s xs >>= λ m. inside p t m ys)
inside-append p t s [] ys = refl
inside-append p t s (x ∷ xs) ys = bind-same (guarded (stays s t) (next Sc p s (own t x))) _ _ (λ a. inside-append p t a xs ys) ∙ sym (bind-assoc (guarded (stays s t) (next Sc p s (own t x))) (λ a. inside p t a xs) (λ m. inside p t m ys))

values-append : (xs ys : List (Option ℤ)) → values (xs ++ ys) ≡ values xs ++ values ys
values-append [] ys = refl
values-append (None ∷ xs) ys = values-append xs ys
values-append (Some v ∷ xs) ys = ap (λ vs. v ∷ vs) (values-append xs ys)

pub same : (t : ℕ) → (t == t) ≡ true
same t = grind arith

pub get-set : {A : Type 0} (xs : List A) (t : ℕ) (x : A) → t < length xs → slice_get (slice_set xs t x) t ≡ Some x
get-set xs t x h = slice_get-get_or (slice_set xs t x) t x (omega (arith, length-set xs t x)) ∙ ap Some (get_or-set_same xs t x x h)

-- ---- a thread that stands in its section

failed : (s : State) (t n : ℕ) → (acted s t (Fails n)).verdict ≡ Some n
unfolding acted
failed s t n = refl

mapped : (s : State) (t : ℕ) (o : Option Act) → option_map (after s) (o >>= λ a. Some (Does t a)) ≡ option_map (acted s t) o
mapped s t None = refl
mapped s t (Some a) = refl

module _ (p : Listing) (t : ℕ) (S : State) (there : t < length S.threads) (dry : pending_of S t ≡ []) (code : List Instr) (is_code : (k : ℕ) → fetched p t k ≡ slice_get code k) where
  pub stays_here : (k : ℕ) (l : View) → stays (stand t S k l) t ≡ true
  stays_here k l = ap (λ b. b && true) (same t)

  -- standing elsewhere
  pub moves : (k k2 : ℕ) (l l2 : View) → record (stand t S k l) { memory = l2.memory; threads = slice_set (slice_set S.threads t (frame k l)) t (frame k2 l2) } ≡ stand t S k2 l2
  moves k k2 l l2 = ap (λ fs. record (stand t S k l) { memory = l2.memory; threads = fs }) (set-set S.threads t (frame k l) (frame k2 l2))

  pub my_frame : (k : ℕ) (l : View) → frame_of (stand t S k l) t ≡ frame k l
  my_frame k l = get_or-set_same S.threads t (frame k l) _ there

  pub step_is : (k : ℕ) (l : View) (i : Instr) → slice_get code k ≡ Some i → next Sc p (stand t S k l) (Step t) ≡ option_map (acted (stand t S k l) t) (machine_act Sc (stand t S k l) t (frame k l) i)
  unfolding event
  step_is k l i h = rw (get-set S.threads t (frame k l) there) (rw (is_code k) (rw h (rw (same t) (mapped (stand t S k l) t (machine_act Sc (stand t S k l) t (frame k l) i)))))

  pub in_is : (k : ℕ) (l : View) (i : Instr) (v : ℤ) → slice_get code k ≡ Some i → next Sc p (stand t S k l) (In t v) ≡ option_map (acted (stand t S k l) t) (input i v)
  unfolding event
  in_is k l i v h = rw (get-set S.threads t (frame k l) there) (rw (is_code k) (rw h (rw (same t) (mapped (stand t S k l) t (input i v)))))

  here : (k : ℕ) (l : View) → Leads p t S k l k l
  here k l = record { steps = []; takes = refl; goes = refl }

  one : (w : Option ℤ) (k k2 : ℕ) (l l2 : View) → values (w ∷ []) ++ l2.inputs ≡ l.inputs → next Sc p (stand t S k l) (own t w) ≡ Some (stand t S k2 l2) → Leads p t S k l k2 l2
  one w k k2 l l2 e h = record { steps = w ∷ []; takes = e; goes = rw (stays_here k l) (rw h refl) }

  abbrev on : (k i j : ℕ) (a b c : View) → Leads p t S k a i b → Leads p t S i b j c → Leads p t S k a j c
  on k i j a b c f g = record {
    steps = f.steps ++ g.steps;
    takes = ap (λ vs. vs ++ c.inputs) (values-append f.steps g.steps) ∙ append_assoc (values f.steps) (values g.steps) c.inputs ∙ ap (λ vs. values f.steps ++ vs) g.takes ∙ f.takes;
    goes = inside-append p t (stand t S k a) f.steps g.steps ∙ ap (λ o. o >>= λ m. inside p t m g.steps) f.goes ∙ g.goes;
  }

  breaks : (n k i : ℕ) (a b : View) → Leads p t S k a i b → Breaks p t S n i b → Breaks p t S n k a
  breaks n k i a b f g = record { place = g.place; sees = g.sees; leads = on k i g.place a b g.sees f g.leads; last = g.last; fails = g.fails; verdict = g.verdict }

  stops : (n k i : ℕ) (a b : View) → Leads p t S k a i b → Stops p t S n i b → Stops p t S n k a
  stops n k i a b f g = record { place = g.place; sees = g.sees; leads = on k i g.place a b g.sees f g.leads; why = ⊎_elim (λ le. inl (omega (arith, length-append f.steps g.leads.steps))) (λ e. inr e) g.why }

  none : (k : ℕ) (l : View) → Stops p t S 0 k l
  none k l = record { place = k; sees = l; leads = here k l; why = inl (omega arith) }

  fewer : (m n k : ℕ) (l : View) → m ≤ n → Stops p t S n k l → Stops p t S m k l
  fewer m n k l le g = record { place = g.place; sees = g.sees; leads = g.leads; why = ⊎_elim (λ h. inl (omega arith)) (λ e. inr e) g.why }

  -- by an act that leads elsewhere
  leads_to : (k k2 : ℕ) (l l2 : View) (i : Instr) (a : Act) → slice_get code k ≡ Some i → machine_act Sc (stand t S k l) t (frame k l) i ≡ Some a → acted (stand t S k l) t a ≡ stand t S k2 l2 → l2.inputs ≡ l.inputs → Leads p t S k l k2 l2
  leads_to k k2 l l2 i a h e goes keeps = one None k k2 l l2 keeps (step_is k l i h ∙ ap (option_map (acted (stand t S k l) t)) e ∙ ap Some goes)

  goes_to : (k k2 : ℕ) (l : View) → acted (stand t S k l) t (Goes k2) ≡ stand t S k2 l
  unfolding acted
  goes_to k k2 l = rw (my_frame k l) (moves k k2 l l)

  assigns : (k : ℕ) (l : View) (r : ℕ) (v : ℤ) → acted (stand t S k l) t (Assigns r v) ≡ stand t S (k + 1) (let_local l r v)
  unfolding acted
  assigns k l r v = rw (my_frame k l) (moves k (k + 1) l (let_local l r v))

  loads : (k : ℕ) (l : View) (r c : ℕ) (v : ℤ) → acted (stand t S k l) t (Loads r c v) ≡ stand t S (k + 1) (let_local l r v)
  unfolding acted
  loads k l r c v = rw (my_frame k l) (moves k (k + 1) l (let_local l r v))

  puts : (k : ℕ) (l : View) (c : ℕ) (v : ℤ) → acted (stand t S k l) t (Puts c v) ≡ stand t S (k + 1) (let_cell l c v)
  unfolding acted
  puts k l c v = rw (my_frame k l) (moves k (k + 1) l (let_cell l c v))

  jumps : (k j : ℕ) (l : View) → slice_get code k ≡ Some (instr.Jump j) → Leads p t S k l j l
  unfolding machine_act
  jumps k j l h = leads_to k j l l (instr.Jump j) (Goes j) h refl (goes_to k j l) refl

  goes : (k j : ℕ) (e : Pure) (l : View) → slice_get code k ≡ Some (instr.Branch e j) → is_zero (value_of e l.locals) ≡ true → Leads p t S k l j l
  unfolding machine_act
  goes k j e l h z = leads_to k j l l (instr.Branch e j) (Goes j) h (rw z refl) (goes_to k j l) refl

  stays_on : (k j : ℕ) (e : Pure) (l : View) → slice_get code k ≡ Some (instr.Branch e j) → is_zero (value_of e l.locals) ≡ false → Leads p t S k l (k + 1) l
  unfolding machine_act
  stays_on k j e l h z = leads_to k (k + 1) l l (instr.Branch e j) (Goes (k + 1)) h (rw z refl) (goes_to k (k + 1) l) refl

  turned : (n k j : ℕ) (e : Pure) (l : View) → slice_get code k ≡ Some (instr.Branch e j) → is_zero (value_of e l.locals) ≡ false → Stops p t S n (k + 1) l → Stops p t S (suc n) k l
  unfolding machine_act
  turned n k j e l h z g =
      let next_is : next Sc p (stand t S k l) (Step t) ≡ Some (stand t S (k + 1) l) = step_is k l (instr.Branch e j) h ∙ ap (option_map (acted (stand t S k l) t)) (let x : machine_act Sc (stand t S k l) t (frame k l) (instr.Branch e j) ≡ Some (Goes (k + 1)) = rw z refl in x) ∙ ap Some (goes_to k (k + 1) l) in
      record {
        place = g.place;
        sees = g.sees;
        leads = record { steps = None ∷ g.leads.steps; takes = g.leads.takes; goes = rw (stays_here k l) (rw next_is g.leads.goes) };
        why = ⊎_elim (λ le. inl (omega arith)) (λ d. inr d) g.why;
      }

  -- ---- one instruction

  halts : (n k : ℕ) (l : View) → Ends p t (stand t S k l) l.inputs → Stops p t S n k l
  halts n k l e = record { place = k; sees = l; leads = here k l; why = inr e }

  -- an instruction other than Input that is not enabled here
  no_step : (k : ℕ) (l : View) (i : Instr) → slice_get code k ≡ Some i → machine_act Sc (stand t S k l) t (frame k l) i ≡ None → ((v : ℤ) → input i v ≡ None) → Ends p t (stand t S k l) l.inputs
  no_step k l i h e f = record { by = no }
    where
      no : (w : Option ℤ) (s : State) → FitsIn w l.inputs → next Sc p (stand t S k l) (own t w) ≡ Some s → ⊥
      no None s fits g = let a = sym g ∙ step_is k l i h ∙ ap (option_map (acted (stand t S k l) t)) e in cc
      no (Some v) s fits g = let a = sym g ∙ in_is k l i v h ∙ ap (option_map (acted (stand t S k l) t)) (f v) in cc

  abbrev R : Ways → ℕ → ℕ → View → ℕ → Outcome → Type 0
  R = RunsInside p t S

  access : (x : Ways) (n k : ℕ) (l : View) (o : Option ℕ) (go : ℕ → View) (i : Instr) (by : ℕ → Act) → ((c : ℕ) → (go c).inputs ≡ l.inputs) → slice_get code k ≡ Some i → ((v : ℤ) → input i v ≡ None) → machine_act Sc (stand t S k l) t (frame k l) i ≡ (o >>= λ c. Some (by c)) → ((c : ℕ) → acted (stand t S k l) t (by c) ≡ stand t S (k + 1) (go c)) → R x n k l (k + 1) (with_cell o go)
  access x n k l None go i by keeps h f e leads = halts n k l (no_step k l i h e f)
  access x n k l (Some c) go i by keeps h f e leads = leads_to k (k + 1) l (go c) i (by c) h e (leads c) (keeps c)

  given : (x : Ways) (n k : ℕ) (l : View) (r : ℕ) (vs : List ℤ) → l.inputs ≡ vs → slice_get code k ≡ Some (instr.Input r) → R x n k l (k + 1) (with_input vs l r)
  unfolding machine_act
  given x n k l r [] e h = halts n k l (record { by = no })
    where
      no : (w : Option ℤ) (s : State) → FitsIn w l.inputs → next Sc p (stand t S k l) (own t w) ≡ Some s → ⊥
      no None s fits g = let a = sym g ∙ step_is k l (instr.Input r) h in cc
      no (Some v) s fits g = let a = sym fits.1 ∙ e in cc
  given x n k l r (v ∷ vs) e h = go (is_int v) refl
    where
      go : (b : Bool) → is_int v ≡ b → R x n k l (k + 1) (pick b (Done (record { memory = l.memory; locals = slice_set l.locals r v; inputs = vs })) Halted)
      go true d = one (Some v) k (k + 1) l _ (sym e) (in_is k l (instr.Input r) v h ∙ rw d (ap Some (assigns k l r v)))
      go false d = halts n k l (record { by = no })
        where
          no : (w : Option ℤ) (s : State) → FitsIn w l.inputs → next Sc p (stand t S k l) (own t w) ≡ Some s → ⊥
          no None s fits g = let a = sym g ∙ step_is k l (instr.Input r) h in cc
          no (Some u) s fits g =
              let first = sym fits.1 ∙ e in
              let same_value : u ≡ v = cc in
              let none : input (instr.Input r) u ≡ None = rw same_value (rw d refl) in
              let a = sym g ∙ in_is k l (instr.Input r) u h ∙ ap (option_map (acted (stand t S k l) t)) none in cc

  acts : (x : Ways) (n k : ℕ) (l : View) (i : Instr) → slice_get code k ≡ Some i → R x n k l (k + 1) (act i l)
  unfolding machine_act
  acts x n k l (instr.Set r e) h = leads_to k (k + 1) l _ (instr.Set r e) (Assigns r (value_of e l.locals)) h refl (assigns k l r (value_of e l.locals)) refl
  acts x n k l (instr.Load r a) h = access x n k l (cell_of (length l.memory) l.locals a) (λ c. let_local l r (at_slot l.memory c)) (instr.Load r a) (λ c. Loads r c (at_slot l.memory c)) (λ c. refl) h (λ v. refl)
      (bind-same (cell_of (length l.memory) l.locals a) _ _ (λ c. ap (λ ps. Some (Loads r c (unwrap_or (newest ps c) (at_slot l.memory c)))) dry)) (λ c. loads k l r c (at_slot l.memory c))
  acts x n k l (instr.Store a e) h = access x n k l (cell_of (length l.memory) l.locals a) (λ c. let_cell l c (value_of e l.locals)) (instr.Store a e) (λ c. Puts c (value_of e l.locals)) (λ c. refl) h (λ v. refl) refl (λ c. puts k l c (value_of e l.locals))
  acts x n k l (instr.Input r) h = given x n k l r l.inputs refl h
  acts x n k l (instr.Assert e a) h = go (is_zero (value_of e l.locals)) refl
    where
      go : (b : Bool) → is_zero (value_of e l.locals) ≡ b → R x n k l (k + 1) (pick b (Failed a) (Done l))
      go true d = record { place = k; sees = l; leads = here k l; last = acted (stand t S k l) t (Fails a); fails = step_is k l (instr.Assert e a) h ∙ rw d refl; verdict = failed (stand t S k l) t a }
      go false d = leads_to k (k + 1) l l (instr.Assert e a) (Goes (k + 1)) h (rw d refl) (goes_to k (k + 1) l) refl
  acts x n k l (instr.Assume e) h = go (is_zero (value_of e l.locals)) refl
    where
      go : (b : Bool) → is_zero (value_of e l.locals) ≡ b → R x n k l (k + 1) (pick b Halted (Done l))
      go true d = halts n k l (no_step k l (instr.Assume e) h (rw d refl) (λ v. refl))
      go false d = leads_to k (k + 1) l l (instr.Assume e) (Goes (k + 1)) h (rw d refl) (goes_to k (k + 1) l) refl
  acts x n k l (instr.Jump j) h = tt
  acts x n k l (instr.Branch e j) h = tt
  acts x n k l instr.Fence h = tt
  acts x n k l (instr.Lock m) h = tt
  acts x n k l (instr.Unlock m) h = tt
  acts x n k l (instr.Add r a e) h = tt
  acts x n k l (instr.Cas r a e g) h = tt
  acts x n k l (instr.Start u) h = tt
  acts x n k l (instr.Join u) h = tt
  acts x n k l instr.AtomBegin h = tt
  acts x n k l instr.AtomEnd h = tt
  acts x n k l instr.End h = tt

  -- the run of the code of a flow, while the thread is in its section
  pub runs_inside : (f : Flow) (x : Ways) (n k : ℕ) (l : View) → Stands code x f k → R x n k l (k + size f) (meaning act f n l)
  runs_inside = flow_runs code act (Leads p t S) (Breaks p t S) (Stops p t S) here on breaks stops jumps goes stays_on turned none fewer acts
