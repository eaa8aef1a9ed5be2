-- A call of wm_flush does the flushes that the inputs ask for.
use Rattle.std.proofs.Common.{arith, ◌≡◌, ℕ, ◌+◌, ◌<◌, ◌≤◌, ℤ, pos, List, [], length, Option, Some, None, refl, sym, ◌∙◌, subst}
use Rattle.std.proofs.lemmas.List.{length-set, get_or-set_other}
use Rattle.mm_sched.specs.State.{State}
use Rattle.mm_words.specs.Words.{call}
use Rattle.mm_helpers.specs.Helpers.{wm_flush, flush}
use Rattle.mm_flow.specs.declared.names.Named.{Named}
use Rattle.mm_flow.specs.declared.names.Seen.{Seen}
use Rattle.mm_flow.specs.Statements.{Within, function_of}
use Rattle.mm_meaning.specs.Meaning.{View, Outcome, Done, Left, Failed, Halted, Other, caught, meaning}
use Rattle.mm_meaning.specs.Acting.{act, at_slot}
use Rattle.mm_meaning.proofs.Looks.{Looks, looks_self}
use Rattle.mm_meaning.proofs.Alike.{Alike}
use Rattle.mm_meaning.proofs.Does.{Does, DoesAll}
use Rattle.mm_meaning.proofs.Calls.{no_args, Called, entered, counted_before, calls}
use Rattle.mm_pieces.specs.Calling.{Inlines, body_of, flush_function, known, flow_of}
use Rattle.mm_pieces.specs.Mirroring.{Agrees}
use Rattle.mm_pieces.specs.Flushing.{AllRows, Rest, Leaves, asked}
use Rattle.mm_pieces.proofs.FlushTurns.{asked_memory, Emptied}

module _ (rows : AllRows) (lens : ℕ) (R : View → State → Type 0) (Ok : State → Type 0) (popped : List ℤ → (b n c : ℕ) → ℤ → List ℤ) (as_memory : (l b : View) (s : State) → l.memory ≡ b.memory → R b s → R l s)
    (fuel m of_flush : ℕ) (w : Within) (middle : ℕ → Within) (inlines : Inlines w middle) (flush_is : function_of w.items w.parts.asserts wm_flush ≡ Some (flush_function rows.count of_flush)) (next : ℕ → ℕ)
    (does : (slot : ℕ) (seen : Seen) (r : ℕ) (a : View) (s : State) (ins : List ℤ) → R a s → Ok s → a.inputs ≡ ins → next slot ≤ length a.locals → length ins ≤ fuel →
    (o : Outcome) × DoesAll fuel slot (middle r) [] a seen slot seen (next slot) (body_of (flush rows.count)) o × Emptied rows lens R Ok popped slot a (asked_memory rows lens R Ok popped a.memory s ins) o (asked rows s ins)) where
  -- the next fresh local behind the call
  abbrev pub flush_next : ℕ → ℕ
  flush_next k = next (k + 0 + 1)

  -- how the call ends, for the caller
  abbrev pub outcome : View → List ℤ → Option Rest → Outcome
  outcome a memory None = Halted
  outcome a memory (Some r) = Done (record { memory = memory; locals = a.locals; inputs = r.inputs })

  -- memory behind the call
  abbrev pub memory_behind : View → State → List ℤ
  memory_behind a s = asked_memory rows lens R Ok popped a.memory s a.inputs

  pub flush_agrees : (names : List Named) (seen : Seen) (a : View) (s : State) (k : ℕ) → R a s → Ok s → m ≤ k → flush_next k ≤ length a.locals → length a.inputs ≤ fuel →
      Does fuel m w names a seen k seen (flush_next k) (call wm_flush []) (outcome a (memory_behind a s) (asked rows s a.inputs))
  flush_agrees names seen a s k like safe mk room few = calls wm_flush (flush_function rows.count of_flush) refl flush_is no_args (λ l look. called l look)
    where
      into : View → View
      into l = entered l k [] 0

      wide : (l : View) → Looks m l a → length (into l).locals ≡ length a.locals
      wide l look = length-set l.locals (k + 0) (pos 0) ∙ look.many

      old : (l : View) → Looks m l a → (r : ℕ) → r < m → at_slot (into l).locals r ≡ at_slot a.locals r
      old l look r q = get_or-set_other l.locals (k + 0) r (pos 0) (pos 0) (omega arith) ∙ look.locals r q

      mirrored : (l : View) → Looks m l a → R (into l) s
      mirrored l look = as_memory (into l) a s look.memory like

      like_end : (l : View) → Looks m l a → (o : Outcome) (r : Option Rest) (memory : List ℤ) → Emptied rows lens R Ok popped (k + 0 + 1) (into l) memory o r → Alike m (caught o) (outcome a memory r)
      like_end l look (Done b) (Some r) memory f = record { memory = f.1; inputs = f.2; many = f.3 ∙ wide l look; locals = λ i q. f.4 i (omega arith) ∙ old l look i q }
      like_end l look Halted None memory f = tt
      like_end l look (Done b) None memory f = absurd f
      like_end l look Halted (Some r) memory f = absurd f
      like_end l look (Left w2 b) r memory f = absurd f
      like_end l look (Failed n) r memory f = absurd f
      like_end l look Other r memory f = absurd f

      called : (l : View) → Looks m l a → Called fuel m w (flush_function rows.count of_flush) k (flush_next k) [] l (outcome a (memory_behind a s) (asked rows s a.inputs))
      called l look =
          let d = does (k + 0 + 1) (counted_before (flush_function rows.count of_flush)) (k + 0) (into l) s a.inputs (mirrored l look) safe look.inputs (omega (arith, wide l look)) few in
          record {
            end = d.0;
            body = record { inner = middle (k + 0); later = counted_before (flush_function rows.count of_flush); is = inlines.by (flush_function rows.count of_flush) [] (k + 0 + 1) (k + 0); does = d.1 };
            like = subst (λ x. Alike m (caught d.0) (outcome a (asked_memory rows lens R Ok popped x s a.inputs) (asked rows s a.inputs))) look.memory (like_end l look d.0 (asked rows s a.inputs) _ d.2);
          }

  -- what is behind the call mirrors the state behind the flushes
  pub flush_mirrors : (a : View) (s : State) (k : ℕ) (r : Rest) → R a s → Ok s → flush_next k ≤ length a.locals → length a.inputs ≤ fuel → asked rows s a.inputs ≡ Some r →
      (b : View) → b.memory ≡ memory_behind a s → R b r.state
  flush_mirrors a s k r like safe room few is b e =
      let d = does (k + 0 + 1) (counted_before (flush_function rows.count of_flush)) (k + 0) (entered a k [] 0) s a.inputs
      (as_memory (entered a k [] 0) a s refl like) safe refl (omega (arith, length-set a.locals (k + 0) (pos 0))) few in
      go d.0 (asked rows s a.inputs) is d.2
    where
      go : (o : Outcome) (x : Option Rest) → x ≡ Some r → Emptied rows lens R Ok popped (k + 0 + 1) (entered a k [] 0) (memory_behind a s) o x → R b r.state
      go (Done z) (Some y) i f = let same : y ≡ r = cc in as_memory b z r.state (e ∙ sym f.1) (subst (λ (u : Rest). R z u.state) same f.0)
      go o None i f = cc
      go Halted (Some y) i f = absurd f
      go (Left w2 z) (Some y) i f = absurd f
      go (Failed n) (Some y) i f = absurd f
      go Other (Some y) i f = absurd f

  -- the call, from any view
  pub flush_ends : (names : List Named) (seen : Seen) (a : View) (s : State) (k : ℕ) → R a s → Ok s → flush_next k ≤ length a.locals → k ≤ flush_next k → m ≤ k → length a.inputs ≤ fuel → Agrees (Leaves R) (meaning act (flow_of w (known seen names k) (call wm_flush [])) fuel a) (asked rows s a.inputs)
  flush_ends names seen a s k like safe room grows mk few = by (asked rows s a.inputs) refl (meaning act (flow_of w (known seen names k) (call wm_flush [])) fuel a) (((flush_agrees names seen a s k like safe mk room few).by mk room).by a (looks_self m a))
    where
      by : (x : Option Rest) → asked rows s a.inputs ≡ x → (o : Outcome) → Alike m o (outcome a (memory_behind a s) x) → Agrees (Leaves R) o x
      by (Some r) e (Done b) h = record { like = flush_mirrors a s k r like safe room few e b h.memory; inputs = h.inputs }
      by None e Halted h = tt
      by (Some r) e Halted h = absurd h
      by (Some r) e (Left w2 b) h = absurd h
      by (Some r) e (Failed n) h = absurd h
      by (Some r) e Other h = absurd h
      by None e (Done b) h = absurd h
      by None e (Left w2 b) h = absurd h
      by None e (Failed n) h = absurd h
      by None e Other h = absurd h
