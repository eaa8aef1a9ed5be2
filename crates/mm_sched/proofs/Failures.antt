-- A schedule that fails has a failing thread, whose last instruction is the assertion.
use Rattle.std.proofs.Common.{rules, ◌≡◌, ℕ, ℤ, true, false, Bool, List, [], ◌∷◌, ◌++◌, reverse, slice_get, Option, Some, None, refl, sym, ◌∙◌, ap, subst, IfSome, get_or-set_same}
use Rattle.std.specs.Prelude.{◌+◌, All, option_map, slice_index_or, slice_set, if◌then◌else◌}
use Rattle.std.specs.List.{filter_map}
use Rattle.std.proofs.lemmas.List.{reverse-append}
use Rattle.std.proofs.lemmas.List.Elements.{All-nil, All-cons, All-head, All-tail, filter_map-append}
use Rattle.std.proofs.lemmas.Option.{option_and_then_some, slice_get_within}
use Rattle.mm_goto.specs.declared.pure.Pure.{Pure}
use Rattle.mm_goto.specs.declared.program.Instr.{Instr}
use Rattle.mm_goto.specs.declared.program.Instr.TheVariants.{Set, Load, Store, Input, Jump, Branch, Assert, Assume, Fence, Lock, Unlock, Add, Cas, Start, Join, AtomBegin, AtomEnd, End}
use Rattle.mm_goto.specs.Listing.{Listing}
use Rattle.mm_goto.specs.Value.{value_of, is_zero}
use Rattle.mm_sched.specs.declared.entry.Entry.{Entry}
use Rattle.mm_sched.specs.declared.entry.Entry.TheVariants.{Step, In, Flush, FlushCell}
use Rattle.mm_sched.specs.declared.entry.Rules.{Rules}
use Rattle.mm_sched.specs.declared.entry.Act.{Act}
use Rattle.mm_sched.specs.declared.entry.Act.TheVariants.{Goes, Fails}
use Rattle.mm_sched.specs.declared.entry.Event.{Event}
use Rattle.mm_sched.specs.declared.entry.Event.TheVariants.{Flushes}
use Rattle.mm_sched.specs.Guarded.{◌>>=◌}
use Rattle.mm_sched.specs.State.{Frame, State, initial, idle, pending_of}
use Rattle.mm_sched.specs.Buffer.{flush_of}
use Rattle.mm_sched.specs.Event.{act, acted, after, done, event, flushed, flushes, framed, input, moved, next, on}
use Rattle.mm_sched.specs.Runs.{run, step_of, failing_thread, locals_of}
use Rattle.mm_sched.specs.Turn.{IsAt}
use Rattle.mm_sched.specs.Failing.{IsFlush, FailsFrom, FailsBy}
use Rattle.mm_sched.proofs.Joins.{run-append}
use Rattle.mm_sched.proofs.Steps.{guarded-if, bind-if, either-if, if-at, map-some, stored-if, locked-if, unlocked-if, begun-if, joined-if}
use Rattle.mm_sched.proofs.Turns.{does-some, step_is}

-- ---- an assertion alone fails

abbrev FailsRightly : Frame → Instr → Act → Type 0
FailsRightly f i (Fails n) = (e : Pure) × (i ≡ Assert e n) × (is_zero (value_of e f.locals) ≡ true)
FailsRightly f i _ = Unit {0}

ruleset calm = (guarded-if, bind-if, either-if, stored-if, locked-if, unlocked-if, begun-if, joined-if)

asserted : (f : Frame) (e : Pure) (n k : ℕ) (b : Bool) → is_zero (value_of e f.locals) ≡ b → FailsRightly f (Assert e n) (if b then Fails n else Goes k)
asserted f e n k true z = (e, refl, z)
asserted f e n k false z = tt

act-fails : (r : Rules) (s : State) (t : ℕ) (f : Frame) (i : Instr) → IfSome (act r s t f i) (FailsRightly f i)
unfolding act
act-fails r s t f (Set l e) = tt
act-fails r s t f (Load l target) = search (rules, calm)
act-fails r s t f (Store target e) = search (rules, calm)
act-fails r s t f (Input l) = tt
act-fails r s t f (Jump k) = tt
act-fails r s t f (Branch e k) = tt
act-fails r s t f (Assert e n) = asserted f e n _ (is_zero (value_of e f.locals)) refl
act-fails r s t f (Assume e) = search (rules, calm)
act-fails r s t f Fence = search (rules, calm)
act-fails r s t f (Lock m) = search (rules, calm)
act-fails r s t f (Unlock m) = search (rules, calm)
act-fails r s t f (Add l target e) = search (rules, calm)
act-fails r s t f (Cas l target e g) = search (rules, calm)
act-fails r s t f (Start u) = search (rules, calm)
act-fails r s t f (Join u) = search (rules, calm)
act-fails r s t f AtomBegin = search (rules, calm)
act-fails r s t f AtomEnd = search (rules, calm)
act-fails r s t f End = tt

-- what an Input does is no failure
abbrev IsNoFailure : Act → Type 0
IsNoFailure (Fails n) = ⊥
IsNoFailure _ = Unit {0}

input-fails : (i : Instr) (v : ℤ) → IfSome (input i v) IsNoFailure
input-fails (Input l) v = search (rules, guarded-if)
input-fails _ v = tt

-- ---- one step

-- the act fails nothing, or the verdict is its number
acted-verdict : (s : State) (t m : ℕ) (a : Act) → s.verdict ≡ None → (acted s t a).verdict ≡ Some m → a ≡ Fails m
unfolding acted
acted-verdict s t m (Fails n) e d = ap Fails cc
acted-verdict s t m _ e d = absurd (cc)

-- a flush leaves the verdict and the threads
pub record Leaves (s s' : State) : Type 0 where
  pub verdict : s'.verdict ≡ s.verdict
  pub threads : s'.threads ≡ s.threads

flush-leaves : (r : Rules) (s s' : State) (t : ℕ) (e : Entry) → option_map (after s) (flushes r s t e) ≡ Some s' → Leaves s s'
unfolding flushed
flush-leaves r s s' t e d = map-some (after s) (flushes r s t e) s' d (λ v a b. option_and_then_some (λ q. Some (Flushes t q.0 q.1)) (flush_of r e (pending_of s t)) v a (λ q c k.
    let same : flushed s t q.0 q.1 ≡ s' = ap (after s) (some-same (Flushes t q.0 q.1) v k) ∙ b in
    record { verdict = ap (λ z. z.verdict) (sym same); threads = ap (λ z. z.threads) (sym same) }))
  where
    some-same : (v w : Event) → Some v ≡ Some w → v ≡ w
    some-same v w e = cc

-- what holds where an entry is enabled and a verdict stands: it is a flush
pub record Flushing (s s' : State) (e : Entry) : Type 0 where
  pub flush : IsFlush e
  pub leaves : Leaves s s'

steps-after : (r : Rules) (p : Listing) (s s' : State) (m : ℕ) (e : Entry) → s.verdict ≡ Some m → next r p s e ≡ Some s' → Flushing s s' e
unfolding event
steps-after r p s s' m (Step t) h d = map-some (after s) (event r p s (Step t)) s' d (λ v a b. let acts = does-some p s t (act r s t) v a in let none = acts.at.has_not_failed in cc)
steps-after r p s s' m (In t w) h d = map-some (after s) (event r p s (In t w)) s' d (λ v a b. let acts = does-some p s t (λ f i. input i w) v a in let none = acts.at.has_not_failed in cc)
steps-after r p s s' m (Flush t) h d = record { flush = tt; leaves = flush-leaves r s s' t (Flush t) d }
steps-after r p s s' m (FlushCell t c) h d = record { flush = tt; leaves = flush-leaves r s s' t (FlushCell t c) d }

-- what stands where an entry sets the verdict: an assertion is there
pub record Asserts (p : Listing) (s : State) (m : ℕ) (e : Entry) : Type 0 where
  pub thread : ℕ
  pub step : e ≡ Step thread
  pub frame : Frame
  pub value : Pure
  pub at : IsAt p s thread frame (Assert value m)
  pub zero : is_zero (value_of value frame.locals) ≡ true

asserts-by : (r : Rules) (p : Listing) (s : State) (t m : ℕ) (f : Frame) (i : Instr) → IsAt p s t f i → act r s t f i ≡ Some (Fails m) → Asserts p s m (Step t)
asserts-by r p s t m f i at d =
    let fails = if-at (FailsRightly f i) (act r s t f i) (Fails m) d (act-fails r s t f i) in
    record { thread = t; step = refl; frame = f; value = fails.0; at = subst (λ (j : Instr). IsAt p s t f j) fails.1 at; zero = fails.2 }

fails-now : (r : Rules) (p : Listing) (s s' : State) (m : ℕ) (e : Entry) → s.verdict ≡ None → next r p s e ≡ Some s' → s'.verdict ≡ Some m → Asserts p s m e
unfolding event
fails-now r p s s' m (Step t) h d k = map-some (after s) (event r p s (Step t)) s' d (λ v a b.
    let acts = does-some p s t (act r s t) v a in
    let moves : acted s t acts.act ≡ s' = ap (after s) (sym acts.event) ∙ b in
    let fails : acts.act ≡ Fails m = acted-verdict s t m acts.act h (ap (λ z. z.verdict) moves ∙ k) in
    asserts-by r p s t m acts.frame acts.instr acts.at (acts.is ∙ ap (λ z. Some z) fails))
fails-now r p s s' m (In t w) h d k = map-some (after s) (event r p s (In t w)) s' d (λ v a b.
    let acts = does-some p s t (λ f i. input i w) v a in
    let moves : acted s t acts.act ≡ s' = ap (after s) (sym acts.event) ∙ b in
    let fails : acts.act ≡ Fails m = acted-verdict s t m acts.act h (ap (λ z. z.verdict) moves ∙ k) in
    absurd (subst IsNoFailure fails (if-at IsNoFailure (input acts.instr w) acts.act acts.is (input-fails acts.instr w))))
fails-now r p s s' m (Flush t) h d k = let same = (flush-leaves r s s' t (Flush t) d).verdict in cc
fails-now r p s s' m (FlushCell t c) h d k = let same = (flush-leaves r s s' t (FlushCell t c) d).verdict in cc

-- ---- runs

-- what follows a verdict
pub record Follows (s last : State) (es : List Entry) : Type 0 where
  pub flushes : All IsFlush es
  pub leaves : Leaves s last

follows : (r : Rules) (p : Listing) (m : ℕ) (es : List Entry) (s last : State) → s.verdict ≡ Some m → run r p s es ≡ Some last → Follows s last es
follows r p m [] s last h d = let same : s ≡ last = cc in record { flushes = All-nil IsFlush; leaves = record { verdict = ap (λ z. z.verdict) (sym same); threads = ap (λ z. z.threads) (sym same) } }
follows r p m (e ∷ es) s last h d = option_and_then_some (λ mid. run r p mid es) (next r p s e) last d (λ mid a b.
    let one = steps-after r p s mid m e h a in
    let rest = follows r p m es mid last (one.leaves.verdict ∙ h) b in
    record {
      flushes = All-cons IsFlush e es one.flush rest.flushes;
      leaves = record { verdict = rest.leaves.verdict ∙ one.leaves.verdict; threads = rest.leaves.threads ∙ one.leaves.threads };
    })

pub fails-from : (r : Rules) (p : Listing) (n : ℕ) (es : List Entry) (s last : State) → s.verdict ≡ None → run r p s es ≡ Some last → last.verdict ≡ Some n → (t : ℕ) × FailsFrom r p s n es t
fails-from r p n [] s last h d k = let same : s ≡ last = cc in let none = ap (λ z. z.verdict) same in absurd (cc)
fails-from r p n (e ∷ es) s last h d k = option_and_then_some (λ mid. run r p mid es) (next r p s e) last d (λ mid a b. go mid mid.verdict a b refl (λ c. fails-from r p n es mid last c b k))
  where
    first : (mid : State) (m : ℕ) → next r p s e ≡ Some mid → run r p mid es ≡ Some last → mid.verdict ≡ Some m → (t : ℕ) × FailsFrom r p s n (e ∷ es) t
    first mid m a b c =
        let rest = follows r p m es mid last c b in
        let same : m ≡ n = let left = rest.leaves.verdict in cc in
        let asserts = fails-now r p s mid n e h a (c ∙ ap (λ z. Some z) same) in (
          asserts.thread,
          record {
            before = [];
            behind = es;
            parts = ap (λ x. x ∷ es) asserts.step;
            mid = s;
            runs = refl;
            frame = asserts.frame;
            value = asserts.value;
            at = asserts.at;
            zero = asserts.zero;
            flushes = rest.flushes;
          },
        )

    later : (mid : State) → next r p s e ≡ Some mid → (t : ℕ) × FailsFrom r p mid n es t → (t : ℕ) × FailsFrom r p s n (e ∷ es) t
    later mid a (t, by) = (
      t,
      record {
        before = e ∷ by.before;
        behind = by.behind;
        parts = ap (λ xs. e ∷ xs) by.parts;
        mid = by.mid;
        runs = ap (λ (o : Option State). o >>= λ z. run r p z by.before) a ∙ by.runs;
        frame = by.frame;
        value = by.value;
        at = by.at;
        zero = by.zero;
        flushes = by.flushes;
      },
    )

    go : (mid : State) (o : Option ℕ) → next r p s e ≡ Some mid → run r p mid es ≡ Some last → mid.verdict ≡ o → (mid.verdict ≡ None → (t : ℕ) × FailsFrom r p mid n es t) → (t : ℕ) × FailsFrom r p s n (e ∷ es) t
    go mid None a b c ih = later mid a (ih c)
    go mid (Some m) a b c ih = first mid m a b c

-- ---- the failing thread

no-step : (e : Entry) → IsFlush e → filter_map step_of (reverse (e ∷ [])) ≡ []
no-step (Step t) h = absurd h
no-step (In t v) h = absurd h
no-step (Flush t) h = refl
no-step (FlushCell t c) h = refl

no-steps : (es : List Entry) → All IsFlush es → filter_map step_of (reverse es) ≡ []
no-steps [] h = refl
no-steps (e ∷ es) h =
    ap (filter_map step_of) (reverse-append (e ∷ []) es)
    ∙ filter_map-append step_of (reverse es) (reverse (e ∷ []))
    ∙ ap (λ xs. xs ++ filter_map step_of (reverse (e ∷ []))) (no-steps es (All-tail IsFlush e es h))
    ∙ no-step e (All-head IsFlush e es h)

pub last-step : (before behind : List Entry) (t : ℕ) → All IsFlush behind → failing_thread (before ++ Step t ∷ behind) ≡ Some t
last-step before behind t h =
    ap (λ xs. slice_get (filter_map step_of xs) 0) (reverse-append before (Step t ∷ behind) ∙ ap (λ xs. xs ++ reverse before) (reverse-append (Step t ∷ []) behind))
    ∙ ap (λ xs. slice_get xs 0) (filter_map-append step_of (reverse behind ++ Step t ∷ []) (reverse before) ∙ ap (λ xs. xs ++ filter_map step_of (reverse before)) (filter_map-append step_of (reverse behind) (Step t ∷ []) ∙ ap (λ xs. xs ++ t ∷ []) (no-steps behind h)))

-- the failing thread's locals stay to the end
pub locals-stay : (r : Rules) (p : Listing) (n : ℕ) (es : List Entry) (t : ℕ) (last : State) → run r p (initial p) es ≡ Some last → (by : FailsBy r p n es t) → locals_of last t ≡ by.frame.locals
unfolding act
locals-stay r p n es t last d by =
    let failed : State = record by.mid { verdict = Some n; threads = slice_set by.mid.threads t (on by.frame) } in
    let behind : List Entry → State → Option State = λ xs mid. run r p mid xs in
    let whole : run r p (initial p) (by.before ++ Step t ∷ by.behind) ≡ Some last = subst (λ xs. run r p (initial p) xs ≡ Some last) by.parts d in
    let from : run r p by.mid (Step t ∷ by.behind) ≡ Some last = sym (ap (λ o. o >>= behind (Step t ∷ by.behind)) by.runs) ∙ sym (run-append r p (initial p) by.before (Step t ∷ by.behind)) ∙ whole in
    let one : next r p by.mid (Step t) ≡ Some failed = step_is r p by.mid t by.frame (Assert by.value n) by.at ∙ ap (λ b. option_map (λ a. moved (done by.mid t a) t (framed by.frame a)) (Some (if b then Fails n else Goes (by.frame.place + 1)))) by.zero in
    let rest : run r p failed by.behind ≡ Some last = sym (ap (λ o. o >>= behind by.behind) one) ∙ from in
    ap (λ ts. (slice_index_or ts t idle).locals) (follows r p n by.behind failed last refl rest).leaves.threads
    ∙ ap (λ (f : Frame). f.locals) (get_or-set_same by.mid.threads t (on by.frame) idle (slice_get_within by.mid.threads t by.frame by.at.frame))
