-- An order that keeps the edges, up to and with the assertion that fails.
use Rattle.std.proofs.Common.{arith, ◌≡◌, ◌==◌, ℕ, ℤ, zero, ◌<◌, List, [], ◌∷◌, ◌++◌, length, map, Option, Some, None, refl, Bool, true, false, sym, ◌∙◌, ap, ap₂, subst, slice_get, inl, get_or-set_same}
use Rattle.std.proofs.lemmas.Bool.{false≢true, eq-eqb, or_left}
use Rattle.std.proofs.lemmas.List.{map-append}
use Rattle.std.proofs.lemmas.Option.{slice_get_within}
use Rattle.mm_goto.specs.Bounds.{Bounding}
use Rattle.mm_goto.specs.declared.model.Model.{Model}
use Rattle.mm_goto.specs.Listing.{Listing}
use Rattle.mm_sched.specs.declared.entry.Act.TheVariants.{Fails, Pushes}
use Rattle.mm_sched.specs.declared.entry.Entry.{Entry}
use Rattle.mm_sched.specs.declared.entry.Event.{Event}
use Rattle.mm_sched.specs.declared.entry.Event.TheVariants.{Does}
use Rattle.mm_sched.specs.declared.entry.Rules.{Rules}
use Rattle.mm_sched.specs.declared.entry.Rules.TheVariants.{Buffered, Partial}
use Rattle.mm_sched.specs.Guarded.{◌>>=◌}
use Rattle.mm_sched.specs.State.{Frame, State, idle, frame_of, pending_of}
use Rattle.mm_sched.specs.Buffer.{is_empty}
use Rattle.mm_sched.specs.Event.{event, after, acted, on}
use Rattle.mm_rungraph.specs.declared.graph.RunGraph.{RunGraph}
use Rattle.mm_runkeys.specs.Keys.{deed, pops}
use Rattle.mm_runkeys.specs.Spans.{is_key}
use Rattle.mm_rungraph.specs.RunGraph.{layout_of, Once}
use Rattle.mm_rungraph.specs.Traces.{events_of, after_all}
use Rattle.mm_rungraph.proofs.Flushing.{after_both}
use Rattle.mm_reorder.specs.Orders.{Precedes, Taken, AreSteps}
use Rattle.mm_reorder.proofs.Arranging.{In, InTwo, in_two, keeps_from, below_from, one_place, at_front, on_left}
use Rattle.mm_reorder.proofs.Classes.{All, kind, kind_is, lays, frees_below, frees_other, inside, held, once, issue, release, what_is}
use Rattle.mm_reorder.proofs.Course.{Course, Edge, by_is}
use Rattle.mm_reorder.proofs.Doing.{Did, Ran}
use Rattle.mm_reorder.proofs.Parts.{Ghost, FrameOf, same_refl, changes, frame_alike}
use Rattle.mm_reorder.proofs.Reordering.{Below, Closed, Leads, leads_none, leads_first, Lays, reorder, plain_at}
use Rattle.mm_reorder.proofs.Settle.{Kind, Held, Frees, Other, places, settled, Keeps, settle}
use Rattle.mm_reorder.proofs.Supplying.{supply}
use Rattle.mm_reorder.proofs.Walking.{Queued, Agree, Given, same_at, again}

-- ---- steps in two parts

module _ (r : Rules) (p : Listing) where
  happen_both : (es fs : List Entry) (s : State) (vs us : List Event) → events_of r p s es ≡ Some vs → events_of r p (after_all s vs) fs ≡ Some us → events_of r p s (es ++ fs) ≡ Some (vs ++ us)
  happen_both [] fs s vs us h d = let same : [] ≡ vs = cc in subst (λ ws. events_of r p (after_all s ws) fs ≡ Some us → events_of r p s fs ≡ Some (ws ++ us)) same (λ x. x) d
  happen_both (e ∷ es) fs s vs us h d = go (event r p s e) refl h (λ w ws. happen_both es fs (after s w) ws us)
    where
      both : (w : Event) (o : Option (List Event)) → (o >>= λ ws. Some (w ∷ ws)) ≡ Some vs → (ws : List Event) × (o ≡ Some ws) × (w ∷ ws ≡ vs)
      both w None x = cc
      both w (Some ws) x = (ws, refl, cc)

      go : (o : Option Event) → event r p s e ≡ o → (o >>= λ w. events_of r p (after s w) es >>= λ ws. Some (w ∷ ws)) ≡ Some vs
          → ((w : Event) (ws : List Event) → events_of r p (after s w) es ≡ Some ws → events_of r p (after_all (after s w) ws) fs ≡ Some us → events_of r p (after s w) (es ++ fs) ≡ Some (ws ++ us))
          → events_of r p s (e ∷ (es ++ fs)) ≡ Some (vs ++ us)
      go None x y ih = cc
      go (Some w) x y ih =
          let b = both w (events_of r p (after s w) es) y in
          let rest : events_of r p (after s w) (es ++ fs) ≡ Some (b.0 ++ us) = ih w b.0 b.1 (subst (λ ws. events_of r p (after_all s ws) fs ≡ Some us) (sym b.2) d) in
          ap (λ o. o >>= λ z. events_of r p (after s z) (es ++ fs) >>= λ ws. Some (z ∷ ws)) x
          ∙ ap (λ o. o >>= λ ws. Some (w ∷ ws)) rest
          ∙ ap (λ ws. Some (ws ++ us)) b.2

  pub leads_both : (m : Model) (bound : Bounding) (s mid last : State) (xs ys : List Taken) → Leads r p s xs mid → Leads r p mid ys last → Leads r p s (xs ++ ys) last
  leads_both m bound s mid last xs ys a b = record {
    happen =
        ap (events_of r p s) (map-append (λ (x : Taken). x.0) xs ys)
        ∙ happen_both (map (λ (x : Taken). x.0) xs) (map (λ (x : Taken). x.0) ys) s (map (λ (x : Taken). x.1) xs) (map (λ (x : Taken). x.1) ys) a.happen (subst (λ z. events_of r p z (map (λ (x : Taken). x.0) ys) ≡ Some (map (λ (x : Taken). x.1) ys)) (sym a.ends) b.happen)
        ∙ ap Some (sym (map-append (λ (x : Taken). x.1) xs ys));
    ends =
        ap (after_all s) (map-append (λ (x : Taken). x.1) xs ys)
        ∙ after_both m bound p s (map (λ (x : Taken). x.1) xs) (map (λ (x : Taken). x.1) ys)
        ∙ ap (λ z. after_all z (map (λ (x : Taken). x.1) ys)) a.ends
        ∙ b.ends;
  }

-- ---- an assertion that fails

pub failed_verdict : (s : State) (t n : ℕ) → (acted s t (Fails n)).verdict ≡ Some n
unfolding acted
failed_verdict s t n = refl

pub failed_locals : (s : State) (t n : ℕ) → t < length s.threads → (frame_of (acted s t (Fails n)) t).locals ≡ (frame_of s t).locals
unfolding acted
failed_locals s t n l = ap (λ (f : Frame). f.locals) (get_or-set_same s.threads t (on (frame_of s t)) idle l)

abbrev no_nodes : List ℕ
no_nodes = []

nothing_in : (i n : ℕ) → slice_get no_nodes i ≡ Some n → ⊥
nothing_in i n h = cc

module _ (m : Model) (bound : Bounding) (p : Listing) (k : Course m bound p) (set : List (List Bool)) (g : RunGraph) (entries : g.entries ≡ k.entries)
    (empty_end : (t : ℕ) → is_empty (pending_of (k.walk.at k.walk.size).state t) ≡ true)
    (order : List ℕ) (only_once : Once order) (there : (a v : ℕ) → All m bound p k set a v → In order a) (earlier : (a v : ℕ) → All m bound p k set a v → Precedes order a v)
    (within : (n : ℕ) → In order n → n < k.walk.size)
    (before : List ℕ) (fail : ℕ) (behind : List ℕ) (parts : order ≡ before ++ fail ∷ behind)
    (thread n : ℕ) (lf : fail < k.walk.size) (ef : k.walk.what fail ≡ Does thread (Fails n))
    (steps : List Taken) (are : AreSteps (layout_of m bound p) p set g k.events (before ++ fail ∷ []) steps) where
  -- where the steps lead
  pub record Finished : Type 0 where
    pub last : State
    pub leads : Leads (Partial m bound set) p (k.walk.at zero).state steps last
    pub verdict : last.verdict ≡ Some n
    pub locals : (frame_of last thread).locals ≡ (frame_of (k.walk.at fail).state thread).locals
    pub front : List Taken
    pub ends : steps ≡ front ++ (k.walk.by fail, k.walk.what fail) ∷ []

  keeps_all : Keeps (All m bound p k set) (λ (i : ℕ). false) order
  keeps_all = keeps_from (All m bound p k set) order only_once there earlier order [] (λ (i : ℕ). false) refl (λ i d. absurd (false≢true d)) (λ i h. absurd (nothing_in h.0 i h.1))

  keeps_settled : Keeps (Edge m bound p k) (λ (i : ℕ). false) (settled (kind m bound p k set) (before ++ fail ∷ behind))
  keeps_settled = subst (λ xs. Keeps (Edge m bound p k) (λ (i : ℕ). false) (settled (kind m bound p k set) xs)) parts
      (settle (kind m bound p k set) (Edge m bound p k) (All m bound p k set) (λ a b e. inl e) (held m bound p k set) (once m bound p k set) (issue m bound p k set) (release m bound p k set empty_end)
      order (λ (i : ℕ). false) (λ (i : ℕ). false) (λ i d. refl, λ i j d. refl) (λ a b e d. absurd (false≢true d)) keeps_all)

  other_fail : kind m bound p k set fail ≡ Other
  other_fail = go (kind m bound p k set fail) refl
    where
      no_store : (u c : ℕ) (x : ℤ) → Does u (Pushes c x) ≡ Does thread (Fails n) → ⊥
      no_store u c x h = cc

      no_pop : (q : ℕ) → None ≡ Some q → ⊥
      no_pop q h = cc

      go : (kk : Kind) → kind m bound p k set fail ≡ kk → kind m bound p k set fail ≡ Other
      go Other e = e
      go Held e = let d = kind_is m bound p k set Held fail e in absurd (no_store d.thread d.cell d.value (sym (what_is m bound p k set fail (Does d.thread (Pushes d.cell d.value)) d.stores) ∙ ef))
      go (Frees a) e = let i = (kind_is m bound p k set (Frees a) fail e).1 in absurd (no_pop i.queue (sym (by_is m bound p k (pops (layout_of m bound p)) fail lf ∙ ap (pops (layout_of m bound p)) ef) ∙ i.flushed.is))

  start_agree : Agree m bound p k.walk (λ (i : ℕ). false) (k.walk.at zero)
  start_agree x = (zero, omega arith, (λ u l h. (λ d. absurd (false≢true d), λ b. absurd (omega (arith, b)))), same_refl (k.walk.at zero) x)

  start_below : Below k.walk.size fail before
  start_below = below_from k.walk.size fail before (λ i h. (
    within i (h.0, ap (λ xs. slice_get xs h.0) parts ∙ on_left before (fail ∷ behind) h.0 i h.1),
    λ e.
        let l : h.0 < length before = slice_get_within before h.0 i h.1 in
        let same : h.0 ≡ length before = one_place order only_once h.0 (length before) i (ap (λ xs. slice_get xs h.0) parts ∙ on_left before (fail ∷ behind) h.0 i h.1) (ap (λ xs. slice_get xs (length before)) parts ∙ at_front before fail behind ∙ ap Some e) in
        absurd (omega (arith, l, same)),
  ))

  supplied : (done : ℕ → Bool) (h : Ghost) (v : ℕ) → v < k.walk.size → done fail ≡ false → done v ≡ false → ((a : ℕ) → Edge m bound p k a v → done a ≡ true) → Closed (Edge m bound p k) done → Agree m bound p k.walk done h → Queued m k.walk.stores h → Given m bound p k.walk done h v
  supplied done h v l nf fresh ready closed agree queued = supply m bound p k fail thread n lf ef done h v l nf fresh ready closed agree queued

  pub finished : Finished
  finished = go (in_two (layout_of m bound p) p set g k.events before (fail ∷ []) steps are)
    where
      go : InTwo (layout_of m bound p) p set g k.events before (fail ∷ []) steps → Finished
      go two =
          let r = reorder m bound p set k.walk (kind m bound p k set) (Edge m bound p k) fail (frees_below m bound p k set) (frees_other m bound p k set fail thread n ef) supplied (inside m bound p k set) (layout_of m bound p) g k.events (lays m bound p k set g entries)
          before (fail ∷ behind) two.front two.one (λ (i : ℕ). false) (k.walk.at zero) refl start_below start_agree (k.walk.queued zero (omega arith)) (λ a b e d. absurd (false≢true d)) keeps_settled in
          let keep : Keeps (Edge m bound p k) r.later (fail ∷ settled (kind m bound p k set) behind) = subst (λ kk. Keeps (Edge m bound p k) r.later (places kk fail ++ settled (kind m bound p k set) behind)) other_fail r.keeps in
          let given : Given m bound p k.walk r.later r.ghost fail = supplied r.later r.ghost fail lf r.fails_later keep.0 keep.1 r.closed r.agree r.queued in
          let did : Did (Buffered m bound) p r.ghost.state (k.walk.by fail) (k.walk.what fail) = again m bound p k.walk r.later r.ghost fail lf r.agree r.queued given in
          let ran : Ran (Buffered m bound) p r.ghost.state (k.walk.by fail) thread (Fails n) = subst (Did (Buffered m bound) p r.ghost.state (k.walk.by fail)) ef did in
          let happens : event (Partial m bound set) p r.ghost.state (k.walk.by fail) ≡ Some (k.walk.what fail) = plain_at m bound p set k.walk (kind m bound p k set) (Edge m bound p k) fail (frees_below m bound p k set) (frees_other m bound p k set fail thread n ef) supplied (inside m bound p k set) (layout_of m bound p) g k.events (lays m bound p k set g entries) r.later r.ghost fail lf other_fail r.agree given did in
          let here : two.two.0 ≡ (k.walk.by fail, k.walk.what fail) ∷ [] = subst (λ kk. Lays m bound p set k.walk kk fail two.two.0) other_fail (lays m bound p k set g entries fail lf two.two.0 two.two.3) in
          let back : two.back ≡ (k.walk.by fail, k.walk.what fail) ∷ [] = two.two.2 ∙ ap₂ (λ xs ys. xs ++ ys) here two.two.4 in
          let state : State = acted r.ghost.state thread (Fails n) in
          let one : Leads (Partial m bound set) p r.ghost.state ((k.walk.by fail, k.walk.what fail) ∷ []) state = leads_first (Partial m bound set) p r.ghost.state state state (k.walk.by fail) (k.walk.what fail) [] happens (ap (after r.ghost.state) ef) (leads_none (Partial m bound set) p state) in
          let all : steps ≡ two.front ++ (k.walk.by fail, k.walk.what fail) ∷ [] = two.parts ∙ ap (λ xs. two.front ++ xs) back in
          let frames : frame_of r.ghost.state thread ≡ frame_of (k.walk.at fail).state thread = frame_alike r.ghost.state (k.walk.at fail).state thread (same_at m bound p k.walk r.later r.ghost (FrameOf thread) fail r.agree (given.0 (FrameOf thread) (ap (λ v. changes m v (FrameOf thread)) ef ∙ or_left (thread == thread) (is_key thread (deed (Fails n)).starts) (eq-eqb thread thread refl))) (omega arith)) in
          record {
            last = state;
            leads = subst (λ xs. Leads (Partial m bound set) p (k.walk.at zero).state xs state) (sym all) (leads_both (Partial m bound set) p m bound (k.walk.at zero).state r.ghost.state state two.front ((k.walk.by fail, k.walk.what fail) ∷ []) r.leads one);
            verdict = failed_verdict r.ghost.state thread n;
            locals = failed_locals r.ghost.state thread n (slice_get_within r.ghost.state.threads thread ran.frame ran.there) ∙ ap (λ (f : Frame). f.locals) frames;
            front = two.front;
            ends = all;
          }
