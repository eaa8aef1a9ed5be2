-- An order that keeps the edges and the added ones is a run of the partial machine.
use Rattle.std.proofs.Common.{arith, ◌≡◌, ℕ, ◌<◌, ℤ, List, [], ◌∷◌, ◌++◌, map, Some, refl, Bool, true, false, sym, ◌∙◌, ap, ap₂, subst, ⊎_elim, ◌==◌}
use Rattle.std.specs.Prelude.{◌&&◌}
use Rattle.std.proofs.lemmas.Bool.{cases_eq, eq-eqb, and_from, or_left}
use Rattle.mm_goto.specs.Bounds.{Bounding}
use Rattle.mm_goto.specs.declared.model.Model.{Model}
use Rattle.mm_goto.specs.Listing.{Listing}
use Rattle.mm_sched.specs.declared.entry.Act.{Act}
use Rattle.mm_sched.specs.declared.entry.Act.TheVariants.{Pushes, Puts}
use Rattle.mm_sched.specs.declared.entry.Entry.{Entry}
use Rattle.mm_sched.specs.declared.entry.Event.{Event}
use Rattle.mm_sched.specs.declared.entry.Event.TheVariants.{Does, Flushes}
use Rattle.mm_sched.specs.declared.entry.Rules.{Rules}
use Rattle.mm_sched.specs.declared.entry.Rules.TheVariants.{Buffered, Partial}
use Rattle.mm_sched.specs.Guarded.{◌>>=◌}
use Rattle.mm_sched.specs.State.{Frame, State, idle, frame_of, pending_of}
use Rattle.mm_sched.specs.Buffer.{is_empty, is_in, part}
use Rattle.mm_sched.specs.Event.{event, after, acted}
use Rattle.std.proofs.lemmas.Option.{get_or_from_slice_get}
use Rattle.mm_rungraph.specs.declared.graph.RunGraph.{RunGraph}
use Rattle.mm_runkeys.specs.declared.keys.Layout.{Layout}
use Rattle.mm_runkeys.specs.Keys.{key, deed}
use Rattle.mm_runkeys.specs.Spans.{is_key}
use Rattle.mm_rungraph.specs.Traces.{events_of, after_all}
use Rattle.mm_reorder.specs.Orders.{Taken, Stands, AreSteps}
use Rattle.mm_reorder.proofs.Cut.{with_step}
use Rattle.mm_reorder.proofs.Doing.{Ran, Did, did_event}
use Rattle.mm_reorder.proofs.Fusing.{IsPlain, plain_step, pair_step, fused}
use Rattle.mm_reorder.proofs.Parts.{Ghost, FrameOf, PushedOf, PoppedOf, changes, follow, frame_alike}
use Rattle.mm_reorder.proofs.Queue.{live, live_none}
use Rattle.mm_reorder.proofs.Settle.{Kind, Held, Frees, Other, places, settled, Keeps, with_kept, with_other}
use Rattle.mm_reorder.proofs.Walking.{Walk, Queued, Fresh, Agree, Cuts, Given, same_at, again, fresh_again, agree_on, queued_on}

-- what is done is closed under the edges
abbrev pub Closed : (ℕ → ℕ → Type 0) → (ℕ → Bool) → Type 0
Closed E done = (a b : ℕ) → E a b → done b ≡ true → done a ≡ true

pub closed_step : (E : ℕ → ℕ → Type 0) (done : ℕ → Bool) (v : ℕ) → Closed E done → ((a : ℕ) → E a v → done a ≡ true) → Closed E (with_step done v)
closed_step E done v closed ready a b g d = ⊎_elim
    (λ e. with_kept done v a (ready a (subst (λ x. E a x) e g)))
    (λ n. with_kept done v a (closed a b g (sym (with_other done v b n) ∙ d)))
    (cases_eq b v)

-- ---- steps, one after another

-- the steps lead from the one state to the other
pub record Leads (r : Rules) (p : Listing) (s : State) (steps : List Taken) (last : State) : Type 0 where
  pub happen : events_of r p s (map (λ (x : Taken). x.0) steps) ≡ Some (map (λ (x : Taken). x.1) steps)
  pub ends : after_all s (map (λ (x : Taken). x.1) steps) ≡ last

module _ (r : Rules) (p : Listing) where
  pub leads_none : (s : State) → Leads r p s [] s
  leads_none s = record { happen = refl; ends = refl }

  pub leads_first : (s mid last : State) (e : Entry) (v : Event) (rest : List Taken) → event r p s e ≡ Some v → after s v ≡ mid → Leads r p mid rest last → Leads r p s ((e, v) ∷ rest) last
  leads_first s mid last e v rest x same h =
      let on : Leads r p (after s v) rest last = subst (λ z. Leads r p z rest last) (sym same) h in record {
        happen = ap (λ o. o >>= λ w. events_of r p (after s w) (map (λ (y : Taken). y.0) rest) >>= λ ws. Some (w ∷ ws)) x ∙ ap (λ o. o >>= λ ws. Some (v ∷ ws)) on.happen;
        ends = on.ends;
      }

-- ---- an order

-- the steps are some of the first ones, and none is the one that fails
abbrev pub Below : ℕ → ℕ → List ℕ → Type 0
Below size fail [] = Unit {0}
Below size fail (n ∷ ns) = (n < size) × (fail ≡ n → ⊥) × Below size fail ns

module _ (m : Model) (bound : Bounding) (p : Listing) (set : List (List Bool)) (w : Walk m bound p) where
  abbrev pub place_at : ℕ → ℕ → ℕ
  place_at n t = (frame_of (w.at n).state t).place

  -- step n is the flush of the store that step a makes outside the set
  pub record IsPair (a n : ℕ) : Type 0 where
    pub thread : ℕ
    pub cell : ℕ
    pub value : ℤ
    pub made : w.what a ≡ Does thread (Pushes cell value)
    pub flushed : w.what n ≡ Flushes thread cell value
    pub counts : (w.at n).popped thread (key m cell) ≡ (w.at a).pushed thread (key m cell)
    pub outside : is_in set thread (place_at a thread) ≡ false

  -- what stands for step n
  abbrev pub Lays : Kind → ℕ → List Taken → Type 0
  Lays Held n here = here ≡ []
  Lays (Frees a) n here = (pair : IsPair a n) × (here ≡ (w.by a, Does pair.thread (Puts pair.cell pair.value)) ∷ [])
  Lays Other n here = here ≡ (w.by n, w.what n) ∷ []

  module _ (kind : ℕ → Kind) (E : ℕ → ℕ → Type 0) (fail : ℕ)
      (frees_below : (a n : ℕ) → kind n ≡ Frees a → a < w.size)
      (frees_other : (a n : ℕ) → kind n ≡ Frees a → fail ≡ a → ⊥)
      (supply : (done : ℕ → Bool) (g : Ghost) (v : ℕ) → v < w.size → done fail ≡ false → done v ≡ false → ((a : ℕ) → E a v → done a ≡ true) → Closed E done
      → Agree m bound p w done g → Queued m w.stores g → Given m bound p w done g v)
      (inside : (n : ℕ) → n < w.size → kind n ≡ Other → (t c : ℕ) (x : ℤ) → w.what n ≡ Does t (Pushes c x) → is_in set t (place_at n t) ≡ true)
      (s : Layout) (graph : RunGraph) (es : List Event)
      (lays : (n : ℕ) → n < w.size → (here : List Taken) → Stands s p set graph es n here → Lays (kind n) n here) where
    abbrev Machine : Rules
    Machine = Partial m bound set

    -- where the first steps lead, before the rest of the order
    pub record Reordered (from : State) (steps : List Taken) (rest : List ℕ) : Type 0 where
      pub later : ℕ → Bool
      pub ghost : Ghost
      pub leads : Leads Machine p from steps ghost.state
      pub fails_later : later fail ≡ false
      pub agree : Agree m bound p w later ghost
      pub queued : Queued m w.stores ghost
      pub closed : Closed E later
      pub keeps : Keeps E later (settled kind rest)

    frame_there : (done : ℕ → Bool) (g : Ghost) (n t : ℕ) → n < w.size → Agree m bound p w done g → Cuts m bound p w done (FrameOf t) n → frame_of g.state t ≡ frame_of (w.at n).state t
    frame_there done g n t l a c = frame_alike g.state (w.at n).state t (same_at m bound p w done g (FrameOf t) n a c (omega arith))

    own_frame : (t : ℕ) (a : Act) → changes m (Does t a) (FrameOf t) ≡ true
    own_frame t a = or_left (t == t) (is_key t (deed a).starts) (eq-eqb t t refl)

    pub plain_at : (done : ℕ → Bool) (g : Ghost) (n : ℕ) → n < w.size → kind n ≡ Other → Agree m bound p w done g → Given m bound p w done g n → (d : Did (Buffered m bound) p g.state (w.by n) (w.what n)) → event Machine p g.state (w.by n) ≡ Some (w.what n)
    plain_at done g n l k agree given d = did_event Machine p g.state (w.by n) (w.what n) (plain_step m bound set p g.state (w.by n) (w.what n) d (go (w.what n) refl d))
      where
        go : (v : Event) → w.what n ≡ v → (b : Did (Buffered m bound) p g.state (w.by n) v) → IsPlain m bound set p g.state (w.by n) v b
        go (Flushes t c x) e b = tt
        go (Does t a) e b = λ c x f.
            let cut : Cuts m bound p w done (FrameOf t) n = given.0 (FrameOf t) (ap (λ v. changes m v (FrameOf t)) e ∙ own_frame t a) in
            ap (λ (z : Frame). is_in set t z.place) (sym (get_or_from_slice_get g.state.threads t b.frame idle b.there) ∙ frame_there done g n t l agree cut) ∙ inside n l k t c x (e ∙ ap (Does t) f)

    -- a direct store and its flush
    pair_at : (done : ℕ → Bool) (g : Ghost) (a n : ℕ) (pair : IsPair a n) (l : a < w.size) (j : n < w.size) (agree : Agree m bound p w done g) (queued : Queued m w.stores g) → Given m bound p w done g a → Agree m bound p w (with_step done a) (follow m g (w.what a)) → Given m bound p w (with_step done a) (follow m g (w.what a)) n
        → (event Machine p g.state (w.by a) ≡ Some (Does pair.thread (Puts pair.cell pair.value))) × (acted g.state pair.thread (Puts pair.cell pair.value) ≡ (follow m (follow m g (w.what a)) (w.what n)).state)
    pair_at done g a n pair l j agree queued given agree2 given2 =
        let t = pair.thread in
        let c = pair.cell in
        let x = pair.value in
        let did : Ran (Buffered m bound) p g.state (w.by a) t (Pushes c x) = subst (Did (Buffered m bound) p g.state (w.by a)) pair.made (again m bound p w done g a l agree queued given) in
        let fresh : Fresh m w.stores g (Does t (Pushes c x)) = subst (Fresh m w.stores g) pair.made (fresh_again m bound p w done g a l agree queued given) in
        let into : g.pushed t (key m c) ≡ (w.at a).pushed t (key m c) = same_at m bound p w done g (PushedOf t (key m c)) a agree (given.0 (PushedOf t (key m c)) (ap (λ v. changes m v (PushedOf t (key m c))) pair.made ∙ one_queue t (key m c))) (omega arith) in
        let out : g.popped t (key m c) ≡ (w.at n).popped t (key m c) = ap (λ v. (follow m g v).popped t (key m c)) (sym pair.made) ∙ same_at m bound p w (with_step done a) (follow m g (w.what a)) (PoppedOf t (key m c)) n agree2 (given2.0 (PoppedOf t (key m c)) (ap (λ v. changes m v (PoppedOf t (key m c))) pair.flushed ∙ one_queue t (key m c))) (omega arith) in
        let empty : is_empty (part m (pending_of g.state t) c) ≡ true = ap is_empty ((queued t c).1 ∙ ap (λ i. live (w.stores t (key m c)) i (g.pushed t (key m c))) (out ∙ pair.counts ∙ sym into) ∙ live_none (w.stores t (key m c)) (g.pushed t (key m c))) in
        let cut : Cuts m bound p w done (FrameOf t) a = given.0 (FrameOf t) (ap (λ v. changes m v (FrameOf t)) pair.made ∙ own_frame t (Pushes c x)) in
        let outside : is_in set t did.frame.place ≡ false = ap (λ (z : Frame). is_in set t z.place) (sym (get_or_from_slice_get g.state.threads t did.frame idle did.there) ∙ frame_there done g a t l agree cut) ∙ pair.outside in (
          did_event Machine p g.state (w.by a) (Does t (Puts c x)) (pair_step m bound set p g.state (w.by a) t c x did outside empty),
          sym (fused m g.state t c x fresh.1 empty) ∙ ap₂ (λ u v. (follow m (follow m g u) v).state) (sym pair.made) (sym pair.flushed),
        )
      where
        one_queue : (t k : ℕ) → ((t == t) && (k == k)) ≡ true
        one_queue t k = and_from (t == t) (k == k) (eq-eqb t t refl) (eq-eqb k k refl)

    pub reorder : (ns rest : List ℕ) (steps : List Taken) → AreSteps s p set graph es ns steps → (done : ℕ → Bool) (g : Ghost) → done fail ≡ false → Below w.size fail ns → Agree m bound p w done g → Queued m w.stores g → Closed E done → Keeps E done (settled kind (ns ++ rest)) → Reordered g.state steps rest
    reorder [] rest steps are done g nf b a q c keeps = record {
      later = done;
      ghost = g;
      leads = subst (λ z. Leads Machine p g.state z g.state) (sym are) (leads_none Machine p g.state);
      fails_later = nf;
      agree = a;
      queued = q;
      closed = c;
      keeps = keeps;
    }
    reorder (n ∷ ns) rest steps (here, left, parts, stands, are) done g nf b a q c keeps =
        subst (λ z. Reordered g.state z rest) (sym parts) (go (kind n) refl (lays n b.0 here stands) keeps (λ later h x. reorder ns rest left are later h x b.2))
      where
        on : (from mid : State) (e : Entry) (v : Event) → event Machine p from e ≡ Some v → after from v ≡ mid → Reordered mid left rest → Reordered from ((e, v) ∷ left) rest
        on from mid e v x y r = record {
          later = r.later;
          ghost = r.ghost;
          leads = leads_first Machine p from mid r.ghost.state e v left x y r.leads;
          fails_later = r.fails_later;
          agree = r.agree;
          queued = r.queued;
          closed = r.closed;
          keeps = r.keeps;
        }

        go : (k : Kind) → kind n ≡ k → Lays k n here → Keeps E done (places k n ++ settled kind (ns ++ rest))
            → ((later : ℕ → Bool) (h : Ghost) → later fail ≡ false → Agree m bound p w later h → Queued m w.stores h → Closed E later → Keeps E later (settled kind (ns ++ rest)) → Reordered h.state left rest)
            → Reordered g.state (here ++ left) rest
        go Held e lay keep ih = subst (λ z. Reordered g.state (z ++ left) rest) (sym lay) (ih done g nf a q c keep)
        go Other e lay keep ih =
            let given = supply done g n b.0 nf keep.0 keep.1 c a q in
            let did = again m bound p w done g n b.0 a q given in
            let r = ih (with_step done n) (follow m g (w.what n)) (with_other done n fail b.1 ∙ nf) (agree_on m bound p w done g n b.0 a q given) (queued_on m bound p w done g n b.0 a q given) (closed_step E done n c keep.1) keep.2 in
            subst (λ z. Reordered g.state (z ++ left) rest) (sym lay) (on g.state (after g.state (w.what n)) (w.by n) (w.what n) (plain_at done g n b.0 e a given did) refl r)
        go (Frees f) e lay keep ih =
            let l = frees_below f n e in
            let given = supply done g f l nf keep.0 keep.1 c a q in
            let nf1 : with_step done f fail ≡ false = with_other done f fail (frees_other f n e) ∙ nf in
            let a1 = agree_on m bound p w done g f l a q given in
            let q1 = queued_on m bound p w done g f l a q given in
            let c1 = closed_step E done f c keep.1 in
            let given2 = supply (with_step done f) (follow m g (w.what f)) n b.0 nf1 keep.2.0 keep.2.1 c1 a1 q1 in
            let r = ih (with_step (with_step done f) n) (follow m (follow m g (w.what f)) (w.what n)) (with_other (with_step done f) n fail b.1 ∙ nf1) (agree_on m bound p w (with_step done f) (follow m g (w.what f)) n b.0 a1 q1 given2) (queued_on m bound p w (with_step done f) (follow m g (w.what f)) n b.0 a1 q1 given2) (closed_step E (with_step done f) n c1 keep.2.1) keep.2.2 in
            let both = pair_at done g f n lay.0 l b.0 a q given a1 given2 in
            subst (λ z. Reordered g.state (z ++ left) rest) (sym lay.1) (on g.state (follow m (follow m g (w.what f)) (w.what n)).state (w.by f) (Does lay.0.thread (Puts lay.0.cell lay.0.value)) both.0 both.1 r)
