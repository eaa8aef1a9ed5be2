-- Entries, one after another.
use Rattle.std.proofs.Common.{◌≡◌, ℕ, ◌+◌, ◌<◌, List, [], ◌∷◌, ◌++◌, length, take, Option, Some, None, refl, sym, ◌∙◌, ap, subst, slice_get, slice_index_or}
use Rattle.std.proofs.lemmas.List.{take_more}
use Rattle.std.proofs.lemmas.Option.{slice_get-get_or}
use Rattle.mm_goto.specs.Listing.{Listing}
use Rattle.mm_sched.specs.declared.entry.Entry.{Entry}
use Rattle.mm_sched.specs.declared.entry.Rules.{Rules}
use Rattle.mm_sched.specs.declared.entry.Event.{Event}
use Rattle.mm_sched.specs.Guarded.{◌>>=◌}
use Rattle.mm_sched.specs.State.{State}
use Rattle.mm_sched.specs.Event.{event, after}
use Rattle.mm_runkeys.specs.declared.keys.Layout.{Layout}
use Rattle.mm_runkeys.specs.reading.Marks.{Marks, marked}
use Rattle.mm_rungraph.specs.Traces.{events_of, after_all}
use Rattle.mm_rungraph.specs.reading.Walking.{marked_all, Walking, Leads, Steps, Stops, Halts, StopsAt}
use Rattle.mm_rungraph.specs.declared.graph.RunFault.{RunFault}
use Rattle.mm_rungraph.specs.declared.graph.RunFault.TheVariants.{Stuck, NotFailing, NoMemory}

pub after_more : (s : State) (vs : List Event) (v : Event) → after_all s (vs ++ v ∷ []) ≡ after (after_all s vs) v
after_more s [] v = refl
after_more s (w ∷ vs) v = after_more (after s w) vs v

marked_more : (s : Layout) (g : Marks) (vs : List Event) (v : Event) → marked_all s g (vs ++ v ∷ []) ≡ marked s (marked_all s g vs) v
marked_more s g [] v = refl
marked_more s g (w ∷ vs) v = marked_more s (marked s g w) vs v

module _ (r : Rules) (p : Listing) where
  events_more : (s : State) (es : List Entry) (vs : List Event) (e : Entry) (v : Event) → events_of r p s es ≡ Some vs → event r p (after_all s vs) e ≡ Some v → events_of r p s (es ++ e ∷ []) ≡ Some (vs ++ v ∷ [])
  events_more s [] [] e v h k = rw k refl
  events_more s [] (w ∷ vs) e v h k = cc
  events_more s (d ∷ es) vs e v h k = go (event r p s d) refl vs h k (λ w us. events_more (after s w) es us e v)
    where
      both : (w : Event) (o : Option (List Event)) (vs : List Event) → (o >>= λ us. Some (w ∷ us)) ≡ Some vs → (us : List Event) × (o ≡ Some us) × (w ∷ us ≡ vs)
      both w None vs h = cc
      both w (Some us) vs h = (us, refl, cc)

      go : (o : Option Event) → event r p s d ≡ o → (vs : List Event) → (o >>= λ w. events_of r p (after s w) es >>= λ us. Some (w ∷ us)) ≡ Some vs → event r p (after_all s vs) e ≡ Some v
          → ((w : Event) (us : List Event) → events_of r p (after s w) es ≡ Some us → event r p (after_all (after s w) us) e ≡ Some v → events_of r p (after s w) (es ++ e ∷ []) ≡ Some (us ++ v ∷ []))
          → events_of r p s (d ∷ (es ++ e ∷ [])) ≡ Some (vs ++ v ∷ [])
      go None z vs h k ih = cc
      go (Some w) z vs h k ih =
          let b = both w (events_of r p (after s w) es) vs h in
          let rest : events_of r p (after s w) (es ++ e ∷ []) ≡ Some (b.0 ++ v ∷ []) = ih w b.0 b.1 (subst (λ us. event r p (after_all s us) e ≡ Some v) (sym b.2) k) in
          ap (λ o. o >>= λ x. events_of r p (after s x) (es ++ e ∷ []) >>= λ us. Some (x ∷ us)) z
          ∙ ap (λ o. o >>= λ us. Some (w ∷ us)) rest
          ∙ ap (λ us. Some (us ++ v ∷ [])) b.2

  pub leads_none : (s : Layout) (old : Walking) → Leads r p s old [] old
  leads_none s old = record { happens = []; are = refl; state = refl; marks = refl }

  pub leads_more : (s : Layout) (old mid new : Walking) (es : List Entry) (e : Entry) → Leads r p s old es mid → Steps r p s mid e new → Leads r p s old (es ++ e ∷ []) new
  leads_more s old mid new es e h k = record {
    happens = h.happens ++ k.happens ∷ [];
    are = events_more old.state es h.happens e k.happens h.are (ap (λ (z : State). event r p z e) (sym h.state) ∙ k.is);
    state = k.state ∙ ap (λ (z : State). after z k.happens) h.state ∙ sym (after_more old.state h.happens k.happens);
    marks = k.marks ∙ ap (λ (g : Marks). marked s g k.happens) h.marks ∙ sym (marked_more s old.marks h.happens k.happens);
  }

  pub leads_stuck : (s : Layout) (old mid : Walking) (es : List Entry) (i : ℕ) (e : Entry) → Leads r p s old (take i es) mid → slice_get es i ≡ Some e → event r p mid.state e ≡ None → StopsAt r p old.state es (i + 1)
  leads_stuck s old mid es i e h at none = record { before = i; number = refl; happens = h.happens; are = h.are; entry = e; at = at; stuck = ap (λ (z : State). event r p z e) (sym h.state) ∙ none }

  pub leads_next : (s : Layout) (old mid new : Walking) (es : List Entry) (i : ℕ) (d : Entry) → i < length es → Leads r p s old (take i es) mid → Steps r p s mid (slice_index_or es i d) new → Leads r p s old (take (i + 1) es) new
  leads_next s old mid new es i d l h k = subst (λ xs. Leads r p s old xs new) (sym (take_more es i d l)) (leads_more s old mid new (take i es) (slice_index_or es i d) h k)

  pub leads_halt : (s : Layout) (old mid : Walking) (es : List Entry) (i : ℕ) (d : Entry) (f : RunFault) → i < length es → Leads r p s old (take i es) mid → Halts r p mid.state (slice_index_or es i d) (i + 1) f → Stops r p old.state es f
  leads_halt s old mid es i d (Stuck k) l h n = subst (λ j. StopsAt r p old.state es j) (sym n.0) (leads_stuck s old mid es i (slice_index_or es i d) h (slice_get-get_or es i d l) n.1)
  leads_halt s old mid es i d NotFailing l h n = absurd n
  leads_halt s old mid es i d NoMemory l h n = tt
