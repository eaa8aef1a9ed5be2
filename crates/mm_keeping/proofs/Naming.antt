-- An executed access is to a cell that it names.
use Rattle.std.proofs.Common.{arith, ◌≡◌, ℕ, zero, suc, ◌<◌, ◌≤◌, ℤ, ◌⊎◌, inl, inr, ⊎_elim, List, length, Option, Some, None, refl, sym, ◌∙◌, ap, subst, slice_get}
use Rattle.std.specs.Prelude.{IsSomeAnd, option_and_then}
use Rattle.std.specs.List.{All, Contains}
use Rattle.std.proofs.lemmas.Option.{slice_get_within, same_Some}
use Rattle.mm_goto.specs.Bounds.{Bounding}
use Rattle.mm_goto.specs.declared.model.Model.{Model}
use Rattle.mm_goto.specs.declared.program.Instr.{Instr}
use Rattle.mm_goto.specs.declared.spot.Spot.{Spot}
use Rattle.mm_goto.specs.Flow.{GoesTo, IsSuccessor}
use Rattle.mm_goto.specs.Listing.{Listing}
use Rattle.mm_goto.specs.Checks.{targets}
use Rattle.mm_goto.specs.PointsTo.{MayName, place, instr_at}
use Rattle.mm_goto.specs.Sites.{Names}
use Rattle.mm_goto.specs.Sourcelike.{IsSourcelike, IsGuarded, wants}
use Rattle.mm_goto.specs.Valid.{code_of}
use Rattle.mm_sched.specs.declared.entry.Entry.{Entry}
use Rattle.mm_sched.specs.declared.entry.Rules.TheVariants.{Buffered}
use Rattle.mm_sched.specs.declared.entry.Act.{Act}
use Rattle.mm_sched.specs.declared.entry.Act.TheVariants.{Goes, Fails, Ends, Pushes}
use Rattle.mm_sched.specs.declared.entry.Event.{Event}
use Rattle.mm_sched.specs.declared.entry.Event.TheVariants.{Does, Flushes}
use Rattle.mm_sched.specs.State.{Frame, State, initial}
use Rattle.mm_sched.specs.Event.{act, input, framed, acted, flushed, event, cell_of}
use Rattle.mm_sched.proofs.Steps.{if-at}
use Rattle.mm_runkeys.specs.Keys.{writes}
use Rattle.mm_rungraph.specs.Edges.{by, IsIssued}
use Rattle.mm_rungraph.specs.RunGraph.{layout_of}
use Rattle.mm_rungraph.specs.Traces.{events_of}
use Rattle.mm_rungraph.proofs.Forward.{moment, issued_is}
use Rattle.mm_rungraph.proofs.Queues.{takes_first}
use Rattle.mm_keeping.specs.Executions.{Executes, touched}
use Rattle.mm_keeping.proofs.Guards.{Walked, wanted}
use Rattle.mm_keeping.proofs.Moving.{acted_pointed, flushed_pointed, initial_pointed}
use Rattle.mm_keeping.proofs.Pointed.{Pointed, Makes, act_makes, input_makes, known}
use Rattle.mm_keeping.proofs.Pointers.{Standing, standing, names_cell}
use Rattle.mm_keeping.proofs.Stepping.{Doing, doing, state, frame_is, instr_is, fetched_is, after_take, get_there}
use Rattle.mm_keeping.proofs.Telling.{FlowOf}
use Rattle.mm_keeping.proofs.Values.{Holds}

acted_fails : (s : State) (t n : ℕ) → (acted s t (Fails n)).verdict ≡ Some n
unfolding acted
acted_fails s t n = refl

flushed_verdict : (s : State) (t c : ℕ) (v : ℤ) → (flushed s t c v).verdict ≡ s.verdict
unfolding flushed
flushed_verdict s t c v = refl

successor : (p : Listing) (t j k : ℕ) (i : Instr) → instr_at p t j ≡ Some i → GoesTo j i k → IsSuccessor (code_of p t) j k
successor p t j k i e g = rw e g

is_there : {A : Type 0} (P : A → Type 0) (o : Option A) (a : A) → o ≡ Some a → P a → IsSomeAnd o P
is_there P None a e h = cc
is_there P (Some b) a e h = subst P (sym (same_Some b a e)) h

same_act : (t u : ℕ) (a b : Act) → Does t a ≡ Does u b → (t ≡ u) × (a ≡ b)
same_act t u a b e = (cc, cc)

module _ (m : Model) (bound : Bounding) (p : Listing) (source : IsSourcelike p) (es : List Entry) (vs : List Event) (happens : events_of (Buffered m bound) p (initial p) es ≡ Some vs) where
  abbrev at_step : ℕ → State
  at_step n = state m bound p source.valid es vs happens n

  abbrev Done : ℕ → ℕ → Act → Type 0
  Done n t a = Doing m bound p source.valid es vs happens n t a

  -- the pointers are sound, or an assertion has failed
  abbrev Kept : ℕ → Type 0
  Kept n = Pointed p source (at_step n) ⊎ ((v : ℕ) × ((at_step n).verdict ≡ Some v))

  -- the instruction of a step
  abbrev pub Here : (n t : ℕ) (a : Act) → Done n t a → Type 0
  Here n t a d = Standing p source t d.frame.place d.instr

  here : (n t : ℕ) (a : Act) (d : Done n t a) → Here n t a d
  here n t a d = standing p source t d.frame.place d.instr (sym (fetched_is p t d.frame.place) ∙ d.at.instr)

  checked : (n t : ℕ) (a : Act) (d : Done n t a) → Pointed p source (at_step n) → All (Holds d.frame.locals) (wants d.instr)
  checked n t a d sound =
      let h = here n t a d in
      wanted (code_of p t) d.instr d.frame.place d.frame.locals (subst (λ code. IsGuarded code d.frame.place d.instr) (sym h.code) h.is.guarded)
      (subst (λ (g : Frame). Walked (code_of p t) g.place g.locals) (frame_is m bound p source.valid es vs happens n t a d) (sound.walked t))

  makes : (n t : ℕ) (a : Act) (d : Done n t a) → Pointed p source (at_step n) → Makes p source t d.frame.locals d.instr a
  makes n t a d sound = ⊎_elim
      (λ e. if-at (Makes p source t d.frame.locals d.instr) (act (Buffered m bound) (at_step n) t d.frame d.instr) a e (act_makes p source m bound (at_step n) d.fits.memory sound t d.frame (frame_is m bound p source.valid es vs happens n t a d) d.frame.place d.instr (here n t a d) (checked n t a d sound)))
      (λ e. if-at (Makes p source t d.frame.locals d.instr) (input d.instr e.0) a e.1 (input_makes p source m bound (at_step n) d.fits.memory sound t d.frame (frame_is m bound p source.valid es vs happens n t a d) d.frame.place d.instr e.0 (here n t a d)))
      d.way

  goes : (n t : ℕ) (a : Act) (d : Done n t a) → ((framed d.frame a).place ≡ d.frame.place) × (a ≡ Ends) ⊎ IsSuccessor (code_of p t) d.frame.place (framed d.frame a).place
  goes n t a d = go a d.tells.flow
    where
      go : (b : Act) → FlowOf d.frame d.instr b → ((framed d.frame b).place ≡ d.frame.place) × (b ≡ Ends) ⊎ IsSuccessor (code_of p t) d.frame.place (framed d.frame b).place
      go Ends g = inl (refl, refl)
      go (Goes k) g = inr (successor p t d.frame.place k d.instr (sym (fetched_is p t d.frame.place) ∙ d.at.instr) g)
      go b g = inr (successor p t d.frame.place (framed d.frame b).place d.instr (sym (fetched_is p t d.frame.place) ∙ d.at.instr) g)

  no_failure : (n t : ℕ) (a : Act) → Done n t a → Kept n → Pointed p source (at_step n)
  no_failure n t a d (inl h) = h
  no_failure n t a d (inr q) = let z : None ≡ Some q.0 = sym d.at.has_not_failed ∙ q.1 in absurd (cc)

  kept_next : (n : ℕ) → n < length vs → Kept n → Kept (suc n)
  kept_next n l h = let v = get_there vs n l in go v.0 v.1
    where
      go : (v : Event) → slice_get vs n ≡ Some v → Kept (suc n)
      go (Flushes t c v) e =
          let mo = moment p source.valid (layout_of m bound p) bound refl es vs happens n (Flushes t c v) e in
          let first = takes_first m bound p (at_step n) mo.entry (Flushes t c v) (subst (λ (z : State). event (Buffered m bound) p z mo.entry ≡ Some (Flushes t c v)) mo.reached mo.is) in
          let next = after_take (initial p) vs n (Flushes t c v) e in
          ⊎_elim
          (λ sound. inl (subst (Pointed p source) (sym next) (flushed_pointed p source (at_step n) sound m t c v first.rest first.first)))
          (λ q. inr (q.0, ap (λ (z : State). z.verdict) next ∙ flushed_verdict (at_step n) t c v ∙ q.1))
          h
      go (Does t a) e = by_act a e
        where
          step : (b : Act) → slice_get vs n ≡ Some (Does t b) → ((k : ℕ) → b ≡ Fails k → ⊥) → Kept (suc n)
          step b e alive =
              let d = doing m bound p source.valid es vs happens n t b e in
              let sound = no_failure n t b d h in
              inl (subst (Pointed p source) (sym (after_take (initial p) vs n (Does t b) e)) (acted_pointed p source (at_step n) sound t d.frame d.instr b d.at.frame (frame_is m bound p source.valid es vs happens n t b d) (sym (fetched_is p t d.frame.place) ∙ d.at.instr) (makes n t b d sound) (goes n t b d) alive))

          by_act : (b : Act) → slice_get vs n ≡ Some (Does t b) → Kept (suc n)
          by_act (Fails k) e = inr (k, ap (λ (z : State). z.verdict) (after_take (initial p) vs n (Does t (Fails k)) e) ∙ acted_fails (at_step n) t k)
          by_act b e = step b e (λ k x. absurd (cc))

  kept : (n : ℕ) → n ≤ length vs → Kept n
  kept zero l = inl (initial_pointed p source)
  kept (suc n) l = kept_next n (omega (arith, l)) (kept n (omega (arith, l)))

  -- while nothing has failed, the pointers are sound
  pub sound_at : (n : ℕ) → n ≤ length vs → (at_step n).verdict ≡ None → Pointed p source (at_step n)
  sound_at n l e = ⊎_elim (λ h. h) (λ q. let z : None ≡ Some q.0 = sym e ∙ q.1 in absurd (cc)) (kept n l)

  -- an executed access is to a cell that it names
  pub names : (k : ℕ) (s : Spot) (x : Executes p vs k s) (c : ℕ) → touched x.act ≡ Some c → Names p s c
  names k s x c e =
      let d = doing m bound p source.valid es vs happens k s.thread x.act x.does in
      let within = slice_get_within vs k (Does s.thread x.act) x.does in
      let sound = no_failure k s.thread x.act d (kept k (omega (arith, within))) in
      let is_frame = frame_is m bound p source.valid es vs happens k s.thread x.act d in
      let to = if-at (λ c. (to : _) × Contains (targets d.instr) to × (cell_of (length (at_step k).memory) d.frame.locals to ≡ Some c)) (touched x.act) c e d.tells.cell in
      is_there (λ it. (to : _) × Contains (targets it) to × MayName p (place s.thread to) c) (instr_at p s.thread s.index) d.instr
      (sym (ap (instr_at p s.thread) x.place) ∙ instr_is m bound p source.valid es vs happens k s.thread x.act d)
      (to.0, to.1, names_cell p source s.thread d.frame.locals (known p source m bound (at_step k) d.fits.memory sound s.thread d.frame is_frame) d.frame.place d.instr (here k s.thread x.act d) (checked k s.thread x.act d sound) to.0 to.1 c (subst (λ n. cell_of n d.frame.locals to.0 ≡ Some c) d.fits.memory to.2))

  -- and so is the flush of a store that it made
  pub flush_names : (a f : ℕ) (s : Spot) → Executes p vs a s → IsIssued (layout_of m bound p) vs a f → (c : ℕ) → by writes vs f ≡ Some c → Names p s c
  flush_names a f s x i c w =
      let st = issued_is p source.valid (layout_of m bound p) bound refl es vs happens a f i in
      let same = same_act s.thread st.thread x.act (Pushes st.cell st.value) (same_Some (Does s.thread x.act) (Does st.thread (Pushes st.cell st.value)) (sym x.does ∙ st.made)) in
      let cell : st.cell ≡ c = same_Some st.cell c (sym (ap (option_and_then (λ v. writes v)) st.flushed) ∙ w) in
      names a s x c (ap touched same.1 ∙ ap Some cell)
