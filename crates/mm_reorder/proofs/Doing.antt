-- What an entry does in a state.
use Rattle.std.proofs.Common.{◌≡◌, ℕ, Option, Some, None, refl, true, sym, ◌∙◌, ap, subst, slice_get}
use Rattle.std.proofs.lemmas.Option.{same_Some, option_and_then_some}
use Rattle.mm_goto.specs.declared.program.Instr.{Instr}
use Rattle.mm_goto.specs.Bounds.{Bounding}
use Rattle.mm_goto.specs.declared.model.Model.{Model}
use Rattle.mm_goto.specs.Listing.{Listing}
use Rattle.mm_sched.specs.declared.entry.Entry.{Entry}
use Rattle.mm_sched.specs.declared.entry.Entry.TheVariants.{Step, In, Flush, FlushCell}
use Rattle.mm_sched.specs.declared.entry.Rules.{Rules}
use Rattle.mm_sched.specs.declared.entry.Rules.TheVariants.{Buffered}
use Rattle.mm_sched.specs.declared.entry.Act.{Act}
use Rattle.mm_sched.specs.declared.entry.Event.{Event}
use Rattle.mm_sched.specs.declared.entry.Event.TheVariants.{Does, Flushes}
use Rattle.mm_sched.specs.Guarded.{◌>>=◌}
use Rattle.mm_sched.specs.Sections.{HasNoSection}
use Rattle.mm_sched.specs.State.{Frame, State, Pending, pending_of}
use Rattle.mm_sched.specs.Buffer.{flush_of}
use Rattle.mm_sched.specs.Event.{may_step, fetched, act, input, does, flushes, event}
use Rattle.mm_sched.proofs.Steps.{if-at}
use Rattle.mm_sched.proofs.Turns.{may, does-some}
use Rattle.mm_reorder.proofs.Acting.{Tells}
use Rattle.mm_reorder.proofs.Telling.{act_tells, input_tells, no_section}

-- the act that the entry asks of the instruction
abbrev pub acts : Rules → State → ℕ → Frame → Instr → Entry → Option Act
acts r s t f i (Step u) = act r s t f i
acts r s t f i (In u v) = input i v
acts r s t f i (Flush u) = None
acts r s t f i (FlushCell u c) = None

-- the entry is a step of the thread
abbrev pub IsRunOf : Entry → ℕ → Type 0
IsRunOf (Step u) t = u ≡ t
IsRunOf (In u v) t = u ≡ t
IsRunOf (Flush u) t = ⊥
IsRunOf (FlushCell u c) t = ⊥

-- the entry is a flush of the thread
abbrev pub IsFlushOf : Entry → ℕ → Type 0
IsFlushOf (Step u) t = ⊥
IsFlushOf (In u v) t = ⊥
IsFlushOf (Flush u) t = u ≡ t
IsFlushOf (FlushCell u c) t = u ≡ t

-- thread t does the act by the entry
pub record Ran (r : Rules) (p : Listing) (s : State) (e : Entry) (t : ℕ) (a : Act) : Type 0 where
  pub frame : Frame
  pub instr : Instr
  pub there : slice_get s.threads t ≡ Some frame
  pub fetches : fetched p t frame.place ≡ Some instr
  pub allowed : may_step s t frame ≡ true
  pub act_is : acts r s t frame instr e ≡ Some a
  pub by : IsRunOf e t

abbrev pub Did : Rules → Listing → State → Entry → Event → Type 0
Did r p s e (Does t a) = Ran r p s e t a
Did r p s e (Flushes t c v) = (flush_of r e (pending_of s t) ≡ Some (c, v)) × IsFlushOf e t

module _ (r : Rules) (p : Listing) (s : State) where
  does_ran : (e : Entry) (t : ℕ) (a : Act) (d : Ran r p s e t a) (what : Frame → Instr → Option Act) → what d.frame d.instr ≡ Some a → does p s t what ≡ Some (Does t a)
  does_ran e t a d what x = rw d.there (rw d.fetches (rw d.allowed (rw x refl)))

  pub did_event : (e : Entry) (v : Event) → Did r p s e v → event r p s e ≡ Some v
  unfolding event
  did_event (Step u) (Does t a) d = subst (λ x. does p s x (act r s x) ≡ Some (Does t a)) (sym d.by) (does_ran (Step u) t a d (act r s t) d.act_is)
  did_event (In u w) (Does t a) d = subst (λ x. does p s x (λ f i. input i w) ≡ Some (Does t a)) (sym d.by) (does_ran (In u w) t a d (λ f i. input i w) d.act_is)
  did_event (Flush u) (Does t a) d = absurd d.by
  did_event (FlushCell u c) (Does t a) d = absurd d.by
  did_event (Step u) (Flushes t c v) d = absurd d.1
  did_event (In u w) (Flushes t c v) d = absurd d.1
  did_event (Flush u) (Flushes t c v) d = subst (λ x. flushes r s x (Flush u) ≡ Some (Flushes t c v)) (sym d.1) (ap (λ o. o >>= λ q. Some (Flushes t q.0 q.1)) d.0)
  did_event (FlushCell u k) (Flushes t c v) d = subst (λ x. flushes r s x (FlushCell u k) ≡ Some (Flushes t c v)) (sym d.1) (ap (λ o. o >>= λ q. Some (Flushes t q.0 q.1)) d.0)

  ran_at : (e : Entry) (t : ℕ) (what : Frame → Instr → Option Act) (v : Event) → ((f : Frame) (i : Instr) → acts r s t f i e ≡ what f i) → IsRunOf e t → does p s t what ≡ Some v → Did r p s e v
  ran_at e t what v same by x =
      let a = does-some p s t what v x in
      subst (Did r p s e) (sym a.event) (record { frame = a.frame; instr = a.instr; there = a.at.frame; fetches = a.at.instr; allowed = may p s t a.frame a.instr a.at; act_is = same a.frame a.instr ∙ a.is; by = by })

  flush_at : (e : Entry) (t : ℕ) (v : Event) → IsFlushOf e t → flushes r s t e ≡ Some v → Did r p s e v
  flush_at e t v by x = option_and_then_some (λ (q : Pending). Some (Flushes t q.0 q.1)) (flush_of r e (pending_of s t)) v x (λ q d y. subst (Did r p s e) (same_Some (Flushes t q.0 q.1) v y) (d, by))

  pub event_did : (e : Entry) (v : Event) → event r p s e ≡ Some v → Did r p s e v
  unfolding event
  event_did (Step t) v x = ran_at (Step t) t (act r s t) v (λ f i. refl) refl x
  event_did (In t w) v x = ran_at (In t w) t (λ f i. input i w) v (λ f i. refl) refl x
  event_did (Flush t) v x = flush_at (Flush t) t v refl x
  event_did (FlushCell t c) v x = flush_at (FlushCell t c) t v refl x

-- what is done tells of the state
pub ran_tells : (m : Model) (bound : Bounding) (p : Listing) (s : State) (e : Entry) (t : ℕ) (a : Act) → HasNoSection p → Ran (Buffered m bound) p s e t a → Tells m bound s t a
ran_tells m bound p s e t a none d = go e d.act_is
  where
    go : (h : Entry) → acts (Buffered m bound) s t d.frame d.instr h ≡ Some a → Tells m bound s t a
    go (Step u) x = if-at (Tells m bound s t) (act (Buffered m bound) s t d.frame d.instr) a x (act_tells m bound s t d.frame d.instr (no_section p t d.frame.place d.instr none d.fetches))
    go (In u v) x = if-at (Tells m bound s t) (input d.instr v) a x (input_tells m bound s t d.instr v)
    go (Flush u) x = cc
    go (FlushCell u k) x = cc
