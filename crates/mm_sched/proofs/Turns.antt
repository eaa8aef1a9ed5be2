-- What a thread does where it may step, and that it steps there alone.
use Rattle.std.proofs.Common.{◌≡◌, ℕ, ℤ, Bool, true, false, not, ◌&&◌, slice_get, Option, Some, None, option_map, refl, ◌∙◌, ap, IfSome, eqb-true, eq-eqb}
use Rattle.std.specs.Prelude.{is_none}
use Rattle.std.proofs.lemmas.Option.{option_and_then_some, get_or_from_slice_get}
use Rattle.mm_goto.specs.declared.program.Instr.{Instr}
use Rattle.mm_goto.specs.Listing.{Listing}
use Rattle.mm_sched.specs.declared.entry.Entry.TheVariants.{Step, In}
use Rattle.mm_sched.specs.declared.entry.Rules.{Rules}
use Rattle.mm_sched.specs.declared.entry.Act.{Act}
use Rattle.mm_sched.specs.declared.entry.Event.{Event}
use Rattle.mm_sched.specs.declared.entry.Event.TheVariants.{Does}
use Rattle.mm_sched.specs.Guarded.{◌>>=◌, guarded}
use Rattle.mm_sched.specs.State.{Frame, State, idle}
use Rattle.mm_sched.specs.Event.{act, acted, after, done, does, event, fetched, framed, input, is_open_to, may_step, moved, next}
use Rattle.mm_sched.specs.Turn.{IsAt}
use Rattle.mm_sched.proofs.Steps.{map-some}

-- ---- who may step

and-true : (a b : Bool) → (a && b) ≡ true → (a ≡ true) × (b ≡ true)
and-true true true e = (refl, refl)
and-true true false e = cc
and-true false b e = cc

is-false : (b : Bool) → not b ≡ true → b ≡ false
is-false true e = cc
is-false false e = refl

nothing : (o : Option ℕ) → is_none o ≡ true → o ≡ None
nothing None e = refl
nothing (Some n) e = cc

owned-alone : (t : ℕ) (o : Option ℕ) → is_open_to t o ≡ true → IfSome o (λ u. u ≡ t)
owned-alone t None e = tt
owned-alone t (Some u) e = eqb-true u t e

is-open : (t : ℕ) (o : Option ℕ) → IfSome o (λ u. u ≡ t) → is_open_to t o ≡ true
is-open t None h = refl
is-open t (Some u) h = eq-eqb u t h

module _ (p : Listing) (s : State) (t : ℕ) (f : Frame) (i : Instr) where
  pub may : IsAt p s t f i → may_step s t f ≡ true
  may h = rw h.is_started (rw h.has_not_ended (rw h.has_not_failed (is-open t s.section h.is_open)))

  is-at : slice_get s.threads t ≡ Some f → fetched p t f.place ≡ Some i → may_step s t f ≡ true → IsAt p s t f i
  is-at a b e =
      let all = and-true (f.started && not f.ended && is_none s.verdict) (is_open_to t s.section) e in
      let some = and-true (f.started && not f.ended) (is_none s.verdict) all.0 in
      let own = and-true f.started (not f.ended) some.0 in
      record {
        frame = a;
        instr = b;
        is_started = own.0;
        has_not_ended = is-false f.ended own.1;
        has_not_failed = nothing s.verdict some.1;
        is_open = owned-alone t s.section all.1;
      }

-- ---- what it does

does-one : (p : Listing) (s : State) (t : ℕ) (f : Frame) (i : Instr) (what : Frame → Instr → Option Act) → IsAt p s t f i → does p s t what ≡ (what f i >>= λ a. Some (Does t a))
does-one p s t f i what h = rw h.frame (rw h.instr (rw (may p s t f i h) refl))

acts : (s : State) (t : ℕ) (f : Frame) (o : Option Act) → slice_get s.threads t ≡ Some f → option_map (after s) (o >>= λ a. Some (Does t a)) ≡ option_map (λ a. moved (done s t a) t (framed f a)) o
unfolding acted
acts s t f None h = refl
acts s t f (Some a) h = ap (λ g. Some (moved (done s t a) t (framed g a))) (get_or_from_slice_get s.threads t f idle h)

module _ (r : Rules) (p : Listing) (s : State) (t : ℕ) (f : Frame) (i : Instr) (at : IsAt p s t f i) where
  pub step_is : next r p s (Step t) ≡ option_map (λ a. moved (done s t a) t (framed f a)) (act r s t f i)
  unfolding event
  step_is = ap (option_map (after s)) (does-one p s t f i (act r s t) at) ∙ acts s t f (act r s t f i) at.frame

  pub in_is : (v : ℤ) → next r p s (In t v) ≡ option_map (λ a. moved (done s t a) t (framed f a)) (input i v)
  unfolding event
  in_is v = ap (option_map (after s)) (does-one p s t f i (λ g j. input j v) at) ∙ acts s t f (input i v) at.frame

-- ---- a thread that does something is at an instruction and may step

pub record Acts (p : Listing) (s : State) (t : ℕ) (what : Frame → Instr → Option Act) (v : Event) : Type 0 where
  pub frame : Frame
  pub instr : Instr
  pub act : Act
  pub at : IsAt p s t frame instr
  pub is : what frame instr ≡ Some act
  pub event : v ≡ Does t act

pub does-some : (p : Listing) (s : State) (t : ℕ) (what : Frame → Instr → Option Act) (v : Event) → does p s t what ≡ Some v → Acts p s t what v
does-some p s t what v e = option_and_then_some _ (slice_get s.threads t) v e (λ f a d. option_and_then_some _ (fetched p t f.place) v d (λ i b c. found f i (may_step s t f) (what f i) a b refl refl c))
  where
    found : (f : Frame) (i : Instr) (b : Bool) (o : Option Act) → slice_get s.threads t ≡ Some f → fetched p t f.place ≡ Some i → may_step s t f ≡ b → what f i ≡ o → (guarded b o >>= λ a. Some (Does t a)) ≡ Some v → Acts p s t what v
    found f i false o a g m w c = cc
    found f i true None a g m w c = cc
    found f i true (Some z) a g m w c = record { frame = f; instr = i; act = z; at = is-at p s t f i a g m; is = w; event = cc }

-- so it steps there alone
module _ (r : Rules) (p : Listing) (s last : State) (t : ℕ) where
  acts-at : (what : Frame → Instr → Option Act) → option_map (after s) (does p s t what) ≡ Some last → (f : Frame) × (i : Instr) × IsAt p s t f i
  acts-at what d = map-some (after s) (does p s t what) last d (λ v a b. let acts = does-some p s t what v a in (acts.frame, acts.instr, acts.at))

  pub step_at : next r p s (Step t) ≡ Some last → (f : Frame) × (i : Instr) × IsAt p s t f i
  unfolding event
  step_at d = acts-at (act r s t) d

  pub in_at : (v : ℤ) → next r p s (In t v) ≡ Some last → (f : Frame) × (i : Instr) × IsAt p s t f i
  unfolding event
  in_at v d = acts-at (λ f i. input i v) d
