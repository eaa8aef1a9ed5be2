-- Where a thread stands at an instruction, the checks that it wants hold, and its targets have cells.
use Rattle.std.proofs.Common.{arith, ◌≡◌, ℕ, zero, suc, ◌+◌, ◌<◌, ◌≤◌, ℤ, pos, List, [], ◌∷◌, ◌++◌, length, take, Option, Some, None, option_map, refl, Bool, true, false, not, nat_lt, sym, ◌∙◌, ap, subst, if◌then◌else◌, lt-ltb, ltb-true, slice_index_or, negsuc}
use Rattle.std.specs.Prelude.{IsSomeAnd}
use Rattle.std.specs.List.{All, Contains, flat_map}
use Rattle.std.proofs.lemmas.List.{take_all}
use Rattle.std.proofs.lemmas.List.Elements.{All-head}
use Rattle.mm_goto.specs.Bounds.{Bounding}
use Rattle.mm_goto.specs.declared.model.Model.{Model}
use Rattle.mm_goto.specs.declared.program.Instr.{Instr}
use Rattle.mm_goto.specs.declared.program.Target.{Target}
use Rattle.mm_goto.specs.declared.program.Target.TheVariants as target
use Rattle.mm_goto.specs.declared.pure.Pure.{Pure}
use Rattle.mm_goto.specs.declared.pure.Binary.TheVariants as binary
use Rattle.mm_goto.specs.declared.spot.Spot.{Spot}
use Rattle.mm_goto.specs.Checks.{checks_of, is_in_range, is_not_zero, target_checks, target_exprs, targets, value_exprs}
use Rattle.mm_goto.specs.Listing.{Listing}
use Rattle.mm_goto.specs.PointsTo.{MayName, expr, instr_at, local, place}
use Rattle.mm_goto.specs.Sites.{Names}
use Rattle.mm_goto.specs.Sourcelike.{IsSourcelike, IsGuarded, wants}
use Rattle.mm_goto.specs.Terms.{constant}
use Rattle.mm_goto.specs.Valid.{IsTargetIn, code_of}
use Rattle.mm_goto.specs.Value.{value_of, value_step, is_zero, truth, binary_value}
use Rattle.mm_goto.proofs.Folding.{fold_combined, fold_constant}
use Rattle.mm_sched.specs.declared.entry.Entry.{Entry}
use Rattle.mm_sched.specs.declared.entry.Event.{Event}
use Rattle.mm_sched.specs.declared.entry.Rules.{Rules}
use Rattle.mm_sched.specs.declared.entry.Rules.TheVariants.{Buffered}
use Rattle.mm_sched.specs.Guarded.{◌>>=◌}
use Rattle.mm_sched.specs.Event.{after, cell_of, element, event, pointee}
use Rattle.mm_sched.specs.Runs.{run}
use Rattle.mm_sched.specs.State.{State, initial, frame_of}
use Rattle.mm_rungraph.specs.Traces.{events_of, after_all}
use Rattle.mm_keeping.proofs.Guards.{all_flat, wanted}
use Rattle.mm_keeping.proofs.Naming.{sound_at}
use Rattle.mm_keeping.proofs.Pointed.{Pointed}
use Rattle.mm_keeping.proofs.Pointers.{pointers, Standing, standing, Sure, sure, Fitting, fitting, names_cell}
use Rattle.mm_keeping.proofs.Values.{Holds, IsIntCell, OrNull, Points, all_left, in_range}

-- ---- what happens in a run

-- a run has its events
pub record Happens (r : Rules) (p : Listing) (s : State) (es : List Entry) (last : State) : Type 0 where
  pub events : List Event
  pub happen : events_of r p s es ≡ Some events
  pub comes : after_all s events ≡ last

pub happens_in : (r : Rules) (p : Listing) (es : List Entry) (s last : State) → run r p s es ≡ Some last → Happens r p s es last
happens_in r p [] s last e = record { events = []; happen = refl; comes = same e }
  where
    same : Some s ≡ Some last → s ≡ last
    same q = cc
happens_in r p (x ∷ es) s last e = by (event r p s x) refl e (λ v. happens_in r p es (after s v) last)
  where
    by : (o : Option Event) → event r p s x ≡ o → (option_map (after s) o >>= λ mid. run r p mid es) ≡ Some last → ((v : Event) → run r p (after s v) es ≡ Some last → Happens r p (after s v) es last) → Happens r p s (x ∷ es) last
    by None h q more = absurd (nothing q)
      where
        nothing : None ≡ Some last → ⊥
        nothing z = cc
    by (Some v) h q more =
        let it = more v q in
        record {
          events = v ∷ it.events;
          happen = ap (λ o. o >>= λ w. events_of r p (after s w) es >>= λ us. Some (w ∷ us)) h ∙ ap (λ o. o >>= λ us. Some (v ∷ us)) it.happen;
          comes = it.comes;
        }

-- ---- a check that a pointer is not null

-- a value that is not null
truth_of : (b : Bool) → is_zero (truth (not b)) ≡ false → b ≡ false
truth_of true h = cc
truth_of false h = refl

not_null : (e : Pure) (locals : List ℤ) → Holds locals (is_not_zero e) → is_zero (value_of e locals) ≡ false
unfolding value_of
not_null e locals h = truth_of (is_zero (value_of e locals)) (sym (ap is_zero whole) ∙ h)
  where
    whole : value_of (is_not_zero e) locals ≡ binary_value binary.Ne (value_of e locals) (pos 0)
    whole = fold_combined (value_step locals) binary.Ne e (constant (pos 0)) ∙ ap (λ i. binary_value binary.Ne (value_of e locals) i) (fold_constant (value_step locals) (pos 0))

pointee_low : (z : ℤ) (n c : ℕ) → pointee z n ≡ Some c → c < n
pointee_low (negsuc k) n c e = cc
pointee_low (pos zero) n c e = cc
pointee_low (pos (suc k)) n c e = by (nat_lt k n) refl e
  where
    by : (b : Bool) → nat_lt k n ≡ b → (if b then Some k else None) ≡ Some c → c < n
    by true h q = let same : k ≡ c = cc in subst (λ x. x < n) same (ltb-true k n h)
    by false h q = cc

true_false : {b : Bool} → b ≡ true → b ≡ false → ⊥
true_false p q = cc

-- ---- where a thread stands

module _ (m : Model) (bound : Bounding) (p : Listing) (source : IsSourcelike p) (es : List Entry) (last : State) (runs : run (Buffered m bound) p (initial p) es ≡ Some last) (alive : last.verdict ≡ None) where
  it : Happens (Buffered m bound) p (initial p) es last
  it = happens_in (Buffered m bound) p es (initial p) last runs

  pub pointed : Pointed p source last
  pointed =
      let whole : after_all (initial p) (take (length it.events) it.events) ≡ last = ap (after_all (initial p)) (take_all (length it.events) it.events (omega arith)) ∙ it.comes in
      subst (Pointed p source) whole (sound_at m bound p source es it.events it.happen (length it.events) (omega arith) (ap (λ (s : State). s.verdict) whole ∙ alive))

  module _ (t : ℕ) (i : Instr) (at : instr_at p t (frame_of last t).place ≡ Some i) where
    abbrev locals : List ℤ
    locals = (frame_of last t).locals

    abbrev spot : Spot
    spot = record { thread = t; index = (frame_of last t).place }

    here : Standing p source t (frame_of last t).place i
    here = standing p source t (frame_of last t).place i at

    pub checks_hold : All (Holds locals) (wants i)
    checks_hold = wanted (code_of p t) i (frame_of last t).place locals (subst (λ code. IsGuarded code (frame_of last t).place i) (sym here.code) here.is.guarded) (pointed.walked t)

    abbrev known : (l : ℕ) → pointers p source t l ≡ true → Points p (local t l) (slice_index_or locals l (pos 0))
    known = pointed.locals t

    -- the target has a cell
    abbrev Reached : Target → Type 0
    Reached to = (c : ℕ) × (c < length p.cells) × (cell_of (length p.cells) locals to ≡ Some c)

    own_checks : (to : Target) → Contains (targets i) to → All (Holds locals) (target_checks to)
    own_checks to has = all_flat (Holds locals) target_checks (targets i) to
        (all_left (Holds locals) (flat_map target_checks (targets i)) (flat_map checks_of (flat_map target_exprs (targets i)))
        (all_left (Holds locals) (flat_map target_checks (targets i) ++ flat_map checks_of (flat_map target_exprs (targets i))) (flat_map checks_of (value_exprs i)) checks_hold)) has

    by_kind : (to : Target) → All (Holds locals) (target_checks to) → IsTargetIn p here.thread to → Sure p source t locals known (frame_of last t).place i here checks_hold to → Reached to
    by_kind (target.Cell c) checks within s = (c, within, refl)
    by_kind (target.Elem first len index) checks within s =
        let r = in_range index len locals (All-head (Holds locals) (is_in_range index len) [] checks) in
        let row : first + len ≤ length p.cells = within.0.within in
        let less = r.2 in
        (first + r.0, omega (arith, row, less), ap (λ z. element z first len) r.1 ∙ ap (λ b. if b then Some (first + r.0) else None) (lt-ltb r.0 len r.2))
    by_kind (target.Deref e) checks within s = by (pointee (value_of e locals) (length p.cells)) refl s
      where
        by : (o : Option ℕ) → pointee (value_of e locals) (length p.cells) ≡ o → OrNull (value_of e locals) (λ c. MayName p (expr t e) c × IsIntCell p c) o → Reached (target.Deref e)
        by None h null = absurd (true_false null (not_null e locals (All-head (Holds locals) (is_not_zero e) [] checks)))
        by (Some c) h is = (c, pointee_low (value_of e locals) (length p.cells) c h, h)

    pub reaches : (to : Target) → Contains (targets i) to → (c : ℕ) × (c < length p.cells) × (cell_of (length p.cells) locals to ≡ Some c) × Names p spot c
    reaches to has =
        let fits : Fitting p source t locals known (frame_of last t).place i here checks_hold to = fitting p source t locals known (frame_of last t).place i here checks_hold to has in
        let it = by_kind to (own_checks to has) fits.2 (sure p source t locals known (frame_of last t).place i here checks_hold to fits.0 has fits.1 fits.2) in (
          it.0,
          it.1,
          it.2,
          subst (λ o. IsSomeAnd o (λ j. (a : Target) × Contains (targets j) a × MayName p (place t a) it.0)) (sym at)
              (to, has, names_cell p source t locals known (frame_of last t).place i here checks_hold to has it.0 it.2),
        )
