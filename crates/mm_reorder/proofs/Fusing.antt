-- A direct store and its own flush right behind it are one step of the partial machine, and each other step is a step of it.
use Rattle.std.proofs.Common.{rules, ◌≡◌, ℕ, ◌<◌, ℤ, List, [], ◌∷◌, ◌++◌, length, Some, refl, Bool, true, false, IfSome, sym, ◌∙◌, ap, ap₂, subst, nat_lt, slice_set, if◌then◌else◌, cond, get_or-set_same}
use Rattle.std.specs.List.{filter}
use Rattle.std.proofs.lemmas.Bool.{eq-eqb, false≢true}
use Rattle.std.proofs.lemmas.List.{set-set, set-get_or}
use Rattle.std.proofs.lemmas.Option.{option_and_then_some}
use Rattle.mm_goto.specs.Bounds.{Bounding, bound_of}
use Rattle.mm_goto.specs.declared.model.Model.{Model}
use Rattle.mm_goto.specs.declared.model.Model.TheVariants.{Tso, Pso}
use Rattle.mm_goto.specs.declared.program.Instr.{Instr}
use Rattle.mm_goto.specs.declared.program.Instr.TheVariants.{Set, Load, Store, Input, Jump, Branch, Assert, Assume, Fence, Lock, Unlock, Add, Cas, Start, Join, AtomBegin, AtomEnd, End}
use Rattle.mm_goto.specs.declared.program.Target.{Target}
use Rattle.mm_goto.specs.declared.pure.Pure.{Pure}
use Rattle.mm_goto.specs.Listing.{Listing}
use Rattle.mm_goto.specs.Value.{value_of}
use Rattle.mm_sched.specs.declared.entry.Entry.{Entry}
use Rattle.mm_sched.specs.declared.entry.Entry.TheVariants.{Step, In, Flush, FlushCell}
use Rattle.mm_sched.specs.declared.entry.How.TheVariants.{AtOnce, NotEnabled}
use Rattle.mm_sched.specs.declared.entry.Rules.TheVariants.{Buffered, Partial}
use Rattle.mm_sched.specs.declared.entry.Act.{Act}
use Rattle.mm_sched.specs.declared.entry.Act.TheVariants.{Assigns, Pushes, Puts}
use Rattle.mm_sched.specs.declared.entry.Event.{Event}
use Rattle.mm_sched.specs.declared.entry.Event.TheVariants.{Does, Flushes}
use Rattle.mm_sched.specs.Guarded.{◌>>=◌, guarded}
use Rattle.mm_sched.specs.State.{Frame, State, Pending, pending_of}
use Rattle.mm_sched.specs.Buffer.{is_empty, is_to, is_in, part, without, pends, writes}
use Rattle.mm_sched.specs.Event.{cell_of, stored, is_int, act, input, acted, flushed}
use Rattle.mm_sched.proofs.Steps.{guarded-if, bind-if, either-if, if-at, stored-if, locked-if, unlocked-if, begun-if, joined-if}
use Rattle.mm_reorder.proofs.Acting.{bind_again, pends_is}
use Rattle.mm_reorder.proofs.Doing.{acts, Ran, Did}

-- ---- what is appended for a cell, where nothing counts for it, is what comes out

out_again : (m : Model) (ps : List Pending) (c : ℕ) (v : ℤ) → is_empty (part m ps c) ≡ true → without (ps ++ (c, v) ∷ []) c ≡ ps
out_again Tso [] c v e = ap (λ b. if b then [] else (c, v) ∷ []) (eq-eqb c c refl)
out_again Tso (q ∷ ps) c v e = absurd (false≢true e)
out_again Pso [] c v e = ap (λ b. if b then [] else (c, v) ∷ []) (eq-eqb c c refl)
out_again Pso (q ∷ ps) c v e = go (is_to c q) e (out_again Pso ps c v)
  where
    go : (b : Bool) → is_empty (cond b (q ∷ filter (is_to c) ps) (filter (is_to c) ps)) ≡ true → (is_empty (filter (is_to c) ps) ≡ true → without (ps ++ (c, v) ∷ []) c ≡ ps) → (if b then ps ++ (c, v) ∷ [] else q ∷ without (ps ++ (c, v) ∷ []) c) ≡ q ∷ ps
    go true h ih = absurd (false≢true h)
    go false h ih = ap (λ zs. q ∷ zs) (ih h)

pub fused : (m : Model) (s : State) (t c : ℕ) (v : ℤ) → t < length s.pending → is_empty (part m (pending_of s t) c) ≡ true
    → flushed (acted s t (Pushes c v)) t c v ≡ acted s t (Puts c v)
unfolding acted flushed
fused m s t c v l e = ap (λ ps. record (acted s t (Puts c v)) { pending = ps })
    (ap (λ ps. slice_set (slice_set s.pending t (pending_of s t ++ (c, v) ∷ [])) t (without ps c)) (get_or-set_same s.pending t (pending_of s t ++ (c, v) ∷ []) [] l)
    ∙ ap (slice_set (slice_set s.pending t (pending_of s t ++ (c, v) ∷ [])) t) (out_again m (pending_of s t) c v e)
    ∙ set-set s.pending t (pending_of s t ++ (c, v) ∷ []) (pending_of s t)
    ∙ set-get_or s.pending t [])

-- ---- a store alone makes a store pending

abbrev IsStore : Instr → Act → Type 0
IsStore i (Pushes c v) = (target : Target) × (e : Pure) × (i ≡ Store target e)
IsStore i (Assigns l v) = Unit {0}
IsStore i _ = Unit {0}

ruleset calm = (guarded-if, bind-if, either-if, stored-if, locked-if, unlocked-if, begun-if, joined-if)

module _ (m : Model) (bound : Bounding) (s : State) (t : ℕ) (f : Frame) where
  act_store : (i : Instr) → IfSome (act (Buffered m bound) s t f i) (IsStore i)
  unfolding act
  act_store (Set l e) = tt
  act_store (Load l target) = search (rules, calm)
  act_store (Store target e) = bind-if (IsStore (Store target e)) (cell_of (length s.memory) f.locals target) (λ c. stored (pends m (bound_of bound t) (pending_of s t) c) c (value_of e f.locals)) (λ c. stored-if (IsStore (Store target e)) (pends m (bound_of bound t) (pending_of s t) c) c (value_of e f.locals) (target, e, refl) tt)
  act_store (Input l) = tt
  act_store (Jump k) = tt
  act_store (Branch e k) = tt
  act_store (Assert e n) = search (rules, calm)
  act_store (Assume e) = search (rules, calm)
  act_store Fence = search (rules, calm)
  act_store (Lock k) = search (rules, calm)
  act_store (Unlock k) = search (rules, calm)
  act_store (Add l target e) = search (rules, calm)
  act_store (Cas l target e g) = search (rules, calm)
  act_store (Start u) = search (rules, calm)
  act_store (Join u) = search (rules, calm)
  act_store AtomBegin = search (rules, calm)
  act_store AtomEnd = search (rules, calm)
  act_store End = tt

  input_store : (i : Instr) (v : ℤ) → IfSome (input i v) (IsStore i)
  input_store (Input l) v = search (rules, guarded-if)
  input_store _ v = tt

  module _ (set : List (List Bool)) where
    -- the store that the set names, and each other instruction
    same_act : (i : Instr) (a : Act) → act (Buffered m bound) s t f i ≡ Some a → ((c : ℕ) (v : ℤ) → a ≡ Pushes c v → is_in set t f.place ≡ true) → act (Partial m bound set) s t f i ≡ Some a
    unfolding act
    same_act (Store target e) a x h = bind_again (cell_of (length s.memory) f.locals target) (λ c. stored (pends m (bound_of bound t) (pending_of s t) c) c (value_of e f.locals)) (λ c. stored (if is_in set t f.place then pends m (bound_of bound t) (pending_of s t) c else writes m (pending_of s t) c) c (value_of e f.locals)) a x (λ c d y.
        let is = pends_is (nat_lt (length (part m (pending_of s t) c)) (bound_of bound t)) c (value_of e f.locals) a y in
        ap (λ b. stored (if b then pends m (bound_of bound t) (pending_of s t) c else writes m (pending_of s t) c) c (value_of e f.locals)) (h c (value_of e f.locals) is.1) ∙ y)
    same_act (Set l e) a x h = x
    same_act (Load l target) a x h = x
    same_act (Input l) a x h = x
    same_act (Jump k) a x h = x
    same_act (Branch e k) a x h = x
    same_act (Assert e n) a x h = x
    same_act (Assume e) a x h = x
    same_act Fence a x h = x
    same_act (Lock k) a x h = x
    same_act (Unlock k) a x h = x
    same_act (Add l target e) a x h = x
    same_act (Cas l target e g) a x h = x
    same_act (Start u) a x h = x
    same_act (Join u) a x h = x
    same_act AtomBegin a x h = x
    same_act AtomEnd a x h = x
    same_act End a x h = x

    pushes_same : (k c : ℕ) (x v : ℤ) → Pushes k x ≡ Pushes c v → (k ≡ c) × (x ≡ v)
    pushes_same k c x v e = let a : k ≡ c = cc in let b : x ≡ v = cc in (a, b)

    put : (c : ℕ) (v : ℤ) (b : Bool) → b ≡ true → stored (if b then AtOnce else NotEnabled) c v ≡ Some (Puts c v)
    put c v b e = ap (λ x. stored (if x then AtOnce else NotEnabled) c v) e

    direct_store : (target : Target) (e : Pure) (c : ℕ) (v : ℤ) → act (Buffered m bound) s t f (Store target e) ≡ Some (Pushes c v) → is_in set t f.place ≡ false → is_empty (part m (pending_of s t) c) ≡ true → act (Partial m bound set) s t f (Store target e) ≡ Some (Puts c v)
    unfolding act
    direct_store target e c v x out empty = option_and_then_some (λ k. stored (pends m (bound_of bound t) (pending_of s t) k) k (value_of e f.locals)) (cell_of (length s.memory) f.locals target) (Pushes c v) x (λ k d y.
        let is = pends_is (nat_lt (length (part m (pending_of s t) k)) (bound_of bound t)) k (value_of e f.locals) (Pushes c v) y in
        let same = pushes_same c k v (value_of e f.locals) is.1 in
        ap (λ o. o >>= λ j. stored (if is_in set t f.place then pends m (bound_of bound t) (pending_of s t) j else writes m (pending_of s t) j) j (value_of e f.locals)) d
        ∙ ap (λ b. stored (if b then pends m (bound_of bound t) (pending_of s t) k else writes m (pending_of s t) k) k (value_of e f.locals)) out
        ∙ ap₂ (λ j z. stored (writes m (pending_of s t) j) j z) (sym same.0) (sym same.1)
        ∙ put c v (is_empty (part m (pending_of s t) c)) empty)

    direct_act : (i : Instr) (c : ℕ) (v : ℤ) → act (Buffered m bound) s t f i ≡ Some (Pushes c v) → is_in set t f.place ≡ false → is_empty (part m (pending_of s t) c) ≡ true → act (Partial m bound set) s t f i ≡ Some (Puts c v)
    direct_act i c v x out empty =
        let is = if-at (IsStore i) (act (Buffered m bound) s t f i) (Pushes c v) x (act_store i) in
        subst (λ j. act (Partial m bound set) s t f j ≡ Some (Puts c v)) (sym is.2) (direct_store is.0 is.1 c v (subst (λ j. act (Buffered m bound) s t f j ≡ Some (Pushes c v)) is.2 x) out empty)

-- ---- entries

module _ (m : Model) (bound : Bounding) (set : List (List Bool)) (p : Listing) (s : State) where
  -- the event makes no store pending that the set does not name
  abbrev pub IsPlain : (e : Entry) (v : Event) → Did (Buffered m bound) p s e v → Type 0
  IsPlain e (Does t a) d = (c : ℕ) (x : ℤ) → a ≡ Pushes c x → is_in set t d.frame.place ≡ true
  IsPlain e (Flushes t c v) d = Unit {0}

  pub plain_step : (e : Entry) (v : Event) (d : Did (Buffered m bound) p s e v) → IsPlain e v d → Did (Partial m bound set) p s e v
  plain_step e (Flushes t c v) d h = d
  plain_step e (Does t a) d h = record { frame = d.frame; instr = d.instr; there = d.there; fetches = d.fetches; allowed = d.allowed; act_is = go e d.act_is; by = d.by }
    where
      go : (e : Entry) → acts (Buffered m bound) s t d.frame d.instr e ≡ Some a → acts (Partial m bound set) s t d.frame d.instr e ≡ Some a
      go (Step u) x = same_act m bound s t d.frame set d.instr a x h
      go (In u w) x = x
      go (Flush u) x = x
      go (FlushCell u c) x = x

  never : (t : ℕ) (f : Frame) (i : Instr) (w : ℤ) (c : ℕ) (v : ℤ) → input i w ≡ Some (Pushes c v) → ⊥
  never t f (Input l) w c v x = go (is_int w) x
    where
      go : (b : Bool) → guarded b (Some (Assigns l w)) ≡ Some (Pushes c v) → ⊥
      go true y = cc
      go false y = cc
  never t f _ w c v x = cc

  pub pair_step : (e : Entry) (t c : ℕ) (v : ℤ) (d : Ran (Buffered m bound) p s e t (Pushes c v)) → is_in set t d.frame.place ≡ false → is_empty (part m (pending_of s t) c) ≡ true → Did (Partial m bound set) p s e (Does t (Puts c v))
  pair_step e t c v d out empty = record { frame = d.frame; instr = d.instr; there = d.there; fetches = d.fetches; allowed = d.allowed; act_is = go e d.act_is; by = d.by }
    where
      go : (e : Entry) → acts (Buffered m bound) s t d.frame d.instr e ≡ Some (Pushes c v) → acts (Partial m bound set) s t d.frame d.instr e ≡ Some (Puts c v)
      go (Step u) x = direct_act m bound s t d.frame set d.instr c v x out empty
      go (In u w) x = absurd (never t d.frame d.instr w c v x)
      go (Flush u) x = cc
      go (FlushCell u k) x = cc
