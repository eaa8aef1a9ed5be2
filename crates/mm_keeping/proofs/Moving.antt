-- A step leads from a state whose pointers point to what they may name to another.
use Rattle.std.proofs.Common.{arith, ◌≡◌, ℕ, zero, suc, ◌<◌, ◌≤◌, ℤ, pos, ◌⊎◌, inl, inr, ⊎_elim, List, [], ◌∷◌, ◌++◌, length, map, replicate, Option, Some, None, refl, Bool, true, false, sym, ◌∙◌, ap, subst, slice_get, slice_set, slice_index_or, if◌then◌else◌}
use Rattle.std.specs.Prelude.{IsSomeAnd}
use Rattle.std.specs.List.{All}
use Rattle.std.proofs.lemmas.Bool.{cases_eq, cases_lt}
use Rattle.std.proofs.lemmas.List.{get_or-replicate, length-replicate}
use Rattle.std.proofs.lemmas.List.Elements.{All-head, All-tail, All-push, All-nil, All-cons, All-filter}
use Rattle.mm_goto.specs.declared.model.Model.{Model}
use Rattle.mm_goto.specs.declared.model.Model.TheVariants.{Tso, Pso}
use Rattle.mm_goto.specs.declared.pure.Pure.{Pure}
use Rattle.mm_goto.specs.declared.program.Cell.{Cell}
use Rattle.mm_goto.specs.declared.program.Instr.{Instr}
use Rattle.mm_goto.specs.declared.program.Instr.TheVariants.{Assert}
use Rattle.mm_goto.specs.declared.program.Thread.{Thread}
use Rattle.mm_goto.specs.Checks.{names, written_local}
use Rattle.mm_goto.specs.Flow.{IsSuccessor}
use Rattle.mm_goto.specs.Kinds.{IsOf}
use Rattle.mm_goto.specs.Listing.{Listing}
use Rattle.mm_goto.specs.PointsTo.{HoldsPointer, MayName, local, cell, expr, start, instr_at}
use Rattle.mm_goto.specs.Sourcelike.{IsSourcelike, IsSourceCell}
use Rattle.mm_goto.specs.Valid.{IsCellIn, code_of}
use Rattle.mm_goto.specs.Value.{value_of, is_zero}
use Rattle.mm_sched.specs.declared.entry.Act.{Act}
use Rattle.mm_sched.specs.declared.entry.Act.TheVariants.{Assigns, Fails, Ends, Loads, Pushes, Puts, Updates, Misses}
use Rattle.mm_sched.specs.State.{Frame, State, Pending, idle, initial, frame_of, pending_of, at_cell, at_start, all_at_start}
use Rattle.mm_sched.specs.Buffer.{is_to, part, without}
use Rattle.mm_sched.specs.Event.{framed, acted, flushed}
use Rattle.mm_sched.proofs.Quiet.{no-pending}
use Rattle.mm_sched.proofs.Steps.{if-at}
use Rattle.mm_sched.proofs.Within.{All-get}
use Rattle.mm_keeping.proofs.Values.{IsIntCell, Points, Holds, some_then, value_keeps, start_points}
use Rattle.mm_keeping.proofs.Guards.{Walked, walked_start, walked_on, Spares}
use Rattle.mm_keeping.proofs.Pointers.{pointers}
use Rattle.mm_keeping.proofs.Pointed.{Pointed, LocalOf, CellOf, Makes}
use Rattle.mm_keeping.proofs.Stepping.{other_keeps, own_frame, flush_frames}

-- ---- lists

-- what holds of the element holds of it where another that it holds of stands in some place
set_at : {A : Type 0} (Q : A → Type 0) (xs : List A) (d c : ℕ) (v other : A) → (c ≡ d → Q v) → Q (slice_index_or xs c other) → Q (slice_index_or (slice_set xs d v) c other)
set_at Q [] d c v other h k = k
set_at Q (x ∷ xs) zero zero v other h k = h refl
set_at Q (x ∷ xs) zero (suc c) v other h k = k
set_at Q (x ∷ xs) (suc d) zero v other h k = k
set_at Q (x ∷ xs) (suc d) (suc c) v other h k = set_at Q xs d c v other (λ e. h (ap suc e)) k

all_without : (P : Pending → Type 0) (ps : List Pending) (c : ℕ) → All P ps → All P (without ps c)
all_without P [] c h = h
all_without P (q ∷ ps) c h = go (is_to c q) (all_without P ps c (All-tail P q ps h))
  where
    go : (b : Bool) → All P (without ps c) → All P (if b then ps else q ∷ without ps c)
    go true k = All-tail P q ps h
    go false k = All-cons P q (without ps c) (All-head P q ps h) k

all_part : (m : Model) (P : Pending → Type 0) (ps : List Pending) (c : ℕ) → All P ps → All P (part m ps c)
all_part Tso P ps c h = h
all_part Pso P ps c h = All-filter (is_to c) P ps h

module _ (p : Listing) (source : IsSourcelike p) where
  -- ---- an act

  -- the locals stay, or the one that the instruction writes has the value
  behind : (t : ℕ) (i : Instr) (f : Frame) (a : Act) → LocalOf p source t i a → ((framed f a).locals ≡ f.locals) ⊎ ((l : ℕ) × (v : ℤ) × (written_local i ≡ Some l) × ((framed f a).locals ≡ slice_set f.locals l v) × (pointers p source t l ≡ true → Points p (local t l) v))
  behind t i f (Assigns l v) h = inr (l, v, h.0, refl, h.1)
  behind t i f (Loads l c v) h = inr (l, v, h.0, refl, h.1)
  behind t i f (Updates l v c w) h = inr (l, v, h.0, refl, h.1)
  behind t i f (Misses l c) h = inr (l, pos 0, h.0, refl, h.1)
  behind t i f _ h = inl refl

  no_local : (check : Pure) (i : Instr) (l : ℕ) → i ≡ Assert check 0 → written_local i ≡ Some l → ⊥
  no_local check i l e w = let z : None ≡ Some l = sym (ap written_local e) ∙ w in absurd (cc)

  module _ (s : State) (sound : Pointed p source s) where
    module _ (t : ℕ) (f : Frame) (i : Instr) (a : Act) (at : slice_get s.threads t ≡ Some f) (is_frame : frame_of s t ≡ f) (here : instr_at p t f.place ≡ Some i) (makes : Makes p source t f.locals i a) (goes : ((framed f a).place ≡ f.place) × (a ≡ Ends) ⊎ IsSuccessor (code_of p t) f.place (framed f a).place) (alive : (n : ℕ) → a ≡ Fails n → ⊥) where
      own_local : (l : ℕ) → pointers p source t l ≡ true → Points p (local t l) (slice_index_or (framed f a).locals l (pos 0))
      own_local l h = ⊎_elim
          (λ e. subst (λ xs. Points p (local t l) (slice_index_or xs l (pos 0))) (sym e) before)
          (λ q. subst (λ xs. Points p (local t l) (slice_index_or xs l (pos 0))) (sym q.3) (set_at (Points p (local t l)) f.locals q.0 l q.1 (pos 0) (λ e. subst (λ d. Points p (local t d) q.1) (sym e) (q.4 (subst (λ d. pointers p source t d ≡ true) e h))) before))
          (behind t i f a makes.local)
        where
          before : Points p (local t l) (slice_index_or f.locals l (pos 0))
          before = subst (λ (g : Frame). Points p (local t l) (slice_index_or g.locals l (pos 0))) is_frame (sound.locals t l h)

      own_walked : Walked (code_of p t) (framed f a).place (framed f a).locals
      own_walked = ⊎_elim (λ e. stays e.0 e.1) (λ g. walked_on (code_of p t) i f.place (framed f a).place f.locals (framed f a).locals here g before new old) goes
        where
          before : Walked (code_of p t) f.place f.locals
          before = subst (λ (g : Frame). Walked (code_of p t) g.place g.locals) is_frame (sound.walked t)

          stays : (framed f a).place ≡ f.place → a ≡ Ends → Walked (code_of p t) (framed f a).place (framed f a).locals
          stays e x = subst (λ k. Walked (code_of p t) k (framed f a).locals) (sym e) (subst (Walked (code_of p t) f.place) (sym (ap (λ b. (framed f b).locals) x)) before)

          new : (check : Pure) → i ≡ Assert check 0 → Holds (framed f a).locals check
          new check e = ⊎_elim (λ x. absurd (alive 0 x)) (λ h. ⊎_elim (λ same. subst (λ xs. Holds xs check) (sym same) h) (λ q. absurd (no_local check i q.0 e q.2)) (behind t i f a makes.local)) (makes.check check e)

          old : (check : Pure) → Spares i check → Holds f.locals check → Holds (framed f a).locals check
          old check spares h = ⊎_elim
              (λ same. subst (λ xs. Holds xs check) (sym same) h)
              (λ q. subst (λ xs. Holds xs check) (sym q.3) (ap (λ z. is_zero z) (value_keeps q.0 check (if-at (λ l. names l check ≡ false) (written_local i) q.0 q.2 spares) f.locals q.1) ∙ h))
              (behind t i f a makes.local)

      acted_memory : (b : Act) → CellOf p source b → (c : ℕ) → HoldsPointer p c → Points p (cell c) (at_cell (acted s t b) c)
      unfolding acted
      acted_memory (Puts d v) h c holds = set_at (Points p (cell c)) s.memory d c v (pos 0) (λ e. subst (λ x. Points p (cell x) v) (sym e) (h (subst (HoldsPointer p) e holds))) (sound.memory c holds)
      acted_memory (Updates l v d w) h c holds = set_at (Points p (cell c)) s.memory d c w (pos 0) (λ e. subst (λ x. Points p (cell x) w) (sym e) (h (subst (HoldsPointer p) e holds))) (sound.memory c holds)
      acted_memory _ h c holds = sound.memory c holds

      abbrev Sound : Pending → Type 0
      Sound q = HoldsPointer p q.0 → Points p (cell q.0) q.1

      acted_pending : (b : Act) → CellOf p source b → (u : ℕ) → All Sound (pending_of (acted s t b) u)
      unfolding acted
      acted_pending (Pushes c v) h u = set_at (All Sound) s.pending t u (pending_of s t ++ (c, v) ∷ []) [] (λ e. All-push Sound (pending_of s t) (c, v) (sound.pending t) h) (sound.pending u)
      acted_pending _ h u = sound.pending u

      frame_behind : frame_of (acted s t a) t ≡ framed f a
      frame_behind = own_frame s t a f at

      pub acted_pointed : Pointed p source (acted s t a)
      acted_pointed = record {
        locals = λ u l h. ⊎_elim
            (λ (e : u ≡ t). subst (λ w. Points p (local w l) (slice_index_or (frame_of (acted s t a) w).locals l (pos 0))) (sym e) (subst (λ (g : Frame). Points p (local t l) (slice_index_or g.locals l (pos 0))) (sym frame_behind) (own_local l (subst (λ w. pointers p source w l ≡ true) e h))))
            (λ n. subst (λ xs. Points p (local u l) (slice_index_or xs l (pos 0))) (sym (other_keeps (λ (g : Frame). g.locals) (λ g. refl) s t a u n)) (sound.locals u l h))
            (cases_eq u t);
        memory = acted_memory a makes.cell;
        pending = acted_pending a makes.cell;
        walked = λ u. ⊎_elim
            (λ (e : u ≡ t). subst (λ w. Walked (code_of p w) (frame_of (acted s t a) w).place (frame_of (acted s t a) w).locals) (sym e) (subst (λ (g : Frame). Walked (code_of p t) g.place g.locals) (sym frame_behind) own_walked))
            (λ n. subst (λ k. Walked (code_of p u) k (frame_of (acted s t a) u).locals) (sym (other_keeps (λ (g : Frame). g.place) (λ g. refl) s t a u n)) (subst (Walked (code_of p u) (frame_of s u).place) (sym (other_keeps (λ (g : Frame). g.locals) (λ g. refl) s t a u n)) (sound.walked u)))
            (cases_eq u t);
      }

    -- ---- a flush

    module _ (m : Model) (t c : ℕ) (v : ℤ) (rest : List Pending) (first : part m (pending_of s t) c ≡ (c, v) ∷ rest) where
      abbrev Kept : Pending → Type 0
      Kept q = HoldsPointer p q.0 → Points p (cell q.0) q.1

      taken : Kept (c, v)
      taken = All-head Kept (c, v) rest (subst (All Kept) first (all_part m Kept (pending_of s t) c (sound.pending t)))

      flushed_memory : (d : ℕ) → HoldsPointer p d → Points p (cell d) (at_cell (flushed s t c v) d)
      unfolding flushed
      flushed_memory d h = set_at (Points p (cell d)) s.memory c d v (pos 0) (λ e. subst (λ x. Points p (cell x) v) (sym e) (taken (subst (HoldsPointer p) e h))) (sound.memory d h)

      flushed_pending : (u : ℕ) → All Kept (pending_of (flushed s t c v) u)
      unfolding flushed
      flushed_pending u = set_at (All Kept) s.pending t u (without (pending_of s t) c) [] (λ e. all_without Kept (pending_of s t) c (sound.pending t)) (sound.pending u)

      pub flushed_pointed : Pointed p source (flushed s t c v)
      flushed_pointed = record {
        locals = λ u l h. subst (λ (g : Frame). Points p (local u l) (slice_index_or g.locals l (pos 0))) (sym (flush_frames s t c v u)) (sound.locals u l h);
        memory = flushed_memory;
        pending = flushed_pending;
        walked = λ u. subst (λ (g : Frame). Walked (code_of p u) g.place g.locals) (sym (flush_frames s t c v u)) (sound.walked u);
      }

  -- ---- the start

  all_zero : (n l : ℕ) → slice_index_or (replicate n (pos 0)) l (pos 0) ≡ pos 0
  all_zero n l = ⊎_elim (λ e. e) (λ e. e) (go (cases_lt l n))
    where
      go : (l < n) ⊎ (n ≤ l) → (slice_index_or (replicate n (pos 0)) l (pos 0) ≡ pos 0) ⊎ (slice_index_or (replicate n (pos 0)) l (pos 0) ≡ pos 0)
      go (inl h) = inl (get_or-replicate n l (pos 0) (pos 0) h)
      go (inr h) = inr (past (replicate n (pos 0)) l (let z = length-replicate n (pos 0) in omega (arith, z, h)))
        where
          past : (xs : List ℤ) (l : ℕ) → length xs ≤ l → slice_index_or xs l (pos 0) ≡ pos 0
          past [] l h = refl
          past (x ∷ xs) zero h = absurd (omega (arith, h))
          past (x ∷ xs) (suc l) h = past xs l (omega (arith, h))

  rest_zero : (threads : List Thread) (t l : ℕ) → slice_index_or (slice_index_or (map (at_start false) threads) t idle).locals l (pos 0) ≡ pos 0
  rest_zero [] t l = refl
  rest_zero (x ∷ threads) zero l = all_zero x.locals l
  rest_zero (x ∷ threads) (suc t) l = rest_zero threads t l

  first_zero : (threads : List Thread) (t l : ℕ) → slice_index_or (slice_index_or (all_at_start threads) t idle).locals l (pos 0) ≡ pos 0
  first_zero [] t l = refl
  first_zero (x ∷ threads) zero l = all_zero x.locals l
  first_zero (x ∷ threads) (suc t) l = rest_zero threads t l

  initial_locals : (t l : ℕ) → slice_index_or (frame_of (initial p) t).locals l (pos 0) ≡ pos 0
  unfolding initial
  initial_locals t l = first_zero p.threads t l

  rest_place : (threads : List Thread) (t : ℕ) → (slice_index_or (map (at_start false) threads) t idle).place ≡ 0
  rest_place [] t = refl
  rest_place (x ∷ threads) zero = refl
  rest_place (x ∷ threads) (suc t) = rest_place threads t

  first_place : (threads : List Thread) (t : ℕ) → (slice_index_or (all_at_start threads) t idle).place ≡ 0
  first_place [] t = refl
  first_place (x ∷ threads) zero = refl
  first_place (x ∷ threads) (suc t) = rest_place threads t

  start_place : (t : ℕ) → (frame_of (initial p) t).place ≡ 0
  unfolding initial
  start_place t = first_place p.threads t

  mapped : (xs : List Cell) (c : ℕ) (x : Cell) → slice_get xs c ≡ Some x → slice_index_or (map (λ cell. value_of cell.init []) xs) c (pos 0) ≡ value_of x.init []
  mapped [] c x e = cc
  mapped (y ∷ xs) zero x e = let same : y ≡ x = cc in ap (λ (z : Cell). value_of z.init []) same
  mapped (y ∷ xs) (suc c) x e = mapped xs c x e

  initial_memory : (c : ℕ) → HoldsPointer p c → Points p (cell c) (at_cell (initial p) c)
  unfolding initial
  initial_memory c h = go (slice_get p.cells c) refl h
    where
      go : (o : Option Cell) → slice_get p.cells c ≡ o → IsSomeAnd o (λ cell. cell.pointer ≡ true) → Points p (cell c) (at_cell (initial p) c)
      go None e h = absurd h
      go (Some x) e h =
          let valid : IsCellIn p.cells x = if-at (IsCellIn p.cells) (slice_get p.cells c) x e (All-get (IsCellIn p.cells) p.cells c source.valid.each_cell) in
          let is : IsSourceCell p x = if-at (IsSourceCell p) (slice_get p.cells c) x e (All-get (IsSourceCell p) p.cells c source.cells) in
          subst (Points p (cell c)) (sym (mapped p.cells c x e))
          (some_then (λ d. MayName p (expr 0 x.init) d × IsIntCell p d) (λ d. MayName p (cell c) d × IsIntCell p d) (value_of x.init []) (length p.cells) (start_points p source.valid.cells x.init valid.kind (subst (IsOf (λ l. false) x.init) h is.typed) valid.rows is.ints) (λ d q. (start x e q.0, q.1)))

  initial_pending : (t : ℕ) → All (λ q. HoldsPointer p q.0 → Points p (cell q.0) q.1) (pending_of (initial p) t)
  unfolding initial
  initial_pending t = subst (All (λ q. HoldsPointer p q.0 → Points p (cell q.0) q.1)) (sym (no-pending p.threads t)) (All-nil (λ q. HoldsPointer p q.0 → Points p (cell q.0) q.1))

  pub initial_pointed : Pointed p source (initial p)
  initial_pointed = record {
    locals = λ t l h. subst (Points p (local t l)) (sym (initial_locals t l)) refl;
    memory = initial_memory;
    pending = initial_pending;
    walked = λ t. subst (λ k. Walked (code_of p t) k (frame_of (initial p) t).locals) (sym (start_place t)) (walked_start (code_of p t) (frame_of (initial p) t).locals);
  }
