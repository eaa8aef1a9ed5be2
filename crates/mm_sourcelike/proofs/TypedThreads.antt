-- The threads of an accepted source fit the types, and take the addresses of whole arrays and of single cells.
use Rattle.std.proofs.Common.{arith, ◌≡◌, ℕ, zero, suc, ◌+◌, Bool, true, false, List, [], ◌∷◌, ◌++◌, codes, All, refl, sym, ap, subst, Some, None}
use Rattle.std.specs.List.{AllByRecursion, flat_map, slice_get}
use Rattle.std.proofs.lemmas.List.Elements.{All-from_recursion}
use Rattle.mm_goto.specs.declared.ident.Ident.{Ident}
use Rattle.mm_goto.specs.declared.pure.Pure.{Pure}
use Rattle.mm_goto.specs.declared.program.Instr.{Instr}
use Rattle.mm_goto.specs.declared.program.Instr.TheVariants as instr
use Rattle.mm_goto.specs.declared.program.Target.{Target}
use Rattle.mm_goto.specs.declared.program.Target.TheVariants as target
use Rattle.mm_goto.specs.declared.program.Thread.{Thread}
use Rattle.mm_goto.specs.Checks.{targets, target_exprs, value_exprs}
use Rattle.mm_goto.specs.Kinds.{IsInstrTyped, IsRowOfInts, IsTargetOf, NamesInts}
use Rattle.mm_goto.specs.Listing.{Listing}
use Rattle.mm_goto.specs.Locals.{rows_of}
use Rattle.mm_goto.specs.Parts.{addressed, arrays_of}
use Rattle.mm_goto.specs.Sourcelike.{IsSingle, IsWholeArray, exprs_of, target_cells, target_rows}
use Rattle.mm_tree.specs.declared.item.Item.{Item}
use Rattle.mm_tree.specs.declared.item.Tree.{Tree}
use Rattle.mm_tree.specs.declared.side.Side.TheVariants.{Source}
use Rattle.mm_flow.specs.declared.names.Parts.{Parts}
use Rattle.mm_flow.specs.Programs.{limit_passed, named_function, parts_of, program_of, the_function, thread_code, thread_of}
use Rattle.mm_flow.specs.Statements.{Function}
use Rattle.mm_names.specs.Programs.{IsAccepted}
use Rattle.mm_sourcelike.specs.Grammatical.{IsGrammatical}
use Rattle.mm_sourcelike.proofs.Cells.{both_all}
use Rattle.mm_sourcelike.proofs.EachThread.{each_thread, thread_each}
use Rattle.mm_sourcelike.proofs.GlobalCells.{globals_fit}
use Rattle.mm_sourcelike.proofs.Inlining.{thread_typed}
use Rattle.mm_sourcelike.proofs.Threading.{ThreadFunction}
use Rattle.mm_sourcelike.proofs.TypedExpressions.{FitsFlow, FitsInstr, FitsTarget, FitsTest}
use Rattle.mm_sourcelike.proofs.TypedPures.{Tidy}
use Rattle.mm_sourcelike.proofs.Typing.{Typing}
use Rattle.mm_sourcelike.proofs.Validity.{text}

-- ---- an instruction's types

module _ (p : Listing) (q : ℕ → Bool) where
  target_typed : (t : Target) (b : Bool) → FitsTarget p q t b → IsTargetOf p q t b
  target_typed (target.Cell c) b h = h.pointer
  target_typed (target.Elem first len e) b h = (h.0, h.1.0)
  target_typed (target.Deref e) b h = (h.0, h.1.0)

  instr_typed : (i : Instr) → FitsInstr p q i → IsInstrTyped p q i
  instr_typed (instr.Set l e) h = h.0
  instr_typed (instr.Load l t) h = target_typed t (q l) h
  instr_typed (instr.Store t e) h = (h.0, target_typed t h.0 h.1, h.2.0)
  instr_typed (instr.Input l) h = h
  instr_typed (instr.Jump k) h = tt
  instr_typed (instr.Branch e k) h = h.0
  instr_typed (instr.Assert e n) h = h.0
  instr_typed (instr.Assume e) h = h.0
  instr_typed instr.Fence h = tt
  instr_typed (instr.Lock m) h = tt
  instr_typed (instr.Unlock m) h = tt
  instr_typed (instr.Add l t e) h = (h.0, target_typed t false h.1, h.2.0)
  instr_typed (instr.Cas l t e f) h = (h.0, target_typed t false h.1, h.2.0, h.3.0)
  instr_typed (instr.Start u) h = tt
  instr_typed (instr.Join u) h = tt
  instr_typed instr.AtomBegin h = tt
  instr_typed instr.AtomEnd h = tt
  instr_typed instr.End h = tt

-- ---- the cells that it names

module _ (p : Listing) where
  -- its expressions, and the arrays and cells of its target
  record IsTidyInstr (i : Instr) : Type 0 where
    exprs : AllByRecursion (Tidy p) (exprs_of i)
    rows : AllByRecursion (IsWholeArray p) (flat_map target_rows (targets i))
    cells : AllByRecursion (IsSingle p) (flat_map target_cells (targets i))

  record IsTidyTarget (t : Target) : Type 0 where
    exprs : AllByRecursion (Tidy p) (flat_map target_exprs (t ∷ []))
    rows : AllByRecursion (IsWholeArray p) (flat_map target_rows (t ∷ []))
    cells : AllByRecursion (IsSingle p) (flat_map target_cells (t ∷ []))

  target_tidy : (q : ℕ → Bool) (t : Target) (b : Bool) → FitsTarget p q t b → IsTidyTarget t
  target_tidy q (target.Cell c) b h = record { exprs = tt; rows = tt; cells = (h.single, tt) }
  target_tidy q (target.Elem first len e) b h = record { exprs = (h.1.1, tt); rows = (h.2, tt); cells = tt }
  target_tidy q (target.Deref e) b h = record { exprs = (h.1.1, tt); rows = tt; cells = tt }

  alone : (i : Instr) → targets i ≡ [] → AllByRecursion (Tidy p) (value_exprs i) → IsTidyInstr i
  alone i e h = record {
    exprs = subst (λ (ts : List Target). AllByRecursion (Tidy p) (flat_map target_exprs ts ++ value_exprs i)) (sym e) h;
    rows = subst (λ (ts : List Target). AllByRecursion (IsWholeArray p) (flat_map target_rows ts)) (sym e) tt;
    cells = subst (λ (ts : List Target). AllByRecursion (IsSingle p) (flat_map target_cells ts)) (sym e) tt;
  }

  beside : (i : Instr) (t : Target) → targets i ≡ t ∷ [] → IsTidyTarget t → AllByRecursion (Tidy p) (value_exprs i) → IsTidyInstr i
  beside i t e g h = record {
    exprs = subst (λ (ts : List Target). AllByRecursion (Tidy p) (flat_map target_exprs ts ++ value_exprs i)) (sym e) (both_all (Tidy p) (flat_map target_exprs (t ∷ [])) (value_exprs i) g.exprs h);
    rows = subst (λ (ts : List Target). AllByRecursion (IsWholeArray p) (flat_map target_rows ts)) (sym e) g.rows;
    cells = subst (λ (ts : List Target). AllByRecursion (IsSingle p) (flat_map target_cells ts)) (sym e) g.cells;
  }

  instr_tidy : (q : ℕ → Bool) (i : Instr) → FitsInstr p q i → IsTidyInstr i
  instr_tidy q (instr.Set l e) h = alone (instr.Set l e) refl (h.1, tt)
  instr_tidy q (instr.Load l t) h = beside (instr.Load l t) t refl (target_tidy q t (q l) h) tt
  instr_tidy q (instr.Store t e) h = beside (instr.Store t e) t refl (target_tidy q t h.0 h.1) (h.2.1, tt)
  instr_tidy q (instr.Input l) h = alone (instr.Input l) refl tt
  instr_tidy q (instr.Jump k) h = alone (instr.Jump k) refl tt
  instr_tidy q (instr.Branch e k) h = alone (instr.Branch e k) refl (h.1, tt)
  instr_tidy q (instr.Assert e n) h = alone (instr.Assert e n) refl (h.1, tt)
  instr_tidy q (instr.Assume e) h = alone (instr.Assume e) refl (h.1, tt)
  instr_tidy q instr.Fence h = alone instr.Fence refl tt
  instr_tidy q (instr.Lock m) h = alone (instr.Lock m) refl tt
  instr_tidy q (instr.Unlock m) h = alone (instr.Unlock m) refl tt
  instr_tidy q (instr.Add l t e) h = beside (instr.Add l t e) t refl (target_tidy q t false h.1) (h.2.1, tt)
  instr_tidy q (instr.Cas l t e f) h = beside (instr.Cas l t e f) t refl (target_tidy q t false h.1) (h.2.1, (h.3.1, tt))
  instr_tidy q (instr.Start u) h = alone (instr.Start u) refl tt
  instr_tidy q (instr.Join u) h = alone (instr.Join u) refl tt
  instr_tidy q instr.AtomBegin h = alone instr.AtomBegin refl tt
  instr_tidy q instr.AtomEnd h = alone instr.AtomEnd refl tt
  instr_tidy q instr.End h = alone instr.End refl tt

  rows_whole : (es : List Pure) → AllByRecursion (Tidy p) es → AllByRecursion (IsWholeArray p) (flat_map arrays_of es)
  rows_whole [] h = tt
  rows_whole (e ∷ es) h = both_all (IsWholeArray p) (arrays_of e) (flat_map arrays_of es) h.0.arrays (rows_whole es h.1)

  cells_single : (es : List Pure) → AllByRecursion (Tidy p) es → AllByRecursion (IsSingle p) (flat_map addressed es)
  cells_single [] h = tt
  cells_single (e ∷ es) h = both_all (IsSingle p) (addressed e) (flat_map addressed es) h.0.singles (cells_single es h.1)

  names_ints : (es : List Pure) → AllByRecursion (Tidy p) es → AllByRecursion (NamesInts p) es
  names_ints [] h = tt
  names_ints (e ∷ es) h = (All-from_recursion (IsRowOfInts p) (rows_of e) h.0.ints, names_ints es h.1)

-- ---- threads

-- there are types for its locals that each instruction fits
record IsTypedThread (p : Listing) (t : Thread) : Type 0 where
  pointers : ℕ → Bool
  each : (k : ℕ) (i : Instr) → slice_get t.code k ≡ Some i → FitsInstr p pointers i

all_by_index : {A : Type 0} (P : A → Type 0) (xs : List A) → ((k : ℕ) (x : A) → slice_get xs k ≡ Some x → P x) → AllByRecursion P xs
all_by_index P [] h = tt
all_by_index P (x ∷ xs) h = (h zero x refl, all_by_index P xs (λ k y e. h (suc k) y e))

module _ (tree : Tree) (g : IsGrammatical Source tree) (accepted : IsAccepted Source tree) (none : limit_passed Source tree ≡ None) where
  abbrev items : List Item
  items = tree.items

  abbrev p : Listing
  p = program_of Source tree

  abbrev parts : Parts
  parts = parts_of Source items

  typed_thread : (outermost : Bool) (f : Ident) → ThreadFunction p items parts (text Source tree g.ints g.scoped accepted none) outermost f → IsTypedThread p (thread_of parts items f)
  typed_thread outermost f h =
      let named : named_function parts items f ≡ h.function = ap the_function h.is in
      let typing : Typing 0 (thread_code parts items h.function).known.next (λ q. FitsFlow p q (thread_code parts items h.function).flow) =
      thread_typed p items parts (text Source tree g.ints g.scoped accepted none) (globals_fit tree g accepted none) (thread_of parts items f) outermost h.function h.body h.untyped h.asserts
      (omega (arith, ap (λ (d : Function). (thread_code parts items d).known.next) named)) h.main in
      let flow = typing.holds typing.kinds (λ l a b. refl) in
      record {
        pointers = typing.kinds;
        each = thread_each parts items f (FitsInstr p typing.kinds) (FitsTest p typing.kinds) (λ k. tt) (λ e k t. t) tt
            (subst (λ (d : Function). FitsFlow p typing.kinds (thread_code parts items d).flow) (sym named) flow);
      }

  thread_at : (t : ℕ) (thread : Thread) → slice_get p.threads t ≡ Some thread → IsTypedThread p thread
  thread_at t thread e = each_thread Source tree g.ints g.scoped accepted none (IsTypedThread p) (λ h. typed_thread true (codes "main") h) (λ f h. typed_thread false f h) t thread e

  pub locals_typed : (t : ℕ) (thread : Thread) → slice_get p.threads t ≡ Some thread → (pointers : ℕ → Bool) × All (IsInstrTyped p pointers) thread.code
  locals_typed t thread e =
      let r = thread_at t thread e in
      (r.pointers, All-from_recursion (IsInstrTyped p r.pointers) thread.code (all_by_index (IsInstrTyped p r.pointers) thread.code (λ k i f. instr_typed p r.pointers i (r.each k i f))))

  tidy_at : (t k : ℕ) (thread : Thread) (i : Instr) → slice_get p.threads t ≡ Some thread → slice_get thread.code k ≡ Some i → IsTidyInstr p i
  tidy_at t k thread i e f = let r = thread_at t thread e in instr_tidy p r.pointers i (r.each k i f)

  pub addresses_of_ints : (t k : ℕ) (thread : Thread) (i : Instr) → slice_get p.threads t ≡ Some thread → slice_get thread.code k ≡ Some i → All (NamesInts p) (exprs_of i)
  addresses_of_ints t k thread i e f = let r = tidy_at t k thread i e f in All-from_recursion (NamesInts p) (exprs_of i) (names_ints p (exprs_of i) r.exprs)

  pub whole_arrays : (t k : ℕ) (thread : Thread) (i : Instr) → slice_get p.threads t ≡ Some thread → slice_get thread.code k ≡ Some i → All (IsWholeArray p) (flat_map target_rows (targets i) ++ flat_map arrays_of (exprs_of i))
  whole_arrays t k thread i e f =
      let r = tidy_at t k thread i e f in
      All-from_recursion (IsWholeArray p) (flat_map target_rows (targets i) ++ flat_map arrays_of (exprs_of i))
      (both_all (IsWholeArray p) (flat_map target_rows (targets i)) (flat_map arrays_of (exprs_of i)) r.rows (rows_whole p (exprs_of i) r.exprs))

  pub single_cells : (t k : ℕ) (thread : Thread) (i : Instr) → slice_get p.threads t ≡ Some thread → slice_get thread.code k ≡ Some i → All (IsSingle p) (flat_map target_cells (targets i) ++ flat_map addressed (exprs_of i))
  single_cells t k thread i e f =
      let r = tidy_at t k thread i e f in
      All-from_recursion (IsSingle p) (flat_map target_cells (targets i) ++ flat_map addressed (exprs_of i))
      (both_all (IsSingle p) (flat_map target_cells (targets i)) (flat_map addressed (exprs_of i)) r.cells (cells_single p (exprs_of i) r.exprs))
