-- What the template of each instruction weighs.
use Rattle.std.proofs.Common.{arith, ◌≡◌, ℕ, ◌+◌, ◌≤◌, Bool, true, false, ◌&&◌, not, if◌then◌else◌, List, [], ◌∷◌, ◌++◌, refl}
use Rattle.std.specs.List.{AllByRecursion}
use Rattle.mm_goto.specs.declared.ident.Ident.{Ident}
use Rattle.mm_goto.specs.declared.model.Model.{Model}
use Rattle.mm_goto.specs.declared.model.Model.TheVariants.{Tso, Pso}
use Rattle.mm_goto.specs.declared.shape.Shape.{Shape}
use Rattle.mm_goto.specs.declared.pure.Pure.{Pure}
use Rattle.mm_goto.specs.declared.pure.Unary.TheVariants.{Not}
use Rattle.mm_goto.specs.declared.pure.Binary.TheVariants as binary
use Rattle.mm_goto.specs.declared.program.Cell.{Cell}
use Rattle.mm_goto.specs.declared.program.Target.{Target}
use Rattle.mm_goto.specs.declared.program.Target.TheVariants as target
use Rattle.mm_goto.specs.declared.program.Instr.{Instr}
use Rattle.mm_goto.specs.declared.program.Instr.TheVariants as instr
use Rattle.mm_goto.specs.Checks.{targets, target_exprs, value_exprs}
use Rattle.mm_goto.specs.Listing.{Listing}
use Rattle.mm_goto.specs.Parts.{nodes}
use Rattle.mm_goto.specs.Shapes.{flag_at}
use Rattle.mm_goto.specs.Sites.{is_site}
use Rattle.mm_tree.specs.declared.expr.Expr.{Expr}
use Rattle.mm_tree.specs.declared.stmt.Stmt.{Stmt}
use Rattle.mm_flow.specs.declared.names.Started.{Started}
use Rattle.mm_words.specs.Words.{elem, skip}
use Rattle.mm_helpers.specs.Helpers.{nondet_wm, wm_mem, wm_flush, wm_empty, wm_put, wm_get, wm_set}
use Rattle.mm_templates.specs.Names.{local_name, label_name, handle_name, thread_name}
use Rattle.mm_templates.specs.Expressions.{printed, cell_number}
use Rattle.mm_templates.specs.Homes.{cell_name, is_moved, read_by_name, read, write_by_name, write}
use Rattle.mm_templates.specs.Instructions.{mutex_name, reaches_by_pointer, flushed, emptied, emptied_before, drained, added, swapped, plain, loaded, stored, with_buffers, woven_instr}
use Rattle.mm_within.proofs.Weights.{Calls}
use Rattle.mm_within.proofs.WordCosts.{Priced, priced_more, priced_num, priced_var, priced_elem, priced_un, priced_bin, priced_none, priced_next, One, one_more, Runs, runs_none, runs_next, runs_more, runs_one, runs_both, one_assign, one_assign_elem, one_call, one_assign_call, one_input, one_skip, one_assume, one_assert, one_when, one_return, one_goto, one_branch, one_fence, one_lock, one_unlock, one_start, one_join, runs_section, runs_labelled}
use Rattle.mm_within.proofs.HelperCosts.{joins_add, joins_sub, joins_eq, Helped}

-- ---- targets

-- each expression of the target costs so much at most
abbrev pub Aimed : List Ident → ℕ → Target → Type 0
Aimed xs n a = AllByRecursion (λ e. Priced xs (printed e) (n + 3) 1) (target_exprs a)

-- the number of a target's cell
number_priced : (xs : List Ident) (n : ℕ) (a : Target) → Aimed xs n a → Priced xs (cell_number a) (n + 3) 1
number_priced xs n (target.Cell c) h = priced_more (omega arith) (omega arith) (priced_num c)
number_priced xs n (target.Elem first len index) h = priced_more (omega arith) (omega arith) (priced_bin binary.Add joins_add (priced_num first) h.0)
number_priced xs n (target.Deref e) h = priced_more (omega arith) (omega arith) (priced_bin binary.Sub joins_sub h.0 (priced_num 1))

-- what an unmoved target has
name_priced : (xs : List Ident) (n : ℕ) (cells : List Cell) (a : Target) → Aimed xs n a → Priced xs (read_by_name cells a) (n + 5) 2
name_priced xs n cells (target.Cell c) h = priced_more (omega arith) (omega arith) (priced_var (cell_name cells c))
name_priced xs n cells (target.Elem first len index) h = priced_more (omega arith) (omega arith) (priced_elem (cell_name cells first) h.0)
name_priced xs n cells (target.Deref e) h = priced_more (omega arith) (omega arith) (priced_elem wm_mem (number_priced xs n (target.Deref e) h))

-- what a target has
read_priced : (xs : List Ident) (n : ℕ) (cells : List Cell) (moved : List Bool) (a : Target) → Aimed xs n a → Priced xs (read cells moved a) (n + 5) 2
read_priced xs n cells moved a h = by (is_moved moved a)
  where
    by : (b : Bool) → Priced xs (if b then elem wm_mem (cell_number a) else read_by_name cells a) (n + 5) 2
    by true = priced_more (omega arith) (omega arith) (priced_elem wm_mem (number_priced xs n a h))
    by false = name_priced xs n cells a h

-- ---- instructions

-- how many instructions and fresh locals a template takes, by whether the instruction is a site
abbrev pub most_size : Bool → ℕ
most_size true = 1516
most_size false = 416

-- how many fresh locals a template takes, by whether the instruction is a site
abbrev pub most_fresh : Bool → ℕ
most_fresh true = 45
most_fresh false = 25

-- the thread that it starts
abbrev pub starts_of : Instr → List Started
starts_of (instr.Start u) = record { variable = handle_name u; function = thread_name u } ∷ []
starts_of _ = []

-- its target has so many nodes, each value costs so much, and together they are no larger than a source has them
pub record Sized (xs : List Ident) (it : Instr) : Type 0 where
  pub n : ℕ
  pub few : n ≤ 410
  pub targets : AllByRecursion (Aimed xs n) (targets it)
  pub values : AllByRecursion (λ e. Priced xs (printed e) (nodes e + 3) 1 × (n + nodes e ≤ 410)) (value_exprs it)

module _ (calls : Calls) (Quiet : Ident → Type 0) (p : Listing) (shape : Shape) (xs : List Ident) where
  -- statements that leave the names as they are
  abbrev Keeps : List Stmt → ℕ → ℕ → List Started → Type 0
  Keeps ss n f us = Runs calls Quiet xs xs ss n f us

  -- one of two templates
  chosen : {ss ts : List Stmt} {n f : ℕ} {us : List Started} (b : Bool) → Keeps ss n f us → Keeps ts n f us → Keeps (if b then ss else ts) n f us
  chosen true h k = h
  chosen false h k = k

  -- one of two statements
  chosen_one : {s t : Stmt} {n f : ℕ} {us : List Started} (b : Bool) → One calls Quiet xs xs s n f us → One calls Quiet xs xs t n f us → One calls Quiet xs xs (if b then s else t) n f us
  chosen_one true h k = h
  chosen_one false h k = k

  -- an unmoved target becomes e
  named_one : (n : ℕ) (cells : List Cell) (a : Target) {e : Expr} {m f : ℕ} → Aimed xs n a → Priced xs e m f → One calls Quiet xs xs (write_by_name cells a e) (n + m + 5) (1 + f) []
  named_one n cells (target.Cell c) h q = one_more calls Quiet (omega arith) (omega arith) (one_assign calls Quiet (cell_name cells c) q)
  named_one n cells (target.Elem first len index) h q = one_more calls Quiet (omega arith) (omega arith) (one_assign_elem calls Quiet (cell_name cells first) h.0 q)
  named_one n cells (target.Deref d) h q = one_more calls Quiet (omega arith) (omega arith) (one_assign_elem calls Quiet wm_mem (number_priced xs n (target.Deref d) h) q)

  -- a target becomes e
  write_one : (n : ℕ) (cells : List Cell) (moved : List Bool) (a : Target) {e : Expr} {m f : ℕ} → Aimed xs n a → Priced xs e m f → One calls Quiet xs xs (write cells moved a e) (n + m + 5) (1 + f) []
  write_one n cells moved a h q = chosen_one (is_moved moved a) (one_more calls Quiet (omega arith) (omega arith) (one_assign_elem calls Quiet wm_mem (number_priced xs n a h) q))
      (named_one n cells a h q)

  -- r = A; A = r + e;
  added_runs : (n m l : ℕ) (a : Target) (e : Pure) → Aimed xs n a → Priced xs (printed e) m 1 → Keeps (added p shape l a e) (n + n + m + 12) 6 []
  added_runs n m l a e h q =
      runs_more calls Quiet (omega arith) (omega arith)
      (runs_next calls Quiet (one_assign calls Quiet (local_name l) (read_priced xs n p.cells shape.moved a h))
      (runs_one calls Quiet (write_one n p.cells shape.moved a h (priced_bin binary.Add joins_add (priced_var (local_name l)) q))))

  -- r = A; if (r == e) { A = f; } r = r == e;
  swapped_runs : (n m k l : ℕ) (a : Target) (e f : Pure) → Aimed xs n a → Priced xs (printed e) m 1 → Priced xs (printed f) k 1 → Keeps (swapped p shape l a e f) (n + n + m + m + k + 20) 9 []
  swapped_runs n m k l a e f h q r =
      let same = priced_bin binary.Eq joins_eq (priced_var (local_name l)) q in
      runs_more calls Quiet (omega arith) (omega arith)
      (runs_next calls Quiet (one_assign calls Quiet (local_name l) (read_priced xs n p.cells shape.moved a h))
      (runs_next calls Quiet (one_when calls Quiet same (runs_one calls Quiet (write_one n p.cells shape.moved a h r)))
      (runs_one calls Quiet (one_assign calls Quiet (local_name l) same))))

  -- ---- where stores are buffered

  module _ (help : Helped calls Quiet) where
    -- wm_flush(); or nothing
    flush_runs : (t i : ℕ) → Keeps (flushed shape.points t i) 46 16 []
    flush_runs t i = chosen (flag_at shape.points t i)
        (runs_more calls Quiet (omega arith) (omega arith) (runs_one calls Quiet (one_call calls Quiet wm_flush help.flush priced_none)))
        (runs_more calls Quiet (omega arith) (omega arith) (runs_none calls Quiet))

    -- wm_empty(u);
    empty_one : (u : ℕ) → One calls Quiet xs xs (emptied u) 10 4 []
    empty_one u = one_more calls Quiet (omega arith) (omega arith) (one_call calls Quiet wm_empty help.empty (priced_next (priced_num u) priced_none))

    -- a flush, the wait for the thread's own stores, and the rest
    drained_runs : (t i : ℕ) {ss : List Stmt} {n f : ℕ} → Keeps ss n f [] → Keeps (drained shape.points t i ss) (n + 58) (f + 20) []
    drained_runs t i h = runs_more calls Quiet (omega arith) (omega arith) (runs_section calls Quiet (runs_both calls Quiet _ (flush_runs t i) (runs_next calls Quiet (empty_one t) h)))

    -- what a load reads
    loaded_one : (t l n : ℕ) (a : Target) → Aimed xs n a → One calls Quiet xs xs (loaded p shape t l a) (n + 25) 9 []
    loaded_one t l n a h = chosen_one (is_moved shape.moved a)
        (one_more calls Quiet (omega arith) (omega arith) (one_assign_call calls Quiet (local_name l) wm_get help.get (priced_next (priced_num t) (priced_next (number_priced xs n a h) priced_none))))
        (one_more calls Quiet (omega arith) (omega arith) (one_assign calls Quiet (local_name l) (read_priced xs n p.cells shape.moved a h)))

    -- the wait before a direct store
    before_runs : (m : Model) (t : ℕ) → Keeps (emptied_before m t) 10 4 []
    before_runs Tso t = runs_one calls Quiet (empty_one t)
    before_runs Pso t = runs_more calls Quiet (omega arith) (omega arith) (runs_none calls Quiet)

    -- a store
    stored_runs : (t i n m : ℕ) (a : Target) (e : Pure) → Aimed xs n a → Priced xs (printed e) m 1 → Keeps (stored p shape t i a e) (n + m + 22) 10 []
    stored_runs t i n m a e h q =
        let parts = priced_next (priced_num t) (priced_next (number_priced xs n a h) (priced_next q priced_none)) in
        chosen (flag_at shape.buffered t i)
        (runs_more calls Quiet (omega arith) (omega arith) (runs_one calls Quiet (one_call calls Quiet wm_put help.put parts)))
        (chosen (is_moved shape.moved a)
        (runs_more calls Quiet (omega arith) (omega arith) (runs_one calls Quiet (one_call calls Quiet wm_set help.set parts)))
        (runs_more calls Quiet (omega arith) (omega arith) (runs_both calls Quiet _ (before_runs shape.model t) (runs_one calls Quiet (write_one n p.cells shape.moved a h q)))))

  -- ---- instructions

  module _ (quiet : Quiet nondet_wm) where
    -- the template of the instruction keeps to the limits of one
    abbrev KeepsLimit : List Stmt → Instr → Type 0
    KeepsLimit ss it = Keeps ss (most_size (is_site it)) (most_fresh (is_site it)) (starts_of it)

    -- r = e;
    set_runs : (l : ℕ) (e : Pure) → Sized xs (instr.Set l e) → KeepsLimit (plain p shape (instr.Set l e)) (instr.Set l e)
    set_runs l e s = let v = s.values.0.0 in let h = s.values.0.1 in runs_more calls Quiet (omega (arith, h)) (omega arith) (runs_one calls Quiet (one_assign calls Quiet (local_name l) v))

    -- r = nondet_wm();
    input_runs : (l : ℕ) → KeepsLimit (plain p shape (instr.Input l)) (instr.Input l)
    input_runs l = runs_more calls Quiet (omega arith) (omega arith) (runs_one calls Quiet (one_input calls Quiet (local_name l) nondet_wm refl quiet))

    -- goto l;
    jump_runs : (k : ℕ) → KeepsLimit (plain p shape (instr.Jump k)) (instr.Jump k)
    jump_runs k = runs_more calls Quiet (omega arith) (omega arith) (runs_one calls Quiet (one_goto calls Quiet (label_name k)))

    -- if (!e) goto l;
    branch_runs : (e : Pure) (k : ℕ) → Sized xs (instr.Branch e k) → KeepsLimit (plain p shape (instr.Branch e k)) (instr.Branch e k)
    branch_runs e k s = let v = s.values.0.0 in let h = s.values.0.1 in
        runs_more calls Quiet (omega (arith, h)) (omega arith) (runs_one calls Quiet (one_branch calls Quiet (label_name k) (priced_un Not v)))

    -- __CPROVER_assert(e, "assertion k");
    assert_runs : (e : Pure) (k : ℕ) → Sized xs (instr.Assert e k) → KeepsLimit (plain p shape (instr.Assert e k)) (instr.Assert e k)
    assert_runs e k s = let v = s.values.0.0 in let h = s.values.0.1 in runs_more calls Quiet (omega (arith, h)) (omega arith) (runs_one calls Quiet (one_assert calls Quiet k v))

    -- __CPROVER_assume(e);
    assume_runs : (e : Pure) → Sized xs (instr.Assume e) → KeepsLimit (plain p shape (instr.Assume e)) (instr.Assume e)
    assume_runs e s = let v = s.values.0.0 in let h = s.values.0.1 in runs_more calls Quiet (omega (arith, h)) (omega arith) (runs_one calls Quiet (one_assume calls Quiet v))

    -- return 0;
    end_runs : KeepsLimit (plain p shape instr.End) instr.End
    end_runs = runs_more calls Quiet (omega arith) (omega arith) (runs_one calls Quiet (one_return calls Quiet (priced_num 0)))

    -- nothing
    none_runs : Keeps [] 416 25 []
    none_runs = runs_more calls Quiet (omega arith) (omega arith) (runs_none calls Quiet)

    -- an instruction where no store is buffered
    plain_runs : (it : Instr) → Sized xs it → KeepsLimit (plain p shape it) it
    plain_runs (instr.Set l e) s = set_runs l e s
    plain_runs (instr.Load l a) s = let few = s.few in
        runs_more calls Quiet (omega (arith, few)) (omega arith) (runs_one calls Quiet (one_assign calls Quiet (local_name l) (read_priced xs s.n p.cells shape.moved a s.targets.0)))
    plain_runs (instr.Store a e) s = let v = s.values.0.0 in let h = s.values.0.1 in
        runs_more calls Quiet (omega (arith, h)) (omega arith) (runs_one calls Quiet (write_one s.n p.cells shape.moved a s.targets.0 v))
    plain_runs (instr.Input l) s = input_runs l
    plain_runs (instr.Jump k) s = jump_runs k
    plain_runs (instr.Branch e k) s = branch_runs e k s
    plain_runs (instr.Assert e k) s = assert_runs e k s
    plain_runs (instr.Assume e) s = assume_runs e s
    plain_runs instr.Fence s = runs_more calls Quiet (omega arith) (omega arith) (runs_one calls Quiet (one_fence calls Quiet))
    plain_runs (instr.Lock m) s = runs_more calls Quiet (omega arith) (omega arith) (runs_one calls Quiet (one_lock calls Quiet (mutex_name p.mutexes m)))
    plain_runs (instr.Unlock m) s = runs_more calls Quiet (omega arith) (omega arith) (runs_one calls Quiet (one_unlock calls Quiet (mutex_name p.mutexes m)))
    plain_runs (instr.Add l a e) s = let v = s.values.0.0 in let h = s.values.0.1 in
        runs_more calls Quiet (omega (arith, h)) (omega arith) (runs_section calls Quiet (added_runs s.n (nodes e + 3) l a e s.targets.0 v))
    plain_runs (instr.Cas l a e f) s =
        let v = s.values.0.0 in let h = s.values.0.1 in let w = s.values.1.0.0 in let k = s.values.1.0.1 in
        runs_more calls Quiet (omega (arith, h, k)) (omega arith) (runs_section calls Quiet (swapped_runs s.n (nodes e + 3) (nodes f + 3) l a e f s.targets.0 v w))
    plain_runs (instr.Start u) s = runs_more calls Quiet (omega arith) (omega arith) (runs_one calls Quiet (one_start calls Quiet (handle_name u) (thread_name u)))
    plain_runs (instr.Join u) s = runs_more calls Quiet (omega arith) (omega arith) (runs_one calls Quiet (one_join calls Quiet (handle_name u)))
    plain_runs instr.AtomBegin s = none_runs
    plain_runs instr.AtomEnd s = none_runs
    plain_runs instr.End s = end_runs

    -- the template behind a flush and the wait for the thread's own stores
    drained_first : (help : Helped calls Quiet) (t i : ℕ) {ss : List Stmt} {us : List Started} → Keeps ss 1 0 us → Keeps (drained shape.points t i [] ++ ss) 59 20 us
    drained_first help t i h = runs_more calls Quiet (omega arith) (omega arith) (runs_both calls Quiet _ (drained_runs help t i (runs_none calls Quiet)) h)

    -- an instruction where some store is
    buffered_runs : Helped calls Quiet → (t i : ℕ) (it : Instr) → Sized xs it → KeepsLimit (with_buffers p shape t i it) it
    buffered_runs help t i (instr.Set l e) s = set_runs l e s
    buffered_runs help t i (instr.Load l a) s = let few = s.few in
        runs_more calls Quiet (omega (arith, few)) (omega arith)
        (runs_section calls Quiet (runs_both calls Quiet _ (flush_runs help t i) (runs_one calls Quiet (loaded_one help t l s.n a s.targets.0))))
    buffered_runs help t i (instr.Store a e) s =
        let v = s.values.0.0 in let h = s.values.0.1 in
        runs_more calls Quiet (omega (arith, h)) (omega arith) (runs_section calls Quiet (runs_both calls Quiet _ (flush_runs help t i) (stored_runs help t i s.n (nodes e + 3) a e s.targets.0 v)))
    buffered_runs help t i (instr.Input l) s = input_runs l
    buffered_runs help t i (instr.Jump k) s = jump_runs k
    buffered_runs help t i (instr.Branch e k) s = branch_runs e k s
    buffered_runs help t i (instr.Assert e k) s = assert_runs e k s
    buffered_runs help t i (instr.Assume e) s = assume_runs e s
    buffered_runs help t i instr.Fence s = runs_more calls Quiet (omega arith) (omega arith) (drained_first help t i (runs_one calls Quiet (one_fence calls Quiet)))
    buffered_runs help t i (instr.Lock m) s = runs_more calls Quiet (omega arith) (omega arith) (drained_first help t i (runs_one calls Quiet (one_lock calls Quiet (mutex_name p.mutexes m))))
    buffered_runs help t i (instr.Unlock m) s = runs_more calls Quiet (omega arith) (omega arith) (drained_first help t i (runs_one calls Quiet (one_unlock calls Quiet (mutex_name p.mutexes m))))
    buffered_runs help t i (instr.Add l a e) s = let v = s.values.0.0 in let h = s.values.0.1 in
        runs_more calls Quiet (omega (arith, h)) (omega arith) (drained_runs help t i (added_runs s.n (nodes e + 3) l a e s.targets.0 v))
    buffered_runs help t i (instr.Cas l a e f) s =
        let v = s.values.0.0 in let h = s.values.0.1 in let w = s.values.1.0.0 in let k = s.values.1.0.1 in
        runs_more calls Quiet (omega (arith, h, k)) (omega arith) (drained_runs help t i (swapped_runs s.n (nodes e + 3) (nodes f + 3) l a e f s.targets.0 v w))
    buffered_runs help t i (instr.Start u) s = runs_more calls Quiet (omega arith) (omega arith) (drained_first help t i (runs_one calls Quiet (one_start calls Quiet (handle_name u) (thread_name u))))
    buffered_runs help t i (instr.Join u) s =
        runs_more calls Quiet (omega arith) (omega arith) (runs_next calls Quiet (one_join calls Quiet (handle_name u)) (drained_runs help t i (runs_one calls Quiet (empty_one help u))))
    buffered_runs help t i instr.AtomBegin s = none_runs
    buffered_runs help t i instr.AtomEnd s = none_runs
    buffered_runs help t i instr.End s = end_runs

    -- ;
    skip_runs : {n f : ℕ} → Keeps (skip ∷ []) n f []
    skip_runs = runs_more calls Quiet (omega arith) (omega arith) (runs_one calls Quiet (one_skip calls Quiet))

    -- the instruction is skipped, or has its template
    either_runs : (it : Instr) (b : Bool) {ss : List Stmt} → KeepsLimit ss it → KeepsLimit (if reaches_by_pointer it && b then skip ∷ [] else ss) it
    either_runs (instr.Set l e) b h = h
    either_runs (instr.Load l a) b h = chosen (reaches_by_pointer (instr.Load l a) && b) skip_runs h
    either_runs (instr.Store a e) b h = chosen (reaches_by_pointer (instr.Store a e) && b) skip_runs h
    either_runs (instr.Input l) b h = h
    either_runs (instr.Jump k) b h = h
    either_runs (instr.Branch e k) b h = h
    either_runs (instr.Assert e k) b h = h
    either_runs (instr.Assume e) b h = h
    either_runs instr.Fence b h = h
    either_runs (instr.Lock m) b h = h
    either_runs (instr.Unlock m) b h = h
    either_runs (instr.Add l a e) b h = chosen (reaches_by_pointer (instr.Add l a e) && b) skip_runs h
    either_runs (instr.Cas l a e f) b h = chosen (reaches_by_pointer (instr.Cas l a e f) && b) skip_runs h
    either_runs (instr.Start u) b h = h
    either_runs (instr.Join u) b h = h
    either_runs instr.AtomBegin b h = h
    either_runs instr.AtomEnd b h = h
    either_runs instr.End b h = h

    -- the template of an instruction keeps to the limits of one
    pub instr_runs : (buffers addresses : Bool) → (buffers ≡ true → Helped calls Quiet) → (t i : ℕ) (it : Instr) → Sized xs it → KeepsLimit (woven_instr p shape buffers addresses t i it) it
    instr_runs true addresses help t i it s = runs_labelled calls Quiet (label_name i) (either_runs it (not addresses) (buffered_runs (help refl) t i it s))
    instr_runs false addresses help t i it s = runs_labelled calls Quiet (label_name i) (either_runs it (not addresses) (plain_runs it s))
