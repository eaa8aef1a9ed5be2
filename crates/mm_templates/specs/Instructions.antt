-- What each instruction becomes in a woven program: its template. They are read beside the C of docs/formats.md.
use Rattle.std.specs.Prelude.{ℕ, Bool, true, false, ◌&&◌, not, if◌then◌else◌, List, [], ◌∷◌, ◌++◌, slice_index_or}
use Rattle.std.specs.List.{list_any}
use Rattle.mm_goto.specs.declared.ident.Ident.{Ident}
use Rattle.mm_goto.specs.declared.model.Model.{Model}
use Rattle.mm_goto.specs.declared.model.Model.TheVariants.{Tso, Pso}
use Rattle.mm_goto.specs.declared.shape.Shape.{Shape}
use Rattle.mm_goto.specs.declared.pure.Pure.{Pure}
use Rattle.mm_goto.specs.declared.pure.Unary.TheVariants.{Not}
use Rattle.mm_goto.specs.declared.program.Target.{Target}
use Rattle.mm_goto.specs.declared.program.Target.TheVariants as target
use Rattle.mm_goto.specs.declared.program.Instr.{Instr}
use Rattle.mm_goto.specs.declared.program.Instr.TheVariants.{Set, Load, Store, Input, Jump, Branch, Assert, Assume, Fence, Lock, Unlock, Add, Cas, Start, Join, AtomBegin, AtomEnd, End}
use Rattle.mm_goto.specs.Listing.{Listing}
use Rattle.mm_goto.specs.Shapes.{flag_at}
use Rattle.mm_tree.specs.declared.expr.Expr.{Expr}
use Rattle.mm_tree.specs.declared.stmt.Stmt.{Stmt}
use Rattle.mm_words.specs.Words.{num, var, un, plus, equal, assign, assign_call, call, assume, assert, when, return, section, labelled, go_to, branch, skip, fence, lock, unlock, start, join}
use Rattle.mm_helpers.specs.Helpers.{nondet_wm, wm_flush, wm_empty, wm_put, wm_get, wm_set}
use Rattle.mm_templates.specs.Names.{local_name, label_name, handle_name, thread_name}
use Rattle.mm_templates.specs.Expressions.{printed, cell_number}
use Rattle.mm_templates.specs.Homes.{is_moved, read, write}

-- the name of the mutex
abbrev pub mutex_name : List Ident → ℕ → Ident
mutex_name mutexes m = slice_index_or mutexes m []

-- the instruction's target is what a pointer reaches
abbrev pub is_pointed : Target → Bool
is_pointed (target.Cell c) = false
is_pointed (target.Elem first len index) = false
is_pointed (target.Deref e) = true

abbrev pub reaches_by_pointer : Instr → Bool
reaches_by_pointer (Load l a) = is_pointed a
reaches_by_pointer (Store a e) = is_pointed a
reaches_by_pointer (Add l a e) = is_pointed a
reaches_by_pointer (Cas l a e f) = is_pointed a
reaches_by_pointer (Set l e) = false
reaches_by_pointer (Input l) = false
reaches_by_pointer (Jump k) = false
reaches_by_pointer (Branch e k) = false
reaches_by_pointer (Assert e n) = false
reaches_by_pointer (Assume e) = false
reaches_by_pointer Fence = false
reaches_by_pointer (Lock m) = false
reaches_by_pointer (Unlock m) = false
reaches_by_pointer (Start u) = false
reaches_by_pointer (Join u) = false
reaches_by_pointer AtomBegin = false
reaches_by_pointer AtomEnd = false
reaches_by_pointer End = false

-- wm_flush(); at a flush point: any pending stores may reach memory here
abbrev pub flushed : List (List Bool) → ℕ → ℕ → List Stmt
flushed points t i = if flag_at points t i then call wm_flush [] ∷ [] else []

-- wm_empty(u); waits until no store of thread u is pending
abbrev pub emptied : ℕ → Stmt
emptied u = call wm_empty (num u ∷ [])

-- a direct store to a cell that has not moved waits for all of its thread's stores under TSO
abbrev pub emptied_before : Model → ℕ → List Stmt
emptied_before Tso t = emptied t ∷ []
emptied_before Pso t = []

-- in one section: a flush, the wait for the thread's own stores, and the rest
abbrev pub drained : List (List Bool) → ℕ → ℕ → List Stmt → List Stmt
drained points t i rest = section (flushed points t i ++ emptied t ∷ rest)

module _ (p : Listing) (shape : Shape) where
  -- what the target has now
  abbrev pub value_at : Target → Expr
  value_at a = read p.cells shape.moved a

  -- the target becomes e
  abbrev pub written : Target → Expr → Stmt
  written a e = write p.cells shape.moved a e

  -- r = A; A = r + e;
  abbrev pub added : ℕ → Target → Pure → List Stmt
  added l a e = assign (local_name l) (value_at a) ∷ written a (plus (var (local_name l)) (printed e)) ∷ []

  -- r = A; if (r == e) { A = f; } r = r == e;
  abbrev pub swapped : ℕ → Target → Pure → Pure → List Stmt
  swapped l a e f =
      assign (local_name l) (value_at a)
      ∷ when (equal (var (local_name l)) (printed e)) (written a (printed f) ∷ [])
      ∷ assign (local_name l) (equal (var (local_name l)) (printed e))
      ∷ []

  -- an instruction where no store is buffered
  abbrev pub plain : Instr → List Stmt
  plain (Set l e) = assign (local_name l) (printed e) ∷ []
  plain (Load l a) = assign (local_name l) (value_at a) ∷ []
  plain (Store a e) = written a (printed e) ∷ []
  plain (Input l) = assign_call (local_name l) nondet_wm [] ∷ []
  plain (Jump k) = go_to (label_name k) ∷ []
  plain (Branch e k) = branch (un Not (printed e)) (label_name k) ∷ []
  plain (Assert e n) = assert (printed e) n ∷ []
  plain (Assume e) = assume (printed e) ∷ []
  plain Fence = fence ∷ []
  plain (Lock m) = lock (mutex_name p.mutexes m) ∷ []
  plain (Unlock m) = unlock (mutex_name p.mutexes m) ∷ []
  plain (Add l a e) = section (added l a e)
  plain (Cas l a e f) = section (swapped l a e f)
  plain (Start u) = start (handle_name u) (thread_name u) ∷ []
  plain (Join u) = join (handle_name u) ∷ []
  plain AtomBegin = []
  plain AtomEnd = []
  plain End = return (num 0) ∷ []

  -- what a load reads: the thread's newest pending store to the cell, or else memory
  abbrev pub loaded : ℕ → ℕ → Target → Stmt
  loaded t l a = if is_moved shape.moved a then assign_call (local_name l) wm_get (num t ∷ cell_number a ∷ []) else assign (local_name l) (value_at a)

  -- wm_put(t, n, e); where the store is buffered, wm_set(t, n, e); where it is not and its cell has moved, or else A = e;
  abbrev pub stored : ℕ → ℕ → Target → Pure → List Stmt
  stored t i a e =
      if flag_at shape.buffered t i then call wm_put (num t ∷ cell_number a ∷ printed e ∷ []) ∷ []
      else (if is_moved shape.moved a then call wm_set (num t ∷ cell_number a ∷ printed e ∷ []) ∷ []
      else (emptied_before shape.model t ++ written a (printed e) ∷ []))

  -- an instruction where some store of the program is buffered
  abbrev pub with_buffers : ℕ → ℕ → Instr → List Stmt
  with_buffers t i (Load l a) = section (flushed shape.points t i ++ loaded t l a ∷ [])
  with_buffers t i (Store a e) = section (flushed shape.points t i ++ stored t i a e)
  with_buffers t i (Add l a e) = drained shape.points t i (added l a e)
  with_buffers t i (Cas l a e f) = drained shape.points t i (swapped l a e f)
  with_buffers t i Fence = drained shape.points t i [] ++ plain Fence
  with_buffers t i (Lock m) = drained shape.points t i [] ++ plain (Lock m)
  with_buffers t i (Unlock m) = drained shape.points t i [] ++ plain (Unlock m)
  with_buffers t i (Start u) = drained shape.points t i [] ++ plain (Start u)
  with_buffers t i (Join u) = plain (Join u) ++ drained shape.points t i (emptied u ∷ [])
  with_buffers t i (Set l e) = plain (Set l e)
  with_buffers t i (Input l) = plain (Input l)
  with_buffers t i (Jump k) = plain (Jump k)
  with_buffers t i (Branch e k) = plain (Branch e k)
  with_buffers t i (Assert e n) = plain (Assert e n)
  with_buffers t i (Assume e) = plain (Assume e)
  with_buffers t i AtomBegin = plain AtomBegin
  with_buffers t i AtomEnd = plain AtomEnd
  with_buffers t i End = plain End

  -- the instruction at place i of thread t, with its label; where no address stands in the program, what follows a pointer is
  -- never executed, since its null check fails before it
  abbrev pub woven_instr : (has_buffers has_address : Bool) → ℕ → ℕ → Instr → List Stmt
  woven_instr has_buffers has_address t i it = labelled (label_name i)
      (if reaches_by_pointer it && not has_address then skip ∷ [] else (if has_buffers then with_buffers t i it else plain it))
