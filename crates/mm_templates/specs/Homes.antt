-- Where a cell lives in a woven program: under its own name, or in the shared array wm_mem once it has moved there.
use Rattle.std.specs.Prelude.{ℕ, Bool, true, false, if◌then◌else◌, List, [], Option, Some, None, option_map, slice_get, unwrap_or, slice_index_or}
use Rattle.mm_goto.specs.declared.ident.Ident.{Ident}
use Rattle.mm_goto.specs.declared.pure.Pure.{Pure}
use Rattle.mm_goto.specs.declared.program.Cell.{Cell}
use Rattle.mm_goto.specs.declared.program.Target.{Target}
use Rattle.mm_goto.specs.declared.program.Target.TheVariants as target
use Rattle.mm_tree.specs.declared.expr.Expr.{Expr}
use Rattle.mm_tree.specs.declared.stmt.Stmt.{Stmt}
use Rattle.mm_words.specs.Words.{num, var, elem, assign, assign_elem}
use Rattle.mm_helpers.specs.Helpers.{wm_mem}
use Rattle.mm_templates.specs.Expressions.{printed, cell_number}

-- the name of the cell, or of its array
abbrev pub cell_name : List Cell → ℕ → Ident
cell_name cells c = unwrap_or (option_map (λ a. a.name) (slice_get cells c)) []

-- the cell of that number has moved to the shared array
abbrev pub has_moved : List Bool → ℕ → Bool
has_moved moved c = slice_index_or moved c false

-- the target lives in the shared array: an array moves whole, and a pointer reaches moved cells alone
abbrev pub is_moved : List Bool → Target → Bool
is_moved moved (target.Cell c) = has_moved moved c
is_moved moved (target.Elem first len index) = has_moved moved first
is_moved moved (target.Deref e) = true

-- what an unmoved target is called: x or a[e]
abbrev pub read_by_name : List Cell → Target → Expr
read_by_name cells (target.Cell c) = var (cell_name cells c)
read_by_name cells (target.Elem first len index) = elem (cell_name cells first) (printed index)
read_by_name cells (target.Deref e) = elem wm_mem (cell_number (target.Deref e))

-- what the target is called: x or a[e], or wm_mem[n] where it has moved
abbrev pub read : List Cell → List Bool → Target → Expr
read cells moved a = if is_moved moved a then elem wm_mem (cell_number a) else read_by_name cells a

-- x = e; or a[i] = e;
abbrev pub write_by_name : List Cell → Target → Expr → Stmt
write_by_name cells (target.Cell c) e = assign (cell_name cells c) e
write_by_name cells (target.Elem first len index) e = assign_elem (cell_name cells first) (printed index) e
write_by_name cells (target.Deref p) e = assign_elem wm_mem (cell_number (target.Deref p)) e

-- the target becomes e: x = e; or a[i] = e; or wm_mem[n] = e; where it has moved
abbrev pub write : List Cell → List Bool → Target → Expr → Stmt
write cells moved a e = if is_moved moved a then assign_elem wm_mem (cell_number a) e else write_by_name cells a e
