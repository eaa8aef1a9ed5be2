-- Expressions of goto programs as C. The address of a cell is its number and one, so that 0 is no address.
use Rattle.std.specs.Prelude.{ℕ, ◌+◌}
use Rattle.mm_goto.specs.declared.pure.Pure.{Pure}
use Rattle.mm_goto.specs.declared.pure.Pure.TheOpen.{Pure-F, Const, Local, Addr, AddrElem, Un, Bin, Cond}
use Rattle.mm_goto.specs.declared.pure.Pure.TheFolds.{fold-Pure}
use Rattle.mm_goto.specs.declared.program.Target.{Target}
use Rattle.mm_goto.specs.declared.program.Target.TheVariants as target
use Rattle.mm_tree.specs.declared.expr.Expr.{Expr}
use Rattle.mm_words.specs.Words.{number, num, var, un, bin, plus, minus, choice}
use Rattle.mm_templates.specs.Names.{local_name}

abbrev pub printed_step : Pure-F Expr → Expr
printed_step (Const z) = number z
printed_step (Local l) = var (local_name l)
printed_step (Addr c) = num (c + 1)
printed_step (AddrElem first len index) = plus (num (first + 1)) index
printed_step (Un op x) = un op x
printed_step (Bin op x y) = bin op x y
printed_step (Cond c x y) = choice c x y

-- the expression in C, over the locals' names
abbrev pub printed : Pure → Expr
printed = fold-Pure Expr printed_step

-- the number of the target's cell in C
abbrev pub cell_number : Target → Expr
cell_number (target.Cell c) = num c
cell_number (target.Elem first len index) = plus (num first) (printed index)
cell_number (target.Deref e) = minus (printed e) (num 1)
