-- Code as it is made: what it stands in, and what there is so far.
use Rattle.std.specs.Prelude.{ℕ, ◌+◌, List, length, Option}
use Rattle.mm_goto.specs.declared.ident.Ident.{Ident}
use Rattle.mm_tree.specs.declared.expr.Expr.{Expr}
use Rattle.mm_tree.specs.declared.item.Item.{Item}
use Rattle.mm_flow.specs.declared.assembler.Exits.{Exits}
use Rattle.mm_flow.specs.declared.assembler.Piece.{Piece}
use Rattle.mm_flow.specs.declared.fault.Stop.{Stop}
use Rattle.mm_flow.specs.declared.fault.Stop.TheVariants.{Full, NoMemory}
use Rattle.mm_flow.specs.declared.names.Named.{Named}
use Rattle.mm_flow.specs.declared.names.Parts.{Parts}
use Rattle.mm_flow.specs.declared.names.Seen.{Seen}
use Rattle.mm_flow.specs.Expressions.{Val, Vals, Aim, Scope, expr_value}
use Rattle.mm_flow.specs.Flow.{Flow}
use Rattle.mm_flow.specs.Statements.{Within, Known, Did, Doing, from, inline_at, scope}
use Rattle.mm_flow.specs.reading.Emission.{Made, emit, put, labelled, reserved, marked, within_loop}

-- what code stands in: the text, the labels of its body, where its exits lead, the local for what its function returns, how
-- deep calls may still nest, and how many instructions there may be
pub record Context : Type 0 where
  pub parts : Parts
  pub items : List Item
  pub labels : List Ident
  pub exits : Exits
  pub ret : Option ℕ
  pub calls : ℕ
  pub limit : ℕ

abbrev pub within : Context → Within
within x = record { parts = x.parts; items = x.items; inline = inline_at x.parts x.items x.calls; ret = x.ret }

-- what stands in a loop
abbrev pub inside : Context → (behind next : ℕ) → Context
inside x behind next = record {
  parts = x.parts;
  items = x.items;
  labels = x.labels;
  exits = within_loop x.exits behind next;
  ret = x.ret;
  calls = x.calls;
  limit = x.limit;
}

-- what is known behind the code, and the code
pub record Assembly : Type 0 where
  pub known : Known
  pub made : Made

-- ---- one step

abbrev pub with_piece : Piece → Assembly → Assembly
with_piece p a = record { known = a.known; made = put a.made p }

abbrev pub with_label : Assembly → Assembly
with_label a = record { known = a.known; made = labelled a.made }

abbrev pub with_labels : List Ident → Assembly → Assembly
with_labels names a = record { known = a.known; made = reserved names a.made }

abbrev pub with_mark : ℕ → Assembly → Assembly
with_mark l a = record { known = a.known; made = marked l a.made }

-- so many more locals
abbrev pub with_locals : ℕ → Assembly → Assembly
with_locals n a = record { known = from a.known (a.known.next + n); made = a.made }

abbrev pub with_names : List Named → Assembly → Assembly
with_names names a = record { known = record { names = names; next = a.known.next; seen = a.known.seen }; made = a.made }

abbrev pub with_seen : Seen → Assembly → Assembly
with_seen seen a = record { known = record { names = a.known.names; next = a.known.next; seen = seen }; made = a.made }

-- ---- expressions and statements

-- the code of an expression
abbrev pub read : Context → Assembly → Expr → Val
read x a e = expr_value e (scope (within x) a.known.names) a.known.next

abbrev pub the_scope : Context → Assembly → Scope
the_scope x a = scope (within x) a.known.names

-- a value's code is behind it
abbrev pub valued : Context → Val → Assembly → Assembly
valued x v a = record { known = from a.known v.next; made = emit x.labels x.exits v.flow a.made }

-- code that takes no local is behind it
abbrev pub with_flow : Context → Flow → Assembly → Assembly
with_flow x f a = record { known = a.known; made = emit x.labels x.exits f a.made }

-- the code of several values is behind it
abbrev pub with_values : Context → Vals → Assembly → Assembly
with_values x v a = record { known = from a.known v.next; made = emit x.labels x.exits v.flow a.made }

-- the code before an access is behind it
abbrev pub aimed : Context → Aim → Assembly → Assembly
aimed x t a = record { known = from a.known t.next; made = emit x.labels x.exits t.flow a.made }

-- what a statement does
abbrev pub doing : Context → Doing → Assembly → Did
doing x d a = d (within x) a.known

-- a statement's code is behind it
abbrev pub done : Context → Did → Assembly → Assembly
done x d a = record { known = d.known; made = emit x.labels x.exits d.flow a.made }

-- ---- room

-- how many pieces there are
abbrev pub count : Assembly → ℕ
count a = length a.made.pieces

-- what holds where there is no room for the code
abbrev pub WhenFull : Stop → Type 0 → Type 0
WhenFull Full P = P
WhenFull NoMemory P = Unit {0}
