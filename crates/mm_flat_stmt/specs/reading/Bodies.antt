-- The code of bodies, as it is made.
use Rattle.std.specs.Prelude.{◌≡◌, ℕ, ◌+◌, List, length, Option, Some, None}
use Rattle.mm_goto.specs.declared.ident.At.{At}
use Rattle.mm_goto.specs.declared.ident.Ident.{Ident}
use Rattle.mm_goto.specs.declared.program.Instr.TheVariants as instr
use Rattle.mm_goto.specs.Terms.{the_local}
use Rattle.mm_tree.specs.declared.expr.Expr.{Expr}
use Rattle.mm_tree.specs.declared.item.Item.{Item}
use Rattle.mm_tree.specs.declared.stmt.Value.{Value}
use Rattle.mm_flow.specs.declared.assembler.Piece.TheVariants as piece
use Rattle.mm_flow.specs.declared.names.Named.{Named}
use Rattle.mm_flow.specs.Expressions.{Val, Vals, values, zero_value}
use Rattle.mm_flow.specs.Flow.{Body, size}
use Rattle.mm_flow.specs.Statements.{Did, Function, as_function, from, inline_at, sets, value_of}
use Rattle.mm_flow.specs.Text.{labels_in}
use Rattle.mm_flow.specs.reading.Assembling.{Assembly, Context, count, done, the_scope, within}
use Rattle.mm_flow.specs.reading.Emission.{emit, put}

-- the function that is an item, where so many assertions stand before it
abbrev pub function_at : Option Item → Option ℕ → Option Function
function_at None n = None
function_at (Some i) None = None
function_at (Some i) (Some n) = as_function i n

-- the code of a value
abbrev pub value_at : Context → Assembly → Value → Val
value_at x a v = value_of (within x) a.known.names a.known.next v

-- the values that are given to a function whose parameters and result have the next locals
abbrev pub arguments : Context → Function → List Expr → Assembly → Vals
arguments x f es a = values (the_scope x a) es (a.known.next + length f.params + 1)

-- what stands before a called function's body is there
abbrev pub entered : Context → At → Function → List Expr → Assembly → Assembly
entered x at f es a =
    let args = arguments x f es a in
    let ret = a.known.next + length f.params in
    let given = emit x.labels x.exits args.flow a.made in
    record {
      known = from a.known args.next;
      made = put (emit x.labels x.exits (sets at args.pures a.known.next) given) (piece.Do at (instr.Set ret zero_value));
    }

-- how many instructions stand before a called function's body
abbrev pub entry_size : Context → At → Function → List Expr → Assembly → ℕ
entry_size x at f es a =
    let args = arguments x f es a in
    size args.flow + size (sets at args.pures a.known.next) + 1

-- a called function's body, with its labels, the names of its parameters and the local for what it returns
abbrev pub inlined_with : Context → Function → List Ident → List Named → ℕ → Assembly → Val
inlined_with x f labels names ret a =
    let body = inline_at x.parts x.items x.calls f names a.known.next ret in
    record { flow = Body labels body.flow; pure = the_local ret; next = body.known.next }

abbrev pub inlined : Context → Function → List Named → ℕ → Assembly → Val
inlined x f names ret a = inlined_with x f (labels_in f.body) names ret a

-- what is left to do ends as the whole does
pub record Remains (x : Context) (whole rest : Did) (old new : Assembly) : Type 0 where
  pub code : done x whole old ≡ done x rest new
  pub room : count old + size whole.flow ≡ count new + size rest.flow
