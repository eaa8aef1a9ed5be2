-- The helpers as functions of the program, and the code of their calls.
use Rattle.std.specs.Prelude.{◌≡◌, ℕ, List, [], ◌∷◌, Some}
use Rattle.mm_tree.specs.declared.item.Item.{Item}
use Rattle.mm_tree.specs.declared.item.Item.TheVariants as item
use Rattle.mm_tree.specs.declared.stmt.Stmt.{Stmt}
use Rattle.mm_words.specs.Words.{param, called}
use Rattle.mm_helpers.specs.Helpers.{wm_t, wm_c, wm_v, wm_mem, tso_put, tso_pop, tso_get, tso_empty, tso_set, flush}
use Rattle.mm_goto.specs.declared.ident.Ident.{Ident}
use Rattle.mm_tree.specs.declared.expr.Expr.{Expr}
use Rattle.mm_flow.specs.Flow.{Flow}
use Rattle.mm_flow.specs.Expressions.{Val}
use Rattle.mm_flow.specs.declared.names.Named.{Named}
use Rattle.mm_flow.specs.declared.names.Seen.{Seen}
use Rattle.mm_flow.specs.Scopes.{spot_of}
use Rattle.mm_flow.specs.Statements.{Within, Known, Function, value_of, stmt_code, body_code}
use Rattle.mm_pieces.specs.Mirroring.{Table, array_at, HasArrays}

-- the statements of a function
abbrev pub body_of : Item → List Stmt
body_of (item.Function at gives f ps ss) = ss
body_of (item.Globals gs) = []
body_of (item.Mutexes ws) = []
body_of (item.Threads ws) = []
body_of (item.InputDecl at f) = []

-- the helpers under TSO, where a row has so many places and n assertions stand before the function
abbrev pub put_function : (places n : ℕ) → Function
put_function places n = record { params = param wm_t ∷ param wm_c ∷ param wm_v ∷ []; body = body_of (tso_put places); asserts = n }

abbrev pub pop_function : (places n : ℕ) → Function
pop_function places n = record { params = param wm_t ∷ []; body = body_of (tso_pop places); asserts = n }

abbrev pub get_function : (places n : ℕ) → Function
get_function places n = record { params = param wm_t ∷ param wm_c ∷ []; body = body_of (tso_get places); asserts = n }

abbrev pub flush_function : (rows n : ℕ) → Function
flush_function rows n = record { params = []; body = body_of (flush rows); asserts = n }

abbrev pub empty_function : ℕ → Function
empty_function n = record { params = param wm_t ∷ []; body = body_of tso_empty; asserts = n }

abbrev pub set_function : ℕ → Function
set_function n = record { params = param wm_t ∷ param wm_c ∷ param wm_v ∷ []; body = body_of tso_set; asserts = n }

-- what is known before a statement: the locals by their names, the next fresh local, and what stands before it
abbrev pub known : Seen → List Named → ℕ → Known
known seen names k = record { names = names; next = k; seen = seen }

-- a call writes the function's body out, where the local for what it returns is known
pub record Inlines (w : Within) (inner : ℕ → Within) : Type 0 where
  pub by : (f : Function) (names : List Named) (k ret : ℕ) → w.inline f names k ret ≡ body_code f.body (inner ret) (known (record { asserts = f.asserts; starts = 0 }) names k)
  pub ret : (r : ℕ) → (inner r).ret ≡ Some r

-- the bodies name the arrays so, and the shared cells from mem on
pub record Sees (t : Table) (count mem : ℕ) (inner : ℕ → Within) : Type 0 where
  pub arrays : (r : ℕ) → HasArrays t (inner r).parts.spots
  pub shared : (r : ℕ) → spot_of (inner r).parts.spots wm_mem ≡ Some (array_at wm_mem mem count)

-- the code of a statement
abbrev pub flow_of : Within → Known → Stmt → Flow
flow_of w k s = (stmt_code s w k).flow

-- the code of a call whose value is taken
abbrev pub call_of : Within → List Named → ℕ → Ident → List Expr → Val
call_of w names k f es = value_of w names k (called f es)
