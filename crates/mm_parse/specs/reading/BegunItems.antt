-- This mirrors the code: nothing that a reader believes rests on it.
-- What is read where the first terminal of an item tells how it goes on, and the items of a program one by one.
use Rattle.std.specs.Prelude.{ℕ, Bool, true, false, [], ◌∷◌, Option, Some, None}
use Rattle.mm_tree.specs.declared.expr.Expr.{Expr}
use Rattle.mm_tree.specs.declared.expr.Word.{Word}
use Rattle.mm_tree.specs.declared.item.Global.{Global}
use Rattle.mm_tree.specs.declared.item.Item.{Item}
use Rattle.mm_tree.specs.declared.item.Item.TheVariants as item_node
use Rattle.mm_reading.specs.Parsing.{◌>>=◌, ◌>>◌, pure, fail, peek, skip}
use Rattle.mm_parse_expr.specs.declared.symbol.Keyword.TheVariants as reserved
use Rattle.mm_parse_expr.specs.declared.symbol.Symbol.{Symbol}
use Rattle.mm_parse_expr.specs.declared.symbol.Symbol.TheVariants.{Keyword}
use Rattle.mm_parse_expr.specs.declared.terminal.Terminal.{Terminal}
use Rattle.mm_parse_expr.specs.reading.ExprReading.{Reader}
use Rattle.mm_tree.specs.Trees.{global}
use Rattle.mm_grammar.specs.reading.StatementReading.{semicolon, others}
use Rattle.mm_grammar.specs.reading.ProgramReading.{global_item, int_item, mutexes, threads, void_item, qualified, item_by}

-- a variable that is no array, with its initialiser where it has one
abbrev pub scalar_tree : Bool → Word → Option Expr → Global
scalar_tree b w None = global w.at b w.name None []
scalar_tree b w (Some e) = global w.at b w.name None (e ∷ [])

-- the globals behind the first, and ";"
abbrev pub globals_behind : ℕ → Global → Reader Item
globals_behind n g = others global_item n >>= λ gs. semicolon >> pure (item_node.Globals (g ∷ gs))

abbrev pub only_where : Bool → Reader Item → Option (Reader Item)
only_where true p = Some p
only_where false p = None

-- what an item goes on with behind "static" or "volatile" and another terminal; None where none does
abbrev pub qualified_by : ℕ → Bool → Symbol → Option (Reader Item)
qualified_by n may_run (Keyword reserved.Static) = Some (qualified n false)
qualified_by n may_run (Keyword reserved.Volatile) = Some (qualified n false)
qualified_by n may_run (Keyword reserved.Int) = Some (int_item n false may_run)
qualified_by n may_run (Keyword reserved.Mutex) = Some (mutexes n)
qualified_by n may_run (Keyword reserved.Thread) = Some (threads n)
qualified_by n may_run (Keyword reserved.Void) = only_where may_run (void_item n)
qualified_by n may_run _ = None

abbrev pub item_begun : Option (Reader Item) → Reader (Option Item)
item_begun None = fail
item_begun (Some p) = skip >> (p >>= λ i. pure (Some i))

abbrev pub next_item_at : ℕ → Option Terminal → Reader (Option Item)
next_item_at n None = pure None
next_item_at n (Some t) = item_begun (item_by n t.symbol)

-- the next item, and None at the end
unfoldable pub next_item : ℕ → Reader (Option Item)
next_item n = peek (next_item_at n)
