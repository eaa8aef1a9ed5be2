-- Names and types of expressions.
use Rattle.std.specs.Prelude.{ℤ, ◌==◌, false, [], ◌∷◌, Option, Some, None}
use Rattle.std.specs.Int.{w32, cast_unsigned}
use Rattle.mm_goto.specs.declared.ident.At.{At}
use Rattle.mm_goto.specs.declared.ident.Ident.{Ident}
use Rattle.mm_tree.specs.declared.expr.Expr.{Expr, fold-Expr}
use Rattle.mm_tree.specs.declared.expr.Node.{Node, fold-Node}
use Rattle.mm_tree.specs.declared.expr.Node.TheOpen as node
use Rattle.mm_tree.specs.declared.expr.Node.TheOpen.{Node-F, Expr-F}
use Rattle.mm_scope.specs.declared.fault.Rule.TheVariants.{UnknownName, WrongType}
use Rattle.mm_scope.specs.declared.operand.Kind.{Kind}
use Rattle.mm_scope.specs.declared.operand.Kind.TheVariants as kind
use Rattle.mm_scope.specs.declared.operand.Operand.{Operand}
use Rattle.mm_scope.specs.declared.table.Meaning.{Meaning}
use Rattle.mm_scope.specs.declared.table.Meaning.TheVariants as meaning
use Rattle.mm_scope.specs.declared.expression.Sort.{Sort}
use Rattle.mm_scope.specs.declared.expression.Sort.TheVariants.{Variable, Shared, Array}
use Rattle.mm_scope.specs.Notes.{refusal}
use Rattle.mm_scope.specs.Operands.{Judged, unary, binary, deref, element, address, choice, of_one, of_two, of_three}
use Rattle.mm_scope.specs.Scopes.{Names, meaning_of}

-- ---- names

-- the type that a name has where something of this sort is wanted
abbrev pub kind_of : Sort → Meaning → Option Kind
kind_of Variable meaning.Shared = Some kind.Int
kind_of Variable meaning.Int = Some kind.Int
kind_of Variable meaning.Pointer = Some kind.Pointer
kind_of Shared meaning.Shared = Some kind.Int
kind_of Array (meaning.Array n) = Some kind.Int
kind_of _ _ = None

abbrev pub refused : At → Operand
refused at = record { at = at; zero = false; kind = None }

abbrev pub judged_kind : At → Option Kind → Judged
judged_kind at None = record { operand = refused at; notes = refusal WrongType at ∷ [] }
judged_kind at (Some k) = record { operand = record { at = at; zero = false; kind = Some k }; notes = [] }

abbrev pub judged_meaning : Sort → At → Option Meaning → Judged
judged_meaning sort at None = record { operand = refused at; notes = refusal UnknownName at ∷ [] }
judged_meaning sort at (Some meaning.Unready) = record { operand = refused at; notes = refusal UnknownName at ∷ [] }
judged_meaning sort at (Some m) = judged_kind at (kind_of sort m)

-- a name that has to stand for something of this sort
unfoldable pub named : Sort → Names → At → Ident → Judged
named sort names at x = judged_meaning sort at (meaning_of names x)

-- ---- expressions

abbrev pub judged_number : At → ℤ → Judged
judged_number at z = record { operand = record { at = at; zero = cast_unsigned w32 z == 0; kind = Some kind.Int }; notes = [] }

abbrev pub judged_null : At → Judged
judged_null at = record { operand = record { at = at; zero = false; kind = Some kind.Pointer }; notes = [] }

-- the outermost layer of an expression at this place, whose parts are judged
abbrev pub judged_node_step : Names → Node-F (At → Judged) Judged → At → Judged
judged_node_step names (node.Number z) at = judged_number at z
judged_node_step names node.Null at = judged_null at
judged_node_step names (node.Name x) at = named Variable names at x
judged_node_step names (node.Index x e) at = of_two (element at kind.Int) (named Array names at x) e
judged_node_step names (node.Deref e) at = of_one (deref at) e
judged_node_step names (node.AddrName w) at = of_one (address at) (named Shared names w.at w.name)
judged_node_step names (node.AddrIndex w e) at = of_two (element at kind.Pointer) (named Array names w.at w.name) e
judged_node_step names (node.Un op e) at = of_one (unary at op) e
judged_node_step names (node.Bin op a b) at = of_two (binary at op) a b
judged_node_step names (node.Cond c a b) at = of_three (choice at) c a b

abbrev pub judged_expr_step : Expr-F (At → Judged) Judged → Judged
judged_expr_step layer = layer.node layer.at

abbrev pub judged_node : Names → Node → At → Judged
judged_node names = fold-Node (At → Judged) Judged (judged_node_step names) judged_expr_step

abbrev pub judged_expr : Names → Expr → Judged
judged_expr names = fold-Expr (At → Judged) Judged (judged_node_step names) judged_expr_step
