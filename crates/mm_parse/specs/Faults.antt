-- What a text gives: its tree, or where it is none and why.
use Rattle.std.specs.Prelude.{◌≡◌, ℕ, List, map, Some, None}
use Rattle.mm_goto.specs.declared.ident.At.{At}
use Rattle.mm_lexer.specs.declared.token.Token.{Token}
use Rattle.mm_tree.specs.declared.item.Tree.{Tree}
use Rattle.mm_tree.specs.declared.side.Side.{Side}
use Rattle.mm_reading.specs.Runs.{IsFirstRefusal}
use Rattle.mm_parse_expr.specs.declared.terminal.Terminal.{Terminal}
use Rattle.mm_parse_expr.specs.declared.fault.ParseFault.{ParseFault}
use Rattle.mm_parse_expr.specs.declared.fault.ParseFault.TheVariants.{TooDeep}
use Rattle.mm_parse_expr.specs.Faults.{fault_at}
use Rattle.mm_parse_expr.specs.Terminals.{terminal_of}
use Rattle.mm_grammar.specs.Nesting.{deep_at}
use Rattle.mm_grammar.specs.ProgramGrammar.{IsProgram}

-- no more is open than a text of the side may have open, and the tokens are the program of this tree
pub record Parses (side : Side) (text : List ℕ) (tokens : List Token) (tree : Tree) : Type 0 where
  pub shallow : deep_at side (map (terminal_of text) tokens) ≡ None
  pub program : IsProgram (map (terminal_of text) tokens) tree

-- too much is open at the place; or nowhere, and the tokens are no program, with the fault behind the longest run of them
-- that begins one
pub data IsFault (side : Side) (text : List ℕ) (tokens : List Token) : ParseFault → Type 0 where
  too_deep : (at : At)
      → deep_at side (map (terminal_of text) tokens) ≡ Some at
      → IsFault side text tokens (TooDeep at)
  no_program : (rest : List Terminal)
      → deep_at side (map (terminal_of text) tokens) ≡ None
      → IsFirstRefusal IsProgram (map (terminal_of text) tokens) rest
      → IsFault side text tokens (fault_at text rest)
