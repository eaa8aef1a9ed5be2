-- What a text means as a tree.
use Rattle.std.specs.Prelude.{◌≡◌, ℕ, List, map, None}
use Rattle.mm_lexer.specs.declared.token.Token.{Token}
use Rattle.mm_lexer.specs.Tokens.{AreTokens}
use Rattle.mm_tree.specs.declared.item.Tree.{Tree}
use Rattle.mm_tree.specs.declared.side.Side.{Side}
use Rattle.mm_parse_expr.specs.Terminals.{terminal_of}
use Rattle.mm_grammar.specs.Nesting.{deep_at}
use Rattle.mm_grammar.specs.ProgramGrammar.{IsProgram}

-- the tokens of the text nest within the limits of the side, are a program of the grammar, and have this tree
pub record IsTreeOf (side : Side) (text : List ℕ) (tree : Tree) : Type 0 where
  pub tokens : List Token
  pub cut : AreTokens text tokens
  pub shallow : deep_at side (map (terminal_of text) tokens) ≡ None
  pub parsed : IsProgram (map (terminal_of text) tokens) tree
