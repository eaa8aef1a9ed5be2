-- The tokens of a text as the grammar sees them.
use Rattle.std.specs.Prelude.{ℕ, ◌-◌, List, length, take, drop}
use Rattle.mm_lexer.specs.declared.token.Token.{Token}
use Rattle.mm_lexer.specs.declared.token.TokenKind.{TokenKind}
use Rattle.mm_lexer.specs.declared.token.TokenKind.TheVariants as kind
use Rattle.mm_lexer.specs.Tokens.{bytes_of}
use Rattle.mm_parse_expr.specs.declared.terminal.Terminal.{Terminal}
use Rattle.mm_parse_expr.specs.Symbols.{symbol_of}

abbrev pub between_quotes : List ℕ → List ℕ
between_quotes bytes = take (length bytes - 2) (drop 1 bytes)

-- the bytes of a token, and of a text what stands between its quotes
abbrev pub spelling_of : TokenKind → List ℕ → List ℕ
spelling_of kind.Text bytes = between_quotes bytes
spelling_of _ bytes = bytes

abbrev pub terminal_of : List ℕ → Token → Terminal
terminal_of text t = record { symbol = symbol_of t.kind (bytes_of text t); at = t.at; spelling = spelling_of t.kind (bytes_of text t) }
