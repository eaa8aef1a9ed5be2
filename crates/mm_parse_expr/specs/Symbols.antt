-- The symbols of the grammar: what a token is by its kind and its bytes.
use Rattle.std.specs.Prelude.{ℕ, if◌then◌else◌, List, [], ◌∷◌, map}
use Rattle.std.specs.Str.{bytes_eq}
use Rattle.mm_lexer.specs.declared.token.TokenKind.{TokenKind}
use Rattle.mm_lexer.specs.declared.token.TokenKind.TheVariants as kind
use Rattle.mm_parse_expr.specs.declared.symbol.Symbol.{Symbol}
use Rattle.mm_parse_expr.specs.declared.symbol.Symbol.TheVariants.{Name, Number, Text, Outside}
use Rattle.mm_parse_expr.specs.declared.symbol.TheConstants.{WORDS, MARKS}

-- the symbol beside the word in a table, and another one where it is not there
abbrev pub lookup : List (List ℕ × Symbol) → List ℕ → Symbol → Symbol
lookup [] word other = other
lookup (entry ∷ table) word other = if bytes_eq entry.0 word then entry.1 else lookup table word other

-- a word of the profile, an outside word or a name
unfoldable pub word_symbol : List ℕ → Symbol
word_symbol word = lookup (map (λ entry. (entry.0.now, entry.1)) WORDS) word Name

unfoldable pub mark_symbol : List ℕ → Symbol
mark_symbol mark = lookup (map (λ entry. (entry.0.now, entry.1)) MARKS) mark Outside

abbrev pub symbol_of : TokenKind → List ℕ → Symbol
symbol_of kind.Name bytes = word_symbol bytes
symbol_of (kind.Number n) bytes = Number n
symbol_of kind.Text bytes = Text
symbol_of kind.Mark bytes = mark_symbol bytes
