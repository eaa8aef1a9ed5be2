-- The terminals of a text from a place on, and what each of them is by the text's tokens.
use Rattle.std.specs.Prelude.{◌≡◌, ℕ, ℤ, pos, ◌≤◌, true, List, [], ◌∷◌}
use Rattle.mm_parse_expr.specs.declared.symbol.Symbol.{Symbol}
use Rattle.mm_parse_expr.specs.declared.symbol.Symbol.TheVariants.{Name, Number, Text, Update}
use Rattle.mm_parse_expr.specs.declared.terminal.Terminal.{Terminal}
use Rattle.mm_grammar.specs.Nesting.{tokens_after}
use Rattle.mm_print.specs.Printable.{IsPrintableText, updates}
use Rattle.mm_sourcelike.specs.Grammatical.{IsName}

-- a number as the lexer takes it
abbrev pub IsLiteral : ℤ → Type 0
IsLiteral z = (k : ℕ) × (z ≡ pos k) × (k ≤ 2147483647)

-- what the lexer gives of a symbol
abbrev pub IsProperAs : Symbol → List ℕ → Type 0
IsProperAs (Number z) spelling = IsLiteral z
IsProperAs Name spelling = IsName spelling
IsProperAs Text spelling = IsPrintableText spelling
IsProperAs (Update op) spelling = updates op ≡ true
IsProperAs _ spelling = Unit {0}

abbrev pub IsProper : Terminal → Type 0
IsProper t = IsProperAs t.symbol t.spelling

module _ (most : ℕ) where
  -- so many tokens were counted since the last mark that ends a count; each terminal is proper, and the count keeps its limit
  abbrev pub Stream : ℕ → List Terminal → Type 0
  Stream n [] = n ≤ most
  Stream n (t ∷ ts) = (n ≤ most) × IsProper t × Stream (tokens_after n t.symbol) ts

  pub within : (n : ℕ) (ts : List Terminal) → Stream n ts → n ≤ most
  within n [] s = s
  within n (t ∷ ts) s = s.0
