-- How deep a text nests: what is counted at each token, and the first token at which a count passes its limit.
use Rattle.std.specs.Prelude.{ℕ, zero, suc, ◌+◌, ◌-◌, nat_lt, Bool, ◌||◌, if◌then◌else◌, List, [], ◌∷◌, Option, Some, None}
use Rattle.mm_goto.specs.declared.ident.At.{At}
use Rattle.mm_tree.specs.declared.side.Side.{Side}
use Rattle.mm_tree.specs.declared.side.Side.TheVariants.{Source, Output}
use Rattle.mm_parse_expr.specs.declared.symbol.Keyword.TheVariants as word
use Rattle.mm_parse_expr.specs.declared.symbol.Symbol.{Symbol}
use Rattle.mm_parse_expr.specs.declared.symbol.Symbol.TheVariants.{Keyword, Semicolon, Comma, Open, Close, OpenBracket, CloseBracket, OpenBrace, CloseBrace}
use Rattle.mm_parse_expr.specs.declared.terminal.Terminal.{Terminal}
use Rattle.mm_grammar.specs.declared.depth.Counts.{Counts}

-- how much of each a text of a side may have
abbrev pub limits : Side → Counts
limits Source = record { brackets = 200; tokens = 200; words = 200 }
limits Output = record { brackets = 512; tokens = 2048; words = 200 }

-- the open brackets: an opening one adds one, and a closing one of any kind takes one away where one is open
abbrev pub brackets_after : ℕ → Symbol → ℕ
brackets_after n Open = n + 1
brackets_after n OpenBracket = n + 1
brackets_after n OpenBrace = n + 1
brackets_after n Close = n - 1
brackets_after n CloseBracket = n - 1
brackets_after n CloseBrace = n - 1
brackets_after n _ = n

-- the tokens since the last of four marks
abbrev pub tokens_after : ℕ → Symbol → ℕ
tokens_after n Semicolon = 0
tokens_after n Comma = 0
tokens_after n OpenBrace = 0
tokens_after n CloseBrace = 0
tokens_after n _ = n + 1

abbrev pub words_within : ℕ → Symbol → ℕ
words_within n (Keyword word.Else) = n + 1
words_within n (Keyword word.For) = n + 1
words_within n _ = n

-- the words "else" and "for" since the last token that stands in no brackets
abbrev pub words_after : ℕ → ℕ → Symbol → ℕ
words_after zero n s = 0
words_after (suc brackets) n s = words_within n s

-- what is counted at a token, by what is counted before it
abbrev pub counted : Counts → Symbol → Counts
counted c s = record {
  brackets = brackets_after c.brackets s;
  tokens = tokens_after c.tokens s;
  words = words_after (brackets_after c.brackets s) c.words s;
}

-- some count is above its limit
abbrev pub passes : Counts → Counts → Bool
passes limits c = (nat_lt limits.brackets c.brackets || nat_lt limits.tokens c.tokens) || nat_lt limits.words c.words

-- the place of the first of these terminals at which a count passes its limit, behind those that were counted
abbrev pub deep_behind : Counts → Counts → List Terminal → Option At
deep_behind limits c [] = None
deep_behind limits c (t ∷ ts) = if passes limits (counted c t.symbol) then Some t.at else deep_behind limits (counted c t.symbol) ts

abbrev pub nothing : Counts
nothing = record { brackets = 0; tokens = 0; words = 0 }

-- the place of the first terminal at which a count passes its limit
abbrev pub deep_at : Side → List Terminal → Option At
deep_at side ts = deep_behind (limits side) nothing ts
