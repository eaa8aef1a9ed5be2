-- Where the terminals are no expression.
use Rattle.std.specs.Prelude.{◌≡◌, ◌≢◌, ℕ, ◌-◌, Bool, IsTrue, ◌+◌, List, [], ◌∷◌, length, drop, map}
use Rattle.mm_lexer.specs.declared.token.Token.{Token}
use Rattle.mm_lexer.specs.Place.{end_of}
use Rattle.mm_tree.specs.declared.expr.Expr.{Expr}
use Rattle.mm_reading.specs.declared.refused.Refused.{Refused}
use Rattle.mm_reading.specs.declared.refused.Refused.TheVariants as refused
use Rattle.mm_reading.specs.Runs.{Language, IsLongestRun, IsFirstFault}
use Rattle.mm_parse_expr.specs.declared.symbol.Symbol.{Symbol}
use Rattle.mm_parse_expr.specs.declared.symbol.Symbol.TheVariants.{Outside}
use Rattle.mm_parse_expr.specs.declared.terminal.Terminal.{Terminal}
use Rattle.mm_parse_expr.specs.declared.fault.ParseFault.{ParseFault}
use Rattle.mm_parse_expr.specs.declared.fault.ParseFault.TheVariants.{OutsideProfile, BadSyntax}
use Rattle.mm_parse_expr.specs.Terminals.{terminal_of}

-- the fault at a terminal with this symbol
abbrev pub refusal : Symbol → Terminal → ParseFault
refusal Outside t = OutsideProfile t.spelling t.at
refusal _ t = BadSyntax t.at

-- the fault at the first of these terminals, or at the end of the text
abbrev pub fault_at : List ℕ → List Terminal → ParseFault
fault_at text [] = BadSyntax (end_of text)
fault_at text (t ∷ rest) = refusal t.symbol t

-- the tokens from a position on, as terminals
abbrev pub terminals_from : List ℕ → List Token → ℕ → List Terminal
terminals_from text tokens from = drop from (map (terminal_of text) tokens)

-- the longest run of these terminals, which stand at a position, is the tree, and another position is behind it
pub record IsParsed (L : Language Terminal Expr) (ts : List Terminal) (from : ℕ) (e : Expr) (end : ℕ) : Type 0 where
  pub run : List Terminal
  pub rest : List Terminal
  pub is_longest : IsLongestRun L ts run rest
  pub value : L run e
  pub position : end ≡ from + length run

-- the longest run of these terminals is no tree, and the fault is at what stands behind it
pub record IsRefused (L : Language Terminal Expr) (text : List ℕ) (ts : List Terminal) (fault : ParseFault) : Type 0 where
  pub rest : List Terminal
  pub is_first : IsFirstFault L ts rest
  pub fault_there : fault ≡ fault_at text rest

-- the longest run of a text's tokens from a position on is the tree, and a position is behind it
abbrev pub Parses : Language Terminal Expr → List ℕ → List Token → ℕ → Expr × ℕ → Type 0
Parses L text tokens from x = IsParsed L (terminals_from text tokens from) from x.0 x.1

-- the longest run of a text's tokens from a position on is no tree, and the fault is behind it
abbrev pub Refuses : Language Terminal Expr → List ℕ → List Token → ℕ → ParseFault → Type 0
Refuses L text tokens from fault = IsRefused L text (terminals_from text tokens from) fault

-- what the fault is where the reading of some terminals gave nothing; cut is whether there are others
abbrev pub IsFaultBefore : List ℕ → List Terminal → Refused → Bool → ParseFault → Type 0
IsFaultBefore text ts refused.Memory cut fault = ⊥
IsFaultBefore text ts (refused.Fault left) cut fault = (fault ≡ fault_at text (drop (length ts - left) ts)) × (IsTrue cut → left ≢ 0)
