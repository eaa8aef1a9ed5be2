use Rattle.std.proofs.Common.{◌≡◌, map, take}
use Rattle.mm_parse_expr.specs.Terminals.{terminal_of}
use Rattle.mm_parse_expr.proofs.terminal.terminals.Given as goal

abbrev pub invariant-loop-token : goal.invariant-loop-token
invariant-loop-token l = l.terminals.items ≡ map (terminal_of l.text) (take l.token-index l.tokens)
