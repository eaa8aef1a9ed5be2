use Rattle.std.proofs.Common.{◌≡◌, length, map}
use Rattle.mm_parse_expr.specs.Symbols.{lookup}
use Rattle.mm_parse_expr.proofs.symbol.lookup.Given as goal

abbrev pub invariant-loop-table : goal.invariant-loop-table
invariant-loop-table l =
    lookup (map (λ entry. (entry.0.now, entry.1)) l.table) l.word l.other ≡ lookup (map (λ entry. (entry.0.now, entry.1)) l.initial.table) l.word l.other

abbrev pub decreases-loop-table : goal.decreases-loop-table
decreases-loop-table l = length l.table
