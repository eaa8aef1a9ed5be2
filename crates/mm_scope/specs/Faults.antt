-- Faults: which rule is broken, and where. Of several the least is refused: the first in the text, and at one place that
-- of the first rule.
use Rattle.std.specs.Prelude.{ℕ, Bool, if◌then◌else◌, nat_lt, nat_eq, List, fold, Option, Some, None}
use Rattle.mm_goto.specs.declared.ident.At.{At}
use Rattle.mm_scope.specs.declared.fault.Rule.{Rule}
use Rattle.mm_scope.specs.declared.fault.Rule.TheVariants.{ReservedName, OutputOnly, TwiceDeclared, UnknownName, WrongType, BadThread, Recursion}
use Rattle.mm_scope.specs.declared.fault.Fault.{Fault}

abbrev pub fault : Rule → At → Fault
fault rule at = record { rule = rule; at = at }

-- which of two that stand at one place comes first
abbrev pub rank : Rule → ℕ
rank ReservedName = 0
rank OutputOnly = 1
rank TwiceDeclared = 2
rank UnknownName = 3
rank WrongType = 4
rank BadThread = 5
rank Recursion = 6

-- by line, then by column, then by rule
unfoldable pub is_before : Fault → Fault → Bool
is_before f g =
    if nat_eq f.at.line g.at.line
    then (if nat_eq f.at.column g.at.column then nat_lt (rank f.rule) (rank g.rule) else nat_lt f.at.column g.at.column)
    else nat_lt f.at.line g.at.line

unfoldable pub lesser : Option Fault → Fault → Option Fault
lesser None g = Some g
lesser (Some f) g = Some (if is_before f g then f else g)

-- the least of the faults and one that was there before
abbrev pub least_of : Option Fault → List Fault → Option Fault
least_of = fold lesser
