-- Which limit a tree is refused for.
use Rattle.std.specs.Prelude.{◌+◌, nat_lt, if◌then◌else◌, List, length, Option, Some, None}
use Rattle.mm_goto.specs.declared.ident.Ident.{Ident}
use Rattle.mm_goto.specs.declared.program.Thread.{Thread}
use Rattle.mm_tree.specs.declared.item.Item.{Item}
use Rattle.mm_tree.specs.declared.side.Side.{Side}
use Rattle.mm_flow.specs.declared.fault.FlatFault.{FlatFault}
use Rattle.mm_flow.specs.declared.fault.FlatFault.TheVariants.{TooMany, NoMemory}
use Rattle.mm_flow.specs.declared.fault.Limit.{Limit}
use Rattle.mm_flow.specs.declared.fault.Limit.TheVariants as limits
use Rattle.mm_flow.specs.declared.names.Parts.{Parts}
use Rattle.mm_flow.specs.Programs.{cell_count, globals_in, has_more_locals, most_cells, most_instructions, most_locals, most_mutexes, most_threads, nests_too_deep, size_in}

-- what holds where there are too many of something
abbrev pub WhenTooMany : FlatFault → (Limit → Type 0) → Type 0
WhenTooMany (TooMany l) P = P l
WhenTooMany NoMemory P = Unit {0}

-- the first limit that the text passes, before any code is made
abbrev pub passed_before : List Item → Parts → List Ident → Option Limit
passed_before items parts fs =
    if nat_lt most_threads (1 + length parts.starts) then Some limits.Threads
    else if nests_too_deep items fs then Some limits.NestedCalls
    else None

-- the first limit that is passed behind the instructions
abbrev pub passed_behind : Side → List Item → Parts → List Thread → Option Limit
passed_behind side items parts ts =
    if has_more_locals (most_locals side) ts then Some limits.Locals
    else if nat_lt most_mutexes (length parts.mutexes) then Some limits.Mutexes
    else if nat_lt most_cells (cell_count (globals_in items)) then Some limits.Cells
    else None

-- the first limit that is passed from the instructions on
abbrev pub passed_within : Side → List Item → Parts → List Ident → List Thread → Option Limit
passed_within side items parts fs ts =
    if nat_lt (most_instructions side) (size_in parts items fs) then Some limits.Instructions
    else passed_behind side items parts ts
