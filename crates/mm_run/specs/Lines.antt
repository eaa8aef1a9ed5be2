-- The lines that tell what came of an input.
use Rattle.std.specs.Prelude.{ℕ, List, ◌++◌, codes, Option, Some, None}
use Rattle.std.specs.Fmt.{decimal}
use Rattle.mm_goto.specs.declared.ident.At.{At}

-- why the program is refused, and where
abbrev pub refusal_line : At → List ℕ → List ℕ
refusal_line at why = codes "refused: " ++ decimal at.line ++ codes ":" ++ decimal at.column ++ codes " " ++ why ++ codes "\n"

-- the first line of the schedule that does not fit
abbrev pub bad_line : ℕ → List ℕ
bad_line line = codes "bad schedule: line " ++ decimal line ++ codes "\n"

-- the first entry that is not enabled, counted from 1
abbrev pub stuck_line : ℕ → List ℕ
stuck_line entry = codes "stuck: entry " ++ decimal entry ++ codes "\n"

-- the number of the assertion that failed, where one did
abbrev pub verdict_line : Option ℕ → List ℕ
verdict_line (Some n) = codes "failed " ++ decimal n ++ codes "\n"
verdict_line None = codes "no failure\n"
