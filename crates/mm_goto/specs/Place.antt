-- Places in a text: a line ends at a newline, and a column counts characters.
use Rattle.std.specs.Prelude.{ℕ, ◌+◌, ◌==◌, if◌then◌else◌, List}
use Rattle.std.specs.List.{fold}
use Rattle.mm_goto.specs.declared.ident.At.{At}

-- the first place of a text
abbrev pub start : At
start = record { line = 1; column = 1 }

-- the place behind a character
abbrev pub past : At → ℕ → At
past at c = if c == 10 then record { line = at.line + 1; column = 1 } else record at { column = at.column + 1 }

-- the place behind these characters, which are the front of a text
abbrev pub place_after : List ℕ → At
place_after = fold past start
