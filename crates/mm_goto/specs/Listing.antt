-- What a goto program is made of.
use Rattle.std.specs.Prelude.{List, [], map}
use Rattle.mm_goto.specs.declared.ident.Ident.{Ident}
use Rattle.mm_goto.specs.declared.program.Cell.{Cell}
use Rattle.mm_goto.specs.declared.program.Thread.{Thread}

-- the cells, the names of the mutexes, and the threads, each by its number
pub record Listing : Type 0 where
  pub cells : List Cell
  pub mutexes : List Ident
  pub threads : List Thread

-- the thread, but for the places in the text that its instructions come from
abbrev pub unplaced : Thread → Thread
unplaced t = record { locals = t.locals; code = t.code; places = [] }

-- the program, but for the places in the text
abbrev pub without_places : Listing → Listing
without_places p = record { cells = p.cells; mutexes = p.mutexes; threads = map unplaced p.threads }
