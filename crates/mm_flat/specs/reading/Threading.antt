-- The code of a thread as it is made.
use Rattle.std.specs.Prelude.{List, []}
use Rattle.mm_goto.specs.declared.ident.Ident.{Ident}
use Rattle.mm_goto.specs.declared.program.Instr.TheVariants.{End}
use Rattle.mm_goto.specs.declared.program.Thread.{Thread}
use Rattle.mm_goto.specs.Listing.{Listing}
use Rattle.mm_tree.specs.declared.item.Item.{Item}
use Rattle.mm_flow.specs.declared.assembler.Piece.TheVariants.{Do}
use Rattle.mm_flow.specs.declared.names.Parts.{Parts}
use Rattle.mm_flow.specs.Flow.{Body}
use Rattle.mm_flow.specs.Programs.{cells_of, globals_in, mutexes_in, place_in, thread_code}
use Rattle.mm_flow.specs.Statements.{Function}
use Rattle.mm_flow.specs.Text.{labels_in}
use Rattle.mm_flow.specs.reading.Assembling.{Assembly, with_piece}
use Rattle.mm_flow.specs.reading.Emission.{emit}
use Rattle.mm_flow.specs.reading.Settling.{no_code, no_exits}

-- the code of the body of a thread's function
abbrev pub body_made : Parts → List Item → Function → Assembly
body_made parts items r = record {
  known = (thread_code parts items r).known;
  made = emit [] no_exits (Body (labels_in r.body) (thread_code parts items r).flow) no_code;
}

-- the code of the thread of a function of this name, with its End
abbrev pub thread_made : Parts → List Item → Ident → Function → Assembly
thread_made parts items f r = with_piece (Do (place_in items f) End) (body_made parts items r)

-- the program of these threads
abbrev pub listing : Parts → List Item → List Thread → Listing
listing parts items ts = record { cells = cells_of parts.spots (globals_in items); mutexes = mutexes_in items; threads = ts }
