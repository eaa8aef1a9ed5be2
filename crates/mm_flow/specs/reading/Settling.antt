-- Code whose labels have got their places.
use Rattle.std.specs.Prelude.{ℕ, List, [], map, get_or}
use Rattle.mm_goto.specs.declared.ident.At.{At}
use Rattle.mm_goto.specs.declared.program.Instr.{Instr}
use Rattle.mm_goto.specs.declared.program.Instr.TheVariants.{Jump, Branch}
use Rattle.mm_goto.specs.declared.program.Thread.{Thread}
use Rattle.mm_flow.specs.declared.assembler.Exits.{Exits}
use Rattle.mm_flow.specs.declared.assembler.Piece.{Piece}
use Rattle.mm_flow.specs.declared.assembler.Piece.TheVariants as piece
use Rattle.mm_flow.specs.reading.Assembling.{Assembly}
use Rattle.mm_flow.specs.reading.Emission.{Made}

-- the place of a label, and 0 where there is none
abbrev pub place_at : List ℕ → ℕ → ℕ
place_at marks l = get_or marks l 0

abbrev pub settled : List ℕ → Piece → Instr
settled marks (piece.Do at i) = i
settled marks (piece.Branch at e l) = Branch e (place_at marks l)
settled marks (piece.Jump at l) = Jump (place_at marks l)

abbrev pub piece_place : Piece → At
piece_place (piece.Do at i) = at
piece_place (piece.Branch at e l) = at
piece_place (piece.Jump at l) = at

abbrev pub settled_thread : Assembly → Thread
settled_thread a = record {
  locals = a.known.next;
  code = map (settled a.made.marks) a.made.pieces;
  places = map piece_place a.made.pieces;
}

-- there are no labels around a thread
abbrev pub no_exits : Exits
no_exits = record { behind = 0; next = 0; home = 0; base = 0 }

abbrev pub no_code : Made
no_code = record { pieces = []; marks = [] }
