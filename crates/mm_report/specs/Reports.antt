-- The report on the buffered stores of a program: one object in JSON (RFC 8259), without blanks, its keys in order of their bytes.
use Rattle.std.specs.Prelude.{◌≡◌, ℕ, List, [], ◌∷◌, ◌++◌, codes, Option, Some, None, IsSomeAnd, length, map, slice_get}
use Rattle.std.specs.Fmt.{decimal}
use Rattle.serde_json.specs.Data.{Data, member, no_members, array, object, number, string, unsigned}
use Rattle.serde_json.specs.View.{items_of}
use Rattle.serde_json.specs.Written.{compact_text}
use Rattle.mm_goto.specs.Bounds.{greatest}
use Rattle.mm_goto.specs.Listing.{Listing}
use Rattle.mm_goto.specs.Models.{word_of}
use Rattle.mm_goto.specs.Sites.{sites, Names}
use Rattle.mm_goto.specs.declared.program.Cell.{Cell}
use Rattle.mm_goto.specs.declared.shape.Head.{Head}
use Rattle.mm_goto.specs.declared.shape.Note.{Note}
use Rattle.mm_points.specs.Cells.{AreCells}

abbrev pub index_text : Option ℕ → List ℕ
index_text None = []
index_text (Some i) = codes "[" ++ (decimal i ++ codes "]")

-- a variable's name, or the element of an array, as a[2]
abbrev pub cell_text : Cell → List ℕ
cell_text cell = cell.name ++ index_text cell.index

abbrev pub text_or_none : Option Cell → List ℕ
text_or_none None = []
text_or_none (Some cell) = cell_text cell

-- the name of the cell with this number
abbrev pub name_data : List Cell → ℕ → Data
name_data cells c = string (text_or_none (slice_get cells c))

abbrev pub number_data : ℕ → Data
number_data n = number (unsigned n)

abbrev pub list_data : List Data → Data
list_data ds = array (items_of ds)

-- the object of a buffered store
abbrev pub object_of : Data → Data → Note → Data
object_of cells cycle note = object
    (member (codes "cells") cells
    (member (codes "column") (number_data note.at.column)
    (member (codes "cycle") cycle
    (member (codes "line") (number_data note.at.line)
    (member (codes "site") (number_data note.site)
    (member (codes "thread") (number_data note.thread)
    no_members))))))

-- a buffered store, with the cells that it may be to
abbrev pub note_data : List Cell → List ℕ → Note → Data
note_data cells named note = object_of (list_data (map (name_data cells) named)) (list_data (map number_data note.cycle)) note

-- the object of a program of so many sites
abbrev pub report_of : Data → ℕ → Head → Data
report_of buffered count head = object
    (member (codes "bound") (number_data (greatest head.bound))
    (member (codes "buffered") buffered
    (member (codes "model") (string (word_of head.model))
    (member (codes "sites") (number_data count)
    no_members))))

-- the buffered stores in order, each with just the cells that its site may be to
pub data AreReported (p : Listing) : List Note → List Data → Type 0 where
  none : AreReported p [] []
  more : {note : Note} {notes : List Note} {rest : List Data} (named : List ℕ)
      → IsSomeAnd (slice_get (sites p) note.site) (λ spot. AreCells (Names p spot) named)
      → AreReported p notes rest
      → AreReported p (note ∷ notes) (note_data p.cells named note ∷ rest)

-- the report on a program, by the head of its plan
pub record IsReport (p : Listing) (head : Head) (text : List ℕ) : Type 0 where
  pub buffered : List Data
  pub reported : AreReported p head.notes buffered
  pub spelled : text ≡ compact_text (report_of (list_data buffered) (length (sites p)) head)
