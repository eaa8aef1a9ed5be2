-- The first lines of a printed program: what was woven, which stores are buffered and why, and the line that includes.
use Rattle.std.specs.Prelude.{ℕ, List, ◌++◌, codes}
use Rattle.std.specs.Fmt.{decimal}
use Rattle.std.specs.List.{flat_map}
use Rattle.mm_goto.specs.declared.shape.Head.{Head}
use Rattle.mm_goto.specs.declared.shape.Note.{Note}
use Rattle.mm_goto.specs.Bounds.{greatest}
use Rattle.mm_goto.specs.Models.{word_of}

abbrev pub comment_line : List ℕ → List ℕ
comment_line body = codes "/*" ++ body ++ codes "*/\n"

-- the format's name and number, the memory model, and how many stores a buffer holds
abbrev pub first_body : Head → List ℕ
first_body h = codes " goto-mm 1 " ++ word_of h.model ++ codes " " ++ decimal (greatest h.bound) ++ codes " "

unfoldable pub first_line : Head → List ℕ
first_line h = comment_line (first_body h)

abbrev pub site_text : ℕ → List ℕ
site_text s = codes " #" ++ decimal s

-- the thread, the line and the column of a buffered store
unfoldable pub place_text : Note → List ℕ
place_text n = codes " T" ++ decimal n.thread ++ codes " " ++ decimal n.at.line ++ codes ":" ++ decimal n.at.column

-- a buffered store, where it stands, and a delay cycle through it
abbrev pub note_body : Note → List ℕ
note_body n = codes " buffered" ++ site_text n.site ++ place_text n ++ codes " cycle" ++ flat_map site_text n.cycle ++ codes " "

unfoldable pub note_line : Note → List ℕ
note_line n = comment_line (note_body n)

unfoldable pub head_lines : Head → List ℕ
head_lines h = first_line h ++ flat_map note_line h.notes ++ codes "#include <pthread.h>\n"
