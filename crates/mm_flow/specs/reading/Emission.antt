-- The same code with labels, which are places that are not known yet.
use Rattle.std.specs.Prelude.{ℕ, ◌+◌, List, [], ◌∷◌, ◌++◌, length, Option, Some, None, option_map, slice_set}
use Rattle.mm_goto.specs.declared.ident.At.{At}
use Rattle.mm_goto.specs.declared.ident.Ident.{Ident}
use Rattle.mm_goto.specs.declared.program.Instr.TheVariants.{Jump}
use Rattle.mm_flow.specs.declared.assembler.Exits.{Exits}
use Rattle.mm_flow.specs.declared.assembler.Piece.{Piece}
use Rattle.mm_flow.specs.declared.assembler.Piece.TheVariants as piece
use Rattle.mm_flow.specs.Scopes.{index_of}
use Rattle.mm_flow.specs.Flow.{Flow, Way, Behind, Next, Home, Empty, Do, Then, When, Either, While, DoWhile, For, Body, Leave, Mark, Goto}

-- what has been made: the pieces, and the place of each label, which is 0 before it is known
pub record Made : Type 0 where
  pub pieces : List Piece
  pub marks : List ℕ

abbrev pub put : Made → Piece → Made
put m p = record { pieces = m.pieces ++ p ∷ []; marks = m.marks }

-- a fresh label
abbrev pub labelled : Made → Made
labelled m = record { pieces = m.pieces; marks = m.marks ++ 0 ∷ [] }

-- a fresh label for each of so many
abbrev pub reserved : List Ident → Made → Made
reserved [] m = m
reserved (y ∷ ys) m = reserved ys (labelled m)

-- the label stands here
abbrev pub marked : ℕ → Made → Made
marked l m = record { pieces = m.pieces; marks = slice_set m.marks l (length m.pieces) }

abbrev pub exit : Exits → Way → ℕ
exit x Behind = x.behind
exit x Next = x.next
exit x Home = x.home

abbrev pub within_loop : Exits → (behind next : ℕ) → Exits
within_loop x behind next = record { behind = behind; next = next; home = x.home; base = x.base }

abbrev pub within_body : Exits → (home : ℕ) → Exits
within_body x home = record { behind = x.behind; next = x.next; home = home; base = home + 1 }

-- the label of a name in a body whose labels these are
abbrev pub label_of : List Ident → Exits → Ident → Option ℕ
label_of names x y = option_map (λ i. x.base + i) (index_of names y)

abbrev pub mark : Option ℕ → Made → Made
mark None m = m
mark (Some l) m = marked l m

abbrev pub goto_piece : At → Option ℕ → Piece
goto_piece at None = piece.Do at (Jump 0)
goto_piece at (Some l) = piece.Jump at l

abbrev pub emit : List Ident → Exits → Flow → Made → Made
emit ns x Empty m = m
emit ns x (Do at i) m = put m (piece.Do at i)
emit ns x (Then a b) m = emit ns x b (emit ns x a m)
emit ns x (When at e a) m =
    let end = length m.marks in
    marked end (emit ns x a (put (labelled m) (piece.Branch at e end)))
emit ns x (Either at e a b) m =
    let other = length m.marks in
    let end = other + 1 in
    let first = emit ns x a (put (labelled (labelled m)) (piece.Branch at e other)) in
    marked end (emit ns x b (marked other (put first (piece.Jump at end))))
emit ns x (While at c e a) m =
    let top = length m.marks in
    let end = top + 1 in
    let test = emit ns x c (marked top (labelled (labelled m))) in
    let turn = emit ns (within_loop x end top) a (put test (piece.Branch at e end)) in
    marked end (put turn (piece.Jump at top))
emit ns x (DoWhile at a c e) m =
    let top = length m.marks in
    let next = top + 1 in
    let end = next + 1 in
    let turn = emit ns (within_loop x end next) a (marked top (labelled (labelled (labelled m)))) in
    let test = emit ns x c (marked next turn) in
    marked end (put (put test (piece.Branch at e end)) (piece.Jump at top))
emit ns x (For at c e a j) m =
    let top = length m.marks in
    let next = top + 1 in
    let end = next + 1 in
    let test = emit ns x c (marked top (labelled (labelled (labelled m)))) in
    let turn = emit ns (within_loop x end next) a (put test (piece.Branch at e end)) in
    let step = emit ns x j (marked next turn) in
    marked end (put step (piece.Jump at top))
emit ns x (Body names a) m =
    let home = length m.marks in
    marked home (emit names (within_body x home) a (reserved names (labelled m)))
emit ns x (Leave at w) m = put m (piece.Jump at (exit x w))
emit ns x (Mark y) m = mark (label_of ns x y) m
emit ns x (Goto at y) m = put m (goto_piece at (label_of ns x y))
