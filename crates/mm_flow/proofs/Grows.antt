-- How many pieces the code of a flow adds.
use Rattle.std.proofs.Common.{arith, ◌≡◌, ℕ, ◌+◌, ◌<◌, List, [], ◌∷◌, length, refl, ap, Option, Some, None}
use Rattle.std.proofs.lemmas.List.{length-append}
use Rattle.mm_goto.specs.declared.ident.Ident.{Ident}
use Rattle.mm_flow.specs.declared.assembler.Exits.{Exits}
use Rattle.mm_flow.specs.declared.assembler.Piece.{Piece}
use Rattle.mm_flow.specs.declared.assembler.Piece.TheVariants as piece
use Rattle.mm_flow.specs.Flow.{Flow, Empty, Do, Then, When, Either, While, DoWhile, For, Body, Leave, Mark, Goto, size}
use Rattle.mm_flow.specs.reading.Emission.{Made, emit, put, labelled, marked, mark, reserved, label_of, goto_piece, exit, within_loop, within_body}

pub put_size : (m : Made) (p : Piece) → length (put m p).pieces ≡ length m.pieces + 1
put_size m p = length-append m.pieces (p ∷ [])

pub reserved_pieces : (ns : List Ident) (m : Made) → (reserved ns m).pieces ≡ m.pieces
reserved_pieces [] m = refl
reserved_pieces (y ∷ ys) m = reserved_pieces ys (labelled m)

pub mark_pieces : (l : Option ℕ) (m : Made) → (mark l m).pieces ≡ m.pieces
mark_pieces None m = refl
mark_pieces (Some l) m = refl

pub emit_size : (ns : List Ident) (x : Exits) (f : Flow) (m : Made) → length (emit ns x f m).pieces ≡ length m.pieces + size f
emit_size ns x Empty m = omega arith
emit_size ns x (Do at i) m = put_size m (piece.Do at i)
emit_size ns x (Then a b) m = omega (arith, emit_size ns x a m, emit_size ns x b (emit ns x a m))
emit_size ns x (When at e a) m =
    let m1 = put (labelled m) (piece.Branch at e (length m.marks)) in
    omega (arith, put_size (labelled m) (piece.Branch at e (length m.marks)), emit_size ns x a m1)
emit_size ns x (Either at e a b) m =
    let other = length m.marks in
    let m0 = labelled (labelled m) in
    let m1 = put m0 (piece.Branch at e other) in
    let m2 = emit ns x a m1 in
    let m3 = put m2 (piece.Jump at (other + 1)) in
    omega (arith, put_size m0 (piece.Branch at e other), emit_size ns x a m1, put_size m2 (piece.Jump at (other + 1)), emit_size ns x b (marked other m3))
emit_size ns x (While at c e a) m =
    let top = length m.marks in
    let end = top + 1 in
    let m0 = marked top (labelled (labelled m)) in
    let m1 = emit ns x c m0 in
    let m2 = put m1 (piece.Branch at e end) in
    let m3 = emit ns (within_loop x end top) a m2 in
    omega (arith, emit_size ns x c m0, put_size m1 (piece.Branch at e end), emit_size ns (within_loop x end top) a m2, put_size m3 (piece.Jump at top))
emit_size ns x (DoWhile at a c e) m =
    let top = length m.marks in
    let next = top + 1 in
    let end = next + 1 in
    let m0 = marked top (labelled (labelled (labelled m))) in
    let m1 = emit ns (within_loop x end next) a m0 in
    let m2 = emit ns x c (marked next m1) in
    let m3 = put m2 (piece.Branch at e end) in
    omega (arith, emit_size ns (within_loop x end next) a m0, emit_size ns x c (marked next m1), put_size m2 (piece.Branch at e end), put_size m3 (piece.Jump at top))
emit_size ns x (For at c e a j) m =
    let top = length m.marks in
    let next = top + 1 in
    let end = next + 1 in
    let m0 = marked top (labelled (labelled (labelled m))) in
    let m1 = emit ns x c m0 in
    let m2 = put m1 (piece.Branch at e end) in
    let m3 = emit ns (within_loop x end next) a m2 in
    let m4 = emit ns x j (marked next m3) in
    omega (arith, emit_size ns x c m0, put_size m1 (piece.Branch at e end), emit_size ns (within_loop x end next) a m2, emit_size ns x j (marked next m3), put_size m4 (piece.Jump at top))
emit_size ns x (Body names a) m =
    let home = length m.marks in
    let m1 = reserved names (labelled m) in
    omega (arith, emit_size names (within_body x home) a m1, ap length (reserved_pieces names (labelled m)))
emit_size ns x (Leave at w) m = put_size m (piece.Jump at (exit x w))
emit_size ns x (Mark y) m = omega (arith, ap length (mark_pieces (label_of ns x y) m))
emit_size ns x (Goto at y) m = put_size m (goto_piece at (label_of ns x y))

-- where there is no room for the front of code, there is none for the whole
pub grows : (ns : List Ident) (x : Exits) (f : Flow) (m : Made) (limit : ℕ) → limit < length m.pieces → limit < length (emit ns x f m).pieces
grows ns x f m limit h = omega (arith, emit_size ns x f m)
