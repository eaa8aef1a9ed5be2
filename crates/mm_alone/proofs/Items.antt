-- The text of the items and of the whole program.
use Rattle.std.proofs.Common.{◌≡◌, ℕ, pos, ◌+◌, ◌-◌, Bool, false, List, [], ◌∷◌, ◌++◌, refl, sym, ◌∙◌, ap, map, append_assoc, append-nil, length, None, if◌then◌else◌, slice_index_or}
use Rattle.std.specs.Prelude.{codes, ◌||◌, All}
use Rattle.std.specs.List.{flat_map, list_any, range_with_len}
use Rattle.std.specs.Fmt.{decimal}
use Rattle.std.proofs.lemmas.List.Elements.{All-head, All-tail}
use Rattle.mm_goto.specs.declared.ident.Ident.{Ident}
use Rattle.mm_goto.specs.declared.model.Model.{Model}
use Rattle.mm_goto.specs.declared.program.Cell.{Cell}
use Rattle.mm_goto.specs.declared.program.Thread.{Thread}
use Rattle.mm_goto.specs.declared.shape.Shape.{Shape}
use Rattle.mm_goto.specs.Bounds.{Bounding, greatest}
use Rattle.mm_goto.specs.Listing.{Listing}
use Rattle.mm_goto.specs.Models.{word_of}
use Rattle.mm_goto.specs.Value.{value_of, value_step}
use Rattle.mm_goto.proofs.Folding.{fold_constant}
use Rattle.mm_tree.specs.declared.item.Item.{Item}
use Rattle.mm_tree.specs.declared.stmt.Stmt.{Stmt}
use Rattle.mm_parse_expr.specs.declared.symbol.Symbol.TheVariants as symbol
use Rattle.mm_parse_expr.specs.declared.symbol.Keyword.TheVariants as keyword
use Rattle.mm_print.specs.HeadLines.{head_lines, first_line}
use Rattle.mm_print.specs.Items.{item_pieces, items_pieces, printed_text}
use Rattle.mm_print.specs.Pieces.{Piece, text, spaced, semicolon, keyword_text}
use Rattle.mm_print.specs.SmallListing.{IsSmallCell, IsSmallListing}
use Rattle.mm_print.specs.SmallText as small
use Rattle.mm_print.specs.SmallText.{global_text, locals_text, code_text, main_text, head_text, small_text, no_thread}
use Rattle.mm_print.specs.Statements.{layout, lines}
use Rattle.mm_print.specs.Expressions.{expr_pieces}
use Rattle.mm_words.specs.Words as words
use Rattle.mm_words.specs.Words.{num, number}
use Rattle.mm_helpers.specs.Helpers.{wm_mem, nondet_wm, helpers, arrays}
use Rattle.mm_templates.specs.Names.{handle_name}
use Rattle.mm_instr.specs.Woven.{has_buffers, has_moved_cells, has_address, start_value, filled, declared, variables, start_values, sizes, functions, woven_body, woven_code, woven_items, woven}
use Rattle.mm_alone.proofs.Lines.{text_append, ended_lines, lines_end}
use Rattle.mm_alone.proofs.Statements.{shown, shown_num}
use Rattle.mm_alone.proofs.Whole as whole
use Rattle.mm_alone.proofs.Whole.{down, ended_append, local_lines, code_lines}

-- the text of an item and the end of its line
abbrev item_text : Item → List ℕ
item_text i = text (item_pieces i ++ Piece.line 0 ∷ [])

abbrev items_text : List Item → List ℕ
items_text is = text (items_pieces is)

items_append : (a b : List Item) → items_text (a ++ b) ≡ items_text a ++ items_text b
items_append [] b = refl
items_append (i ∷ a) b =
    text_append (item_pieces i ++ Piece.line 0 ∷ []) (items_pieces (a ++ b))
    ∙ ap (λ t. item_text i ++ t) (items_append a b)
    ∙ sym (append_assoc (item_text i) (items_text a) (items_text b))
    ∙ ap (λ t. t ++ items_text b) (sym (text_append (item_pieces i ++ Piece.line 0 ∷ []) (items_pieces a)))

one_item : (i : Item) → items_text (i ∷ []) ≡ item_text i
one_item i = text_append (item_pieces i ++ Piece.line 0 ∷ []) [] ∙ append-nil (item_text i)

-- ---- globals

start_shown : (cell : Cell) → IsSmallCell cell → shown (start_value cell) ≡ (small.written cell.init).text
unfolding small.written value_of
start_shown cell s =
    ap (λ e. shown (number (value_of e []))) s.init
    ∙ ap (λ z. shown (number z)) (fold_constant (value_step []) (pos s.value))
    ∙ shown_num s.value
    ∙ sym (ap (λ (w : small.Written). w.text) (fold_constant small.written_step (pos s.value)))
    ∙ ap (λ e. (small.written e).text) (sym s.init)

global_shown : (cell : Cell) → IsSmallCell cell → item_text (words.global cell.name None (start_value cell ∷ [])) ≡ global_text cell
unfolding keyword_text
global_shown cell s =
    text_append (front ++ semicolon) (Piece.line 0 ∷ [])
    ∙ ap (λ t. t ++ codes "\n") (text_append front semicolon)
    ∙ regroup cell.name (shown (start_value cell))
    ∙ ap (λ t. codes "int " ++ cell.name ++ codes " = " ++ t ++ codes ";\n") (start_shown cell s)
  where
    front : List Piece
    front = Piece.word keyword.Int ∷ Piece.blank ∷ Piece.name cell.name ∷ spaced symbol.Assign (expr_pieces (start_value cell))

    regroup : (x y : List ℕ) → ((codes "int " ++ (x ++ (codes " = " ++ y))) ++ codes ";") ++ codes "\n" ≡ codes "int " ++ x ++ codes " = " ++ y ++ codes ";\n"
    regroup x y = ap (λ t. codes "int " ++ t) (append_assoc (x ++ (codes " = " ++ y)) (codes ";") (codes "\n") ∙ ap (λ t. t ++ codes ";\n") (sym (append_assoc x (codes " = ") y)))

declared_alone : (cell : Cell) (cells : List Cell) → IsSmallCell cell → declared cell cells cell.index ≡ words.global cell.name None (start_value cell ∷ []) ∷ []
declared_alone cell cells s = ap (λ o. declared cell cells o) s.single

globals_shown : (moved : List Bool) (c : ℕ) (cells : List Cell) → list_any (λ b. b) moved ≡ false → All IsSmallCell cells
    → items_text (variables moved c cells) ≡ flat_map global_text cells
globals_shown moved c [] none all = refl
globals_shown moved c (cell ∷ cells) none all =
    let s = All-head IsSmallCell cell cells all in
    items_append (if slice_index_or moved c false then [] else declared cell cells cell.index) (variables moved (c + 1) cells)
    ∙ ap (λ b. items_text (if b then [] else declared cell cells cell.index) ++ items_text (variables moved (c + 1) cells)) (down moved c none)
    ∙ ap (λ is. items_text is ++ items_text (variables moved (c + 1) cells)) (declared_alone cell cells s)
    ∙ ap (λ t. t ++ items_text (variables moved (c + 1) cells)) (one_item (words.global cell.name None (start_value cell ∷ [])) ∙ global_shown cell s)
    ∙ ap (λ t. global_text cell ++ t) (globals_shown moved (c + 1) cells none (All-tail IsSmallCell cell cells all))

-- ---- main

main_shown : (cells : List Cell) (main : Thread) (body : List Stmt) → ended_lines (map layout body) ≡ locals_text main.locals ++ code_text cells 0 main.code
    → item_text (words.int (codes "main") [] body) ≡ main_text cells main
unfolding keyword_text main_text
main_shown cells main body e =
    ap (λ t. codes "int main(void) {" ++ t)
    (text_append (lines 1 (map layout body) ++ last) (Piece.line 0 ∷ [])
    ∙ ap (λ t. t ++ codes "\n") (text_append (lines 1 (map layout body)) last)
    ∙ ending (text (lines 1 (map layout body)))
    ∙ ap (λ t. t ++ codes "}\n") (lines_end (map layout body) ∙ ap (λ t. codes "\n" ++ t) e))
    ∙ regroup (locals_text main.locals) (code_text cells 0 main.code)
  where
    last : List Piece
    last = Piece.line 0 ∷ Piece.mark symbol.CloseBrace ∷ []

    ending : (a : List ℕ) → (a ++ codes "\n}") ++ codes "\n" ≡ (a ++ codes "\n") ++ codes "}\n"
    ending a = append_assoc a (codes "\n}") (codes "\n") ∙ sym (append_assoc a (codes "\n") (codes "}\n"))

    regroup : (x y : List ℕ) → codes "int main(void) {" ++ ((codes "\n" ++ (x ++ y)) ++ codes "}\n") ≡ codes "int main(void) {\n" ++ x ++ y ++ codes "}\n"
    regroup x y = refl

-- ---- the whole

-- the items, by whether a store is buffered and whether a cell has moved
abbrev assembled : (p : Listing) (shape : Shape) (buffers moved : Bool) (mutexes : List Ident) (threads : List Thread) → List Item
assembled p shape buffers moved mutexes threads =
    words.input nondet_wm
    ∷ variables shape.moved 0 p.cells
    ++ (if moved || buffers then filled wm_mem (start_values shape.moved 0 p.cells) ∷ [] else [])
    ++ (if buffers then arrays shape.model (sizes p shape) else [])
    ++ map words.mutex mutexes
    ++ map (λ u. words.thread_variable (handle_name u)) (range_with_len 1 (length threads - 1))
    ++ (if buffers then helpers shape.model (sizes p shape) else [])
    ++ functions p shape buffers (has_address p) threads

abbrev the_main : Listing → Shape → Thread → Item
the_main p shape main = words.int (codes "main") [] (woven_body p shape false (has_address p) 0 main)

nils : (is : List Item) → ((((is ++ []) ++ []) ++ []) ++ []) ++ [] ≡ is
nils is = append-nil ((((is ++ []) ++ []) ++ []) ++ []) ∙ append-nil (((is ++ []) ++ []) ++ []) ∙ append-nil ((is ++ []) ++ []) ∙ append-nil (is ++ []) ∙ append-nil is

assembled_alone : (p : Listing) (shape : Shape) (main : Thread) → has_buffers shape ≡ false → has_moved_cells shape ≡ false → p.mutexes ≡ [] → p.threads ≡ main ∷ []
    → woven_items p shape ≡ words.input nondet_wm ∷ (variables shape.moved 0 p.cells ++ the_main p shape main ∷ [])
assembled_alone p shape main unbuffered unmoved mutexes threads =
    ap (λ b. assembled p shape b (has_moved_cells shape) p.mutexes p.threads) unbuffered
    ∙ ap (λ b. assembled p shape false b p.mutexes p.threads) unmoved
    ∙ ap (λ ms. assembled p shape false false ms p.threads) mutexes
    ∙ ap (λ ts. assembled p shape false false [] ts) threads
    ∙ ap (λ is. words.input nondet_wm ∷ (is ++ the_main p shape main ∷ [])) (nils (variables shape.moved 0 p.cells))

main_lines : (p : Listing) (shape : Shape) (s : IsSmallListing p) → has_moved_cells shape ≡ false
    → ended_lines (map layout (woven_body p shape false (has_address p) 0 s.main)) ≡ locals_text s.main.locals ++ code_text p.cells 0 s.main.code
main_lines p shape s unmoved =
    ended_append (map whole.declared (range_with_len 0 s.main.locals)) (woven_code p shape false (has_address p) 0 0 s.main.code)
    ∙ ap (λ t. t ++ ended_lines (map layout (woven_code p shape false (has_address p) 0 0 s.main.code))) (local_lines s.main.locals)
    ∙ ap (λ t. locals_text s.main.locals ++ t)
    (ap (λ is. ended_lines (map layout (woven_code p shape false (has_address p) 0 0 is))) s.code
    ∙ code_lines p shape unmoved (has_address p) s.main s.body 0 s.instrs
    ∙ ap (λ is. code_text p.cells 0 is) (sym s.code))

input_shown : item_text (words.input nondet_wm) ≡ codes "int nondet_wm();\n"
unfolding keyword_text
input_shown = refl

head_shown : (m : Model) (b : Bounding) (rest : List ℕ) → head_lines (record { model = m; bound = b; notes = [] }) ++ (codes "int nondet_wm();\n" ++ rest) ≡ head_text m b ++ rest
unfolding head_lines first_line head_text
head_shown m b rest = regroup (word_of m) (decimal (greatest b)) rest
  where
    regroup : (w d r : List ℕ) → ((codes "/*" ++ (codes " goto-mm 1 " ++ w ++ codes " " ++ d ++ codes " ") ++ codes "*/\n") ++ [] ++ codes "#include <pthread.h>\n") ++ (codes "int nondet_wm();\n" ++ r) ≡ (codes "/* goto-mm 1 " ++ w ++ codes " " ++ d ++ codes " */\n#include <pthread.h>\nint nondet_wm();\n") ++ r
    regroup w d r = simp (append_assoc, append-nil)

-- where no store is buffered and no cell moves, the woven program of a small program is printed line by line
pub woven_line_by_line : (p : Listing) (shape : Shape) (m : Model) (b : Bounding) → IsSmallListing p → has_buffers shape ≡ false → has_moved_cells shape ≡ false
    → printed_text (woven p shape) (record { model = m; bound = b; notes = [] }) ≡ small_text p m b
unfolding woven
woven_line_by_line p shape m b s unbuffered unmoved =
    ap (λ is. head_lines (record { model = m; bound = b; notes = [] }) ++ items_text is) (assembled_alone p shape s.main unbuffered unmoved s.mutexes s.alone)
    ∙ ap (λ t. head_lines (record { model = m; bound = b; notes = [] }) ++ t)
    (text_append (item_pieces (words.input nondet_wm) ++ Piece.line 0 ∷ []) (items_pieces (variables shape.moved 0 p.cells ++ the_main p shape s.main ∷ []))
    ∙ ap (λ t. t ++ items_text (variables shape.moved 0 p.cells ++ the_main p shape s.main ∷ [])) input_shown
    ∙ ap (λ t. codes "int nondet_wm();\n" ++ t)
    (items_append (variables shape.moved 0 p.cells) (the_main p shape s.main ∷ [])
    ∙ ap (λ t. t ++ items_text (the_main p shape s.main ∷ [])) (globals_shown shape.moved 0 p.cells unmoved s.cells)
    ∙ ap (λ t. flat_map global_text p.cells ++ t) (one_item (the_main p shape s.main) ∙ main_shown p.cells s.main (woven_body p shape false (has_address p) 0 s.main) (main_lines p shape s unmoved))))
    ∙ head_shown m b (flat_map global_text p.cells ++ main_text p.cells s.main)
    ∙ sym (append_assoc (head_text m b) (flat_map global_text p.cells) (main_text p.cells s.main))
    ∙ ap (λ ts. head_text m b ++ flat_map global_text p.cells ++ main_text p.cells (slice_index_or ts 0 no_thread)) (sym s.alone)
