-- How the head, the globals and main of a printed text are read.
use Rattle.std.proofs.Common.{◌≡◌, ℕ, pos, ◌+◌, ◌≤◌, ◌^◌, false, List, [], ◌∷◌, ◌++◌, length, map, None, refl, sym, ◌∙◌, ap, subst, arith, append_assoc, length-append}
use Rattle.std.specs.Prelude.{codes}
use Rattle.std.specs.Fmt.{decimal}
use Rattle.std.specs.List.{flat_map, range_with_len, AllByRecursion}
use Rattle.std.proofs.lemmas.List.FromFn.{length-map-range_with_len}
use Rattle.mm_goto.specs.declared.ident.At.{At}
use Rattle.mm_goto.specs.declared.program.Cell.{Cell}
use Rattle.mm_goto.specs.declared.program.Instr.{Instr}
use Rattle.mm_goto.specs.declared.program.Instr.TheVariants as instr
use Rattle.mm_goto.specs.declared.program.Thread.{Thread}
use Rattle.mm_tree.specs.declared.stmt.Stmt.{Stmt}
use Rattle.mm_tree.specs.declared.item.Item.{Item}
use Rattle.mm_tree.specs.declared.item.Item.TheVariants as item
use Rattle.mm_tree.specs.declared.side.Side.TheVariants.{Output}
use Rattle.mm_tree.specs.Trees as trees
use Rattle.mm_small_code.specs.reading.Flattening.{nothing_known, AreCode, int_cell, AreVariables, AreCells, main_item, IsMain, placed, around}
use Rattle.mm_parse_expr.specs.declared.symbol.Keyword.TheVariants as reserved
use Rattle.mm_parse_expr.specs.declared.symbol.Symbol.TheVariants as symbol
use Rattle.mm_parse_expr.specs.declared.terminal.Terminal.{Terminal}
use Rattle.mm_parse_expr.specs.Symbols.{word_symbol}
use Rattle.mm_grammar.specs.Nesting.{limits, deep_behind, nothing}
use Rattle.mm_grammar.specs.ProgramGrammar as g
use Rattle.mm_grammar.specs.ProgramGrammar.{AreItems}
use Rattle.mm_grammar.specs.StatementGrammar.{no_star}
use Rattle.mm_print.specs.SmallListing.{IsSmallCell}
use Rattle.mm_print.specs.SmallText.{written, locals_text, code_text, main_text, global_text}
use Rattle.mm_print.specs.Woven.{end_of, statements, declaration, woven_main}
use Rattle.mm_print.proofs.Bodies.{Body, Rest, code_length, name_says}
use Rattle.mm_print.proofs.Mains.{HasNames, AreSmall, code_rest, locals_rest, statements_size}
use Rattle.mm_print.proofs.Operands.{number_text}
use Rattle.mm_print.proofs.Says.{Says, ascii_says, number_says, blank_says, newline_says, semicolon_says, open_says, close_says, open_brace_says, assign_says}
use Rattle.mm_print.proofs.Signs.{Sign, named, number, keyword, semicolon, assign, open_mark, close_mark, open_brace, place, skipped, laid}

-- the terminals are items that declare these cells, and main behind them
pub record ItemsRead (cells : List Cell) (main : Thread) (variables : List Cell) (ts : List Terminal) : Type 0 where
  pub items : List Item
  pub parsed : AreItems ts items []
  pub at : At
  pub body : List Stmt
  pub declared : AreCells items variables (main_item at body ∷ [])
  pub thread : Thread
  pub flat : IsMain Output cells at body thread
  pub code : thread.code ≡ (woven_main main).code
  pub locals : thread.locals ≡ (woven_main main).locals

-- the text is such items
pub record Items (cells : List Cell) (main : Thread) (text : List ℕ) (variables : List Cell) : Type 0 where
  pub signs : List Sign
  pub says : Says text signs
  pub shallow : (ps : List At) → deep_behind (limits Output) nothing (laid ps signs) ≡ None
  pub read : (ps : List At) → ItemsRead cells main variables (laid ps signs)

-- ---- main

-- the instructions of the woven main
abbrev pub woven_code : Thread → List Instr
woven_code main = map declaration (range_with_len 0 main.locals) ++ (statements main main.locals main.code ++ instr.End ∷ [])

woven_length : (main : Thread) → length (woven_code main) ≡ end_of main + 1
woven_length main =
    omega (arith, length-append (map declaration (range_with_len 0 main.locals)) (statements main main.locals main.code ++ instr.End ∷ []), length-append (statements main main.locals main.code) (instr.End ∷ []), length-map-range_with_len declaration 0 main.locals, statements_size main main.locals main.code)

main_says : {text : List ℕ} {ss : List Sign} → Says text ss → Says (codes "int main(void) {\n" ++ text) (keyword reserved.Int (codes "int") ∷ named (codes "main") ∷ open_mark ∷ keyword reserved.Void (codes "void") ∷ close_mark ∷ open_brace ∷ ss)
unfolding word_symbol
main_says s =
    ascii_says (codes "int") (symbol.Keyword reserved.Int) refl refl refl (blank_says
    (ascii_says (codes "main") symbol.Name refl refl refl (open_says
    (ascii_says (codes "void") (symbol.Keyword reserved.Void) refl refl refl (close_says (blank_says (open_brace_says (newline_says s))))))))

module _ (cells : List Cell) (main : Thread) where
  main_read : (at : At) (ts : List Terminal) (r : Body cells main nothing_known (woven_code main) at ts) → IsMain Output cells at r.statements (record { locals = r.last.next; code = map (λ i. i.instr) r.code; places = map (λ i. i.at) r.code })
  main_read at ts r = record {
    code = r.code;
    last = r.last;
    body_code = subst (λ ls. AreCode (around Output cells r.code ls) nothing_known r.statements r.code r.last (placed at instr.End ∷ [])) (sym r.labels) (r.flat r.code (code_length r.code (woven_code main) r.same ∙ woven_length main));
    instrs = refl;
    places = refl;
    locals = refl;
  }

  main_items_of : {text : List ℕ} → Rest cells main text nothing_known (woven_code main) → Items cells main (codes "int main(void) {\n" ++ text) []
  main_items_of s = record {
    signs = keyword reserved.Int (codes "int") ∷ named (codes "main") ∷ open_mark ∷ keyword reserved.Void (codes "void") ∷ close_mark ∷ open_brace ∷ s.signs;
    says = main_says s.says;
    shallow = λ ps. s.shallow (skipped 6 ps);
    read = λ ps. let r = s.read (skipped 6 ps) (place 1 ps) in record {
      items = main_item (place 1 ps) r.statements ∷ [];
      parsed = g.more_items (g.function g.absent g.gives_int (g.no_params g.present) r.parsed) g.no_items;
      at = place 1 ps;
      body = r.statements;
      declared = AreCells.none;
      thread = _;
      flat = main_read (place 1 ps) _ r;
      code = r.same ∙ sym (append_assoc (map declaration (range_with_len 0 main.locals)) (statements main main.locals main.code) (instr.End ∷ []));
      locals = r.next;
    };
  }

  pub main_items : main.locals ≤ 2 ^ 32 → length main.code ≤ 2 ^ 32 → HasNames cells → AreSmall cells main main.code → Items cells main (main_text cells main) []
  unfolding main_text
  main_items few lines names small =
      let s = code_rest cells main few lines names main.code 0 main.locals main.locals 0 [] small refl refl refl in
      let all = main_items_of (locals_rest cells main main.locals s) in
      subst (λ t. Items cells main t []) (sym (shape (locals_text main.locals) (code_text cells 0 main.code))) all
    where
      shape : (x y : List ℕ) → codes "int main(void) {\n" ++ x ++ y ++ codes "}\n" ≡ codes "int main(void) {\n" ++ (x ++ (y ++ codes "}\n"))
      shape x y = simp append_assoc

  -- ---- globals

  same_cell : (cell : Cell) (s : IsSmallCell cell) → int_cell cell.name (pos s.value) ≡ cell
  same_cell cell s = let a = s.single in let b = s.int in let c = s.init in λ i. record { name = cell.name; index = sym a i; pointer = sym b i; init = sym c i }

  global_says : (cell : Cell) (small : IsSmallCell cell) {text : List ℕ} {ss : List Sign} → Says text ss → Says (global_text cell ++ text) (keyword reserved.Int (codes "int") ∷ named cell.name ∷ assign ∷ number small.value ∷ semicolon ∷ ss)
  unfolding word_symbol
  global_says cell small {text = text} {ss = ss} s =
      let init : (written cell.init).text ≡ decimal small.value = ap (λ e. (written e).text) small.init ∙ number_text small.value in
      subst (λ t. Says t (keyword reserved.Int (codes "int") ∷ named cell.name ∷ assign ∷ number small.value ∷ semicolon ∷ ss)) (sym (ap (λ t. codes "int " ++ cell.name ++ codes " = " ++ t ++ codes ";\n" ++ text) init ∙ shape cell.name (decimal small.value)))
      (ascii_says (codes "int") (symbol.Keyword reserved.Int) refl refl refl (blank_says (name_says cell.name small.name refl (blank_says (assign_says (number_says small.value small.small refl (semicolon_says (newline_says s))))))))
    where
      shape : (x y : List ℕ) → codes "int " ++ x ++ codes " = " ++ y ++ codes ";\n" ++ text ≡ codes "int" ++ 32 ∷ (x ++ 32 ∷ 61 ∷ 32 ∷ (y ++ 59 ∷ 10 ∷ text))
      shape x y = simp append_assoc

  global_items : (cell : Cell) (small : IsSmallCell cell) {text : List ℕ} {variables : List Cell} → Items cells main text variables → Items cells main (global_text cell ++ text) (cell ∷ variables)
  global_items cell small {variables = variables} s = record {
    signs = keyword reserved.Int (codes "int") ∷ named cell.name ∷ assign ∷ number small.value ∷ semicolon ∷ s.signs;
    says = global_says cell small s.says;
    shallow = λ ps. s.shallow (skipped 5 ps);
    read = λ ps.
        let r = s.read (skipped 5 ps) in
        let items : List Item = item.Globals (trees.global (place 1 ps) false cell.name None (g.number_at (place 3 ps) (pos small.value) ∷ []) ∷ []) ∷ r.items in
        record {
          items = items;
          parsed = g.more_items (g.globals g.no_quals (g.last_global (g.set_variable no_star (g.constant g.number)))) r.parsed;
          at = r.at;
          body = r.body;
          declared = subst (λ c. AreCells items (c ∷ variables) (main_item r.at r.body ∷ [])) (same_cell cell small) (AreCells.globals (AreVariables.int {at = place 1 ps} {es = g.number_at (place 3 ps) (pos small.value) ∷ []} (pos small.value) (place 3 ps, refl) AreVariables.none) r.declared);
          thread = r.thread;
          flat = r.flat;
          code = r.code;
          locals = r.locals;
        };
  }

  pub globals_items : (variables : List Cell) {text : List ℕ} → AllByRecursion IsSmallCell variables → Items cells main text [] → Items cells main (flat_map global_text variables ++ text) variables
  globals_items [] small s = s
  globals_items (cell ∷ more) {text = text} small s =
      subst (λ t. Items cells main t (cell ∷ more)) (sym (append_assoc (global_text cell) (flat_map global_text more) text)) (global_items cell small.0 (globals_items more small.1 s))
