-- How the lines of main are read, from the right.
use Rattle.std.proofs.Common.{◌≡◌, ℕ, ◌+◌, List, [], ◌∷◌, ◌++◌, length, map, None, refl, sym, ◌∙◌, ap, subst, append_assoc}
use Rattle.std.specs.Prelude.{codes, sum_by}
use Rattle.std.proofs.lemmas.List.{length-map}
use Rattle.mm_goto.specs.declared.ident.At.{At}
use Rattle.mm_goto.specs.declared.ident.Ident.{Ident}
use Rattle.mm_goto.specs.declared.program.Cell.{Cell}
use Rattle.mm_goto.specs.declared.program.Instr.{Instr}
use Rattle.mm_goto.specs.declared.program.Instr.TheVariants as instr
use Rattle.mm_goto.specs.declared.program.Thread.{Thread}
use Rattle.mm_goto.specs.Names.{IsDeclarable}
use Rattle.mm_tree.specs.declared.stmt.Stmt.{Stmt}
use Rattle.mm_tree.specs.declared.side.Side.TheVariants.{Output}
use Rattle.mm_small_code.specs.reading.Flattening.{Placed, placed, Named, Known, AreCode, around}
use Rattle.mm_parse_expr.specs.declared.symbol.Symbol.TheVariants as symbol
use Rattle.mm_parse_expr.specs.declared.terminal.Terminal.{Terminal}
use Rattle.mm_parse_expr.proofs.WordNames.{name_symbol}
use Rattle.mm_grammar.specs.declared.depth.Counts.{Counts}
use Rattle.mm_grammar.specs.Nesting.{limits, deep_behind}
use Rattle.mm_grammar.specs.StatementGrammar as g
use Rattle.mm_grammar.specs.StatementGrammar.{IsBody}
use Rattle.mm_print.specs.SmallText.{label_text}
use Rattle.mm_print.specs.Woven.{fresh, end_of}
use Rattle.mm_print.proofs.Lookup.{declared, labelled}
use Rattle.mm_print.proofs.Operands.{label_says}
use Rattle.mm_print.proofs.Says.{Says, Stops, word_says, blank_says, newline_says, colon_says, close_brace_says, nothing_says}
use Rattle.mm_print.proofs.Signs.{Sign, named, colon, close_brace, laid}

-- ---- the rest of main

-- the labels of main, and what is known before a statement behind the declarations
abbrev pub labels_of : Thread → List Named
labels_of main = labelled 0 main.locals main.code []

abbrev pub state : Thread → ℕ → ℕ → List Named → Known
state main t a ls = record { locals = declared main.locals; next = t; asserts = a; labels = ls }

-- the terminals are statements up to the end of main, and these have the instructions
pub record Body (cells : List Cell) (main : Thread) (known : Known) (instrs : List Instr) (at : At) (ts : List Terminal) : Type 0 where
  pub statements : List Stmt
  pub parsed : IsBody ts statements []
  pub code : List Placed
  pub same : map (λ (i : Placed). i.instr) code ≡ instrs
  pub last : Known
  pub labels : last.labels ≡ labels_of main
  pub next : last.next ≡ main.locals + sum_by fresh main.code
  pub flat : (all : List Placed) → length all ≡ end_of main + 1 → AreCode (around Output cells all (labels_of main)) known statements code last (placed at instr.End ∷ [])

-- what is counted before a line of main
abbrev pub inside : Counts
inside = record { brackets = 1; tokens = 0; words = 0 }

-- the text is the rest of main
pub record Rest (cells : List Cell) (main : Thread) (text : List ℕ) (known : Known) (instrs : List Instr) : Type 0 where
  pub signs : List Sign
  pub says : Says text signs
  pub shallow : (ps : List At) → deep_behind (limits Output) inside (laid ps signs) ≡ None
  pub read : (ps : List At) (at : At) → Body cells main known instrs at (laid ps signs)

-- the end of main
pub end_rest : (cells : List Cell) (main : Thread) (known : Known) → known.labels ≡ labels_of main → known.next ≡ main.locals + sum_by fresh main.code → Rest cells main (codes "}\n") known (instr.End ∷ [])
end_rest cells main known labels next = record {
  signs = close_brace ∷ [];
  says = close_brace_says (newline_says nothing_says);
  shallow = λ ps. refl;
  read = λ ps at. record { statements = []; parsed = g.end; code = placed at instr.End ∷ []; same = refl; last = known; labels = labels; next = next; flat = λ all h. AreCode.none };
}

pub code_length : (code : List Placed) (instrs : List Instr) → map (λ (i : Placed). i.instr) code ≡ instrs → length code ≡ length instrs
code_length code instrs e = sym (length-map code (λ (i : Placed). i.instr)) ∙ ap length e

-- ---- one line

line_shape : (label line text : List ℕ) → codes "  " ++ label ++ codes ": " ++ line ++ codes "\n" ++ text ≡ 32 ∷ 32 ∷ (label ++ 58 ∷ 32 ∷ (line ++ 10 ∷ text))
line_shape label line text = simp append_assoc

-- a line with its label
pub line_says : (k : ℕ) (line text : List ℕ) (ss : List Sign) → Says (line ++ 10 ∷ text) ss → Says (codes "  " ++ label_text k ++ codes ": " ++ line ++ codes "\n" ++ text) (named (label_text k) ∷ colon ∷ ss)
line_says k line text ss s = subst (λ t. Says t (named (label_text k) ∷ colon ∷ ss)) (sym (line_shape (label_text k) line text)) (blank_says (blank_says (label_says k refl (colon_says (blank_says s)))))

pub name_says : (x : Ident) {bs : List ℕ} {ss : List Sign} → IsDeclarable x → Stops bs → Says bs ss → Says (x ++ bs) (named x ∷ ss)
name_says x d e s = word_says x symbol.Name d.text d.name (name_symbol x d.no_word) e s
