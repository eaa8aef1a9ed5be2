-- The printed text of a small program: no store is buffered, and each instruction is a line with a label.
use Rattle.std.specs.Prelude.{ℕ, zero, suc, ◌+◌, Bool, true, false, List, [], ◌∷◌, ◌++◌, codes, slice_get, Option, Some, None}
use Rattle.std.specs.List.{flat_map, slice_index_or}
use Rattle.std.specs.Fmt.{decimal, signed_decimal}
use Rattle.mm_goto.specs.declared.model.Model.{Model}
use Rattle.mm_goto.specs.declared.pure.Pure.{Pure}
use Rattle.mm_goto.specs.declared.pure.Pure.TheOpen.{Pure-F, Const, Local, Addr, AddrElem, Un, Bin, Cond}
use Rattle.mm_goto.specs.declared.pure.Pure.TheFolds.{fold-Pure}
use Rattle.mm_goto.specs.declared.program.Target.TheVariants as target
use Rattle.mm_goto.specs.declared.program.Instr.{Instr}
use Rattle.mm_goto.specs.declared.program.Instr.TheVariants as instr
use Rattle.mm_goto.specs.declared.program.Cell.{Cell}
use Rattle.mm_goto.specs.declared.program.Thread.{Thread}
use Rattle.mm_goto.specs.Bounds.{Bounding, greatest}
use Rattle.mm_goto.specs.Listing.{Listing}
use Rattle.mm_goto.specs.Models.{word_of}
use Rattle.mm_print.specs.Pieces.{operator_text, mark_text, sign_of}

-- ---- expressions

-- wm_r and the number of a local
abbrev pub local_text : ℕ → List ℕ
local_text l = codes "wm_r" ++ decimal l

-- an expression by itself, and whether it has parentheses as an operand
pub record Written : Type 0 where
  pub text : List ℕ
  pub compound : Bool

abbrev pub opening : Bool → List ℕ
opening true = codes "("
opening false = []

abbrev pub closing : Bool → List ℕ
closing true = codes ")"
closing false = []

-- the expression as an operand
abbrev pub operand : Written → List ℕ
operand w = opening w.compound ++ w.text ++ closing w.compound

abbrev pub written_step : Pure-F Written → Written
written_step (Const z) = record { text = signed_decimal z; compound = false }
written_step (Local l) = record { text = local_text l; compound = false }
written_step (Addr c) = record { text = decimal (c + 1); compound = false }
written_step (AddrElem first len index) = record { text = decimal (first + 1) ++ codes " + " ++ operand index; compound = true }
written_step (Un op x) = record { text = mark_text (sign_of op) ++ operand x; compound = true }
written_step (Bin op x y) = record { text = operand x ++ codes " " ++ operator_text op ++ codes " " ++ operand y; compound = true }
written_step (Cond c x y) = record { text = operand c ++ codes " ? " ++ operand x ++ codes " : " ++ operand y; compound = true }

-- the text of an expression: one blank around each operator between operands
unfoldable pub written : Pure → Written
written = fold-Pure Written written_step

-- ---- instructions

abbrev pub name_in : Option Cell → List ℕ
name_in (Some cell) = cell.name
name_in None = []

-- the name of a cell
abbrev pub cell_text : List Cell → ℕ → List ℕ
cell_text cells c = name_in (slice_get cells c)

-- wm_ and the number of an instruction
abbrev pub label_text : ℕ → List ℕ
label_text k = codes "wm_" ++ decimal k

-- the statement of an instruction; no other kind stands in a small program
abbrev pub instr_text : List Cell → Instr → List ℕ
instr_text cells (instr.Load l (target.Cell c)) = local_text l ++ codes " = " ++ cell_text cells c ++ codes ";"
instr_text cells (instr.Store (target.Cell c) e) = cell_text cells c ++ codes " = " ++ (written e).text ++ codes ";"
instr_text cells (instr.Assert e n) = codes "__CPROVER_assert(" ++ (written e).text ++ codes ", \"assertion " ++ decimal n ++ codes "\");"
instr_text cells (instr.Jump k) = codes "goto " ++ label_text k ++ codes ";"
instr_text cells instr.End = codes "return 0;"
instr_text cells _ = codes ";"

-- the line of the instruction of number k
abbrev pub line_text : List Cell → ℕ → Instr → List ℕ
line_text cells k i = codes "  " ++ label_text k ++ codes ": " ++ instr_text cells i ++ codes "\n"

-- the lines of the instructions from number k on
abbrev pub code_text : List Cell → ℕ → List Instr → List ℕ
code_text cells k [] = []
code_text cells k (i ∷ is) = line_text cells k i ++ code_text cells (k + 1) is

-- ---- the whole

abbrev pub global_text : Cell → List ℕ
global_text cell = codes "int " ++ cell.name ++ codes " = " ++ (written cell.init).text ++ codes ";\n"

abbrev pub declaration_text : ℕ → List ℕ
declaration_text l = codes "  int " ++ local_text l ++ codes ";\n"

-- the declarations of n locals
abbrev pub locals_text : ℕ → List ℕ
locals_text zero = []
locals_text (suc n) = locals_text n ++ declaration_text n

unfoldable pub main_text : List Cell → Thread → List ℕ
main_text cells main = codes "int main(void) {\n" ++ locals_text main.locals ++ code_text cells 0 main.code ++ codes "}\n"

-- a program without threads has no main
abbrev pub no_thread : Thread
no_thread = record { locals = 0; code = []; places = [] }

-- the head line with the model and the bound, the include line, and the declaration of the inputs
unfoldable pub head_text : Model → Bounding → List ℕ
head_text m bound =
    codes "/* goto-mm 1 " ++ word_of m ++ codes " " ++ decimal (greatest bound) ++ codes " */\n#include <pthread.h>\nint nondet_wm();\n"

-- the head, the globals, and main
abbrev pub small_text : Listing → Model → Bounding → List ℕ
small_text p m bound = head_text m bound ++ flat_map global_text p.cells ++ main_text p.cells (slice_index_or p.threads 0 no_thread)
