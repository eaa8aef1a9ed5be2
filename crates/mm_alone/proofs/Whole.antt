-- The woven program of a small program, line by line.
use Rattle.std.proofs.Common.{◌≡◌, ℕ, zero, suc, pos, ◌+◌, Bool, true, false, List, [], ◌∷◌, ◌++◌, refl, sym, ◌∙◌, ap, map, arith, append_assoc, append-nil, Option, Some, None, if◌then◌else◌}
use Rattle.std.specs.Prelude.{codes, All, slice_get, slice_index_or, option_map, unwrap_or}
use Rattle.std.specs.List.{list_any, range_with_len}
use Rattle.std.specs.Fmt.{decimal}
use Rattle.std.proofs.lemmas.Bool.{true≢false}
use Rattle.std.proofs.lemmas.List.Elements.{All-head, All-tail}
use Rattle.std.proofs.lemmas.List.FromFn.{map-range_with_len_more}
use Rattle.mm_goto.specs.declared.pure.Pure.{Pure}
use Rattle.mm_goto.specs.declared.pure.Binary.TheVariants as binary
use Rattle.mm_goto.specs.declared.pure.Pure.TheOpen as pure
use Rattle.mm_goto.specs.declared.program.Target.TheVariants as target
use Rattle.mm_goto.specs.declared.program.Cell.{Cell}
use Rattle.mm_goto.specs.declared.program.Instr.{Instr}
use Rattle.mm_goto.specs.declared.program.Instr.TheVariants as instr
use Rattle.mm_goto.specs.declared.program.Thread.{Thread}
use Rattle.mm_goto.specs.declared.shape.Shape.{Shape}
use Rattle.mm_goto.specs.Listing.{Listing}
use Rattle.mm_goto.specs.Terms.{constant, the_local}
use Rattle.mm_goto.proofs.Folding.{fold_constant, fold_local, fold_combined}
use Rattle.mm_tree.specs.declared.expr.Expr.{Expr}
use Rattle.mm_tree.specs.declared.stmt.Stmt.{Stmt}
use Rattle.mm_print.specs.SmallListing.{IsSmallExpr, IsSmallInstr, number, local, equal, load, store, assert, jump}
use Rattle.mm_print.specs.SmallText as small
use Rattle.mm_print.specs.SmallText.{name_in, cell_text, instr_text, line_text, code_text, locals_text, declaration_text}
use Rattle.mm_print.specs.Statements.{layout}
use Rattle.mm_words.specs.Words as words
use Rattle.mm_words.specs.Words.{num, var, elem, bin, declare, assign_elem}
use Rattle.mm_templates.specs.Names.{local_name, label_name}
use Rattle.mm_templates.specs.Expressions.{printed, printed_step, cell_number}
use Rattle.mm_helpers.specs.Helpers.{wm_mem}
use Rattle.mm_templates.specs.Homes.{cell_name, read, write, read_by_name, write_by_name}
use Rattle.mm_templates.specs.Instructions.{woven_instr}
use Rattle.mm_instr.specs.Woven.{woven_code}
use Rattle.mm_alone.proofs.Lines.{line_of, ended_lines}
use Rattle.mm_alone.proofs.Statements.{shown, told, shown_num, shown_var, shown_equal, told_assign, told_declare, told_assert, told_goto, told_return, told_label}

-- ---- expressions

abbrev Shows : Pure → Type 0
Shows e = shown (printed e) ≡ (small.written e).text

printed_number : (n : ℕ) → printed (constant (pos n)) ≡ num n
printed_number n = fold_constant printed_step (pos n)

printed_local : (l : ℕ) → printed (the_local l) ≡ var (local_name l)
printed_local l = fold_local printed_step l

shows : {locals : ℕ} (e : Pure) → IsSmallExpr locals e → Shows e
unfolding small.written
shows e (number n below) = ap shown (printed_number n) ∙ shown_num n ∙ sym (ap (λ (w : small.Written). w.text) (fold_constant small.written_step (pos n)))
shows e (local l below) = ap shown (printed_local l) ∙ shown_var (local_name l) ∙ sym (ap (λ (w : small.Written). w.text) (fold_local small.written_step l))
shows e (equal l n below fits) =
    ap shown (fold_combined printed_step binary.Eq (the_local l) (constant (pos n)) ∙ ap (λ x. bin binary.Eq x (printed (constant (pos n)))) (printed_local l) ∙ ap (λ x. bin binary.Eq (var (local_name l)) x) (printed_number n))
    ∙ shown_equal (local_name l) n
    ∙ sym (ap (λ (w : small.Written). w.text) (fold_combined small.written_step binary.Eq (the_local l) (constant (pos n)) ∙ ap (λ (w : small.Written). small.written_step (pure.Bin binary.Eq w (small.written (constant (pos n))))) (fold_local small.written_step l) ∙ ap (λ (w : small.Written). small.written_step (pure.Bin binary.Eq (small.written_step (pure.Local l)) w)) (fold_constant small.written_step (pos n))) ∙ regroup (local_name l) (decimal n))
  where
    regroup : (x y : List ℕ) → (codes "" ++ x ++ codes "") ++ codes " " ++ codes "==" ++ codes " " ++ (codes "" ++ y ++ codes "") ≡ x ++ codes " == " ++ y
    regroup x y = simp (append_assoc, append-nil)

-- ---- names and flags

named : (o : Option Cell) → unwrap_or (option_map (λ (a : Cell). a.name) o) [] ≡ name_in o
named (Some cell) = refl
named None = refl

-- where no flag is up each is down
pub down : (flags : List Bool) (c : ℕ) → list_any (λ b. b) flags ≡ false → slice_index_or flags c false ≡ false
down [] c none = refl
down (true ∷ flags) c none = absurd (true≢false none)
down (false ∷ flags) zero none = refl
down (false ∷ flags) (suc c) none = down flags c none

-- ---- lines

pub ended_append : (a b : List Stmt) → ended_lines (map layout (a ++ b)) ≡ ended_lines (map layout a) ++ ended_lines (map layout b)
ended_append [] b = refl
ended_append (s ∷ a) b =
    ap (λ t. (line_of (layout s) ++ codes "\n") ++ t) (ended_append a b)
    ∙ sym (append_assoc (line_of (layout s) ++ codes "\n") (ended_lines (map layout a)) (ended_lines (map layout b)))

-- the line of one statement with its label
labelled_line : (i : ℕ) (s : Stmt) (text : List ℕ) → told s ≡ text
    → ended_lines (map layout (words.label (label_name i) s ∷ [])) ≡ codes "  " ++ label_name i ++ codes ": " ++ text ++ codes "\n"
labelled_line i s text e =
    ap (λ t. ((codes "  " ++ t) ++ codes "\n") ++ []) (told_label (label_name i) s ∙ ap (λ t. label_name i ++ codes ": " ++ t) e)
    ∙ regroup (label_name i) text
  where
    regroup : (x y : List ℕ) → ((codes "  " ++ (x ++ codes ": " ++ y)) ++ codes "\n") ++ [] ≡ codes "  " ++ x ++ codes ": " ++ y ++ codes "\n"
    regroup x y = simp (append_assoc, append-nil)

module _ (p : Listing) (shape : Shape) (unmoved : list_any (λ b. b) shape.moved ≡ false) where
  read_here : (c : ℕ) → read p.cells shape.moved (target.Cell c) ≡ var (cell_name p.cells c)
  read_here c = ap (λ b. if b then elem wm_mem (cell_number (target.Cell c)) else read_by_name p.cells (target.Cell c)) (down shape.moved c unmoved)

  write_here : (c : ℕ) (e : Expr) → write p.cells shape.moved (target.Cell c) e ≡ words.assign (cell_name p.cells c) e
  write_here c e = ap (λ b. if b then assign_elem wm_mem (cell_number (target.Cell c)) e else write_by_name p.cells (target.Cell c) e) (down shape.moved c unmoved)

  cell_shown : (c : ℕ) → shown (var (cell_name p.cells c)) ≡ cell_text p.cells c
  cell_shown c = shown_var (cell_name p.cells c) ∙ named (slice_get p.cells c)

  instr_line : (addresses : Bool) (main : Thread) (i : ℕ) (it : Instr) → IsSmallInstr p.cells main it
      → ended_lines (map layout (woven_instr p shape false addresses 0 i it)) ≡ line_text p.cells i it
  instr_line addresses main i it (load l c in_locals in_cells) =
      labelled_line i (words.assign (local_name l) (read p.cells shape.moved (target.Cell c))) (instr_text p.cells (instr.Load l (target.Cell c)))
      (told_assign (local_name l) (read p.cells shape.moved (target.Cell c)) ∙ ap (λ t. local_name l ++ codes " = " ++ t ++ codes ";") (ap shown (read_here c) ∙ cell_shown c))
  instr_line addresses main i it (store c e in_cells is_small) =
      labelled_line i (write p.cells shape.moved (target.Cell c) (printed e)) (instr_text p.cells (instr.Store (target.Cell c) e))
      (ap told (write_here c (printed e)) ∙ told_assign (cell_name p.cells c) (printed e)
      ∙ ap (λ t. t ++ codes " = " ++ shown (printed e) ++ codes ";") (named (slice_get p.cells c))
      ∙ ap (λ t. cell_text p.cells c ++ codes " = " ++ t ++ codes ";") (shows e is_small))
  instr_line addresses main i it (assert e n fits is_small) =
      labelled_line i (words.assert (printed e) n) (instr_text p.cells (instr.Assert e n))
      (told_assert (printed e) n ∙ ap (λ t. codes "__CPROVER_assert(" ++ t ++ codes ", \"assertion " ++ decimal n ++ codes "\");") (shows e is_small))
  instr_line addresses main i it (jump k within) = labelled_line i (words.go_to (label_name k)) (instr_text p.cells (instr.Jump k)) (told_goto (label_name k))

  end_line : (addresses : Bool) (i : ℕ) → ended_lines (map layout (woven_instr p shape false addresses 0 i instr.End)) ≡ line_text p.cells i instr.End
  end_line addresses i = labelled_line i (words.return (num 0)) (instr_text p.cells instr.End) told_return

  pub code_lines : (addresses : Bool) (main : Thread) (body : List Instr) (i : ℕ) → All (IsSmallInstr p.cells main) body
      → ended_lines (map layout (woven_code p shape false addresses 0 i (body ++ instr.End ∷ []))) ≡ code_text p.cells i (body ++ instr.End ∷ [])
  code_lines addresses main [] i all =
      ended_append (woven_instr p shape false addresses 0 i instr.End) [] ∙ ap (λ t. t ++ []) (end_line addresses i)
  code_lines addresses main (it ∷ body) i all =
      ended_append (woven_instr p shape false addresses 0 i it) (woven_code p shape false addresses 0 (i + 1) (body ++ instr.End ∷ []))
      ∙ ap (λ t. t ++ ended_lines (map layout (woven_code p shape false addresses 0 (i + 1) (body ++ instr.End ∷ [])))) (instr_line addresses main i it (All-head (IsSmallInstr p.cells main) it body all))
      ∙ ap (λ t. line_text p.cells i it ++ t) (code_lines addresses main body (i + 1) (All-tail (IsSmallInstr p.cells main) it body all))

-- the declarations of locals
abbrev pub declared : ℕ → Stmt
declared l = declare (local_name l)

declaration_line : (l : ℕ) → ended_lines (map layout (declared l ∷ [])) ≡ declaration_text l
declaration_line l = ap (λ t. ((codes "  " ++ t) ++ codes "\n") ++ []) (told_declare (local_name l)) ∙ regroup (local_name l)
  where
    regroup : (x : List ℕ) → ((codes "  " ++ (codes "int " ++ x ++ codes ";")) ++ codes "\n") ++ [] ≡ codes "  int " ++ x ++ codes ";\n"
    regroup x = append-nil _ ∙ ap (λ t. codes "  int " ++ t) (append_assoc x (codes ";") (codes "\n"))

pub local_lines : (n : ℕ) → ended_lines (map layout (map declared (range_with_len 0 n))) ≡ locals_text n
local_lines zero = refl
local_lines (suc n) =
    let more : map declared (range_with_len 0 (suc n)) ≡ map declared (range_with_len 0 n) ++ declared n ∷ [] =
    ap (λ k. map declared (range_with_len 0 k)) {x = suc n} {y = n + 1} (omega arith) ∙ map-range_with_len_more declared 0 n n (omega arith) in
    ap (λ ss. ended_lines (map layout ss)) more
    ∙ ended_append (map declared (range_with_len 0 n)) (declared n ∷ [])
    ∙ ap (λ t. t ++ ended_lines (map layout (declared n ∷ []))) (local_lines n)
    ∙ ap (λ t. locals_text n ++ t) (declaration_line n)
