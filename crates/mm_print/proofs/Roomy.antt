-- The text of a tree that has room passes no limit of a woven program.
use Rattle.std.proofs.Common.{◌≡◌, ℕ, zero, suc, pos, negsuc, ◌+◌, ◌≤◌, Bool, true, false, List, [], ◌∷◌, ◌++◌, map, Option, None, Some, refl, sym, subst, append_assoc, append-nil, arith}
use Rattle.std.specs.List.{AllByRecursion as ByRecursion}
use Rattle.mm_goto.specs.declared.ident.At.{At}
use Rattle.mm_goto.specs.declared.pure.Unary.{Unary}
use Rattle.mm_goto.specs.declared.pure.Unary.TheVariants as unary
use Rattle.mm_goto.specs.declared.pure.Binary.{Binary}
use Rattle.mm_goto.specs.declared.pure.Binary.TheVariants as binary
use Rattle.mm_tree.specs.declared.expr.Expr.{Expr}
use Rattle.mm_tree.specs.declared.expr.Word.{Word}
use Rattle.mm_tree.specs.declared.stmt.LeftNode.{LeftNode}
use Rattle.mm_tree.specs.declared.stmt.Local.{Local}
use Rattle.mm_tree.specs.declared.stmt.Stmt.{Stmt}
use Rattle.mm_tree.specs.declared.stmt.StmtNode.{StmtNode}
use Rattle.mm_tree.specs.declared.stmt.StmtNode.TheVariants as stmt
use Rattle.mm_tree.specs.declared.stmt.Value.{Value}
use Rattle.mm_tree.specs.declared.item.Gives.{Gives}
use Rattle.mm_tree.specs.declared.item.Gives.TheVariants as gives
use Rattle.mm_tree.specs.declared.item.Global.{Global}
use Rattle.mm_tree.specs.declared.item.Item.{Item}
use Rattle.mm_tree.specs.declared.item.Param.{Param}
use Rattle.mm_tree.specs.declared.side.Side.TheVariants.{Output}
use Rattle.mm_tree.specs.Trees.{word, left_at, statement, param}
use Rattle.mm_parse_expr.specs.declared.symbol.Keyword.{Keyword}
use Rattle.mm_parse_expr.specs.declared.symbol.Keyword.TheVariants as keyword
use Rattle.mm_parse_expr.specs.declared.symbol.Symbol.{Symbol}
use Rattle.mm_parse_expr.specs.declared.symbol.Symbol.TheVariants as symbol
use Rattle.mm_grammar.specs.Nesting.{deep_at}
use Rattle.mm_print.specs.Pieces.{Piece, sign_of, spaced, commas, called, subscript, semicolon}
use Rattle.mm_print.specs.Expressions.{Written, written, expr_pieces, operand, address}
use Rattle.mm_print.specs.Statements.{layout, simply, whole, lines, braces, tested, declared, left_pieces, value_pieces, set_to, star, local_pieces, name_pieces, zero_argument}
use Rattle.mm_print.specs.Items.{global_pieces, length_pieces, mutex_pieces, gives_pieces, param_word, param_pieces, params_pieces, item_pieces, items_pieces}
use Rattle.mm_print.specs.Printable.{OneOrMore, IsPrintableNumber, IsPrintable, IsPrintableLeft, IsPrintableCall, IsPrintableValue, IsPrintableGiven, IsPrintableLocal, IsPrintableWord, IsPrintableDeclaration, IsPrintableAssignment, IsPrintableAction, IsPrintableStmt, IsPrintableBody, IsPrintableConst, IsPrintableInit, IsPrintableGlobal, IsPrintableParam, IsPrintableItem}
use Rattle.mm_print.specs.Room.{Room, over, beside, expr_room, list_room, left_room, call_room, value_room, given_room, assignment_room, declaration_room, action_room, first_run, HasRoom, BodyHasRoom, init_room, global_room, ItemHasRoom, IsRoomy}
use Rattle.mm_print.proofs.Signs.{laid}
use Rattle.mm_print.proofs.Spelling.{signs}
use Rattle.mm_print.proofs.ExpressionForms.{written_number, written_null, written_name, written_element, written_pointee, written_address, written_element_address, written_un, written_bin, written_cond}
use Rattle.mm_print.proofs.StatementForms as f
use Rattle.mm_print.proofs.Limits.{IsCalm, IsClosed, Runs, IsPlain, calm_nothing, calm_more, calm_blank, calm_join, calm_before, calm_beside, calm_name, calm_number, calm_null, calm_quoted, calm_mark, calm_word, calm_after_comma, calm_spaced, calm_operand, calm_subscript, calm_two, calm_called, calm_list, calm_all, calm_braces, calm_within, round, plain_operator, plain_assign, plain_update, plain_colon, plain_question, closed_more, closed_blank, closed_semicolon, closed_behind, closed_then, closed_braces, run_nothing, run_more, run_items, run_is_shallow}

-- ---- expressions

-- the pieces take no more than this room
abbrev Fits : List Piece → Room → Type 0
Fits ps r = IsCalm ps r.brackets r.tokens

plain_sign : (op : Unary) → IsPlain (sign_of op)
plain_sign unary.Neg = plain_operator binary.Sub
plain_sign unary.Plus = plain_operator binary.Add
plain_sign unary.Not = record { brackets = λ o. refl; tokens = λ n. refl; words = refl }
plain_sign unary.Flip = record { brackets = λ o. refl; tokens = λ n. refl; words = refl }

calm_element : (x : List ℕ) {ps : List Piece} {b t : ℕ} → IsCalm ps b t → IsCalm (Piece.name x ∷ subscript ps) (1 + b) (3 + t)
calm_element x {ps = ps} {b = b} {t = t} c =
    let both : IsCalm (Piece.name x ∷ subscript ps) (1 + b) (1 + (2 + t)) = calm_before (1 + b) (calm_name x) (calm_subscript c) in
    calm_more (omega arith) (omega arith) both

calm_address : (x : List ℕ) → IsCalm (address x) 0 2
calm_address x = calm_before 0 (calm_mark (symbol.Operator binary.And) (plain_operator binary.And)) (calm_name x)

calm_element_address : (x : List ℕ) {ps : List Piece} {b t : ℕ} → IsCalm ps b t → IsCalm (address x ++ subscript ps) (1 + b) (4 + t)
calm_element_address x {ps = ps} {b = b} {t = t} c =
    let both : IsCalm (address x ++ subscript ps) (1 + b) (2 + (2 + t)) = calm_before (1 + b) (calm_address x) (calm_subscript c) in
    calm_more (omega arith) (omega arith) both

calm_sign : (s : Symbol) → IsPlain s → (w : Written) {b t : ℕ} → IsCalm w.pieces b t → IsCalm (Piece.mark s ∷ operand w) (1 + b) (3 + t)
calm_sign s h w {b = b} {t = t} c =
    let both : IsCalm (Piece.mark s ∷ operand w) (1 + b) (1 + (2 + t)) = calm_before (1 + b) (calm_mark s h) (calm_operand w.compound c) in
    calm_more (omega arith) (omega arith) both

calm_bin : (op : Binary) (v w : Written) {b c t u : ℕ} → IsCalm v.pieces b t → IsCalm w.pieces c u → IsCalm (operand v ++ spaced (symbol.Operator op) (operand w)) (1 + (b + c)) (5 + (t + u))
calm_bin op v w {b = b} {c = c} {t = t} {u = u} x y =
    let both : IsCalm (operand v ++ spaced (symbol.Operator op) (operand w)) (1 + (b + c)) (1 + ((2 + t) + (2 + u))) = calm_two b c (plain_operator op) (calm_operand v.compound x) (calm_operand w.compound y) in
    calm_more (omega arith) (omega arith) both

calm_cond : (m v w : Written) {b c d t u s : ℕ} → IsCalm m.pieces b t → IsCalm v.pieces c u → IsCalm w.pieces d s → IsCalm (operand m ++ spaced symbol.Question (operand v ++ spaced symbol.Colon (operand w))) (1 + (b + (c + d))) (8 + (t + (u + s)))
calm_cond m v w {b = b} {c = c} {d = d} {t = t} {u = u} {s = s} x y z =
    let back : IsCalm (operand v ++ spaced symbol.Colon (operand w)) (1 + (c + d)) (1 + ((2 + u) + (2 + s))) = calm_two c d plain_colon (calm_operand v.compound y) (calm_operand w.compound z) in
    let both : IsCalm (operand m ++ spaced symbol.Question (operand v ++ spaced symbol.Colon (operand w))) (1 + (b + (c + d))) (1 + ((2 + t) + (1 + ((2 + u) + (2 + s))))) = calm_two b (c + d) plain_question (calm_operand m.compound x) back in
    calm_more (omega arith) (omega arith) both

expr_calm : {e : Expr} (i : IsPrintable e) → Fits (expr_pieces e) (expr_room i)
expr_calm (IsPrintable.number (IsPrintableNumber.number {at = at} {n = n} h)) = subst (λ (w : Written). IsCalm w.pieces 0 1) (sym (written_number at (pos n))) (calm_number n)
expr_calm (IsPrintable.null {at = at}) = subst (λ (w : Written). IsCalm w.pieces 0 1) (sym (written_null at)) calm_null
expr_calm (IsPrintable.name {at = at} {x = x} h) = subst (λ (w : Written). IsCalm w.pieces 0 1) (sym (written_name at x)) (calm_name x)
expr_calm (IsPrintable.element {at = at} {x = x} {e = e} h i) = subst (λ (w : Written). Fits w.pieces (over 3 (expr_room i))) (sym (written_element at x e)) (calm_element x (expr_calm i))
expr_calm (IsPrintable.pointee {at = at} {e = e} i) = subst (λ (w : Written). Fits w.pieces (over 3 (expr_room i))) (sym (written_pointee at e)) (calm_sign (symbol.Operator binary.Mul) (plain_operator binary.Mul) (written e) (expr_calm i))
expr_calm (IsPrintable.address {at = at} {p = p} {x = x} h) = subst (λ (w : Written). IsCalm w.pieces 0 2) (sym (written_address at p x)) (calm_address x)
expr_calm (IsPrintable.element_address {at = at} {p = p} {x = x} {e = e} h i) = subst (λ (w : Written). Fits w.pieces (over 4 (expr_room i))) (sym (written_element_address at p x e)) (calm_element_address x (expr_calm i))
expr_calm (IsPrintable.un {at = at} {op = op} {e = e} i) = subst (λ (w : Written). Fits w.pieces (over 3 (expr_room i))) (sym (written_un at op e)) (calm_sign (sign_of op) (plain_sign op) (written e) (expr_calm i))
expr_calm (IsPrintable.bin {at = at} {op = op} {a = a} {b = b} i j) = subst (λ (w : Written). Fits w.pieces (over 5 (beside (expr_room i) (expr_room j)))) (sym (written_bin at op a b)) (calm_bin op (written a) (written b) (expr_calm i) (expr_calm j))
expr_calm (IsPrintable.cond {at = at} {c = c} {a = a} {b = b} h i j) = subst (λ (w : Written). Fits w.pieces (over 8 (beside (expr_room h) (beside (expr_room i) (expr_room j))))) (sym (written_cond at c a b)) (calm_cond (written c) (written a) (written b) (expr_calm h) (expr_calm i) (expr_calm j))

-- ---- the parts of statements

args_calm : {xs : List Expr} (h : OneOrMore IsPrintable xs) → Fits (commas (map expr_pieces xs)) (list_room (λ e i. expr_room i) h)
args_calm {xs = xs} h = calm_list expr_pieces (λ e i. expr_room i) (λ e i. expr_calm i) xs h

left_calm : {l : LeftNode} (i : IsPrintableLeft l) → Fits (left_pieces l) (left_room i)
left_calm (IsPrintableLeft.name {x = x} h) = calm_name x
left_calm (IsPrintableLeft.element {x = x} h i) = calm_element x (expr_calm i)
left_calm (IsPrintableLeft.pointee {e = e} i) = calm_sign (symbol.Operator binary.Mul) (plain_operator binary.Mul) (written e) (expr_calm i)

calm_pair : (k : Keyword) → IsPlain (symbol.Keyword k) → {ps qs : List Piece} {b c t u : ℕ} → IsCalm ps b t → IsCalm qs c u → IsCalm (called (Piece.word k) (ps ++ Piece.mark symbol.Comma ∷ Piece.blank ∷ qs)) (1 + (b + c)) (3 + (t + u))
calm_pair k h x y = calm_called (Piece.word k) (calm_word k h) (calm_beside x (calm_after_comma y))

plain_fetch_add : IsPlain (symbol.Keyword keyword.FetchAndAdd)
plain_fetch_add = record { brackets = λ o. refl; tokens = λ n. refl; words = refl }

plain_compare_swap : IsPlain (symbol.Keyword keyword.CompareAndSwap)
plain_compare_swap = record { brackets = λ o. refl; tokens = λ n. refl; words = refl }

call_calm : {v : Value} (i : IsPrintableCall v) → Fits (value_pieces v) (call_room i)
call_calm (IsPrintableCall.bare_call {x = x} h) = calm_called (Piece.name x) (calm_name x) calm_nothing
call_calm (IsPrintableCall.call {x = x} h i) = calm_called (Piece.name x) (calm_name x) (args_calm i)
call_calm (IsPrintableCall.fetch_add i j) = calm_more (omega arith) (omega arith) (calm_pair keyword.FetchAndAdd plain_fetch_add (expr_calm i) (expr_calm j))
call_calm (IsPrintableCall.compare_swap i j k) = calm_more (omega arith) (omega arith) (calm_pair keyword.CompareAndSwap plain_compare_swap (expr_calm i) (calm_beside (expr_calm j) (calm_after_comma (expr_calm k))))

value_calm : {v : Value} (i : IsPrintableValue v) → Fits (value_pieces v) (value_room i)
value_calm (IsPrintableValue.plain i) = expr_calm i
value_calm (IsPrintableValue.called i) = call_calm i

star_calm : (b : Bool) → IsCalm (star b) 0 1
star_calm true = calm_mark (symbol.Operator binary.Mul) (plain_operator binary.Mul)
star_calm false = calm_more (omega arith) (omega arith) calm_nothing

set_calm : {v : Option Value} (i : IsPrintableGiven v) → Fits (set_to v) (given_room i)
set_calm IsPrintableGiven.none = calm_more (omega arith) (omega arith) calm_nothing
set_calm (IsPrintableGiven.some i) = calm_spaced plain_assign (value_calm i)

local_calm : (l : Local) (h : IsPrintableLocal l) → IsCalm (local_pieces l) (given_room h.value).brackets (2 + (given_room h.value).tokens)
local_calm l h =
    let both : IsCalm (local_pieces l) (given_room h.value).brackets (1 + (1 + (given_room h.value).tokens)) = calm_before _ (star_calm l.pointer) (calm_before _ (calm_name l.name) (set_calm h.value)) in
    calm_more (omega arith) (omega arith) both

-- a word and a blank
before_calm : (k : Keyword) → IsPlain (symbol.Keyword k) → IsCalm (Piece.word k ∷ Piece.blank ∷ []) 0 1
before_calm k h = calm_before 0 (calm_word k h) (calm_blank calm_nothing)

declared_calm : (k : Keyword) → IsPlain (symbol.Keyword k) → (pss : List (List Piece)) {b t : ℕ} → IsCalm (commas pss) b t → IsCalm (declared k pss) b (1 + t)
declared_calm k h pss {b = b} c = calm_before b (before_calm k h) c

plain_int : IsPlain (symbol.Keyword keyword.Int)
plain_int = record { brackets = λ o. refl; tokens = λ n. refl; words = refl }

plain_thread : IsPlain (symbol.Keyword keyword.Thread)
plain_thread = record { brackets = λ o. refl; tokens = λ n. refl; words = refl }

names_calm : {ws : List Word} → OneOrMore IsPrintableWord ws → IsCalm (commas (map name_pieces ws)) 0 1
names_calm {ws = ws} h = calm_all name_pieces 0 1 (λ w i. calm_name w.name) ws h

names_list_calm : {ws : List Word} (h : OneOrMore IsPrintableWord ws) → Fits (commas (map name_pieces ws)) (list_room (λ w i. record { brackets = 0; tokens = 1 }) h)
names_list_calm {ws = ws} h = calm_list name_pieces (λ w i. record { brackets = 0; tokens = 1 }) (λ w i. calm_name w.name) ws h

-- ---- simple statements

-- a simple statement on its line
simply_closed : (s : Stmt) {us : List Piece} {b t : ℕ} → layout s ≡ simply us → IsCalm us b t → (n : ℕ) → IsClosed (whole (layout s) n) b t
simply_closed s {b = b} {t = t} e c n = subst (λ w. IsClosed (whole w n) b t) (sym e) (closed_semicolon c)

assignment_closed : {m : StmtNode} (at : At) (i : IsPrintableAssignment m) (n : ℕ) → IsClosed (whole (layout (statement at m)) n) (assignment_room i).brackets (assignment_room i).tokens
assignment_closed at (IsPrintableAssignment.assign {p = p} {l = l} {v = v} i j) n =
    let both : IsCalm (left_pieces l ++ spaced symbol.Assign (value_pieces v)) ((left_room i).brackets + (value_room j).brackets) ((left_room i).tokens + (1 + (value_room j).tokens)) = calm_beside (left_calm i) (calm_spaced plain_assign (value_calm j)) in
    simply_closed _ (f.layout_assign at (left_at p l) v) (calm_more (omega arith) (omega arith) both) n
assignment_closed at (IsPrintableAssignment.update {p = p} {l = l} {op = op} {e = e} i u j) n =
    let both : IsCalm (left_pieces l ++ spaced (symbol.Update op) (expr_pieces e)) ((left_room i).brackets + (expr_room j).brackets) ((left_room i).tokens + (1 + (expr_room j).tokens)) = calm_beside (left_calm i) (calm_spaced (plain_update op) (expr_calm j)) in
    simply_closed _ (f.layout_update at (left_at p l) op e) (calm_more (omega arith) (omega arith) both) n

declaration_closed : {m : StmtNode} (at : At) (i : IsPrintableDeclaration m) (n : ℕ) → IsClosed (whole (layout (statement at m)) n) (declaration_room i).brackets (declaration_room i).tokens
declaration_closed at (IsPrintableDeclaration.ints {ls = ls} h) n = simply_closed _ (f.layout_declare at ls) (declared_calm keyword.Int plain_int (map local_pieces ls) (calm_list local_pieces (λ l i. record { brackets = (given_room i.value).brackets; tokens = 2 + (given_room i.value).tokens }) local_calm ls h)) n
declaration_closed at (IsPrintableDeclaration.threads {ws = ws} h) n = simply_closed _ (f.layout_declare_thread at ws) (declared_calm keyword.Thread plain_thread (map name_pieces ws) (names_list_calm h)) n

-- a word with its arguments
word_called : (k : Keyword) → IsPlain (symbol.Keyword k) → {us : List Piece} {b t : ℕ} → IsCalm us b t → IsCalm (called (Piece.word k) us) (1 + b) (3 + t)
word_called k h c = calm_called (Piece.word k) (calm_word k h) c

zero_calm : IsCalm zero_argument 0 1
zero_calm = calm_number 0

start_calm : (x y : List ℕ) → IsCalm (commas (address x ∷ zero_argument ∷ (Piece.name y ∷ []) ∷ zero_argument ∷ [])) 0 5
start_calm x y = calm_before 0 (calm_address x) (calm_after_comma (calm_before 0 zero_calm (calm_after_comma (calm_before 0 (calm_name y) (calm_after_comma zero_calm)))))

join_calm : (x : List ℕ) → IsCalm (commas ((Piece.name x ∷ []) ∷ zero_argument ∷ [])) 0 2
join_calm x = calm_before 0 (calm_name x) (calm_after_comma zero_calm)

action_closed : {m : StmtNode} (at : At) (i : IsPrintableAction m) (n : ℕ) → IsClosed (whole (layout (statement at m)) n) (action_room i).brackets (action_room i).tokens
action_closed at (IsPrintableAction.effect {v = v} i) n = simply_closed _ (f.layout_effect at v) (call_calm i) n
action_closed at (IsPrintableAction.assert {e = e} i) n = simply_closed _ (f.layout_assert at e None) (word_called keyword.Assert (record { brackets = λ o. refl; tokens = λ n. refl; words = refl }) (expr_calm i)) n
action_closed at (IsPrintableAction.named_assert {e = e} {x = x} i t) n =
    let inner : IsCalm (expr_pieces e ++ Piece.mark symbol.Comma ∷ Piece.blank ∷ Piece.quoted x ∷ []) (expr_room i).brackets ((expr_room i).tokens + 1) = calm_join (expr_calm i) (calm_more (omega arith) (omega arith) (calm_after_comma (calm_quoted x))) in
    simply_closed _ (f.layout_assert at e (Some x)) (calm_more (omega arith) (omega arith) (word_called keyword.ProverAssert (record { brackets = λ o. refl; tokens = λ n. refl; words = refl }) inner)) n
action_closed at (IsPrintableAction.assume {e = e} i) n = simply_closed _ (f.layout_assume at e) (word_called keyword.Assume (record { brackets = λ o. refl; tokens = λ n. refl; words = refl }) (expr_calm i)) n
action_closed at IsPrintableAction.fence n = simply_closed _ (f.layout_fence at) (word_called keyword.Synchronize (record { brackets = λ o. refl; tokens = λ n. refl; words = refl }) calm_nothing) n
action_closed at (IsPrintableAction.lock {p = p} {x = x} h) n = simply_closed _ (f.layout_lock at (word p x)) (word_called keyword.Lock (record { brackets = λ o. refl; tokens = λ n. refl; words = refl }) (calm_address x)) n
action_closed at (IsPrintableAction.unlock {p = p} {x = x} h) n = simply_closed _ (f.layout_unlock at (word p x)) (word_called keyword.Unlock (record { brackets = λ o. refl; tokens = λ n. refl; words = refl }) (calm_address x)) n
action_closed at (IsPrintableAction.start {p = p} {q = q} {x = x} {y = y} h i) n = simply_closed _ (f.layout_start at (word p x) (word q y)) (calm_more (omega arith) (omega arith) (word_called keyword.Create (record { brackets = λ o. refl; tokens = λ n. refl; words = refl }) (start_calm x y))) n
action_closed at (IsPrintableAction.join {p = p} {x = x} h) n = simply_closed _ (f.layout_join at (word p x)) (calm_more (omega arith) (omega arith) (word_called keyword.Join (record { brackets = λ o. refl; tokens = λ n. refl; words = refl }) (join_calm x))) n
action_closed at IsPrintableAction.atom_begin n = simply_closed _ (f.layout_atom_begin at) (word_called keyword.AtomicBegin (record { brackets = λ o. refl; tokens = λ n. refl; words = refl }) calm_nothing) n
action_closed at IsPrintableAction.atom_end n = simply_closed _ (f.layout_atom_end at) (word_called keyword.AtomicEnd (record { brackets = λ o. refl; tokens = λ n. refl; words = refl }) calm_nothing) n

return_closed : (at : At) {v : Option Value} (i : IsPrintableGiven v) (n : ℕ) → IsClosed (whole (layout (statement at (stmt.Return v))) n) (given_room i).brackets (1 + (given_room i).tokens)
return_closed at IsPrintableGiven.none n = simply_closed _ (f.layout_return at None) (calm_more (omega arith) (omega arith) (calm_word keyword.Return (record { brackets = λ o. refl; tokens = λ n. refl; words = refl }))) n
return_closed at (IsPrintableGiven.some {v = v} i) n =
    let both : IsCalm (Piece.word keyword.Return ∷ Piece.blank ∷ value_pieces v) (value_room i).brackets (1 + (value_room i).tokens) = calm_before _ (before_calm keyword.Return (record { brackets = λ o. refl; tokens = λ n. refl; words = refl })) (value_calm i) in
    simply_closed _ (f.layout_return at (Some v)) (calm_more (omega arith) (omega arith) both) n

-- ---- statements with others in them

-- with more brackets than it takes
within : {ps : List Piece} {b c t : ℕ} → b ≤ c → IsClosed ps b t → IsClosed ps c t
within h c = closed_more h (omega arith) c

tested_calm : (k : Keyword) {e : Expr} → IsPlain (symbol.Keyword k) → (i : IsPrintable e) → IsCalm (tested k e) (1 + (expr_room i).brackets) (3 + (expr_room i).tokens)
tested_calm k {e = e} h i =
    let both : IsCalm (tested k e) (1 + (expr_room i).brackets) (1 + (2 + (expr_room i).tokens)) = calm_before _ (before_calm k h) (calm_within round (expr_calm i)) in
    calm_more (omega arith) (omega arith) both

plain_while : IsPlain (symbol.Keyword keyword.While)
plain_while = record { brackets = λ o. refl; tokens = λ n. refl; words = refl }

tested_closed : (k : Keyword) {e : Expr} {us : List Piece} {b t : ℕ} → IsPlain (symbol.Keyword k) → (i : IsPrintable e) → 1 + (expr_room i).brackets ≤ b → IsClosed us b t → IsClosed (tested k e ++ Piece.blank ∷ us) b (3 + ((expr_room i).tokens + t))
tested_closed k {e = e} {us = us} {b = b} {t = t} h i l c =
    let both : IsClosed (tested k e ++ Piece.blank ∷ us) b ((3 + (expr_room i).tokens) + t) = closed_behind (calm_more l (omega arith) (tested_calm k h i)) (closed_blank c) in
    closed_more (omega arith) (omega arith) both

do_shape : (us ts : List Piece) → (Piece.word keyword.Do ∷ Piece.blank ∷ []) ++ (us ++ ((Piece.blank ∷ ts) ++ semicolon)) ≡ (Piece.word keyword.Do ∷ Piece.blank ∷ us ++ Piece.blank ∷ ts) ++ semicolon
do_shape us ts = simp append_assoc

do_closed : {e : Expr} {us : List Piece} {b t : ℕ} (i : IsPrintable e) → 1 + (expr_room i).brackets ≤ b → 3 + (expr_room i).tokens ≤ 2048 → IsClosed us b t → IsClosed ((Piece.word keyword.Do ∷ Piece.blank ∷ us ++ Piece.blank ∷ tested keyword.While e) ++ semicolon) b (1 + t)
do_closed {e = e} {us = us} {b = b} {t = t} i l h c = subst (λ vs. IsClosed vs b (1 + t)) (do_shape us (tested keyword.While e))
    (closed_behind (calm_more (omega arith) (omega arith) (before_calm keyword.Do (record { brackets = λ o. refl; tokens = λ n. refl; words = refl }))) (closed_then h c (closed_semicolon (calm_blank (calm_more l (omega arith) (tested_calm keyword.While plain_while i))))))

label_closed : (x : List ℕ) {us : List Piece} {b t : ℕ} → IsClosed us b t → IsClosed (Piece.name x ∷ Piece.mark symbol.Colon ∷ Piece.blank ∷ us) b (2 + t)
label_closed x {us = us} {b = b} {t = t} c =
    let front : IsCalm (Piece.name x ∷ Piece.mark symbol.Colon ∷ Piece.blank ∷ []) 0 (1 + (1 + 0)) = calm_before 0 (calm_name x) (calm_before 0 (calm_mark symbol.Colon plain_colon) (calm_blank calm_nothing)) in
    let both : IsClosed (Piece.name x ∷ Piece.mark symbol.Colon ∷ Piece.blank ∷ us) b ((1 + (1 + 0)) + t) = closed_behind (calm_more (omega arith) (omega arith) front) c in
    closed_more (omega arith) (omega arith) both

mutual
  stmt_closed : {s : Stmt} {o : Bool} (b : ℕ) (d : IsPrintableStmt s o) → HasRoom b d → (n : ℕ) → IsClosed (whole (layout s) n) b (first_run d)
  stmt_closed b (IsPrintableStmt.empty {at = at}) r n = simply_closed _ (f.layout_empty at) (calm_more (omega arith) (omega arith) calm_nothing) n
  stmt_closed zero (IsPrintableStmt.block d) r n = absurd r
  stmt_closed (suc b) (IsPrintableStmt.block {at = at} {ss = ss} d) r n = subst (λ w. IsClosed (whole w n) (suc b) 0) (sym (f.layout_block at ss)) (closed_more (omega arith) (omega arith) (closed_braces n (body_runs b d r (suc n))))
  stmt_closed b (IsPrintableStmt.assignment {at = at} i) r n = within r (assignment_closed at i n)
  stmt_closed b (IsPrintableStmt.action {at = at} i) r n = within r (action_closed at i n)
  stmt_closed b (IsPrintableStmt.when {at = at} {e = e} {s = s} i d) r n = subst (λ w. IsClosed (whole w n) b (3 + ((expr_room i).tokens + first_run d))) (sym (f.layout_choose at e s None))
      (tested_closed keyword.If (record { brackets = λ o. refl; tokens = λ n. refl; words = refl }) i r.0 (subst (λ us. IsClosed us b (first_run d)) (sym (append-nil (whole (layout s) n))) (stmt_closed b d r.1 n)))
  stmt_closed b (IsPrintableStmt.choose i c d) r n = absurd r
  stmt_closed b (IsPrintableStmt.while {at = at} {e = e} {s = s} i d) r n = subst (λ w. IsClosed (whole w n) b (3 + ((expr_room i).tokens + first_run d))) (sym (f.layout_while at e s)) (tested_closed keyword.While plain_while i r.0 (stmt_closed b d r.1 n))
  stmt_closed b (IsPrintableStmt.do_while {at = at} {e = e} {s = s} i d) r n = subst (λ w. IsClosed (whole w n) b (1 + first_run d)) (sym (f.layout_do_while at s e)) (do_closed i r.0 r.1 (stmt_closed b d r.2 n))
  stmt_closed b (IsPrintableStmt.for i j k d) r n = absurd r
  stmt_closed b (IsPrintableStmt.break {at = at}) r n = simply_closed _ (f.layout_break at) (calm_more (omega arith) (omega arith) (calm_word keyword.Break (record { brackets = λ o. refl; tokens = λ n. refl; words = refl }))) n
  stmt_closed b (IsPrintableStmt.continue {at = at}) r n = simply_closed _ (f.layout_continue at) (calm_more (omega arith) (omega arith) (calm_word keyword.Continue (record { brackets = λ o. refl; tokens = λ n. refl; words = refl }))) n
  stmt_closed b (IsPrintableStmt.return {at = at} i) r n = within r (return_closed at i n)
  stmt_closed b (IsPrintableStmt.goto {at = at} {p = p} {x = x} h) r n = simply_closed _ (f.layout_goto at (word p x)) (calm_more (omega arith) (omega arith) (calm_before 0 (before_calm keyword.Goto (record { brackets = λ o. refl; tokens = λ n. refl; words = refl })) (calm_name x))) n
  stmt_closed b (IsPrintableStmt.label {at = at} {p = p} {x = x} {s = s} h d) r n = subst (λ w. IsClosed (whole w n) b (2 + first_run d)) (sym (f.layout_label at (word p x) s)) (label_closed x (stmt_closed b d r n))

  body_runs : {ss : List Stmt} (b : ℕ) (d : IsPrintableBody ss) → BodyHasRoom b d → (n : ℕ) → Runs (lines n (map layout ss)) b
  body_runs b IsPrintableBody.none r n = run_nothing
  body_runs b (IsPrintableBody.declaration {at = at} i ds) r n = run_more n r.1 (within r.0 (declaration_closed at i n)) (body_runs b ds r.2 n)
  body_runs b (IsPrintableBody.further d ds) r n = run_more n r.0 (stmt_closed b d r.1 n) (body_runs b ds r.2 n)

-- ---- items

const_calm : (e : Expr) → IsPrintableConst e → IsCalm (expr_pieces e) 0 2
const_calm e (IsPrintableConst.number i) = calm_more (omega arith) (omega arith) (expr_calm (IsPrintable.number i))
const_calm e (IsPrintableConst.negated {at = at} {n = n} h) = subst (λ (w : Written). IsCalm w.pieces 0 2) (sym (written_number at (negsuc n))) (calm_before 0 (calm_mark (symbol.Operator binary.Sub) (plain_operator binary.Sub)) (calm_number (suc n)))

init_calm : {e : Expr} (i : IsPrintableInit e) → Fits (expr_pieces e) (init_room i)
init_calm (IsPrintableInit.constant {e = e} i) = const_calm e i
init_calm (IsPrintableInit.null {at = at}) = expr_calm (IsPrintable.null {at = at})
init_calm (IsPrintableInit.address {at = at} {p = p} h) = expr_calm (IsPrintable.address {at = at} {p = p} h)
init_calm (IsPrintableInit.element_address {at = at} {p = p} h i) = expr_calm (IsPrintable.element_address {at = at} {p = p} h (IsPrintable.number i))

length_calm : (n : ℕ) → IsCalm (length_pieces (Some (pos n))) 1 3
length_calm n = calm_subscript (calm_number n)

set_array_calm : (x : List ℕ) (n : ℕ) {es : List Expr} → OneOrMore IsPrintableConst es → IsCalm (Piece.name x ∷ (length_pieces (Some (pos n)) ++ spaced symbol.Assign (Piece.mark symbol.OpenBrace ∷ commas (map expr_pieces es) ++ Piece.mark symbol.CloseBrace ∷ []))) 1 5
set_array_calm x n {es = es} c = calm_before 1 (calm_name x) (calm_join (length_calm n) (calm_spaced plain_assign (calm_braces (omega arith) (calm_all expr_pieces 0 2 const_calm es c))))

global_calm : (g : Global) (i : IsPrintableGlobal g) → Fits (global_pieces g) (global_room i)
global_calm g (IsPrintableGlobal.variable {pointer = b} {x = x} h) = calm_before 0 (star_calm b) (calm_name x)
global_calm g (IsPrintableGlobal.set_variable {pointer = b} {x = x} h i) = calm_more (omega arith) (omega arith) (calm_before _ (star_calm b) (calm_before _ (calm_name x) (calm_spaced plain_assign (init_calm i))))
global_calm g (IsPrintableGlobal.array {x = x} {n = n} h i) =
    let none : IsCalm [] 1 0 = calm_more (omega arith) (omega arith) calm_nothing in
    calm_before 1 (calm_name x) (calm_join (length_calm n) none)
global_calm g (IsPrintableGlobal.set_array {x = x} {n = n} h i (OneOrMore.last c)) = set_array_calm x n (OneOrMore.last c)
global_calm g (IsPrintableGlobal.set_array {x = x} {n = n} h i (OneOrMore.more c cs)) = set_array_calm x n (OneOrMore.more c cs)

mutex_calm : (w : Word) → IsPrintableWord w → IsCalm (mutex_pieces w) 0 3
mutex_calm w h = calm_before 0 (calm_name w.name) (calm_spaced plain_assign (calm_word keyword.MutexInitializer (record { brackets = λ o. refl; tokens = λ n. refl; words = refl })))

-- a declaration of items
item_closed_by : {us : List Piece} {b t : ℕ} → b ≤ 512 → IsCalm us b t → IsClosed (us ++ semicolon) 512 t
item_closed_by h c = within h (closed_semicolon c)

plain_word : (kind : Gives) → IsPlain (symbol.Keyword (param_word kind))
plain_word gives.Int = plain_int
plain_word gives.Pointer = plain_int
plain_word gives.Nothing = plain_int
plain_word gives.Thread = record { brackets = λ o. refl; tokens = λ n. refl; words = refl }

plain_void : IsPlain (symbol.Keyword keyword.Void)
plain_void = record { brackets = λ o. refl; tokens = λ n. refl; words = refl }

param_calm : (kind : Gives) (a : Param) → IsPrintableParam a → IsCalm (param_pieces kind a) 0 3
param_calm kind a h = calm_before 0 (before_calm (param_word kind) (plain_word kind)) (calm_before 0 (star_calm a.pointer) (calm_name a.name.name))

params_calm : (kind : Gives) {xs : List Param} → OneOrMore IsPrintableParam xs → IsCalm (params_pieces kind xs) 0 3
params_calm kind (OneOrMore.last {a = a} h) = calm_all (param_pieces kind) 0 3 (param_calm kind) (a ∷ []) (OneOrMore.last {a = a} h)
params_calm kind (OneOrMore.more {a = a} {b = b} {xs = xs} h hs) = calm_all (param_pieces kind) 0 3 (param_calm kind) (a ∷ b ∷ xs) (OneOrMore.more {a = a} {b = b} {xs = xs} h hs)

gives_calm : (kind : Gives) → IsCalm (gives_pieces kind) 0 2
gives_calm gives.Int = calm_more (omega arith) (omega arith) (before_calm keyword.Int plain_int)
gives_calm gives.Pointer = calm_before 0 (before_calm keyword.Int plain_int) (calm_mark (symbol.Operator binary.Mul) (plain_operator binary.Mul))
gives_calm gives.Nothing = calm_more (omega arith) (omega arith) (before_calm keyword.Void plain_void)
gives_calm gives.Thread = calm_before 0 (before_calm keyword.Void plain_void) (calm_mark (symbol.Operator binary.Mul) (plain_operator binary.Mul))

function_shape : (gs : List Piece) (x : List ℕ) (us bs : List Piece) → gs ++ (called (Piece.name x) us ++ (Piece.blank ∷ bs)) ≡ gs ++ Piece.name x ∷ Piece.mark symbol.Open ∷ us ++ Piece.mark symbol.Close ∷ Piece.blank ∷ bs
function_shape gs x us bs = simp append_assoc

function_closed : (kind : Gives) (x : List ℕ) {us : List Piece} {ss : List Stmt} → IsCalm us 0 3 → (d : IsPrintableBody ss) → BodyHasRoom 511 d → IsClosed (gives_pieces kind ++ Piece.name x ∷ Piece.mark symbol.Open ∷ us ++ Piece.mark symbol.Close ∷ Piece.blank ∷ braces 0 (map layout ss)) 512 2048
function_closed kind x {us = us} {ss = ss} c d r =
    let front : IsCalm (gives_pieces kind) 512 2 = calm_more (omega arith) (omega arith) (gives_calm kind) in
    let params : IsCalm (called (Piece.name x) us) 512 6 = calm_more (omega arith) (omega arith) (calm_called (Piece.name x) (calm_name x) c) in
    let body : IsClosed (Piece.blank ∷ braces 0 (map layout ss)) 512 0 = closed_blank (closed_braces 0 (body_runs 511 d r 1)) in
    let whole : IsClosed (gives_pieces kind ++ (called (Piece.name x) us ++ (Piece.blank ∷ braces 0 (map layout ss)))) 512 (2 + (6 + 0)) = closed_behind front (closed_behind params body) in
    subst (λ vs. IsClosed vs 512 2048) (function_shape (gives_pieces kind) x us (braces 0 (map layout ss))) (closed_more (omega arith) (omega arith) whole)

item_closed : {i : Item} (p : IsPrintableItem i) → ItemHasRoom p → IsClosed (item_pieces i) 512 2048
item_closed (IsPrintableItem.globals {gs = gs} h) r = closed_more (omega arith) r.1 (item_closed_by r.0 (declared_calm keyword.Int plain_int (map global_pieces gs) (calm_list global_pieces (λ g i. global_room i) global_calm gs h)))
item_closed (IsPrintableItem.mutexes {ws = ws} h) r = closed_more (omega arith) (omega arith) (item_closed_by (omega arith) (declared_calm keyword.Mutex (record { brackets = λ o. refl; tokens = λ n. refl; words = refl }) (map mutex_pieces ws) (calm_all mutex_pieces 0 3 mutex_calm ws h)))
item_closed (IsPrintableItem.threads {ws = ws} h) r = closed_more (omega arith) (omega arith) (item_closed_by (omega arith) (declared_calm keyword.Thread plain_thread (map name_pieces ws) (names_calm h)))
item_closed (IsPrintableItem.input {x = x} h) r = closed_more (omega arith) (omega arith) (item_closed_by (omega arith) (calm_before 1 (before_calm keyword.Int plain_int) (calm_called (Piece.name x) (calm_name x) calm_nothing)))
item_closed (IsPrintableItem.bare_function {kind = kind} {x = x} h d) r = function_closed kind x (calm_more (omega arith) (omega arith) (calm_word keyword.Void plain_void)) d r
item_closed (IsPrintableItem.function {kind = kind} {x = x} o h a d) r = function_closed kind x (params_calm kind a) d r
item_closed (IsPrintableItem.thread_function {p = p} {x = x} {y = y} h i d) r = function_closed gives.Thread x (params_calm gives.Thread (OneOrMore.last {a = param true p y} i)) d r

items_run : (is : List Item) → ByRecursion IsRoomy is → Runs (items_pieces is) 512
items_run [] h = run_nothing
items_run (i ∷ is) h = run_items 0 (omega arith) (item_closed h.0.printable h.0.room) (items_run is h.1)

pub roomy_is_shallow : (is : List Item) → ByRecursion IsRoomy is → (ps : List At) → deep_at Output (laid ps (signs (items_pieces is))) ≡ None
roomy_is_shallow is h ps = run_is_shallow (omega arith) (items_run is h) ps
