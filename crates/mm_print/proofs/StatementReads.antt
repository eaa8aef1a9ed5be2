-- The pieces of a printable statement are tokens, and are read as the statement.
use Rattle.std.proofs.Common.{◌≡◌, ℕ, ◌&&◌, Bool, true, false, List, [], ◌∷◌, ◌++◌, map, Option, Some, None, refl, sym, ap, subst, append_assoc, lit<}
use Rattle.mm_goto.specs.declared.ident.At.{At}
use Rattle.mm_goto.specs.declared.pure.Binary.{Binary}
use Rattle.mm_tree.specs.declared.expr.Expr.{Expr}
use Rattle.mm_tree.specs.declared.stmt.Left.{Left}
use Rattle.mm_tree.specs.declared.stmt.LeftNode.{LeftNode}
use Rattle.mm_tree.specs.declared.stmt.Stmt.{Stmt}
use Rattle.mm_tree.specs.declared.stmt.StmtNode.{StmtNode}
use Rattle.mm_tree.specs.declared.stmt.StmtNode.TheVariants as stmt
use Rattle.mm_tree.specs.declared.stmt.Value.{Value}
use Rattle.mm_tree.specs.Trees.{word, left_at, statement}
use Rattle.mm_tree.specs.Places.{bare_stmt}
use Rattle.mm_parse_expr.specs.declared.symbol.Keyword.{Keyword}
use Rattle.mm_parse_expr.specs.declared.symbol.Keyword.TheVariants as keyword
use Rattle.mm_parse_expr.specs.declared.symbol.Symbol.{Symbol}
use Rattle.mm_parse_expr.specs.declared.symbol.Symbol.TheVariants as symbol
use Rattle.mm_parse_expr.specs.declared.terminal.Terminal.{Terminal}
use Rattle.mm_grammar.specs.StatementGrammar as g
use Rattle.mm_grammar.specs.StatementGrammar.{is_no_else, NoElse, IsLeft, IsCall, IsValue, AreLocals, AreNames, IsAssign, IsAction, IsDeclaration, IsStep, IsFirst, IsStmt, IsStmtNode, IsBody}
use Rattle.mm_parse_expr.specs.Grammar.{terminal}
use Rattle.mm_print.specs.Pieces.{Piece, keyword_text, commas, called, spaced}
use Rattle.mm_print.specs.Expressions.{expr_pieces, address}
use Rattle.mm_print.specs.Statements.{Layout, layout, simply, whole, declared, left_pieces, value_pieces, local_pieces, name_pieces, zero_argument}
use Rattle.mm_print.specs.Printable.{updates, IsPrintableName, IsPrintableText, IsPrintable, IsPrintableLeft, IsPrintableCall, IsPrintableValue, IsPrintableGiven, IsPrintableDeclaration, IsPrintableAssignment, IsPrintableAction}
use Rattle.mm_print.proofs.Signs.{laid, first, behind as past}
use Rattle.mm_print.proofs.Spelling.{Fit, ends_word, signs}
use Rattle.mm_print.proofs.Reading.{Line, Read, behind, comma_front}
use Rattle.mm_print.proofs.PartReads.{whole_expr, call_reads, value_reads, left_reads, locals_read, names_read}
use Rattle.mm_print.proofs.StatementForms as f

-- ---- what a statement begins with

-- the first terminal, which is no else
pub record Begins (ts : List Terminal) : Type 0 where
  pub begin : Terminal
  pub others : List Terminal
  pub shape : ts ≡ begin ∷ others
  pub no_else : is_no_else begin.symbol

left_begins : {ts rest : List Terminal} {l : Left} → IsLeft ts l rest → Begins ts
left_begins g.name = record { begin = _; others = _; shape = refl; no_else = tt }
left_begins (g.element d) = record { begin = _; others = _; shape = refl; no_else = tt }
left_begins (g.pointee d) = record { begin = _; others = _; shape = refl; no_else = tt }
left_begins (g.group d) = record { begin = _; others = _; shape = refl; no_else = tt }

pub assign_begins : {ts rest : List Terminal} {n : StmtNode} → IsAssign ts n rest → Begins ts
assign_begins (g.assign d v) = left_begins d
assign_begins (g.update d v) = left_begins d
assign_begins (g.increment d) = left_begins d
assign_begins (g.decrement d) = left_begins d
assign_begins (g.increment_before d) = record { begin = _; others = _; shape = refl; no_else = tt }
assign_begins (g.decrement_before d) = record { begin = _; others = _; shape = refl; no_else = tt }

call_begins : {ts rest : List Terminal} {v : Value} → IsCall ts v rest → Begins ts
call_begins g.bare_call = record { begin = _; others = _; shape = refl; no_else = tt }
call_begins (g.full_call d) = record { begin = _; others = _; shape = refl; no_else = tt }
call_begins (g.fetch_add d h) = record { begin = _; others = _; shape = refl; no_else = tt }
call_begins (g.compare_swap d h i) = record { begin = _; others = _; shape = refl; no_else = tt }

action_begins : {ts rest : List Terminal} {n : StmtNode} → IsAction ts n rest → Begins ts
action_begins (g.effect d) = call_begins d
action_begins (g.assert d) = record { begin = _; others = _; shape = refl; no_else = tt }
action_begins (g.named_assert d) = record { begin = _; others = _; shape = refl; no_else = tt }
action_begins (g.assume d) = record { begin = _; others = _; shape = refl; no_else = tt }
action_begins g.fence = record { begin = _; others = _; shape = refl; no_else = tt }
action_begins g.lock = record { begin = _; others = _; shape = refl; no_else = tt }
action_begins g.unlock = record { begin = _; others = _; shape = refl; no_else = tt }
action_begins (g.start d h) = record { begin = _; others = _; shape = refl; no_else = tt }
action_begins (g.join d) = record { begin = _; others = _; shape = refl; no_else = tt }
action_begins g.atom_begin = record { begin = _; others = _; shape = refl; no_else = tt }
action_begins g.atom_end = record { begin = _; others = _; shape = refl; no_else = tt }

pub declaration_begins : {ts rest : List Terminal} {n : StmtNode} → IsDeclaration ts n rest → Begins ts
declaration_begins (g.ints d) = record { begin = _; others = _; shape = refl; no_else = tt }
declaration_begins (g.volatile_ints d) = record { begin = _; others = _; shape = refl; no_else = tt }
declaration_begins (g.threads d) = record { begin = _; others = _; shape = refl; no_else = tt }

pub no_else_first : {ts : List Terminal} → Begins ts → NoElse ts
no_else_first b = subst NoElse (sym b.shape) b.no_else

-- ---- reading, at any places

-- no else stands in front, wherever it stands
abbrev pub HasNoElse : List Piece → Type 0
HasNoElse us = (ps : List At) → NoElse (laid ps (signs us))

-- what may stand behind a statement: no else if that would belong to an if that it ends with
abbrev pub MayFollow : Bool → List Piece → Type 0
MayFollow true rest = HasNoElse rest
MayFollow false rest = Unit {0}

pub follows : (o : Bool) (rest : List Piece) → HasNoElse rest → MayFollow o rest
follows true rest h = h
follows false rest h = tt

-- in front of any others these pieces are tokens, do not begin with else, and are read as the statement
pub record StmtReads (s : Stmt) (open_if : Bool) (w : Layout) : Type 0 where
  pub fit : (n : ℕ) (rest : List Piece) → Fit rest → Fit (whole w n ++ rest)
  pub no_else : (n : ℕ) (rest : List Piece) → HasNoElse (whole w n ++ rest)
  pub read : (n : ℕ) (ps : List At) (rest : List Piece) → MayFollow open_if rest → Read bare_stmt IsStmt ps (whole w n ++ rest) rest s

-- a node by itself: at any place its statement is the same but for places
pub record NodeRead (L : Line StmtNode) (ps : List At) (front rest : List Piece) (m : StmtNode) : Type 0 where
  pub tree : StmtNode
  pub left : List At
  pub parsed : L (laid ps (signs front)) tree (laid left (signs rest))
  pub same : (p q : At) → bare_stmt (statement p tree) ≡ bare_stmt (statement q m)

-- these pieces, in front of what ends a word
pub record NodeReads (L : Line StmtNode) (m : StmtNode) (us : List Piece) : Type 0 where
  pub fit : (rest : List Piece) → ends_word rest ≡ true → Fit rest → Fit (us ++ rest)
  pub read : (ps : List At) (rest : List Piece) → NodeRead L ps (us ++ rest) rest m

-- the pieces of a node whose statement is simple
pub record Simple (L : Line StmtNode) (m : StmtNode) : Type 0 where
  pub pieces : List Piece
  pub laid_out : (at : At) → layout (statement at m) ≡ simply pieces
  pub reads : NodeReads L m pieces

abbrev pub ended : List Piece → List Piece
ended rest = Piece.mark symbol.Semicolon ∷ rest

-- a statement stands at its first terminal
at_first : {m : StmtNode} (ps : List At) (front rest : List Piece) (at : At) → Begins (laid ps (signs front)) → NodeRead IsStmtNode ps front rest m → Read bare_stmt IsStmt ps front rest (statement at m)
at_first {m = m} ps front rest at b r = record {
  tree = statement b.begin.at r.tree;
  left = r.left;
  parsed = subst (λ us. IsStmt us (statement b.begin.at r.tree) (laid r.left (signs rest))) (sym b.shape)
      (g.at_first (subst (λ us. IsStmtNode us r.tree (laid r.left (signs rest))) b.shape r.parsed));
  same = r.same b.begin.at at;
}

-- ---- assignments

spaced_front : (us vs rest : List Piece) (s : Symbol) → us ++ spaced s (vs ++ rest) ≡ (us ++ spaced s vs) ++ rest
spaced_front us vs rest s = sym (append_assoc us (spaced s vs) rest)

assign_simple : (p : At) {l : LeftNode} {v : Value} → IsPrintableLeft l → IsPrintableValue v → Simple IsAssign (stmt.Assign (left_at p l) v)
assign_simple p {l = l} {v = v} i j = record {
  pieces = left_pieces l ++ spaced symbol.Assign (value_pieces v);
  laid_out = λ at. f.layout_assign at (left_at p l) v;
  reads = record {
    fit = λ rest k h. subst Fit (spaced_front (left_pieces l) (value_pieces v) rest symbol.Assign) ((left_reads p i).fit (spaced symbol.Assign (value_pieces v ++ rest)) refl (tt, refl, (tt, refl, (tt, refl, (value_reads j).fit rest k h))));
    read = λ ps rest. subst (λ us. NodeRead IsAssign ps us rest (stmt.Assign (left_at p l) v)) (spaced_front (left_pieces l) (value_pieces v) rest symbol.Assign)
        (let a = (left_reads p i).read ps (spaced symbol.Assign (value_pieces v ++ rest)) in
        let b = (value_reads j).read (past a.left) rest in
        record { tree = _; left = b.left; parsed = g.assign a.parsed b.parsed; same = λ q r. f.bare_assign q r a.tree (left_at p l) b.tree v a.same b.same });
  };
}

update_simple : (p : At) (op : Binary) {l : LeftNode} {e : Expr} → IsPrintableLeft l → updates op ≡ true → IsPrintable e → Simple IsAssign (stmt.Update (left_at p l) op e)
update_simple p op {l = l} {e = e} i u j = record {
  pieces = left_pieces l ++ spaced (symbol.Update op) (expr_pieces e);
  laid_out = λ at. f.layout_update at (left_at p l) op e;
  reads = record {
    fit = λ rest k h. subst Fit (spaced_front (left_pieces l) (expr_pieces e) rest (symbol.Update op)) ((left_reads p i).fit (spaced (symbol.Update op) (expr_pieces e ++ rest)) refl (tt, refl, (tt, ap (λ b. b && true) u, (tt, refl, (whole_expr j).fit rest k h))));
    read = λ ps rest. subst (λ us. NodeRead IsAssign ps us rest (stmt.Update (left_at p l) op e)) (spaced_front (left_pieces l) (expr_pieces e) rest (symbol.Update op))
        (let a = (left_reads p i).read ps (spaced (symbol.Update op) (expr_pieces e ++ rest)) in
        let b = (whole_expr j).read (past a.left) rest in
        record { tree = _; left = b.left; parsed = g.update a.parsed b.parsed; same = λ q r. f.bare_update q r a.tree (left_at p l) op b.tree e a.same b.same });
  };
}

pub assignment_simple : {m : StmtNode} → IsPrintableAssignment m → Simple IsAssign m
assignment_simple (IsPrintableAssignment.assign {p = p} i j) = assign_simple p i j
assignment_simple (IsPrintableAssignment.update {p = p} {op = op} i u j) = update_simple p op i u j

-- ---- declarations

-- a line of the grammar that goes on to a semicolon
abbrev pub Until : Line StmtNode → Line StmtNode
Until L ts m us = (p : At) (x : List ℕ) (rest : List Terminal) → us ≡ terminal symbol.Semicolon p x ∷ rest → L ts m rest

pub declaration_simple : {m : StmtNode} → IsPrintableDeclaration m → Simple (Until IsDeclaration) m
declaration_simple (IsPrintableDeclaration.ints {ls = ls} i) = record {
  pieces = declared keyword.Int (map local_pieces ls);
  laid_out = λ at. f.layout_declare at ls;
  reads = record {
    fit = λ rest k h. (tt, refl, (tt, refl, (locals_read i).fit rest k h));
    read = λ ps rest.
        let r = (locals_read i).read (past ps) rest in
        record { tree = stmt.Declare r.tree; left = r.left; parsed = λ p x us e. g.ints (subst (λ vs. AreLocals (laid (past ps) (signs (commas (map local_pieces ls) ++ rest))) r.tree vs) e r.parsed); same = λ q o. f.bare_declare q o r.tree ls r.same };
  };
}
declaration_simple (IsPrintableDeclaration.threads {ws = ws} i) = record {
  pieces = declared keyword.Thread (map name_pieces ws);
  laid_out = λ at. f.layout_declare_thread at ws;
  reads = record {
    fit = λ rest k h. (tt, refl, (tt, refl, (names_read i).fit rest k h));
    read = λ ps rest.
        let r = (names_read i).read (past ps) rest in
        record { tree = stmt.DeclareThread r.tree; left = r.left; parsed = λ p x us e. g.threads (subst (λ vs. AreNames (laid (past ps) (signs (commas (map name_pieces ws) ++ rest))) r.tree vs) e r.parsed); same = λ q o. f.bare_declare_thread q o r.tree ws r.same };
  };
}

-- ---- actions

called_front : (k : Keyword) (us rest : List Piece) → Piece.word k ∷ Piece.mark symbol.Open ∷ (us ++ (Piece.mark symbol.Close ∷ rest)) ≡ called (Piece.word k) us ++ rest
called_front k us rest = ap (λ vs. Piece.word k ∷ Piece.mark symbol.Open ∷ vs) (behind us rest symbol.Close)

action_simple : (k : Keyword) (us : List Piece) {m : StmtNode} → ((at : At) → layout (statement at m) ≡ simply (called (Piece.word k) us)) → ((rest : List Piece) → Fit rest → Fit (us ++ (Piece.mark symbol.Close ∷ rest))) → ((ps : List At) (rest : List Piece) → NodeRead IsAction ps (Piece.word k ∷ Piece.mark symbol.Open ∷ (us ++ (Piece.mark symbol.Close ∷ rest))) rest m) → Simple IsAction m
action_simple k us {m = m} e fit read = record {
  pieces = called (Piece.word k) us;
  laid_out = e;
  reads = record {
    fit = λ rest o h. subst Fit (called_front k us rest) (tt, refl, (tt, refl, fit rest h));
    read = λ ps rest. subst (λ vs. NodeRead IsAction ps vs rest m) (called_front k us rest) (read ps rest);
  };
}

-- a word with nothing in its parentheses
bare_action : (k : Keyword) {m : StmtNode} → ((at : At) → layout (statement at m) ≡ simply (called (Piece.word k) [])) → ((p q r : At) (x y z : List ℕ) (rest : List Terminal) → IsAction (terminal (symbol.Keyword k) p x ∷ terminal symbol.Open q y ∷ terminal symbol.Close r z ∷ rest) m rest) → ((p q : At) → bare_stmt (statement p m) ≡ bare_stmt (statement q m)) → Simple IsAction m
bare_action k {m = m} e d same = action_simple k [] e (λ rest h. (tt, refl, h)) (λ ps rest. record { tree = m; left = past (past (past ps)); parsed = d _ _ _ _ _ _ _; same = same })

start_action : (p q : At) (x y : List ℕ) → IsPrintableName x → IsPrintableName y → Simple IsAction (stmt.Start (word p x) (word q y))
start_action p q x y h i = action_simple keyword.Create (commas (address x ∷ zero_argument ∷ (Piece.name y ∷ []) ∷ zero_argument ∷ [])) (λ at. f.layout_start at (word p x) (word q y))
    (λ rest j. (tt, refl, (h, refl, (tt, refl, (tt, refl, (lit< tt, refl, (tt, refl, (tt, refl, (i, refl, (tt, refl, (tt, refl, (lit< tt, refl, (tt, refl, j)))))))))))))
    (λ ps rest. record { tree = _; left = past (past (past (past (past (past (past (past (past (past (past ps)))))))))); parsed = g.start g.null_number g.null_number; same = λ a b. f.bare_start a b _ (word p x) _ (word q y) refl refl })

named_assert_action : {e : Expr} (x : List ℕ) → IsPrintable e → IsPrintableText x → Simple IsAction (stmt.Assert e (Some x))
named_assert_action {e = e} x i t = action_simple keyword.ProverAssert (commas (expr_pieces e ∷ (Piece.quoted x ∷ []) ∷ [])) (λ at. f.layout_assert at e (Some x))
    (λ rest h. subst Fit (comma_front (expr_pieces e) (Piece.quoted x ∷ []) (Piece.mark symbol.Close ∷ rest)) ((whole_expr i).fit (Piece.mark symbol.Comma ∷ Piece.blank ∷ Piece.quoted x ∷ Piece.mark symbol.Close ∷ rest) refl (tt, refl, (tt, refl, (t, refl, (tt, refl, h))))))
    (λ ps rest. subst (λ us. NodeRead IsAction ps (Piece.word keyword.ProverAssert ∷ Piece.mark symbol.Open ∷ us) rest (stmt.Assert e (Some x))) (comma_front (expr_pieces e) (Piece.quoted x ∷ []) (Piece.mark symbol.Close ∷ rest))
    (let r = (whole_expr i).read (past (past ps)) (Piece.mark symbol.Comma ∷ Piece.blank ∷ Piece.quoted x ∷ Piece.mark symbol.Close ∷ rest) in
    record { tree = _; left = past (past (past r.left)); parsed = g.named_assert r.parsed; same = λ p q. f.bare_assert p q r.tree e (Some x) r.same }))

effect_action : {v : Value} → IsPrintableCall v → Simple IsAction (stmt.Do v)
effect_action {v = v} i = record {
  pieces = value_pieces v;
  laid_out = λ at. f.layout_effect at v;
  reads = record {
    fit = (call_reads i).fit;
    read = λ ps rest. let r = (call_reads i).read ps rest in record { tree = stmt.Do r.tree; left = r.left; parsed = g.effect r.parsed; same = λ p q. f.bare_effect p q r.tree v r.same };
  };
}

actions_simple : {m : StmtNode} → IsPrintableAction m → Simple IsAction m
actions_simple (IsPrintableAction.effect i) = effect_action i
actions_simple (IsPrintableAction.assert {e = e} i) = action_simple keyword.Assert (expr_pieces e) (λ at. f.layout_assert at e None)
    (λ rest h. (whole_expr i).fit (Piece.mark symbol.Close ∷ rest) refl (tt, refl, h))
    (λ ps rest. let r = (whole_expr i).read (past (past ps)) (Piece.mark symbol.Close ∷ rest) in record { tree = _; left = past r.left; parsed = g.assert r.parsed; same = λ p q. f.bare_assert p q r.tree e None r.same })
actions_simple (IsPrintableAction.named_assert {x = x} i t) = named_assert_action x i t
actions_simple (IsPrintableAction.assume {e = e} i) = action_simple keyword.Assume (expr_pieces e) (λ at. f.layout_assume at e)
    (λ rest h. (whole_expr i).fit (Piece.mark symbol.Close ∷ rest) refl (tt, refl, h))
    (λ ps rest. let r = (whole_expr i).read (past (past ps)) (Piece.mark symbol.Close ∷ rest) in record { tree = _; left = past r.left; parsed = g.assume r.parsed; same = λ p q. f.bare_assume p q r.tree e r.same })
actions_simple IsPrintableAction.fence = bare_action keyword.Synchronize (λ at. f.layout_fence at) (λ p q r x y z rest. g.fence) f.bare_fence
actions_simple (IsPrintableAction.lock {p = p} {x = x} h) = action_simple keyword.Lock (address x) (λ at. f.layout_lock at (word p x))
    (λ rest i. (tt, refl, (h, refl, (tt, refl, i))))
    (λ ps rest. record { tree = _; left = past (past (past (past (past ps)))); parsed = g.lock; same = λ a b. f.bare_lock a b _ (word p x) refl })
actions_simple (IsPrintableAction.unlock {p = p} {x = x} h) = action_simple keyword.Unlock (address x) (λ at. f.layout_unlock at (word p x))
    (λ rest i. (tt, refl, (h, refl, (tt, refl, i))))
    (λ ps rest. record { tree = _; left = past (past (past (past (past ps)))); parsed = g.unlock; same = λ a b. f.bare_unlock a b _ (word p x) refl })
actions_simple (IsPrintableAction.start {p = p} {q = q} {x = x} {y = y} h i) = start_action p q x y h i
actions_simple (IsPrintableAction.join {p = p} {x = x} h) = action_simple keyword.Join (commas ((Piece.name x ∷ []) ∷ zero_argument ∷ [])) (λ at. f.layout_join at (word p x))
    (λ rest i. (h, refl, (tt, refl, (tt, refl, (lit< tt, refl, (tt, refl, i))))))
    (λ ps rest. record { tree = _; left = past (past (past (past (past (past ps))))); parsed = g.join g.null_number; same = λ a b. f.bare_join a b _ (word p x) refl })
actions_simple IsPrintableAction.atom_begin = bare_action keyword.AtomicBegin (λ at. f.layout_atom_begin at) (λ p q r x y z rest. g.atom_begin) f.bare_atom_begin
actions_simple IsPrintableAction.atom_end = bare_action keyword.AtomicEnd (λ at. f.layout_atom_end at) (λ p q r x y z rest. g.atom_end) f.bare_atom_end

-- ---- statements in one word

abbrev one_word : Keyword → List At → List Terminal → List Terminal
one_word k ps ts = terminal (symbol.Keyword k) (first ps) (keyword_text k) ∷ ts

empty_simple : Simple (Until IsStmtNode) stmt.Empty
empty_simple = record {
  pieces = [];
  laid_out = f.layout_empty;
  reads = record {
    fit = λ rest k h. h;
    read = λ ps rest. record { tree = stmt.Empty; left = ps; parsed = λ p x us e. subst (λ vs. IsStmtNode vs stmt.Empty us) (sym e) g.empty; same = f.bare_empty };
  };
}

word_simple : (k : Keyword) {m : StmtNode} → ((at : At) → layout (statement at m) ≡ simply (Piece.word k ∷ [])) → ((p q : At) (x y : List ℕ) (rest : List Terminal) → IsStmtNode (terminal (symbol.Keyword k) p x ∷ terminal symbol.Semicolon q y ∷ rest) m rest) → ((p q : At) → bare_stmt (statement p m) ≡ bare_stmt (statement q m)) → Simple (Until IsStmtNode) m
word_simple k {m = m} e d same = record {
  pieces = Piece.word k ∷ [];
  laid_out = e;
  reads = record {
    fit = λ rest o h. (tt, o, h);
    read = λ ps rest. record { tree = m; left = past ps; parsed = λ p x us e. subst (λ vs. IsStmtNode (one_word k ps vs) m us) (sym e) (d _ p _ x us); same = same };
  };
}

return_simple : {v : Option Value} → IsPrintableGiven v → Simple (Until IsStmtNode) (stmt.Return v)
return_simple IsPrintableGiven.none = word_simple keyword.Return (λ at. f.layout_return at None) (λ p q x y rest. g.return g.nothing) (λ p q. f.bare_return p q None None refl)
return_simple (IsPrintableGiven.some {v = v} i) = record {
  pieces = Piece.word keyword.Return ∷ Piece.blank ∷ value_pieces v;
  laid_out = λ at. f.layout_return at (Some v);
  reads = record {
    fit = λ rest k h. (tt, refl, (tt, refl, (value_reads i).fit rest k h));
    read = λ ps rest.
        let r = (value_reads i).read (past ps) rest in
        record { tree = _; left = r.left; parsed = λ p x us e. g.return (g.given (subst (λ vs. IsValue (laid (past ps) (signs (value_pieces v ++ rest))) r.tree vs) e r.parsed)); same = λ p q. f.bare_return p q (Some r.tree) (Some v) (ap (λ u. Some u) r.same) };
  };
}

goto_simple : (p : At) (x : List ℕ) → IsPrintableName x → Simple (Until IsStmtNode) (stmt.Goto (word p x))
goto_simple p x h = record {
  pieces = Piece.word keyword.Goto ∷ Piece.blank ∷ Piece.name x ∷ [];
  laid_out = λ at. f.layout_goto at (word p x);
  reads = record {
    fit = λ rest k i. (tt, refl, (tt, refl, (h, k, i)));
    read = λ ps rest. record { tree = stmt.Goto (word (first (past ps)) x); left = past (past ps); parsed = λ q y us e. subst (λ vs. IsStmtNode (one_word keyword.Goto ps (terminal symbol.Name (first (past ps)) x ∷ vs)) (stmt.Goto (word (first (past ps)) x)) us) (sym e) g.goto; same = λ a b. f.bare_goto a b _ (word p x) refl };
  };
}

-- ---- simple statements

simple_reads : {L : Line StmtNode} {m : StmtNode} (at : At) (s : Simple L m) → ((ts rest : List Terminal) (n : StmtNode) (p : At) (x : List ℕ) → L ts n (terminal symbol.Semicolon p x ∷ rest) → IsStmtNode ts n rest) → ((ps : List At) (rest : List Piece) → Begins (laid ps (signs (s.pieces ++ ended rest)))) → StmtReads (statement at m) false (layout (statement at m))
simple_reads {L = L} {m = m} at s node begins = subst (StmtReads (statement at m) false) (sym (s.laid_out at)) (record {
  fit = λ n rest h. subst Fit (behind s.pieces rest symbol.Semicolon) (s.reads.fit (ended rest) refl (tt, refl, h));
  no_else = λ n rest ps. subst (λ us. NoElse (laid ps (signs us))) (behind s.pieces rest symbol.Semicolon) (no_else_first (begins ps rest));
  read = λ n ps rest h. subst (λ us. Read bare_stmt IsStmt ps us rest (statement at m)) (behind s.pieces rest symbol.Semicolon)
      (let r = s.reads.read ps (ended rest) in
      at_first ps (s.pieces ++ ended rest) rest at (begins ps rest) (record { tree = r.tree; left = past r.left; parsed = node _ _ _ _ _ r.parsed; same = r.same }));
})

pub assignment_reads : {m : StmtNode} (at : At) → IsPrintableAssignment m → StmtReads (statement at m) false (layout (statement at m))
assignment_reads at i = let s = assignment_simple i in simple_reads at s (λ ts rest n p x d. g.assignment d) (λ ps rest. assign_begins (s.reads.read ps (ended rest)).parsed)

pub action_reads : {m : StmtNode} (at : At) → IsPrintableAction m → StmtReads (statement at m) false (layout (statement at m))
action_reads at i = let s = actions_simple i in simple_reads at s (λ ts rest n p x d. g.action d) (λ ps rest. action_begins (s.reads.read ps (ended rest)).parsed)

pub empty_reads : (at : At) → StmtReads (statement at stmt.Empty) false (layout (statement at stmt.Empty))
unfolding empty_simple
empty_reads at = simple_reads at empty_simple (λ ts rest n p x d. d p x rest refl) (λ ps rest. record { begin = _; others = _; shape = refl; no_else = tt })

pub break_reads : (at : At) → StmtReads (statement at stmt.Break) false (layout (statement at stmt.Break))
unfolding word_simple
break_reads at = simple_reads at (word_simple keyword.Break f.layout_break (λ p q x y rest. g.break) f.bare_break) (λ ts rest n p x d. d p x rest refl) (λ ps rest. record { begin = _; others = _; shape = refl; no_else = tt })

pub continue_reads : (at : At) → StmtReads (statement at stmt.Continue) false (layout (statement at stmt.Continue))
unfolding word_simple
continue_reads at = simple_reads at (word_simple keyword.Continue f.layout_continue (λ p q x y rest. g.continue) f.bare_continue) (λ ts rest n p x d. d p x rest refl) (λ ps rest. record { begin = _; others = _; shape = refl; no_else = tt })

pub goto_reads : (at p : At) (x : List ℕ) → IsPrintableName x → StmtReads (statement at (stmt.Goto (word p x))) false (layout (statement at (stmt.Goto (word p x))))
unfolding goto_simple
goto_reads at p x h = simple_reads at (goto_simple p x h) (λ ts rest n p x d. d p x rest refl) (λ ps rest. record { begin = _; others = _; shape = refl; no_else = tt })

pub return_reads : (at : At) {v : Option Value} → IsPrintableGiven v → StmtReads (statement at (stmt.Return v)) false (layout (statement at (stmt.Return v)))
unfolding return_simple word_simple
return_reads at IsPrintableGiven.none = simple_reads at (return_simple IsPrintableGiven.none) (λ ts rest n p x d. d p x rest refl) (λ ps rest. record { begin = _; others = _; shape = refl; no_else = tt })
return_reads at (IsPrintableGiven.some i) = simple_reads at (return_simple (IsPrintableGiven.some i)) (λ ts rest n p x d. d p x rest refl) (λ ps rest. record { begin = _; others = _; shape = refl; no_else = tt })
