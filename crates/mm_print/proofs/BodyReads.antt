-- The pieces of a statement with others in it, and of a block, are tokens, and are read as it.
use Rattle.std.proofs.Common.{◌≡◌, ℕ, suc, Bool, true, false, List, [], ◌∷◌, ◌++◌, map, Option, Some, None, refl, sym, ◌∙◌, ap, subst, append_assoc}
use Rattle.std.specs.Option.{option_map}
use Rattle.mm_goto.specs.declared.ident.At.{At}
use Rattle.mm_tree.specs.declared.expr.Expr.{Expr}
use Rattle.mm_tree.specs.declared.stmt.Stmt.{Stmt}
use Rattle.mm_tree.specs.declared.stmt.StmtNode.{StmtNode}
use Rattle.mm_tree.specs.declared.stmt.StmtNode.TheVariants as stmt
use Rattle.mm_tree.specs.declared.stmt.StmtNode.TheOpen as part
use Rattle.mm_tree.specs.Trees.{word, statement}
use Rattle.mm_tree.specs.Places.{bare_stmt}
use Rattle.mm_parse_expr.specs.declared.symbol.Keyword.{Keyword}
use Rattle.mm_parse_expr.specs.declared.symbol.Keyword.TheVariants as keyword
use Rattle.mm_parse_expr.specs.declared.symbol.Symbol.TheVariants as symbol
use Rattle.mm_parse_expr.specs.declared.terminal.Terminal.{Terminal}
use Rattle.mm_parse_expr.specs.Grammar.{terminal}
use Rattle.mm_grammar.specs.StatementGrammar as g
use Rattle.mm_grammar.specs.StatementGrammar.{NoElse, IsAssign, IsDeclaration, IsStep, IsFirst, IsStmt, IsBody}
use Rattle.mm_print.specs.Pieces.{Piece, semicolon}
use Rattle.mm_print.specs.Expressions.{expr_pieces}
use Rattle.mm_print.specs.Statements.{Layout, layout, layout_step, whole, lines, braces, tested, first_part, step_part, loop_head}
use Rattle.mm_print.specs.Printable.{IsPrintableName, IsPrintable, IsPrintableStep, IsPrintableFirst, IsPrintableStmt, IsPrintableBody}
use Rattle.mm_print.proofs.Signs.{laid, behind as past}
use Rattle.mm_print.proofs.Spelling.{Fit, signs}
use Rattle.mm_print.proofs.Reading.{Line, Read, Reads, behind, cons_same}
use Rattle.mm_print.proofs.PartReads.{whole_expr}
use Rattle.mm_print.proofs.StatementReads.{HasNoElse, follows, StmtReads, Until, Simple, ended, assign_begins, declaration_begins, no_else_first, assignment_simple, declaration_simple, assignment_reads, action_reads, empty_reads, break_reads, continue_reads, goto_reads, return_reads}
use Rattle.mm_print.proofs.StatementForms as f

-- ---- a condition in front

tested_front : (k : Keyword) (e : Expr) (us rest : List Piece) → Piece.word k ∷ Piece.blank ∷ Piece.mark symbol.Open ∷ (expr_pieces e ++ (Piece.mark symbol.Close ∷ (us ++ rest))) ≡ (tested k e ++ us) ++ rest
tested_front k e us rest = ap (λ vs. Piece.word k ∷ Piece.blank ∷ Piece.mark symbol.Open ∷ vs) (behind (expr_pieces e) (us ++ rest) symbol.Close) ∙ sym (append_assoc (tested k e) us rest)

-- what stands behind the condition is made of the statement and of more
tested_with : (k : Keyword) (e : Expr) (us vs rest : List Piece) → Piece.word k ∷ Piece.blank ∷ Piece.mark symbol.Open ∷ (expr_pieces e ++ (Piece.mark symbol.Close ∷ Piece.blank ∷ (us ++ (vs ++ rest)))) ≡ (tested k e ++ Piece.blank ∷ (us ++ vs)) ++ rest
tested_with k e us vs rest = ap (λ ws. Piece.word k ∷ Piece.blank ∷ Piece.mark symbol.Open ∷ (expr_pieces e ++ (Piece.mark symbol.Close ∷ Piece.blank ∷ ws))) (sym (append_assoc us vs rest)) ∙ tested_front k e (Piece.blank ∷ (us ++ vs)) rest

tested_fit : (k : Keyword) {e : Expr} (rest : List Piece) → IsPrintable e → Fit rest → Fit (Piece.word k ∷ Piece.blank ∷ Piece.mark symbol.Open ∷ (expr_pieces e ++ (Piece.mark symbol.Close ∷ Piece.blank ∷ rest)))
tested_fit k rest i h = (tt, refl, (tt, refl, (tt, refl, (whole_expr i).fit (Piece.mark symbol.Close ∷ Piece.blank ∷ rest) refl (tt, refl, (tt, refl, h)))))

-- ---- the forms

while_reads : (at : At) {o : Bool} {e : Expr} {s : Stmt} {w : Layout} → IsPrintable e → StmtReads s o w → StmtReads (statement at (stmt.While e s)) o (layout_step (part.While e w))
while_reads at {o = o} {e = e} {s = s} {w = w} i r = record {
  fit = λ n rest h. subst Fit (tested_front keyword.While e (Piece.blank ∷ whole w n) rest) (tested_fit keyword.While (whole w n ++ rest) i (r.fit n rest h));
  no_else = λ n rest ps. tt;
  read = λ n ps rest h. subst (λ us. Read bare_stmt IsStmt ps us rest (statement at (stmt.While e s))) (tested_front keyword.While e (Piece.blank ∷ whole w n) rest)
      (let a = (whole_expr i).read (past (past ps)) (Piece.mark symbol.Close ∷ Piece.blank ∷ (whole w n ++ rest)) in
      let b = r.read n (past a.left) rest h in
      record { tree = _; left = b.left; parsed = g.at_first (g.while a.parsed b.parsed); same = f.bare_while _ at a.tree e b.tree s a.same b.same });
}

when_reads : (at : At) {o : Bool} {e : Expr} {s : Stmt} {w : Layout} → IsPrintable e → StmtReads s o w → StmtReads (statement at (stmt.If e s None)) true (layout_step (part.If e w None))
when_reads at {o = o} {e = e} {s = s} {w = w} i r = record {
  fit = λ n rest h. subst Fit (tested_with keyword.If e (whole w n) [] rest) (tested_fit keyword.If (whole w n ++ rest) i (r.fit n rest h));
  no_else = λ n rest ps. tt;
  read = λ n ps rest h. subst (λ us. Read bare_stmt IsStmt ps us rest (statement at (stmt.If e s None))) (tested_with keyword.If e (whole w n) [] rest)
      (let a = (whole_expr i).read (past (past ps)) (Piece.mark symbol.Close ∷ Piece.blank ∷ (whole w n ++ rest)) in
      let b = r.read n (past a.left) rest (follows o rest h) in
      record { tree = _; left = b.left; parsed = g.at_first (g.when a.parsed b.parsed (h b.left)); same = f.bare_choose _ at a.tree e b.tree s None None a.same b.same refl });
}

choose_reads : (at : At) {o : Bool} {e : Expr} {s t : Stmt} {v w : Layout} → IsPrintable e → StmtReads s false w → StmtReads t o v → StmtReads (statement at (stmt.If e s (Some t))) o (layout_step (part.If e w (Some v)))
choose_reads at {o = o} {e = e} {s = s} {t = t} {v = v} {w = w} i r q = record {
  fit = λ n rest h. subst Fit (tested_with keyword.If e (whole w n) (Piece.blank ∷ Piece.word keyword.Else ∷ Piece.blank ∷ whole v n) rest) (tested_fit keyword.If (whole w n ++ other n rest) i (r.fit n (other n rest) (tt, refl, (tt, refl, (tt, refl, q.fit n rest h)))));
  no_else = λ n rest ps. tt;
  read = λ n ps rest h. subst (λ us. Read bare_stmt IsStmt ps us rest (statement at (stmt.If e s (Some t)))) (tested_with keyword.If e (whole w n) (Piece.blank ∷ Piece.word keyword.Else ∷ Piece.blank ∷ whole v n) rest)
      (let a = (whole_expr i).read (past (past ps)) (Piece.mark symbol.Close ∷ Piece.blank ∷ (whole w n ++ other n rest)) in
      let b = r.read n (past a.left) (other n rest) tt in
      let c = q.read n (past b.left) rest h in
      record { tree = _; left = c.left; parsed = g.at_first (g.choose a.parsed b.parsed c.parsed); same = f.bare_choose _ at a.tree e b.tree s (Some c.tree) (Some t) a.same b.same (ap (λ u. Some u) c.same) });
}
  where
    other : ℕ → List Piece → List Piece
    other n rest = Piece.blank ∷ Piece.word keyword.Else ∷ Piece.blank ∷ (whole v n ++ rest)

do_front : (us : List Piece) (e : Expr) (rest : List Piece) → Piece.word keyword.Do ∷ Piece.blank ∷ (us ++ (Piece.blank ∷ Piece.word keyword.While ∷ Piece.blank ∷ Piece.mark symbol.Open ∷ (expr_pieces e ++ (Piece.mark symbol.Close ∷ Piece.mark symbol.Semicolon ∷ rest)))) ≡ ((Piece.word keyword.Do ∷ Piece.blank ∷ (us ++ Piece.blank ∷ tested keyword.While e)) ++ semicolon) ++ rest
do_front us e rest = simp append_assoc

do_while_reads : (at : At) {o : Bool} {e : Expr} {s : Stmt} {w : Layout} → IsPrintable e → StmtReads s o w → StmtReads (statement at (stmt.DoWhile s e)) false (layout_step (part.DoWhile w e))
do_while_reads at {o = o} {e = e} {s = s} {w = w} i r = record {
  fit = λ n rest h. subst Fit (do_front (whole w n) e rest) (tt, refl, (tt, refl, r.fit n (again rest) (tt, refl, (tt, refl, (tt, refl, (tt, refl, (whole_expr i).fit (Piece.mark symbol.Close ∷ Piece.mark symbol.Semicolon ∷ rest) refl (tt, refl, (tt, refl, h))))))));
  no_else = λ n rest ps. tt;
  read = λ n ps rest h. subst (λ us. Read bare_stmt IsStmt ps us rest (statement at (stmt.DoWhile s e))) (do_front (whole w n) e rest)
      (let b = r.read n (past ps) (again rest) (follows o (again rest) (λ qs. tt)) in
      let a = (whole_expr i).read (past (past b.left)) (Piece.mark symbol.Close ∷ Piece.mark symbol.Semicolon ∷ rest) in
      record { tree = _; left = past (past a.left); parsed = g.at_first (g.do_while b.parsed a.parsed); same = f.bare_do_while _ at b.tree s a.tree e b.same a.same });
}
  where
    again : List Piece → List Piece
    again rest = Piece.blank ∷ Piece.word keyword.While ∷ Piece.blank ∷ Piece.mark symbol.Open ∷ (expr_pieces e ++ (Piece.mark symbol.Close ∷ Piece.mark symbol.Semicolon ∷ rest))

label_reads : (at p : At) (x : List ℕ) {o : Bool} {s : Stmt} {w : Layout} → IsPrintableName x → StmtReads s o w → StmtReads (statement at (stmt.Label (word p x) s)) o (layout_step (part.Label (word p x) w))
label_reads at p x {s = s} {w = w} h r = record {
  fit = λ n rest i. (h, refl, (tt, refl, (tt, refl, r.fit n rest i)));
  no_else = λ n rest ps. tt;
  read = λ n ps rest i. let b = r.read n (past (past ps)) rest i in record { tree = _; left = b.left; parsed = g.at_first (g.label b.parsed); same = f.bare_label _ at _ (word p x) b.tree s refl b.same };
}

-- ---- the head of a for

-- an assignment in front of a mark
assign_read : {m : StmtNode} (at : At) (s : Simple IsAssign m) (ps : List At) (rest : List Piece) → Read (option_map bare_stmt) IsStep ps (s.pieces ++ rest) rest (Some (statement at m))
assign_read {m = m} at s ps rest =
    let r = s.reads.read ps rest in
    let b = assign_begins r.parsed in
    record {
      tree = Some (statement b.begin.at r.tree);
      left = r.left;
      parsed = subst (λ us. IsStep us (Some (statement b.begin.at r.tree)) (laid r.left (signs rest))) (sym b.shape) (g.step (subst (λ us. IsAssign us r.tree (laid r.left (signs rest))) b.shape r.parsed));
      same = ap (λ u. Some u) (r.same b.begin.at at);
    }

body_of : {m : StmtNode} {L : Line StmtNode} (at : At) (s : Simple L m) → (n : ℕ) → s.pieces ≡ (layout (statement at m)).body n
body_of at s n = ap (λ (w : Layout). w.body n) (sym (s.laid_out at))

step_reads : {s : Option Stmt} → IsPrintableStep s → (n : ℕ) → Reads (option_map bare_stmt) IsStep s (step_part (option_map layout s) n)
step_reads IsPrintableStep.no_step n = record { fit = λ rest k h. h; read = λ ps rest. record { tree = None; left = ps; parsed = g.no_step; same = refl } }
step_reads (IsPrintableStep.step {at = at} {n = m} i) n =
    let s = assignment_simple i in
    subst (λ us. Reads (option_map bare_stmt) IsStep (Some (statement at m)) (Piece.blank ∷ us)) (body_of at s n)
    (record { fit = λ rest k h. (tt, refl, s.reads.fit rest k h); read = λ ps rest. let r = assign_read at s ps rest in record { tree = r.tree; left = r.left; parsed = r.parsed; same = r.same } })

-- the first part goes on to a semicolon
abbrev FirstLine : Line (Option Stmt)
FirstLine ts s us = (p : At) (x : List ℕ) (rest : List Terminal) → us ≡ terminal symbol.Semicolon p x ∷ rest → IsFirst ts s rest

declared_first : {m : StmtNode} (at : At) (s : Simple (Until IsDeclaration) m) (ps : List At) (rest : List Piece) → Read (option_map bare_stmt) FirstLine ps (s.pieces ++ (ended rest)) (ended rest) (Some (statement at m))
declared_first {m = m} at s ps rest =
    let r = s.reads.read ps (ended rest) in
    let d = r.parsed _ _ _ refl in
    let b = declaration_begins d in
    record {
      tree = Some (statement b.begin.at r.tree);
      left = r.left;
      parsed = λ p x us e. subst (λ ts. IsFirst ts (Some (statement b.begin.at r.tree)) us) (sym b.shape) (g.first_declaration (subst (λ ts. IsDeclaration ts r.tree us) b.shape (r.parsed p x us e)));
      same = ap (λ u. Some u) (r.same b.begin.at at);
    }

record FirstReads (s : Option Stmt) (us : List Piece) : Type 0 where
  fit : (rest : List Piece) → Fit (ended rest) → Fit (us ++ ended rest)
  read : (ps : List At) (rest : List Piece) → Read (option_map bare_stmt) FirstLine ps (us ++ ended rest) (ended rest) s

first_reads : {s : Option Stmt} → IsPrintableFirst s → (n : ℕ) → FirstReads s (first_part (option_map layout s) n)
first_reads (IsPrintableFirst.declaration {at = at} {n = m} i) n =
    let s = declaration_simple i in
    subst (λ us. FirstReads (Some (statement at m)) us) (body_of at s n) (record { fit = λ rest h. s.reads.fit (ended rest) refl h; read = declared_first at s })
first_reads (IsPrintableFirst.first_step IsPrintableStep.no_step) n = record { fit = λ rest h. h; read = λ ps rest. record { tree = None; left = ps; parsed = λ p x us e. subst (λ ts. IsFirst ts None us) (sym e) (g.first_step g.no_step); same = refl } }
first_reads (IsPrintableFirst.first_step (IsPrintableStep.step {at = at} {n = m} i)) n =
    let s = assignment_simple i in
    subst (λ us. FirstReads (Some (statement at m)) us) (body_of at s n)
    (record { fit = λ rest h. s.reads.fit (ended rest) refl h; read = λ ps rest. let r = assign_read at s ps (ended rest) in record { tree = r.tree; left = r.left; parsed = λ p x us e. g.first_step (subst (λ ts. IsStep (laid ps (signs (s.pieces ++ ended rest))) r.tree ts) e r.parsed); same = r.same } })

in_parts : (us es vs ws rest : List Piece) → us ++ (es ++ (Piece.mark symbol.Semicolon ∷ (vs ++ (ws ++ rest)))) ≡ (((us ++ (es ++ semicolon)) ++ vs) ++ ws) ++ rest
in_parts us es vs ws rest =
    ap (λ x. us ++ x) (behind es (vs ++ (ws ++ rest)) symbol.Semicolon)
    ∙ sym (append_assoc us (es ++ semicolon) (vs ++ (ws ++ rest)))
    ∙ sym (append_assoc (us ++ (es ++ semicolon)) vs (ws ++ rest))
    ∙ sym (append_assoc ((us ++ (es ++ semicolon)) ++ vs) ws rest)

-- the head of a for, part by part
for_front : (us es vs ws rest : List Piece) → Piece.word keyword.For ∷ Piece.blank ∷ Piece.mark symbol.Open ∷ (us ++ (Piece.mark symbol.Semicolon ∷ Piece.blank ∷ (es ++ (Piece.mark symbol.Semicolon ∷ (vs ++ (Piece.mark symbol.Close ∷ Piece.blank ∷ (ws ++ rest)))))))
    ≡ ((((Piece.word keyword.For ∷ Piece.blank ∷ Piece.mark symbol.Open ∷ us) ++ ((Piece.mark symbol.Semicolon ∷ Piece.blank ∷ es) ++ semicolon)) ++ (vs ++ Piece.mark symbol.Close ∷ [])) ++ (Piece.blank ∷ ws)) ++ rest
for_front us es vs ws rest =
    ap (λ x. Piece.word keyword.For ∷ Piece.blank ∷ Piece.mark symbol.Open ∷ (us ++ (Piece.mark symbol.Semicolon ∷ Piece.blank ∷ (es ++ (Piece.mark symbol.Semicolon ∷ x))))) (behind vs (Piece.blank ∷ (ws ++ rest)) symbol.Close)
    ∙ in_parts (Piece.word keyword.For ∷ Piece.blank ∷ Piece.mark symbol.Open ∷ us) (Piece.mark symbol.Semicolon ∷ Piece.blank ∷ es) (vs ++ Piece.mark symbol.Close ∷ []) (Piece.blank ∷ ws) rest

for_reads : (at : At) {o : Bool} {first step : Option Stmt} {e : Expr} {s : Stmt} {w : Layout} → IsPrintableFirst first → IsPrintable e → IsPrintableStep step → StmtReads s o w → StmtReads (statement at (stmt.For first (Some e) step s)) o (layout_step (part.For (option_map layout first) (Some e) (option_map layout step) w))
for_reads at {o = o} {first = first} {step = step} {e = e} {s = s} {w = w} i j k r = record {
  fit = λ n rest h. subst Fit (front n rest)
      (tt, refl, (tt, refl, (tt, refl, (first_reads i n).fit (behind_first n rest) (tt, refl, (tt, refl, (whole_expr j).fit (behind_test n rest) refl (tt, refl, (step_reads k n).fit (behind_step n rest) refl (tt, refl, (tt, refl, r.fit n rest h))))))));
  no_else = λ n rest ps. tt;
  read = λ n ps rest h. subst (λ us. Read bare_stmt IsStmt ps us rest (statement at (stmt.For first (Some e) step s))) (front n rest)
      (let a = (first_reads i n).read (past (past ps)) (behind_first n rest) in
      let b = (whole_expr j).read (past a.left) (behind_test n rest) in
      let c = (step_reads k n).read (past b.left) (behind_step n rest) in
      let d = r.read n (past c.left) rest h in
      record { tree = _; left = d.left; parsed = g.at_first (g.for (a.parsed _ _ _ refl) (g.condition b.parsed) c.parsed d.parsed); same = f.bare_for _ at a.tree first (Some b.tree) (Some e) c.tree step d.tree s a.same (ap (λ u. Some u) b.same) c.same d.same });
}
  where
    behind_step : ℕ → List Piece → List Piece
    behind_step n rest = Piece.mark symbol.Close ∷ Piece.blank ∷ (whole w n ++ rest)

    behind_test : ℕ → List Piece → List Piece
    behind_test n rest = Piece.mark symbol.Semicolon ∷ (step_part (option_map layout step) n ++ behind_step n rest)

    behind_first : ℕ → List Piece → List Piece
    behind_first n rest = Piece.blank ∷ (expr_pieces e ++ behind_test n rest)

    front : (n : ℕ) (rest : List Piece) → Piece.word keyword.For ∷ Piece.blank ∷ Piece.mark symbol.Open ∷ (first_part (option_map layout first) n ++ ended (behind_first n rest)) ≡ (loop_head (option_map layout first) (Some e) (option_map layout step) n ++ Piece.blank ∷ whole w n) ++ rest
    front n rest = for_front (first_part (option_map layout first) n) (expr_pieces e) (step_part (option_map layout step) n) (whole w n) rest

-- ---- blocks

abbrev pub closed : ℕ → List Piece → List Piece
closed m rest = Piece.line m ∷ Piece.mark symbol.CloseBrace ∷ rest

pub record BodyReads (ss : List Stmt) (ws : List Layout) : Type 0 where
  pub fit : (n m : ℕ) (rest : List Piece) → Fit rest → Fit (lines n ws ++ closed m rest)
  pub no_else : (n m : ℕ) (rest : List Piece) → HasNoElse (lines n ws ++ closed m rest)
  pub read : (n m : ℕ) (ps : List At) (rest : List Piece) → Read (map bare_stmt) IsBody ps (lines n ws ++ closed m rest) rest ss

nothing_reads : BodyReads [] []
nothing_reads = record {
  fit = λ n m rest h. (tt, refl, (tt, refl, h));
  no_else = λ n m rest ps. tt;
  read = λ n m ps rest. record { tree = []; left = past ps; parsed = g.end; same = refl };
}

further_front : (n : ℕ) (w : Layout) (ws : List Layout) (rest : List Piece) → Piece.line n ∷ (whole w n ++ (lines n ws ++ rest)) ≡ lines n (w ∷ ws) ++ rest
further_front n w ws rest = ap (λ us. Piece.line n ∷ us) (sym (append_assoc (whole w n) (lines n ws) rest))

further_reads : {s : Stmt} {ss : List Stmt} {o : Bool} {w : Layout} {ws : List Layout} → StmtReads s o w → BodyReads ss ws → BodyReads (s ∷ ss) (w ∷ ws)
further_reads {s = s} {ss = ss} {o = o} {w = w} {ws = ws} r b = record {
  fit = λ n m rest h. subst Fit (further_front n w ws (closed m rest)) (tt, refl, r.fit n (lines n ws ++ closed m rest) (b.fit n m rest h));
  no_else = λ n m rest ps. subst (λ us. NoElse (laid ps (signs us))) (further_front n w ws (closed m rest)) (r.no_else n (lines n ws ++ closed m rest) ps);
  read = λ n m ps rest. subst (λ us. Read (map bare_stmt) IsBody ps us rest (s ∷ ss)) (further_front n w ws (closed m rest))
      (let i = r.read n ps (lines n ws ++ closed m rest) (follows o (lines n ws ++ closed m rest) (b.no_else n m rest)) in
      let j = b.read n m i.left rest in
      record { tree = i.tree ∷ j.tree; left = j.left; parsed = g.further i.parsed j.parsed; same = cons_same bare_stmt i.tree s j.tree ss i.same j.same });
}

declaration_front : (n : ℕ) (us vs rest : List Piece) → Piece.line n ∷ (us ++ ended (vs ++ rest)) ≡ (Piece.line n ∷ ((us ++ semicolon) ++ vs)) ++ rest
declaration_front n us vs rest = ap (λ ws. Piece.line n ∷ ws) (behind us (vs ++ rest) symbol.Semicolon ∙ sym (append_assoc (us ++ semicolon) vs rest))

declaration_reads : {m : StmtNode} {ss : List Stmt} {ws : List Layout} (at : At) → Simple (Until IsDeclaration) m → BodyReads ss ws → BodyReads (statement at m ∷ ss) (layout (statement at m) ∷ ws)
declaration_reads {m = m} {ss = ss} {ws = ws} at s b = subst (λ w. BodyReads (statement at m ∷ ss) (w ∷ ws)) (sym (s.laid_out at)) (record {
  fit = λ n o rest h. subst Fit (declaration_front n s.pieces (lines n ws) (closed o rest)) (tt, refl, s.reads.fit (ended (lines n ws ++ closed o rest)) refl (tt, refl, b.fit n o rest h));
  no_else = λ n o rest ps. subst (λ us. NoElse (laid ps (signs us))) (declaration_front n s.pieces (lines n ws) (closed o rest)) (no_else_first (declaration_begins ((s.reads.read ps (ended (lines n ws ++ closed o rest))).parsed _ _ _ refl)));
  read = λ n o ps rest. subst (λ us. Read (map bare_stmt) IsBody ps us rest (statement at m ∷ ss)) (declaration_front n s.pieces (lines n ws) (closed o rest)) (inner n o ps rest);
})
  where
    inner : (n o : ℕ) (ps : List At) (rest : List Piece) → Read (map bare_stmt) IsBody ps (Piece.line n ∷ (s.pieces ++ ended (lines n ws ++ closed o rest))) rest (statement at m ∷ ss)
    inner n o ps rest =
        let r = s.reads.read ps (ended (lines n ws ++ closed o rest)) in
        let d = r.parsed _ _ _ refl in
        let j = b.read n o (past r.left) rest in
        let q = declaration_begins d in
        record {
          tree = statement q.begin.at r.tree ∷ j.tree;
          left = j.left;
          parsed = subst (λ us. IsBody us (statement q.begin.at r.tree ∷ j.tree) (laid j.left (signs rest))) (sym q.shape) (g.declaration (subst (λ us. IsDeclaration us r.tree (laid (past r.left) (signs (lines n ws ++ closed o rest)))) q.shape d) j.parsed);
          same = cons_same bare_stmt (statement q.begin.at r.tree) (statement at m) j.tree ss (r.same q.begin.at at) j.same;
        }

block_reads : (at : At) {ss : List Stmt} {ws : List Layout} → BodyReads ss ws → StmtReads (statement at (stmt.Block ss)) false (layout_step (part.Block ws))
block_reads at {ss = ss} {ws = ws} b = record {
  fit = λ n rest h. subst Fit (front n rest) (tt, refl, b.fit (suc n) n rest h);
  no_else = λ n rest ps. tt;
  read = λ n ps rest h. subst (λ us. Read bare_stmt IsStmt ps us rest (statement at (stmt.Block ss))) (front n rest)
      (let i = b.read (suc n) n (past ps) rest in record { tree = _; left = i.left; parsed = g.at_first (g.block i.parsed); same = f.bare_block _ at i.tree ss i.same });
}
  where
    front : (n : ℕ) (rest : List Piece) → Piece.mark symbol.OpenBrace ∷ (lines (suc n) ws ++ closed n rest) ≡ braces n ws ++ rest
    front n rest = ap (λ us. Piece.mark symbol.OpenBrace ∷ us) (sym (append_assoc (lines (suc n) ws) (Piece.line n ∷ Piece.mark symbol.CloseBrace ∷ []) rest))

-- ---- all printable statements

mutual
  pub stmt_reads : {s : Stmt} {o : Bool} → IsPrintableStmt s o → StmtReads s o (layout s)
  stmt_reads (IsPrintableStmt.empty {at = at}) = empty_reads at
  stmt_reads (IsPrintableStmt.block {at = at} {ss = ss} d) = subst (StmtReads (statement at (stmt.Block ss)) false) (sym (f.layout_block at ss)) (block_reads at (body_reads d))
  stmt_reads (IsPrintableStmt.assignment {at = at} i) = assignment_reads at i
  stmt_reads (IsPrintableStmt.action {at = at} i) = action_reads at i
  stmt_reads (IsPrintableStmt.when {at = at} {e = e} {s = s} i d) = subst (StmtReads (statement at (stmt.If e s None)) true) (sym (f.layout_choose at e s None)) (when_reads at i (stmt_reads d))
  stmt_reads (IsPrintableStmt.choose {at = at} {e = e} {s = s} {o = t} {open_if = o} i c d) = subst (StmtReads (statement at (stmt.If e s (Some t))) o) (sym (f.layout_choose at e s (Some t))) (choose_reads at i (stmt_reads c) (stmt_reads d))
  stmt_reads (IsPrintableStmt.while {at = at} {e = e} {s = s} {open_if = o} i d) = subst (StmtReads (statement at (stmt.While e s)) o) (sym (f.layout_while at e s)) (while_reads at i (stmt_reads d))
  stmt_reads (IsPrintableStmt.do_while {at = at} {e = e} {s = s} i d) = subst (StmtReads (statement at (stmt.DoWhile s e)) false) (sym (f.layout_do_while at s e)) (do_while_reads at i (stmt_reads d))
  stmt_reads (IsPrintableStmt.for {at = at} {first = first} {step = step} {e = e} {s = s} {open_if = o} i j k d) = subst (StmtReads (statement at (stmt.For first (Some e) step s)) o) (sym (f.layout_for at first (Some e) step s)) (for_reads at i j k (stmt_reads d))
  stmt_reads (IsPrintableStmt.break {at = at}) = break_reads at
  stmt_reads (IsPrintableStmt.continue {at = at}) = continue_reads at
  stmt_reads (IsPrintableStmt.return {at = at} i) = return_reads at i
  stmt_reads (IsPrintableStmt.goto {at = at} {p = p} {x = x} h) = goto_reads at p x h
  stmt_reads (IsPrintableStmt.label {at = at} {p = p} {x = x} {s = s} {open_if = o} h d) = subst (StmtReads (statement at (stmt.Label (word p x) s)) o) (sym (f.layout_label at (word p x) s)) (label_reads at p x h (stmt_reads d))

  pub body_reads : {ss : List Stmt} → IsPrintableBody ss → BodyReads ss (map layout ss)
  body_reads IsPrintableBody.none = nothing_reads
  body_reads (IsPrintableBody.declaration {at = at} i d) = declaration_reads at (declaration_simple i) (body_reads d)
  body_reads (IsPrintableBody.further d ds) = further_reads (stmt_reads d) (body_reads ds)
