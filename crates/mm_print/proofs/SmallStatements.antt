-- How each kind of line of main is read.
use Rattle.std.proofs.Common.{◌≡◌, ℕ, ◌+◌, ◌≤◌, ◌<◌, ◌^◌, true, List, [], ◌∷◌, ◌++◌, length, Some, refl, sym, ◌∙◌, ap, subst, arith, append_assoc, length-append}
use Rattle.std.specs.Prelude.{codes}
use Rattle.std.specs.Fmt.{decimal}
use Rattle.std.proofs.lemmas.Bool.Decides.{nat_tests}
use Rattle.std.proofs.lemmas.Fmt.{decimal_digit, length-decimal-le}
use Rattle.mm_goto.specs.declared.ident.At.{At}
use Rattle.mm_goto.specs.declared.ident.Ident.{Ident}
use Rattle.mm_goto.specs.declared.pure.Pure.{Pure}
use Rattle.mm_goto.specs.declared.program.Cell.{Cell}
use Rattle.mm_goto.specs.declared.program.Target.TheVariants as target
use Rattle.mm_goto.specs.declared.program.Instr.{Instr}
use Rattle.mm_goto.specs.declared.program.Instr.TheVariants as instr
use Rattle.mm_goto.specs.declared.program.Thread.{Thread}
use Rattle.mm_goto.specs.Names.{IsDeclarable}
use Rattle.mm_goto.specs.Terms.{the_local}
use Rattle.mm_lexer.specs.Class.{is_text_char}
use Rattle.mm_small_code.specs.reading.Flattening.{placed, Named, number_of, IsValue, IsCode, AreCode}
use Rattle.mm_small_code.specs.reading.Flattening as flat
use Rattle.mm_parse_expr.specs.declared.symbol.Keyword.TheVariants as reserved
use Rattle.mm_parse_expr.specs.declared.symbol.Symbol.TheVariants as symbol
use Rattle.mm_parse_expr.specs.Grammar as expr
use Rattle.mm_parse_expr.specs.Symbols.{word_symbol}
use Rattle.mm_grammar.specs.Nesting.{limits, deep_behind}
use Rattle.mm_grammar.specs.StatementGrammar as g
use Rattle.mm_tree.specs.declared.side.Side.TheVariants.{Output}
use Rattle.mm_print.specs.SmallListing.{IsSmallExpr}
use Rattle.mm_print.specs.SmallText.{written, local_text, label_text, cell_text, instr_text, line_text}
use Rattle.mm_print.specs.Woven.{end_of}
use Rattle.mm_print.proofs.Bodies.{labels_of, state, inside, Rest, code_length, line_says, name_says}
use Rattle.mm_print.proofs.Lookup.{local_found, no_local, HasPlace, cell_found}
use Rattle.mm_print.proofs.Operands.{from_primary, local_says, label_says, expr_signs, expr_says, expr_read}
use Rattle.mm_print.proofs.Says.{Says, digits_all, ascii_says, number_says, quoted_says, blank_says, semicolon_says, comma_says, open_says, close_says, assign_says, newline_says}
use Rattle.mm_print.proofs.Signs.{Sign, named, number, quoted, keyword, semicolon, colon, comma, assign, open_mark, close_mark, behind, place, skipped, laid}

module _ (cells : List Cell) (main : Thread) (few : main.locals ≤ 2 ^ 32) where
  load_shape : (x y text : List ℕ) → x ++ codes " = " ++ y ++ codes ";" ++ text ≡ x ++ 32 ∷ 61 ∷ 32 ∷ (y ++ 59 ∷ text)
  load_shape x y text = simp append_assoc

  load_says : (l c : ℕ) {text : List ℕ} {ss : List Sign} → IsDeclarable (cell_text cells c) → Says text ss → Says (instr_text cells (instr.Load l (target.Cell c)) ++ text) (named (local_text l) ∷ assign ∷ named (cell_text cells c) ∷ semicolon ∷ ss)
  load_says l c {text = text} {ss = ss} d s =
      subst (λ t. Says t (named (local_text l) ∷ assign ∷ named (cell_text cells c) ∷ semicolon ∷ ss)) (sym (load_shape (local_text l) (cell_text cells c) text))
      (local_says l refl (blank_says (assign_says (name_says (cell_text cells c) d refl (semicolon_says s)))))

  -- a load reads into a local of its own
  pub load_rest : (k m t a l c : ℕ) (ls : List Named) {text : List ℕ} {instrs : List Instr} → m + (2 + length instrs) ≡ end_of main + 1 → l < main.locals → HasPlace cells (cell_text cells c) c → IsDeclarable (cell_text cells c) → Rest cells main text (state main (t + 1) a (flat.numbered (label_text k) m ∷ ls)) instrs → Rest cells main (line_text cells k (instr.Load l (target.Cell c)) ++ text) (state main t a ls) (instr.Load t (target.Cell c) ∷ instr.Set l (the_local t) ∷ instrs)
  load_rest k m t a l c ls {text = text} {instrs = instrs} there h has d s = record {
    signs = named (label_text k) ∷ colon ∷ named (local_text l) ∷ assign ∷ named (cell_text cells c) ∷ semicolon ∷ s.signs;
    says = line_says k (instr_text cells (instr.Load l (target.Cell c))) text _ (load_says l c d (newline_says s.says));
    shallow = λ ps. s.shallow (skipped 6 ps);
    read = λ ps at. let r = s.read (skipped 6 ps) at in record {
      statements = _;
      parsed = g.further (g.at_first (g.label (g.at_first (g.assignment (g.assign g.name (g.plain (from_primary expr.name))))))) r.parsed;
      code = placed (place 4 ps) (instr.Load t (target.Cell c)) ∷ placed (place 2 ps) (instr.Set l (the_local t)) ∷ r.code;
      same = ap (λ is. instr.Load t (target.Cell c) ∷ instr.Set l (the_local t) ∷ is) r.same;
      last = r.last;
      labels = r.labels;
      next = r.next;
      flat = λ all e. AreCode.more (IsCode.label (omega (arith, e, there, code_length r.code instrs r.same)) (IsCode.set (local_found main.locals l few h) (IsValue.global (no_local main.locals (cell_text cells c) d.not_woven) (cell_found cells (cell_text cells c) c has)))) (r.flat all e);
    };
  }

  -- ---- stores

  store_says : (c : ℕ) {e : Pure} (d : IsSmallExpr main.locals e) {text : List ℕ} {ss : List Sign} → IsDeclarable (cell_text cells c) → Says text ss → Says (instr_text cells (instr.Store (target.Cell c) e) ++ text) (named (cell_text cells c) ∷ assign ∷ (expr_signs d ++ semicolon ∷ ss))
  store_says c {e = e} d {text = text} {ss = ss} name s =
      subst (λ t. Says t (named (cell_text cells c) ∷ assign ∷ (expr_signs d ++ semicolon ∷ ss))) (sym (load_shape (cell_text cells c) (written e).text text))
      (name_says (cell_text cells c) name refl (blank_says (assign_says (expr_says d refl (semicolon_says s)))))

  -- no count passes its limit up to the end of the statement, where the tokens are counted from 0 again
  store_shallow : (k : ℕ) (x : Ident) {n : ℕ} {e : Pure} (d : IsSmallExpr n e) (ss : List Sign) (ps : List At) → (qs : List At) × (deep_behind (limits Output) inside (laid ps (named (label_text k) ∷ colon ∷ named x ∷ assign ∷ (expr_signs d ++ semicolon ∷ ss))) ≡ deep_behind (limits Output) inside (laid qs ss))
  store_shallow k x (IsSmallExpr.number n h) ss ps = (skipped 6 ps, refl)
  store_shallow k x (IsSmallExpr.local l h) ss ps = (skipped 6 ps, refl)
  store_shallow k x (IsSmallExpr.equal l n h i) ss ps = (skipped 8 ps, refl)

  pub store_rest : (k m t a c : ℕ) {e : Pure} (d : IsSmallExpr main.locals e) (ls : List Named) {text : List ℕ} {instrs : List Instr} → m + (1 + length instrs) ≡ end_of main + 1 → HasPlace cells (cell_text cells c) c → IsDeclarable (cell_text cells c) → Rest cells main text (state main t a (flat.numbered (label_text k) m ∷ ls)) instrs → Rest cells main (line_text cells k (instr.Store (target.Cell c) e) ++ text) (state main t a ls) (instr.Store (target.Cell c) e ∷ instrs)
  store_rest k m t a c {e = e} d ls {text = text} {instrs = instrs} there has name s = record {
    signs = named (label_text k) ∷ colon ∷ named (cell_text cells c) ∷ assign ∷ (expr_signs d ++ semicolon ∷ s.signs);
    says = line_says k (instr_text cells (instr.Store (target.Cell c) e)) text _ (store_says c d name (newline_says s.says));
    shallow = λ ps. let w = store_shallow k (cell_text cells c) d s.signs ps in w.1 ∙ s.shallow w.0;
    read = λ ps at.
        let v = expr_read d few (skipped 4 ps) (semicolon ∷ s.signs) in
        let r = s.read (behind v.left) at in
        record {
          statements = _;
          parsed = g.further (g.at_first (g.label (g.at_first (g.assignment (g.assign g.name (g.plain v.parsed)))))) r.parsed;
          code = placed (place 2 ps) (instr.Store (target.Cell c) e) ∷ r.code;
          same = ap (λ is. instr.Store (target.Cell c) e ∷ is) r.same;
          last = r.last;
          labels = r.labels;
          next = r.next;
          flat = λ all h. AreCode.more (IsCode.label (omega (arith, h, there, code_length r.code instrs r.same)) (IsCode.store (no_local main.locals (cell_text cells c) name.not_woven) (cell_found cells (cell_text cells c) c has) (v.value cells t _))) (r.flat all h);
        };
  }

  -- ---- assertions

  assert_shape : (x y text : List ℕ) → codes "__CPROVER_assert(" ++ x ++ codes ", \"assertion " ++ y ++ codes "\");" ++ text ≡ codes "__CPROVER_assert" ++ 40 ∷ (x ++ 44 ∷ 32 ∷ 34 ∷ ((codes "assertion " ++ y) ++ 34 ∷ 41 ∷ 59 ∷ text))
  assert_shape x y text = simp append_assoc

  digit_text : (d : ℕ) → d < 10 → is_text_char (48 + d) ≡ true
  digit_text d h = grind (arith, nat_tests)

  assertion_short : (n : ℕ) → n < 2 ^ 32 → length (codes "assertion " ++ decimal n) ≤ 200
  assertion_short n h = omega (arith, length-append (codes "assertion ") (decimal n), length-decimal-le 10 n (omega arith) (omega arith) (omega arith))

  assert_says : (n : ℕ) → n < 2 ^ 32 → {e : Pure} (d : IsSmallExpr main.locals e) {text : List ℕ} {ss : List Sign} → Says text ss → Says (instr_text cells (instr.Assert e n) ++ text) (keyword reserved.ProverAssert (codes "__CPROVER_assert") ∷ open_mark ∷ (expr_signs d ++ comma ∷ quoted (codes "assertion " ++ decimal n) ∷ close_mark ∷ semicolon ∷ ss))
  unfolding word_symbol
  assert_says n h {e = e} d {text = text} {ss = ss} s =
      subst (λ t. Says t (keyword reserved.ProverAssert (codes "__CPROVER_assert") ∷ open_mark ∷ (expr_signs d ++ comma ∷ quoted (codes "assertion " ++ decimal n) ∷ close_mark ∷ semicolon ∷ ss))) (sym (assert_shape (written e).text (decimal n) text))
      (ascii_says (codes "__CPROVER_assert") (symbol.Keyword reserved.ProverAssert) refl refl refl (open_says (expr_says d refl (comma_says (blank_says (quoted_says (codes "assertion " ++ decimal n) (digits_all is_text_char digit_text n) (assertion_short n h) (close_says (semicolon_says s))))))))

  assert_shallow : (k : ℕ) (text : List ℕ) {n : ℕ} {e : Pure} (d : IsSmallExpr n e) (ss : List Sign) (ps : List At) → (qs : List At) × (deep_behind (limits Output) inside (laid ps (named (label_text k) ∷ colon ∷ keyword reserved.ProverAssert (codes "__CPROVER_assert") ∷ open_mark ∷ (expr_signs d ++ comma ∷ quoted text ∷ close_mark ∷ semicolon ∷ ss))) ≡ deep_behind (limits Output) inside (laid qs ss))
  assert_shallow k text (IsSmallExpr.number n h) ss ps = (skipped 9 ps, refl)
  assert_shallow k text (IsSmallExpr.local l h) ss ps = (skipped 9 ps, refl)
  assert_shallow k text (IsSmallExpr.equal l n h i) ss ps = (skipped 11 ps, refl)

  pub assert_rest : (k m t a n : ℕ) → n < 2 ^ 32 → {e : Pure} (d : IsSmallExpr main.locals e) (ls : List Named) {text : List ℕ} {instrs : List Instr} → m + (1 + length instrs) ≡ end_of main + 1 → Rest cells main text (state main t (a + 1) (flat.numbered (label_text k) m ∷ ls)) instrs → Rest cells main (line_text cells k (instr.Assert e n) ++ text) (state main t a ls) (instr.Assert e n ∷ instrs)
  assert_rest k m t a n small {e = e} d ls {text = text} {instrs = instrs} there s = record {
    signs = named (label_text k) ∷ colon ∷ keyword reserved.ProverAssert (codes "__CPROVER_assert") ∷ open_mark ∷ (expr_signs d ++ comma ∷ quoted (codes "assertion " ++ decimal n) ∷ close_mark ∷ semicolon ∷ s.signs);
    says = line_says k (instr_text cells (instr.Assert e n)) text _ (assert_says n small d (newline_says s.says));
    shallow = λ ps. let w = assert_shallow k (codes "assertion " ++ decimal n) d s.signs ps in w.1 ∙ s.shallow w.0;
    read = λ ps at.
        let v = expr_read d few (skipped 4 ps) (comma ∷ quoted (codes "assertion " ++ decimal n) ∷ close_mark ∷ semicolon ∷ s.signs) in
        let r = s.read (skipped 4 v.left) at in
        record {
          statements = _;
          parsed = g.further (g.at_first (g.label (g.at_first (g.action (g.named_assert v.parsed))))) r.parsed;
          code = placed (place 2 ps) (instr.Assert e n) ∷ r.code;
          same = ap (λ is. instr.Assert e n ∷ is) r.same;
          last = r.last;
          labels = r.labels;
          next = r.next;
          flat = λ all h. AreCode.more (IsCode.label (omega (arith, h, there, code_length r.code instrs r.same)) (IsCode.assert (small, refl) (v.value cells t _))) (r.flat all h);
        };
  }

  -- ---- jumps and the end

  jump_says : (j : ℕ) {text : List ℕ} {ss : List Sign} → Says text ss → Says (instr_text cells (instr.Jump j) ++ text) (keyword reserved.Goto (codes "goto") ∷ named (label_text j) ∷ semicolon ∷ ss)
  unfolding word_symbol
  jump_says j {text = text} {ss = ss} s =
      subst (λ t. Says t (keyword reserved.Goto (codes "goto") ∷ named (label_text j) ∷ semicolon ∷ ss)) (sym (shape (label_text j)))
      (ascii_says (codes "goto") (symbol.Keyword reserved.Goto) refl refl refl (blank_says (label_says j refl (semicolon_says s))))
    where
      shape : (x : List ℕ) → codes "goto " ++ x ++ codes ";" ++ text ≡ codes "goto" ++ 32 ∷ (x ++ 59 ∷ text)
      shape x = simp append_assoc

  pub jump_rest : (k m t a j n : ℕ) (ls : List Named) {text : List ℕ} {instrs : List Instr} → m + (1 + length instrs) ≡ end_of main + 1 → number_of (labels_of main) (label_text j) ≡ Some n → Rest cells main text (state main t a (flat.numbered (label_text k) m ∷ ls)) instrs → Rest cells main (line_text cells k (instr.Jump j) ++ text) (state main t a ls) (instr.Jump n ∷ instrs)
  jump_rest k m t a j n ls {text = text} {instrs = instrs} there found s = record {
    signs = named (label_text k) ∷ colon ∷ keyword reserved.Goto (codes "goto") ∷ named (label_text j) ∷ semicolon ∷ s.signs;
    says = line_says k (instr_text cells (instr.Jump j)) text _ (jump_says j (newline_says s.says));
    shallow = λ ps. s.shallow (skipped 5 ps);
    read = λ ps at. let r = s.read (skipped 5 ps) at in record {
      statements = _;
      parsed = g.further (g.at_first (g.label (g.at_first g.goto))) r.parsed;
      code = placed (place 2 ps) (instr.Jump n) ∷ r.code;
      same = ap (λ is. instr.Jump n ∷ is) r.same;
      last = r.last;
      labels = r.labels;
      next = r.next;
      flat = λ all h. AreCode.more (IsCode.label (omega (arith, h, there, code_length r.code instrs r.same)) (IsCode.goto found)) (r.flat all h);
    };
  }

  return_says : {text : List ℕ} {ss : List Sign} → Says text ss → Says (instr_text cells instr.End ++ text) (keyword reserved.Return (codes "return") ∷ number 0 ∷ semicolon ∷ ss)
  unfolding word_symbol
  return_says {text = text} {ss = ss} s =
      let zero_text : decimal 0 ≡ 48 ∷ [] = decimal_digit 0 (omega arith) in
      let n : Says (48 ∷ 59 ∷ text) (number 0 ∷ semicolon ∷ ss) = subst (λ t. Says (t ++ 59 ∷ text) (number 0 ∷ semicolon ∷ ss)) zero_text (number_says 0 (omega arith) refl (semicolon_says s)) in
      ascii_says (codes "return") (symbol.Keyword reserved.Return) refl refl refl (blank_says n)

  pub return_rest : (k m t a : ℕ) (ls : List Named) {text : List ℕ} {instrs : List Instr} → m + (1 + length instrs) ≡ end_of main + 1 → Rest cells main text (state main t a (flat.numbered (label_text k) m ∷ ls)) instrs → Rest cells main (line_text cells k instr.End ++ text) (state main t a ls) (instr.Jump (end_of main) ∷ instrs)
  return_rest k m t a ls {text = text} {instrs = instrs} there s = record {
    signs = named (label_text k) ∷ colon ∷ keyword reserved.Return (codes "return") ∷ number 0 ∷ semicolon ∷ s.signs;
    says = line_says k (instr_text cells instr.End) text _ (return_says (newline_says s.says));
    shallow = λ ps. s.shallow (skipped 5 ps);
    read = λ ps at. let r = s.read (skipped 5 ps) at in record {
      statements = _;
      parsed = g.further (g.at_first (g.label (g.at_first (g.return (g.given (g.plain (from_primary expr.number))))))) r.parsed;
      code = placed (place 2 ps) (instr.Jump (end_of main)) ∷ r.code;
      same = ap (λ is. instr.Jump (end_of main) ∷ is) r.same;
      last = r.last;
      labels = r.labels;
      next = r.next;
      flat = λ all h. AreCode.more (IsCode.label (omega (arith, h, there, code_length r.code instrs r.same)) (IsCode.return IsValue.number h)) (r.flat all h);
    };
  }
