-- What is in the grammar of statements is read.
use Rattle.std.proofs.Common.{◌≡◌, ℕ, zero, suc, ◌<◌, List, [], ◌∷◌, length, arith, Some, None, refl, sym, ◌∙◌, ap, ◌⊎◌, inl, inr}
use Rattle.mm_goto.specs.declared.ident.At.{At}
use Rattle.mm_goto.specs.declared.pure.Binary.TheVariants as binary
use Rattle.mm_tree.specs.declared.expr.Expr.{Expr}
use Rattle.mm_tree.specs.declared.stmt.Left.{Left}
use Rattle.mm_tree.specs.declared.stmt.Stmt.{Stmt}
use Rattle.mm_tree.specs.declared.stmt.StmtNode.{StmtNode}
use Rattle.mm_tree.specs.declared.stmt.StmtNode.TheVariants as node
use Rattle.mm_reading.specs.Parsing.{Parsed, ◌>>=◌, ◌>>◌, pure, peek, skip, after, token}
use Rattle.mm_parse_expr.specs.declared.symbol.Keyword.TheVariants as reserved
use Rattle.mm_parse_expr.specs.declared.symbol.Symbol.{Symbol}
use Rattle.mm_parse_expr.specs.declared.symbol.Symbol.TheVariants.{Name, Keyword, Operator, Update, Increment, Decrement, Assign, Semicolon, Comma, Open, Close, OpenBracket, OpenBrace, Text}
use Rattle.mm_parse_expr.specs.declared.terminal.Terminal.{Terminal}
use Rattle.mm_parse_expr.specs.Grammar.{IsExpr, terminal}
use Rattle.mm_tree.specs.Trees.{word, statement}
use Rattle.mm_parse_expr.specs.reading.ExprReading.{Reader, close, name_word}
use Rattle.mm_parse_expr.proofs.ExprComplete.{expr_complete, expr_shorter}
use Rattle.mm_grammar.specs.StatementGrammar as g
use Rattle.mm_grammar.specs.StatementGrammar.{IsLeft, IsAssign, IsNull, IsAction, IsDeclaration, IsStmt, IsStmtNode, IsBody, NoElse}
use Rattle.mm_grammar.specs.reading.StatementReading as r
use Rattle.mm_grammar.specs.reading.StatementReading.{Inner, ended}
use Rattle.mm_grammar.proofs.StatementShorter.{first_shorter, condition_shorter, step_shorter, stmt_shorter, node_shorter, declaration_shorter}
use Rattle.mm_grammar.proofs.StatementComplete.{Sets, sets_by, Split, Before, split, sets_stop, left_complete, call_complete, fetch_add_complete, compare_swap_complete, ints_complete, threads_complete, first_complete, step_complete, condition_complete, given_complete}

-- ---- calls as statements

with_expr_complete : (n : ℕ) (make : Expr → StmtNode) (q : At) (y : List ℕ) {us : List Terminal} {e : Expr} {rest : List Terminal} {s u : At} {z w : List ℕ} → IsExpr us e (terminal Close s z ∷ terminal Semicolon u w ∷ rest) → length us < n → r.with_expr n make (terminal Open q y ∷ us) ≡ Parsed (make e) rest
unfolding r.with_expr r.open_mark r.semicolon close token peek skip pure
with_expr_complete n make q y d l = ap (λ o. after o (λ e. close >> ended (make e))) (expr_complete d n tt l)

null_complete : {ts rest : List Terminal} → IsNull ts rest → r.null ts ≡ Parsed tt rest
unfolding r.null token peek skip pure
null_complete g.null_word = refl
null_complete g.null_number = refl

named_assert_complete : (n : ℕ) (q : At) (y : List ℕ) {us : List Terminal} {e : Expr} {rest : List Terminal} {i j k u : At} {z w v a : List ℕ} → IsExpr us e (terminal Comma i z ∷ terminal Text j w ∷ terminal Close k v ∷ terminal Semicolon u a ∷ rest) → length us < n → r.named_assert n (terminal Open q y ∷ us) ≡ Parsed (node.Assert e (Some (w))) rest
unfolding r.named_assert r.text r.open_mark r.comma r.semicolon close token peek skip pure
named_assert_complete n q y d l = ap (λ o. after o (λ e. r.comma >> (r.text >>= λ x. close >> ended (node.Assert e (Some x))))) (expr_complete d n tt l)

start_complete : (q i s t : At) (y z w v : List ℕ) {ts us rest : List Terminal} {j k l m h : At} {a b c d e : List ℕ} → IsNull ts (terminal Comma j a ∷ terminal Name k b ∷ terminal Comma l c ∷ us) → IsNull us (terminal Close m d ∷ terminal Semicolon h e ∷ rest) → r.start (terminal Open q y ∷ terminal (Operator binary.And) i z ∷ terminal Name s w ∷ terminal Comma t v ∷ ts) ≡ Parsed (node.Start (word s w) (word k b)) rest
unfolding r.start r.started r.open_mark r.ampersand r.comma r.semicolon name_word close token peek skip pure
start_complete q i s t y z w v {k = k} {b = b} f h =
    ap (λ o. after o (λ u. r.started (word s w))) (null_complete f)
    ∙ ap (λ o. after o (λ u. close >> ended (node.Start (word s w) (word k b)))) (null_complete h)

join_complete : (q s t : At) (y w v : List ℕ) {ts rest : List Terminal} {j k : At} {a b : List ℕ} → IsNull ts (terminal Close j a ∷ terminal Semicolon k b ∷ rest) → r.join (terminal Open q y ∷ terminal Name s w ∷ terminal Comma t v ∷ ts) ≡ Parsed (node.Join (word s w)) rest
unfolding r.join r.open_mark r.comma r.semicolon name_word close token peek skip pure
join_complete q s t y w v f = ap (λ o. after o (λ u. close >> ended (node.Join (word s w)))) (null_complete f)

-- ---- statements

-- the node is read behind the first terminal, by which a statement begins and no declaration
record NodeRead (n : ℕ) (i : Inner) (ts : List Terminal) (m : StmtNode) (rest : List Terminal) : Type 0 where
  first : Terminal
  behind : List Terminal
  same : ts ≡ first ∷ behind
  reader : Reader StmtNode
  begins : r.node_by n i first.symbol first ≡ Some reader
  alone : r.declaration_by n first.symbol ≡ None
  within : r.body_by n i first.symbol first ≡ r.body_begun i first (r.either (r.declaration_by n first.symbol) (r.node_by n i first.symbol first))
  read : reader behind ≡ Parsed m rest

named_sets : (n : ℕ) (i : Inner) (t : Terminal) (mid : List Terminal) → Sets mid → r.named n i t mid ≡ (r.named_left n t >>= λ l. r.set n l >>= ended) mid
unfolding r.named peek
named_sets n i t [] h = absurd h
named_sets n i t (u ∷ us) h = by u.symbol h
  where
    by : (s : Symbol) → sets_by s → r.named_by_next n i t s (u ∷ us) ≡ (r.named_left n t >>= λ l. r.set n l >>= ended) (u ∷ us)
    by Assign h = refl
    by (Update op) h = refl
    by Increment h = refl
    by Decrement h = refl
    by _ h = absurd h

set_node_read : (n : ℕ) (i : Inner) {ts : List Terminal} {l : Left} {mid : List Terminal} {m : StmtNode} {rest : List Terminal} {p : At} {x : List ℕ} → IsLeft ts l mid → Sets mid → r.left (suc n) ts ≡ Parsed l mid → r.set n l mid ≡ Parsed m (terminal Semicolon p x ∷ rest) → NodeRead n i ts m rest
unfolding r.left r.named r.semicolon token peek skip pure
set_node_read n i {m = m} {rest = rest} (g.name {rest = mid} {p = p} {x = x}) c e f = record {
  first = terminal Name p x;
  behind = mid;
  same = refl;
  reader = r.named n i (terminal Name p x);
  begins = refl;
  alone = refl;
  within = refl;
  read = named_sets n i (terminal Name p x) mid c ∙ ap (λ o. after o (λ l. r.set n l >>= ended)) e ∙ ap (λ o. after o ended) f;
}
set_node_read n i {m = m} {rest = rest} (g.element {ts = ts} {p = p} {q = q} {x = x} {y = y} d) c e f = record {
  first = terminal Name p x;
  behind = terminal OpenBracket q y ∷ ts;
  same = refl;
  reader = r.named n i (terminal Name p x);
  begins = refl;
  alone = refl;
  within = refl;
  read = ap (λ o. after o (λ l. r.set n l >>= ended)) e ∙ ap (λ o. after o ended) f;
}
set_node_read n i {m = m} {rest = rest} (g.pointee {ts = ts} {p = p} {x = x} d) c e f = record {
  first = terminal (Operator binary.Mul) p x;
  behind = ts;
  same = refl;
  reader = r.pointed_left n (terminal (Operator binary.Mul) p x) >>= λ l. r.set n l >>= ended;
  begins = refl;
  alone = refl;
  within = refl;
  read = ap (λ o. after o (λ l. r.set n l >>= ended)) e ∙ ap (λ o. after o ended) f;
}
set_node_read n i {m = m} {rest = rest} (g.group {ts = ts} {p = p} {x = x} d) c e f = record {
  first = terminal Open p x;
  behind = ts;
  same = refl;
  reader = r.grouped_left (r.left n) >>= λ l. r.set n l >>= ended;
  begins = refl;
  alone = refl;
  within = refl;
  read = ap (λ o. after o (λ l. r.set n l >>= ended)) e ∙ ap (λ o. after o ended) f;
}

assign_node_read : (n : ℕ) (i : Inner) {ts : List Terminal} {m : StmtNode} {rest : List Terminal} {p : At} {x : List ℕ} → IsAssign ts m (terminal Semicolon p x ∷ rest) → length ts < suc n → NodeRead n i ts m rest
unfolding r.semicolon token peek skip pure
assign_node_read n i {ts = ts} {m = m} {rest = rest} {p = p} {x = x} d l = by (split d tt)
  where
    by : Split ts m (terminal Semicolon p x ∷ rest) ⊎ Before ts m (terminal Semicolon p x ∷ rest) → NodeRead n i ts m rest
    by (inl h) = set_node_read n i h.left h.sets (left_complete h.left (suc n) (sets_stop h.mid h.sets) l) (h.set n l)
    by (inr (inl k)) = record {
      first = terminal Increment k.0 k.1;
      behind = k.2;
      same = k.3;
      reader = r.increment n (terminal Increment k.0 k.1) >>= ended;
      begins = refl;
      alone = refl;
      within = refl;
      read = ap (λ o. after o ended) (k.4 n (omega (arith, ap (λ (ts : List Terminal). length ts) k.3)));
    }
    by (inr (inr k)) = record {
      first = terminal Decrement k.0 k.1;
      behind = k.2;
      same = k.3;
      reader = r.decrement n (terminal Decrement k.0 k.1) >>= ended;
      begins = refl;
      alone = refl;
      within = refl;
      read = ap (λ o. after o ended) (k.4 n (omega (arith, ap (λ (ts : List Terminal). length ts) k.3)));
    }

action_node_read : (n : ℕ) (i : Inner) {ts : List Terminal} {m : StmtNode} {rest : List Terminal} {p : At} {x : List ℕ} → IsAction ts m (terminal Semicolon p x ∷ rest) → length ts < suc n → NodeRead n i ts m rest
unfolding r.named r.bare r.with_address r.open_mark r.ampersand r.semicolon name_word close token peek skip pure
action_node_read n i (g.effect (g.bare_call {p = p} {q = q} {x = x} {y = y})) l = record {
  first = terminal Name p x;
  behind = _;
  same = refl;
  reader = r.named n i (terminal Name p x);
  begins = refl;
  alone = refl;
  within = refl;
  read = ap (λ o. after o (λ v. ended (node.Do v))) (call_complete p q x y g.bare_call n (omega arith));
}
action_node_read n i (g.effect (g.full_call {p = p} {q = q} {x = x} {y = y} d)) l = record {
  first = terminal Name p x;
  behind = _;
  same = refl;
  reader = r.named n i (terminal Name p x);
  begins = refl;
  alone = refl;
  within = refl;
  read = ap (λ o. after o (λ v. ended (node.Do v))) (call_complete p q x y (g.full_call d) n (omega arith));
}
action_node_read n i (g.effect (g.fetch_add {p = p} {q = q} {x = x} {y = y} d f)) l = record {
  first = terminal (Keyword reserved.FetchAndAdd) p x;
  behind = _;
  same = refl;
  reader = _;
  begins = refl;
  alone = refl;
  within = refl;
  read = ap (λ o. after o (λ v. ended (node.Do v))) (fetch_add_complete p q x y d f n (omega arith));
}
action_node_read n i (g.effect (g.compare_swap {p = p} {q = q} {x = x} {y = y} d f h)) l = record {
  first = terminal (Keyword reserved.CompareAndSwap) p x;
  behind = _;
  same = refl;
  reader = _;
  begins = refl;
  alone = refl;
  within = refl;
  read = ap (λ o. after o (λ v. ended (node.Do v))) (compare_swap_complete p q x y d f h n (omega arith));
}
action_node_read n i (g.assert {p = p} {q = q} {x = x} {y = y} d) l = record {
  first = terminal (Keyword reserved.Assert) p x;
  behind = _;
  same = refl;
  reader = _;
  begins = refl;
  alone = refl;
  within = refl;
  read = with_expr_complete n (λ e. node.Assert e None) q y d (omega arith);
}
action_node_read n i (g.named_assert {p = p} {q = q} {x = x} {y = y} d) l = record {
  first = terminal (Keyword reserved.ProverAssert) p x;
  behind = _;
  same = refl;
  reader = _;
  begins = refl;
  alone = refl;
  within = refl;
  read = named_assert_complete n q y d (omega arith);
}
action_node_read n i (g.assume {p = p} {q = q} {x = x} {y = y} d) l = record {
  first = terminal (Keyword reserved.Assume) p x;
  behind = _;
  same = refl;
  reader = _;
  begins = refl;
  alone = refl;
  within = refl;
  read = with_expr_complete n node.Assume q y d (omega arith);
}
action_node_read n i (g.fence {p = p} {x = x}) l = record {
  first = terminal (Keyword reserved.Synchronize) p x;
  behind = _;
  same = refl;
  reader = _;
  begins = refl;
  alone = refl;
  within = refl;
  read = refl;
}
action_node_read n i (g.lock {p = p} {x = x}) l = record {
  first = terminal (Keyword reserved.Lock) p x;
  behind = _;
  same = refl;
  reader = _;
  begins = refl;
  alone = refl;
  within = refl;
  read = refl;
}
action_node_read n i (g.unlock {p = p} {x = x}) l = record {
  first = terminal (Keyword reserved.Unlock) p x;
  behind = _;
  same = refl;
  reader = _;
  begins = refl;
  alone = refl;
  within = refl;
  read = refl;
}
action_node_read n i (g.start {p = p} {q = q} {r = j} {s = s} {t = t} {x = x} {y = y} {z = z} {w = w} {v = v} d f) l = record {
  first = terminal (Keyword reserved.Create) p x;
  behind = _;
  same = refl;
  reader = _;
  begins = refl;
  alone = refl;
  within = refl;
  read = start_complete q j s t y z w v d f;
}
action_node_read n i (g.join {p = p} {q = q} {r = j} {s = s} {x = x} {y = y} {z = z} {w = w} d) l = record {
  first = terminal (Keyword reserved.Join) p x;
  behind = _;
  same = refl;
  reader = _;
  begins = refl;
  alone = refl;
  within = refl;
  read = join_complete q j s y z w d;
}
action_node_read n i (g.atom_begin {p = p} {x = x}) l = record {
  first = terminal (Keyword reserved.AtomicBegin) p x;
  behind = _;
  same = refl;
  reader = _;
  begins = refl;
  alone = refl;
  within = refl;
  read = refl;
}
action_node_read n i (g.atom_end {p = p} {x = x}) l = record {
  first = terminal (Keyword reserved.AtomicEnd) p x;
  behind = _;
  same = refl;
  reader = _;
  begins = refl;
  alone = refl;
  within = refl;
  read = refl;
}

else_done : (i : Inner) (e : Expr) (s : Stmt) (rest : List Terminal) → NoElse rest → peek (r.else_at i e s) rest ≡ Parsed (node.If e s None) rest
unfolding peek pure
else_done i e s [] h = refl
else_done i e s (t ∷ ts) h = by t.symbol h
  where
    by : (k : Symbol) → g.is_no_else k → r.else_by i e s k (t ∷ ts) ≡ Parsed (node.If e s None) (t ∷ ts)
    by (Keyword reserved.Else) h = absurd h
    by _ h = refl

stmt_read : (n : ℕ) (i : Inner) {t : Terminal} {ts : List Terminal} {m : StmtNode} {rest : List Terminal} → NodeRead n i (t ∷ ts) m rest → r.stmt_of n i (t ∷ ts) ≡ Parsed (statement t.at m) rest
unfolding r.stmt_of peek skip pure
stmt_read n i {t = t} {ts = ts} {m = m} {rest = rest} h =
    ap (λ us. r.stmt_of n i us) h.same
    ∙ ap (λ o. r.stmt_begun h.first o (h.first ∷ h.behind)) h.begins
    ∙ ap (λ o. after o (λ m. pure (statement h.first.at m))) h.read
    ∙ ap (λ (t : Terminal). Parsed (statement t.at m) rest) (sym (same_first h.same))
  where
    same_first : {u : Terminal} {us : List Terminal} → t ∷ ts ≡ u ∷ us → t ≡ u
    same_first e = cc

further_read : (n : ℕ) (i : Inner) {t : Terminal} {ts : List Terminal} {m : StmtNode} {mid : List Terminal} {ss : List Stmt} {rest : List Terminal} → NodeRead n i (t ∷ ts) m mid → i.body mid ≡ Parsed ss rest → r.body_of n i (t ∷ ts) ≡ Parsed (statement t.at m ∷ ss) rest
unfolding r.body_of peek skip pure
further_read n i {t = t} {ts = ts} {m = m} {ss = ss} {rest = rest} h e =
    ap (λ us. r.body_of n i us) h.same
    ∙ ap (λ (p : Reader (List Stmt)). p (h.first ∷ h.behind)) h.within
    ∙ ap (λ o. r.body_begun i h.first (r.either o (r.node_by n i h.first.symbol h.first)) (h.first ∷ h.behind)) h.alone
    ∙ ap (λ o. r.body_begun i h.first o (h.first ∷ h.behind)) h.begins
    ∙ ap (λ o. after o (λ m. i.body >>= λ ss. pure (statement h.first.at m ∷ ss))) h.read
    ∙ ap (λ o. after o (λ ss. pure (statement h.first.at m ∷ ss))) e
    ∙ ap (λ (t : Terminal). Parsed (statement t.at m ∷ ss) rest) (sym (same_first h.same))
  where
    same_first : {u : Terminal} {us : List Terminal} → t ∷ ts ≡ u ∷ us → t ≡ u
    same_first e = cc

declared_read : (n : ℕ) (i : Inner) {t : Terminal} {ts : List Terminal} {m : StmtNode} {mid : List Terminal} {ss : List Stmt} {rest : List Terminal} → IsDeclaration (t ∷ ts) m mid → length (t ∷ ts) < suc n → i.body mid ≡ Parsed ss rest → r.body_of n i (t ∷ ts) ≡ Parsed (statement t.at m ∷ ss) rest
unfolding r.body_of r.int_word token peek skip pure
declared_read n i {t = t} {m = m} (g.ints d) l e = ap (λ o. after o (λ m. i.body >>= λ ss. pure (statement t.at m ∷ ss))) (ints_complete d n (omega arith)) ∙ ap (λ o. after o (λ ss. pure (statement t.at m ∷ ss))) e
declared_read n i {t = t} {m = m} (g.volatile_ints d) l e = ap (λ o. after o (λ m. i.body >>= λ ss. pure (statement t.at m ∷ ss))) (ints_complete d n (omega arith)) ∙ ap (λ o. after o (λ ss. pure (statement t.at m ∷ ss))) e
declared_read n i {t = t} {m = m} (g.threads d) l e = ap (λ o. after o (λ m. i.body >>= λ ss. pure (statement t.at m ∷ ss))) (threads_complete d n (omega arith)) ∙ ap (λ o. after o (λ ss. pure (statement t.at m ∷ ss))) e

mutual
  unfolding r.inner r.stmt_of r.body_of r.named r.when r.while r.do_while r.for r.goto r.while_word r.open_mark r.semicolon name_word close token peek skip pure

  pub stmt_complete : {ts : List Terminal} {s : Stmt} {rest : List Terminal} → IsStmt ts s rest → (n : ℕ) → length ts < n → r.stmt n ts ≡ Parsed s rest
  stmt_complete d zero l = absurd (omega arith)
  stmt_complete (g.at_first d) (suc n) l = stmt_read n (r.inner n) (node_complete d n l)

  node_complete : {ts : List Terminal} {m : StmtNode} {rest : List Terminal} → IsStmtNode ts m rest → (n : ℕ) → length ts < suc n → NodeRead n (r.inner n) ts m rest
  node_complete (g.empty {p = p} {x = x}) n l = record {
    first = terminal Semicolon p x;
    behind = _;
    same = refl;
    reader = _;
    begins = refl;
    alone = refl;
    within = refl;
    read = refl;
  }
  node_complete (g.block {p = p} {x = x} d) n l = record {
    first = terminal OpenBrace p x;
    behind = _;
    same = refl;
    reader = _;
    begins = refl;
    alone = refl;
    within = refl;
    read = ap (λ o. after o (λ ss. pure (node.Block ss))) (body_complete d n (omega arith));
  }
  node_complete (g.assignment d) n l = assign_node_read n (r.inner n) d l
  node_complete (g.action d) n l = action_node_read n (r.inner n) d l
  node_complete {rest = rest} (g.when {e = e} {s = s} {p = p} {x = x} d f h) n l = record {
    first = terminal (Keyword reserved.If) p x;
    behind = _;
    same = refl;
    reader = _;
    begins = refl;
    alone = refl;
    within = refl;
    read = ap (λ o. after o (λ e. close >> (r.stmt n >>= λ s. peek (r.else_at (r.inner n) e s)))) (expr_complete d n tt (omega arith))
        ∙ ap (λ o. after o (λ s. peek (r.else_at (r.inner n) e s))) (stmt_complete f n (omega (arith, expr_shorter d)))
        ∙ else_done (r.inner n) e s rest h;
  }
  node_complete (g.choose {e = e} {s = s} {p = p} {x = x} d f h) n l = record {
    first = terminal (Keyword reserved.If) p x;
    behind = _;
    same = refl;
    reader = _;
    begins = refl;
    alone = refl;
    within = refl;
    read = ap (λ o. after o (λ e. close >> (r.stmt n >>= λ s. peek (r.else_at (r.inner n) e s)))) (expr_complete d n tt (omega arith))
        ∙ ap (λ o. after o (λ s. peek (r.else_at (r.inner n) e s))) (stmt_complete f n (omega (arith, expr_shorter d)))
        ∙ ap (λ o. after o (λ o. pure (node.If e s (Some o)))) (stmt_complete h n (omega (arith, expr_shorter d, stmt_shorter f)));
  }
  node_complete (g.while {e = e} {p = p} {x = x} d f) n l = record {
    first = terminal (Keyword reserved.While) p x;
    behind = _;
    same = refl;
    reader = _;
    begins = refl;
    alone = refl;
    within = refl;
    read = ap (λ o. after o (λ e. close >> (r.stmt n >>= λ s. pure (node.While e s)))) (expr_complete d n tt (omega arith))
        ∙ ap (λ o. after o (λ s. pure (node.While e s))) (stmt_complete f n (omega (arith, expr_shorter d)));
  }
  node_complete (g.do_while {s = s} {p = p} {r = q} {x = x} {z = z} d f) n l = record {
    first = terminal (Keyword reserved.Do) p x;
    behind = _;
    same = refl;
    reader = _;
    begins = refl;
    alone = refl;
    within = refl;
    read = ap (λ o. after o (λ s. r.while_word >> r.with_expr n (λ e. node.DoWhile s e))) (stmt_complete d n (omega arith))
        ∙ with_expr_complete n (λ e. node.DoWhile s e) q z f (omega (arith, stmt_shorter d));
  }
  node_complete (g.for {first = first} {step = step} {e = e} {p = p} {x = x} d c h f) n l = record {
    first = terminal (Keyword reserved.For) p x;
    behind = _;
    same = refl;
    reader = _;
    begins = refl;
    alone = refl;
    within = refl;
    read = ap (λ o. after o (λ f. r.condition n >>= λ e. r.step n >>= λ s. r.stmt n >>= λ b. pure (node.For f (Some e) s b))) (first_complete d n (omega arith))
        ∙ ap (λ o. after o (λ e. r.step n >>= λ s. r.stmt n >>= λ b. pure (node.For first (Some e) s b))) (condition_complete c n (omega (arith, first_shorter d)))
        ∙ ap (λ o. after o (λ s. r.stmt n >>= λ b. pure (node.For first (Some e) s b))) (step_complete h n (omega (arith, first_shorter d, condition_shorter c)))
        ∙ ap (λ o. after o (λ b. pure (node.For first (Some e) step b))) (stmt_complete f n (omega (arith, first_shorter d, condition_shorter c, step_shorter h)));
  }
  node_complete (g.break {p = p} {x = x}) n l = record {
    first = terminal (Keyword reserved.Break) p x;
    behind = _;
    same = refl;
    reader = _;
    begins = refl;
    alone = refl;
    within = refl;
    read = refl;
  }
  node_complete (g.continue {p = p} {x = x}) n l = record {
    first = terminal (Keyword reserved.Continue) p x;
    behind = _;
    same = refl;
    reader = _;
    begins = refl;
    alone = refl;
    within = refl;
    read = refl;
  }
  node_complete (g.return {p = p} {x = x} d) n l = record {
    first = terminal (Keyword reserved.Return) p x;
    behind = _;
    same = refl;
    reader = _;
    begins = refl;
    alone = refl;
    within = refl;
    read = ap (λ o. after o (λ v. pure (node.Return v))) (given_complete d n (omega arith));
  }
  node_complete (g.goto {p = p} {x = x}) n l = record {
    first = terminal (Keyword reserved.Goto) p x;
    behind = _;
    same = refl;
    reader = _;
    begins = refl;
    alone = refl;
    within = refl;
    read = refl;
  }
  node_complete (g.label {p = p} {x = x} d) n l = record {
    first = terminal Name p x;
    behind = _;
    same = refl;
    reader = _;
    begins = refl;
    alone = refl;
    within = refl;
    read = ap (λ o. after o (λ s. pure (node.Label (word p x) s))) (stmt_complete d n (omega arith));
  }

  pub body_complete : {ts : List Terminal} {ss : List Stmt} {rest : List Terminal} → IsBody ts ss rest → (n : ℕ) → length ts < n → r.body n ts ≡ Parsed ss rest
  body_complete d zero l = absurd (omega arith)
  body_complete g.end (suc n) l = refl
  body_complete (g.declaration d f) (suc n) l = declared_read n (r.inner n) d l (body_complete f n (omega (arith, declaration_shorter d)))
  body_complete (g.further (g.at_first d) f) (suc n) l = further_read n (r.inner n) (node_complete d n l) (body_complete f n (omega (arith, node_shorter d)))
