-- How much room each form of C takes that a woven program has.
use Rattle.std.proofs.Common.{ℕ, zero, suc, ◌+◌, ◌<◌, ◌≤◌, ◌^◌, Bool, true, false, List, [], ◌∷◌, ◌++◌, arith, codes}
use Rattle.std.specs.List.{AllByRecursion}
use Rattle.mm_goto.specs.declared.pure.Unary.{Unary}
use Rattle.mm_goto.specs.declared.pure.Binary.{Binary}
use Rattle.mm_goto.specs.declared.ident.Ident.{Ident}
use Rattle.mm_tree.specs.Places.{nowhere}
use Rattle.mm_tree.specs.declared.expr.Expr.{Expr}
use Rattle.mm_tree.specs.declared.expr.Node.{roll-Node}
use Rattle.mm_tree.specs.declared.stmt.Stmt.{Stmt}
use Rattle.mm_tree.specs.declared.stmt.StmtNode.{roll-StmtNode}
use Rattle.mm_tree.specs.declared.stmt.Value.{Value}
use Rattle.mm_words.specs.Words as word
use Rattle.mm_words.specs.Words.{expr_of, stmt_of}
use Rattle.mm_print.specs.Printable.{OneOrMore, IsPrintable, IsPrintableNumber, IsPrintableName, IsPrintableLeft, IsPrintableCall, IsPrintableValue, IsPrintableGiven, IsPrintableDeclaration, IsPrintableAssignment, IsPrintableAction, IsPrintableStmt, IsPrintableBody, IsPrintableText}
use Rattle.mm_print.specs.Room.{expr_room, list_room, call_room, first_run, HasRoom, BodyHasRoom}

-- ---- expressions

-- the expression is printable, within so many brackets and tokens
pub record ExprReads (e : Expr) (b t : ℕ) : Type 0 where
  pub printable : IsPrintable e
  pub brackets : (expr_room printable).brackets ≤ b
  pub tokens : (expr_room printable).tokens ≤ t

-- what has room has more room
pub widened : {b t : ℕ} {e : Expr} (c u : ℕ) → b ≤ c → t ≤ u → ExprReads e b t → ExprReads e c u
widened c u more longer r = record {
  printable = r.printable;
  brackets = (let h = r.brackets in omega (arith, h, more));
  tokens = (let h = r.tokens in omega (arith, h, longer));
}

pub num_reads : (n : ℕ) → n < 2 ^ 31 → ExprReads (word.num n) 0 1
unfolding expr_of roll-Node denote.Hole.Carrier.roll
num_reads n small = record { printable = IsPrintable.number (IsPrintableNumber.number small); brackets = omega arith; tokens = omega arith }

pub var_reads : (x : Ident) → IsPrintableName x → ExprReads (word.var x) 0 1
unfolding expr_of roll-Node denote.Hole.Carrier.roll
var_reads x name = record { printable = IsPrintable.name name; brackets = omega arith; tokens = omega arith }

pub elem_reads : {b t : ℕ} (x : Ident) (e : Expr) → IsPrintableName x → ExprReads e b t → ExprReads (word.elem x e) (1 + b) (3 + t)
unfolding expr_of roll-Node denote.Hole.Carrier.roll
elem_reads x e name r = record { printable = IsPrintable.element name r.printable; brackets = (let h = r.brackets in omega (arith, h)); tokens = (let h = r.tokens in omega (arith, h)) }

pub un_reads : {b t : ℕ} (op : Unary) (e : Expr) → ExprReads e b t → ExprReads (word.un op e) (1 + b) (3 + t)
unfolding expr_of roll-Node denote.Hole.Carrier.roll
un_reads op e r = record { printable = IsPrintable.un r.printable; brackets = (let h = r.brackets in omega (arith, h)); tokens = (let h = r.tokens in omega (arith, h)) }

pub bin_reads : {b t c u : ℕ} (op : Binary) (e f : Expr) → ExprReads e b t → ExprReads f c u → ExprReads (word.bin op e f) (1 + (b + c)) (5 + (t + u))
unfolding expr_of roll-Node denote.Hole.Carrier.roll
bin_reads op e f r s = record {
  printable = IsPrintable.bin r.printable s.printable;
  brackets = (let h = r.brackets in let k = s.brackets in omega (arith, h, k));
  tokens = (let h = r.tokens in let k = s.tokens in omega (arith, h, k));
}

pub choice_reads : {b t c u d v : ℕ} (e f g : Expr) → ExprReads e b t → ExprReads f c u → ExprReads g d v → ExprReads (word.choice e f g) (1 + (b + (c + d))) (8 + (t + (u + v)))
unfolding expr_of roll-Node denote.Hole.Carrier.roll
choice_reads e f g r s q = record {
  printable = IsPrintable.cond r.printable s.printable q.printable;
  brackets = (let h = r.brackets in let k = s.brackets in let l = q.brackets in omega (arith, h, k, l));
  tokens = (let h = r.tokens in let k = s.tokens in let l = q.tokens in omega (arith, h, k, l));
}

-- ---- arguments

pub record ArgumentsRead (es : List Expr) (b t : ℕ) : Type 0 where
  pub printable : OneOrMore IsPrintable es
  pub brackets : (list_room (λ e j. expr_room j) printable).brackets ≤ b
  pub tokens : (list_room (λ e j. expr_room j) printable).tokens ≤ t

pub one_argument : {b t : ℕ} {e : Expr} → ExprReads e b t → ArgumentsRead (e ∷ []) b t
one_argument r = record { printable = OneOrMore.last r.printable; brackets = r.brackets; tokens = r.tokens }

pub more_arguments : {b t c u : ℕ} {e f : Expr} {es : List Expr} → ExprReads e b t → ArgumentsRead (f ∷ es) c u → ArgumentsRead (e ∷ f ∷ es) (b + c) (t + u)
more_arguments r s = record {
  printable = OneOrMore.more r.printable s.printable;
  brackets = (let h = r.brackets in let k = s.brackets in omega (arith, h, k));
  tokens = (let h = r.tokens in let k = s.tokens in omega (arith, h, k));
}

pub record CallReads (v : Value) (b t : ℕ) : Type 0 where
  pub printable : IsPrintableCall v
  pub brackets : (call_room printable).brackets ≤ b
  pub tokens : (call_room printable).tokens ≤ t

pub bare_call : (f : Ident) → IsPrintableName f → CallReads (word.called f []) 1 3
bare_call f name = record { printable = IsPrintableCall.bare_call name; brackets = omega arith; tokens = omega arith }

pub call_with : {b t : ℕ} {es : List Expr} (f : Ident) → IsPrintableName f → ArgumentsRead es b t → CallReads (word.called f es) (1 + b) (3 + t)
call_with f name r = record { printable = IsPrintableCall.call name r.printable; brackets = (let h = r.brackets in omega (arith, h)); tokens = (let h = r.tokens in omega (arith, h)) }

-- ---- statements

-- The statement is printable, has room within so many brackets or more, and so many tokens stand before the first of its marks that
-- ends a run.
pub record StmtReads (b t : ℕ) (s : Stmt) : Type 0 where
  pub open_if : Bool
  pub printable : IsPrintableStmt s open_if
  pub room : (c : ℕ) → b ≤ c → HasRoom c printable
  pub run : first_run printable ≤ t

pub skip_reads : (b t : ℕ) → StmtReads b t word.skip
unfolding stmt_of roll-StmtNode denote.Hole.Carrier.roll
skip_reads b t = record { open_if = false; printable = IsPrintableStmt.empty; room = λ c h. tt; run = omega arith }

pub assign_reads : {b t : ℕ} (x : Ident) (e : Expr) → IsPrintableName x → ExprReads e b t → StmtReads b (2 + t) (word.assign x e)
unfolding stmt_of roll-StmtNode denote.Hole.Carrier.roll
assign_reads x e name r = record {
  open_if = false;
  printable = IsPrintableStmt.assignment (IsPrintableAssignment.assign (IsPrintableLeft.name name) (IsPrintableValue.plain r.printable));
  room = λ c h. (let k = r.brackets in omega (arith, h, k));
  run = (let k = r.tokens in omega (arith, k));
}

pub assign_call_reads : {b t : ℕ} {es : List Expr} (x f : Ident) → IsPrintableName x → CallReads (word.called f es) b t → StmtReads b (2 + t) (word.assign_call x f es)
unfolding stmt_of roll-StmtNode denote.Hole.Carrier.roll
assign_call_reads x f name r = record {
  open_if = false;
  printable = IsPrintableStmt.assignment (IsPrintableAssignment.assign (IsPrintableLeft.name name) (IsPrintableValue.called r.printable));
  room = λ c h. (let k = r.brackets in omega (arith, h, k));
  run = (let k = r.tokens in omega (arith, k));
}

pub assign_elem_reads : {b t c u : ℕ} (x : Ident) (i e : Expr) → IsPrintableName x → ExprReads i b t → ExprReads e c u → StmtReads (1 + (b + c)) (4 + (t + u)) (word.assign_elem x i e)
unfolding stmt_of roll-StmtNode denote.Hole.Carrier.roll
assign_elem_reads x i e name r s = record {
  open_if = false;
  printable = IsPrintableStmt.assignment (IsPrintableAssignment.assign (IsPrintableLeft.element name r.printable) (IsPrintableValue.plain s.printable));
  room = λ d h. (let k = r.brackets in let l = s.brackets in omega (arith, h, k, l));
  run = (let k = r.tokens in let l = s.tokens in omega (arith, k, l));
}

pub call_reads : {b t : ℕ} {es : List Expr} (f : Ident) → CallReads (word.called f es) b t → StmtReads b t (word.call f es)
unfolding stmt_of roll-StmtNode denote.Hole.Carrier.roll
call_reads f r = record {
  open_if = false;
  printable = IsPrintableStmt.action (IsPrintableAction.effect r.printable);
  room = λ c h. (let k = r.brackets in omega (arith, h, k));
  run = r.tokens;
}

pub assume_reads : {b t : ℕ} (e : Expr) → ExprReads e b t → StmtReads (1 + b) (3 + t) (word.assume e)
unfolding stmt_of roll-StmtNode denote.Hole.Carrier.roll
assume_reads e r = record {
  open_if = false;
  printable = IsPrintableStmt.action (IsPrintableAction.assume r.printable);
  room = λ c h. (let k = r.brackets in omega (arith, h, k));
  run = (let k = r.tokens in omega (arith, k));
}

pub assert_reads : {b t : ℕ} (e : Expr) (n : ℕ) → IsPrintableText (word.numbered (codes "assertion ") n) → ExprReads e b t → StmtReads (1 + b) (5 + t) (word.assert e n)
unfolding stmt_of roll-StmtNode denote.Hole.Carrier.roll
assert_reads e n text r = record {
  open_if = false;
  printable = IsPrintableStmt.action (IsPrintableAction.named_assert r.printable text);
  room = λ c h. (let k = r.brackets in omega (arith, h, k));
  run = (let k = r.tokens in omega (arith, k));
}

pub return_reads : {b t : ℕ} (e : Expr) → ExprReads e b t → StmtReads b (2 + t) (word.return e)
unfolding stmt_of roll-StmtNode denote.Hole.Carrier.roll
return_reads e r = record {
  open_if = false;
  printable = IsPrintableStmt.return (IsPrintableGiven.some (IsPrintableValue.plain r.printable));
  room = λ c h. (let k = r.brackets in omega (arith, h, k));
  run = (let k = r.tokens in omega (arith, k));
}

pub go_to_reads : (x : Ident) → IsPrintableName x → StmtReads 0 2 (word.go_to x)
unfolding stmt_of roll-StmtNode denote.Hole.Carrier.roll
go_to_reads x name = record { open_if = false; printable = IsPrintableStmt.goto name; room = λ c h. tt; run = omega arith }

pub branch_reads : {b t : ℕ} (e : Expr) (x : Ident) → ExprReads e b t → IsPrintableName x → StmtReads (1 + b) (5 + t) (word.branch e x)
unfolding stmt_of roll-StmtNode denote.Hole.Carrier.roll
branch_reads e x r name = record {
  open_if = true;
  printable = IsPrintableStmt.when r.printable (IsPrintableStmt.goto name);
  room = λ c h. ((let k = r.brackets in omega (arith, h, k)), tt);
  run = (let k = r.tokens in omega (arith, k));
}

pub label_reads : {b t : ℕ} (x : Ident) (s : Stmt) → IsPrintableName x → StmtReads b t s → StmtReads b (2 + t) (word.label x s)
unfolding stmt_of roll-StmtNode denote.Hole.Carrier.roll
label_reads x s name r = record {
  open_if = r.open_if;
  printable = IsPrintableStmt.label name r.printable;
  room = r.room;
  run = (let k = r.run in omega (arith, k));
}

pub fence_reads : StmtReads 1 3 word.fence
unfolding stmt_of roll-StmtNode denote.Hole.Carrier.roll
fence_reads = record { open_if = false; printable = IsPrintableStmt.action IsPrintableAction.fence; room = λ c h. h; run = omega arith }

pub lock_reads : (m : Ident) → IsPrintableName m → StmtReads 1 5 (word.lock m)
unfolding stmt_of roll-StmtNode denote.Hole.Carrier.roll
lock_reads m name = record { open_if = false; printable = IsPrintableStmt.action (IsPrintableAction.lock name); room = λ c h. h; run = omega arith }

pub unlock_reads : (m : Ident) → IsPrintableName m → StmtReads 1 5 (word.unlock m)
unfolding stmt_of roll-StmtNode denote.Hole.Carrier.roll
unlock_reads m name = record { open_if = false; printable = IsPrintableStmt.action (IsPrintableAction.unlock name); room = λ c h. h; run = omega arith }

pub start_reads : (t f : Ident) → IsPrintableName t → IsPrintableName f → StmtReads 1 11 (word.start t f)
unfolding stmt_of roll-StmtNode denote.Hole.Carrier.roll
start_reads t f name body = record { open_if = false; printable = IsPrintableStmt.action (IsPrintableAction.start name body); room = λ c h. h; run = omega arith }

pub join_reads : (t : Ident) → IsPrintableName t → StmtReads 1 6 (word.join t)
unfolding stmt_of roll-StmtNode denote.Hole.Carrier.roll
join_reads t name = record { open_if = false; printable = IsPrintableStmt.action (IsPrintableAction.join name); room = λ c h. h; run = omega arith }

pub begin_reads : StmtReads 1 3 word.atomic_begin
unfolding stmt_of roll-StmtNode denote.Hole.Carrier.roll
begin_reads = record { open_if = false; printable = IsPrintableStmt.action IsPrintableAction.atom_begin; room = λ c h. h; run = omega arith }

pub end_reads : StmtReads 1 3 word.atomic_end
unfolding stmt_of roll-StmtNode denote.Hole.Carrier.roll
end_reads = record { open_if = false; printable = IsPrintableStmt.action IsPrintableAction.atom_end; room = λ c h. h; run = omega arith }

-- so it is for a statement
pub wider : {b t : ℕ} {s : Stmt} (c u : ℕ) → b ≤ c → t ≤ u → StmtReads b t s → StmtReads c u s
wider c u more longer r = record {
  open_if = r.open_if;
  printable = r.printable;
  room = λ d h. r.room d (omega (arith, more, h));
  run = (let k = r.run in omega (arith, k, longer));
}

-- ---- bodies

-- the statements and declarations are printable, and have room within so many brackets or more
pub record BodyReads (b : ℕ) (ss : List Stmt) : Type 0 where
  pub printable : IsPrintableBody ss
  pub room : (c : ℕ) → b ≤ c → BodyHasRoom c printable

pub no_body : (b : ℕ) → BodyReads b []
no_body b = record { printable = IsPrintableBody.none; room = λ c h. tt }

pub declared : {b : ℕ} {ss : List Stmt} (x : Ident) → IsPrintableName x → BodyReads b ss → BodyReads b (word.declare x ∷ ss)
unfolding stmt_of roll-StmtNode denote.Hole.Carrier.roll
declared x name r = record {
  printable = IsPrintableBody.declaration (IsPrintableDeclaration.ints (OneOrMore.last (record { name = name; value = IsPrintableGiven.none }))) r.printable;
  room = λ c h. (omega arith, omega arith, r.room c h);
}

pub further : {b t : ℕ} {s : Stmt} {ss : List Stmt} → StmtReads b t s → t ≤ 2048 → BodyReads b ss → BodyReads b (s ∷ ss)
further r short rest = record {
  printable = IsPrintableBody.further r.printable rest.printable;
  room = λ c h. ((let k = r.run in omega (arith, k, short)), r.room c h, rest.room c h);
}

-- statements that have room, and others behind them
pub all_further : (b t : ℕ) (ss rest : List Stmt) → t ≤ 2048 → AllByRecursion (StmtReads b t) ss → BodyReads b rest → BodyReads b (ss ++ rest)
all_further b t [] rest short all r = r
all_further b t (s ∷ ss) rest short all r = further all.0 short (all_further b t ss rest short all.1 r)

-- a block within what stands before it
block_room : {b : ℕ} {ss : List Stmt} (r : BodyReads b ss) (c : ℕ) → 1 + b ≤ c → HasRoom c (IsPrintableStmt.block {at = nowhere} r.printable)
block_room r zero h = absurd (omega (arith, h))
block_room r (suc c) h = r.room c (omega (arith, h))

pub when_within : {b t c : ℕ} {ss : List Stmt} (d : ℕ) (e : Expr) → 1 + b ≤ d → 1 + c ≤ d → ExprReads e b t → BodyReads c ss → StmtReads d (3 + t) (word.when e ss)
unfolding stmt_of roll-StmtNode denote.Hole.Carrier.roll
when_within d e first second r body = record {
  open_if = true;
  printable = IsPrintableStmt.when r.printable (IsPrintableStmt.block body.printable);
  room = λ c h. ((let k = r.brackets in omega (arith, h, k, first)), block_room body c (omega (arith, h, second)));
  run = (let k = r.tokens in omega (arith, k));
}

pub when_reads : {b t c : ℕ} {ss : List Stmt} (e : Expr) → ExprReads e b t → BodyReads c ss → StmtReads (1 + (b + c)) (3 + t) (word.when e ss)
when_reads {b = b} {c = c} e r body = when_within (1 + (b + c)) e (omega arith) (omega arith) r body

pub while_reads : {b t c : ℕ} {ss : List Stmt} (e : Expr) → ExprReads e b t → BodyReads c ss → StmtReads (1 + (b + c)) (3 + t) (word.while e ss)
unfolding stmt_of roll-StmtNode denote.Hole.Carrier.roll
while_reads {b = b} {c = c} e r body = record {
  open_if = false;
  printable = IsPrintableStmt.while r.printable (IsPrintableStmt.block body.printable);
  room = λ d h. ((let k = r.brackets in omega (arith, h, k)), block_room body d (omega (arith, h)));
  run = (let k = r.tokens in omega (arith, k));
}
