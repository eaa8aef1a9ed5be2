-- How much of the limits of a woven program its printed text takes: open brackets, and tokens since the last of the four marks
-- that end a run of tokens. What is said here is enough for the text to pass no limit; it is no more than that.
use Rattle.std.specs.Prelude.{ℕ, zero, suc, ◌+◌, ◌≤◌, Bool, List, All, Option}
use Rattle.mm_tree.specs.declared.expr.Expr.{Expr}
use Rattle.mm_tree.specs.declared.item.Global.{Global}
use Rattle.mm_tree.specs.declared.item.Item.{Item}
use Rattle.mm_tree.specs.declared.item.Tree.{Tree}
use Rattle.mm_tree.specs.declared.stmt.LeftNode.{LeftNode}
use Rattle.mm_tree.specs.declared.stmt.Stmt.{Stmt}
use Rattle.mm_tree.specs.declared.stmt.StmtNode.{StmtNode}
use Rattle.mm_tree.specs.declared.stmt.Value.{Value}
use Rattle.mm_print.specs.Printable.{OneOrMore, IsPrintable, IsPrintableLeft, IsPrintableCall, IsPrintableValue, IsPrintableGiven, IsPrintableDeclaration, IsPrintableAssignment, IsPrintableAction, IsPrintableStmt, IsPrintableBody, IsPrintableInit, IsPrintableGlobal, IsPrintableItem}

-- so many brackets are open at once, and so many tokens stand there
pub record Room : Type 0 where
  pub brackets : ℕ
  pub tokens : ℕ

abbrev pub takes : ℕ → ℕ → Room
takes b t = record { brackets = b; tokens = t }

-- a bracket around, and so many tokens more
abbrev pub over : ℕ → Room → Room
over n r = takes (1 + r.brackets) (n + r.tokens)

-- so many tokens more
abbrev pub behind : ℕ → Room → Room
behind n r = takes r.brackets (n + r.tokens)

abbrev pub beside : Room → Room → Room
beside r s = takes (r.brackets + s.brackets) (r.tokens + s.tokens)

-- ---- expressions

-- a part of another may have parentheses around it
abbrev pub expr_room : {e : Expr} → IsPrintable e → Room
expr_room (IsPrintable.number h) = takes 0 1
expr_room IsPrintable.null = takes 0 1
expr_room (IsPrintable.name h) = takes 0 1
expr_room (IsPrintable.element h i) = over 3 (expr_room i)
expr_room (IsPrintable.pointee i) = over 3 (expr_room i)
expr_room (IsPrintable.address h) = takes 0 2
expr_room (IsPrintable.element_address h i) = over 4 (expr_room i)
expr_room (IsPrintable.un i) = over 3 (expr_room i)
expr_room (IsPrintable.bin i j) = over 5 (beside (expr_room i) (expr_room j))
expr_room (IsPrintable.cond h i j) = over 8 (beside (expr_room h) (beside (expr_room i) (expr_room j)))

-- one or more, with commas between them: each comma ends a run, so that the sum is more than enough
abbrev pub list_room : {A : Type 0} {P : A → Type 0} {xs : List A} → ((a : A) → P a → Room) → OneOrMore P xs → Room
list_room room (OneOrMore.last {a = a} h) = room a h
list_room room (OneOrMore.more {a = a} h hs) = beside (room a h) (list_room room hs)

-- ---- the parts of statements

abbrev pub left_room : {l : LeftNode} → IsPrintableLeft l → Room
left_room (IsPrintableLeft.name h) = takes 0 1
left_room (IsPrintableLeft.element h i) = over 3 (expr_room i)
left_room (IsPrintableLeft.pointee i) = over 3 (expr_room i)

abbrev pub call_room : {v : Value} → IsPrintableCall v → Room
call_room (IsPrintableCall.bare_call h) = takes 1 3
call_room (IsPrintableCall.call h i) = over 3 (list_room (λ e j. expr_room j) i)
call_room (IsPrintableCall.fetch_add i j) = over 4 (beside (expr_room i) (expr_room j))
call_room (IsPrintableCall.compare_swap i j k) = over 5 (beside (expr_room i) (beside (expr_room j) (expr_room k)))

abbrev pub value_room : {v : Value} → IsPrintableValue v → Room
value_room (IsPrintableValue.plain i) = expr_room i
value_room (IsPrintableValue.called i) = call_room i

-- a start value behind `=`, or a value behind `return`
abbrev pub given_room : {v : Option Value} → IsPrintableGiven v → Room
given_room IsPrintableGiven.none = takes 0 1
given_room (IsPrintableGiven.some i) = behind 1 (value_room i)

abbrev pub assignment_room : {m : StmtNode} → IsPrintableAssignment m → Room
assignment_room (IsPrintableAssignment.assign i j) = behind 1 (beside (left_room i) (value_room j))
assignment_room (IsPrintableAssignment.update i u j) = behind 1 (beside (left_room i) (expr_room j))

abbrev pub declaration_room : {m : StmtNode} → IsPrintableDeclaration m → Room
declaration_room (IsPrintableDeclaration.ints i) = behind 1 (list_room (λ l h. behind 2 (given_room h.value)) i)
declaration_room (IsPrintableDeclaration.threads i) = behind 1 (list_room (λ w h. takes 0 1) i)

abbrev pub action_room : {m : StmtNode} → IsPrintableAction m → Room
action_room (IsPrintableAction.effect i) = call_room i
action_room (IsPrintableAction.assert i) = over 3 (expr_room i)
action_room (IsPrintableAction.named_assert i t) = over 5 (expr_room i)
action_room (IsPrintableAction.assume i) = over 3 (expr_room i)
action_room IsPrintableAction.fence = takes 1 3
action_room (IsPrintableAction.lock h) = takes 1 5
action_room (IsPrintableAction.unlock h) = takes 1 5
action_room (IsPrintableAction.start h i) = takes 1 11
action_room (IsPrintableAction.join h) = takes 1 6
action_room IsPrintableAction.atom_begin = takes 1 3
action_room IsPrintableAction.atom_end = takes 1 3

-- ---- statements

-- how many tokens stand before the first of its marks that ends a run
abbrev pub first_run : {s : Stmt} {o : Bool} → IsPrintableStmt s o → ℕ
first_run IsPrintableStmt.empty = 0
first_run (IsPrintableStmt.block d) = 0
first_run (IsPrintableStmt.assignment i) = (assignment_room i).tokens
first_run (IsPrintableStmt.action i) = (action_room i).tokens
first_run (IsPrintableStmt.when i d) = 3 + ((expr_room i).tokens + first_run d)
first_run (IsPrintableStmt.choose i c d) = 3 + ((expr_room i).tokens + first_run c)
first_run (IsPrintableStmt.while i d) = 3 + ((expr_room i).tokens + first_run d)
first_run (IsPrintableStmt.do_while i d) = 1 + first_run d
first_run (IsPrintableStmt.for i j k d) = 0
first_run IsPrintableStmt.break = 1
first_run IsPrintableStmt.continue = 1
first_run (IsPrintableStmt.return i) = 1 + (given_room i).tokens
first_run (IsPrintableStmt.goto h) = 2
first_run (IsPrintableStmt.label h d) = 2 + first_run d

-- a run of tokens that the text of a woven program may have
abbrev pub IsShortRun : ℕ → Type 0
IsShortRun t = t ≤ 2048

abbrev mutual
  -- Within so many brackets, and each further run of tokens is short. `else` and `for`, of which no woven
  -- program has any, are not measured.
  pub HasRoom : {s : Stmt} {o : Bool} → ℕ → IsPrintableStmt s o → Type 0
  HasRoom b IsPrintableStmt.empty = Unit {0}
  HasRoom zero (IsPrintableStmt.block d) = ⊥
  HasRoom (suc b) (IsPrintableStmt.block d) = BodyHasRoom b d
  HasRoom b (IsPrintableStmt.assignment i) = (assignment_room i).brackets ≤ b
  HasRoom b (IsPrintableStmt.action i) = (action_room i).brackets ≤ b
  HasRoom b (IsPrintableStmt.when i d) = (1 + (expr_room i).brackets ≤ b) × HasRoom b d
  HasRoom b (IsPrintableStmt.choose i c d) = ⊥
  HasRoom b (IsPrintableStmt.while i d) = (1 + (expr_room i).brackets ≤ b) × HasRoom b d
  HasRoom b (IsPrintableStmt.do_while i d) = (1 + (expr_room i).brackets ≤ b) × IsShortRun (3 + (expr_room i).tokens) × HasRoom b d
  HasRoom b (IsPrintableStmt.for i j k d) = ⊥
  HasRoom b IsPrintableStmt.break = Unit {0}
  HasRoom b IsPrintableStmt.continue = Unit {0}
  HasRoom b (IsPrintableStmt.return i) = (given_room i).brackets ≤ b
  HasRoom b (IsPrintableStmt.goto h) = Unit {0}
  HasRoom b (IsPrintableStmt.label h d) = HasRoom b d

  -- the same of a block's statements, each of which begins behind such a mark
  pub BodyHasRoom : {ss : List Stmt} → ℕ → IsPrintableBody ss → Type 0
  BodyHasRoom b IsPrintableBody.none = Unit {0}
  BodyHasRoom b (IsPrintableBody.declaration i ds) = ((declaration_room i).brackets ≤ b) × IsShortRun (declaration_room i).tokens × BodyHasRoom b ds
  BodyHasRoom b (IsPrintableBody.further d ds) = IsShortRun (first_run d) × HasRoom b d × BodyHasRoom b ds

-- ---- items

abbrev pub init_room : {e : Expr} → IsPrintableInit e → Room
init_room (IsPrintableInit.constant i) = takes 0 2
init_room IsPrintableInit.null = takes 0 1
init_room (IsPrintableInit.address h) = takes 0 2
init_room (IsPrintableInit.element_address h i) = takes 1 5

abbrev pub global_room : {g : Global} → IsPrintableGlobal g → Room
global_room (IsPrintableGlobal.variable h) = takes 0 2
global_room (IsPrintableGlobal.set_variable h i) = behind 3 (init_room i)
global_room (IsPrintableGlobal.array h n) = takes 1 4
global_room (IsPrintableGlobal.set_array h n c) = takes 1 5

abbrev pub globals_room : {gs : List Global} → OneOrMore IsPrintableGlobal gs → Room
globals_room h = behind 1 (list_room (λ g i. global_room i) h)

-- a function's body stands in one bracket of its own
abbrev pub ItemHasRoom : {i : Item} → IsPrintableItem i → Type 0
ItemHasRoom (IsPrintableItem.globals h) = ((globals_room h).brackets ≤ 512) × IsShortRun (globals_room h).tokens
ItemHasRoom (IsPrintableItem.mutexes h) = Unit {0}
ItemHasRoom (IsPrintableItem.threads h) = Unit {0}
ItemHasRoom (IsPrintableItem.input h) = Unit {0}
ItemHasRoom (IsPrintableItem.bare_function h d) = BodyHasRoom 511 d
ItemHasRoom (IsPrintableItem.function o h a d) = BodyHasRoom 511 d
ItemHasRoom (IsPrintableItem.thread_function h i d) = BodyHasRoom 511 d

-- a printable item, and its room
pub record IsRoomy (i : Item) : Type 0 where
  pub printable : IsPrintableItem i
  pub room : ItemHasRoom printable

abbrev pub IsRoomyTree : Tree → Type 0
IsRoomyTree tree = All IsRoomy tree.items
