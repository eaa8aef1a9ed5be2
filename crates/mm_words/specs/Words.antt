-- The trees of woven programs by words: one for each form of C that is written there. All stand at 1:1.
use Rattle.std.specs.Prelude.{ℕ, ℤ, pos, true, false, List, [], ◌∷◌, ◌++◌, codes, Option, Some, None, option_map}
use Rattle.std.specs.Fmt.{decimal}
use Rattle.mm_goto.specs.declared.ident.Ident.{Ident}
use Rattle.mm_goto.specs.declared.pure.Unary.{Unary}
use Rattle.mm_goto.specs.declared.pure.Binary.{Binary}
use Rattle.mm_goto.specs.declared.pure.Binary.TheVariants.{Add, Sub, Mul, Rem, Lt, Le, Gt, Eq, Ne, Land}
use Rattle.mm_tree.specs.Places.{nowhere}
use Rattle.mm_tree.specs.Trees as tree
use Rattle.mm_tree.specs.declared.expr.Word.{Word}
use Rattle.mm_tree.specs.declared.expr.Expr.{Expr, roll-Expr}
use Rattle.mm_tree.specs.declared.expr.Node.{Node, roll-Node}
use Rattle.mm_tree.specs.declared.expr.Node.TheOpen.{Node-F, Number, Name, Index, Deref, AddrName, AddrIndex, Un, Bin, Cond}
use Rattle.mm_tree.specs.declared.stmt.LeftNode.{LeftNode}
use Rattle.mm_tree.specs.declared.stmt.LeftNode.TheVariants as left
use Rattle.mm_tree.specs.declared.stmt.Value.{Value}
use Rattle.mm_tree.specs.declared.stmt.Value.TheVariants.{Plain, Call}
use Rattle.mm_tree.specs.declared.stmt.Stmt.{Stmt, roll-Stmt}
use Rattle.mm_tree.specs.declared.stmt.StmtNode.{StmtNode, roll-StmtNode}
use Rattle.mm_tree.specs.declared.stmt.StmtNode.TheOpen.{StmtNode-F, Empty, Assign, Do, Block, Declare, If, While, Return, Assert, Assume, Fence, Lock, Unlock, Start, Join, Goto, Label, AtomBegin, AtomEnd}
use Rattle.mm_tree.specs.declared.item.Gives.{Gives}
use Rattle.mm_tree.specs.declared.item.Gives.TheVariants.{Int, Nothing, Thread}
use Rattle.mm_tree.specs.declared.item.Param.{Param}
use Rattle.mm_tree.specs.declared.item.Item.{Item}
use Rattle.mm_tree.specs.declared.item.Item.TheVariants.{Globals, Mutexes, Threads, InputDecl, Function}

-- an expression of this layer
unfoldable pub expr_of : Node-F Node Expr → Expr
expr_of layer = roll-Expr (record { at = nowhere; node = roll-Node layer })

-- a statement of this layer
unfoldable pub stmt_of : StmtNode-F StmtNode Stmt → Stmt
stmt_of layer = roll-Stmt (record { at = nowhere; node = roll-StmtNode layer })

-- ---- names

-- a name at its place
abbrev pub word : Ident → Word
word x = tree.word nowhere x

-- a name that ends with a number, such as wm_r0
abbrev pub numbered : Ident → ℕ → Ident
numbered x n = x ++ decimal n

-- ---- expressions

-- 7, or -7 where a start value stands
abbrev pub number : ℤ → Expr
number z = expr_of (Number z)

-- 7
abbrev pub num : ℕ → Expr
num n = number (pos n)

-- x
abbrev pub var : Ident → Expr
var x = expr_of (Name x)

-- x[e]
abbrev pub elem : Ident → Expr → Expr
elem x e = expr_of (Index x e)

-- *e
abbrev pub deref : Expr → Expr
deref e = expr_of (Deref e)

-- &x
abbrev pub address : Ident → Expr
address x = expr_of (AddrName (word x))

-- &x[e]
abbrev pub address_elem : Ident → Expr → Expr
address_elem x e = expr_of (AddrIndex (word x) e)

-- op a
abbrev pub un : Unary → Expr → Expr
un op a = expr_of (Un op a)

-- a op b
abbrev pub bin : Binary → Expr → Expr → Expr
bin op a b = expr_of (Bin op a b)

-- c ? a : b
abbrev pub choice : Expr → Expr → Expr → Expr
choice c a b = expr_of (Cond c a b)

-- a + b
abbrev pub plus : Expr → Expr → Expr
plus = bin Add

-- a - b
abbrev pub minus : Expr → Expr → Expr
minus = bin Sub

-- a * b
abbrev pub times : Expr → Expr → Expr
times = bin Mul

-- a % b
abbrev pub modulo : Expr → Expr → Expr
modulo = bin Rem

-- a < b
abbrev pub less : Expr → Expr → Expr
less = bin Lt

-- a <= b
abbrev pub at_most : Expr → Expr → Expr
at_most = bin Le

-- a > b
abbrev pub greater : Expr → Expr → Expr
greater = bin Gt

-- a == b
abbrev pub equal : Expr → Expr → Expr
equal = bin Eq

-- a != b
abbrev pub differ : Expr → Expr → Expr
differ = bin Ne

-- a && b
abbrev pub both : Expr → Expr → Expr
both = bin Land

-- ---- calls and assignments

-- f(..)
abbrev pub called : Ident → List Expr → Value
called f es = Call nowhere f es

-- l = v;
abbrev pub assignment : LeftNode → Value → Stmt
assignment l v = stmt_of (Assign (tree.left_at nowhere l) v)

-- x = e;
abbrev pub assign : Ident → Expr → Stmt
assign x e = assignment (left.Name x) (Plain e)

-- x = f(..);
abbrev pub assign_call : Ident → Ident → List Expr → Stmt
assign_call x f es = assignment (left.Name x) (called f es)

-- x[i] = e;
abbrev pub assign_elem : Ident → Expr → Expr → Stmt
assign_elem x i e = assignment (left.Index x i) (Plain e)

-- *p = e;
abbrev pub assign_deref : Expr → Expr → Stmt
assign_deref p e = assignment (left.Deref p) (Plain e)

-- f(..);
abbrev pub call : Ident → List Expr → Stmt
call f es = stmt_of (Do (called f es))

-- ---- statements

-- ;
abbrev pub skip : Stmt
skip = stmt_of Empty

-- int x;
abbrev pub declare : Ident → Stmt
declare x = stmt_of (Declare (tree.local nowhere false x None ∷ []))

-- int *x;
abbrev pub declare_pointer : Ident → Stmt
declare_pointer x = stmt_of (Declare (tree.local nowhere true x None ∷ []))

-- __CPROVER_assume(e);
abbrev pub assume : Expr → Stmt
assume e = stmt_of (Assume e)

-- __CPROVER_assert(e, "assertion n");
abbrev pub assert : Expr → ℕ → Stmt
assert e n = stmt_of (Assert e (Some (numbered (codes "assertion ") n)))

-- { .. }
abbrev pub block : List Stmt → Stmt
block ss = stmt_of (Block ss)

-- if (e) { .. }
abbrev pub when : Expr → List Stmt → Stmt
when e ss = stmt_of (If e (block ss) None)

-- while (e) { .. }
abbrev pub while : Expr → List Stmt → Stmt
while e ss = stmt_of (While e (block ss))

-- return e;
abbrev pub return : Expr → Stmt
return e = stmt_of (Return (Some (Plain e)))

-- goto x;
abbrev pub go_to : Ident → Stmt
go_to x = stmt_of (Goto (word x))

-- if (e) goto x;
abbrev pub branch : Expr → Ident → Stmt
branch e x = stmt_of (If e (go_to x) None)

-- x: s
abbrev pub label : Ident → Stmt → Stmt
label x s = stmt_of (Label (word x) s)

-- the label before the first of the statements
abbrev pub labelled : Ident → List Stmt → List Stmt
labelled x [] = []
labelled x (s ∷ ss) = label x s ∷ ss

-- ---- threads

-- __CPROVER_atomic_begin();
abbrev pub atomic_begin : Stmt
atomic_begin = stmt_of AtomBegin

-- __CPROVER_atomic_end();
abbrev pub atomic_end : Stmt
atomic_end = stmt_of AtomEnd

-- the statements as one atomic section
abbrev pub section : List Stmt → List Stmt
section ss = atomic_begin ∷ ss ++ atomic_end ∷ []

-- __sync_synchronize();
abbrev pub fence : Stmt
fence = stmt_of Fence

-- pthread_mutex_lock(&m);
abbrev pub lock : Ident → Stmt
lock m = stmt_of (Lock (word m))

-- pthread_mutex_unlock(&m);
abbrev pub unlock : Ident → Stmt
unlock m = stmt_of (Unlock (word m))

-- pthread_create(&t, 0, f, 0);
abbrev pub start : Ident → Ident → Stmt
start t f = stmt_of (Start (word t) (word f))

-- pthread_join(t, 0);
abbrev pub join : Ident → Stmt
join t = stmt_of (Join (word t))

-- ---- variables of the program

-- int x = e; or int x[n] = {e, ..};
abbrev pub global : Ident → Option ℕ → List Expr → Item
global x len es = Globals (tree.global nowhere false x (option_map pos len) es ∷ [])

-- int x[n];
abbrev pub array : Ident → ℕ → Item
array x n = global x (Some n) []

-- int *x = e;
abbrev pub global_pointer : Ident → Expr → Item
global_pointer x e = Globals (tree.global nowhere true x None (e ∷ []) ∷ [])

-- pthread_mutex_t m = PTHREAD_MUTEX_INITIALIZER;
abbrev pub mutex : Ident → Item
mutex m = Mutexes (word m ∷ [])

-- pthread_t t;
abbrev pub thread_variable : Ident → Item
thread_variable t = Threads (word t ∷ [])

-- ---- functions

-- int f();
abbrev pub input : Ident → Item
input f = InputDecl nowhere f

-- a function by its result, its name, its parameters and its body
abbrev pub function : Gives → Ident → List Param → List Stmt → Item
function gives f ps ss = Function nowhere gives f ps ss

-- int x
abbrev pub param : Ident → Param
param x = tree.param false nowhere x

-- void *x
abbrev pub pointer_param : Ident → Param
pointer_param x = tree.param true nowhere x

-- void f(..) { .. }
abbrev pub void : Ident → List Param → List Stmt → Item
void = function Nothing

-- int f(..) { .. }
abbrev pub int : Ident → List Param → List Stmt → Item
int = function Int

-- void *f(void *x) { .. }
abbrev pub thread : Ident → Ident → List Stmt → Item
thread f x ss = function Thread f (pointer_param x ∷ []) ss
