-- Only statements in the outermost block of main start threads or wait for them.
use Rattle.std.proofs.Common.{◌≡◌, ℕ, nat_eq, Bool, true, false, ◌&&◌, ◌||◌, if◌then◌else◌, List, [], ◌∷◌, ◌++◌, length, codes, refl, ◌∙◌, sym, ap, subst, Option, Some, None}
use Rattle.std.specs.List.{slice_get, starts_with}
use Rattle.mm_goto.specs.declared.ident.At.{At}
use Rattle.mm_goto.specs.declared.ident.Ident.{Ident}
use Rattle.mm_goto.specs.declared.pure.Unary.{Unary}
use Rattle.mm_goto.specs.declared.pure.Unary.TheVariants as un
use Rattle.mm_goto.specs.declared.pure.Binary.{Binary}
use Rattle.mm_goto.specs.declared.pure.Binary.TheVariants as bin
use Rattle.mm_tree.specs.declared.expr.Expr.{Expr, roll-Expr}
use Rattle.mm_tree.specs.declared.expr.Node.{Node, roll-Node}
use Rattle.mm_tree.specs.declared.expr.Node.TheOpen as node
use Rattle.mm_tree.specs.declared.expr.Node.TheOpen.{Node-F, Expr-F}
use Rattle.mm_tree.specs.declared.expr.Node.TheFolds.{ind-Expr, fold-roll-Node, fold-roll-Expr, map-Node, map-Expr}
use Rattle.mm_tree.specs.declared.item.Gives.{Gives}
use Rattle.mm_tree.specs.declared.item.Gives.TheVariants as gives
use Rattle.mm_tree.specs.declared.item.Item.{Item}
use Rattle.mm_tree.specs.declared.item.Item.TheVariants as item
use Rattle.mm_tree.specs.declared.item.Param.{Param}
use Rattle.mm_tree.specs.declared.stmt.Left.{Left}
use Rattle.mm_tree.specs.declared.stmt.LeftNode.{LeftNode}
use Rattle.mm_tree.specs.declared.stmt.LeftNode.TheVariants as left
use Rattle.mm_tree.specs.declared.stmt.Value.{Value}
use Rattle.mm_tree.specs.declared.stmt.Value.TheVariants as value
use Rattle.mm_scope.specs.declared.fault.Rule.TheVariants.{WrongType}
use Rattle.mm_scope.specs.declared.expression.Sort.{Sort}
use Rattle.mm_scope.specs.declared.expression.Sort.TheVariants as sort
use Rattle.mm_scope.specs.declared.operand.Kind.{Kind}
use Rattle.mm_scope.specs.declared.operand.Kind.TheVariants as kind
use Rattle.mm_scope.specs.declared.operand.Operand.{Operand}
use Rattle.mm_scope.specs.declared.table.Meaning.{Meaning}
use Rattle.mm_scope.specs.declared.table.Meaning.TheVariants as meaning
use Rattle.mm_scope.specs.Expressions.{kind_of, judged_kind, judged_meaning, named, judged_expr, judged_node, judged_node_step, judged_expr_step}
use Rattle.mm_scope.specs.Notes.{Note, Use, a_fault, a_call, a_use, an_assertion, refusal}
use Rattle.mm_scope.specs.Operands.{Judged, fit, fits, without, one, two, never, never_of, join, joined_if, joined, unary, binary, deref, element, address, fetch_add, compare_swap, choice}
use Rattle.mm_scope.specs.Parts.{fit_return}
use Rattle.mm_scope.specs.Scopes.{Names, meaning_of}
use Rattle.mm_scope.specs.Values.{judged_argument, argument, rest, arguments, call_fault, can_be_called, input_call, function_call, numbered_call, call_of, call, judged_value, judged_left, judged_left_node, fit_place}

-- the starts of threads and the waits for them that are noted
abbrev pub uses : List Note → List Use
uses [] = []
uses (a_use u ∷ ns) = u ∷ uses ns
uses (a_fault f ∷ ns) = uses ns
uses (a_call c ∷ ns) = uses ns
uses (an_assertion ∷ ns) = uses ns

pub uses_append : (xs ys : List Note) → uses (xs ++ ys) ≡ uses xs ++ uses ys
uses_append [] ys = refl
uses_append (a_use u ∷ xs) ys = ap (λ us. u ∷ us) (uses_append xs ys)
uses_append (a_fault f ∷ xs) ys = uses_append xs ys
uses_append (a_call c ∷ xs) ys = uses_append xs ys
uses_append (an_assertion ∷ xs) ys = uses_append xs ys

-- there are none
abbrev pub Idle : List Note → Type 0
Idle ns = uses ns ≡ []

pub idle_both : (xs ys : List Note) → Idle xs → Idle ys → Idle (xs ++ ys)
idle_both xs ys h g = uses_append xs ys ∙ (ap (λ us. us ++ uses ys) h ∙ g)

pub idle_left : (xs ys : List Note) → Idle (xs ++ ys) → Idle xs
idle_left xs ys h = by (uses xs) (sym (uses_append xs ys) ∙ h)
  where
    by : (us : List Use) → us ++ uses ys ≡ [] → us ≡ []
    by [] e = refl
    by (u ∷ us) e = absurd (impossible e)
      where
        impossible : u ∷ (us ++ uses ys) ≡ [] → ⊥
        impossible q = cc

-- ---- operands

abbrev fit_if : Operand → Bool → Judged
fit_if o b = if b then record { operand = o; notes = [] } else record { operand = without o; notes = refusal WrongType o.at ∷ [] }

fit_if_idle : (o : Operand) (b : Bool) → Idle (fit_if o b).notes
fit_if_idle o true = refl
fit_if_idle o false = refl

fit_idle : (k : Kind) (o : Operand) → Idle (fit k o).notes
unfolding fit
fit_idle k o = fit_if_idle o (fits k o)

never_idle : (o : Operand) → Idle (never o).notes
unfolding never
never_idle o = by o.kind
  where
    by : (k : Option Kind) → Idle (never_of o k).notes
    by None = refl
    by (Some k) = refl

joined_idle : (at : At) (z second : Bool) (there : At) (k l : Kind) → Idle (joined at z there k l).notes
joined_idle at z second there kind.Int kind.Int = refl
joined_idle at z second there kind.Pointer kind.Pointer = refl
joined_idle at true second there kind.Int kind.Pointer = refl
joined_idle at true second there kind.Int kind.Nothing = refl
joined_idle at true second there kind.Pointer kind.Int = refl
joined_idle at true second there kind.Pointer kind.Nothing = refl
joined_idle at true second there kind.Nothing kind.Int = refl
joined_idle at true second there kind.Nothing kind.Pointer = refl
joined_idle at true second there kind.Nothing kind.Nothing = refl
joined_idle at false second there kind.Int kind.Pointer = refl
joined_idle at false second there kind.Int kind.Nothing = refl
joined_idle at false second there kind.Pointer kind.Int = refl
joined_idle at false second there kind.Pointer kind.Nothing = refl
joined_idle at false second there kind.Nothing kind.Int = refl
joined_idle at false second there kind.Nothing kind.Pointer = refl
joined_idle at false second there kind.Nothing kind.Nothing = refl

join_idle : (at : At) (a b : Operand) → Idle (join at a b).notes
unfolding join
join_idle at a b = by a.kind b.kind
  where
    by : (k l : Option Kind) → Idle (joined_if at (a.zero || b.zero) b.at k l).notes
    by (Some k) (Some l) = joined_idle at (a.zero || b.zero) true b.at k l
    by None None = refl
    by None (Some l) = refl
    by (Some k) None = refl

unary_idle : (at : At) (op : Unary) (a : Operand) → Idle (unary at op a).notes
unfolding unary one
unary_idle at un.Not a = refl
unary_idle at un.Neg a = fit_idle kind.Int a
unary_idle at un.Plus a = fit_idle kind.Int a
unary_idle at un.Flip a = fit_idle kind.Int a

two_fit : (at : At) (k l : Kind) (a b : Operand) → Idle ((fit k a).notes ++ (fit l b).notes)
two_fit at k l a b = idle_both (fit k a).notes (fit l b).notes (fit_idle k a) (fit_idle l b)

binary_idle : (at : At) (op : Binary) (a b : Operand) → Idle (binary at op a b).notes
unfolding binary one two
binary_idle at bin.Land a b = refl
binary_idle at bin.Lor a b = refl
binary_idle at bin.Eq a b = join_idle at a b
binary_idle at bin.Ne a b = join_idle at a b
binary_idle at bin.Add a b = two_fit at kind.Int kind.Int a b
binary_idle at bin.Sub a b = two_fit at kind.Int kind.Int a b
binary_idle at bin.Mul a b = two_fit at kind.Int kind.Int a b
binary_idle at bin.Div a b = two_fit at kind.Int kind.Int a b
binary_idle at bin.Rem a b = two_fit at kind.Int kind.Int a b
binary_idle at bin.Shl a b = two_fit at kind.Int kind.Int a b
binary_idle at bin.Shr a b = two_fit at kind.Int kind.Int a b
binary_idle at bin.Lt a b = two_fit at kind.Int kind.Int a b
binary_idle at bin.Le a b = two_fit at kind.Int kind.Int a b
binary_idle at bin.Gt a b = two_fit at kind.Int kind.Int a b
binary_idle at bin.Ge a b = two_fit at kind.Int kind.Int a b
binary_idle at bin.And a b = two_fit at kind.Int kind.Int a b
binary_idle at bin.Xor a b = two_fit at kind.Int kind.Int a b
binary_idle at bin.Or a b = two_fit at kind.Int kind.Int a b

deref_idle : (at : At) (a : Operand) → Idle (deref at a).notes
unfolding deref one
deref_idle at a = fit_idle kind.Pointer a

element_idle : (at : At) (k : Kind) (a i : Operand) → Idle (element at k a i).notes
unfolding element two
element_idle at k a i = fit_idle kind.Int i

address_idle : (at : At) (a : Operand) → Idle (address at a).notes
unfolding address one
address_idle at a = refl

choice_idle : (at : At) (c a b : Operand) → Idle (choice at c a b).notes
unfolding choice
choice_idle at c a b = join_idle at a b

-- ---- expressions

kind_idle : (at : At) (k : Option Kind) → Idle (judged_kind at k).notes
kind_idle at None = refl
kind_idle at (Some k) = refl

meaning_idle : (s : Sort) (at : At) (o : Option Meaning) → Idle (judged_meaning s at o).notes
meaning_idle s at None = refl
meaning_idle s at (Some meaning.Unready) = refl
meaning_idle s at (Some meaning.Shared) = kind_idle at (kind_of s meaning.Shared)
meaning_idle s at (Some meaning.Int) = kind_idle at (kind_of s meaning.Int)
meaning_idle s at (Some meaning.Pointer) = kind_idle at (kind_of s meaning.Pointer)
meaning_idle s at (Some (meaning.Array n)) = kind_idle at (kind_of s (meaning.Array n))
meaning_idle s at (Some meaning.Mutex) = kind_idle at (kind_of s meaning.Mutex)
meaning_idle s at (Some meaning.SharedThread) = kind_idle at (kind_of s meaning.SharedThread)
meaning_idle s at (Some meaning.Thread) = kind_idle at (kind_of s meaning.Thread)
meaning_idle s at (Some (meaning.Function k)) = kind_idle at (kind_of s (meaning.Function k))
meaning_idle s at (Some (meaning.Ahead k)) = kind_idle at (kind_of s (meaning.Ahead k))
meaning_idle s at (Some meaning.Input) = kind_idle at (kind_of s meaning.Input)
meaning_idle s at (Some meaning.Handed) = kind_idle at (kind_of s meaning.Handed)
meaning_idle s at (Some meaning.Label) = kind_idle at (kind_of s meaning.Label)

name_idle : (s : Sort) (names : Names) (at : At) (x : Ident) → Idle (named s names at x).notes
unfolding named
name_idle s names at x = meaning_idle s at (meaning_of names x)

module _ (names : Names) where
  abbrev P : Node → Type 0
  P d = (at : At) → Idle (judged_node names d at).notes

  abbrev Q : Expr → Type 0
  Q e = Idle (judged_expr names e).notes

  by_node : (z : Node-F Node Expr) (at : At) → Idle (judged_node_step names (map-Node Node Expr (At → Judged) Judged (judged_node names) (judged_expr names) z) at).notes → Idle (judged_node names (roll-Node z) at).notes
  by_node z at g = subst (λ (f : At → Judged). Idle (f at).notes) (sym (fold-roll-Node (At → Judged) Judged (judged_node_step names) judged_expr_step z)) g

  by_expr : (z : Expr-F Node Expr) → Idle (judged_node names z.node z.at).notes → Idle (judged_expr names (roll-Expr z)).notes
  by_expr z g = subst (λ (j : Judged). Idle j.notes) (sym (fold-roll-Expr (At → Judged) Judged (judged_node_step names) judged_expr_step z)) g

  abbrev Proved : Type 0
  Proved = (e : Expr) × Q e

  abbrev notes_in : Proved → List Note
  notes_in e = (judged_expr names e.0).notes

  node_idle : (y : Node-F ((d : Node) × P d) Proved) → P (roll-Node (map-Node ((d : Node) × P d) Proved Node Expr (λ d. d.0) (λ e. e.0) y))
  node_idle (node.Number z) at = by_node (node.Number z) at refl
  node_idle node.Null at = by_node node.Null at refl
  node_idle (node.Name x) at = by_node (node.Name x) at (name_idle sort.Variable names at x)
  node_idle (node.Index x e) at = by_node (node.Index x e.0) at
      (idle_both ((named sort.Array names at x).notes ++ notes_in e) (element at kind.Int (named sort.Array names at x).operand (judged_expr names e.0).operand).notes (idle_both (named sort.Array names at x).notes (notes_in e) (name_idle sort.Array names at x) e.1) (element_idle at kind.Int _ _))
  node_idle (node.Deref e) at = by_node (node.Deref e.0) at (idle_both (notes_in e) (deref at (judged_expr names e.0).operand).notes e.1 (deref_idle at _))
  node_idle (node.AddrName w) at = by_node (node.AddrName w) at (idle_both (named sort.Shared names w.at w.name).notes (address at (named sort.Shared names w.at w.name).operand).notes (name_idle sort.Shared names w.at w.name) (address_idle at _))
  node_idle (node.AddrIndex w e) at = by_node (node.AddrIndex w e.0) at
      (idle_both ((named sort.Array names w.at w.name).notes ++ notes_in e) (element at kind.Pointer (named sort.Array names w.at w.name).operand (judged_expr names e.0).operand).notes (idle_both (named sort.Array names w.at w.name).notes (notes_in e) (name_idle sort.Array names w.at w.name) e.1) (element_idle at kind.Pointer _ _))
  node_idle (node.Un op e) at = by_node (node.Un op e.0) at (idle_both (notes_in e) (unary at op (judged_expr names e.0).operand).notes e.1 (unary_idle at op _))
  node_idle (node.Bin op a b) at = by_node (node.Bin op a.0 b.0) at (idle_both (notes_in a ++ notes_in b) (binary at op (judged_expr names a.0).operand (judged_expr names b.0).operand).notes (idle_both (notes_in a) (notes_in b) a.1 b.1) (binary_idle at op _ _))
  node_idle (node.Cond c a b) at = by_node (node.Cond c.0 a.0 b.0) at
      (idle_both ((notes_in c ++ notes_in a) ++ notes_in b) (choice at (judged_expr names c.0).operand (judged_expr names a.0).operand (judged_expr names b.0).operand).notes (idle_both (notes_in c ++ notes_in a) (notes_in b) (idle_both (notes_in c) (notes_in a) c.1 a.1) b.1) (choice_idle at _ _ _))

  pub expr_idle : (e : Expr) → Q e
  expr_idle = ind-Expr P Q (λ x y is. subst (λ z. P (roll-Node z)) is (node_idle y)) (λ x y is. subst (λ z. Q (roll-Expr z)) is (by_expr (map-Expr _ _ Node Expr (λ d. d.0) (λ e. e.0) y) (y.node.1 y.at)))

-- ---- values and left sides

call_fault_idle : (at : At) (b : Bool) → Idle (call_fault at b)
call_fault_idle at true = refl
call_fault_idle at false = refl

argument_idle : (names : Names) (p : Option Param) (e : Expr) → Idle (judged_argument names p e).notes
argument_idle names None e = idle_both (judged_expr names e).notes [] (expr_idle names e) refl
argument_idle names (Some p) e = idle_both (judged_expr names e).notes (argument (Some p) (judged_expr names e).operand).notes (expr_idle names e) (fit_idle _ (judged_expr names e).operand)

arguments_idle : (names : Names) (ps : List Param) (es : List Expr) → Idle (arguments names ps es)
unfolding arguments
arguments_idle names ps [] = refl
arguments_idle names ps (e ∷ es) = idle_both (judged_argument names (slice_get ps 0) e).notes (arguments names (rest ps) es) (argument_idle names (slice_get ps 0) e) (arguments_idle names (rest ps) es)

module _ (items : List Item) (names : Names) (caller : ℕ) (at : At) (x : Ident) (es : List Expr) where
  function_idle : (k : ℕ) (i : Item) → Idle (function_call names caller k at es i).notes
  function_idle k (item.Function there g y ps ss) = idle_both (call_fault at (can_be_called y g && nat_eq (length es) (length ps))) (arguments names ps es) (call_fault_idle at _) (arguments_idle names ps es)
  function_idle k (item.Globals gs) = refl
  function_idle k (item.Mutexes ws) = refl
  function_idle k (item.Threads ws) = refl
  function_idle k (item.InputDecl there y) = refl

  numbered_idle : (k : ℕ) (o : Option Item) → Idle (numbered_call names caller k at es o).notes
  numbered_idle k None = arguments_idle names [] es
  numbered_idle k (Some i) = function_idle k i

  call_of_idle : (o : Option Meaning) → Idle (call_of items names caller at es o).notes
  call_of_idle None = arguments_idle names [] es
  call_of_idle (Some meaning.Unready) = arguments_idle names [] es
  call_of_idle (Some (meaning.Function k)) = numbered_idle k (slice_get items k)
  call_of_idle (Some (meaning.Ahead k)) = numbered_idle k (slice_get items k)
  call_of_idle (Some meaning.Input) = arguments_idle names [] es
  call_of_idle (Some meaning.Shared) = arguments_idle names [] es
  call_of_idle (Some meaning.Int) = arguments_idle names [] es
  call_of_idle (Some meaning.Pointer) = arguments_idle names [] es
  call_of_idle (Some (meaning.Array n)) = arguments_idle names [] es
  call_of_idle (Some meaning.Mutex) = arguments_idle names [] es
  call_of_idle (Some meaning.SharedThread) = arguments_idle names [] es
  call_of_idle (Some meaning.Thread) = arguments_idle names [] es
  call_of_idle (Some meaning.Handed) = arguments_idle names [] es
  call_of_idle (Some meaning.Label) = arguments_idle names [] es

  input_idle : Idle (input_call names at es).notes
  input_idle = idle_both (call_fault at (nat_eq (length es) 0)) (arguments names [] es) (call_fault_idle at _) (arguments_idle names [] es)

  abbrev called_if : Bool → Judged
  called_if b = if b then input_call names at es else call_of items names caller at es (meaning_of names x)

  called_if_idle : (b : Bool) → Idle (called_if b).notes
  called_if_idle true = input_idle
  called_if_idle false = call_of_idle (meaning_of names x)

  call_idle : Idle (call items names caller at x es).notes
  unfolding call
  call_idle = called_if_idle (starts_with nat_eq x (codes "nondet_"))

pub value_idle : (items : List Item) (caller : ℕ) (names : Names) (v : Value) → Idle (judged_value items caller names v).notes
unfolding judged_value fetch_add compare_swap two
value_idle items caller names (value.Plain e) = expr_idle names e
value_idle items caller names (value.Call at x es) = call_idle items names caller at x es
value_idle items caller names (value.FetchAdd at p e) =
    idle_both ((judged_expr names p).notes ++ (judged_expr names e).notes) (fetch_add at (judged_expr names p).operand (judged_expr names e).operand).notes (idle_both (judged_expr names p).notes (judged_expr names e).notes (expr_idle names p) (expr_idle names e)) (two_fit at kind.Pointer kind.Int (judged_expr names p).operand (judged_expr names e).operand)
value_idle items caller names (value.CompareSwap at p e f) =
    let jp : Judged = judged_expr names p in
    let je : Judged = judged_expr names e in
    let jf : Judged = judged_expr names f in
    idle_both ((jp.notes ++ je.notes) ++ jf.notes) (compare_swap at jp.operand je.operand jf.operand).notes
    (idle_both (jp.notes ++ je.notes) jf.notes (idle_both jp.notes je.notes (expr_idle names p) (expr_idle names e)) (expr_idle names f))
    (idle_both ((fit kind.Pointer jp.operand).notes ++ (fit kind.Int je.operand).notes) (fit kind.Int jf.operand).notes (two_fit at kind.Pointer kind.Int jp.operand je.operand) (fit_idle kind.Int jf.operand))

left_node_idle : (names : Names) (at : At) (l : LeftNode) → Idle (judged_left_node names at l).notes
left_node_idle names at (left.Name x) = name_idle sort.Variable names at x
left_node_idle names at (left.Index x e) =
    idle_both ((named sort.Array names at x).notes ++ (judged_expr names e).notes) (element at kind.Int (named sort.Array names at x).operand (judged_expr names e).operand).notes (idle_both (named sort.Array names at x).notes (judged_expr names e).notes (name_idle sort.Array names at x) (expr_idle names e)) (element_idle at kind.Int _ _)
left_node_idle names at (left.Deref e) = idle_both (judged_expr names e).notes (deref at (judged_expr names e).operand).notes (expr_idle names e) (deref_idle at _)

pub left_idle : (names : Names) (l : Left) → Idle (judged_left names l).notes
unfolding judged_left
left_idle names l = left_node_idle names l.at l.node

pub fit_place_idle : (k : Option Kind) (o : Operand) → Idle (fit_place k o).notes
unfolding fit_place
fit_place_idle None o = refl
fit_place_idle (Some k) o = fit_idle k o

pub fit_return_idle : (g : Gives) (b : Bool) (o : Operand) → Idle (fit_return g b o).notes
fit_return_idle gives.Int b o = fit_idle kind.Int o
fit_return_idle gives.Pointer b o = fit_idle kind.Pointer o
fit_return_idle gives.Nothing b o = never_idle o
fit_return_idle gives.Thread true o = refl
fit_return_idle gives.Thread false o = never_idle o

pub fit_int_idle : (o : Operand) → Idle (fit kind.Int o).notes
fit_int_idle o = fit_idle kind.Int o

pub fit_kind_idle : (k : Kind) (o : Operand) → Idle (fit k o).notes
fit_kind_idle k o = fit_idle k o
