-- The goto program of a small program is the flattening of its tree.
use Rattle.std.proofs.Common.{◌≡◌, ℕ, ◌+◌, ℤ, pos, Bool, true, false, cond, if◌then◌else◌, int_lt, List, [], ◌∷◌, ◌++◌, map, length, sum_by, codes, Option, Some, None, option_map, option_and_then, refl, sym, ◌∙◌, ap, ap₂, subst, append_assoc, arith, length-append}
use Rattle.std.specs.List.{prefix_len}
use Rattle.std.specs.Str.{bytes_eq}
use Rattle.std.proofs.lemmas.List.{length-map, map-append}
use Rattle.std.proofs.lemmas.List.Sums.{sum_by-cons}
use Rattle.std.proofs.lemmas.Option.{cond_some, same_Some, option_and_then_some}
use Rattle.std.proofs.lemmas.Slice.Eq.{bytes_eq-Decides}
use Rattle.mm_goto.specs.declared.ident.At.{At}
use Rattle.mm_goto.specs.declared.ident.Ident.{Ident}
use Rattle.mm_goto.specs.declared.pure.Binary.TheVariants as binary
use Rattle.mm_goto.specs.declared.program.Cell.{Cell}
use Rattle.mm_goto.specs.declared.program.Instr.{Instr}
use Rattle.mm_goto.specs.declared.program.Target.TheVariants as target
use Rattle.mm_goto.specs.declared.program.Instr.TheVariants.{Load, Store, Jump, Assert as Check, End}
use Rattle.mm_goto.specs.Terms.{constant, the_local}
use Rattle.mm_tree.specs.declared.expr.Expr.{Expr, out-Expr, roll-out-Expr}
use Rattle.mm_tree.specs.declared.expr.Node.{Node, out-Node, roll-Node, roll-out-Node}
use Rattle.mm_tree.specs.declared.expr.Node.TheOpen.{Node-F}
use Rattle.mm_tree.specs.declared.expr.Node.TheOpen as open_node
use Rattle.mm_tree.specs.declared.expr.Node.TheVariants as node
use Rattle.mm_tree.specs.declared.stmt.LeftNode.{LeftNode}
use Rattle.mm_tree.specs.declared.stmt.LeftNode.TheVariants as left
use Rattle.mm_tree.specs.declared.stmt.Stmt.{Stmt, out-Stmt, roll-out-Stmt}
use Rattle.mm_tree.specs.declared.stmt.StmtNode.{StmtNode, out-StmtNode, roll-StmtNode, roll-out-StmtNode}
use Rattle.mm_tree.specs.declared.stmt.StmtNode.TheOpen.{StmtNode-F}
use Rattle.mm_tree.specs.declared.stmt.StmtNode.TheOpen as open_stmt
use Rattle.mm_tree.specs.declared.stmt.StmtNode.TheVariants as stmt
use Rattle.mm_tree.specs.declared.stmt.Value.{Value}
use Rattle.mm_tree.specs.declared.stmt.Value.TheVariants as value
use Rattle.mm_tree.specs.declared.item.Gives.{Gives}
use Rattle.mm_tree.specs.declared.item.Gives.TheVariants as gives
use Rattle.mm_tree.specs.declared.item.Item.{Item}
use Rattle.mm_tree.specs.declared.item.Item.TheVariants as item
use Rattle.mm_tree.specs.declared.item.Param.{Param}
use Rattle.mm_tree.specs.declared.item.Tree.{Tree}
use Rattle.mm_tree.specs.declared.side.Side.TheVariants.{Source}
use Rattle.mm_flow.specs.Programs.{program_of}
use Rattle.mm_small_code.specs.reading.Flattening as flat
use Rattle.mm_small_code.specs.reading.Flattening.{Placed, placed, Known, Around, IsValue, IsCode, AreCode, AreCells, IsFlat, IsMain, int_global, main_item}
use Rattle.mm_small_code.proofs.Equations.{by_the_equations}
use Rattle.mm_tree.specs.Trees.{expr, statement, named_left, place_of, node_of}
use Rattle.mm_small.specs.declared.tree.Statement.{Statement}
use Rattle.mm_small.specs.declared.tree.Statement.TheVariants as small
use Rattle.mm_small.specs.declared.tree.Small.{Small}
use Rattle.mm_small.specs.declared.tree.Body.{Body}
use Rattle.mm_small.specs.SmallTree as shape
use Rattle.mm_small.specs.SmallTree.{small_of, IsWithinLimits}
use Rattle.mm_small.specs.Flat.{reads, asserts, equals, statement_code, statement_places, body_code, body_places, main_of, cell, listing_of}

-- ---- nodes by their outermost layers

is_node : (n : Node) {layer : Node-F Node Expr} → out-Node n ≡ layer → n ≡ roll-Node layer
is_node n e = sym (roll-out-Node n) ∙ ap roll-Node e

is_number : (e : Expr) (z : ℤ) → node_of e ≡ open_node.Number z → e ≡ expr (place_of e) (node.Number z)
is_number e z h = sym (roll-out-Expr e) ∙ ap (expr (place_of e)) (is_node (out-Expr e).node h ∙ node.rolls-Number z)

is_name : (e : Expr) (x : Ident) → node_of e ≡ open_node.Name x → e ≡ expr (place_of e) (node.Name x)
is_name e x h = sym (roll-out-Expr e) ∙ ap (expr (place_of e)) (is_node (out-Expr e).node h ∙ node.rolls-Name x)

is_equation : (e a b : Expr) → node_of e ≡ open_node.Bin binary.Eq a b → e ≡ expr (place_of e) (node.Bin binary.Eq a b)
is_equation e a b h = sym (roll-out-Expr e) ∙ ap (expr (place_of e)) (is_node (out-Expr e).node h ∙ node.rolls-Bin binary.Eq a b)

is_stmt : (s : Stmt) {layer : StmtNode-F StmtNode Stmt} {n : StmtNode} → out-StmtNode (out-Stmt s).node ≡ layer → roll-StmtNode layer ≡ n → s ≡ statement (out-Stmt s).at n
is_stmt s e h = sym (roll-out-Stmt s) ∙ ap (statement (out-Stmt s).at) (sym (roll-out-StmtNode (out-Stmt s).node) ∙ ap roll-StmtNode e ∙ h)

-- ---- cells

-- a test of the elements' images counts as many
prefix_of_map : {X Y : Type 0} (p : Y → Bool) (g : X → Y) (xs : List X) → prefix_len p (map g xs) ≡ prefix_len (λ x. p (g x)) xs
prefix_of_map p g [] = refl
prefix_of_map p g (x ∷ xs) = ap (λ n. cond (p (g x)) (1 + n) 0) (prefix_of_map p g xs)

-- a name has the cell of its variable
same_cell : (vs : List Ident) (x : Ident) → flat.cell_named (map cell vs) x ≡ shape.variable_number vs x
same_cell vs x = rw (prefix_of_map, length-map) refl

-- ---- what is known, and the code with its places

-- no local has a name, and there are no labels
abbrev known : ℕ → ℕ → Known
known l a = record { locals = []; next = l; asserts = a; labels = [] }

abbrev around : List Ident → List Placed → Around
around vs code = record { side = Source; cells = map cell vs; code = code; labels = [] }

-- the code of a statement, where l is the next local and a assertions stand before it
abbrev placed_statement : ℕ → ℕ → Statement → List Placed
placed_statement l a (small.Number at c z) = placed at (Store (target.Cell c) (constant z)) ∷ []
placed_statement l a (small.Variable at c from_at d) = placed from_at (Load l (target.Cell d)) ∷ placed at (Store (target.Cell c) (the_local l)) ∷ []
placed_statement l a (small.Assert at cell_at c z) = placed cell_at (Load l (target.Cell c)) ∷ placed at (Check (equals l z) (a + 1)) ∷ []

abbrev placed_body : ℕ → ℕ → List Statement → List Placed
placed_body l a [] = []
placed_body l a (s ∷ ss) = placed_statement l a s ++ placed_body (l + reads s) (a + asserts s) ss

-- what is known behind the statements
abbrev known_behind : ℕ → ℕ → List Statement → Known
known_behind l a [] = known l a
known_behind l a (s ∷ ss) = known_behind (l + reads s) (a + asserts s) ss

instrs_of_statement : (l a : ℕ) (s : Statement) → map (λ i. i.instr) (placed_statement l a s) ≡ statement_code l (a + 1) s
instrs_of_statement l a (small.Number at c z) = refl
instrs_of_statement l a (small.Variable at c from_at d) = refl
instrs_of_statement l a (small.Assert at cell_at c z) = refl

places_of_statement : (l a : ℕ) (s : Statement) → map (λ i. i.at) (placed_statement l a s) ≡ statement_places s
places_of_statement l a (small.Number at c z) = refl
places_of_statement l a (small.Variable at c from_at d) = refl
places_of_statement l a (small.Assert at cell_at c z) = refl

instrs_of_body : (l a n : ℕ) (ss : List Statement) → n ≡ a + 1 → map (λ i. i.instr) (placed_body l a ss) ≡ body_code l n ss
instrs_of_body l a n [] e = refl
instrs_of_body l a n (s ∷ ss) e =
    map-append (λ (i : Placed). i.instr) (placed_statement l a s) (placed_body (l + reads s) (a + asserts s) ss)
    ∙ ap₂ (λ xs ys. xs ++ ys) (instrs_of_statement l a s ∙ ap (λ m. statement_code l m s) (sym e)) (instrs_of_body (l + reads s) (a + asserts s) (n + asserts s) ss (omega arith))

places_of_body : (l a : ℕ) (ss : List Statement) → map (λ i. i.at) (placed_body l a ss) ≡ body_places ss
places_of_body l a [] = refl
places_of_body l a (s ∷ ss) =
    map-append (λ (i : Placed). i.at) (placed_statement l a s) (placed_body (l + reads s) (a + asserts s) ss)
    ∙ ap₂ (λ xs ys. xs ++ ys) (places_of_statement l a s) (places_of_body (l + reads s) (a + asserts s) ss)

next_behind : (l a : ℕ) (ss : List Statement) → (known_behind l a ss).next ≡ l + sum_by reads ss
next_behind l a [] = omega arith
next_behind l a (s ∷ ss) = omega (arith, next_behind (l + reads s) (a + asserts s) ss, sum_by-cons reads s ss)

labels_behind : (l a : ℕ) (ss : List Statement) → (known_behind l a ss).labels ≡ []
labels_behind l a [] = refl
labels_behind l a (s ∷ ss) = labels_behind (l + reads s) (a + asserts s) ss

-- ---- values

number_value : (vs : List Ident) (e : Expr) (z : ℤ) (l : ℕ) (rest : List Placed) → node_of e ≡ open_node.Number z → IsValue (map cell vs) [] l e rest (constant z) l rest
number_value vs e z l rest h = subst (λ e. IsValue (map cell vs) [] l e rest (constant z) l rest) (sym (is_number e z h)) flat.number

variable_value : (vs : List Ident) (e : Expr) (x : Ident) (c l : ℕ) (rest : List Placed) → node_of e ≡ open_node.Name x → shape.variable_number vs x ≡ Some c → IsValue (map cell vs) [] l e (placed (place_of e) (Load l (target.Cell c)) ∷ rest) (the_local l) (l + 1) rest
variable_value vs e x c l rest h k = subst (λ d. IsValue (map cell vs) [] l d (placed (place_of e) (Load l (target.Cell c)) ∷ rest) (the_local l) (l + 1) rest) (sym (is_name e x h)) (flat.global refl (same_cell vs x ∙ k))

-- ---- statements

-- the code of the statement
abbrev IsRead : List Ident → Stmt → Statement → Type 0
IsRead vs st s = (code : List Placed) (l a : ℕ) (rest : List Placed) → IsCode (around vs code) (known l a) st (placed_statement l a s ++ rest) (known (l + reads s) (a + asserts s)) rest

-- the code of the node at the place
abbrev IsReadAt : List Ident → At → StmtNode → Statement → Type 0
IsReadAt vs at n s = IsRead vs (statement at n) s

-- the statement reads nothing and asserts nothing
none_read : (vs : List Ident) (code : List Placed) (st : Stmt) {is : List Placed} (l a : ℕ) (rest : List Placed) → IsCode (around vs code) (known l a) st is (known l a) rest → IsCode (around vs code) (known l a) st is (known (l + 0) (a + 0)) rest
none_read vs code st {is = is} l a rest h = subst (λ k. IsCode (around vs code) (known l a) st is k rest) (ap₂ known (omega arith) (omega arith)) h

-- it reads one value and asserts nothing
one_read : (vs : List Ident) (code : List Placed) (st : Stmt) {is : List Placed} (l a : ℕ) (rest : List Placed) → IsCode (around vs code) (known l a) st is (known (l + 1) a) rest → IsCode (around vs code) (known l a) st is (known (l + 1) (a + 0)) rest
one_read vs code st {is = is} l a rest h = subst (λ k. IsCode (around vs code) (known l a) st is k rest) (ap (known (l + 1)) (omega arith)) h

number_read : (vs : List Ident) (at there : At) (x : Ident) (e : Expr) (c : ℕ) (z : ℤ) → shape.variable_number vs x ≡ Some c → node_of e ≡ open_node.Number z → IsReadAt vs at (stmt.Assign (named_left there x) (value.Plain e)) (small.Number there c z)
number_read vs at there x e c z h k code l a rest = none_read vs code (statement at (stmt.Assign (named_left there x) (value.Plain e))) l a rest (flat.store refl (same_cell vs x ∙ h) (number_value vs e z l (placed there (Store (target.Cell c) (constant z)) ∷ rest) k))

variable_read : (vs : List Ident) (at there : At) (x y : Ident) (e : Expr) (c d : ℕ) → shape.variable_number vs x ≡ Some c → node_of e ≡ open_node.Name y → shape.variable_number vs y ≡ Some d → IsReadAt vs at (stmt.Assign (named_left there x) (value.Plain e)) (small.Variable there c (place_of e) d)
variable_read vs at there x y e c d h k i code l a rest = one_read vs code (statement at (stmt.Assign (named_left there x) (value.Plain e))) l a rest (flat.store refl (same_cell vs x ∙ h) (variable_value vs e y d l (placed there (Store (target.Cell c) (the_local l)) ∷ rest) k i))

stored_read : (vs : List Ident) (at there : At) (x : Ident) (e : Expr) (c : ℕ) (s : Statement) → shape.variable_number vs x ≡ Some c → (layer : Node-F Node Expr) → node_of e ≡ layer → shape.stored vs there c (place_of e) layer ≡ Some s → IsReadAt vs at (stmt.Assign (named_left there x) (value.Plain e)) s
stored_read vs at there x e c s h (open_node.Number z) k i = by (int_lt z (pos 0)) i
  where
    by : (b : Bool) → if b then None else Some (small.Number there c z) ≡ Some s → IsReadAt vs at (stmt.Assign (named_left there x) (value.Plain e)) s
    by true j = cc
    by false j = subst (IsReadAt vs at (stmt.Assign (named_left there x) (value.Plain e))) (same_Some _ _ j) (number_read vs at there x e c z h k)
stored_read vs at there x e c s h (open_node.Name y) k i = by (shape.variable_number vs y) refl i
  where
    by : (o : Option ℕ) → shape.variable_number vs y ≡ o → option_map (λ d. small.Variable there c (place_of e) d) o ≡ Some s → IsReadAt vs at (stmt.Assign (named_left there x) (value.Plain e)) s
    by None m j = cc
    by (Some d) m j = subst (IsReadAt vs at (stmt.Assign (named_left there x) (value.Plain e))) (same_Some _ _ j) (variable_read vs at there x y e c d h k m)
stored_read vs at there x e c s h _ k i = cc

assignment_read : (vs : List Ident) (at there : At) (n : LeftNode) (v : Value) (s : Statement) → shape.assignment vs there n v ≡ Some s → IsReadAt vs at (stmt.Assign (record { at = there; node = n }) v) s
assignment_read vs at there (left.Name x) (value.Plain e) s h = option_and_then_some (λ c. shape.stored vs there c (place_of e) (node_of e)) (shape.variable_number vs x) s h (λ c i k. stored_read vs at there x e c s i (node_of e) refl k)
assignment_read vs at there _ _ s h = cc

compared_read : (vs : List Ident) (at : At) (e a b : Expr) (s : Statement) → node_of e ≡ open_node.Bin binary.Eq a b → (m n : Node-F Node Expr) → node_of a ≡ m → node_of b ≡ n → shape.compared vs at (place_of a) m n ≡ Some s → IsReadAt vs at (stmt.Assert e None) s
compared_read vs at e a b s h (open_node.Name x) (open_node.Number z) i k j = by (int_lt z (pos 0)) j
  where
    found : (o : Option ℕ) → shape.variable_number vs x ≡ o → option_map (λ c. small.Assert at (place_of a) c z) o ≡ Some s → IsReadAt vs at (stmt.Assert e None) s
    found None p q = cc
    found (Some c) p q = subst (IsReadAt vs at (stmt.Assert e None)) (same_Some _ _ q) (λ code l n rest. flat.assert refl (subst (λ d. IsValue (map cell vs) [] l d (placed (place_of a) (Load l (target.Cell c)) ∷ placed at (Check (equals l z) (n + 1)) ∷ rest) (equals l z) (l + 1) (placed at (Check (equals l z) (n + 1)) ∷ rest)) (sym (is_equation e a b h)) (flat.operation refl (variable_value vs a x c l (placed at (Check (equals l z) (n + 1)) ∷ rest) i p) (number_value vs b z (l + 1) (placed at (Check (equals l z) (n + 1)) ∷ rest) k))))

    by : (less : Bool) → if less then None else option_map (λ c. small.Assert at (place_of a) c z) (shape.variable_number vs x) ≡ Some s → IsReadAt vs at (stmt.Assert e None) s
    by true q = cc
    by false q = found (shape.variable_number vs x) refl q
compared_read vs at e a b s h _ _ i k j = cc

assertion_read : (vs : List Ident) (at : At) (e : Expr) (s : Statement) (layer : Node-F Node Expr) → node_of e ≡ layer → shape.assertion vs at layer ≡ Some s → IsReadAt vs at (stmt.Assert e None) s
assertion_read vs at e s (open_node.Bin binary.Eq a b) h i = compared_read vs at e a b s h (node_of a) (node_of b) refl refl i
assertion_read vs at e s _ h i = cc

statement_read : (vs : List Ident) (st : Stmt) (s : Statement) (layer : StmtNode-F StmtNode Stmt) → out-StmtNode (out-Stmt st).node ≡ layer → shape.statement_in vs (out-Stmt st).at layer ≡ Some s → IsRead vs st s
statement_read vs st s (open_stmt.Assign l v) h i = subst (λ st. IsRead vs st s) (sym (is_stmt st h (stmt.rolls-Assign l v))) (assignment_read vs (out-Stmt st).at l.at l.node v s i)
statement_read vs st s (open_stmt.Assert e None) h i = subst (λ st. IsRead vs st s) (sym (is_stmt st h (stmt.rolls-Assert e None))) (assertion_read vs (out-Stmt st).at e s (node_of e) refl i)
statement_read vs st s _ h i = cc

-- ---- the body

-- `return 0` goes to the end
return_read : (vs : List Ident) (st : Stmt) (at : At) (layer : StmtNode-F StmtNode Stmt) → out-StmtNode (out-Stmt st).node ≡ layer → shape.return_in (out-Stmt st).at layer ≡ Some at → (code : List Placed) (m : ℕ) → length code ≡ m + 1 → (l a : ℕ) (rest : List Placed) → IsCode (around vs code) (known l a) st (placed at (Jump m) ∷ rest) (known l a) rest
return_read vs st at (open_stmt.Return (Some (value.Plain e))) h i code m len l a rest = by (node_of e) refl i
  where
    by : (n : Node-F Node Expr) → node_of e ≡ n → if shape.is_zero n then Some (out-Stmt st).at else None ≡ Some at → IsCode (around vs code) (known l a) st (placed at (Jump m) ∷ rest) (known l a) rest
    by (open_node.Number z) k j =
        subst (λ st. IsCode (around vs code) (known l a) st (placed at (Jump m) ∷ rest) (known l a) rest) (sym (is_stmt st h (stmt.rolls-Return (Some (value.Plain e)))))
        (subst (λ p. IsCode (around vs code) (known l a) (statement (out-Stmt st).at (stmt.Return (Some (value.Plain e)))) (placed p (Jump m) ∷ rest) (known l a) rest) ((cond_some (shape.is_zero (open_node.Number z)) (out-Stmt st).at at j).1) (flat.return (number_value vs e z l (placed (out-Stmt st).at (Jump m) ∷ rest) k) len))
    by _ k j = cc
return_read vs st at _ h i code m len l a rest = cc

-- the code of a body
record IsBodyRead (vs : List Ident) (sts : List Stmt) (b : Body) : Type 0 where
  code_is : (code : List Placed) (m : ℕ) → length code ≡ m + 1 → (l a : ℕ) (rest : List Placed) → AreCode (around vs code) (known l a) sts (placed_body l a b.statements ++ placed b.return_at (Jump m) ∷ rest) (known_behind l a b.statements) rest

-- nothing stands before `return 0`
last_read : (vs : List Ident) (st : Stmt) (b : Body) (o : Option At) → shape.return_of st ≡ o → option_map (λ (at : At). record { statements = []; return_at = at }) o ≡ Some b → IsBodyRead vs (st ∷ []) b
last_read vs st b None h i = cc
last_read vs st b (Some at) h i = subst (IsBodyRead vs (st ∷ [])) (same_Some _ _ i) (record { code_is = λ code m len l a rest. flat.more (return_read vs st at (out-StmtNode (out-Stmt st).node) refl h code m len l a rest) flat.none })

-- one statement more stands before it
more_read : (vs : List Ident) (st : Stmt) (sts : List Stmt) (b : Body) (s : Statement) → IsRead vs st s → IsBodyRead vs sts b → IsBodyRead vs (st ∷ sts) (shape.statement_before s b)
more_read vs st sts b s h r = record { code_is = λ code m len l a rest. subst (λ is. AreCode (around vs code) (known l a) (st ∷ sts) is (known_behind l a (s ∷ b.statements)) rest) (sym (append_assoc (placed_statement l a s) (placed_body (l + reads s) (a + asserts s) b.statements) (placed b.return_at (Jump m) ∷ rest))) (flat.more (h code l a (placed_body (l + reads s) (a + asserts s) b.statements ++ placed b.return_at (Jump m) ∷ rest)) (r.code_is code m len (l + reads s) (a + asserts s) rest)) }

-- it stands before what the others are, where they are a body
more_body_read : (vs : List Ident) (st : Stmt) (sts : List Stmt) (b : Body) (s : Statement) → IsRead vs st s → (o : Option Body) → ((c : Body) → o ≡ Some c → IsBodyRead vs sts c) → option_map (shape.statement_before s) o ≡ Some b → IsBodyRead vs (st ∷ sts) b
more_body_read vs st sts b s h None k i = cc
more_body_read vs st sts b s h (Some c) k i = subst (IsBodyRead vs (st ∷ sts)) (same_Some _ _ i) (more_read vs st sts c s h (k c refl))

body_read : (vs : List Ident) (sts : List Stmt) (b : Body) → shape.body_of vs sts ≡ Some b → IsBodyRead vs sts b
body_read vs [] b h = cc
body_read vs (st ∷ []) b h = last_read vs st b (shape.return_of st) refl h
body_read vs (st ∷ u ∷ sts) b h = option_and_then_some (λ x. option_map (shape.statement_before x) (shape.body_of vs (u ∷ sts))) (shape.statement_of vs st) b h (λ s i k. more_body_read vs st (u ∷ sts) b s (statement_read vs st s (out-StmtNode (out-Stmt st).node) refl i) (shape.body_of vs (u ∷ sts)) (body_read vs (u ∷ sts)) k)

-- ---- items

-- an int with no start value has a cell
cell_before : (x : Ident) {is others : List Item} {cells : List Cell} (at : At) (pointer : Bool) (name : Ident) (len : Option ℤ) (init : List Expr) → shape.declared (record { at = at; pointer = pointer; name = name; len = len; init = init }) ≡ Some x → AreCells is cells others → AreCells (item.Globals (record { at = at; pointer = pointer; name = name; len = len; init = init } ∷ []) ∷ is) (cell x ∷ cells) others
cell_before x {is = is} {others = others} {cells = cells} at false name None [] h k = subst (λ y. AreCells (item.Globals (int_global at name [] ∷ []) ∷ is) (cell y ∷ cells) others) (same_Some _ _ h) (flat.globals (flat.int (pos 0) refl flat.none) k)
cell_before x at _ name _ _ h k = cc

item_before : (x : Ident) {is others : List Item} {cells : List Cell} (i : Item) → shape.variable_of i ≡ Some x → AreCells is cells others → AreCells (i ∷ is) (cell x ∷ cells) others
item_before x (item.Globals (g ∷ [])) h k = cell_before x g.at g.pointer g.name g.len g.init h k
item_before x _ h k = cc

-- a variable stands before those that the others declare
more_cells_read : (x : Ident) (i last : Item) (is : List Item) (vs : List Ident) → shape.variable_of i ≡ Some x → (o : Option (List Ident)) → ((xs : List Ident) → o ≡ Some xs → AreCells is (map cell xs) (last ∷ [])) → option_map (λ xs. x ∷ xs) o ≡ Some vs → AreCells (i ∷ is) (map cell vs) (last ∷ [])
more_cells_read x i last is vs h None k e = cc
more_cells_read x i last is vs h (Some xs) k e = subst (λ (vs : List Ident). AreCells (i ∷ is) (map cell vs) (last ∷ [])) (same_Some _ _ e) (item_before x i h (k xs refl))

-- each item before the last has a cell
items_read : (is : List Item) (vs : List Ident) (last : Item) → shape.last_item is ≡ Some last → shape.variables_in is ≡ Some vs → AreCells is (map cell vs) (last ∷ [])
items_read [] vs last h e = cc
items_read (i ∷ []) vs last h e = subst (λ (vs : List Ident). AreCells (i ∷ []) (map cell vs) (last ∷ [])) (same_Some _ _ e) (subst (λ (last : Item). AreCells (i ∷ []) [] (last ∷ [])) (same_Some _ _ h) flat.none)
items_read (i ∷ j ∷ is) vs last h e = option_and_then_some (λ x. option_map (λ xs. x ∷ xs) (shape.variables_in (j ∷ is))) (shape.variable_of i) vs e (λ x k l. more_cells_read x i last (j ∷ is) vs k (shape.variables_in (j ∷ is)) (λ xs f. items_read (j ∷ is) xs last h f) l)

-- the item is main, and its body is that of the small program
record IsMainRead (vs : List Ident) (i : Item) (s : Small) : Type 0 where
  body : List Stmt
  variables : vs ≡ s.variables
  main : i ≡ main_item s.main_at body
  read : shape.body_of s.variables body ≡ Some (record { statements = s.body; return_at = s.return_at })

main_read : (vs : List Ident) (at : At) (kind : Gives) (x : Ident) (params : List Param) (body : List Stmt) (s : Small) → shape.main_in vs at kind x params body ≡ Some s → IsMainRead vs (item.Function at kind x params body) s
main_read vs at gives.Int x [] body s h = by (bytes_eq x (codes "main")) refl h
  where
    found : x ≡ codes "main" → (o : Option Body) → shape.body_of vs body ≡ o → option_map (shape.whole vs at) o ≡ Some s → IsMainRead vs (item.Function at gives.Int x [] body) s
    found e None i k = cc
    found e (Some b) i k = subst (IsMainRead vs (item.Function at gives.Int x [] body)) (same_Some _ _ k) (record {
      body = body;
      variables = refl;
      main = ap (λ y. item.Function at gives.Int y [] body) e;
      read = i;
    })

    by : (b : Bool) → bytes_eq x (codes "main") ≡ b → if b then option_map (shape.whole vs at) (shape.body_of vs body) else None ≡ Some s → IsMainRead vs (item.Function at gives.Int x [] body) s
    by true e k = found ((bytes_eq-Decides x (codes "main")).0 e) (shape.body_of vs body) refl k
    by false e k = cc
main_read vs at _ x _ body s h = cc

last_item_read : (vs : List Ident) (i : Item) (s : Small) → shape.main_of vs i ≡ Some s → IsMainRead vs i s
last_item_read vs (item.Function at kind x params body) s h = main_read vs at kind x params body s h
last_item_read vs _ s h = cc

-- ---- the whole

-- main's code with its places
abbrev placed_main : Small → List Placed
placed_main s = placed_body 0 0 s.body ++ placed s.return_at (Jump (length (body_code 0 1 s.body) + 1)) ∷ placed s.main_at End ∷ []

main_length : (s : Small) → length (placed_main s) ≡ length (body_code 0 1 s.body) + 1 + 1
main_length s = simp length-append (omega (arith, length-map (placed_body 0 0 s.body) (λ i. i.instr), ap (λ (is : List Instr). length is) (instrs_of_body 0 0 1 s.body (omega arith))))

main_flat : (s : Small) (body : List Stmt) → IsBodyRead s.variables body (record { statements = s.body; return_at = s.return_at }) → IsMain Source (map cell s.variables) s.main_at body (main_of s)
main_flat s body r = record {
  code = placed_main s;
  last = known_behind 0 0 s.body;
  body_code = subst (λ ls. AreCode (record { side = Source; cells = map cell s.variables; code = placed_main s; labels = ls }) flat.nothing_known body (placed_main s) (known_behind 0 0 s.body) (placed s.main_at End ∷ [])) (sym (labels_behind 0 0 s.body)) (r.code_is (placed_main s) (length (body_code 0 1 s.body) + 1) (main_length s) 0 0 (placed s.main_at End ∷ []));
  instrs = sym (map-append (λ (i : Placed). i.instr) (placed_body 0 0 s.body) _ ∙ ap (λ is. is ++ Jump (length (body_code 0 1 s.body) + 1) ∷ End ∷ []) (instrs_of_body 0 0 1 s.body (omega arith)));
  places = sym (map-append (λ (i : Placed). i.at) (placed_body 0 0 s.body) _ ∙ ap (λ ps. ps ++ s.return_at ∷ s.main_at ∷ []) (places_of_body 0 0 s.body));
  locals = omega (arith, next_behind 0 0 s.body);
}

-- the program is the flattening of the tree, case by case
small_flat : (tree : Tree) (s : Small) → small_of tree ≡ Some s → IsWithinLimits s → IsFlat Source tree (listing_of s)
small_flat tree s h w =
    option_and_then_some (λ vs. option_and_then (shape.main_of vs) (shape.last_item tree.items)) (shape.variables_in tree.items) s h (λ vs i k.
    option_and_then_some (shape.main_of vs) (shape.last_item tree.items) s k (λ last j m. by vs last j i (last_item_read vs last s m)))
  where
    by : (vs : List Ident) (last : Item) → shape.last_item tree.items ≡ Some last → shape.variables_in tree.items ≡ Some vs → IsMainRead vs last s → IsFlat Source tree (listing_of s)
    by vs last j i r = record {
      at = s.main_at;
      body = r.body;
      thread = main_of s;
      cells = subst (λ (i : Item). AreCells tree.items (map cell s.variables) (i ∷ [])) r.main (items_read tree.items s.variables last j (i ∙ ap Some r.variables));
      few = rw length-map (omega (arith, w.variables.few));
      mutexes = refl;
      main = main_flat s r.body (body_read s.variables r.body (record { statements = s.body; return_at = s.return_at }) r.read);
      threads = refl;
    }

-- and so by the equations
pub small_program : (tree : Tree) (s : Small) → small_of tree ≡ Some s → IsWithinLimits s → listing_of s ≡ program_of Source tree
small_program tree s h w = by_the_equations Source tree (listing_of s) (small_flat tree s h w)
