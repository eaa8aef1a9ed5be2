-- What is noted in an expression without its places is what is noted in it, without places.
use Rattle.std.proofs.Common.{◌≡◌, Bool, true, false, ◌||◌, if◌then◌else◌, List, [], ◌∷◌, ◌++◌, map, refl, ◌∙◌, sym, ap, subst, Option, Some, None}
use Rattle.mm_goto.specs.declared.ident.At.{At}
use Rattle.mm_goto.specs.declared.ident.Ident.{Ident}
use Rattle.mm_goto.specs.declared.pure.Unary.{Unary}
use Rattle.mm_goto.specs.declared.pure.Unary.TheVariants as un
use Rattle.mm_goto.specs.declared.pure.Binary.{Binary}
use Rattle.mm_goto.specs.declared.pure.Binary.TheVariants as bin
use Rattle.mm_tree.specs.Places.{nowhere, bare_node, bare_expr, bare_layer, bare_node_step, bare_expr_step}
use Rattle.mm_tree.specs.declared.expr.Expr.{Expr, roll-Expr}
use Rattle.mm_tree.specs.declared.expr.Node.{Node, roll-Node}
use Rattle.mm_tree.specs.declared.expr.Node.TheOpen as node
use Rattle.mm_tree.specs.declared.expr.Node.TheOpen.{Node-F, Expr-F}
use Rattle.mm_tree.specs.declared.expr.Node.TheFolds.{ind-Expr, fold-roll-Node, fold-roll-Expr, map-Node, map-Expr}
use Rattle.mm_scope.specs.declared.fault.Rule.TheVariants.{WrongType}
use Rattle.mm_scope.specs.declared.expression.Sort.{Sort}
use Rattle.mm_scope.specs.declared.expression.Sort.TheVariants as sort
use Rattle.mm_scope.specs.declared.operand.Kind.{Kind}
use Rattle.mm_scope.specs.declared.operand.Kind.TheVariants as kind
use Rattle.mm_scope.specs.declared.operand.Operand.{Operand}
use Rattle.mm_scope.specs.declared.table.Meaning.{Meaning}
use Rattle.mm_scope.specs.declared.table.Meaning.TheVariants as meaning
use Rattle.mm_scope.specs.Expressions.{kind_of, judged_kind, judged_meaning, named, judged_expr, judged_node, judged_node_step, judged_expr_step}
use Rattle.mm_scope.specs.Notes.{Note, a_fault, a_call, a_use, an_assertion, refusal}
use Rattle.mm_scope.specs.Operands.{Judged, fit, fits, without, one, two, never, never_of, join, joined_if, joined, unary, binary, deref, element, address, fetch_add, compare_swap, choice, if_tested, behind, of_one, of_two, of_three, fine}
use Rattle.mm_scope.specs.Scopes.{Names, meaning_of}

-- a note without its place
abbrev pub bare_note : Note → Note
bare_note (a_fault f) = a_fault (record f { at = nowhere })
bare_note (a_call c) = a_call (record c { at = nowhere })
bare_note (a_use u) = a_use (record u { at = nowhere })
bare_note an_assertion = an_assertion

-- notes without their places
abbrev pub bare_notes : List Note → List Note
bare_notes ns = map bare_note ns

pub bare_append : (xs ys : List Note) → bare_notes xs ++ bare_notes ys ≡ bare_notes (xs ++ ys)
bare_append [] ys = refl
bare_append (x ∷ xs) ys = ap (λ ns. bare_note x ∷ ns) (bare_append xs ys)

-- notes of two parts, where those of each are known
pub bare_both : {us vs : List Note} (xs ys : List Note) → us ≡ bare_notes xs → vs ≡ bare_notes ys → us ++ vs ≡ bare_notes (xs ++ ys)
bare_both {us} {vs} xs ys h g = ap (λ ns. ns ++ vs) h ∙ ap (λ ns. bare_notes xs ++ ns) g ∙ bare_append xs ys

-- an operand without its place
abbrev pub bare_operand : Operand → Operand
bare_operand o = record o { at = nowhere }

-- what is known of an expression, without places
abbrev pub bare_judged : Judged → Judged
bare_judged j = record { operand = bare_operand j.operand; notes = bare_notes j.notes }

-- ---- parts

abbrev with_notes : Operand → List Note → Judged
with_notes o ns = record { operand = o; notes = ns }

pub behind_bare : (ns : List Note) (j : Judged) → behind (bare_notes ns) (bare_judged j) ≡ bare_judged (behind ns j)
behind_bare ns j = ap (with_notes (bare_operand j.operand)) (bare_append ns j.notes)

-- a rule of one operand
pub bare_one : (q r : Operand → Judged) (x a : Judged) → ((o : Operand) → q (bare_operand o) ≡ bare_judged (r o)) → x ≡ bare_judged a → of_one q x ≡ bare_judged (of_one r a)
bare_one q r x a h e = ap (of_one q) e ∙ ap (behind (bare_notes a.notes)) (h a.operand) ∙ behind_bare a.notes (r a.operand)

-- a rule of two operands
pub bare_two : (q r : Operand → Operand → Judged) (x y a b : Judged) → ((o p : Operand) → q (bare_operand o) (bare_operand p) ≡ bare_judged (r o p)) → x ≡ bare_judged a → y ≡ bare_judged b → of_two q x y ≡ bare_judged (of_two r a b)
bare_two q r x y a b h e f =
    ap (λ z. of_two q z y) e
    ∙ ap (of_two q (bare_judged a)) f
    ∙ ap (behind (bare_notes a.notes ++ bare_notes b.notes)) (h a.operand b.operand)
    ∙ ap (λ ns. behind ns (bare_judged (r a.operand b.operand))) (bare_append a.notes b.notes)
    ∙ behind_bare (a.notes ++ b.notes) (r a.operand b.operand)

-- a rule of three operands
pub bare_three : (q r : Operand → Operand → Operand → Judged) (x y z a b c : Judged) → ((o p s : Operand) → q (bare_operand o) (bare_operand p) (bare_operand s) ≡ bare_judged (r o p s)) → x ≡ bare_judged a → y ≡ bare_judged b → z ≡ bare_judged c → of_three q x y z ≡ bare_judged (of_three r a b c)
bare_three q r x y z a b c h e f g =
    ap (λ w. of_three q w y z) e
    ∙ ap (λ w. of_three q (bare_judged a) w z) f
    ∙ ap (of_three q (bare_judged a) (bare_judged b)) g
    ∙ ap (behind ((bare_notes a.notes ++ bare_notes b.notes) ++ bare_notes c.notes)) (h a.operand b.operand c.operand)
    ∙ ap (λ ns. behind ns (bare_judged (r a.operand b.operand c.operand))) (bare_both (a.notes ++ b.notes) c.notes (bare_append a.notes b.notes) refl)
    ∙ behind_bare ((a.notes ++ b.notes) ++ c.notes) (r a.operand b.operand c.operand)

-- ---- operands

abbrev fit_if : Operand → Bool → Judged
fit_if o b = if b then record { operand = o; notes = [] } else record { operand = without o; notes = refusal WrongType o.at ∷ [] }

fit_if_bare : (o : Operand) (b : Bool) → fit_if (bare_operand o) b ≡ bare_judged (fit_if o b)
fit_if_bare o true = refl
fit_if_bare o false = refl

pub fit_bare : (k : Kind) (o : Operand) → fit k (bare_operand o) ≡ bare_judged (fit k o)
unfolding fit fits
fit_bare k o = fit_if_bare o (fits k o)

pub never_bare : (o : Operand) → never (bare_operand o) ≡ bare_judged (never o)
unfolding never
never_bare o = by o.kind
  where
    by : (k : Option Kind) → never_of (bare_operand o) k ≡ bare_judged (never_of o k)
    by None = refl
    by (Some k) = refl

joined_bare : (at : At) (z : Bool) (there : At) (k l : Kind) → joined nowhere z nowhere k l ≡ bare_judged (joined at z there k l)
joined_bare at z there kind.Int kind.Int = refl
joined_bare at z there kind.Pointer kind.Pointer = refl
joined_bare at true there kind.Int kind.Pointer = refl
joined_bare at true there kind.Int kind.Nothing = refl
joined_bare at true there kind.Pointer kind.Int = refl
joined_bare at true there kind.Pointer kind.Nothing = refl
joined_bare at true there kind.Nothing kind.Int = refl
joined_bare at true there kind.Nothing kind.Pointer = refl
joined_bare at true there kind.Nothing kind.Nothing = refl
joined_bare at false there kind.Int kind.Pointer = refl
joined_bare at false there kind.Int kind.Nothing = refl
joined_bare at false there kind.Pointer kind.Int = refl
joined_bare at false there kind.Pointer kind.Nothing = refl
joined_bare at false there kind.Nothing kind.Int = refl
joined_bare at false there kind.Nothing kind.Pointer = refl
joined_bare at false there kind.Nothing kind.Nothing = refl

join_bare : (at : At) (a b : Operand) → join nowhere (bare_operand a) (bare_operand b) ≡ bare_judged (join at a b)
unfolding join
join_bare at a b = by a.kind b.kind
  where
    by : (k l : Option Kind) → joined_if nowhere (a.zero || b.zero) nowhere k l ≡ bare_judged (joined_if at (a.zero || b.zero) b.at k l)
    by (Some k) (Some l) = joined_bare at (a.zero || b.zero) b.at k l
    by None None = refl
    by None (Some l) = refl
    by (Some k) None = refl

one_bare : (at : At) (k : Kind) (x a : Judged) → x ≡ bare_judged a → one nowhere k x ≡ bare_judged (one at k a)
unfolding one
one_bare at k x a e = ap (one nowhere k) e

two_bare : (at : At) (k : Kind) (x y a b : Judged) → x ≡ bare_judged a → y ≡ bare_judged b → two nowhere k x y ≡ bare_judged (two at k a b)
unfolding two
two_bare at k x y a b e f =
    ap (λ z. two nowhere k z y) e ∙ ap (two nowhere k (bare_judged a)) f ∙ ap (with_notes (bare_operand (two at k a b).operand)) (bare_append a.notes b.notes)

unary_bare : (at : At) (op : Unary) (a : Operand) → unary nowhere op (bare_operand a) ≡ bare_judged (unary at op a)
unfolding unary
unary_bare at un.Not a = one_bare at kind.Int (fine (bare_operand a)) (fine a) refl
unary_bare at un.Neg a = one_bare at kind.Int (fit kind.Int (bare_operand a)) (fit kind.Int a) (fit_bare kind.Int a)
unary_bare at un.Plus a = one_bare at kind.Int (fit kind.Int (bare_operand a)) (fit kind.Int a) (fit_bare kind.Int a)
unary_bare at un.Flip a = one_bare at kind.Int (fit kind.Int (bare_operand a)) (fit kind.Int a) (fit_bare kind.Int a)

two_fit_bare : (at : At) (k l m : Kind) (a b : Operand) → two nowhere m (fit k (bare_operand a)) (fit l (bare_operand b)) ≡ bare_judged (two at m (fit k a) (fit l b))
two_fit_bare at k l m a b = two_bare at m (fit k (bare_operand a)) (fit l (bare_operand b)) (fit k a) (fit l b) (fit_bare k a) (fit_bare l b)

binary_bare : (at : At) (op : Binary) (a b : Operand) → binary nowhere op (bare_operand a) (bare_operand b) ≡ bare_judged (binary at op a b)
unfolding binary
binary_bare at bin.Land a b = two_bare at kind.Int (fine (bare_operand a)) (fine (bare_operand b)) (fine a) (fine b) refl refl
binary_bare at bin.Lor a b = two_bare at kind.Int (fine (bare_operand a)) (fine (bare_operand b)) (fine a) (fine b) refl refl
binary_bare at bin.Eq a b = one_bare at kind.Int (join nowhere (bare_operand a) (bare_operand b)) (join at a b) (join_bare at a b)
binary_bare at bin.Ne a b = one_bare at kind.Int (join nowhere (bare_operand a) (bare_operand b)) (join at a b) (join_bare at a b)
binary_bare at bin.Add a b = two_fit_bare at kind.Int kind.Int kind.Int a b
binary_bare at bin.Sub a b = two_fit_bare at kind.Int kind.Int kind.Int a b
binary_bare at bin.Mul a b = two_fit_bare at kind.Int kind.Int kind.Int a b
binary_bare at bin.Div a b = two_fit_bare at kind.Int kind.Int kind.Int a b
binary_bare at bin.Rem a b = two_fit_bare at kind.Int kind.Int kind.Int a b
binary_bare at bin.Shl a b = two_fit_bare at kind.Int kind.Int kind.Int a b
binary_bare at bin.Shr a b = two_fit_bare at kind.Int kind.Int kind.Int a b
binary_bare at bin.Lt a b = two_fit_bare at kind.Int kind.Int kind.Int a b
binary_bare at bin.Le a b = two_fit_bare at kind.Int kind.Int kind.Int a b
binary_bare at bin.Gt a b = two_fit_bare at kind.Int kind.Int kind.Int a b
binary_bare at bin.Ge a b = two_fit_bare at kind.Int kind.Int kind.Int a b
binary_bare at bin.And a b = two_fit_bare at kind.Int kind.Int kind.Int a b
binary_bare at bin.Xor a b = two_fit_bare at kind.Int kind.Int kind.Int a b
binary_bare at bin.Or a b = two_fit_bare at kind.Int kind.Int kind.Int a b

pub deref_bare : (at : At) (a : Operand) → deref nowhere (bare_operand a) ≡ bare_judged (deref at a)
unfolding deref
deref_bare at a = one_bare at kind.Int (fit kind.Pointer (bare_operand a)) (fit kind.Pointer a) (fit_bare kind.Pointer a)

pub element_bare : (at : At) (k : Kind) (a i : Operand) → element nowhere k (bare_operand a) (bare_operand i) ≡ bare_judged (element at k a i)
unfolding element
element_bare at k a i = two_bare at k (fine (bare_operand a)) (fit kind.Int (bare_operand i)) (fine a) (fit kind.Int i) refl (fit_bare kind.Int i)

address_bare : (at : At) (a : Operand) → address nowhere (bare_operand a) ≡ bare_judged (address at a)
unfolding address
address_bare at a = one_bare at kind.Pointer (fine (bare_operand a)) (fine a) refl

choice_bare : (at : At) (c a b : Operand) → choice nowhere (bare_operand c) (bare_operand a) (bare_operand b) ≡ bare_judged (choice at c a b)
unfolding choice
choice_bare at c a b = ap (if_tested c.kind) (join_bare at a b)

pub fetch_add_bare : (at : At) (p e : Operand) → fetch_add nowhere (bare_operand p) (bare_operand e) ≡ bare_judged (fetch_add at p e)
unfolding fetch_add
fetch_add_bare at p e = two_fit_bare at kind.Pointer kind.Int kind.Int p e

pub compare_swap_bare : (at : At) (p e f : Operand) → compare_swap nowhere (bare_operand p) (bare_operand e) (bare_operand f) ≡ bare_judged (compare_swap at p e f)
unfolding compare_swap
compare_swap_bare at p e f =
    two_bare at kind.Int (two nowhere kind.Int (fit kind.Pointer (bare_operand p)) (fit kind.Int (bare_operand e))) (fit kind.Int (bare_operand f)) (two at kind.Int (fit kind.Pointer p) (fit kind.Int e)) (fit kind.Int f)
    (two_fit_bare at kind.Pointer kind.Int kind.Int p e) (fit_bare kind.Int f)

-- ---- names

kind_bare : (at : At) (k : Option Kind) → judged_kind nowhere k ≡ bare_judged (judged_kind at k)
kind_bare at None = refl
kind_bare at (Some k) = refl

meaning_bare : (s : Sort) (at : At) (o : Option Meaning) → judged_meaning s nowhere o ≡ bare_judged (judged_meaning s at o)
meaning_bare s at None = refl
meaning_bare s at (Some meaning.Unready) = refl
meaning_bare s at (Some meaning.Shared) = kind_bare at (kind_of s meaning.Shared)
meaning_bare s at (Some meaning.Int) = kind_bare at (kind_of s meaning.Int)
meaning_bare s at (Some meaning.Pointer) = kind_bare at (kind_of s meaning.Pointer)
meaning_bare s at (Some (meaning.Array n)) = kind_bare at (kind_of s (meaning.Array n))
meaning_bare s at (Some meaning.Mutex) = kind_bare at (kind_of s meaning.Mutex)
meaning_bare s at (Some meaning.SharedThread) = kind_bare at (kind_of s meaning.SharedThread)
meaning_bare s at (Some meaning.Thread) = kind_bare at (kind_of s meaning.Thread)
meaning_bare s at (Some (meaning.Function k)) = kind_bare at (kind_of s (meaning.Function k))
meaning_bare s at (Some (meaning.Ahead k)) = kind_bare at (kind_of s (meaning.Ahead k))
meaning_bare s at (Some meaning.Input) = kind_bare at (kind_of s meaning.Input)
meaning_bare s at (Some meaning.Handed) = kind_bare at (kind_of s meaning.Handed)
meaning_bare s at (Some meaning.Label) = kind_bare at (kind_of s meaning.Label)

pub named_bare : (s : Sort) (names : Names) (at : At) (x : Ident) → named s names nowhere x ≡ bare_judged (named s names at x)
unfolding named
named_bare s names at x = meaning_bare s at (meaning_of names x)

-- ---- expressions

module _ (names : Names) where
  abbrev P : Node → Type 0
  P d = (at : At) → judged_node names (bare_node d) nowhere ≡ bare_judged (judged_node names d at)

  abbrev Q : Expr → Type 0
  Q e = judged_expr names (bare_expr e) ≡ bare_judged (judged_expr names e)

  abbrev layer : Node-F Node Expr → At → Judged
  layer z = judged_node_step names (map-Node Node Expr (At → Judged) Judged (judged_node names) (judged_expr names) z)

  abbrev bare_parts : Node-F Node Expr → Node-F Node Expr
  bare_parts z = bare_layer (map-Node Node Expr Node Expr bare_node bare_expr z)

  judged_roll : (z : Node-F Node Expr) (at : At) → judged_node names (roll-Node z) at ≡ layer z at
  judged_roll z at = ap (λ (f : At → Judged). f at) (fold-roll-Node (At → Judged) Judged (judged_node_step names) judged_expr_step z)

  bare_roll : (z : Node-F Node Expr) → bare_node (roll-Node z) ≡ roll-Node (bare_parts z)
  bare_roll z = fold-roll-Node Node Expr bare_node_step bare_expr_step z

  by_node : (z : Node-F Node Expr) (at : At) → layer (bare_parts z) nowhere ≡ bare_judged (layer z at) → judged_node names (bare_node (roll-Node z)) nowhere ≡ bare_judged (judged_node names (roll-Node z) at)
  by_node z at g = ap (λ d. judged_node names d nowhere) (bare_roll z) ∙ judged_roll (bare_parts z) nowhere ∙ g ∙ sym (ap bare_judged (judged_roll z at))

  by_expr : (z : Expr-F Node Expr) → judged_node names (bare_node z.node) nowhere ≡ bare_judged (judged_node names z.node z.at) → Q (roll-Expr z)
  by_expr z g =
      ap (judged_expr names) (fold-roll-Expr Node Expr bare_node_step bare_expr_step z)
      ∙ fold-roll-Expr (At → Judged) Judged (judged_node_step names) judged_expr_step (record { at = nowhere; node = bare_node z.node })
      ∙ g
      ∙ sym (ap bare_judged (fold-roll-Expr (At → Judged) Judged (judged_node_step names) judged_expr_step z))

  abbrev Proved : Type 0
  Proved = (e : Expr) × Q e

  abbrev new : Proved → Judged
  new e = judged_expr names (bare_expr e.0)

  abbrev old : Proved → Judged
  old e = judged_expr names e.0

  node_bare : (y : Node-F ((d : Node) × P d) Proved) → P (roll-Node (map-Node ((d : Node) × P d) Proved Node Expr (λ d. d.0) (λ e. e.0) y))
  node_bare (node.Number z) at = by_node (node.Number z) at refl
  node_bare node.Null at = by_node node.Null at refl
  node_bare (node.Name x) at = by_node (node.Name x) at (named_bare sort.Variable names at x)
  node_bare (node.Index x e) at = by_node (node.Index x e.0) at
      (bare_two (element nowhere kind.Int) (element at kind.Int) (named sort.Array names nowhere x) (new e) (named sort.Array names at x) (old e) (element_bare at kind.Int) (named_bare sort.Array names at x) e.1)
  node_bare (node.Deref e) at = by_node (node.Deref e.0) at (bare_one (deref nowhere) (deref at) (new e) (old e) (deref_bare at) e.1)
  node_bare (node.AddrName w) at = by_node (node.AddrName w) at
      (bare_one (address nowhere) (address at) (named sort.Shared names nowhere w.name) (named sort.Shared names w.at w.name) (address_bare at) (named_bare sort.Shared names w.at w.name))
  node_bare (node.AddrIndex w e) at = by_node (node.AddrIndex w e.0) at
      (bare_two (element nowhere kind.Pointer) (element at kind.Pointer) (named sort.Array names nowhere w.name) (new e) (named sort.Array names w.at w.name) (old e) (element_bare at kind.Pointer) (named_bare sort.Array names w.at w.name) e.1)
  node_bare (node.Un op e) at = by_node (node.Un op e.0) at (bare_one (unary nowhere op) (unary at op) (new e) (old e) (unary_bare at op) e.1)
  node_bare (node.Bin op a b) at = by_node (node.Bin op a.0 b.0) at (bare_two (binary nowhere op) (binary at op) (new a) (new b) (old a) (old b) (binary_bare at op) a.1 b.1)
  node_bare (node.Cond c a b) at = by_node (node.Cond c.0 a.0 b.0) at
      (bare_three (choice nowhere) (choice at) (new c) (new a) (new b) (old c) (old a) (old b) (choice_bare at) c.1 a.1 b.1)

  pub expr_bare : (e : Expr) → Q e
  expr_bare = ind-Expr P Q (λ x y is. subst (λ z. P (roll-Node z)) is (node_bare y)) (λ x y is. subst (λ z. Q (roll-Expr z)) is (by_expr (map-Expr _ _ Node Expr (λ d. d.0) (λ e. e.0) y) (y.node.1 y.at)))
