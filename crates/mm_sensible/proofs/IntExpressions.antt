-- Expressions of woven programs are ints, and nothing is noted in them.
use Rattle.std.proofs.Common.{◌≡◌, ℕ, ℤ, pos, Bool, ◌||◌, if◌then◌else◌, List, [], ◌∷◌, ◌++◌, refl, ◌∙◌, sym, ap, subst, Option, Some}
use Rattle.mm_goto.specs.declared.ident.At.{At}
use Rattle.mm_goto.specs.declared.ident.Ident.{Ident}
use Rattle.mm_goto.specs.declared.pure.Unary.{Unary}
use Rattle.mm_goto.specs.declared.pure.Unary.TheVariants as un
use Rattle.mm_goto.specs.declared.pure.Binary.{Binary}
use Rattle.mm_goto.specs.declared.pure.Binary.TheVariants as bin
use Rattle.mm_tree.specs.Places.{nowhere}
use Rattle.mm_tree.specs.declared.expr.Expr.{Expr}
use Rattle.mm_tree.specs.declared.expr.Node.{Node, roll-Node}
use Rattle.mm_tree.specs.declared.expr.Node.TheOpen as node
use Rattle.mm_tree.specs.declared.expr.Node.TheOpen.{Node-F, Expr-F}
use Rattle.mm_tree.specs.declared.expr.Node.TheFolds.{fold-roll-Node, fold-roll-Expr, map-Node}
use Rattle.mm_scope.specs.declared.expression.Sort.TheVariants as sort
use Rattle.mm_scope.specs.declared.operand.Kind.{Kind}
use Rattle.mm_scope.specs.declared.operand.Kind.TheVariants as kind
use Rattle.mm_scope.specs.declared.operand.Operand.{Operand}
use Rattle.mm_scope.specs.declared.table.Meaning.TheVariants as meaning
use Rattle.mm_scope.specs.Expressions.{judged_meaning, named, judged_expr, judged_node, judged_node_step, judged_expr_step}
use Rattle.mm_scope.specs.declared.fault.Rule.TheVariants.{WrongType}
use Rattle.mm_scope.specs.Notes.{Note, refusal}
use Rattle.mm_scope.specs.Operands.{Judged, fit, fits, fits_kind, without, one, two, join, joined_if, unary, binary, element, choice, of_one, of_two, of_three, fine, if_known}
use Rattle.mm_scope.specs.Scopes.{Names, meaning_of}
use Rattle.mm_words.specs.Words as words

-- nothing is refused in it, and it is an int
pub record IsIntJudged (j : Judged) : Type 0 where
  pub kind : j.operand.kind ≡ Some kind.Int
  pub notes : j.notes ≡ []

-- the expression is an int where these names are known
abbrev pub IsInt : Names → Expr → Type 0
IsInt names e = IsIntJudged (judged_expr names e)

-- ---- parts

abbrev operand_of : Bool → At → Option Kind → Operand
operand_of zero at k = record { at = at; zero = zero; kind = k }

abbrev fit_if : Operand → Bool → Judged
fit_if o b = if b then fine o else record { operand = without o; notes = refusal WrongType o.at ∷ [] }

-- an int fits where an int is wanted
pub fit_int : (o : Operand) → o.kind ≡ Some kind.Int → fit kind.Int o ≡ fine o
unfolding fit fits
fit_int o e = ap (fit_if o) (ap (fits_kind kind.Int o.zero) e)

-- a rule of one int
of_one_int : (rule : Operand → Judged) (a : Judged) → ((o : Operand) → o.kind ≡ Some kind.Int → IsIntJudged (rule o)) → IsIntJudged a → IsIntJudged (of_one rule a)
of_one_int rule a h i = let r = h a.operand i.kind in record { kind = r.kind; notes = ap (λ ns. ns ++ (rule a.operand).notes) i.notes ∙ r.notes }

of_two_int : (rule : Operand → Operand → Judged) (a b : Judged) → ((o p : Operand) → o.kind ≡ Some kind.Int → p.kind ≡ Some kind.Int → IsIntJudged (rule o p)) → IsIntJudged a → IsIntJudged b → IsIntJudged (of_two rule a b)
of_two_int rule a b h i j =
    let r = h a.operand b.operand i.kind j.kind in
    record { kind = r.kind; notes = ap (λ ns. (ns ++ b.notes) ++ (rule a.operand b.operand).notes) i.notes ∙ ap (λ ns. ns ++ (rule a.operand b.operand).notes) j.notes ∙ r.notes }

of_three_int : (rule : Operand → Operand → Operand → Judged) (a b c : Judged) → ((o p q : Operand) → o.kind ≡ Some kind.Int → p.kind ≡ Some kind.Int → q.kind ≡ Some kind.Int → IsIntJudged (rule o p q)) → IsIntJudged a → IsIntJudged b → IsIntJudged c → IsIntJudged (of_three rule a b c)
of_three_int rule a b c h i j k =
    let r = h a.operand b.operand c.operand i.kind j.kind k.kind in
    let more : List Note = (rule a.operand b.operand c.operand).notes in
    record {
      kind = r.kind;
      notes = ap (λ ns. ((ns ++ b.notes) ++ c.notes) ++ more) i.notes ∙ ap (λ ns. (ns ++ c.notes) ++ more) j.notes ∙ ap (λ ns. ns ++ more) k.notes ∙ r.notes;
    }

one_int : (at : At) (a : Judged) → IsIntJudged a → IsIntJudged (one at kind.Int a)
unfolding one
one_int at a i = record { kind = ap (λ k. if_known k (Some kind.Int)) i.kind; notes = i.notes }

two_int : (at : At) (a b : Judged) → IsIntJudged a → IsIntJudged b → IsIntJudged (two at kind.Int a b)
unfolding two
two_int at a b i j = record {
  kind = ap (λ k. if_known k (if_known b.operand.kind (Some kind.Int))) i.kind ∙ ap (λ k. if_known k (Some kind.Int)) j.kind;
  notes = ap (λ ns. ns ++ b.notes) i.notes ∙ j.notes;
}

fine_int : (o : Operand) → o.kind ≡ Some kind.Int → IsIntJudged (fine o)
fine_int o e = record { kind = e; notes = refl }

pub fitted_int : (o : Operand) → o.kind ≡ Some kind.Int → IsIntJudged (fit kind.Int o)
fitted_int o e = subst IsIntJudged (sym (fit_int o e)) (fine_int o e)

join_int : (at : At) (a b : Operand) → a.kind ≡ Some kind.Int → b.kind ≡ Some kind.Int → IsIntJudged (join at a b)
unfolding join
join_int at a b e f =
    let z : Bool = a.zero || b.zero in
    subst IsIntJudged (sym (ap (λ k. joined_if at z b.at k b.kind) e ∙ ap (joined_if at z b.at (Some kind.Int)) f)) (record { kind = refl; notes = refl })

unary_int : (at : At) (op : Unary) (a : Operand) → a.kind ≡ Some kind.Int → IsIntJudged (unary at op a)
unfolding unary
unary_int at un.Not a e = one_int at (fine a) (fine_int a e)
unary_int at un.Neg a e = one_int at (fit kind.Int a) (fitted_int a e)
unary_int at un.Plus a e = one_int at (fit kind.Int a) (fitted_int a e)
unary_int at un.Flip a e = one_int at (fit kind.Int a) (fitted_int a e)

both_int : (at : At) (a b : Operand) → a.kind ≡ Some kind.Int → b.kind ≡ Some kind.Int → IsIntJudged (two at kind.Int (fit kind.Int a) (fit kind.Int b))
both_int at a b e f = two_int at (fit kind.Int a) (fit kind.Int b) (fitted_int a e) (fitted_int b f)

binary_int : (at : At) (op : Binary) (a b : Operand) → a.kind ≡ Some kind.Int → b.kind ≡ Some kind.Int → IsIntJudged (binary at op a b)
unfolding binary
binary_int at bin.Land a b e f = two_int at (fine a) (fine b) (fine_int a e) (fine_int b f)
binary_int at bin.Lor a b e f = two_int at (fine a) (fine b) (fine_int a e) (fine_int b f)
binary_int at bin.Eq a b e f = one_int at (join at a b) (join_int at a b e f)
binary_int at bin.Ne a b e f = one_int at (join at a b) (join_int at a b e f)
binary_int at bin.Add a b e f = both_int at a b e f
binary_int at bin.Sub a b e f = both_int at a b e f
binary_int at bin.Mul a b e f = both_int at a b e f
binary_int at bin.Div a b e f = both_int at a b e f
binary_int at bin.Rem a b e f = both_int at a b e f
binary_int at bin.Shl a b e f = both_int at a b e f
binary_int at bin.Shr a b e f = both_int at a b e f
binary_int at bin.Lt a b e f = both_int at a b e f
binary_int at bin.Le a b e f = both_int at a b e f
binary_int at bin.Gt a b e f = both_int at a b e f
binary_int at bin.Ge a b e f = both_int at a b e f
binary_int at bin.And a b e f = both_int at a b e f
binary_int at bin.Xor a b e f = both_int at a b e f
binary_int at bin.Or a b e f = both_int at a b e f

element_int : (at : At) (a i : Operand) → a.kind ≡ Some kind.Int → i.kind ≡ Some kind.Int → IsIntJudged (element at kind.Int a i)
unfolding element
element_int at a i e f = two_int at (fine a) (fit kind.Int i) (fine_int a e) (fitted_int i f)

choice_int : (at : At) (c a b : Operand) → c.kind ≡ Some kind.Int → a.kind ≡ Some kind.Int → b.kind ≡ Some kind.Int → IsIntJudged (choice at c a b)
unfolding choice
choice_int at c a b d e f =
    let j = join_int at a b e f in
    record { kind = ap (λ k. if_known k (join at a b).operand.kind) d ∙ j.kind; notes = j.notes }

-- ---- names

-- the name is that of an int
pub data IsIntName (names : Names) (x : Ident) : Type 0 where
  local : meaning_of names x ≡ Some meaning.Int → IsIntName names x
  shared : meaning_of names x ≡ Some meaning.Shared → IsIntName names x

-- the name is that of an array
abbrev pub IsArrayName : Names → Ident → Type 0
IsArrayName names x = (n : ℤ) × (meaning_of names x ≡ Some (meaning.Array n))

pub name_int : (names : Names) (at : At) (x : Ident) → IsIntName names x → IsIntJudged (named sort.Variable names at x)
unfolding named
name_int names at x (local e) = subst (λ o. IsIntJudged (judged_meaning sort.Variable at o)) (sym e) (record { kind = refl; notes = refl })
name_int names at x (shared e) = subst (λ o. IsIntJudged (judged_meaning sort.Variable at o)) (sym e) (record { kind = refl; notes = refl })

pub array_int : (names : Names) (at : At) (x : Ident) → IsArrayName names x → IsIntJudged (named sort.Array names at x)
unfolding named
array_int names at x (n, e) = subst (λ o. IsIntJudged (judged_meaning sort.Array at o)) (sym e) (record { kind = refl; notes = refl })

-- an element of an array by an int
pub indexed_int : (names : Names) (at : At) (x : Ident) (e : Expr) → IsArrayName names x → IsInt names e → IsIntJudged (of_two (element at kind.Int) (named sort.Array names at x) (judged_expr names e))
indexed_int names at x e h i = of_two_int (element at kind.Int) (named sort.Array names at x) (judged_expr names e) (element_int at) (array_int names at x h) i

-- ---- expressions

module _ (names : Names) where
  -- what is known of an expression by its outermost layer
  judged_layer : (z : Node-F Node Expr) → judged_expr names (words.expr_of z) ≡ judged_node_step names (map-Node Node Expr (At → Judged) Judged (judged_node names) (judged_expr names) z) nowhere
  unfolding words.expr_of
  judged_layer z =
      fold-roll-Expr (At → Judged) Judged (judged_node_step names) judged_expr_step (record { at = nowhere; node = roll-Node z })
      ∙ ap (λ (f : At → Judged). f nowhere) (fold-roll-Node (At → Judged) Judged (judged_node_step names) judged_expr_step z)

  by_layer : (z : Node-F Node Expr) → IsIntJudged (judged_node_step names (map-Node Node Expr (At → Judged) Judged (judged_node names) (judged_expr names) z) nowhere) → IsInt names (words.expr_of z)
  by_layer z h = subst IsIntJudged (sym (judged_layer z)) h

  pub number_int : (z : ℤ) → IsInt names (words.number z)
  number_int z = by_layer (node.Number z) (record { kind = refl; notes = refl })

  pub num_int : (n : ℕ) → IsInt names (words.num n)
  num_int n = number_int (pos n)

  pub var_int : (x : Ident) → IsIntName names x → IsInt names (words.var x)
  var_int x h = by_layer (node.Name x) (name_int names nowhere x h)

  pub elem_int : (x : Ident) (e : Expr) → IsArrayName names x → IsInt names e → IsInt names (words.elem x e)
  elem_int x e h i = by_layer (node.Index x e) (indexed_int names nowhere x e h i)

  pub un_int : (op : Unary) (e : Expr) → IsInt names e → IsInt names (words.un op e)
  un_int op e i = by_layer (node.Un op e) (of_one_int (unary nowhere op) (judged_expr names e) (unary_int nowhere op) i)

  pub bin_int : (op : Binary) (e f : Expr) → IsInt names e → IsInt names f → IsInt names (words.bin op e f)
  bin_int op e f i j = by_layer (node.Bin op e f) (of_two_int (binary nowhere op) (judged_expr names e) (judged_expr names f) (binary_int nowhere op) i j)

  pub choice_of_ints : (c e f : Expr) → IsInt names c → IsInt names e → IsInt names f → IsInt names (words.choice c e f)
  choice_of_ints c e f h i j = by_layer (node.Cond c e f) (of_three_int (choice nowhere) (judged_expr names c) (judged_expr names e) (judged_expr names f) (choice_int nowhere) h i j)
