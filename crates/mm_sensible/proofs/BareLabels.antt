-- The labels of a statement without its places are its labels, without places.
use Rattle.std.proofs.Common.{◌≡◌, Bool, true, false, List, [], ◌∷◌, ◌++◌, map, is_some, refl, ◌∙◌, sym, ap, subst, Some, None}
use Rattle.mm_goto.specs.declared.ident.At.{At}
use Rattle.mm_tree.specs.Places.{nowhere, bare_word, bare_stmt_layer, bare_stmt_node_step, bare_stmt_step, bare_stmt_node, bare_stmt}
use Rattle.mm_tree.specs.declared.expr.Word.{Word}
use Rattle.mm_tree.specs.declared.side.Side.{Side}
use Rattle.mm_tree.specs.declared.stmt.Stmt.{Stmt, roll-Stmt}
use Rattle.mm_tree.specs.declared.stmt.StmtNode.{StmtNode, roll-StmtNode}
use Rattle.mm_tree.specs.declared.stmt.StmtNode.TheOpen as stmt
use Rattle.mm_tree.specs.declared.stmt.StmtNode.TheOpen.{StmtNode-F, Stmt-F}
use Rattle.mm_tree.specs.declared.stmt.StmtNode.TheFolds.{ind-Stmt, fold-roll-StmtNode, fold-roll-Stmt, map-StmtNode, map-Stmt}
use Rattle.mm_scope.specs.Parts.{output_only}
use Rattle.mm_scope.specs.Scopes.{Table, meaning_in}
use Rattle.mm_scope.specs.Steps.{reserved}
use Rattle.mm_names.specs.Items.{labels_of}
use Rattle.mm_names.specs.Labels.{all_labels, labels_node_step, labels_stmt_step, labels_in_node, labels_in, with_label, with_labels, twice_if, label_notes, labels_notes}
use Rattle.mm_sensible.proofs.BareOperands.{bare_notes, bare_both}
use Rattle.mm_sensible.proofs.BareStatements.{reserved_bare, output_bare}

abbrev bares : List Word → List Word
bares ws = map bare_word ws

bares_both : {us vs : List Word} (xs ys : List Word) → us ≡ bares xs → vs ≡ bares ys → us ++ vs ≡ bares (xs ++ ys)
bares_both {us} {vs} xs ys h g = ap (λ ns. ns ++ vs) h ∙ ap (λ ns. bares xs ++ ns) g ∙ by xs
  where
    by : (xs : List Word) → bares xs ++ bares ys ≡ bares (xs ++ ys)
    by [] = refl
    by (x ∷ xs) = ap (λ ws. bare_word x ∷ ws) (by xs)

P : StmtNode → Type 0
P d = labels_in_node (bare_stmt_node d) ≡ bares (labels_in_node d)

Q : Stmt → Type 0
Q s = labels_in (bare_stmt s) ≡ bares (labels_in s)

abbrev labels_layer : StmtNode-F StmtNode Stmt → List Word
labels_layer z = labels_node_step (map-StmtNode StmtNode Stmt (List Word) (List Word) labels_in_node labels_in z)

abbrev bare_parts : StmtNode-F StmtNode Stmt → StmtNode-F StmtNode Stmt
bare_parts z = bare_stmt_layer (map-StmtNode StmtNode Stmt StmtNode Stmt bare_stmt_node bare_stmt z)

labels_roll : (z : StmtNode-F StmtNode Stmt) → labels_in_node (roll-StmtNode z) ≡ labels_layer z
labels_roll z = fold-roll-StmtNode (List Word) (List Word) labels_node_step labels_stmt_step z

by_node : (z : StmtNode-F StmtNode Stmt) → labels_layer (bare_parts z) ≡ bares (labels_layer z) → P (roll-StmtNode z)
unfolding P
by_node z g =
    ap labels_in_node (fold-roll-StmtNode StmtNode Stmt bare_stmt_node_step bare_stmt_step z)
    ∙ labels_roll (bare_parts z)
    ∙ g
    ∙ sym (ap bares (labels_roll z))

by_stmt : (z : Stmt-F StmtNode Stmt) → P z.node → Q (roll-Stmt z)
unfolding P Q
by_stmt z g =
    ap labels_in (fold-roll-Stmt StmtNode Stmt bare_stmt_node_step bare_stmt_step z)
    ∙ fold-roll-Stmt (List Word) (List Word) labels_node_step labels_stmt_step (record { at = nowhere; node = bare_stmt_node z.node })
    ∙ g
    ∙ sym (ap bares (fold-roll-Stmt (List Word) (List Word) labels_node_step labels_stmt_step z))

abbrev Proved : Type 0
Proved = (s : Stmt) × Q s

abbrev Layer : Type 0
Layer = StmtNode-F ((d : StmtNode) × P d) Proved

abbrev plain : Layer → StmtNode-F StmtNode Stmt
plain y = map-StmtNode ((d : StmtNode) × P d) Proved StmtNode Stmt (λ d. d.0) (λ e. e.0) y

parts_bare : (ss : List Proved) → all_labels (map labels_in (map bare_stmt (map (λ (s : Proved). s.0) ss))) ≡ bares (all_labels (map labels_in (map (λ (s : Proved). s.0) ss)))
unfolding all_labels Q
parts_bare [] = refl
parts_bare (s ∷ ss) = bares_both (labels_in s.0) (all_labels (map labels_in (map (λ (s : Proved). s.0) ss))) s.1 (parts_bare ss)

layer_bare : (y : Layer) → labels_layer (bare_parts (plain y)) ≡ bares (labels_layer (plain y))
unfolding Q
layer_bare stmt.Empty = refl
layer_bare (stmt.Block ss) = parts_bare ss
layer_bare (stmt.Declare ls) = refl
layer_bare (stmt.DeclareThread ws) = refl
layer_bare (stmt.Assign l v) = refl
layer_bare (stmt.Update l op c) = refl
layer_bare (stmt.Do v) = refl
layer_bare (stmt.If c d None) = bares_both (labels_in d.0) [] d.1 refl
layer_bare (stmt.If c d (Some o)) = bares_both (labels_in d.0) (labels_in o.0) d.1 o.1
layer_bare (stmt.While c d) = d.1
layer_bare (stmt.DoWhile d c) = d.1
layer_bare (stmt.For None c None d) = d.1
layer_bare (stmt.For None c (Some j) d) = bares_both (labels_in j.0) (labels_in d.0) j.1 d.1
layer_bare (stmt.For (Some i) c None d) = bares_both (labels_in i.0 ++ []) (labels_in d.0) (bares_both (labels_in i.0) [] i.1 refl) d.1
layer_bare (stmt.For (Some i) c (Some j) d) = bares_both (labels_in i.0 ++ labels_in j.0) (labels_in d.0) (bares_both (labels_in i.0) (labels_in j.0) i.1 j.1) d.1
layer_bare stmt.Break = refl
layer_bare stmt.Continue = refl
layer_bare (stmt.Return v) = refl
layer_bare (stmt.Assert c text) = refl
layer_bare (stmt.Assume c) = refl
layer_bare stmt.Fence = refl
layer_bare (stmt.Lock x) = refl
layer_bare (stmt.Unlock x) = refl
layer_bare (stmt.Start x f) = refl
layer_bare (stmt.Join x) = refl
layer_bare (stmt.Goto x) = refl
layer_bare (stmt.Label x d) = ap (λ ws. bare_word x ∷ ws) d.1
layer_bare stmt.AtomBegin = refl
layer_bare stmt.AtomEnd = refl

stmt_labels : (s : Stmt) → labels_in (bare_stmt s) ≡ bares (labels_in s)
unfolding Q
stmt_labels = ind-Stmt P Q
    (λ x y is. subst (λ z. P (roll-StmtNode z)) is (by_node (plain y) (layer_bare y)))
    (λ x y is. subst (λ z. Q (roll-Stmt z)) is (by_stmt (map-Stmt _ _ StmtNode Stmt (λ d. d.0) (λ e. e.0) y) y.node.1))

-- the labels of a function's body
pub labels_bare : (ss : List Stmt) → labels_of (map bare_stmt ss) ≡ map bare_word (labels_of ss)
unfolding all_labels
labels_bare [] = refl
labels_bare (s ∷ ss) = bares_both (labels_in s) (labels_of ss) (stmt_labels s) (labels_bare ss)

-- ---- what is declared by them

pub table_bare : (table : Table) (ws : List Word) → with_labels table (map bare_word ws) ≡ with_labels table ws
table_bare table [] = refl
table_bare table (w ∷ ws) = table_bare (with_label table w) ws

twice_bare : (b : Bool) (at : At) → twice_if b nowhere ≡ bare_notes (twice_if b at)
twice_bare true at = refl
twice_bare false at = refl

label_noted : (side : Side) (table : Table) (w : Word) → label_notes side table (bare_word w) ≡ bare_notes (label_notes side table w)
label_noted side table w =
    bare_both (reserved side w.at w.name ++ output_only side w.at) (twice_if (is_some (meaning_in table w.name)) w.at)
    (bare_both (reserved side w.at w.name) (output_only side w.at) (reserved_bare side w.at w.name) (output_bare side w.at)) (twice_bare (is_some (meaning_in table w.name)) w.at)

pub labels_noted : (side : Side) (table : Table) (ws : List Word) → labels_notes side table (map bare_word ws) ≡ bare_notes (labels_notes side table ws)
unfolding labels_notes
labels_noted side table [] = refl
labels_noted side table (w ∷ ws) = bare_both (label_notes side table w) (labels_notes side (with_label table w) ws) (label_noted side table w) (labels_noted side (with_label table w) ws)
