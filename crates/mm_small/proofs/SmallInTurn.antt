-- The trees of small programs, read in turn: what is to come is read behind what was read before it.
use Rattle.std.proofs.Common.{◌≡◌, List, [], ◌∷◌, ◌++◌, Option, Some, None, option_map, option_and_then, refl, sym, ◌∙◌, ap, append_assoc, append-nil}
use Rattle.mm_goto.specs.declared.ident.At.{At}
use Rattle.mm_goto.specs.declared.ident.Ident.{Ident}
use Rattle.mm_tree.specs.declared.item.Item.{Item}
use Rattle.mm_tree.specs.declared.stmt.Stmt.{Stmt}
use Rattle.mm_small.specs.declared.tree.Statement.{Statement}
use Rattle.mm_small.specs.declared.tree.Body.{Body}
use Rattle.mm_small.specs.SmallTree.{statement_of, statement_before, return_of, body_of, variable_of, variables_in}

-- ---- statements

-- statements behind others, and last of all `return 0`
abbrev pub body_from : List Ident → List Statement → List Stmt → Option Body
body_from variables done [] = None
body_from variables done (s ∷ []) = option_map (λ at. record { statements = done; return_at = at }) (return_of s)
body_from variables done (s ∷ t ∷ ss) = option_and_then (λ x. body_from variables (done ++ x ∷ []) (t ∷ ss)) (statement_of variables s)

-- the body behind the statements
abbrev behind : List Statement → Body → Body
behind done b = record { statements = done ++ b.statements; return_at = b.return_at }

behind_one_more : (done : List Statement) (x : Statement) (o : Option Body) → option_map (behind (done ++ x ∷ [])) o ≡ option_map (behind done) (option_map (statement_before x) o)
behind_one_more done x None = refl
behind_one_more done x (Some b) = ap (λ ss. Some (record { statements = ss; return_at = b.return_at })) (append_assoc done (x ∷ []) b.statements)

body_behind : (vs : List Ident) (ss : List Stmt) (done : List Statement) → body_from vs done ss ≡ option_map (behind done) (body_of vs ss)
body_behind vs [] done = refl
body_behind vs (s ∷ []) done = by (return_of s)
  where
    by : (o : Option At) → option_map (λ at. record { statements = done; return_at = at }) o ≡ option_map (behind done) (option_map (λ at. record { statements = []; return_at = at }) o)
    by None = refl
    by (Some at) = ap (λ ss. Some (record { statements = ss; return_at = at })) (sym (append-nil done))
body_behind vs (s ∷ t ∷ ss) done = by (statement_of vs s) (λ x. body_behind vs (t ∷ ss) (done ++ x ∷ []))
  where
    by : (o : Option Statement) → ((x : Statement) → body_from vs (done ++ x ∷ []) (t ∷ ss) ≡ option_map (behind (done ++ x ∷ [])) (body_of vs (t ∷ ss))) → option_and_then (λ x. body_from vs (done ++ x ∷ []) (t ∷ ss)) o ≡ option_map (behind done) (option_and_then (λ x. option_map (statement_before x) (body_of vs (t ∷ ss))) o)
    by None h = refl
    by (Some x) h = h x ∙ behind_one_more done x (body_of vs (t ∷ ss))

-- the whole body stands behind no statement
pub body_in_turn : (vs : List Ident) (ss : List Stmt) → body_of vs ss ≡ body_from vs [] ss
body_in_turn vs ss = sym (body_behind vs ss [] ∙ by (body_of vs ss))
  where
    by : (o : Option Body) → option_map (behind []) o ≡ o
    by None = refl
    by (Some b) = refl

-- ---- variables

-- variables behind others, which the items before the last declare
abbrev pub variables_from : List Ident → List Item → Option (List Ident)
variables_from vs [] = None
variables_from vs (i ∷ []) = Some vs
variables_from vs (i ∷ j ∷ is) = option_and_then (λ x. variables_from (vs ++ x ∷ []) (j ∷ is)) (variable_of i)

one_variable_more : (vs : List Ident) (x : Ident) (o : Option (List Ident)) → option_map (λ xs. (vs ++ x ∷ []) ++ xs) o ≡ option_map (λ xs. vs ++ xs) (option_map (λ xs. x ∷ xs) o)
one_variable_more vs x None = refl
one_variable_more vs x (Some xs) = ap Some (append_assoc vs (x ∷ []) xs)

variables_behind : (is : List Item) (vs : List Ident) → variables_from vs is ≡ option_map (λ xs. vs ++ xs) (variables_in is)
variables_behind [] vs = refl
variables_behind (i ∷ []) vs = ap Some (sym (append-nil vs))
variables_behind (i ∷ j ∷ is) vs = by (variable_of i) (λ x. variables_behind (j ∷ is) (vs ++ x ∷ []))
  where
    by : (o : Option Ident) → ((x : Ident) → variables_from (vs ++ x ∷ []) (j ∷ is) ≡ option_map (λ xs. (vs ++ x ∷ []) ++ xs) (variables_in (j ∷ is))) → option_and_then (λ x. variables_from (vs ++ x ∷ []) (j ∷ is)) o ≡ option_map (λ xs. vs ++ xs) (option_and_then (λ x. option_map (λ xs. x ∷ xs) (variables_in (j ∷ is))) o)
    by None h = refl
    by (Some x) h = h x ∙ one_variable_more vs x (variables_in (j ∷ is))

-- all variables stand behind none
pub variables_in_turn : (is : List Item) → variables_in is ≡ variables_from [] is
variables_in_turn is = sym (variables_behind is [] ∙ by (variables_in is))
  where
    by : (o : Option (List Ident)) → option_map (λ xs. [] ++ xs) o ≡ o
    by None = refl
    by (Some xs) = refl
