-- What is behind parts that stand one behind another.
use Rattle.std.proofs.Common.{rules, arith, ◌≡◌, refl, ap, sym, ◌∙◌, ℕ, List, [], ◌∷◌, ◌++◌, length, take, get_or, ◌+◌, ◌<◌, fold, map, Option, Some, None, append_assoc}
use Rattle.std.proofs.lemmas.Grind.{common_steps, fold-append}
use Rattle.std.proofs.lemmas.List.{append-nil}
use Rattle.std.proofs.lemmas.List.Sums.{fold_more}
use Rattle.std.proofs.Math.Seq.{take-append_seam}
use Rattle.mm_scope.specs.declared.walk.Walk.{Walk}
use Rattle.mm_tree.specs.declared.expr.Expr.{Expr}
use Rattle.mm_tree.specs.declared.stmt.StmtNode.{the_lemmas as stmt_lemmas}
use Rattle.mm_scope.specs.declared.around.Around.{Around}
use Rattle.mm_scope.specs.Statements.{Placed, all_at, block, for_parts, for_loop}
use Rattle.mm_scope.specs.Parts.{inner}
use Rattle.mm_scope.specs.Steps.{Step, skip, and_then, in_turn, closed, after}

pub after-and_then : (f g : Step) (w : Walk) → after (and_then f g) w ≡ after g (after f w)
unfolding after and_then
after-and_then f g w = simp (append_assoc, fold-append)

pub after-skip : (w : Walk) → after skip w ≡ w
unfolding after skip
after-skip w = simp append-nil

pub after-in_turn-none : {X : Type 0} (f : X → Step) (w : Walk) → after (in_turn f []) w ≡ w
unfolding in_turn
after-in_turn-none f w = after-skip w

pub after-in_turn : {X : Type 0} (f : X → Step) (x : X) (xs : List X) (w : Walk) → after (in_turn f (x ∷ xs)) w ≡ after (in_turn f xs) (after (f x) w)
unfolding in_turn
after-in_turn f x xs w = after-and_then (f x) (in_turn f xs) w

pub after-closed : (f : Step) (w : Walk) → after (closed f) w ≡ record (after f w) { scope = record (after f w).scope { locals = take (length w.scope.locals) (after f w).scope.locals } }
unfolding after closed
after-closed f w = simp (append-nil, take-append_seam)

pub ruleset in_steps = (after-and_then, after-skip, after-in_turn-none, after-closed)

pub ruleset seams = (append-nil, take-append_seam, fold-append)

-- ---- parts of one sort, one behind another

abbrev pub passed : {X : Type 0} → (X → Step) → Walk → X → Walk
passed f w x = after (f x) w

pub after-in_turn-fold : {X : Type 0} (f : X → Step) (xs : List X) (w : Walk) → after (in_turn f xs) w ≡ fold (passed f) w xs
after-in_turn-fold f [] w = after-in_turn-none f w
after-in_turn-fold f (x ∷ xs) w = after-in_turn f x xs w ∙ after-in_turn-fold f xs (after (f x) w)

pub after-in_turn-next : {X : Type 0} (f : X → Step) (xs : List X) (i : ℕ) (x : X) (w : Walk) → i < length xs → x ≡ get_or xs i x → after (in_turn f (take (i + 1) xs)) w ≡ after (f x) (after (in_turn f (take i xs)) w)
after-in_turn-next f xs i x w below is =
    after-in_turn-fold f (take (i + 1) xs) w
    ∙ fold_more (passed f) w xs i x below
    ∙ ap (λ (y : _). after (f y) (fold (passed f) w (take i xs))) (sym is)
    ∙ ap (after (f x)) (sym (after-in_turn-fold f (take i xs) w))

-- ---- statements

pub after-all_at-none : (a : Around) (w : Walk) → after (all_at a []) w ≡ w
unfolding all_at
after-all_at-none a w = after-in_turn-none (λ s. s a) w

in_turn-map : {X : Type 0} (f : X → Placed) (a : Around) (ys : List X) → in_turn (λ s. s a) (map f ys) ≡ in_turn (λ y. f y a) ys
unfolding in_turn
in_turn-map f a [] = refl
in_turn-map f a (y ∷ ys) = ap (and_then (f y a)) (in_turn-map f a ys)

pub after-all_at-next : {X : Type 0} (f : X → Placed) (a : Around) (xs : List X) (i : ℕ) (x : X) (w : Walk) → i < length xs → x ≡ get_or xs i x → after (all_at a (map f (take (i + 1) xs))) w ≡ after (f x a) (after (all_at a (map f (take i xs))) w)
unfolding all_at
after-all_at-next f a xs i x w below is =
    ap (λ (p : Step). after p w) (in_turn-map f a (take (i + 1) xs))
    ∙ after-in_turn-next (λ y. f y a) xs i x w below is
    ∙ ap (λ (p : Step). after (f x a) (after p w)) (sym (in_turn-map f a (take i xs)))

pub after-block : (a : Around) (ss : List Placed) (w : Walk) → after (block a ss) w ≡ record (after (all_at (inner a w.scope) ss) w) { scope = record (after (all_at (inner a w.scope) ss) w).scope { locals = take (length w.scope.locals) (after (all_at (inner a w.scope) ss) w).scope.locals } }
unfolding block after closed
after-block a ss w = simp (append-nil, take-append_seam)

pub after-for_loop : (a : Around) (first : Option Placed) (e : Option Expr) (next : Option Placed) (s : Placed) (w : Walk) → after (for_loop a first e next s) w ≡ record (after (for_parts (inner a w.scope) first e next s) w) { scope = record (after (for_parts (inner a w.scope) first e next s) w).scope { locals = take (length w.scope.locals) (after (for_parts (inner a w.scope) first e next s) w).scope.locals } }
unfolding for_loop after closed
after-for_loop a first e next s w = simp (append-nil, take-append_seam)

pub ruleset in_blocks = (after-all_at-none, after-all_at-next)

pub ruleset in_statements = (after-and_then, after-skip, after-block, after-for_loop, stmt_lemmas)

pub ruleset in_loops = (after-in_turn-none, after-in_turn-next)
