-- The code of a statement is that of the equations.
use Rattle.std.proofs.Common.{◌≡◌, ℕ, ◌+◌, ◌<◌, ◌^◌, pos, List, [], ◌∷◌, ◌++◌, reverse, length, codes, flat_map, fold, Option, Some, None, refl, sym, ◌∙◌, ap, subst, arith}
use Rattle.std.specs.Fmt.{decimal}
use Rattle.std.specs.Str.Parse.{AllDigits}
use Rattle.std.proofs.lemmas.Fmt.{digits_value-decimal}
use Rattle.std.proofs.lemmas.Str.Parse.{FoldsDigits, numerals_by_fold, tells_digits}
use Rattle.mm_goto.specs.declared.ident.At.{At}
use Rattle.mm_goto.specs.declared.ident.Ident.{Ident}
use Rattle.mm_goto.specs.declared.pure.Pure.{Pure}
use Rattle.mm_goto.specs.declared.program.Cell.{Cell}
use Rattle.mm_goto.specs.declared.program.Target.TheVariants as target
use Rattle.mm_goto.specs.declared.program.Instr.{Instr}
use Rattle.mm_goto.specs.declared.program.Instr.TheVariants.{Set, Store, Jump, Assert as Check}
use Rattle.mm_goto.specs.Terms.{constant}
use Rattle.mm_tree.specs.declared.expr.Expr.{Expr}
use Rattle.mm_tree.specs.declared.item.Item.{Item}
use Rattle.mm_tree.specs.declared.side.Side.{Side}
use Rattle.mm_tree.specs.declared.side.Side.TheVariants.{Source, Output}
use Rattle.mm_tree.specs.declared.stmt.Local.{Local}
use Rattle.mm_tree.specs.declared.stmt.Stmt.{Stmt}
use Rattle.mm_tree.specs.declared.stmt.Value.TheVariants as value
use Rattle.mm_tree.specs.Trees.{named_left}
use Rattle.mm_flow.specs.declared.mentions.Mention.{Mention}
use Rattle.mm_flow.specs.declared.mentions.Mention.TheVariants.{Assertion, Label}
use Rattle.mm_flow.specs.declared.names.Named.{Named}
use Rattle.mm_flow.specs.declared.names.Spot.{Spot}
use Rattle.mm_flow.specs.Flow.{Flow, Empty, Do, Then, Leave, Goto, Home, Ways, lay}
use Rattle.mm_flow.specs.Expressions.{Val, the_spot, cell, expr_value}
use Rattle.mm_flow.specs.Scopes.{named, spot_of}
use Rattle.mm_flow.specs.Statements.{Did, Known as Equated, Function, Within, declared_one, digit_step, stated, assert_number, asserted, just, set_to, stored, assigned, assigned_to, effect, returned, declared, labelled, body_code, stmt_code}
use Rattle.mm_flow.specs.Text.{of_local, mentions_of, mentions}
use Rattle.mm_small_code.specs.reading.Flattening.{Placed, placed, number_of, Known, Around, around, bare_local, with_local, AreDeclared, IsAssertion, IsCode, AreCode}
use Rattle.mm_small_code.proofs.EquationsLayers.{declare_code, assign_code, assert_code, goto_code, label_code, return_code, declare_mentions, assign_mentions, assert_mentions, goto_mentions, label_mentions, return_mentions}
use Rattle.mm_small_code.proofs.EquationsNames.{same_local, one_more_name, same_cell, spots_from}
use Rattle.mm_small_code.proofs.EquationsValues.{ValueIs, value_is, scope_of, both_marks}
use Rattle.mm_small_code.proofs.EquationsSteps.{equated, StepIs, unlabelled, two_flows, two_steps, label_step}

-- what the statements of main stand in
abbrev pub in_main : Side → List Cell → List Ident → List ℕ → List Item → (Function → List Named → ℕ → ℕ → Did) → Within
in_main side cells mutexes asserts items inline = record {
  parts = record { side = side; spots = spots_from 0 cells; mutexes = mutexes; starts = []; asserts = asserts };
  items = items;
  inline = inline;
  ret = None;
}

-- ---- one instruction behind the code of a value

last_of : (x : Ways) (a : Flow) (at : At) (c : ℕ) (i j : Instr) (is rest : List Placed) → is ≡ lay x a c ++ (placed at i ∷ rest) → i ≡ j → is ≡ lay x (Then a (Do at j)) c ++ rest
last_of x a at c i j is rest h e = two_flows x a (Do at j) c is (placed at i ∷ rest) rest h (ap (λ i. placed at i ∷ rest) e)

-- ---- declarations

bare_mentions : {k j : Known} {ls : List Local} {is rest : List Placed} → AreDeclared k ls is j rest → flat_map of_local ls ≡ []
bare_mentions AreDeclared.none = refl
bare_mentions (AreDeclared.bare d) = bare_mentions d

-- what the equations know behind one declaration
abbrev behind_one : Known → Ident → Equated
behind_one k x = record { names = reverse k.locals ++ named x k.next ∷ []; next = k.next + 1; seen = record { asserts = k.asserts; starts = 0 } }

known_one : (k : Known) (x : Ident) → behind_one k x ≡ equated (with_local k x)
known_one k x = ap (λ ns. record { names = ns; next = k.next + 1; seen = record { asserts = k.asserts; starts = 0 } }) (one_more_name k.locals x k.next)

one_is : (f : Around) (w : Within) (k : Known) (at : At) (x : Ident) (is : List Placed) → StepIs f k (with_local k x) (declared_one w (equated k) (bare_local at x)) [] (placed at (Set k.next (constant (pos 0))) ∷ is) is
one_is f w k at x is = unlabelled f k (with_local k x) (declared_one w (equated k) (bare_local at x)) [] (placed at (Set k.next (constant (pos 0))) ∷ is) is (known_one k x) (omega arith) (λ y c h. refl) refl (λ y c. refl) refl

pub declared_is : (f : Around) (w : Within) {k j : Known} {ls : List Local} {is rest : List Placed} → AreDeclared k ls is j rest → StepIs f k j (declared w ls (equated k)) [] is rest
declared_is f w {rest = rest} (AreDeclared.none {k = k}) = unlabelled f k k (declared w [] (equated k)) [] rest rest refl (omega arith) (λ x c h. refl) refl (λ y c. refl) refl
declared_is f w {rest = rest} (AreDeclared.bare {k = k} {j = j} {at = at} {x = x} {ls = ls} {is = is} d) =
    let r = subst (λ (e : Equated). StepIs f (with_local k x) j (declared w ls e) [] is rest) (sym (known_one k x)) (declared_is f w d) in
    two_steps f k (with_local k x) j (declared_one w (equated k) (bare_local at x)) (declared w ls (behind_one k x)) [] [] (placed at (Set k.next (constant (pos 0))) ∷ is) is rest (one_is f w k at x is) r

-- ---- assignments

module _ (side : Side) (cells : List Cell) (mutexes : List Ident) (asserts : List ℕ) (items : List Item) (inline : Function → List Named → ℕ → ℕ → Did) where
  abbrev here : Within
  here = in_main side cells mutexes asserts items inline

  set_assigned : (locals : List Named) (n l : ℕ) (there : At) (x : Ident) (e : Expr) → number_of locals x ≡ Some l → assigned here (reverse locals) n (named_left there x) (value.Plain e) ≡ set_to there l (expr_value e (scope_of cells locals) n)
  unfolding assigned
  set_assigned locals n l there x e h = ap (assigned_to here (reverse locals) n (named_left there x) (value.Plain e)) (same_local locals x ∙ h)

  store_assigned : (locals : List Named) (n : ℕ) (there : At) (x : Ident) (e : Expr) → number_of locals x ≡ None → assigned here (reverse locals) n (named_left there x) (value.Plain e) ≡ stored there (cell (the_spot (spot_of (spots_from 0 cells) x)) n) (expr_value e (scope_of cells locals))
  unfolding assigned
  store_assigned locals n there x e h = ap (assigned_to here (reverse locals) n (named_left there x) (value.Plain e)) (same_local locals x ∙ h)

-- behind the code of a value, where no label stands
known_next : (k : Known) (m n : ℕ) → m ≡ n → record { names = reverse k.locals; next = m; seen = record { asserts = k.asserts; starts = 0 } } ≡ equated (record k { next = n })
known_next k m n e = ap (λ m. record { names = reverse k.locals; next = m; seen = record { asserts = k.asserts; starts = 0 } }) e

set_is : (f : Around) (k : Known) (there : At) (l n : ℕ) (v : Val) (p : Pure) (is rest : List Placed) → ValueIs v p n is (placed there (Set l p) ∷ rest) → StepIs f k (record k { next = n }) (effect (equated k) (set_to there l v)) [] is rest
set_is f k there l n v p is rest d = unlabelled f k (record k { next = n }) (effect (equated k) (set_to there l v)) [] is rest
    (known_next k v.next n d.next)
    (omega (arith, d.lengths))
    (λ x c h. last_of x v.flow there c (Set l p) (Set l v.pure) is rest (d.code x c) (ap (Set l) (sym d.pure)))
    refl
    (λ y c. both_marks v.flow (Do there (Set l v.pure)) y c (d.marks y c) refl)
    refl

store_same : (c d : ℕ) (p q : Pure) → d ≡ c → q ≡ p → Store (target.Cell c) p ≡ Store (target.Cell d) q
store_same c d p q e f = cc

store_is : (f : Around) (k : Known) (there : At) (s : Spot) (c n : ℕ) (read : ℕ → Val) (p : Pure) (is rest : List Placed) → s.first ≡ c → ValueIs (read k.next) p n is (placed there (Store (target.Cell c) p) ∷ rest) → StepIs f k (record k { next = n }) (effect (equated k) (stored there (cell s k.next) read)) [] is rest
store_is f k there s c n read p is rest e d = unlabelled f k (record k { next = n }) (effect (equated k) (stored there (cell s k.next) read)) [] is rest
    (known_next k (read k.next).next n d.next)
    (omega (arith, d.lengths))
    (λ x m h. last_of x (read k.next).flow there (m + 0) (Store (target.Cell c) p) (Store (target.Cell s.first) (read k.next).pure) is rest (d.code x (m + 0)) (store_same c s.first p (read k.next).pure e d.pure))
    refl
    (λ y m. both_marks Empty (Then (read k.next).flow (Do there (Store (target.Cell s.first) (read k.next).pure))) y m refl (both_marks (read k.next).flow (Do there (Store (target.Cell s.first) (read k.next).pure)) y (m + 0) (d.marks y (m + 0)) refl))
    refl

-- ---- assertions

folds : FoldsDigits (fold digit_step)
folds = record { empty = λ n. refl; more = λ n c cs h. refl }

stated_is : (n : ℕ) → n < 2 ^ 32 → stated (Some (codes "assertion " ++ decimal n)) ≡ n
stated_is n h = digits_value-decimal (numerals_by_fold (AllDigits 10) tells_digits (fold digit_step) folds) n (omega (arith, h))

number_is : (side : Side) (a m : ℕ) (text : Option Ident) → IsAssertion side a text m → assert_number side a text ≡ m
number_is Source a m text h = sym h
number_is Output a m text h = ap stated h.1 ∙ stated_is m h.0

check_same : (m n : ℕ) (p q : Pure) → n ≡ m → q ≡ p → Check p m ≡ Check q n
check_same m n p q e f = cc

known_checked : (k : Known) (m n : ℕ) → m ≡ n → record { names = reverse k.locals; next = m; seen = record { asserts = k.asserts + 1; starts = 0 } } ≡ equated (record k { next = n; asserts = k.asserts + 1 })
known_checked k m n e = ap (λ m. record { names = reverse k.locals; next = m; seen = record { asserts = k.asserts + 1; starts = 0 } }) e

check_is : (f : Around) (k : Known) (at : At) (m a n : ℕ) (v : Val) (p : Pure) (is rest : List Placed) → a ≡ m → ValueIs v p n is (placed at (Check p m) ∷ rest) → StepIs f k (record k { next = n; asserts = k.asserts + 1 }) (record { flow = Then v.flow (Do at (Check v.pure a)); known = record { names = reverse k.locals; next = v.next; seen = record { asserts = k.asserts + 1; starts = 0 } } }) (Assertion ∷ []) is rest
check_is f k at m a n v p is rest e d = unlabelled f k (record k { next = n; asserts = k.asserts + 1 }) _ (Assertion ∷ []) is rest
    (known_checked k v.next n d.next)
    (omega (arith, d.lengths))
    (λ x c h. last_of x v.flow at c (Check p m) (Check v.pure a) is rest (d.code x c) (check_same m a p v.pure e d.pure))
    refl
    (λ y c. both_marks v.flow (Do at (Check v.pure a)) y c (d.marks y c) refl)
    refl

-- ---- jumps

jump_same : (at : At) (m n : ℕ) (rest : List Placed) → n ≡ m → placed at (Jump m) ∷ rest ≡ placed at (Jump n) ∷ rest
jump_same at m n rest e = cc

goto_is : (f : Around) (k : Known) (at : At) (x : Ident) (m : ℕ) (rest : List Placed) → number_of f.labels x ≡ Some m → StepIs f k k (just (Goto at x) (equated k)) [] (placed at (Jump m) ∷ rest) rest
goto_is f k at x m rest e = unlabelled f k k (just (Goto at x) (equated k)) [] (placed at (Jump m) ∷ rest) rest refl (omega arith) (λ w c h. jump_same at m (w.label x) rest (h.labels x m e)) refl (λ y c. refl) refl

home_code : (x : Ways) (a : Flow) (at : At) (c m : ℕ) (is rest : List Placed) → x.home ≡ m → is ≡ lay x a c ++ (placed at (Jump m) ∷ rest) → is ≡ lay x (Then a (Then Empty (Leave at Home))) c ++ rest
home_code x a at c m is rest e h = two_flows x a (Then Empty (Leave at Home)) c is (placed at (Jump m) ∷ rest) rest h (jump_same at m x.home rest e)

return_is : (f : Around) (k : Known) (at : At) (m n : ℕ) (v : Val) (p : Pure) (is rest : List Placed) → length f.code ≡ m + 1 → ValueIs v p n is (placed at (Jump m) ∷ rest) → StepIs f k (record k { next = n }) (record { flow = Then v.flow (Then Empty (Leave at Home)); known = record { names = reverse k.locals; next = v.next; seen = record { asserts = k.asserts; starts = 0 } } }) [] is rest
return_is f k at m n v p is rest e d = unlabelled f k (record k { next = n }) _ [] is rest
    (known_next k v.next n d.next)
    (omega (arith, d.lengths))
    (λ x c h. home_code x v.flow at c m is rest (omega (arith, h.home, e)) (d.code x c))
    refl
    (λ y c. both_marks v.flow (Then Empty (Leave at Home)) y c (d.marks y c) refl)
    refl

-- ---- the whole

-- the statement's code by the equations
abbrev IsAlike : Around → Within → Known → Stmt → List Placed → Known → List Placed → Type 0
IsAlike f w k s is j rest = StepIs f k j (stmt_code s w (equated k)) (mentions_of s) is rest

alike : (f : Around) (w : Within) (k j : Known) (s : Stmt) (d : Did) (ms : List Mention) (is rest : List Placed) → stmt_code s w (equated k) ≡ d → mentions_of s ≡ ms → StepIs f k j d ms is rest → IsAlike f w k s is j rest
alike f w k j s d ms is rest e g h = subst (λ d. StepIs f k j d (mentions_of s) is rest) (sym e) (subst (λ ms. StepIs f k j d ms is rest) (sym g) h)

module _ {side : Side} {cells : List Cell} {code : List Placed} {labels : List Named} (mutexes : List Ident) (asserts : List ℕ) (items : List Item) (inline : Function → List Named → ℕ → ℕ → Did) where
  pub code_is : {k j : Known} {s : Stmt} {is rest : List Placed} → IsCode (around side cells code labels) k s is j rest → IsAlike (around side cells code labels) (in_main side cells mutexes asserts items inline) k s is j rest
  code_is {is = is} {rest = rest} (IsCode.declare {k = k} {j = j} {at = at} {ls = ls} d) =
      alike (around side cells code labels) (in_main side cells mutexes asserts items inline) k j _ (declared (in_main side cells mutexes asserts items inline) ls (equated k)) [] is rest (declare_code at ls (in_main side cells mutexes asserts items inline) (equated k)) (declare_mentions at ls ∙ bare_mentions d) (declared_is (around side cells code labels) (in_main side cells mutexes asserts items inline) d)
  code_is {is = is} {rest = rest} (IsCode.set {k = k} {at = at} {there = there} {x = x} {e = e} {p = p} {l = l} {n = n} h d) =
      alike (around side cells code labels) (in_main side cells mutexes asserts items inline) k (record k { next = n }) _ (effect (equated k) (set_to there l (expr_value e (scope_of cells k.locals) k.next))) [] is rest
      (assign_code at (named_left there x) (value.Plain e) (in_main side cells mutexes asserts items inline) (equated k) ∙ ap (effect (equated k)) (set_assigned side cells mutexes asserts items inline k.locals k.next l there x e h))
      (assign_mentions at (named_left there x) (value.Plain e))
      (set_is (around side cells code labels) k there l n (expr_value e (scope_of cells k.locals) k.next) p is rest (value_is d))
  code_is {is = is} {rest = rest} (IsCode.store {k = k} {at = at} {there = there} {x = x} {e = e} {p = p} {c = c} {n = n} h g d) =
      alike (around side cells code labels) (in_main side cells mutexes asserts items inline) k (record k { next = n }) _ (effect (equated k) (stored there (cell (the_spot (spot_of (spots_from 0 cells) x)) k.next) (expr_value e (scope_of cells k.locals)))) [] is rest
      (assign_code at (named_left there x) (value.Plain e) (in_main side cells mutexes asserts items inline) (equated k) ∙ ap (effect (equated k)) (store_assigned side cells mutexes asserts items inline k.locals k.next there x e h))
      (assign_mentions at (named_left there x) (value.Plain e))
      (store_is (around side cells code labels) k there (the_spot (spot_of (spots_from 0 cells) x)) c n (expr_value e (scope_of cells k.locals)) p is rest (same_cell cells x c g) (value_is d))
  code_is {is = is} {rest = rest} (IsCode.assert {k = k} {at = at} {e = e} {text = text} {p = p} {m = m} {n = n} h d) =
      alike (around side cells code labels) (in_main side cells mutexes asserts items inline) k (record k { next = n; asserts = k.asserts + 1 }) _ (asserted (in_main side cells mutexes asserts items inline) at e text (equated k)) (Assertion ∷ []) is rest
      (assert_code at e text (in_main side cells mutexes asserts items inline) (equated k))
      (assert_mentions at e text)
      (check_is (around side cells code labels) k at m (assert_number side k.asserts text) n (expr_value e (scope_of cells k.locals) k.next) p is rest (number_is side k.asserts m text h) (value_is d))
  code_is {is = is} {rest = rest} (IsCode.goto {k = k} {at = at} {w = w} {m = m} h) =
      alike (around side cells code labels) (in_main side cells mutexes asserts items inline) k k _ (just (Goto at w.name) (equated k)) [] is rest (goto_code at w (in_main side cells mutexes asserts items inline) (equated k)) (goto_mentions at w) (goto_is (around side cells code labels) k at w.name m rest h)
  code_is {is = is} {rest = rest} (IsCode.label {k = k} {j = j} {at = at} {w = w} {s = s} {m = m} h d) =
      alike (around side cells code labels) (in_main side cells mutexes asserts items inline) k j _ (labelled w.name (stmt_code s) (in_main side cells mutexes asserts items inline) (equated k)) (Label w.name ∷ mentions_of s) is rest
      (label_code at w s (in_main side cells mutexes asserts items inline) (equated k))
      (label_mentions at w s)
      (label_step (around side cells code labels) k j w.name m (stmt_code s (in_main side cells mutexes asserts items inline) (equated k)) (mentions_of s) is rest h (code_is d))
  code_is {is = is} {rest = rest} (IsCode.return {k = k} {at = at} {e = e} {p = p} {m = m} {n = n} d h) =
      alike (around side cells code labels) (in_main side cells mutexes asserts items inline) k (record k { next = n }) _ (effect (equated k) (returned (in_main side cells mutexes asserts items inline) at (reverse k.locals) k.next (Some (value.Plain e)))) [] is rest
      (return_code at (Some (value.Plain e)) (in_main side cells mutexes asserts items inline) (equated k))
      (return_mentions at (Some (value.Plain e)))
      (return_is (around side cells code labels) k at m n (expr_value e (scope_of cells k.locals) k.next) p is rest h (value_is d))

  pub codes_are : {k j : Known} {ss : List Stmt} {is rest : List Placed} → AreCode (around side cells code labels) k ss is j rest → StepIs (around side cells code labels) k j (body_code ss (in_main side cells mutexes asserts items inline) (equated k)) (mentions ss) is rest
  codes_are {rest = rest} (AreCode.none {k = k}) = unlabelled (around side cells code labels) k k (body_code [] (in_main side cells mutexes asserts items inline) (equated k)) [] rest rest refl (omega arith) (λ x c h. refl) refl (λ y c. refl) refl
  codes_are {is = is} {rest = rest} (AreCode.more {k = k} {j = j} {l = l} {s = s} {ss = ss} {mid = mid} d e) =
      let first = code_is d in
      let others = subst (λ (q : Equated). StepIs (around side cells code labels) j l (body_code ss (in_main side cells mutexes asserts items inline) q) (mentions ss) mid rest) (sym first.known) (codes_are e) in
      two_steps (around side cells code labels) k j l (stmt_code s (in_main side cells mutexes asserts items inline) (equated k)) (body_code ss (in_main side cells mutexes asserts items inline) (stmt_code s (in_main side cells mutexes asserts items inline) (equated k)).known) (mentions_of s) (mentions ss) is mid rest first others
