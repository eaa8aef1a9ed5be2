-- What is in the grammar of the parts of statements is read.
use Rattle.std.proofs.Common.{◌≡◌, ℕ, zero, suc, ◌<◌, Bool, List, [], ◌∷◌, length, arith, Option, Some, None, refl, sym, ◌∙◌, ap, subst, ◌⊎◌, inl, inr}
use Rattle.mm_goto.specs.declared.ident.At.{At}
use Rattle.mm_goto.specs.declared.pure.Binary.TheVariants as binary
use Rattle.mm_tree.specs.declared.expr.Expr.{Expr}
use Rattle.mm_tree.specs.declared.expr.Word.{Word}
use Rattle.mm_tree.specs.declared.stmt.Left.{Left}
use Rattle.mm_tree.specs.declared.stmt.LeftNode.TheVariants as left_node
use Rattle.mm_tree.specs.declared.stmt.Local.{Local}
use Rattle.mm_tree.specs.declared.stmt.Stmt.{Stmt}
use Rattle.mm_tree.specs.declared.stmt.StmtNode.{StmtNode}
use Rattle.mm_tree.specs.declared.stmt.StmtNode.TheVariants as node
use Rattle.mm_tree.specs.declared.stmt.Value.{Value}
use Rattle.mm_tree.specs.declared.stmt.Value.TheVariants as value_node
use Rattle.mm_reading.specs.Parsing.{Parsed, ◌>>=◌, ◌>>◌, pure, peek, skip, head, after, token}
use Rattle.mm_parse_expr.specs.declared.symbol.Keyword.TheVariants as reserved
use Rattle.mm_parse_expr.specs.declared.symbol.Symbol.{Symbol}
use Rattle.mm_parse_expr.specs.declared.symbol.Symbol.TheVariants.{Name, Keyword, Operator, Update, Increment, Decrement, Assign, Semicolon, Comma, Open, Close, CloseBrace, Question}
use Rattle.mm_parse_expr.specs.declared.terminal.Terminal.{Terminal}
use Rattle.mm_parse_expr.specs.Grammar as e
use Rattle.mm_parse_expr.specs.Grammar.{IsExpr, IsLevel, IsMore, IsUnary, IsPrimary, terminal}
use Rattle.mm_tree.specs.Trees.{word, left_at, local}
use Rattle.mm_parse_expr.specs.reading.ExprReading.{Reader, lower, close, close_bracket, name_word, index}
use Rattle.mm_parse_expr.proofs.Follow.{Any, Stops, Ends}
use Rattle.mm_parse_expr.proofs.ExprComplete.{expr_complete, unary_complete, index_done, expr_shorter, unary_shorter}
use Rattle.mm_grammar.specs.StatementGrammar as g
use Rattle.mm_grammar.specs.StatementGrammar.{IsLeft, IsArguments, IsCall, IsValue, IsAssign, AreNames, IsStar, IsLocal, AreLocals, IsStep, IsFirst, IsCondition, IsGiven, one}
use Rattle.mm_grammar.specs.reading.StatementReading as r
use Rattle.mm_grammar.proofs.MarkSound.{IsName}
use Rattle.mm_grammar.proofs.StatementShorter.{left_shorter, local_shorter, star_shorter}

-- ---- what may stand behind a value

abbrev pub marked_by : Symbol → Type 0
marked_by Semicolon = Unit {0}
marked_by Comma = Unit {0}
marked_by Close = Unit {0}
marked_by _ = ⊥

-- one of the marks that stand behind values
abbrev pub Marked : Option Terminal → Type 0
Marked None = ⊥
Marked (Some t) = marked_by t.symbol

pub marked_ends : (h : Option Terminal) → Marked h → Ends h
marked_ends None c = absurd c
marked_ends (Some t) c = by t.symbol c
  where
    by : (s : Symbol) → marked_by s → Ends (Some (record t { symbol = s }))
    by Semicolon c = tt
    by Comma c = tt
    by Close c = tt
    by _ c = absurd c

pub marked_stops : (h : Option Terminal) → Marked h → Stops 0 h
marked_stops None c = absurd c
marked_stops (Some t) c = by t.symbol c
  where
    by : (s : Symbol) → marked_by s → Stops 0 (Some (record t { symbol = s }))
    by Semicolon c = tt
    by Comma c = tt
    by Close c = tt
    by _ c = absurd c

-- ---- lists

-- the relation of a list whose items stand between commas
pub data IsList {A : Type 0} (One : List Terminal → A → List Terminal → Type 0) : List Terminal → List A → List Terminal → Type 0 where
  last : {a : A} {ts rest : List Terminal} → One ts a rest → IsList One ts (a ∷ []) rest
  more : {a : A} {xs : List A} {ts us rest : List Terminal} {p : At} {x : List ℕ} → One ts a (terminal Comma p x ∷ us) → IsList One us xs rest → IsList One ts (a ∷ xs) rest

abbrev pub no_comma_by : Symbol → Type 0
no_comma_by Comma = ⊥
no_comma_by _ = Unit {0}

abbrev pub NoComma : Option Terminal → Type 0
NoComma None = Unit {0}
NoComma (Some t) = no_comma_by t.symbol

module _ {A : Type 0} (One : List Terminal → A → List Terminal → Type 0) (C : Option Terminal → Type 0) (item : ℕ → Reader A)
    (before_comma : (p : At) (x : List ℕ) → C (Some (terminal Comma p x)))
    (shorter : (ts : List Terminal) (a : A) (rest : List Terminal) → One ts a rest → length rest < length ts)
    (complete : (ts : List Terminal) (a : A) (rest : List Terminal) → One ts a rest → (n : ℕ) → C (head rest) → length ts < n → item n ts ≡ Parsed a rest) where
  pub others_done : (n : ℕ) (rest : List Terminal) → NoComma (head rest) → r.others item n rest ≡ Parsed [] rest
  unfolding r.others peek pure
  others_done zero rest c = refl
  others_done (suc n) [] c = refl
  others_done (suc n) (t ∷ ts) c = by t.symbol c
    where
      by : (s : Symbol) → no_comma_by s → r.comma_by (item n) (r.others item n) s (t ∷ ts) ≡ Parsed [] (t ∷ ts)
      by Comma c = absurd c
      by _ c = refl

  pub list_complete : {ts : List Terminal} {xs : List A} {rest : List Terminal} → IsList One ts xs rest → (n : ℕ) → C (head rest) → NoComma (head rest) → length ts < n → r.list item n ts ≡ Parsed xs rest
  unfolding r.list r.others peek skip pure
  list_complete {rest = rest} (last {a = a} {ts = ts} d) n c nc l = ap (λ o. after o (λ x. r.others item n >>= λ xs. pure (x ∷ xs))) (complete ts a rest d n c l) ∙ ap (λ o. after o (λ xs. pure (a ∷ xs))) (others_done n rest nc)
  list_complete (more d m) zero c nc l = absurd (omega arith)
  list_complete {rest = rest} (more {a = a} {ts = ts} {us = us} {p = p} {x = x} d m) (suc n) c nc l =
      ap (λ o. after o (λ x. r.others item (suc n) >>= λ xs. pure (x ∷ xs))) (complete ts a (terminal Comma p x ∷ us) d (suc n) (before_comma p x) l)
      ∙ ap (λ o. after o (λ xs. pure (a ∷ xs))) (list_complete m n c nc (omega (arith, shorter ts a (terminal Comma p x ∷ us) d)))

-- ---- left sides

pub left_complete : {ts : List Terminal} {l : Left} {rest : List Terminal} → IsLeft ts l rest → (n : ℕ) → Stops 0 (head rest) → length ts < n → r.left n ts ≡ Parsed l rest
unfolding r.left r.named_left r.pointed_left r.grouped_left index close close_bracket token peek skip pure lower
left_complete d zero c l = absurd (omega arith)
left_complete {rest = rest} (g.name {p = p} {x = x}) (suc n) c l = ap (λ o. after o (λ i. pure (r.left_tree p x i))) (index_done (lower n) rest c)
left_complete (g.element {p = p} {x = x} d) (suc n) c l = ap (λ o. after (after o (λ e. close_bracket >> pure (Some e))) (λ i. pure (r.left_tree p x i))) (expr_complete d n tt (omega arith))
left_complete (g.pointee {p = p} d) (suc zero) c l = absurd (omega (arith, unary_shorter d))
left_complete (g.pointee {p = p} d) (suc (suc n)) c l = ap (λ o. after o (λ e. pure (left_at p (left_node.Deref e)))) (unary_complete d n c (omega arith))
left_complete (g.group d) (suc n) c l = ap (λ o. after o (λ l. close >> pure l)) (left_complete d n tt (omega arith))

-- ---- values

arguments_list : {ts : List Terminal} {es : List Expr} {rest : List Terminal} → IsArguments ts es rest → IsList (λ ts e rest. IsExpr ts e rest) ts es rest
arguments_list (g.last_argument d) = last d
arguments_list (g.more_arguments d m) = more d (arguments_list m)

exprs_complete : {ts : List Terminal} {es : List Expr} {rest : List Terminal} → IsArguments ts es rest → (n : ℕ) → Ends (head rest) → NoComma (head rest) → length ts < n → r.list r.expr n ts ≡ Parsed es rest
exprs_complete m n c nc l = list_complete (λ ts e rest. IsExpr ts e rest) Ends r.expr (λ p x. tt) (λ ts e rest d. expr_shorter d) (λ ts e rest d n c l. expr_complete d n c l) (arguments_list m) n c nc l

pub fetch_add_complete : {ts us rest : List Terminal} {a e : Expr} {i s : At} {z w : List ℕ} (p q : At) (x y : List ℕ) → IsExpr ts a (terminal Comma i z ∷ us) → IsExpr us e (terminal Close s w ∷ rest) → (n : ℕ) → length ts < n → r.fetch_add n (terminal (Keyword reserved.FetchAndAdd) p x) (terminal Open q y ∷ ts) ≡ Parsed (value_node.FetchAdd p a e) rest
unfolding r.fetch_add r.open_mark r.comma close token peek skip pure
fetch_add_complete {a = a} p q x y d f n l =
    ap (λ o. after o (λ a. r.comma >> (r.expr n >>= λ e. close >> pure (value_node.FetchAdd p a e)))) (expr_complete d n tt l)
    ∙ ap (λ o. after o (λ e. close >> pure (value_node.FetchAdd p a e))) (expr_complete f n tt (omega (arith, expr_shorter d)))

pub compare_swap_complete : {ts us vs rest : List Terminal} {a e f : Expr} {i j s : At} {z u w : List ℕ} (p q : At) (x y : List ℕ) → IsExpr ts a (terminal Comma i z ∷ us) → IsExpr us e (terminal Comma j u ∷ vs) → IsExpr vs f (terminal Close s w ∷ rest) → (n : ℕ) → length ts < n → r.compare_swap n (terminal (Keyword reserved.CompareAndSwap) p x) (terminal Open q y ∷ ts) ≡ Parsed (value_node.CompareSwap p a e f) rest
unfolding r.compare_swap r.open_mark r.comma close token peek skip pure
compare_swap_complete {a = a} {e = e} p q x y d f h n l =
    ap (λ o. after o (λ a. r.comma >> (r.expr n >>= λ e. r.comma >> (r.expr n >>= λ f. close >> pure (value_node.CompareSwap p a e f))))) (expr_complete d n tt l)
    ∙ ap (λ o. after o (λ e. r.comma >> (r.expr n >>= λ f. close >> pure (value_node.CompareSwap p a e f)))) (expr_complete f n tt (omega (arith, expr_shorter d)))
    ∙ ap (λ o. after o (λ f. close >> pure (value_node.CompareSwap p a e f))) (expr_complete h n tt (omega (arith, expr_shorter d, expr_shorter f)))

-- ---- how expressions begin

abbrev opens_by : Symbol → List Terminal → List Terminal → Type 0
opens_by Open us rest = us ≡ rest
opens_by _ us rest = Unit {0}

abbrev named_before : List Terminal → List Terminal → Type 0
named_before [] rest = Unit {0}
named_before (u ∷ us) rest = opens_by u.symbol (u ∷ us) rest

abbrev starts_by : Symbol → List Terminal → List Terminal → Type 0
starts_by (Keyword k) us rest = ⊥
starts_by Semicolon us rest = ⊥
starts_by Close us rest = ⊥
starts_by CloseBrace us rest = ⊥
starts_by Name us rest = named_before us rest
starts_by _ us rest = Unit {0}

-- An expression may begin with the first of these terminals. Where this is a name with "(" behind it, the rest stands there.
abbrev Starts : List Terminal → List Terminal → Type 0
Starts [] rest = ⊥
Starts (t ∷ us) rest = starts_by t.symbol us rest

opens_same : (s : Symbol) (us : List Terminal) → opens_by s us us
opens_same Open us = refl
opens_same _ us = tt

named_same : (us : List Terminal) → named_before us us
named_same [] = tt
named_same (u ∷ us) = opens_same u.symbol (u ∷ us)

starts_primary : {ts : List Terminal} {a : Expr} {rest : List Terminal} → IsPrimary ts a rest → Starts ts rest
starts_primary e.number = tt
starts_primary e.null = tt
starts_primary (e.name {rest = rest}) = named_same rest
starts_primary (e.element d) = tt
starts_primary (e.group d) = tt

starts_unary : {ts : List Terminal} {a : Expr} {rest : List Terminal} → IsUnary ts a rest → Starts ts rest
starts_unary (e.minus d) = tt
starts_unary (e.plus d) = tt
starts_unary (e.not d) = tt
starts_unary (e.flip d) = tt
starts_unary (e.deref d) = tt
starts_unary e.address = tt
starts_unary (e.element_address d) = tt
starts_unary (e.primary d) = starts_primary d

abbrev is_not_open : Symbol → Type 0
is_not_open Open = ⊥
is_not_open _ = Unit {0}

-- an expression that goes on with another mark than "("
starts_past : (ts : List Terminal) (t : Terminal) (mid rest : List Terminal) → is_not_open t.symbol → Starts ts (t ∷ mid) → Starts ts rest
starts_past [] t mid rest c h = h
starts_past (f ∷ us) t mid rest c h = by f.symbol us h
  where
    behind : (s : Symbol) (p : At) (x : List ℕ) (us : List Terminal) → opens_by s (terminal s p x ∷ us) (t ∷ mid) → opens_by s (terminal s p x ∷ us) rest
    behind Open p x us h = absurd (subst (λ (us : List Terminal). first_is_not us) (sym h) c)
      where
        first_is_not : List Terminal → Type 0
        first_is_not [] = Unit {0}
        first_is_not (t ∷ ts) = is_not_open t.symbol
    behind _ p x us h = tt

    named : (us : List Terminal) → named_before us (t ∷ mid) → named_before us rest
    named [] h = tt
    named (u ∷ us) h = behind u.symbol u.at u.spelling us h

    by : (s : Symbol) (us : List Terminal) → starts_by s us (t ∷ mid) → starts_by s us rest
    by (Keyword k) us h = h
    by Semicolon us h = h
    by Close us h = h
    by CloseBrace us h = h
    by Name us h = named us h
    by _ us h = tt

starts_more : (ts : List Terminal) {n : ℕ} {a b : Expr} {mid rest : List Terminal} → IsMore n a mid b rest → Starts ts mid → Starts ts rest
starts_more ts e.done h = h
starts_more ts {rest = rest} (e.more {op = op} {ts = us} {p = p} {x = x} is d m) h = starts_past ts (terminal (Operator op) p x) us rest tt h

starts_level : {n : ℕ} {ts : List Terminal} {a : Expr} {rest : List Terminal} → IsLevel n ts a rest → Starts ts rest
starts_level (e.unary d) = starts_unary d
starts_level {ts = ts} (e.joined d m) = starts_more ts m (starts_level d)

starts_expr : {ts : List Terminal} {a : Expr} {rest : List Terminal} → IsExpr ts a rest → Starts ts rest
starts_expr (e.plain d) = starts_level d
starts_expr {ts = ts} {rest = rest} (e.choice {us = us} {p = p} {x = x} d f h) = starts_past ts (terminal Question p x) us rest tt (starts_level d)

-- ---- values, on

plain_value : (n : ℕ) (ts rest : List Terminal) → Starts ts rest → Marked (head rest) → peek (r.value_at n) ts ≡ r.plain n ts
unfolding r.peek_behind peek
plain_value n [] rest h c = absurd h
plain_value n (t ∷ us) rest h c = by t.symbol t.at t.spelling us h
  where
    behind : (p : At) (x : List ℕ) (s : Symbol) (q : At) (y : List ℕ) (us : List Terminal) → opens_by s (terminal s q y ∷ us) rest → r.named_by n (terminal Name p x) s (terminal Name p x ∷ terminal s q y ∷ us) ≡ r.plain n (terminal Name p x ∷ terminal s q y ∷ us)
    behind p x Open q y us h = absurd (subst (λ (us : List Terminal). Marked (head us)) (sym h) c)
    behind p x s q y us h = refl

    named : (p : At) (x : List ℕ) (us : List Terminal) → named_before us rest → r.peek_behind (r.named_value n (terminal Name p x)) (terminal Name p x ∷ us) ≡ r.plain n (terminal Name p x ∷ us)
    named p x [] h = refl
    named p x (u ∷ us) h = behind p x u.symbol u.at u.spelling us h

    by : (s : Symbol) (p : At) (x : List ℕ) (us : List Terminal) → starts_by s us rest → r.value_by n s (terminal s p x) (terminal s p x ∷ us) ≡ r.plain n (terminal s p x ∷ us)
    by (Keyword k) p x us h = absurd h
    by Name p x us h = named p x us h
    by s p x us h = refl

arguments_start : {ts : List Terminal} {es : List Expr} {rest : List Terminal} → IsArguments ts es rest → (z : List Terminal) × Starts ts z
arguments_start {rest = rest} (g.last_argument d) = (rest, starts_expr d)
arguments_start (g.more_arguments {us = us} {p = p} {x = x} d m) = (terminal Comma p x ∷ us, starts_expr d)

open_arguments : (n : ℕ) (ts z : List Terminal) → Starts ts z → r.arguments n ts ≡ (r.list r.expr n >>= λ es. close >> pure es) ts
unfolding r.arguments peek
open_arguments n [] z h = absurd h
open_arguments n (t ∷ us) z h = by t.symbol t.at t.spelling h
  where
    by : (s : Symbol) (p : At) (x : List ℕ) → starts_by s us z → r.arguments_by n s (terminal s p x ∷ us) ≡ (r.list r.expr n >>= λ es. close >> pure es) (terminal s p x ∷ us)
    by Close p x h = absurd h
    by _ p x h = refl

pub call_complete : (p q : At) (x y : List ℕ) {ts : List Terminal} {v : Value} {rest : List Terminal} → IsCall (terminal Name p x ∷ terminal Open q y ∷ ts) v rest → (n : ℕ) → length ts < n → r.call n (terminal Name p x) ts ≡ Parsed v rest
unfolding r.call r.arguments close token peek skip pure
call_complete p q x y g.bare_call n l = refl
call_complete p q x y (g.full_call {ts = ts} d) n l =
    let z = arguments_start d in
    ap (λ o. after o (λ es. pure (value_node.Call p x es))) (open_arguments n ts z.0 z.1 ∙ ap (λ o. after o (λ es. close >> pure es)) (exprs_complete d n tt tt l))

value_step_complete : {ts : List Terminal} {v : Value} {rest : List Terminal} → IsValue ts v rest → (n : ℕ) → Marked (head rest) → length ts < n → peek (r.value_at n) ts ≡ Parsed v rest
unfolding r.plain r.peek_behind peek skip pure
value_step_complete {ts = ts} {rest = rest} (g.plain d) n c l = plain_value n ts rest (starts_expr d) c ∙ ap (λ o. after o (λ e. pure (value_node.Plain e))) (expr_complete d n (marked_ends (head rest) c) l)
value_step_complete (g.called (g.bare_call {p = p} {q = q} {x = x} {y = y})) n c l = call_complete p q x y g.bare_call n (omega arith)
value_step_complete (g.called (g.full_call {p = p} {q = q} {x = x} {y = y} d)) n c l = call_complete p q x y (g.full_call d) n (omega arith)
value_step_complete (g.called (g.fetch_add {p = p} {q = q} {x = x} {y = y} d f)) n c l = fetch_add_complete p q x y d f n (omega arith)
value_step_complete (g.called (g.compare_swap {p = p} {q = q} {x = x} {y = y} d f h)) n c l = compare_swap_complete p q x y d f h n (omega arith)

value_complete : {ts : List Terminal} {v : Value} {rest : List Terminal} → IsValue ts v rest → (n : ℕ) → Marked (head rest) → length ts < n → r.value n ts ≡ Parsed v rest
unfolding r.value
value_complete d zero c l = absurd (omega arith)
value_complete d (suc n) c l = value_step_complete d (suc n) c l

-- ---- assignments

abbrev pub sets_by : Symbol → Type 0
sets_by Assign = Unit {0}
sets_by (Update op) = Unit {0}
sets_by Increment = Unit {0}
sets_by Decrement = Unit {0}
sets_by _ = ⊥

-- one of the marks that stand behind the left side of an assignment
abbrev pub Sets : List Terminal → Type 0
Sets [] = ⊥
Sets (t ∷ ts) = sets_by t.symbol

pub sets_stop : (ts : List Terminal) → Sets ts → Stops 0 (head ts)
sets_stop [] c = absurd c
sets_stop (t ∷ ts) c = by t.symbol c
  where
    by : (s : Symbol) → sets_by s → Stops 0 (Some (record t { symbol = s }))
    by Assign c = tt
    by (Update op) c = tt
    by Increment c = tt
    by Decrement c = tt
    by _ c = absurd c

-- an assignment whose left side stands first
pub record Split (ts : List Terminal) (m : StmtNode) (rest : List Terminal) : Type 0 where
  pub l : Left
  pub mid : List Terminal
  pub left : IsLeft ts l mid
  pub sets : Sets mid
  pub set : (n : ℕ) → length ts < suc n → r.set n l mid ≡ Parsed m rest

-- an assignment with "++" or "--" in front
abbrev pub Before : List Terminal → StmtNode → List Terminal → Type 0
Before ts m rest =
    ((p : At) × (x : List ℕ) × (us : List Terminal) × (ts ≡ terminal Increment p x ∷ us) × ((n : ℕ) → length us < n → r.increment n (terminal Increment p x) us ≡ Parsed m rest))
    ⊎ ((p : At) × (x : List ℕ) × (us : List Terminal) × (ts ≡ terminal Decrement p x ∷ us) × ((n : ℕ) → length us < n → r.decrement n (terminal Decrement p x) us ≡ Parsed m rest))

pub split : {ts : List Terminal} {m : StmtNode} {rest : List Terminal} → IsAssign ts m rest → Marked (head rest) → Split ts m rest ⊎ Before ts m rest
unfolding r.set r.increment r.decrement peek skip pure
split (g.assign {l = l} {us = us} {p = p} {x = x} d f) c = inl (record { l = l; mid = terminal Assign p x ∷ us; left = d; sets = tt; set = λ n k. ap (λ o. after o (λ v. pure (node.Assign l v))) (value_complete f n c (omega (arith, left_shorter d))) })
split {rest = rest} (g.update {l = l} {op = op} {us = us} {p = p} {x = x} d f) c = inl (record { l = l; mid = terminal (Update op) p x ∷ us; left = d; sets = tt; set = λ n k. ap (λ o. after o (λ e. pure (node.Update l op e))) (expr_complete f n (marked_ends (head rest) c) (omega (arith, left_shorter d))) })
split {rest = rest} (g.increment {l = l} {p = p} {x = x} d) c = inl (record { l = l; mid = terminal Increment p x ∷ rest; left = d; sets = tt; set = λ n k. refl })
split {rest = rest} (g.decrement {l = l} {p = p} {x = x} d) c = inl (record { l = l; mid = terminal Decrement p x ∷ rest; left = d; sets = tt; set = λ n k. refl })
split {rest = rest} (g.increment_before {ts = ts} {p = p} {x = x} d) c = inr (inl (p, x, ts, refl, λ n k. ap (λ o. after o (λ l. pure (node.Update l binary.Add (one p)))) (left_complete d n (marked_stops (head rest) c) k)))
split {rest = rest} (g.decrement_before {ts = ts} {p = p} {x = x} d) c = inr (inr (p, x, ts, refl, λ n k. ap (λ o. after o (λ l. pure (node.Update l binary.Sub (one p)))) (left_complete d n (marked_stops (head rest) c) k)))

left_first : (n : ℕ) {ts : List Terminal} {l : Left} {mid : List Terminal} → IsLeft ts l mid → r.assign n ts ≡ after (r.left n ts) (r.set n)
unfolding r.assign peek
left_first n g.name = refl
left_first n (g.element d) = refl
left_first n (g.pointee d) = refl
left_first n (g.group d) = refl

assign_complete : {ts : List Terminal} {m : StmtNode} {rest : List Terminal} → IsAssign ts m rest → (n : ℕ) → Marked (head rest) → length ts < n → r.assign n ts ≡ Parsed m rest
unfolding r.assign peek skip
assign_complete {ts = ts} {m = m} {rest = rest} d n c l = by (split d c)
  where
    by : Split ts m rest ⊎ Before ts m rest → r.assign n ts ≡ Parsed m rest
    by (inl h) = left_first n h.left ∙ ap (λ o. after o (r.set n)) (left_complete h.left n (sets_stop h.mid h.sets) l) ∙ h.set n (omega arith)
    by (inr (inl k)) = ap (λ ts. r.assign n ts) k.3 ∙ k.4 n (omega (arith, ap (λ (ts : List Terminal). length ts) k.3))
    by (inr (inr k)) = ap (λ ts. r.assign n ts) k.3 ∙ k.4 n (omega (arith, ap (λ (ts : List Terminal). length ts) k.3))

-- ---- declarations

pub star_complete : {ts : List Terminal} {b : Bool} {p : At} {x : List ℕ} {mid : List Terminal} → IsStar ts b (terminal Name p x ∷ mid) → r.star ts ≡ Parsed b (terminal Name p x ∷ mid)
unfolding r.star peek skip pure
star_complete g.no_star = refl
star_complete g.star = refl

local_done : (n : ℕ) (b : Bool) (p : At) (x : List ℕ) (rest : List Terminal) → Marked (head rest) → peek (r.local_at n b (word p x)) rest ≡ Parsed (local p b x None) rest
unfolding peek pure
local_done n b p x [] c = absurd c
local_done n b p x (t ∷ ts) c = by t.symbol c
  where
    by : (s : Symbol) → marked_by s → r.local_by n b (word p x) s (t ∷ ts) ≡ Parsed (local p b x None) (t ∷ ts)
    by Semicolon c = refl
    by Comma c = refl
    by Close c = refl
    by _ c = absurd c

local_complete : {ts : List Terminal} {l : Local} {rest : List Terminal} → IsLocal ts l rest → (n : ℕ) → Marked (head rest) → length ts < n → r.local_item n ts ≡ Parsed l rest
unfolding r.local_item name_word token peek skip pure
local_complete {rest = rest} (g.bare_local {star = b} {p = p} {x = x} d) n c l = ap (λ o. after o (λ b. name_word >>= λ w. peek (r.local_at n b w))) (star_complete d) ∙ local_done n b p x rest c
local_complete (g.set_local {star = b} {p = p} {x = x} d f) n c l = ap (λ o. after o (λ b. name_word >>= λ w. peek (r.local_at n b w))) (star_complete d) ∙ ap (λ o. after o (λ v. pure (local p b x (Some v)))) (value_complete f n c (omega (arith, star_shorter d)))

locals_list : {ts : List Terminal} {ls : List Local} {rest : List Terminal} → AreLocals ts ls rest → IsList (λ ts l rest. IsLocal ts l rest) ts ls rest
locals_list (g.last_local d) = last d
locals_list (g.more_locals d m) = more d (locals_list m)

names_list : {ts : List Terminal} {ws : List Word} {rest : List Terminal} → AreNames ts ws rest → IsList IsName ts ws rest
names_list g.last_name = last refl
names_list (g.more_names m) = more refl (names_list m)

name_item_complete : (ts : List Terminal) (w : Word) (rest : List Terminal) → IsName ts w rest → (n : ℕ) → Any (head rest) → length ts < n → r.name_item n ts ≡ Parsed w rest
unfolding name_word token peek skip pure
name_item_complete ts w rest e n c l = ap (λ ts. name_word ts) e

pub names_complete : {ts : List Terminal} {ws : List Word} {rest : List Terminal} → AreNames ts ws rest → (n : ℕ) → NoComma (head rest) → length ts < n → r.list r.name_item n ts ≡ Parsed ws rest
names_complete m n nc l = list_complete IsName Any r.name_item (λ p x. tt) (λ ts w rest e. omega (arith, ap (λ (ts : List Terminal). length ts) e)) name_item_complete (names_list m) n tt nc l

pub ints_complete : {ts : List Terminal} {ls : List Local} {rest : List Terminal} {p : At} {x : List ℕ} → AreLocals ts ls (terminal Semicolon p x ∷ rest) → (n : ℕ) → length ts < n → r.ints n ts ≡ Parsed (node.Declare ls) rest
unfolding r.ints r.semicolon token peek skip pure
ints_complete m n l = ap (λ o. after o (λ ls. r.semicolon >> pure (node.Declare ls))) (list_complete (λ ts l rest. IsLocal ts l rest) Marked r.local_item (λ p x. tt) (λ ts l rest d. local_shorter d) (λ ts l rest d n c k. local_complete d n c k) (locals_list m) n tt tt l)

pub threads_complete : {ts : List Terminal} {ws : List Word} {rest : List Terminal} {p : At} {x : List ℕ} → AreNames ts ws (terminal Semicolon p x ∷ rest) → (n : ℕ) → length ts < n → r.threads n ts ≡ Parsed (node.DeclareThread ws) rest
unfolding r.threads r.semicolon token peek skip pure
threads_complete m n l = ap (λ o. after o (λ ws. r.semicolon >> pure (node.DeclareThread ws))) (names_complete m n tt l)

-- ---- the parts of statements

abbrev assigns_by : Symbol → Type 0
assigns_by Name = Unit {0}
assigns_by (Operator op) = Unit {0}
assigns_by Open = Unit {0}
assigns_by Increment = Unit {0}
assigns_by Decrement = Unit {0}
assigns_by _ = ⊥

abbrev Assigns : List Terminal → Type 0
Assigns [] = ⊥
Assigns (t ∷ ts) = assigns_by t.symbol

left_assigns : {ts : List Terminal} {l : Left} {mid : List Terminal} → IsLeft ts l mid → Assigns ts
left_assigns g.name = tt
left_assigns (g.element d) = tt
left_assigns (g.pointee d) = tt
left_assigns (g.group d) = tt

assign_assigns : {ts : List Terminal} {m : StmtNode} {rest : List Terminal} → IsAssign ts m rest → Assigns ts
assign_assigns (g.assign d f) = left_assigns d
assign_assigns (g.update d f) = left_assigns d
assign_assigns (g.increment d) = left_assigns d
assign_assigns (g.decrement d) = left_assigns d
assign_assigns (g.increment_before d) = tt
assign_assigns (g.decrement_before d) = tt

first_assigns : (n : ℕ) (t : Terminal) (ts : List Terminal) → Assigns (t ∷ ts) → r.first n (t ∷ ts) ≡ (r.assign n >>= λ m. r.semicolon >> pure (r.as_first t.at m)) (t ∷ ts)
unfolding r.first peek
first_assigns n t ts h = by t.symbol h
  where
    by : (s : Symbol) → assigns_by s → r.first_by n s t (t ∷ ts) ≡ (r.assign n >>= λ m. r.semicolon >> pure (r.as_first t.at m)) (t ∷ ts)
    by Name h = refl
    by (Operator op) h = refl
    by Open h = refl
    by Increment h = refl
    by Decrement h = refl
    by _ h = absurd h

step_assigns : (n : ℕ) (t : Terminal) (ts : List Terminal) → Assigns (t ∷ ts) → r.step n (t ∷ ts) ≡ (r.assign n >>= λ m. close >> pure (r.as_first t.at m)) (t ∷ ts)
unfolding r.step peek
step_assigns n t ts h = by t.symbol h
  where
    by : (s : Symbol) → assigns_by s → r.step_by n s t (t ∷ ts) ≡ (r.assign n >>= λ m. close >> pure (r.as_first t.at m)) (t ∷ ts)
    by Name h = refl
    by (Operator op) h = refl
    by Open h = refl
    by Increment h = refl
    by Decrement h = refl
    by _ h = absurd h

pub first_complete : {ts : List Terminal} {f : Option Stmt} {rest : List Terminal} → IsFirst ts f rest → (n : ℕ) → length ts < n → r.first n ts ≡ Parsed f rest
unfolding r.first r.semicolon r.int_word token peek skip pure
first_complete (g.first_declaration (g.ints {p = p} d)) n l = ap (λ o. after o (λ m. pure (r.as_first p m))) (ints_complete d n (omega arith))
first_complete (g.first_declaration (g.volatile_ints {p = p} d)) n l = ap (λ o. after o (λ m. pure (r.as_first p m))) (ints_complete d n (omega arith))
first_complete (g.first_declaration (g.threads {p = p} d)) n l = ap (λ o. after o (λ m. pure (r.as_first p m))) (threads_complete d n (omega arith))
first_complete (g.first_step g.no_step) n l = refl
first_complete (g.first_step (g.step {t = t} {ts = ts} d)) n l = first_assigns n t ts (assign_assigns d) ∙ ap (λ o. after o (λ m. r.semicolon >> pure (r.as_first t.at m))) (assign_complete d n tt l)

pub step_complete : {ts : List Terminal} {f : Option Stmt} {rest : List Terminal} {p : At} {x : List ℕ} → IsStep ts f (terminal Close p x ∷ rest) → (n : ℕ) → length ts < n → r.step n ts ≡ Parsed f rest
unfolding r.step close token peek skip pure
step_complete g.no_step n l = refl
step_complete (g.step {t = t} {ts = ts} d) n l = step_assigns n t ts (assign_assigns d) ∙ ap (λ o. after o (λ m. close >> pure (r.as_first t.at m))) (assign_complete d n tt l)

condition_starts : (n : ℕ) (ts z : List Terminal) → Starts ts z → r.condition n ts ≡ (r.expr n >>= λ e. r.semicolon >> pure e) ts
unfolding r.condition peek
condition_starts n [] z h = absurd h
condition_starts n (t ∷ us) z h = by t.symbol h
  where
    by : (s : Symbol) → starts_by s us z → r.condition_by n s t (t ∷ us) ≡ (r.expr n >>= λ e. r.semicolon >> pure e) (t ∷ us)
    by Semicolon h = absurd h
    by _ h = refl

pub condition_complete : {ts : List Terminal} {e : Expr} {rest : List Terminal} → IsCondition ts e rest → (n : ℕ) → length ts < n → r.condition n ts ≡ Parsed e rest
unfolding r.condition r.semicolon token peek skip pure
condition_complete g.no_condition n l = refl
condition_complete {ts = ts} {rest = rest} (g.condition {p = p} {x = x} d) n l = condition_starts n ts (terminal Semicolon p x ∷ rest) (starts_expr d) ∙ ap (λ o. after o (λ e. r.semicolon >> pure e)) (expr_complete d n tt l)

abbrev no_semicolon_by : Symbol → Type 0
no_semicolon_by Semicolon = ⊥
no_semicolon_by _ = Unit {0}

abbrev NoSemicolon : List Terminal → Type 0
NoSemicolon [] = ⊥
NoSemicolon (t ∷ ts) = no_semicolon_by t.symbol

starts_no_semicolon : (ts z : List Terminal) → Starts ts z → NoSemicolon ts
starts_no_semicolon [] z h = h
starts_no_semicolon (t ∷ us) z h = by t.symbol h
  where
    by : (s : Symbol) → starts_by s us z → no_semicolon_by s
    by Semicolon h = h
    by _ h = tt

value_no_semicolon : {ts : List Terminal} {v : Value} {rest : List Terminal} → IsValue ts v rest → NoSemicolon ts
value_no_semicolon {ts = ts} {rest = rest} (g.plain d) = starts_no_semicolon ts rest (starts_expr d)
value_no_semicolon (g.called g.bare_call) = tt
value_no_semicolon (g.called (g.full_call d)) = tt
value_no_semicolon (g.called (g.fetch_add d f)) = tt
value_no_semicolon (g.called (g.compare_swap d f h)) = tt

given_starts : (n : ℕ) (ts : List Terminal) → NoSemicolon ts → r.given n ts ≡ (r.value n >>= λ v. r.semicolon >> pure (Some v)) ts
unfolding r.given peek
given_starts n [] h = absurd h
given_starts n (t ∷ us) h = by t.symbol h
  where
    by : (s : Symbol) → no_semicolon_by s → r.given_by n s (t ∷ us) ≡ (r.value n >>= λ v. r.semicolon >> pure (Some v)) (t ∷ us)
    by Semicolon h = absurd h
    by _ h = refl

pub given_complete : {ts : List Terminal} {v : Option Value} {rest : List Terminal} → IsGiven ts v rest → (n : ℕ) → length ts < n → r.given n ts ≡ Parsed v rest
unfolding r.given r.semicolon token peek skip pure
given_complete g.nothing n l = refl
given_complete {ts = ts} (g.given d) n l = given_starts n ts (value_no_semicolon d) ∙ ap (λ o. after o (λ v. r.semicolon >> pure (Some v))) (value_complete d n tt l)
