-- What the readers of statements give is in the grammar.
use Rattle.std.proofs.Common.{ℕ, zero, suc, Bool, List, [], ◌∷◌, Option, Some, None, refl, sym, subst}
use Rattle.mm_goto.specs.declared.ident.At.{At}
use Rattle.mm_goto.specs.declared.pure.Binary.TheVariants as binary
use Rattle.mm_tree.specs.declared.expr.Expr.{Expr}
use Rattle.mm_tree.specs.declared.expr.Word.{Word}
use Rattle.mm_tree.specs.declared.stmt.Left.{Left}
use Rattle.mm_tree.specs.declared.stmt.LeftNode.TheVariants as left_node
use Rattle.mm_tree.specs.declared.stmt.Local.{Local}
use Rattle.mm_tree.specs.declared.stmt.Stmt.{Stmt}
use Rattle.mm_tree.specs.declared.stmt.StmtNode.{StmtNode}
use Rattle.mm_tree.specs.declared.stmt.StmtNode.TheVariants as node
use Rattle.mm_tree.specs.declared.stmt.Value.{Value}
use Rattle.mm_tree.specs.declared.stmt.Value.TheVariants as value_node
use Rattle.mm_reading.specs.Parsing.{Outcome, Parsed, Fault, ◌>>=◌, ◌>>◌, pure, fail, peek, skip, after, token}
use Rattle.mm_reading.proofs.Sounding.{SoundAt, sound_after, sound_weaken}
use Rattle.mm_parse_expr.specs.declared.symbol.Keyword.{Keyword as Reserved}
use Rattle.mm_parse_expr.specs.declared.symbol.Keyword.TheVariants as reserved
use Rattle.mm_parse_expr.specs.declared.symbol.Symbol.{Symbol}
use Rattle.mm_parse_expr.specs.declared.symbol.Symbol.TheVariants.{Name, Text, Keyword, Operator, Update, Increment, Decrement, Assign, Colon, Semicolon, Comma, Open, Close, OpenBrace, CloseBrace}
use Rattle.mm_parse_expr.specs.declared.terminal.Terminal.{Terminal}
use Rattle.mm_parse_expr.specs.Grammar.{IsExpr, IsUnary, terminal}
use Rattle.mm_tree.specs.Trees.{word, left_at, local, statement}
use Rattle.mm_parse_expr.specs.reading.ExprReading.{Reader, lower, is_close, close, name_word, index}
use Rattle.mm_parse_expr.proofs.ExprSound.{HasIndex, index_sound, all_sound}
use Rattle.mm_grammar.specs.StatementGrammar as g
use Rattle.mm_grammar.specs.StatementGrammar.{IsLeft, IsArguments, IsCall, IsValue, IsAssign, IsNull, IsAction, AreNames, IsStar, IsLocal, AreLocals, IsDeclaration, IsStep, IsFirst, IsCondition, IsGiven, IsStmt, IsStmtNode, IsBody, one}
use Rattle.mm_grammar.specs.reading.StatementReading as r
use Rattle.mm_grammar.specs.reading.StatementReading.{is_semicolon, is_comma, is_open, is_ampersand, is_while, is_int, Inner}
use Rattle.mm_grammar.proofs.MarkSound.{IsName, tells_close, tells_semicolon, tells_comma, tells_open, tells_ampersand, tells_while, tells_int, sound_mark, sound_until, sound_name, sound_until_name, null_sound, list_sound}

-- ---- left sides

expr_sound : (n : ℕ) (ts : List Terminal) → SoundAt (λ e rest. IsExpr ts e rest) (r.expr n ts)
expr_sound n ts = (all_sound n).expr ts

unary_sound : (n : ℕ) (ts : List Terminal) → SoundAt (λ e rest. IsUnary ts e rest) (r.unary n ts)
unary_sound n ts = (all_sound n).unary ts

left_of : (p : At) (x : List ℕ) (ts : List Terminal) (i : Option Expr) (rest : List Terminal) → HasIndex ts i rest → IsLeft (terminal Name p x ∷ ts) (r.left_tree p x i) rest
left_of p x ts None rest h = subst (λ (us : List Terminal). IsLeft (terminal Name p x ∷ ts) (left_at p (left_node.Name x)) us) h g.name
left_of p x ts (Some e) rest h = subst (λ (us : List Terminal). IsLeft (terminal Name p x ∷ us) (left_at p (left_node.Index x e)) rest) (sym h.begins) (g.element h.index)

named_left_sound : (n : ℕ) (p : At) (x : List ℕ) (ts : List Terminal) → SoundAt (λ l rest. IsLeft (terminal Name p x ∷ ts) l rest) (r.named_left n (terminal Name p x) ts)
unfolding r.named_left pure
named_left_sound n p x ts = sound_after (λ i rest. HasIndex ts i rest) _ (index (lower n) ts) (λ i. pure (r.left_tree p x i)) (index_sound (lower n) (all_sound n) ts) (λ i rest h. left_of p x ts i rest h)

pointed_left_sound : (n : ℕ) (p : At) (x : List ℕ) (ts : List Terminal) → SoundAt (λ l rest. IsLeft (terminal (Operator binary.Mul) p x ∷ ts) l rest) (r.pointed_left n (terminal (Operator binary.Mul) p x) ts)
unfolding r.pointed_left pure
pointed_left_sound n p x ts = sound_after (λ e rest. IsUnary ts e rest) _ (r.unary n ts) (λ e. pure (left_at p (left_node.Deref e))) (unary_sound n ts) (λ e rest d. g.pointee d)

grouped_left_sound : (inner : Reader Left) (p : At) (x : List ℕ) (ts : List Terminal) → SoundAt (λ l rest. IsLeft ts l rest) (inner ts) → SoundAt (λ l rest. IsLeft (terminal Open p x ∷ ts) l rest) (r.grouped_left inner ts)
unfolding r.grouped_left close pure
grouped_left_sound inner p x ts h = sound_until is_close Close tells_close (λ l rest. IsLeft ts l rest) (λ l rest. IsLeft (terminal Open p x ∷ ts) l rest) (inner ts) (λ l. pure l) h (λ l q y rest d. g.group d)

left_sound : (n : ℕ) (ts : List Terminal) → SoundAt (λ l rest. IsLeft ts l rest) (r.left n ts)
unfolding r.left peek fail skip
left_sound zero ts = tt
left_sound (suc n) [] = tt
left_sound (suc n) (t ∷ ts) = by t.symbol t.at t.spelling (left_sound n ts)
  where
    by : (s : Symbol) (p : At) (x : List ℕ) → SoundAt (λ l rest. IsLeft ts l rest) (r.left n ts) → SoundAt (λ l rest. IsLeft (terminal s p x ∷ ts) l rest) (r.left_by n (r.left n) s (terminal s p x) (terminal s p x ∷ ts))
    by Name p x h = named_left_sound n p x ts
    by (Operator binary.Mul) p x h = pointed_left_sound n p x ts
    by Open p x h = grouped_left_sound (r.left n) p x ts h
    by _ p x h = tt

-- ---- values

exprs_sound : (n : ℕ) (ts : List Terminal) → SoundAt (λ es rest. IsArguments ts es rest) (r.list r.expr n ts)
exprs_sound n ts = list_sound (λ ts e rest. IsExpr ts e rest) (λ ts es rest. IsArguments ts es rest) (λ ts e rest d. g.last_argument d) (λ ts e p x us es rest d m. g.more_arguments d m) r.expr expr_sound n ts

call_sound : (n : ℕ) (p q : At) (x y : List ℕ) (ts : List Terminal) → SoundAt (λ v rest. IsCall (terminal Name p x ∷ terminal Open q y ∷ ts) v rest) (r.call n (terminal Name p x) ts)
unfolding r.call r.arguments peek fail skip pure close
call_sound n p q x y [] = tt
call_sound n p q x y (t ∷ ts) = by t.symbol t.at t.spelling
  where
    by : (s : Symbol) (u : At) (z : List ℕ) → SoundAt (λ v rest. IsCall (terminal Name p x ∷ terminal Open q y ∷ terminal s u z ∷ ts) v rest) (after (r.arguments_by n s (terminal s u z ∷ ts)) (λ es. pure (value_node.Call p x es)))
    by Close u z = g.bare_call
    by s u z = sound_after (λ es rest. IsCall (terminal Name p x ∷ terminal Open q y ∷ terminal s u z ∷ ts) (value_node.Call p x es) rest) (λ v rest. IsCall (terminal Name p x ∷ terminal Open q y ∷ terminal s u z ∷ ts) v rest) ((r.list r.expr n >>= λ es. close >> pure es) (terminal s u z ∷ ts)) (λ es. pure (value_node.Call p x es))
        (sound_until is_close Close tells_close (λ es rest. IsArguments (terminal s u z ∷ ts) es rest) (λ es rest. IsCall (terminal Name p x ∷ terminal Open q y ∷ terminal s u z ∷ ts) (value_node.Call p x es) rest) (r.list r.expr n (terminal s u z ∷ ts)) (λ es. pure es) (exprs_sound n (terminal s u z ∷ ts)) (λ es i v rest d. g.full_call d))
        (λ es rest d. d)

fetch_add_sound : (n : ℕ) (p : At) (x : List ℕ) (ts : List Terminal) → SoundAt (λ v rest. IsCall (terminal (Keyword reserved.FetchAndAdd) p x ∷ ts) v rest) (r.fetch_add n (terminal (Keyword reserved.FetchAndAdd) p x) ts)
unfolding r.fetch_add r.open_mark r.comma close pure
fetch_add_sound n p x ts = sound_mark is_open Open tells_open (λ ts v rest. IsCall (terminal (Keyword reserved.FetchAndAdd) p x ∷ ts) v rest) _
    (λ q y us. sound_until is_comma Comma tells_comma (λ a rest. IsExpr us a rest) _ (r.expr n us) _ (expr_sound n us)
    (λ a i z vs d. sound_until is_close Close tells_close (λ e rest. IsExpr vs e rest) _ (r.expr n vs) (λ e. pure (value_node.FetchAdd p a e)) (expr_sound n vs) (λ e j w rest f. g.fetch_add d f))) ts

compare_swap_sound : (n : ℕ) (p : At) (x : List ℕ) (ts : List Terminal) → SoundAt (λ v rest. IsCall (terminal (Keyword reserved.CompareAndSwap) p x ∷ ts) v rest) (r.compare_swap n (terminal (Keyword reserved.CompareAndSwap) p x) ts)
unfolding r.compare_swap r.open_mark r.comma close pure
compare_swap_sound n p x ts = sound_mark is_open Open tells_open (λ ts v rest. IsCall (terminal (Keyword reserved.CompareAndSwap) p x ∷ ts) v rest) _
    (λ q y us. sound_until is_comma Comma tells_comma (λ a rest. IsExpr us a rest) _ (r.expr n us) _ (expr_sound n us)
    (λ a i z vs d. sound_until is_comma Comma tells_comma (λ e rest. IsExpr vs e rest) _ (r.expr n vs) _ (expr_sound n vs)
    (λ e j w ws f. sound_until is_close Close tells_close (λ e rest. IsExpr ws e rest) _ (r.expr n ws) (λ c. pure (value_node.CompareSwap p a e c)) (expr_sound n ws) (λ c k v rest h. g.compare_swap d f h)))) ts

plain_sound : (n : ℕ) (ts : List Terminal) → SoundAt (λ v rest. IsValue ts v rest) (r.plain n ts)
unfolding r.plain pure
plain_sound n ts = sound_after (λ e rest. IsExpr ts e rest) _ (r.expr n ts) (λ e. pure (value_node.Plain e)) (expr_sound n ts) (λ e rest d. g.plain d)

as_value : (ts : List Terminal) (o : Outcome Terminal Value) → SoundAt (λ v rest. IsCall ts v rest) o → SoundAt (λ v rest. IsValue ts v rest) o
as_value ts o h = sound_weaken (λ v rest. IsCall ts v rest) (λ v rest. IsValue ts v rest) o h (λ v rest d. g.called d)

value_step_sound : (n : ℕ) (ts : List Terminal) → SoundAt (λ v rest. IsValue ts v rest) (peek (r.value_at n) ts)
unfolding peek r.peek_behind fail skip
value_step_sound n [] = tt
value_step_sound n (t ∷ ts) = by t.symbol t.at t.spelling
  where
    named : (p : At) (x : List ℕ) (ts : List Terminal) → SoundAt (λ v rest. IsValue (terminal Name p x ∷ ts) v rest) (r.peek_behind (r.named_value n (terminal Name p x)) (terminal Name p x ∷ ts))
    named p x [] = plain_sound n (terminal Name p x ∷ [])
    named p x (u ∷ us) = by_next u.symbol u.at u.spelling
      where
        by_next : (s : Symbol) (q : At) (y : List ℕ) → SoundAt (λ v rest. IsValue (terminal Name p x ∷ terminal s q y ∷ us) v rest) (r.named_by n (terminal Name p x) s (terminal Name p x ∷ terminal s q y ∷ us))
        by_next Open q y = as_value (terminal Name p x ∷ terminal Open q y ∷ us) _ (call_sound n p q x y us)
        by_next s q y = plain_sound n (terminal Name p x ∷ terminal s q y ∷ us)

    by : (s : Symbol) (p : At) (x : List ℕ) → SoundAt (λ v rest. IsValue (terminal s p x ∷ ts) v rest) (r.value_by n s (terminal s p x) (terminal s p x ∷ ts))
    by (Keyword reserved.FetchAndAdd) p x = as_value (terminal (Keyword reserved.FetchAndAdd) p x ∷ ts) _ (fetch_add_sound n p x ts)
    by (Keyword reserved.CompareAndSwap) p x = as_value (terminal (Keyword reserved.CompareAndSwap) p x ∷ ts) _ (compare_swap_sound n p x ts)
    by Name p x = named p x ts
    by s p x = plain_sound n (terminal s p x ∷ ts)

value_sound : (n : ℕ) (ts : List Terminal) → SoundAt (λ v rest. IsValue ts v rest) (r.value n ts)
unfolding r.value fail
value_sound zero ts = tt
value_sound (suc n) ts = value_step_sound (suc n) ts

-- ---- assignments

set_sound : (n : ℕ) (l : Left) (ts mid : List Terminal) → IsLeft ts l mid → SoundAt (λ m rest. IsAssign ts m rest) (r.set n l mid)
unfolding r.set peek fail skip pure
set_sound n l ts [] d = tt
set_sound n l ts (t ∷ us) d = by t.symbol t.at t.spelling d
  where
    by : (s : Symbol) (p : At) (x : List ℕ) → IsLeft ts l (terminal s p x ∷ us) → SoundAt (λ m rest. IsAssign ts m rest) (r.set_by n l s (terminal s p x) (terminal s p x ∷ us))
    by Assign p x d = sound_after (λ v rest. IsValue us v rest) _ (r.value n us) (λ v. pure (node.Assign l v)) (value_sound n us) (λ v rest f. g.assign d f)
    by (Update op) p x d = sound_after (λ e rest. IsExpr us e rest) _ (r.expr n us) (λ e. pure (node.Update l op e)) (expr_sound n us) (λ e rest f. g.update d f)
    by Increment p x d = g.increment d
    by Decrement p x d = g.decrement d
    by _ p x d = tt

increment_sound : (n : ℕ) (p : At) (x : List ℕ) (ts : List Terminal) → SoundAt (λ m rest. IsAssign (terminal Increment p x ∷ ts) m rest) (r.increment n (terminal Increment p x) ts)
unfolding r.increment pure
increment_sound n p x ts = sound_after (λ l rest. IsLeft ts l rest) _ (r.left n ts) (λ l. pure (node.Update l binary.Add (one p))) (left_sound n ts) (λ l rest d. g.increment_before d)

decrement_sound : (n : ℕ) (p : At) (x : List ℕ) (ts : List Terminal) → SoundAt (λ m rest. IsAssign (terminal Decrement p x ∷ ts) m rest) (r.decrement n (terminal Decrement p x) ts)
unfolding r.decrement pure
decrement_sound n p x ts = sound_after (λ l rest. IsLeft ts l rest) _ (r.left n ts) (λ l. pure (node.Update l binary.Sub (one p))) (left_sound n ts) (λ l rest d. g.decrement_before d)

set_left_sound : (n : ℕ) (ts : List Terminal) → SoundAt (λ m rest. IsAssign ts m rest) (after (r.left n ts) (r.set n))
set_left_sound n ts = sound_after (λ l rest. IsLeft ts l rest) (λ m rest. IsAssign ts m rest) (r.left n ts) (r.set n) (left_sound n ts) (λ l mid d. set_sound n l ts mid d)

assign_sound : (n : ℕ) (ts : List Terminal) → SoundAt (λ m rest. IsAssign ts m rest) (r.assign n ts)
unfolding r.assign peek fail skip
assign_sound n [] = tt
assign_sound n (t ∷ ts) = by t.symbol t.at t.spelling
  where
    by : (s : Symbol) (p : At) (x : List ℕ) → SoundAt (λ m rest. IsAssign (terminal s p x ∷ ts) m rest) (r.assign_by n s (terminal s p x) (terminal s p x ∷ ts))
    by Increment p x = increment_sound n p x ts
    by Decrement p x = decrement_sound n p x ts
    by s p x = set_left_sound n (terminal s p x ∷ ts)

-- ---- declarations

pub star_sound : (ts : List Terminal) → SoundAt (λ b rest. IsStar ts b rest) (r.star ts)
unfolding r.star peek skip pure
star_sound [] = g.no_star
star_sound (t ∷ ts) = by t.symbol t.at t.spelling
  where
    by : (s : Symbol) (p : At) (x : List ℕ) → SoundAt (λ b rest. IsStar (terminal s p x ∷ ts) b rest) (r.star_by s (terminal s p x ∷ ts))
    by (Operator binary.Mul) p x = g.star
    by _ p x = g.no_star

local_value_sound : (n : ℕ) (ts : List Terminal) (b : Bool) (p : At) (x : List ℕ) (mid : List Terminal) → IsStar ts b (terminal Name p x ∷ mid) → SoundAt (λ l rest. IsLocal ts l rest) (peek (r.local_at n b (word p x)) mid)
unfolding peek skip pure
local_value_sound n ts b p x [] d = g.bare_local d
local_value_sound n ts b p x (t ∷ us) d = by t.symbol t.at t.spelling d
  where
    by : (s : Symbol) (q : At) (y : List ℕ) → IsStar ts b (terminal Name p x ∷ terminal s q y ∷ us) → SoundAt (λ l rest. IsLocal ts l rest) (r.local_by n b (word p x) s (terminal s q y ∷ us))
    by Assign q y d = sound_after (λ v rest. IsValue us v rest) _ (r.value n us) (λ v. pure (local p b x (Some v))) (value_sound n us) (λ v rest f. g.set_local d f)
    by s q y d = g.bare_local d

local_sound : (n : ℕ) (ts : List Terminal) → SoundAt (λ l rest. IsLocal ts l rest) (r.local_item n ts)
unfolding r.local_item
local_sound n ts = sound_until_name (λ b rest. IsStar ts b rest) (λ l rest. IsLocal ts l rest) (r.star ts) (λ b w. peek (r.local_at n b w)) (star_sound ts) (λ b p x mid d. local_value_sound n ts b p x mid d)

locals_sound : (n : ℕ) (ts : List Terminal) → SoundAt (λ ls rest. AreLocals ts ls rest) (r.list r.local_item n ts)
locals_sound n ts = list_sound (λ ts l rest. IsLocal ts l rest) (λ ts ls rest. AreLocals ts ls rest) (λ ts l rest d. g.last_local d) (λ ts l p x us ls rest d m. g.more_locals d m) r.local_item local_sound n ts

name_item_sound : (n : ℕ) (ts : List Terminal) → SoundAt (λ w rest. IsName ts w rest) (r.name_item n ts)
unfolding name_word token peek skip fail pure
name_item_sound n [] = tt
name_item_sound n (t ∷ ts) = by t.symbol t.at t.spelling
  where
    by : (s : Symbol) (p : At) (x : List ℕ) → SoundAt (λ w rest. IsName (terminal s p x ∷ ts) w rest) (name_word (terminal s p x ∷ ts))
    by Name p x = refl
    by _ p x = tt

pub names_sound : (n : ℕ) (ts : List Terminal) → SoundAt (λ ws rest. AreNames ts ws rest) (r.list r.name_item n ts)
names_sound n ts = list_sound (λ ts w rest. IsName ts w rest) (λ ts ws rest. AreNames ts ws rest)
    (λ ts w rest e. subst (λ (us : List Terminal). AreNames us (w ∷ []) rest) (sym e) g.last_name)
    (λ ts w p x us ws rest e m. subst (λ (vs : List Terminal). AreNames vs (w ∷ ws) rest) (sym e) (g.more_names m)) r.name_item name_item_sound n ts

-- a reader that may be none gives what K says
abbrev pub SoundMaybe : {A : Type 0} → (A → List Terminal → Type 0) → Option (Reader A) → List Terminal → Type 0
SoundMaybe K None ts = Unit {0}
SoundMaybe K (Some p) ts = SoundAt K (p ts)

ints_sound : (n : ℕ) (K : StmtNode → List Terminal → Type 0) (ts : List Terminal) → ((ls : List Local) (q : At) (y : List ℕ) (rest : List Terminal) → AreLocals ts ls (terminal Semicolon q y ∷ rest) → K (node.Declare ls) rest) → SoundAt K (r.ints n ts)
unfolding r.ints r.semicolon pure
ints_sound n K ts k = sound_until is_semicolon Semicolon tells_semicolon (λ ls rest. AreLocals ts ls rest) K (r.list r.local_item n ts) (λ ls. pure (node.Declare ls)) (locals_sound n ts) k

declaration_sound : (n : ℕ) (s : Symbol) (p : At) (x : List ℕ) (ts : List Terminal) → SoundMaybe (λ m rest. IsDeclaration (terminal s p x ∷ ts) m rest) (r.declaration_by n s) ts
unfolding r.threads r.int_word r.semicolon pure
declaration_sound n (Keyword reserved.Int) p x ts = ints_sound n (λ m rest. IsDeclaration (terminal (Keyword reserved.Int) p x ∷ ts) m rest) ts (λ ls q y rest d. g.ints d)
declaration_sound n (Keyword reserved.Volatile) p x ts = sound_mark is_int (Keyword reserved.Int) tells_int (λ ts m rest. IsDeclaration (terminal (Keyword reserved.Volatile) p x ∷ ts) m rest) (r.ints n)
    (λ q y us. ints_sound n (λ m rest. IsDeclaration (terminal (Keyword reserved.Volatile) p x ∷ terminal (Keyword reserved.Int) q y ∷ us) m rest) us (λ ls r z rest d. g.volatile_ints d)) ts
declaration_sound n (Keyword reserved.Thread) p x ts = sound_until is_semicolon Semicolon tells_semicolon (λ ws rest. AreNames ts ws rest) (λ m rest. IsDeclaration (terminal (Keyword reserved.Thread) p x ∷ ts) m rest) (r.list r.name_item n ts) (λ ws. pure (node.DeclareThread ws)) (names_sound n ts) (λ ws q y rest d. g.threads d)
declaration_sound n _ p x ts = tt

-- ---- the parts of statements

first_begun_sound : (n : ℕ) (s : Symbol) (p : At) (x : List ℕ) (ts : List Terminal) (o : Option (Reader StmtNode)) → SoundMaybe (λ m rest. IsDeclaration (terminal s p x ∷ ts) m rest) o ts → SoundAt (λ f rest. IsFirst (terminal s p x ∷ ts) f rest) (r.first_begun n (terminal s p x) o (terminal s p x ∷ ts))
unfolding skip pure r.semicolon
first_begun_sound n s p x ts (Some q) h = sound_after (λ m rest. IsDeclaration (terminal s p x ∷ ts) m rest) _ (q ts) (λ m. pure (r.as_first p m)) h (λ m rest d. g.first_declaration d)
first_begun_sound n s p x ts None h = sound_until is_semicolon Semicolon tells_semicolon (λ m rest. IsAssign (terminal s p x ∷ ts) m rest) (λ f rest. IsFirst (terminal s p x ∷ ts) f rest) (r.assign n (terminal s p x ∷ ts)) (λ m. pure (r.as_first p m)) (assign_sound n (terminal s p x ∷ ts)) (λ m q y rest d. g.first_step (g.step d))

first_sound : (n : ℕ) (ts : List Terminal) → SoundAt (λ f rest. IsFirst ts f rest) (r.first n ts)
unfolding r.first peek fail skip pure
first_sound n [] = tt
first_sound n (t ∷ ts) = by t.symbol t.at t.spelling
  where
    by : (s : Symbol) (p : At) (x : List ℕ) → SoundAt (λ f rest. IsFirst (terminal s p x ∷ ts) f rest) (r.first_by n s (terminal s p x) (terminal s p x ∷ ts))
    by Semicolon p x = g.first_step g.no_step
    by s p x = first_begun_sound n s p x ts (r.declaration_by n s) (declaration_sound n s p x ts)

condition_sound : (n : ℕ) (ts : List Terminal) → SoundAt (λ e rest. IsCondition ts e rest) (r.condition n ts)
unfolding r.condition r.semicolon peek fail skip pure
condition_sound n [] = tt
condition_sound n (t ∷ ts) = by t.symbol t.at t.spelling
  where
    by : (s : Symbol) (p : At) (x : List ℕ) → SoundAt (λ e rest. IsCondition (terminal s p x ∷ ts) e rest) (r.condition_by n s (terminal s p x) (terminal s p x ∷ ts))
    by Semicolon p x = g.no_condition
    by s p x = sound_until is_semicolon Semicolon tells_semicolon (λ e rest. IsExpr (terminal s p x ∷ ts) e rest) (λ e rest. IsCondition (terminal s p x ∷ ts) e rest) (r.expr n (terminal s p x ∷ ts)) (λ e. pure e) (expr_sound n (terminal s p x ∷ ts)) (λ e q y rest d. g.condition d)

-- a step and ")"
abbrev IsClosedStep : List Terminal → Option Stmt → List Terminal → Type 0
IsClosedStep ts s rest = (p : At) × (x : List ℕ) × IsStep ts s (terminal Close p x ∷ rest)

step_sound : (n : ℕ) (ts : List Terminal) → SoundAt (λ s rest. IsClosedStep ts s rest) (r.step n ts)
unfolding r.step close peek fail skip pure
step_sound n [] = tt
step_sound n (t ∷ ts) = by t.symbol t.at t.spelling
  where
    by : (s : Symbol) (p : At) (x : List ℕ) → SoundAt (λ f rest. IsClosedStep (terminal s p x ∷ ts) f rest) (r.step_by n s (terminal s p x) (terminal s p x ∷ ts))
    by Close p x = (p, x, g.no_step)
    by s p x = sound_until is_close Close tells_close (λ m rest. IsAssign (terminal s p x ∷ ts) m rest) (λ f rest. IsClosedStep (terminal s p x ∷ ts) f rest) (r.assign n (terminal s p x ∷ ts)) (λ m. pure (r.as_first p m)) (assign_sound n (terminal s p x ∷ ts)) (λ m q y rest d. (q, y, g.step d))

given_sound : (n : ℕ) (ts : List Terminal) → SoundAt (λ v rest. IsGiven ts v rest) (r.given n ts)
unfolding r.given r.semicolon peek fail skip pure
given_sound n [] = tt
given_sound n (t ∷ ts) = by t.symbol t.at t.spelling
  where
    by : (s : Symbol) (p : At) (x : List ℕ) → SoundAt (λ v rest. IsGiven (terminal s p x ∷ ts) v rest) (r.given_by n s (terminal s p x ∷ ts))
    by Semicolon p x = g.nothing
    by s p x = sound_until is_semicolon Semicolon tells_semicolon (λ v rest. IsValue (terminal s p x ∷ ts) v rest) (λ v rest. IsGiven (terminal s p x ∷ ts) v rest) (r.value n (terminal s p x ∷ ts)) (λ v. pure (Some v)) (value_sound n (terminal s p x ∷ ts)) (λ v q y rest d. g.given d)

-- ---- calls as statements

-- what N says of the node and the terminals behind it, and then ";"
ended_sound : (N K : StmtNode → List Terminal → Type 0) (m : StmtNode) (ts : List Terminal) → N m ts → ((p : At) (x : List ℕ) (rest : List Terminal) → N m (terminal Semicolon p x ∷ rest) → K m rest) → SoundAt K (r.ended m ts)
unfolding r.semicolon pure
ended_sound N K m ts d k = sound_until is_semicolon Semicolon tells_semicolon (λ (u : Unit {0}) rest. N m rest) K (Parsed tt ts) (λ u. pure m) d (λ u p x rest h. k p x rest h)

action_sound : (ts : List Terminal) (m : StmtNode) (mid : List Terminal) → IsAction ts m mid → SoundAt (λ m rest. IsStmtNode ts m rest) (r.ended m mid)
action_sound ts m mid d = ended_sound (λ m rest. IsAction ts m rest) (λ m rest. IsStmtNode ts m rest) m mid d (λ p x rest h. g.action h)

effect_sound : (ts : List Terminal) (o : Outcome Terminal Value) → SoundAt (λ v rest. IsCall ts v rest) o → SoundAt (λ m rest. IsStmtNode ts m rest) (after o (λ v. r.ended (node.Do v)))
effect_sound ts o h = sound_after (λ v rest. IsCall ts v rest) (λ m rest. IsStmtNode ts m rest) o (λ v. r.ended (node.Do v)) h (λ v mid d. action_sound ts (node.Do v) mid (g.effect d))

bare_sound : (t : Terminal) (m : StmtNode) → ((q s : At) (y z : List ℕ) (rest : List Terminal) → IsAction (t ∷ terminal Open q y ∷ terminal Close s z ∷ rest) m rest) → (ts : List Terminal) → SoundAt (λ m rest. IsStmtNode (t ∷ ts) m rest) (r.bare m ts)
unfolding r.bare r.open_mark close
bare_sound t m k ts = sound_mark is_open Open tells_open (λ ts m rest. IsStmtNode (t ∷ ts) m rest) _
    (λ q y us. sound_mark is_close Close tells_close (λ us m rest. IsStmtNode (t ∷ terminal Open q y ∷ us) m rest) (r.ended m) (λ s z vs. action_sound (t ∷ terminal Open q y ∷ terminal Close s z ∷ vs) m vs (k q s y z vs)) us) ts

with_expr_sound : (n : ℕ) (make : Expr → StmtNode) (K : List Terminal → StmtNode → List Terminal → Type 0) → ((q u s : At) (y w z : List ℕ) (us : List Terminal) (e : Expr) (rest : List Terminal) → IsExpr us e (terminal Close s z ∷ terminal Semicolon u w ∷ rest) → K (terminal Open q y ∷ us) (make e) rest) → (ts : List Terminal) → SoundAt (K ts) (r.with_expr n make ts)
unfolding r.with_expr r.open_mark close
with_expr_sound n make K k ts = sound_mark is_open Open tells_open K _
    (λ q y us. sound_until is_close Close tells_close (λ e rest. IsExpr us e rest) (K (terminal Open q y ∷ us)) (r.expr n us) (λ e. r.ended (make e)) (expr_sound n us)
    (λ e s z vs d. ended_sound (λ m rest. IsExpr us e (terminal Close s z ∷ rest)) (K (terminal Open q y ∷ us)) (make e) vs d (λ u w rest h. k q u s y w z us e rest h))) ts

with_address_sound : (t : Terminal) (make : Word → StmtNode) → ((q i s j : At) (y a z b : List ℕ) (rest : List Terminal) → IsAction (t ∷ terminal Open q y ∷ terminal (Operator binary.And) i a ∷ terminal Name s z ∷ terminal Close j b ∷ rest) (make (word s z)) rest) → (ts : List Terminal) → SoundAt (λ m rest. IsStmtNode (t ∷ ts) m rest) (r.with_address make ts)
unfolding r.with_address r.open_mark r.ampersand close
with_address_sound t make k ts = sound_mark is_open Open tells_open (λ ts m rest. IsStmtNode (t ∷ ts) m rest) _
    (λ q y us. sound_mark is_ampersand (Operator binary.And) tells_ampersand (λ us m rest. IsStmtNode (t ∷ terminal Open q y ∷ us) m rest) _
    (λ i a vs. sound_name (λ vs m rest. IsStmtNode (t ∷ terminal Open q y ∷ terminal (Operator binary.And) i a ∷ vs) m rest) _
    (λ s z ws. sound_mark is_close Close tells_close (λ ws m rest. IsStmtNode (t ∷ terminal Open q y ∷ terminal (Operator binary.And) i a ∷ terminal Name s z ∷ ws) m rest) (r.ended (make (word s z)))
    (λ j b xs. action_sound (t ∷ terminal Open q y ∷ terminal (Operator binary.And) i a ∷ terminal Name s z ∷ terminal Close j b ∷ xs) (make (word s z)) xs (k q i s j y a z b xs)) ws) vs) us) ts

text_sound : {B : Type 0} (K : List Terminal → B → List Terminal → Type 0) (f : List ℕ → Reader B) → ((p : At) (x : List ℕ) (rest : List Terminal) → SoundAt (K (terminal Text p x ∷ rest)) (f x rest)) → (ts : List Terminal) → SoundAt (K ts) ((r.text >>= f) ts)
unfolding r.text token peek fail skip pure
text_sound K f k [] = tt
text_sound {B = B} K f k (t ∷ ts) = by t.symbol t.at t.spelling
  where
    by : (s : Symbol) (p : At) (x : List ℕ) → SoundAt (K (terminal s p x ∷ ts)) ((r.text >>= f) (terminal s p x ∷ ts))
    by Text p x = k p x ts
    by _ p x = tt

sound_until_text : {A B : Type 0} (N : A → List Terminal → Type 0) (K : B → List Terminal → Type 0) (o : Outcome Terminal A) (f : A → List ℕ → Reader B) → SoundAt N o → ((a : A) (p : At) (x : List ℕ) (rest : List Terminal) → N a (terminal Text p x ∷ rest) → SoundAt K (f a x rest)) → SoundAt K (after o (λ a. r.text >>= f a))
unfolding r.text token peek fail skip pure
sound_until_text N K (Parsed a []) f h k = tt
sound_until_text {A = A} {B = B} N K (Parsed a (t ∷ ts)) f h k = by t.symbol t.at t.spelling h
  where
    by : (s : Symbol) (p : At) (x : List ℕ) → N a (terminal s p x ∷ ts) → SoundAt K ((r.text >>= f a) (terminal s p x ∷ ts))
    by Text p x h = k a p x ts h
    by _ p x h = tt
sound_until_text N K (Fault rest) f h k = tt

named_assert_sound : (n : ℕ) (p : At) (x : List ℕ) (ts : List Terminal) → SoundAt (λ m rest. IsStmtNode (terminal (Keyword reserved.ProverAssert) p x ∷ ts) m rest) (r.named_assert n ts)
unfolding r.named_assert r.open_mark r.comma close
named_assert_sound n p x ts = sound_mark is_open Open tells_open (λ ts m rest. IsStmtNode (terminal (Keyword reserved.ProverAssert) p x ∷ ts) m rest) _ at_expr ts
  where
    at_expr : (q : At) (y : List ℕ) (us : List Terminal) → SoundAt (λ m rest. IsStmtNode (terminal (Keyword reserved.ProverAssert) p x ∷ terminal Open q y ∷ us) m rest) ((r.expr n >>= λ e. r.comma >> (r.text >>= λ x. close >> r.ended (node.Assert e (Some x)))) us)
    at_expr q y us =
        let K : StmtNode → List Terminal → Type 0 = λ m rest. IsStmtNode (terminal (Keyword reserved.ProverAssert) p x ∷ terminal Open q y ∷ us) m rest in
        sound_until is_comma Comma tells_comma (λ e rest. IsExpr us e rest) K (r.expr n us) _ (expr_sound n us)
        (λ e i z vs d. sound_until_text (λ (u : Unit {0}) rest. IsExpr us e (terminal Comma i z ∷ rest)) K (Parsed tt vs) (λ u x. close >> r.ended (node.Assert e (Some x))) d
        (λ u j w ws d. sound_until is_close Close tells_close (λ (u : Unit {0}) rest. IsExpr us e (terminal Comma i z ∷ terminal Text j w ∷ rest)) K (Parsed tt ws) (λ u. r.ended (node.Assert e (Some (w)))) d
        (λ u k v xs d. action_sound (terminal (Keyword reserved.ProverAssert) p x ∷ terminal Open q y ∷ us) (node.Assert e (Some (w))) xs (g.named_assert d))))

started_sound : (K : StmtNode → List Terminal → Type 0) (w : Word) (ts : List Terminal) → ((i j k l h : At) (a b c d e : List ℕ) (us rest : List Terminal) → IsNull ts (terminal Comma i a ∷ terminal Name j b ∷ terminal Comma k c ∷ us) → IsNull us (terminal Close l d ∷ terminal Semicolon h e ∷ rest) → K (node.Start w (word j b)) rest) → SoundAt K ((r.null >> r.started w) ts)
unfolding r.started r.comma close
started_sound K w ts k = sound_until is_comma Comma tells_comma (λ u rest. IsNull ts rest) K (r.null ts) (λ u. name_word >>= λ f. r.comma >> (r.null >> (close >> r.ended (node.Start w f)))) (null_sound ts)
    (λ u i a vs d. sound_until_name (λ (u : Unit {0}) rest. IsNull ts (terminal Comma i a ∷ rest)) K (Parsed tt vs) (λ u f. r.comma >> (r.null >> (close >> r.ended (node.Start w f)))) d
    (λ u j b ws d. sound_until is_comma Comma tells_comma (λ (u : Unit {0}) rest. IsNull ts (terminal Comma i a ∷ terminal Name j b ∷ rest)) K (Parsed tt ws) (λ u. r.null >> (close >> r.ended (node.Start w (word j b)))) d
    (λ u l c xs d. sound_until is_close Close tells_close (λ u rest. IsNull xs rest) K (r.null xs) (λ u. r.ended (node.Start w (word j b))) (null_sound xs)
    (λ u o e ys f. ended_sound (λ m rest. IsNull xs (terminal Close o e ∷ rest)) K (node.Start w (word j b)) ys f (λ h z rest f. k i j l o h a b c e z xs rest d f)))))

start_sound : (p : At) (x : List ℕ) (ts : List Terminal) → SoundAt (λ m rest. IsStmtNode (terminal (Keyword reserved.Create) p x ∷ ts) m rest) (r.start ts)
unfolding r.start r.open_mark r.ampersand r.comma
start_sound p x ts = sound_mark is_open Open tells_open (λ ts m rest. IsStmtNode (terminal (Keyword reserved.Create) p x ∷ ts) m rest) _
    (λ q y us. sound_mark is_ampersand (Operator binary.And) tells_ampersand (λ us m rest. IsStmtNode (terminal (Keyword reserved.Create) p x ∷ terminal Open q y ∷ us) m rest) _
    (λ i a vs. sound_name (λ vs m rest. IsStmtNode (terminal (Keyword reserved.Create) p x ∷ terminal Open q y ∷ terminal (Operator binary.And) i a ∷ vs) m rest) _
    (λ s z ws. sound_mark is_comma Comma tells_comma (λ ws m rest. IsStmtNode (terminal (Keyword reserved.Create) p x ∷ terminal Open q y ∷ terminal (Operator binary.And) i a ∷ terminal Name s z ∷ ws) m rest) _
    (λ j b xs. started_sound (λ m rest. IsStmtNode (terminal (Keyword reserved.Create) p x ∷ terminal Open q y ∷ terminal (Operator binary.And) i a ∷ terminal Name s z ∷ terminal Comma j b ∷ xs) m rest) (word s z) xs
    (λ i j k l h a b c d e us rest f m. g.action (g.start f m))) ws) vs) us) ts

join_sound : (p : At) (x : List ℕ) (ts : List Terminal) → SoundAt (λ m rest. IsStmtNode (terminal (Keyword reserved.Join) p x ∷ ts) m rest) (r.join ts)
unfolding r.join r.open_mark r.comma close
join_sound p x ts = sound_mark is_open Open tells_open (λ ts m rest. IsStmtNode (terminal (Keyword reserved.Join) p x ∷ ts) m rest) _
    (λ q y us. sound_name (λ us m rest. IsStmtNode (terminal (Keyword reserved.Join) p x ∷ terminal Open q y ∷ us) m rest) _
    (λ s z ws. sound_mark is_comma Comma tells_comma (λ ws m rest. IsStmtNode (terminal (Keyword reserved.Join) p x ∷ terminal Open q y ∷ terminal Name s z ∷ ws) m rest) _
    (λ j b xs. sound_until is_close Close tells_close (λ u rest. IsNull xs rest) (λ m rest. IsStmtNode (terminal (Keyword reserved.Join) p x ∷ terminal Open q y ∷ terminal Name s z ∷ terminal Comma j b ∷ xs) m rest) (r.null xs) (λ u. r.ended (node.Join (word s z))) (null_sound xs)
    (λ u k c ys d. action_sound (terminal (Keyword reserved.Join) p x ∷ terminal Open q y ∷ terminal Name s z ∷ terminal Comma j b ∷ xs) (node.Join (word s z)) ys (g.join d))) ws) us) ts

ended_front_sound : (K : List Terminal → StmtNode → List Terminal → Type 0) (m : StmtNode) → ((p : At) (x : List ℕ) (rest : List Terminal) → K (terminal Semicolon p x ∷ rest) m rest) → (ts : List Terminal) → SoundAt (K ts) (r.ended m ts)
unfolding r.semicolon pure
ended_front_sound K m k ts = sound_mark is_semicolon Semicolon tells_semicolon K (pure m) k ts

goto_sound : (p : At) (x : List ℕ) (ts : List Terminal) → SoundAt (λ m rest. IsStmtNode (terminal (Keyword reserved.Goto) p x ∷ ts) m rest) (r.goto ts)
unfolding r.goto
goto_sound p x ts = sound_name (λ ts m rest. IsStmtNode (terminal (Keyword reserved.Goto) p x ∷ ts) m rest) _
    (λ q y us. ended_front_sound (λ us m rest. IsStmtNode (terminal (Keyword reserved.Goto) p x ∷ terminal Name q y ∷ us) m rest) (node.Goto (word q y)) (λ z w rest. g.goto) us) ts

-- ---- statements

-- the readers of what stands within a statement are sound
pub record SoundInner (i : Inner) : Type 0 where
  pub stmt : (ts : List Terminal) → SoundAt (λ s rest. IsStmt ts s rest) (i.stmt ts)
  pub body : (ts : List Terminal) → SoundAt (λ ss rest. IsBody ts ss rest) (i.body ts)

set_ended_sound : (n : ℕ) (ts : List Terminal) (o : Outcome Terminal Left) → SoundAt (λ l rest. IsLeft ts l rest) o → SoundAt (λ m rest. IsStmtNode ts m rest) (after o (λ l. r.set n l >>= r.ended))
set_ended_sound n ts o h = sound_after (λ l rest. IsLeft ts l rest) (λ m rest. IsStmtNode ts m rest) o (λ l. r.set n l >>= r.ended) h
    (λ l mid d. sound_after (λ m rest. IsAssign ts m rest) (λ m rest. IsStmtNode ts m rest) (r.set n l mid) r.ended (set_sound n l ts mid d) (λ m mid f. assigned ts m mid f))
  where
    assigned : (ts : List Terminal) (m : StmtNode) (mid : List Terminal) → IsAssign ts m mid → SoundAt (λ m rest. IsStmtNode ts m rest) (r.ended m mid)
    assigned ts m mid f = ended_sound (λ m rest. IsAssign ts m rest) (λ m rest. IsStmtNode ts m rest) m mid f (λ p x rest h. g.assignment h)

assigned_sound : (ts : List Terminal) (o : Outcome Terminal StmtNode) → SoundAt (λ m rest. IsAssign ts m rest) o → SoundAt (λ m rest. IsStmtNode ts m rest) (after o r.ended)
assigned_sound ts o h = sound_after (λ m rest. IsAssign ts m rest) (λ m rest. IsStmtNode ts m rest) o r.ended h
    (λ m mid f. ended_sound (λ m rest. IsAssign ts m rest) (λ m rest. IsStmtNode ts m rest) m mid f (λ p x rest h. g.assignment h))

module _ (n : ℕ) (i : Inner) (I : SoundInner i) where
  else_sound : (p q s : At) (x y z : List ℕ) (us vs : List Terminal) (e : Expr) (b : Stmt) (mid : List Terminal) → IsExpr us e (terminal Close s z ∷ vs) → IsStmt vs b mid → SoundAt (λ m rest. IsStmtNode (terminal (Keyword reserved.If) p x ∷ terminal Open q y ∷ us) m rest) (peek (r.else_at i e b) mid)
  unfolding peek skip pure
  else_sound p q s x y z us vs e b [] d f = g.when d f tt
  else_sound p q s x y z us vs e b (t ∷ ts) d f = by t.symbol t.at t.spelling f
    where
      by : (k : Symbol) (j : At) (w : List ℕ) → IsStmt vs b (terminal k j w ∷ ts) → SoundAt (λ m rest. IsStmtNode (terminal (Keyword reserved.If) p x ∷ terminal Open q y ∷ us) m rest) (r.else_by i e b k (terminal k j w ∷ ts))
      by (Keyword reserved.Else) j w f = sound_after (λ o rest. IsStmt ts o rest) _ (i.stmt ts) (λ o. pure (node.If e b (Some o))) (I.stmt ts) (λ o rest h. g.choose d f h)
      by _ j w f = g.when d f tt

  when_sound : (p : At) (x : List ℕ) (ts : List Terminal) → SoundAt (λ m rest. IsStmtNode (terminal (Keyword reserved.If) p x ∷ ts) m rest) (r.when n i ts)
  unfolding r.when r.open_mark close
  when_sound p x ts = sound_mark is_open Open tells_open (λ ts m rest. IsStmtNode (terminal (Keyword reserved.If) p x ∷ ts) m rest) _
      (λ q y us. sound_until is_close Close tells_close (λ e rest. IsExpr us e rest) (λ m rest. IsStmtNode (terminal (Keyword reserved.If) p x ∷ terminal Open q y ∷ us) m rest) (r.expr n us) (λ e. i.stmt >>= λ s. peek (r.else_at i e s)) (expr_sound n us)
      (λ e s z vs d. sound_after (λ b mid. IsStmt vs b mid) (λ m rest. IsStmtNode (terminal (Keyword reserved.If) p x ∷ terminal Open q y ∷ us) m rest) (i.stmt vs) (λ b. peek (r.else_at i e b)) (I.stmt vs) (λ b mid f. else_sound p q s x y z us vs e b mid d f))) ts

  while_sound : (p : At) (x : List ℕ) (ts : List Terminal) → SoundAt (λ m rest. IsStmtNode (terminal (Keyword reserved.While) p x ∷ ts) m rest) (r.while n i ts)
  unfolding r.while r.open_mark close pure
  while_sound p x ts = sound_mark is_open Open tells_open (λ ts m rest. IsStmtNode (terminal (Keyword reserved.While) p x ∷ ts) m rest) _
      (λ q y us. sound_until is_close Close tells_close (λ e rest. IsExpr us e rest) (λ m rest. IsStmtNode (terminal (Keyword reserved.While) p x ∷ terminal Open q y ∷ us) m rest) (r.expr n us) (λ e. i.stmt >>= λ s. pure (node.While e s)) (expr_sound n us)
      (λ e s z vs d. sound_after (λ b mid. IsStmt vs b mid) (λ m rest. IsStmtNode (terminal (Keyword reserved.While) p x ∷ terminal Open q y ∷ us) m rest) (i.stmt vs) (λ b. pure (node.While e b)) (I.stmt vs) (λ b mid f. g.while d f))) ts

  do_while_sound : (p : At) (x : List ℕ) (ts : List Terminal) → SoundAt (λ m rest. IsStmtNode (terminal (Keyword reserved.Do) p x ∷ ts) m rest) (r.do_while n i ts)
  unfolding r.do_while r.while_word
  do_while_sound p x ts = sound_until is_while (Keyword reserved.While) tells_while (λ s rest. IsStmt ts s rest) (λ m rest. IsStmtNode (terminal (Keyword reserved.Do) p x ∷ ts) m rest) (i.stmt ts) (λ s. r.with_expr n (λ e. node.DoWhile s e)) (I.stmt ts)
      (λ s q y us d. sound_weaken (λ m rest. IsStmt ts s (terminal (Keyword reserved.While) q y ∷ us) → IsStmtNode (terminal (Keyword reserved.Do) p x ∷ ts) m rest) (λ m rest. IsStmtNode (terminal (Keyword reserved.Do) p x ∷ ts) m rest) (r.with_expr n (λ e. node.DoWhile s e) us)
      (with_expr_sound n (λ e. node.DoWhile s e) (λ us m rest. IsStmt ts s (terminal (Keyword reserved.While) q y ∷ us) → IsStmtNode (terminal (Keyword reserved.Do) p x ∷ ts) m rest) (λ q u s y w z us e rest f d. g.do_while d f) us) (λ m rest f. f d))

  for_sound : (p : At) (x : List ℕ) (ts : List Terminal) → SoundAt (λ m rest. IsStmtNode (terminal (Keyword reserved.For) p x ∷ ts) m rest) (r.for n i ts)
  unfolding r.for r.open_mark pure
  for_sound p x ts = sound_mark is_open Open tells_open (λ ts m rest. IsStmtNode (terminal (Keyword reserved.For) p x ∷ ts) m rest) _ behind ts
    where
      behind : (q : At) (y : List ℕ) (us : List Terminal) → SoundAt (λ m rest. IsStmtNode (terminal (Keyword reserved.For) p x ∷ terminal Open q y ∷ us) m rest) ((r.first n >>= λ f. r.condition n >>= λ e. r.step n >>= λ s. i.stmt >>= λ b. pure (node.For f (Some e) s b)) us)
      behind q y us =
          let K : StmtNode → List Terminal → Type 0 = λ m rest. IsStmtNode (terminal (Keyword reserved.For) p x ∷ terminal Open q y ∷ us) m rest in
          sound_after (λ f mid. IsFirst us f mid) K (r.first n us) (λ f. r.condition n >>= λ e. r.step n >>= λ s. i.stmt >>= λ b. pure (node.For f (Some e) s b)) (first_sound n us)
          (λ f vs d. sound_after (λ e mid. IsCondition vs e mid) K (r.condition n vs) (λ e. r.step n >>= λ s. i.stmt >>= λ b. pure (node.For f (Some e) s b)) (condition_sound n vs)
          (λ e ws c. sound_after (λ s mid. IsClosedStep ws s mid) K (r.step n ws) (λ s. i.stmt >>= λ b. pure (node.For f (Some e) s b)) (step_sound n ws)
          (λ s xs h. sound_after (λ b rest. IsStmt xs b rest) K (i.stmt xs) (λ b. pure (node.For f (Some e) s b)) (I.stmt xs) (λ b rest l. g.for d c h.2 l))))

  named_sound : (p : At) (x : List ℕ) (ts : List Terminal) → SoundAt (λ m rest. IsStmtNode (terminal Name p x ∷ ts) m rest) (r.named n i (terminal Name p x) ts)
  unfolding r.named peek fail skip pure
  named_sound p x [] = tt
  named_sound p x (t ∷ ts) = by t.symbol t.at t.spelling
    where
      by : (s : Symbol) (q : At) (y : List ℕ) → SoundAt (λ m rest. IsStmtNode (terminal Name p x ∷ terminal s q y ∷ ts) m rest) (r.named_by_next n i (terminal Name p x) s (terminal s q y ∷ ts))
      by Open q y = effect_sound (terminal Name p x ∷ terminal Open q y ∷ ts) (r.call n (terminal Name p x) ts) (call_sound n p q x y ts)
      by Colon q y = sound_after (λ s rest. IsStmt ts s rest) (λ m rest. IsStmtNode (terminal Name p x ∷ terminal Colon q y ∷ ts) m rest) (i.stmt ts) (λ s. pure (node.Label (word p x) s)) (I.stmt ts) (λ s rest d. g.label d)
      by s q y = set_ended_sound n (terminal Name p x ∷ terminal s q y ∷ ts) (r.named_left n (terminal Name p x) (terminal s q y ∷ ts)) (named_left_sound n p x (terminal s q y ∷ ts))

  return_sound : (p : At) (x : List ℕ) (ts : List Terminal) → SoundAt (λ m rest. IsStmtNode (terminal (Keyword reserved.Return) p x ∷ ts) m rest) (after (r.given n ts) (λ v. pure (node.Return v)))
  unfolding pure
  return_sound p x ts = sound_after (λ v rest. IsGiven ts v rest) (λ m rest. IsStmtNode (terminal (Keyword reserved.Return) p x ∷ ts) m rest) (r.given n ts) (λ v. pure (node.Return v)) (given_sound n ts) (λ v rest d. g.return d)

  behind_word_sound : (k : Reserved) (p : At) (x : List ℕ) (ts : List Terminal) → SoundMaybe (λ m rest. IsStmtNode (terminal (Keyword k) p x ∷ ts) m rest) (r.behind_word n i k (terminal (Keyword k) p x)) ts
  behind_word_sound reserved.FetchAndAdd p x ts = effect_sound (terminal (Keyword reserved.FetchAndAdd) p x ∷ ts) _ (fetch_add_sound n p x ts)
  behind_word_sound reserved.CompareAndSwap p x ts = effect_sound (terminal (Keyword reserved.CompareAndSwap) p x ∷ ts) _ (compare_swap_sound n p x ts)
  behind_word_sound reserved.Assert p x ts = with_expr_sound n (λ e. node.Assert e None) (λ ts m rest. IsStmtNode (terminal (Keyword reserved.Assert) p x ∷ ts) m rest) (λ q u s y w z us e rest d. g.action (g.assert d)) ts
  behind_word_sound reserved.ProverAssert p x ts = named_assert_sound n p x ts
  behind_word_sound reserved.Assume p x ts = with_expr_sound n node.Assume (λ ts m rest. IsStmtNode (terminal (Keyword reserved.Assume) p x ∷ ts) m rest) (λ q u s y w z us e rest d. g.action (g.assume d)) ts
  behind_word_sound reserved.Synchronize p x ts = bare_sound (terminal (Keyword reserved.Synchronize) p x) node.Fence (λ q s y z rest. g.fence) ts
  behind_word_sound reserved.Lock p x ts = with_address_sound (terminal (Keyword reserved.Lock) p x) node.Lock (λ q i s j y a z b rest. g.lock) ts
  behind_word_sound reserved.Unlock p x ts = with_address_sound (terminal (Keyword reserved.Unlock) p x) node.Unlock (λ q i s j y a z b rest. g.unlock) ts
  behind_word_sound reserved.Create p x ts = start_sound p x ts
  behind_word_sound reserved.Join p x ts = join_sound p x ts
  behind_word_sound reserved.AtomicBegin p x ts = bare_sound (terminal (Keyword reserved.AtomicBegin) p x) node.AtomBegin (λ q s y z rest. g.atom_begin) ts
  behind_word_sound reserved.AtomicEnd p x ts = bare_sound (terminal (Keyword reserved.AtomicEnd) p x) node.AtomEnd (λ q s y z rest. g.atom_end) ts
  behind_word_sound reserved.If p x ts = when_sound p x ts
  behind_word_sound reserved.While p x ts = while_sound p x ts
  behind_word_sound reserved.Do p x ts = do_while_sound p x ts
  behind_word_sound reserved.For p x ts = for_sound p x ts
  behind_word_sound reserved.Break p x ts = ended_front_sound (λ ts m rest. IsStmtNode (terminal (Keyword reserved.Break) p x ∷ ts) m rest) node.Break (λ q y rest. g.break) ts
  behind_word_sound reserved.Continue p x ts = ended_front_sound (λ ts m rest. IsStmtNode (terminal (Keyword reserved.Continue) p x ∷ ts) m rest) node.Continue (λ q y rest. g.continue) ts
  behind_word_sound reserved.Return p x ts = return_sound p x ts
  behind_word_sound reserved.Goto p x ts = goto_sound p x ts
  behind_word_sound _ p x ts = tt

  block_sound : (p : At) (x : List ℕ) (ts : List Terminal) → SoundAt (λ m rest. IsStmtNode (terminal OpenBrace p x ∷ ts) m rest) (after (i.body ts) (λ ss. pure (node.Block ss)))
  unfolding pure
  block_sound p x ts = sound_after (λ ss rest. IsBody ts ss rest) (λ m rest. IsStmtNode (terminal OpenBrace p x ∷ ts) m rest) (i.body ts) (λ ss. pure (node.Block ss)) (I.body ts) (λ ss rest d. g.block d)

  empty_sound : (p : At) (x : List ℕ) (ts : List Terminal) → SoundAt (λ m rest. IsStmtNode (terminal Semicolon p x ∷ ts) m rest) (pure node.Empty ts)
  unfolding pure
  empty_sound p x ts = g.empty

  node_sound : (s : Symbol) (p : At) (x : List ℕ) (ts : List Terminal) → SoundMaybe (λ m rest. IsStmtNode (terminal s p x ∷ ts) m rest) (r.node_by n i s (terminal s p x)) ts
  node_sound Semicolon p x ts = empty_sound p x ts
  node_sound OpenBrace p x ts = block_sound p x ts
  node_sound Name p x ts = named_sound p x ts
  node_sound Increment p x ts = assigned_sound (terminal Increment p x ∷ ts) _ (increment_sound n p x ts)
  node_sound Decrement p x ts = assigned_sound (terminal Decrement p x ∷ ts) _ (decrement_sound n p x ts)
  node_sound (Operator binary.Mul) p x ts = set_ended_sound n (terminal (Operator binary.Mul) p x ∷ ts) _ (pointed_left_sound n p x ts)
  node_sound Open p x ts = set_ended_sound n (terminal Open p x ∷ ts) _ (grouped_left_sound (r.left n) p x ts (left_sound n ts))
  node_sound (Keyword k) p x ts = behind_word_sound k p x ts
  node_sound _ p x ts = tt

  stmt_begun_sound : (s : Symbol) (p : At) (x : List ℕ) (ts : List Terminal) (o : Option (Reader StmtNode)) → SoundMaybe (λ m rest. IsStmtNode (terminal s p x ∷ ts) m rest) o ts → SoundAt (λ b rest. IsStmt (terminal s p x ∷ ts) b rest) (r.stmt_begun (terminal s p x) o (terminal s p x ∷ ts))
  unfolding skip pure fail
  stmt_begun_sound s p x ts None h = tt
  stmt_begun_sound s p x ts (Some q) h = sound_after (λ m rest. IsStmtNode (terminal s p x ∷ ts) m rest) (λ b rest. IsStmt (terminal s p x ∷ ts) b rest) (q ts) (λ m. pure (statement p m)) h (λ m rest d. g.at_first d)

  stmt_of_sound : (ts : List Terminal) → SoundAt (λ s rest. IsStmt ts s rest) (r.stmt_of n i ts)
  unfolding r.stmt_of peek fail
  stmt_of_sound [] = tt
  stmt_of_sound (t ∷ ts) = stmt_begun_sound t.symbol t.at t.spelling ts (r.node_by n i t.symbol t) (node_sound t.symbol t.at t.spelling ts)

  body_begun_sound : (s : Symbol) (p : At) (x : List ℕ) (ts : List Terminal) (o u : Option (Reader StmtNode)) → SoundMaybe (λ m rest. IsDeclaration (terminal s p x ∷ ts) m rest) o ts → SoundMaybe (λ m rest. IsStmtNode (terminal s p x ∷ ts) m rest) u ts → SoundAt (λ ss rest. IsBody (terminal s p x ∷ ts) ss rest) (r.body_begun i (terminal s p x) (r.either o u) (terminal s p x ∷ ts))
  unfolding skip pure fail
  body_begun_sound s p x ts (Some q) u h k = sound_after (λ m mid. IsDeclaration (terminal s p x ∷ ts) m mid) _ (q ts) (λ m. i.body >>= λ ss. pure (statement p m ∷ ss)) h
      (λ m mid d. sound_after (λ ss rest. IsBody mid ss rest) (λ ss rest. IsBody (terminal s p x ∷ ts) ss rest) (i.body mid) (λ ss. pure (statement p m ∷ ss)) (I.body mid) (λ ss rest f. g.declaration d f))
  body_begun_sound s p x ts None (Some q) h k = sound_after (λ m mid. IsStmtNode (terminal s p x ∷ ts) m mid) _ (q ts) (λ m. i.body >>= λ ss. pure (statement p m ∷ ss)) k
      (λ m mid d. sound_after (λ ss rest. IsBody mid ss rest) (λ ss rest. IsBody (terminal s p x ∷ ts) ss rest) (i.body mid) (λ ss. pure (statement p m ∷ ss)) (I.body mid) (λ ss rest f. g.further (g.at_first d) f))
  body_begun_sound s p x ts None None h k = tt

  body_of_sound : (ts : List Terminal) → SoundAt (λ ss rest. IsBody ts ss rest) (r.body_of n i ts)
  unfolding r.body_of peek fail skip pure
  body_of_sound [] = tt
  body_of_sound (t ∷ ts) = by t.symbol t.at t.spelling
    where
      by : (s : Symbol) (p : At) (x : List ℕ) → SoundAt (λ ss rest. IsBody (terminal s p x ∷ ts) ss rest) (r.body_by n i s (terminal s p x) (terminal s p x ∷ ts))
      by CloseBrace p x = g.end
      by s p x = body_begun_sound s p x ts (r.declaration_by n s) (r.node_by n i s (terminal s p x)) (declaration_sound n s p x ts) (node_sound s p x ts)

-- what the readers of statements give is in the grammar
pub inner_sound : (n : ℕ) → SoundInner (r.inner n)
unfolding r.inner fail
inner_sound zero = record { stmt = λ ts. tt; body = λ ts. tt }
inner_sound (suc n) =
    let I = inner_sound n in
    record { stmt = stmt_of_sound n (r.inner n) I; body = body_of_sound n (r.inner n) I }
