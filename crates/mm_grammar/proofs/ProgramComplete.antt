-- What is in the grammar of items and programs is read.
use Rattle.std.proofs.Common.{◌≡◌, ℕ, zero, suc, ◌<◌, ◌≤◌, Bool, true, false, List, [], ◌∷◌, length, arith, Some, None, refl, sym, ◌∙◌, ap}
use Rattle.mm_goto.specs.declared.ident.At.{At}
use Rattle.mm_goto.specs.declared.pure.Binary.TheVariants as binary
use Rattle.mm_tree.specs.declared.expr.Expr.{Expr}
use Rattle.mm_tree.specs.declared.expr.Word.{Word}
use Rattle.mm_tree.specs.declared.item.Gives.{Gives}
use Rattle.mm_tree.specs.declared.item.Gives.TheVariants as gives
use Rattle.mm_tree.specs.declared.item.Global.{Global}
use Rattle.mm_tree.specs.declared.item.Item.{Item}
use Rattle.mm_tree.specs.declared.item.Item.TheVariants as item
use Rattle.mm_tree.specs.declared.item.Param.{Param}
use Rattle.mm_tree.specs.declared.item.Tree.{Tree}
use Rattle.mm_tree.specs.declared.stmt.Stmt.{Stmt}
use Rattle.mm_reading.specs.Parsing.{Outcome, Parsed, ◌>>=◌, ◌>>◌, pure, peek, skip, head, after, token}
use Rattle.mm_parse_expr.specs.declared.symbol.Keyword.{Keyword as Reserved}
use Rattle.mm_parse_expr.specs.declared.symbol.Keyword.TheVariants as reserved
use Rattle.mm_parse_expr.specs.declared.symbol.Symbol.{Symbol}
use Rattle.mm_parse_expr.specs.declared.symbol.Symbol.TheVariants.{Name, Keyword, Operator, Semicolon, Comma, Open, Close, OpenBrace}
use Rattle.mm_parse_expr.specs.declared.terminal.Terminal.{Terminal}
use Rattle.mm_parse_expr.specs.Grammar.{terminal}
use Rattle.mm_tree.specs.Trees.{word, global, param}
use Rattle.mm_parse_expr.specs.reading.ExprReading.{Reader, close, close_bracket, name_word}
use Rattle.mm_parse_expr.proofs.Follow.{Any}
use Rattle.mm_grammar.specs.StatementGrammar as st
use Rattle.mm_grammar.specs.StatementGrammar.{IsBody, AreNames}
use Rattle.mm_grammar.specs.ProgramGrammar as g
use Rattle.mm_grammar.specs.ProgramGrammar.{IsConst, AreConsts, IsInit, IsGlobal, AreGlobals, IsMutex, AreMutexes, IsOptional, IsParam, AreParams, IsParams, IsThreadParams, IsGives, AreQuals, IsItem, AreItems, IsProgram}
use Rattle.mm_grammar.specs.reading.StatementReading.{semicolon, open_mark, int_word, others, list, star}
use Rattle.mm_grammar.specs.reading.ProgramReading as r
use Rattle.mm_grammar.proofs.StatementComplete.{Marked, marked_by, IsList, last, more, NoComma, list_complete, star_complete, names_complete}
use Rattle.mm_grammar.proofs.NodeComplete.{body_complete}
use Rattle.mm_grammar.proofs.StatementShorter.{star_shorter, names_shorter, body_shorter}

-- ---- what is read is some terminals

const_shorter : {ts : List Terminal} {e : Expr} {rest : List Terminal} → IsConst ts e rest → length rest < length ts
const_shorter g.number = omega arith
const_shorter g.negated = omega arith

consts_shorter : {ts : List Terminal} {es : List Expr} {rest : List Terminal} → AreConsts ts es rest → length rest < length ts
consts_shorter (g.last_const d) = const_shorter d
consts_shorter (g.more_consts d m) = omega (arith, const_shorter d, consts_shorter m)

init_shorter : {ts : List Terminal} {e : Expr} {rest : List Terminal} → IsInit ts e rest → length rest < length ts
init_shorter (g.constant d) = const_shorter d
init_shorter g.null = omega arith
init_shorter g.address = omega arith
init_shorter g.element_address = omega arith

global_shorter : {ts : List Terminal} {v : Global} {rest : List Terminal} → IsGlobal ts v rest → length rest < length ts
global_shorter (g.variable d) = omega (arith, star_shorter d)
global_shorter (g.set_variable d f) = omega (arith, star_shorter d, init_shorter f)
global_shorter g.array = omega arith
global_shorter (g.set_array d) = omega (arith, consts_shorter d)

globals_shorter : {ts : List Terminal} {vs : List Global} {rest : List Terminal} → AreGlobals ts vs rest → length rest < length ts
globals_shorter (g.last_global d) = global_shorter d
globals_shorter (g.more_globals d m) = omega (arith, global_shorter d, globals_shorter m)

mutex_shorter : {ts : List Terminal} {w : Word} {rest : List Terminal} → IsMutex ts w rest → length rest < length ts
mutex_shorter g.mutex = omega arith
mutex_shorter g.set_mutex = omega arith

mutexes_shorter : {ts : List Terminal} {ws : List Word} {rest : List Terminal} → AreMutexes ts ws rest → length rest < length ts
mutexes_shorter (g.last_mutex d) = mutex_shorter d
mutexes_shorter (g.more_mutexes d m) = omega (arith, mutex_shorter d, mutexes_shorter m)

param_shorter : {ts : List Terminal} {a : Param} {rest : List Terminal} → IsParam ts a rest → length rest < length ts
param_shorter (g.one_param d) = omega (arith, star_shorter d)

list_params_shorter : {ts : List Terminal} {ps : List Param} {rest : List Terminal} → AreParams ts ps rest → length rest < length ts
list_params_shorter (g.last_param d) = param_shorter d
list_params_shorter (g.more_params d m) = omega (arith, param_shorter d, list_params_shorter m)

optional_shorter : {k : Reserved} {ts rest : List Terminal} → IsOptional k ts rest → length rest ≤ length ts
optional_shorter g.absent = omega arith
optional_shorter g.present = omega arith

params_shorter : {ts : List Terminal} {ps : List Param} {rest : List Terminal} → IsParams ts ps rest → length rest < length ts
params_shorter (g.no_params d) = omega (arith, optional_shorter d)
params_shorter (g.params d) = omega (arith, list_params_shorter d)

thread_params_shorter : {ts : List Terminal} {ps : List Param} {rest : List Terminal} → IsThreadParams ts ps rest → length rest < length ts
thread_params_shorter (g.no_thread_params d) = omega (arith, optional_shorter d)
thread_params_shorter g.nameless_param = omega arith
thread_params_shorter g.thread_param = omega arith

gives_shorter : {ts : List Terminal} {kind : Gives} {rest : List Terminal} → IsGives ts kind rest → length rest < length ts
gives_shorter g.gives_int = omega arith
gives_shorter g.gives_pointer = omega arith
gives_shorter g.gives_nothing = omega arith

quals_shorter : {ts rest : List Terminal} → AreQuals ts rest → length rest ≤ length ts
quals_shorter g.no_quals = omega arith
quals_shorter (g.static d) = omega (arith, quals_shorter d)
quals_shorter (g.volatile d) = omega (arith, quals_shorter d)

item_shorter : {ts : List Terminal} {i : Item} {rest : List Terminal} → IsItem ts i rest → length rest < length ts
item_shorter (g.globals d m) = omega (arith, quals_shorter d, globals_shorter m)
item_shorter (g.mutexes d m) = omega (arith, quals_shorter d, mutexes_shorter m)
item_shorter (g.threads d m) = omega (arith, quals_shorter d, names_shorter m)
item_shorter (g.input d f) = omega (arith, optional_shorter d, optional_shorter f)
item_shorter (g.function d k f h) = omega (arith, optional_shorter d, gives_shorter k, params_shorter f, body_shorter h)
item_shorter (g.thread_function d f h) = omega (arith, optional_shorter d, thread_params_shorter f, body_shorter h)

-- ---- initialisers

const_complete : {ts : List Terminal} {e : Expr} {rest : List Terminal} → IsConst ts e rest → r.const ts ≡ Parsed e rest
unfolding r.const r.number token peek skip pure
const_complete g.number = refl
const_complete g.negated = refl

consts_list : {ts : List Terminal} {es : List Expr} {rest : List Terminal} → AreConsts ts es rest → IsList (λ ts e rest. IsConst ts e rest) ts es rest
consts_list (g.last_const d) = last d
consts_list (g.more_consts d m) = more d (consts_list m)

consts_complete : {ts : List Terminal} {es : List Expr} {rest : List Terminal} → AreConsts ts es rest → (n : ℕ) → NoComma (head rest) → length ts < n → list r.const_item n ts ≡ Parsed es rest
consts_complete m n nc l = list_complete (λ ts e rest. IsConst ts e rest) Any r.const_item (λ p x. tt) (λ ts e rest d. const_shorter d) (λ ts e rest d n c l. const_complete d) (consts_list m) n tt nc l

address_done : (t : Terminal) (w : Word) (rest : List Terminal) → Marked (head rest) → peek (r.address_at t w) rest ≡ peek (λ h. r.address_at t w None) rest
unfolding peek pure
address_done t w [] c = absurd c
address_done t w (u ∷ us) c = by u.symbol c
  where
    by : (s : Symbol) → marked_by s → r.address_by t w s (u ∷ us) ≡ r.address_at t w None (u ∷ us)
    by Semicolon c = refl
    by Comma c = refl
    by Close c = refl
    by _ c = absurd c

init_complete : {ts : List Terminal} {e : Expr} {rest : List Terminal} → IsInit ts e rest → Marked (head rest) → r.init ts ≡ Parsed e rest
unfolding r.init r.const r.number r.number_expr r.address close_bracket name_word token peek skip pure
init_complete (g.constant g.number) c = refl
init_complete (g.constant g.negated) c = refl
init_complete g.null c = refl
init_complete {rest = rest} (g.address {p = p} {q = q} {x = x} {y = y}) c = address_done (terminal (Operator binary.And) p x) (word q y) rest c
init_complete g.element_address c = refl

-- ---- globals

scalar_done : (b : Bool) (p : At) (x : List ℕ) (rest : List Terminal) → Marked (head rest) → r.scalar b (word p x) rest ≡ Parsed (global p b x None []) rest
unfolding r.scalar peek pure
scalar_done b p x [] c = absurd c
scalar_done b p x (t ∷ ts) c = by t.symbol c
  where
    by : (s : Symbol) → marked_by s → r.scalar_by b (word p x) s (t ∷ ts) ≡ Parsed (global p b x None []) (t ∷ ts)
    by Semicolon c = refl
    by Comma c = refl
    by Close c = refl
    by _ c = absurd c

plain_done : (n : ℕ) (p : At) (x : List ℕ) (rest : List Terminal) → Marked (head rest) → r.plain n (word p x) rest ≡ Parsed (global p false x None []) rest
unfolding r.plain peek pure
plain_done n p x [] c = absurd c
plain_done n p x (t ∷ ts) c = by t.symbol c
  where
    by : (s : Symbol) → marked_by s → r.plain_by n (word p x) s (t ∷ ts) ≡ Parsed (global p false x None []) (t ∷ ts)
    by Semicolon c = refl
    by Comma c = refl
    by Close c = refl
    by _ c = absurd c

elements_done : (n : ℕ) (w : Word) (k : _) (rest : List Terminal) → Marked (head rest) → peek (r.elements_at n w k) rest ≡ Parsed (global w.at false w.name (Some k) []) rest
unfolding peek pure
elements_done n w k [] c = absurd c
elements_done n w k (t ∷ ts) c = by t.symbol c
  where
    by : (s : Symbol) → marked_by s → r.elements_by n w k s (t ∷ ts) ≡ Parsed (global w.at false w.name (Some k) []) (t ∷ ts)
    by Semicolon c = refl
    by Comma c = refl
    by Close c = refl
    by _ c = absurd c

global_complete : {ts : List Terminal} {v : Global} {rest : List Terminal} → IsGlobal ts v rest → (n : ℕ) → Marked (head rest) → length ts < n → r.global_item n ts ≡ Parsed v rest
unfolding r.global_item r.scalar r.plain r.array r.number r.open_brace r.close_brace star close_bracket name_word token peek skip pure
global_complete {rest = rest} (g.variable {p = p} {x = x} st.no_star) n c l = plain_done n p x rest c
global_complete {rest = rest} (g.variable {p = p} {x = x} st.star) n c l = scalar_done true p x rest c
global_complete (g.set_variable {p = p} {x = x} st.no_star f) n c l = ap (λ o. after o (λ e. pure (global p false x None (e ∷ [])))) (init_complete f c)
global_complete (g.set_variable {p = p} {x = x} st.star f) n c l = ap (λ o. after o (λ e. pure (global p true x None (e ∷ [])))) (init_complete f c)
global_complete {rest = rest} (g.array {n = k} {p = p} {x = x}) n c l = elements_done n (word p x) k rest c
global_complete (g.set_array {n = k} {p = p} {x = x} d) n c l = ap (λ o. after o (λ es. r.close_brace >> pure (global p false x (Some k) es))) (consts_complete d n tt (omega arith))

globals_list : {ts : List Terminal} {vs : List Global} {rest : List Terminal} → AreGlobals ts vs rest → IsList (λ ts v rest. IsGlobal ts v rest) ts vs rest
globals_list (g.last_global d) = last d
globals_list (g.more_globals d m) = more d (globals_list m)

globals_complete : {ts : List Terminal} {vs : List Global} {rest : List Terminal} → AreGlobals ts vs rest → (n : ℕ) → Marked (head rest) → NoComma (head rest) → length ts < n → list r.global_item n ts ≡ Parsed vs rest
globals_complete m n c nc l = list_complete (λ ts v rest. IsGlobal ts v rest) Marked r.global_item (λ p x. tt) (λ ts v rest d. global_shorter d) (λ ts v rest d n c l. global_complete d n c l) (globals_list m) n c nc l

-- the first global is read behind "int" as it is in a list
int_global : (n : ℕ) (may_ask may_run : Bool) {us : List Terminal} {v : Global} {mid : List Terminal} → IsGlobal us v mid → Marked (head mid) → length us < n → r.int_item n may_ask may_run us ≡ after (r.global_item n us) (λ v. others r.global_item n >>= λ vs. semicolon >> pure (item.Globals (v ∷ vs)))
unfolding r.int_item r.globals r.global_item star name_word token peek skip pure
int_global n may_ask may_run {mid = []} d c l = absurd c
int_global n may_ask may_run {mid = t ∷ mid} (g.variable {p = p} {x = x} st.no_star) c l = by t.symbol c
  where
    by : (s : Symbol) → marked_by s → r.int_named_by n may_ask may_run (word p x) s (t ∷ mid) ≡ r.globals n (r.plain n (word p x)) (t ∷ mid)
    by Semicolon c = refl
    by Comma c = refl
    by Close c = refl
    by _ c = absurd c
int_global n may_ask may_run {mid = t ∷ mid} (g.variable {p = p} {x = x} st.star) c l = by t.symbol c
  where
    by : (s : Symbol) → marked_by s → r.pointer_by n may_run (word p x) s (t ∷ mid) ≡ r.globals n (r.scalar true (word p x)) (t ∷ mid)
    by Semicolon c = refl
    by Comma c = refl
    by Close c = refl
    by _ c = absurd c
int_global n may_ask may_run (g.set_variable st.no_star f) c l = refl
int_global n may_ask may_run (g.set_variable st.star f) c l = refl
int_global n may_ask may_run g.array c l = refl
int_global n may_ask may_run (g.set_array d) c l = refl

int_globals : (n : ℕ) (may_ask may_run : Bool) {us : List Terminal} {vs : List Global} {rest : List Terminal} {p : At} {x : List ℕ} → AreGlobals us vs (terminal Semicolon p x ∷ rest) → length us < n → r.int_item n may_ask may_run us ≡ Parsed (item.Globals vs) rest
unfolding others list semicolon token peek skip pure
int_globals zero may_ask may_run m l = absurd (omega arith)
int_globals (suc n) may_ask may_run {rest = rest} {p = p} {x = x} (g.last_global {g = v} d) l =
    int_global (suc n) may_ask may_run d tt l ∙ ap (λ o. after o (λ v. others r.global_item (suc n) >>= λ vs. semicolon >> pure (item.Globals (v ∷ vs)))) (global_complete d (suc n) tt l)
int_globals (suc n) may_ask may_run (g.more_globals {g = v} d m) l =
    int_global (suc n) may_ask may_run d tt l
    ∙ ap (λ o. after o (λ v. others r.global_item (suc n) >>= λ vs. semicolon >> pure (item.Globals (v ∷ vs)))) (global_complete d (suc n) tt l)
    ∙ ap (λ o. after o (λ vs. semicolon >> pure (item.Globals (v ∷ vs)))) (globals_complete m n tt tt (omega (arith, global_shorter d)))

mutexes_list : {ts : List Terminal} {ws : List Word} {rest : List Terminal} → AreMutexes ts ws rest → IsList (λ ts w rest. IsMutex ts w rest) ts ws rest
mutexes_list (g.last_mutex d) = last d
mutexes_list (g.more_mutexes d m) = more d (mutexes_list m)

mutex_complete : {ts : List Terminal} {w : Word} {rest : List Terminal} → IsMutex ts w rest → (n : ℕ) → Marked (head rest) → r.mutex_item n ts ≡ Parsed w rest
unfolding r.mutex_item r.initializer name_word token peek skip pure
mutex_complete {rest = []} d n c = absurd c
mutex_complete {rest = t ∷ ts} (g.mutex {p = p} {x = x}) n c = by t.symbol c
  where
    by : (s : Symbol) → marked_by s → r.mutex_by (word p x) s (t ∷ ts) ≡ Parsed (word p x) (t ∷ ts)
    by Semicolon c = refl
    by Comma c = refl
    by Close c = refl
    by _ c = absurd c
mutex_complete g.set_mutex n c = refl

mutexes_complete : {ts : List Terminal} {ws : List Word} {rest : List Terminal} {p : At} {x : List ℕ} → AreMutexes ts ws (terminal Semicolon p x ∷ rest) → (n : ℕ) → length ts < n → r.mutexes n ts ≡ Parsed (item.Mutexes ws) rest
unfolding r.mutexes semicolon token peek skip pure
mutexes_complete m n l = ap (λ o. after o (λ ws. semicolon >> pure (item.Mutexes ws))) (list_complete (λ ts w rest. IsMutex ts w rest) Marked r.mutex_item (λ p x. tt) (λ ts w rest d. mutex_shorter d) (λ ts w rest d n c l. mutex_complete d n c) (mutexes_list m) n tt tt l)

threads_complete : {ts : List Terminal} {ws : List Word} {rest : List Terminal} {p : At} {x : List ℕ} → AreNames ts ws (terminal Semicolon p x ∷ rest) → (n : ℕ) → length ts < n → r.threads n ts ≡ Parsed (item.Threads ws) rest
unfolding r.threads semicolon token peek skip pure
threads_complete m n l = ap (λ o. after o (λ ws. semicolon >> pure (item.Threads ws))) (names_complete m n tt l)

-- ---- functions

param_complete : {ts : List Terminal} {a : Param} {rest : List Terminal} → IsParam ts a rest → (n : ℕ) → r.param_item n ts ≡ Parsed a rest
unfolding r.param_item int_word name_word token peek skip pure
param_complete (g.one_param d) n = ap (λ o. after o (λ b. name_word >>= λ w. pure (param b w.at w.name))) (star_complete d)

params_list : {ts : List Terminal} {ps : List Param} {rest : List Terminal} → AreParams ts ps rest → IsList (λ ts a rest. IsParam ts a rest) ts ps rest
params_list (g.last_param d) = last d
params_list (g.more_params d m) = more d (params_list m)

list_params_complete : {ts : List Terminal} {ps : List Param} {rest : List Terminal} → AreParams ts ps rest → (n : ℕ) → NoComma (head rest) → length ts < n → list r.param_item n ts ≡ Parsed ps rest
list_params_complete m n nc l = list_complete (λ ts a rest. IsParam ts a rest) Any r.param_item (λ p x. tt) (λ ts a rest d. param_shorter d) (λ ts a rest d n c l. param_complete d n) (params_list m) n tt nc l

-- parameters begin with "int"
params_first : (n : ℕ) {ts : List Terminal} {ps : List Param} {mid : List Terminal} → AreParams ts ps mid → r.params n ts ≡ (list r.param_item n >>= λ ps. close >> pure ps) ts
unfolding r.params peek
params_first n (g.last_param (g.one_param d)) = refl
params_first n (g.more_params (g.one_param d) m) = refl

asked_first : (n : ℕ) (may_ask : Bool) (w : Word) {ts : List Terminal} {ps : List Param} {mid : List Terminal} → AreParams ts ps mid → r.asked n may_ask w ts ≡ (list r.param_item n >>= λ ps. close >> r.function n gives.Int w ps) ts
unfolding r.asked peek
asked_first n may_ask w (g.last_param (g.one_param d)) = refl
asked_first n may_ask w (g.more_params (g.one_param d) m) = refl

with_params_complete : (n : ℕ) (kind : Gives) (w : Word) (p : At) (x : List ℕ) {q : At} {y : List ℕ} {ts : List Terminal} {ps : List Param} {ws : List Terminal} {ss : List Stmt} {rest : List Terminal} → IsParams (terminal Open p x ∷ ts) ps (terminal OpenBrace q y ∷ ws) → IsBody ws ss rest → length ts < n → r.with_params n kind w ts ≡ Parsed (item.Function w.at kind w.name ps ss) rest
unfolding r.with_params r.params r.function r.open_brace close token peek skip pure
with_params_complete n kind w p x (g.no_params g.absent) f l = ap (λ o. after o (λ ss. pure (item.Function w.at kind w.name [] ss))) (body_complete f n (omega arith))
with_params_complete n kind w p x (g.no_params g.present) f l = ap (λ o. after o (λ ss. pure (item.Function w.at kind w.name [] ss))) (body_complete f n (omega arith))
with_params_complete n kind w p x {ps = ps} (g.params d) f l =
    ap (λ o. after o (r.function n kind w)) (params_first n d ∙ ap (λ o. after o (λ ps. close >> pure ps)) (list_params_complete d n tt l))
    ∙ ap (λ o. after o (λ ss. pure (item.Function w.at kind w.name ps ss))) (body_complete f n (omega (arith, list_params_shorter d)))

asked_complete : (n : ℕ) (may_ask : Bool) (w : Word) (p : At) (x : List ℕ) {q : At} {y : List ℕ} {ts : List Terminal} {ps : List Param} {ws : List Terminal} {ss : List Stmt} {rest : List Terminal} → IsParams (terminal Open p x ∷ ts) ps (terminal OpenBrace q y ∷ ws) → IsBody ws ss rest → length ts < n → r.asked n may_ask w ts ≡ Parsed (item.Function w.at gives.Int w.name ps ss) rest
unfolding r.asked r.no_params r.function r.open_brace close token peek skip pure
asked_complete n may_ask w p x (g.no_params g.absent) f l = ap (λ o. after o (λ ss. pure (item.Function w.at gives.Int w.name [] ss))) (body_complete f n (omega arith))
asked_complete n may_ask w p x (g.no_params g.present) f l = ap (λ o. after o (λ ss. pure (item.Function w.at gives.Int w.name [] ss))) (body_complete f n (omega arith))
asked_complete n may_ask w p x {ps = ps} (g.params d) f l =
    asked_first n may_ask w d ∙ ap (λ o. after o (λ ps. close >> r.function n gives.Int w ps)) (list_params_complete d n tt l)
    ∙ ap (λ o. after o (λ ss. pure (item.Function w.at gives.Int w.name ps ss))) (body_complete f n (omega (arith, list_params_shorter d)))

thread_params_complete : (p : At) (x : List ℕ) (ts : List Terminal) {ps : List Param} {mid : List Terminal} → IsThreadParams (terminal Open p x ∷ ts) ps mid → r.thread_params ts ≡ Parsed ps mid
unfolding r.thread_params close token peek skip pure
thread_params_complete p x ts (g.no_thread_params g.absent) = refl
thread_params_complete p x ts (g.no_thread_params g.present) = refl
thread_params_complete p x ts g.nameless_param = refl
thread_params_complete p x ts g.thread_param = refl

int_function : (n : ℕ) (may_ask : Bool) (p : At) (x : List ℕ) {q : At} {y : List ℕ} {vs : List Terminal} {ps : List Param} {ws : List Terminal} {ss : List Stmt} {rest : List Terminal} → IsParams vs ps (terminal OpenBrace q y ∷ ws) → IsBody ws ss rest → length vs < n → r.int_item n may_ask true (terminal Name p x ∷ vs) ≡ Parsed (item.Function p gives.Int x ps ss) rest
unfolding r.int_item name_word token peek skip pure
int_function n may_ask p x (g.no_params {p = i} {x = a} d) f l = asked_complete n may_ask (word p x) i a (g.no_params d) f (omega arith)
int_function n may_ask p x (g.params {p = i} {x = a} d) f l = asked_complete n may_ask (word p x) i a (g.params d) f (omega arith)

pointer_function : (n : ℕ) (may_ask : Bool) (p o : At) (x z : List ℕ) {q : At} {y : List ℕ} {vs : List Terminal} {ps : List Param} {ws : List Terminal} {ss : List Stmt} {rest : List Terminal} → IsParams vs ps (terminal OpenBrace q y ∷ ws) → IsBody ws ss rest → length vs < n → r.int_item n may_ask true (terminal (Operator binary.Mul) o z ∷ terminal Name p x ∷ vs) ≡ Parsed (item.Function p gives.Pointer x ps ss) rest
unfolding r.int_item name_word token peek skip pure
pointer_function n may_ask p o x z (g.no_params {p = i} {x = a} d) f l = with_params_complete n gives.Pointer (word p x) i a (g.no_params d) f (omega arith)
pointer_function n may_ask p o x z (g.params {p = i} {x = a} d) f l = with_params_complete n gives.Pointer (word p x) i a (g.params d) f (omega arith)

nothing_function : (n : ℕ) (p : At) (x : List ℕ) {q : At} {y : List ℕ} {vs : List Terminal} {ps : List Param} {ws : List Terminal} {ss : List Stmt} {rest : List Terminal} → IsParams vs ps (terminal OpenBrace q y ∷ ws) → IsBody ws ss rest → length vs < n → r.void_item n (terminal Name p x ∷ vs) ≡ Parsed (item.Function p gives.Nothing x ps ss) rest
unfolding r.void_item open_mark name_word token peek skip pure
nothing_function n p x (g.no_params {p = i} {x = a} d) f l = with_params_complete n gives.Nothing (word p x) i a (g.no_params d) f (omega arith)
nothing_function n p x (g.params {p = i} {x = a} d) f l = with_params_complete n gives.Nothing (word p x) i a (g.params d) f (omega arith)

thread_function : (n : ℕ) (p o : At) (x z : List ℕ) {q : At} {y : List ℕ} {vs : List Terminal} {ps : List Param} {ws : List Terminal} {ss : List Stmt} {rest : List Terminal} → IsThreadParams vs ps (terminal OpenBrace q y ∷ ws) → IsBody ws ss rest → length vs < n → r.void_item n (terminal (Operator binary.Mul) o z ∷ terminal Name p x ∷ vs) ≡ Parsed (item.Function p gives.Thread x ps ss) rest
unfolding r.void_item r.thread_function r.function r.open_brace open_mark name_word token peek skip pure
thread_function n p o x z (g.no_thread_params {ts = ts} {p = i} {x = a} d) f l = ap (λ o. after o (r.function n gives.Thread (word p x))) (thread_params_complete i a ts (g.no_thread_params d)) ∙ ap (λ o. after o (λ ss. pure (item.Function p gives.Thread x [] ss))) (body_complete f n (omega (arith, optional_shorter d)))
thread_function n p o x z (g.nameless_param {p = i} {x = a}) f l = ap (λ o. after o (r.function n gives.Thread (word p x))) (thread_params_complete i a _ g.nameless_param) ∙ ap (λ o. after o (λ ss. pure (item.Function p gives.Thread x [] ss))) (body_complete f n (omega arith))
thread_function n p o x z (g.thread_param {p = i} {s = s} {x = a} {w = w}) f l = ap (λ o. after o (r.function n gives.Thread (word p x))) (thread_params_complete i a _ g.thread_param) ∙ ap (λ o. after o (λ ss. pure (item.Function p gives.Thread x (param true s w ∷ []) ss))) (body_complete f n (omega arith))

-- ---- items

-- the item is read behind the first terminal, by which an item begins
record ItemRead (n : ℕ) (ts : List Terminal) (i : Item) (rest : List Terminal) : Type 0 where
  first : Terminal
  behind : List Terminal
  same : ts ≡ first ∷ behind
  reader : Reader Item
  begins : r.item_by n first.symbol ≡ Some reader
  read : reader behind ≡ Parsed i rest

module _ (k : Reserved) (p : At) (x : List ℕ) (us : List Terminal) (i : Item) (rest : List Terminal)
    (behind_quals : (n : ℕ) (may_run : Bool) → length us < n → r.qualified (suc n) may_run (terminal (Keyword k) p x ∷ us) ≡ Parsed i rest) where
  qualified_complete : {ts mid : List Terminal} → AreQuals ts mid → mid ≡ terminal (Keyword k) p x ∷ us → (n : ℕ) (may_run : Bool) → length ts < n → r.qualified n may_run ts ≡ Parsed i rest
  unfolding r.qualified peek skip
  qualified_complete d e zero may_run l = absurd (omega arith)
  qualified_complete g.no_quals e (suc n) may_run l = ap (λ ts. r.qualified (suc n) may_run ts) e ∙ behind_quals n may_run (omega (arith, ap (λ (ts : List Terminal). length ts) e))
  qualified_complete (g.static d) e (suc n) may_run l = qualified_complete d e n false (omega arith)
  qualified_complete (g.volatile d) e (suc n) may_run l = qualified_complete d e n false (omega arith)

  quals_item : (n : ℕ) (reader : Reader Item) → r.item_by n (Keyword k) ≡ Some reader → reader us ≡ Parsed i rest → {ts mid : List Terminal} → AreQuals ts mid → mid ≡ terminal (Keyword k) p x ∷ us → length ts < suc n → ItemRead n ts i rest
  quals_item n reader b h g.no_quals e l = record { first = terminal (Keyword k) p x; behind = us; same = e; reader = reader; begins = b; read = h }
  quals_item n reader b h (g.static {ts = ts} {p = q} {x = y} d) e l = record { first = terminal (Keyword reserved.Static) q y; behind = ts; same = refl; reader = r.qualified n true; begins = refl; read = qualified_complete d e n true (omega arith) }
  quals_item n reader b h (g.volatile {ts = ts} {p = q} {x = y} d) e l = record { first = terminal (Keyword reserved.Volatile) q y; behind = ts; same = refl; reader = r.qualified n false; begins = refl; read = qualified_complete d e n false (omega arith) }

item_complete : {ts : List Terminal} {i : Item} {rest : List Terminal} → IsItem ts i rest → (n : ℕ) → length ts < suc n → ItemRead n ts i rest
unfolding r.qualified r.int_item r.asked r.no_params r.external r.void_or_not int_word open_mark semicolon close name_word token peek skip pure
item_complete {rest = rest} (g.globals {gs = vs} {us = us} {p = p} {x = x} d m) n l = quals_item reserved.Int p x us (item.Globals vs) rest (λ n may_run l. int_globals n false may_run m l) n (r.int_item n true true) refl (int_globals n true true m (omega (arith, quals_shorter d))) d refl l
item_complete {rest = rest} (g.mutexes {ws = ws} {us = us} {p = p} {x = x} d m) n l = quals_item reserved.Mutex p x us (item.Mutexes ws) rest (λ n may_run l. mutexes_complete m n l) n (r.mutexes n) refl (mutexes_complete m n (omega (arith, quals_shorter d))) d refl l
item_complete {rest = rest} (g.threads {ws = ws} {us = us} {p = p} {x = x} d m) n l = quals_item reserved.Thread p x us (item.Threads ws) rest (λ n may_run l. threads_complete m n l) n (r.threads n) refl (threads_complete m n (omega (arith, quals_shorter d))) d refl l
item_complete (g.input {p = p} {x = x} g.absent g.absent) n l = record { first = terminal (Keyword reserved.Int) p x; behind = _; same = refl; reader = r.int_item n true true; begins = refl; read = refl }
item_complete (g.input {p = p} {x = x} g.absent g.present) n l = record { first = terminal (Keyword reserved.Int) p x; behind = _; same = refl; reader = r.int_item n true true; begins = refl; read = refl }
item_complete (g.input (g.present {p = p} {x = x}) g.absent) n l = record { first = terminal (Keyword reserved.Extern) p x; behind = _; same = refl; reader = r.external; begins = refl; read = refl }
item_complete (g.input (g.present {p = p} {x = x}) g.present) n l = record { first = terminal (Keyword reserved.Extern) p x; behind = _; same = refl; reader = r.external; begins = refl; read = refl }
item_complete (g.function {p = i} {x = z} g.absent (g.gives_int {p = p} {x = x}) f h) n l = record { first = terminal (Keyword reserved.Int) p x; behind = _; same = refl; reader = r.int_item n true true; begins = refl; read = int_function n true i z f h (omega arith) }
item_complete (g.function {p = i} {x = z} g.absent (g.gives_pointer {p = p} {q = o} {x = x} {y = y}) f h) n l = record { first = terminal (Keyword reserved.Int) p x; behind = _; same = refl; reader = r.int_item n true true; begins = refl; read = pointer_function n true i o z y f h (omega arith) }
item_complete (g.function {p = i} {x = z} g.absent (g.gives_nothing {p = p} {x = x}) f h) n l = record { first = terminal (Keyword reserved.Void) p x; behind = _; same = refl; reader = r.void_item n; begins = refl; read = nothing_function n i z f h (omega arith) }
item_complete (g.function g.present k f h) zero l = absurd (omega arith)
item_complete (g.function {p = i} {x = z} (g.present {p = s} {x = w}) g.gives_int f h) (suc n) l = record { first = terminal (Keyword reserved.Static) s w; behind = _; same = refl; reader = r.qualified (suc n) true; begins = refl; read = int_function n false i z f h (omega arith) }
item_complete (g.function {p = i} {x = z} (g.present {p = s} {x = w}) (g.gives_pointer {q = o} {y = y}) f h) (suc n) l = record { first = terminal (Keyword reserved.Static) s w; behind = _; same = refl; reader = r.qualified (suc n) true; begins = refl; read = pointer_function n false i o z y f h (omega arith) }
item_complete (g.function {p = i} {x = z} (g.present {p = s} {x = w}) g.gives_nothing f h) (suc n) l = record { first = terminal (Keyword reserved.Static) s w; behind = _; same = refl; reader = r.qualified (suc n) true; begins = refl; read = nothing_function n i z f h (omega arith) }
item_complete (g.thread_function {p = p} {q = o} {r = i} {x = x} {y = y} {z = z} g.absent f h) n l = record { first = terminal (Keyword reserved.Void) p x; behind = _; same = refl; reader = r.void_item n; begins = refl; read = thread_function n i o z y f h (omega arith) }
item_complete (g.thread_function g.present f h) zero l = absurd (omega arith)
item_complete (g.thread_function {q = o} {r = i} {y = y} {z = z} (g.present {p = s} {x = w}) f h) (suc n) l = record { first = terminal (Keyword reserved.Static) s w; behind = _; same = refl; reader = r.qualified (suc n) true; begins = refl; read = thread_function n i o z y f h (omega arith) }

items_complete : {ts : List Terminal} {is : List Item} {rest : List Terminal} → AreItems ts is rest → rest ≡ [] → (n : ℕ) → length ts < n → r.items n ts ≡ Parsed is rest
unfolding r.items peek skip pure
items_complete d e zero l = absurd (omega arith)
items_complete g.no_items e (suc n) l = ap (λ ts. r.items (suc n) ts) e ∙ ap (λ ts. Parsed [] ts) (sym e)
items_complete {ts = ts} (g.more_items {i = i} {is = is} d m) e (suc n) l =
    let h = item_complete d n l in
    ap (λ ts. r.items (suc n) ts) h.same
    ∙ ap (λ o. r.items_begun o (r.items n) (h.first ∷ h.behind)) h.begins
    ∙ ap (λ o. after o (λ i. r.items n >>= λ is. pure (i ∷ is))) h.read
    ∙ ap (λ o. after o (λ is. pure (i ∷ is))) (items_complete m e n (omega (arith, item_shorter d)))

-- a program is read
pub program_complete : (ts : List Terminal) (program : Tree) → IsProgram ts program → (n : ℕ) → length ts < n → r.program n ts ≡ Parsed program []
unfolding r.program pure
program_complete ts program d n l = ap (λ o. after o (λ is. pure (r.program_of is))) (items_complete d refl n l)

-- the terminals of a program tell its tree
pub one_program : (ts : List Terminal) (a b : Tree) → IsProgram ts a → IsProgram ts b → a ≡ b
one_program ts a b d f = same (program_complete ts a d (suc (length ts)) (omega arith)) (program_complete ts b f (suc (length ts)) (omega arith))
  where
    same : {o : Outcome Terminal Tree} → o ≡ Parsed a [] → o ≡ Parsed b [] → a ≡ b
    same p q = cc
