-- What the readers of items and programs give is in the grammar.
use Rattle.std.proofs.Common.{◌≡◌, ℕ, ℤ, zero, suc, Bool, true, false, List, [], ◌∷◌, Option, Some, None, refl, sym, subst}
use Rattle.std.specs.Int.{w32, int_wrapping_neg}
use Rattle.mm_goto.specs.declared.ident.At.{At}
use Rattle.mm_goto.specs.declared.pure.Binary.TheVariants as binary
use Rattle.mm_tree.specs.declared.expr.Expr.{Expr}
use Rattle.mm_tree.specs.declared.expr.Node.TheVariants as node
use Rattle.mm_tree.specs.declared.expr.Word.{Word}
use Rattle.mm_tree.specs.declared.item.Gives.{Gives}
use Rattle.mm_tree.specs.declared.item.Gives.TheVariants as gives
use Rattle.mm_tree.specs.declared.item.Global.{Global}
use Rattle.mm_tree.specs.declared.item.Item.{Item}
use Rattle.mm_tree.specs.declared.item.Item.TheVariants as item
use Rattle.mm_tree.specs.declared.item.Param.{Param}
use Rattle.mm_tree.specs.declared.item.Tree.{Tree}
use Rattle.mm_tree.specs.declared.stmt.Stmt.{Stmt}
use Rattle.mm_reading.specs.Parsing.{Outcome, Parsed, ◌>>=◌, ◌>>◌, pure, fail, peek, skip, after, token}
use Rattle.mm_reading.proofs.Sounding.{SoundAt, sound_after, sound_weaken}
use Rattle.mm_parse_expr.specs.declared.symbol.Keyword.TheVariants as reserved
use Rattle.mm_parse_expr.specs.declared.symbol.Symbol.{Symbol}
use Rattle.mm_parse_expr.specs.declared.symbol.Symbol.TheVariants.{Name, Number, Null, Keyword, Operator, Assign, Semicolon, Open, Close, OpenBracket, CloseBracket, OpenBrace, CloseBrace}
use Rattle.mm_parse_expr.specs.declared.terminal.Terminal.{Terminal}
use Rattle.mm_parse_expr.specs.Grammar.{terminal}
use Rattle.mm_tree.specs.Trees.{expr as tree, word, global, param}
use Rattle.mm_parse_expr.specs.reading.ExprReading.{Reader, is_close, is_close_bracket, close, close_bracket, name_word}
use Rattle.mm_grammar.specs.StatementGrammar as st
use Rattle.mm_grammar.specs.StatementGrammar.{AreNames, IsStar, IsBody}
use Rattle.mm_grammar.specs.ProgramGrammar as g
use Rattle.mm_grammar.specs.ProgramGrammar.{IsConst, AreConsts, IsInit, IsGlobal, AreGlobals, IsMutex, AreMutexes, IsOptional, IsParam, AreParams, IsParams, IsThreadParams, AreQuals, IsItem, AreItems, IsProgram, number_at}
use Rattle.mm_grammar.specs.reading.StatementReading.{semicolon, open_mark, int_word, is_semicolon, is_open, is_int, others, list, star, name_item, body}
use Rattle.mm_grammar.specs.reading.ProgramReading as r
use Rattle.mm_grammar.specs.reading.ProgramReading.{is_open_brace, is_close_brace, is_initializer}
use Rattle.mm_grammar.proofs.MarkSound.{Tells, tells_close, tells_semicolon, tells_open, tells_int, sound_mark, sound_until, sound_name, sound_until_name, others_sound, list_sound}
use Rattle.mm_grammar.proofs.StatementSound.{SoundMaybe, star_sound, names_sound, inner_sound}

-- ---- one terminal

tells_close_bracket : Tells is_close_bracket CloseBracket
tells_close_bracket CloseBracket e = refl
tells_close_bracket _ e = cc

tells_open_brace : Tells is_open_brace OpenBrace
tells_open_brace OpenBrace e = refl
tells_open_brace _ e = cc

tells_close_brace : Tells is_close_brace CloseBrace
tells_close_brace CloseBrace e = refl
tells_close_brace _ e = cc

tells_initializer : Tells is_initializer (Keyword reserved.MutexInitializer)
tells_initializer (Keyword reserved.MutexInitializer) e = refl
tells_initializer _ e = cc

number_sound : {B : Type 0} (K : List Terminal → B → List Terminal → Type 0) (f : ℤ → Reader B) → ((n : ℤ) (p : At) (x : List ℕ) (rest : List Terminal) → SoundAt (K (terminal (Number n) p x ∷ rest)) (f n rest)) → (ts : List Terminal) → SoundAt (K ts) ((r.number >>= f) ts)
unfolding r.number token peek fail skip pure
number_sound K f k [] = tt
number_sound {B = B} K f k (t ∷ ts) = by t.symbol t.at t.spelling
  where
    by : (s : Symbol) (p : At) (x : List ℕ) → SoundAt (K (terminal s p x ∷ ts)) ((r.number >>= f) (terminal s p x ∷ ts))
    by (Number n) p x = k n p x ts
    by _ p x = tt

number_expr_sound : {B : Type 0} (K : List Terminal → B → List Terminal → Type 0) (f : Expr → Reader B) → ((n : ℤ) (p : At) (x : List ℕ) (rest : List Terminal) → SoundAt (K (terminal (Number n) p x ∷ rest)) (f (number_at p n) rest)) → (ts : List Terminal) → SoundAt (K ts) ((r.number_expr >>= f) ts)
unfolding r.number_expr token peek fail skip pure
number_expr_sound K f k [] = tt
number_expr_sound {B = B} K f k (t ∷ ts) = by t.symbol t.at t.spelling
  where
    by : (s : Symbol) (p : At) (x : List ℕ) → SoundAt (K (terminal s p x ∷ ts)) ((r.number_expr >>= f) (terminal s p x ∷ ts))
    by (Number n) p x = k n p x ts
    by _ p x = tt

-- ---- initialisers

const_by_sound : (s : Symbol) (p : At) (x : List ℕ) (ts : List Terminal) → SoundAt (λ e rest. IsConst (terminal s p x ∷ ts) e rest) (r.const_by s (terminal s p x) (terminal s p x ∷ ts))
unfolding skip pure fail
const_by_sound (Number n) p x ts = g.number
const_by_sound (Operator binary.Sub) p x ts = number_sound (λ ts e rest. IsConst (terminal (Operator binary.Sub) p x ∷ ts) e rest) (λ n. pure (number_at p (int_wrapping_neg w32 n))) (λ n q y rest. g.negated) ts
const_by_sound _ p x ts = tt

const_sound : (n : ℕ) (ts : List Terminal) → SoundAt (λ e rest. IsConst ts e rest) (r.const_item n ts)
unfolding r.const peek fail
const_sound n [] = tt
const_sound n (t ∷ ts) = const_by_sound t.symbol t.at t.spelling ts

consts_sound : (n : ℕ) (ts : List Terminal) → SoundAt (λ es rest. AreConsts ts es rest) (list r.const_item n ts)
consts_sound n ts = list_sound (λ ts e rest. IsConst ts e rest) (λ ts es rest. AreConsts ts es rest) (λ ts e rest d. g.last_const d) (λ ts e p x us es rest d m. g.more_consts d m) r.const_item const_sound n ts

address_sound : (p : At) (x : List ℕ) (ts : List Terminal) → SoundAt (λ e rest. IsInit (terminal (Operator binary.And) p x ∷ ts) e rest) (r.address (terminal (Operator binary.And) p x) ts)
unfolding r.address peek skip pure close_bracket
address_sound p x ts = sound_name (λ ts e rest. IsInit (terminal (Operator binary.And) p x ∷ ts) e rest) (λ w. peek (r.address_at (terminal (Operator binary.And) p x) w)) behind ts
  where
    by : (q : At) (y : List ℕ) (us : List Terminal) (s : Symbol) (j : At) (z : List ℕ) → SoundAt (λ e rest. IsInit (terminal (Operator binary.And) p x ∷ terminal Name q y ∷ terminal s j z ∷ us) e rest) (r.address_by (terminal (Operator binary.And) p x) (word q y) s (terminal s j z ∷ us))
    by q y us OpenBracket j z = number_expr_sound (λ us e rest. IsInit (terminal (Operator binary.And) p x ∷ terminal Name q y ∷ terminal OpenBracket j z ∷ us) e rest) (λ e. close_bracket >> pure (tree p (node.AddrIndex (word q y) e)))
        (λ n k w vs. sound_mark is_close_bracket CloseBracket tells_close_bracket (λ vs e rest. IsInit (terminal (Operator binary.And) p x ∷ terminal Name q y ∷ terminal OpenBracket j z ∷ terminal (Number n) k w ∷ vs) e rest) (pure (tree p (node.AddrIndex (word q y) (number_at k n)))) (λ i v rest. g.element_address) vs) us
    by q y us _ j z = g.address

    behind : (q : At) (y : List ℕ) (us : List Terminal) → SoundAt (λ e rest. IsInit (terminal (Operator binary.And) p x ∷ terminal Name q y ∷ us) e rest) (peek (r.address_at (terminal (Operator binary.And) p x) (word q y)) us)
    behind q y [] = g.address
    behind q y (t ∷ us) = by q y us t.symbol t.at t.spelling

init_sound : (ts : List Terminal) → SoundAt (λ e rest. IsInit ts e rest) (r.init ts)
unfolding r.init peek fail skip pure
init_sound [] = tt
init_sound (t ∷ ts) = by t.symbol t.at t.spelling
  where
    by : (s : Symbol) (p : At) (x : List ℕ) → SoundAt (λ e rest. IsInit (terminal s p x ∷ ts) e rest) (r.init_by s (terminal s p x) (terminal s p x ∷ ts))
    by Null p x = g.null
    by (Operator binary.And) p x = address_sound p x ts
    by s p x = sound_weaken (λ e rest. IsConst (terminal s p x ∷ ts) e rest) (λ e rest. IsInit (terminal s p x ∷ ts) e rest) (r.const_by s (terminal s p x) (terminal s p x ∷ ts)) (const_by_sound s p x ts) (λ e rest d. g.constant d)

-- ---- globals

scalar_by_sound : (ts : List Terminal) (b : Bool) (p : At) (x : List ℕ) (s : Symbol) (q : At) (y : List ℕ) (us : List Terminal) → IsStar ts b (terminal Name p x ∷ terminal s q y ∷ us) → SoundAt (λ v rest. IsGlobal ts v rest) (r.scalar_by b (word p x) s (terminal s q y ∷ us))
unfolding skip pure
scalar_by_sound ts b p x Assign q y us d = sound_after (λ e rest. IsInit us e rest) (λ v rest. IsGlobal ts v rest) (r.init us) (λ e. pure (global p b x None (e ∷ []))) (init_sound us) (λ e rest f. g.set_variable d f)
scalar_by_sound ts b p x _ q y us d = g.variable d

scalar_sound : (ts : List Terminal) (b : Bool) (p : At) (x : List ℕ) (mid : List Terminal) → IsStar ts b (terminal Name p x ∷ mid) → SoundAt (λ v rest. IsGlobal ts v rest) (r.scalar b (word p x) mid)
unfolding r.scalar peek pure
scalar_sound ts b p x [] d = g.variable d
scalar_sound ts b p x (t ∷ us) d = scalar_by_sound ts b p x t.symbol t.at t.spelling us d

array_sound : (n : ℕ) (p q : At) (x y : List ℕ) (ts : List Terminal) → SoundAt (λ v rest. IsGlobal (terminal Name p x ∷ terminal OpenBracket q y ∷ ts) v rest) (r.array n (word p x) ts)
unfolding r.array close_bracket peek skip pure r.open_brace r.close_brace
array_sound n p q x y ts = number_sound (λ ts v rest. IsGlobal (terminal Name p x ∷ terminal OpenBracket q y ∷ ts) v rest) (λ k. close_bracket >> peek (r.elements_at n (word p x) k))
    (λ k i z us. sound_mark is_close_bracket CloseBracket tells_close_bracket (λ us v rest. IsGlobal (terminal Name p x ∷ terminal OpenBracket q y ∷ terminal (Number k) i z ∷ us) v rest) (peek (r.elements_at n (word p x) k)) (λ j w vs. elements k i j z w vs) us) ts
  where
    elements : (k : ℤ) (i j : At) (z w : List ℕ) (vs : List Terminal) → SoundAt (λ v rest. IsGlobal (terminal Name p x ∷ terminal OpenBracket q y ∷ terminal (Number k) i z ∷ terminal CloseBracket j w ∷ vs) v rest) (peek (r.elements_at n (word p x) k) vs)
    elements k i j z w [] = g.array
    elements k i j z w (t ∷ vs) = by t.symbol t.at t.spelling
      where
        by : (s : Symbol) (l : At) (v : List ℕ) → SoundAt (λ u rest. IsGlobal (terminal Name p x ∷ terminal OpenBracket q y ∷ terminal (Number k) i z ∷ terminal CloseBracket j w ∷ terminal s l v ∷ vs) u rest) (r.elements_by n (word p x) k s (terminal s l v ∷ vs))
        by Assign l v = sound_mark is_open_brace OpenBrace tells_open_brace (λ vs u rest. IsGlobal (terminal Name p x ∷ terminal OpenBracket q y ∷ terminal (Number k) i z ∷ terminal CloseBracket j w ∷ terminal Assign l v ∷ vs) u rest) _
            (λ m a ws. sound_until is_close_brace CloseBrace tells_close_brace (λ es rest. AreConsts ws es rest) (λ u rest. IsGlobal (terminal Name p x ∷ terminal OpenBracket q y ∷ terminal (Number k) i z ∷ terminal CloseBracket j w ∷ terminal Assign l v ∷ terminal OpenBrace m a ∷ ws) u rest) (list r.const_item n ws) (λ es. pure (global p false x (Some k) es)) (consts_sound n ws) (λ es o b rest d. g.set_array d)) vs
        by _ l v = g.array

plain_sound : (n : ℕ) (p : At) (x : List ℕ) (ts : List Terminal) → SoundAt (λ v rest. IsGlobal (terminal Name p x ∷ ts) v rest) (r.plain n (word p x) ts)
unfolding r.plain peek skip pure
plain_sound n p x [] = g.variable st.no_star
plain_sound n p x (t ∷ ts) = by t.symbol t.at t.spelling
  where
    by : (k : Symbol) (q : At) (y : List ℕ) → SoundAt (λ v rest. IsGlobal (terminal Name p x ∷ terminal k q y ∷ ts) v rest) (r.plain_by n (word p x) k (terminal k q y ∷ ts))
    by OpenBracket q y = array_sound n p q x y ts
    by k q y = scalar_by_sound (terminal Name p x ∷ terminal k q y ∷ ts) false p x k q y ts st.no_star

no_star_same : {ts rest : List Terminal} → IsStar ts false rest → ts ≡ rest
no_star_same st.no_star = refl

variable_sound : (n : ℕ) (ts : List Terminal) (b : Bool) (p : At) (x : List ℕ) (mid : List Terminal) → IsStar ts b (terminal Name p x ∷ mid) → SoundAt (λ v rest. IsGlobal ts v rest) (r.variable n b (word p x) mid)
variable_sound n ts true p x mid d = scalar_sound ts true p x mid d
variable_sound n ts false p x mid d = subst (λ (us : List Terminal). SoundAt (λ v rest. IsGlobal us v rest) (r.plain n (word p x) mid)) (sym (no_star_same d)) (plain_sound n p x mid)

global_sound : (n : ℕ) (ts : List Terminal) → SoundAt (λ v rest. IsGlobal ts v rest) (r.global_item n ts)
unfolding r.global_item
global_sound n ts = sound_until_name (λ b rest. IsStar ts b rest) (λ v rest. IsGlobal ts v rest) (star ts) (λ b w. r.variable n b w) (star_sound ts) (λ b p x mid d. variable_sound n ts b p x mid d)

mutex_sound : (n : ℕ) (ts : List Terminal) → SoundAt (λ w rest. IsMutex ts w rest) (r.mutex_item n ts)
unfolding r.mutex_item peek skip pure r.initializer
mutex_sound n ts = sound_name (λ ts w rest. IsMutex ts w rest) (λ w. peek (r.mutex_at w)) behind ts
  where
    behind : (p : At) (x : List ℕ) (us : List Terminal) → SoundAt (λ w rest. IsMutex (terminal Name p x ∷ us) w rest) (peek (r.mutex_at (word p x)) us)
    behind p x [] = g.mutex
    behind p x (t ∷ us) = by t.symbol t.at t.spelling
      where
        by : (k : Symbol) (q : At) (y : List ℕ) → SoundAt (λ w rest. IsMutex (terminal Name p x ∷ terminal k q y ∷ us) w rest) (r.mutex_by (word p x) k (terminal k q y ∷ us))
        by Assign q y = sound_mark is_initializer (Keyword reserved.MutexInitializer) tells_initializer (λ us w rest. IsMutex (terminal Name p x ∷ terminal Assign q y ∷ us) w rest) (pure (word p x)) (λ i z rest. g.set_mutex) us
        by _ q y = g.mutex

-- ---- functions

-- a block behind what N says
function_sound : (n : ℕ) (N : List Terminal → Type 0) (K : Item → List Terminal → Type 0) (kind : Gives) (w : Word) (ps : List Param) (mid : List Terminal) → N mid → ((q : At) (y : List ℕ) (ws : List Terminal) (ss : List Stmt) (rest : List Terminal) → N (terminal OpenBrace q y ∷ ws) → IsBody ws ss rest → K (item.Function w.at kind w.name ps ss) rest) → SoundAt K (r.function n kind w ps mid)
unfolding r.function r.open_brace pure
function_sound n N K kind w ps mid d k = sound_until is_open_brace OpenBrace tells_open_brace (λ (u : Unit {0}) rest. N rest) K (Parsed tt mid) (λ u. body n >>= λ ss. pure (item.Function w.at kind w.name ps ss)) d
    (λ u q y ws d. sound_after (λ ss rest. IsBody ws ss rest) K (body n ws) (λ ss. pure (item.Function w.at kind w.name ps ss)) ((inner_sound n).body ws) (λ ss rest f. k q y ws ss rest d f))

param_sound : (n : ℕ) (ts : List Terminal) → SoundAt (λ a rest. IsParam ts a rest) (r.param_item n ts)
unfolding r.param_item int_word pure
param_sound n ts = sound_mark is_int (Keyword reserved.Int) tells_int (λ ts a rest. IsParam ts a rest) (star >>= λ b. name_word >>= λ w. pure (param b w.at w.name))
    (λ p x us. sound_until_name (λ b rest. IsStar us b rest) (λ a rest. IsParam (terminal (Keyword reserved.Int) p x ∷ us) a rest) (star us) (λ b w. pure (param b w.at w.name)) (star_sound us) (λ b q y rest d. g.one_param d)) ts

params_list_sound : (n : ℕ) (ts : List Terminal) → SoundAt (λ ps rest. AreParams ts ps rest) (list r.param_item n ts)
params_list_sound n ts = list_sound (λ ts a rest. IsParam ts a rest) (λ ts ps rest. AreParams ts ps rest) (λ ts a rest d. g.last_param d) (λ ts a p x us ps rest d m. g.more_params d m) r.param_item param_sound n ts

params_sound : (n : ℕ) (q : At) (y : List ℕ) (ts : List Terminal) → SoundAt (λ ps rest. IsParams (terminal Open q y ∷ ts) ps rest) (r.params n ts)
unfolding r.params peek fail skip pure close
params_sound n q y [] = tt
params_sound n q y (t ∷ ts) = by t.symbol t.at t.spelling
  where
    by : (k : Symbol) (p : At) (x : List ℕ) → SoundAt (λ ps rest. IsParams (terminal Open q y ∷ terminal k p x ∷ ts) ps rest) (r.params_by n k (terminal k p x ∷ ts))
    by Close p x = g.no_params g.absent
    by (Keyword reserved.Void) p x = sound_mark is_close Close tells_close (λ ts ps rest. IsParams (terminal Open q y ∷ terminal (Keyword reserved.Void) p x ∷ ts) ps rest) (pure []) (λ i z rest. g.no_params g.present) ts
    by k p x = sound_until is_close Close tells_close (λ ps rest. AreParams (terminal k p x ∷ ts) ps rest) (λ ps rest. IsParams (terminal Open q y ∷ terminal k p x ∷ ts) ps rest) (list r.param_item n (terminal k p x ∷ ts)) (λ ps. pure ps) (params_list_sound n (terminal k p x ∷ ts)) (λ ps i z rest d. g.params d)

thread_params_sound : (q : At) (y : List ℕ) (ts : List Terminal) → SoundAt (λ ps rest. IsThreadParams (terminal Open q y ∷ ts) ps rest) (r.thread_params ts)
unfolding r.thread_params peek fail skip pure close
thread_params_sound q y [] = tt
thread_params_sound q y (t ∷ ts) = by t.symbol t.at t.spelling
  where
    name_of : (p i : At) (x z : List ℕ) (ts : List Terminal) → SoundAt (λ ps rest. IsThreadParams (terminal Open q y ∷ terminal (Keyword reserved.Void) p x ∷ terminal (Operator binary.Mul) i z ∷ ts) ps rest) (peek r.name_of_param_at ts)
    name_of p i x z [] = tt
    name_of p i x z (t ∷ ts) = by_name t.symbol t.at t.spelling
      where
        by_name : (k : Symbol) (j : At) (w : List ℕ) → SoundAt (λ ps rest. IsThreadParams (terminal Open q y ∷ terminal (Keyword reserved.Void) p x ∷ terminal (Operator binary.Mul) i z ∷ terminal k j w ∷ ts) ps rest) (r.name_of_param_by k (terminal k j w) (terminal k j w ∷ ts))
        by_name Close j w = g.nameless_param
        by_name Name j w = sound_mark is_close Close tells_close (λ ts ps rest. IsThreadParams (terminal Open q y ∷ terminal (Keyword reserved.Void) p x ∷ terminal (Operator binary.Mul) i z ∷ terminal Name j w ∷ ts) ps rest) (pure (param true j w ∷ [])) (λ l v rest. g.thread_param) ts
        by_name _ j w = tt

    behind_void : (p : At) (x : List ℕ) (ts : List Terminal) → SoundAt (λ ps rest. IsThreadParams (terminal Open q y ∷ terminal (Keyword reserved.Void) p x ∷ ts) ps rest) (peek r.behind_void_at ts)
    behind_void p x [] = tt
    behind_void p x (t ∷ ts) = by_next t.symbol t.at t.spelling
      where
        by_next : (k : Symbol) (j : At) (w : List ℕ) → SoundAt (λ ps rest. IsThreadParams (terminal Open q y ∷ terminal (Keyword reserved.Void) p x ∷ terminal k j w ∷ ts) ps rest) (r.behind_void_by k (terminal k j w ∷ ts))
        by_next Close j w = g.no_thread_params g.present
        by_next (Operator binary.Mul) j w = name_of p j x w ts
        by_next _ j w = tt

    by : (k : Symbol) (p : At) (x : List ℕ) → SoundAt (λ ps rest. IsThreadParams (terminal Open q y ∷ terminal k p x ∷ ts) ps rest) (r.thread_params_by k (terminal k p x ∷ ts))
    by Close p x = g.no_thread_params g.absent
    by (Keyword reserved.Void) p x = behind_void p x ts
    by _ p x = tt

with_params_sound : (n : ℕ) (kind : Gives) (K : Item → List Terminal → Type 0) (p q : At) (x y : List ℕ) (ts : List Terminal) → ((ps : List Param) (i : At) (z : List ℕ) (ws : List Terminal) (ss : List Stmt) (rest : List Terminal) → IsParams (terminal Open q y ∷ ts) ps (terminal OpenBrace i z ∷ ws) → IsBody ws ss rest → K (item.Function p kind x ps ss) rest) → SoundAt K (r.with_params n kind (word p x) ts)
unfolding r.with_params
with_params_sound n kind K p q x y ts k = sound_after (λ ps mid. IsParams (terminal Open q y ∷ ts) ps mid) K (r.params n ts) (λ ps. r.function n kind (word p x) ps) (params_sound n q y ts)
    (λ ps mid d. function_sound n (λ mid. IsParams (terminal Open q y ∷ ts) ps mid) K kind (word p x) ps mid d (λ i z ws ss rest d f. k ps i z ws ss rest d f))

-- ---- items that begin with a type

-- the item may be a function: what stands before its type is one "static" or nothing
abbrev MayRun : Bool → List Terminal → List Terminal → Type 0
MayRun true all ts = IsOptional reserved.Static all ts
MayRun false all ts = Unit {0}

-- the item may declare an input: nothing stands before its type
abbrev MayAsk : Bool → List Terminal → List Terminal → Type 0
MayAsk true all ts = IsOptional reserved.Extern all ts
MayAsk false all ts = Unit {0}

module _ (n : ℕ) (all : List Terminal) where
  abbrev InAll : Item → List Terminal → Type 0
  InAll i rest = IsItem all i rest

  thread_function_sound : (p q : At) (x y : List ℕ) (ts : List Terminal) → IsOptional reserved.Static all (terminal (Keyword reserved.Void) p x ∷ terminal (Operator binary.Mul) q y ∷ ts) → SoundAt InAll (r.thread_function n ts)
  unfolding r.thread_function open_mark
  thread_function_sound p q x y ts d = sound_until_name (λ (u : Unit {0}) rest. IsOptional reserved.Static all (terminal (Keyword reserved.Void) p x ∷ terminal (Operator binary.Mul) q y ∷ rest)) InAll (Parsed tt ts) (λ u w. open_mark >> (r.thread_params >>= r.function n gives.Thread w)) d
      (λ u i z us d. sound_until is_open Open tells_open (λ (u : Unit {0}) rest. IsOptional reserved.Static all (terminal (Keyword reserved.Void) p x ∷ terminal (Operator binary.Mul) q y ∷ terminal Name i z ∷ rest)) InAll (Parsed tt us) (λ u. r.thread_params >>= r.function n gives.Thread (word i z)) d
      (λ u j w vs d. sound_after (λ ps mid. IsThreadParams (terminal Open j w ∷ vs) ps mid) InAll (r.thread_params vs) (r.function n gives.Thread (word i z)) (thread_params_sound j w vs)
      (λ ps mid f. function_sound n (λ mid. IsThreadParams (terminal Open j w ∷ vs) ps mid) InAll gives.Thread (word i z) ps mid f (λ k a ws ss rest f h. g.thread_function d f h))))

  nothing_function_sound : (p : At) (x : List ℕ) (ts : List Terminal) → IsOptional reserved.Static all (terminal (Keyword reserved.Void) p x ∷ ts) → SoundAt InAll ((name_word >>= λ w. open_mark >> r.with_params n gives.Nothing w) ts)
  unfolding open_mark
  nothing_function_sound p x ts d = sound_until_name (λ (u : Unit {0}) rest. IsOptional reserved.Static all (terminal (Keyword reserved.Void) p x ∷ rest)) InAll (Parsed tt ts) (λ u w. open_mark >> r.with_params n gives.Nothing w) d
      (λ u i z us d. sound_until is_open Open tells_open (λ (u : Unit {0}) rest. IsOptional reserved.Static all (terminal (Keyword reserved.Void) p x ∷ terminal Name i z ∷ rest)) InAll (Parsed tt us) (λ u. r.with_params n gives.Nothing (word i z)) d
      (λ u j w vs d. with_params_sound n gives.Nothing InAll i j z w vs (λ ps k a ws ss rest f h. g.function d g.gives_nothing f h)))

  void_sound : (p : At) (x : List ℕ) (ts : List Terminal) → IsOptional reserved.Static all (terminal (Keyword reserved.Void) p x ∷ ts) → SoundAt InAll (r.void_item n ts)
  unfolding r.void_item peek fail skip
  void_sound p x [] d = tt
  void_sound p x (t ∷ ts) d = by t.symbol t.at t.spelling d
    where
      by : (k : Symbol) (q : At) (y : List ℕ) → IsOptional reserved.Static all (terminal (Keyword reserved.Void) p x ∷ terminal k q y ∷ ts) → SoundAt InAll (r.void_by n k (terminal k q y ∷ ts))
      by (Operator binary.Mul) q y d = thread_function_sound p q x y ts d
      by k q y d = nothing_function_sound p x (terminal k q y ∷ ts) d

  globals_sound : (p : At) (x : List ℕ) (us : List Terminal) (o : Outcome Terminal Global) → AreQuals all (terminal (Keyword reserved.Int) p x ∷ us) → SoundAt (λ v rest. IsGlobal us v rest) o → SoundAt InAll (after o (λ v. others r.global_item n >>= λ vs. semicolon >> pure (item.Globals (v ∷ vs))))
  unfolding semicolon pure
  globals_sound p x us o d h = sound_after (λ v rest. IsGlobal us v rest) InAll o (λ v. others r.global_item n >>= λ vs. semicolon >> pure (item.Globals (v ∷ vs))) h
      (λ v mid f. sound_until is_semicolon Semicolon tells_semicolon (λ vs rest. AreGlobals us (v ∷ vs) rest) InAll (others r.global_item n mid) (λ vs. pure (item.Globals (v ∷ vs)))
      (others_sound (λ ts v rest. IsGlobal ts v rest) (λ ts vs rest. AreGlobals ts vs rest) (λ ts v rest d. g.last_global d) (λ ts v p x us vs rest d m. g.more_globals d m) r.global_item global_sound n us v mid f)
      (λ vs q y rest m. g.globals d m))

  -- behind "int" NAME "(" [ "void" ] ")"
  no_params_sound : (may_ask : Bool) (p i j k : At) (x z w v : List ℕ) (us mid : List Terminal) → MayAsk may_ask all (terminal (Keyword reserved.Int) p x ∷ terminal Name i z ∷ terminal Open j w ∷ us) → IsOptional reserved.Static all (terminal (Keyword reserved.Int) p x ∷ terminal Name i z ∷ terminal Open j w ∷ us) → IsOptional reserved.Void us (terminal Close k v ∷ mid) → SoundAt InAll (r.no_params n may_ask (word i z) mid)
  unfolding r.no_params peek fail skip pure
  no_params_sound may_ask p i j k x z w v us [] ask run d = tt
  no_params_sound may_ask p i j k x z w v us (t ∷ ts) ask run d = by may_ask t.symbol t.at t.spelling ask d
    where
      by : (may_ask : Bool) (s : Symbol) (q : At) (y : List ℕ) → MayAsk may_ask all (terminal (Keyword reserved.Int) p x ∷ terminal Name i z ∷ terminal Open j w ∷ us) → IsOptional reserved.Void us (terminal Close k v ∷ terminal s q y ∷ ts) → SoundAt InAll (r.no_params_by n may_ask (word i z) s (terminal s q y ∷ ts))
      by true Semicolon q y ask d = g.input ask d
      by false Semicolon q y ask d = tt
      by may_ask s q y ask d = function_sound n (λ mid. IsOptional reserved.Void us (terminal Close k v ∷ mid)) InAll gives.Int (word i z) [] (terminal s q y ∷ ts) d (λ l a ws ss rest d f. g.function run g.gives_int (g.no_params d) f)

  asked_sound : (may_ask : Bool) (p i j : At) (x z w : List ℕ) (us : List Terminal) → MayAsk may_ask all (terminal (Keyword reserved.Int) p x ∷ terminal Name i z ∷ terminal Open j w ∷ us) → IsOptional reserved.Static all (terminal (Keyword reserved.Int) p x ∷ terminal Name i z ∷ terminal Open j w ∷ us) → SoundAt InAll (r.asked n may_ask (word i z) us)
  unfolding r.asked peek fail skip close pure
  asked_sound may_ask p i j x z w [] ask run = tt
  asked_sound may_ask p i j x z w (t ∷ ts) ask run = by t.symbol t.at t.spelling ask run
    where
      by : (s : Symbol) (q : At) (y : List ℕ) → MayAsk may_ask all (terminal (Keyword reserved.Int) p x ∷ terminal Name i z ∷ terminal Open j w ∷ terminal s q y ∷ ts) → IsOptional reserved.Static all (terminal (Keyword reserved.Int) p x ∷ terminal Name i z ∷ terminal Open j w ∷ terminal s q y ∷ ts) → SoundAt InAll (r.asked_by n may_ask (word i z) s (terminal s q y ∷ ts))
      by Close q y ask run = no_params_sound may_ask p i j q x z w y (terminal Close q y ∷ ts) ts ask run g.absent
      by (Keyword reserved.Void) q y ask run = sound_until is_close Close tells_close (λ (u : Unit {0}) rest. IsOptional reserved.Void (terminal (Keyword reserved.Void) q y ∷ ts) rest) InAll (Parsed tt ts) (λ u. r.no_params n may_ask (word i z)) g.present
          (λ u k v mid d. no_params_sound may_ask p i j k x z w v (terminal (Keyword reserved.Void) q y ∷ ts) mid ask run d)
      by s q y ask run = sound_until is_close Close tells_close (λ ps rest. AreParams (terminal s q y ∷ ts) ps rest) InAll (list r.param_item n (terminal s q y ∷ ts)) (λ ps. r.function n gives.Int (word i z) ps) (params_list_sound n (terminal s q y ∷ ts))
          (λ ps k v mid d. function_sound n (λ mid. IsParams (terminal Open j w ∷ terminal s q y ∷ ts) ps mid) InAll gives.Int (word i z) ps mid (g.params d) (λ l a ws ss rest f h. g.function run g.gives_int f h))

  int_named_sound : (may_ask may_run : Bool) (p i : At) (x z : List ℕ) (us : List Terminal) → AreQuals all (terminal (Keyword reserved.Int) p x ∷ terminal Name i z ∷ us) → MayAsk may_ask all (terminal (Keyword reserved.Int) p x ∷ terminal Name i z ∷ us) → MayRun may_run all (terminal (Keyword reserved.Int) p x ∷ terminal Name i z ∷ us) → SoundAt InAll (peek (r.int_named_at n may_ask may_run (word i z)) us)
  unfolding peek fail skip r.globals
  int_named_sound may_ask may_run p i x z [] quals ask run = tt
  int_named_sound may_ask may_run p i x z (t ∷ ts) quals ask run = by may_run t.symbol t.at t.spelling quals ask run
    where
      by : (may_run : Bool) (s : Symbol) (q : At) (y : List ℕ) → AreQuals all (terminal (Keyword reserved.Int) p x ∷ terminal Name i z ∷ terminal s q y ∷ ts) → MayAsk may_ask all (terminal (Keyword reserved.Int) p x ∷ terminal Name i z ∷ terminal s q y ∷ ts) → MayRun may_run all (terminal (Keyword reserved.Int) p x ∷ terminal Name i z ∷ terminal s q y ∷ ts) → SoundAt InAll (r.int_named_by n may_ask may_run (word i z) s (terminal s q y ∷ ts))
      by true Open q y quals ask run = asked_sound may_ask p i q x z y ts ask run
      by false Open q y quals ask run = tt
      by may_run s q y quals ask run = globals_sound p x (terminal Name i z ∷ terminal s q y ∷ ts) (r.plain n (word i z) (terminal s q y ∷ ts)) quals (plain_sound n i z (terminal s q y ∷ ts))

  pointer_sound : (may_run : Bool) (p o i : At) (x a z : List ℕ) (us : List Terminal) → AreQuals all (terminal (Keyword reserved.Int) p x ∷ terminal (Operator binary.Mul) o a ∷ terminal Name i z ∷ us) → MayRun may_run all (terminal (Keyword reserved.Int) p x ∷ terminal (Operator binary.Mul) o a ∷ terminal Name i z ∷ us) → SoundAt InAll (peek (r.pointer_at n may_run (word i z)) us)
  unfolding peek fail skip r.globals
  pointer_sound may_run p o i x a z [] quals run = tt
  pointer_sound may_run p o i x a z (t ∷ ts) quals run = by may_run t.symbol t.at t.spelling quals run
    where
      by : (may_run : Bool) (s : Symbol) (q : At) (y : List ℕ) → AreQuals all (terminal (Keyword reserved.Int) p x ∷ terminal (Operator binary.Mul) o a ∷ terminal Name i z ∷ terminal s q y ∷ ts) → MayRun may_run all (terminal (Keyword reserved.Int) p x ∷ terminal (Operator binary.Mul) o a ∷ terminal Name i z ∷ terminal s q y ∷ ts) → SoundAt InAll (r.pointer_by n may_run (word i z) s (terminal s q y ∷ ts))
      by true Open q y quals run = with_params_sound n gives.Pointer InAll i q z y ts (λ ps k b ws ss rest f h. g.function run g.gives_pointer f h)
      by false Open q y quals run = tt
      by may_run s q y quals run = globals_sound p x (terminal (Operator binary.Mul) o a ∷ terminal Name i z ∷ terminal s q y ∷ ts) (r.scalar true (word i z) (terminal s q y ∷ ts)) quals (scalar_sound (terminal (Operator binary.Mul) o a ∷ terminal Name i z ∷ terminal s q y ∷ ts) true i z (terminal s q y ∷ ts) st.star)

  -- what is known of the terminals from "int" on
  record AtInt (may_ask may_run : Bool) (p : At) (x : List ℕ) (ts : List Terminal) : Type 0 where
    quals : AreQuals all (terminal (Keyword reserved.Int) p x ∷ ts)
    ask : MayAsk may_ask all (terminal (Keyword reserved.Int) p x ∷ ts)
    run : MayRun may_run all (terminal (Keyword reserved.Int) p x ∷ ts)

  int_sound : (may_ask may_run : Bool) (p : At) (x : List ℕ) (ts : List Terminal) → AtInt may_ask may_run p x ts → SoundAt InAll (r.int_item n may_ask may_run ts)
  unfolding r.int_item peek fail skip
  int_sound may_ask may_run p x [] h = tt
  int_sound may_ask may_run p x (t ∷ ts) h = by t.symbol t.at t.spelling h
    where
      named : (us : List Terminal) → AtInt may_ask may_run p x us → SoundAt InAll ((name_word >>= λ w. peek (r.int_named_at n may_ask may_run w)) us)
      named us h = sound_until_name (λ (u : Unit {0}) rest. AtInt may_ask may_run p x rest) InAll (Parsed tt us) (λ u w. peek (r.int_named_at n may_ask may_run w)) h
          (λ u i z vs h. int_named_sound may_ask may_run p i x z vs h.quals h.ask h.run)

      by : (s : Symbol) (q : At) (y : List ℕ) → AtInt may_ask may_run p x (terminal s q y ∷ ts) → SoundAt InAll (r.int_by n may_ask may_run s (terminal s q y ∷ ts))
      by (Operator binary.Mul) q y h = sound_until_name (λ (u : Unit {0}) rest. AtInt may_ask may_run p x (terminal (Operator binary.Mul) q y ∷ rest)) InAll (Parsed tt ts) (λ u w. peek (r.pointer_at n may_run w)) h
          (λ u i z vs h. pointer_sound may_run p q i x y z vs h.quals h.run)
      by s q y h = named (terminal s q y ∷ ts) h

  mutexes_sound : (p : At) (x : List ℕ) (ts : List Terminal) → AreQuals all (terminal (Keyword reserved.Mutex) p x ∷ ts) → SoundAt InAll (r.mutexes n ts)
  unfolding r.mutexes semicolon pure
  mutexes_sound p x ts d = sound_until is_semicolon Semicolon tells_semicolon (λ ws rest. AreMutexes ts ws rest) InAll (list r.mutex_item n ts) (λ ws. pure (item.Mutexes ws))
      (list_sound (λ ts w rest. IsMutex ts w rest) (λ ts ws rest. AreMutexes ts ws rest) (λ ts w rest d. g.last_mutex d) (λ ts w p x us ws rest d m. g.more_mutexes d m) r.mutex_item mutex_sound n ts) (λ ws q y rest m. g.mutexes d m)

  threads_sound : (p : At) (x : List ℕ) (ts : List Terminal) → AreQuals all (terminal (Keyword reserved.Thread) p x ∷ ts) → SoundAt InAll (r.threads n ts)
  unfolding r.threads semicolon pure
  threads_sound p x ts d = sound_until is_semicolon Semicolon tells_semicolon (λ ws rest. AreNames ts ws rest) InAll (list name_item n ts) (λ ws. pure (item.Threads ws)) (names_sound n ts) (λ ws q y rest m. g.threads d m)

-- ---- items

static_behind : {all ts : List Terminal} {p : At} {x : List ℕ} (mid : List Terminal) → mid ≡ terminal (Keyword reserved.Static) p x ∷ ts → AreQuals all mid → AreQuals all ts
static_behind {ts = ts} {p = p} {x = x} mid e g.no_quals = subst (λ (us : List Terminal). AreQuals us ts) (sym e) (g.static g.no_quals)
static_behind mid e (g.static d) = g.static (static_behind mid e d)
static_behind mid e (g.volatile d) = g.volatile (static_behind mid e d)

volatile_behind : {all ts : List Terminal} {p : At} {x : List ℕ} (mid : List Terminal) → mid ≡ terminal (Keyword reserved.Volatile) p x ∷ ts → AreQuals all mid → AreQuals all ts
volatile_behind {ts = ts} {p = p} {x = x} mid e g.no_quals = subst (λ (us : List Terminal). AreQuals us ts) (sym e) (g.volatile g.no_quals)
volatile_behind mid e (g.static d) = g.static (volatile_behind mid e d)
volatile_behind mid e (g.volatile d) = g.volatile (volatile_behind mid e d)

qualified_step : (n : ℕ) (all : List Terminal) (inner : Bool → Reader Item) → ((ts : List Terminal) → AreQuals all ts → SoundAt (λ i rest. IsItem all i rest) (inner false ts)) → (may_run : Bool) (ts : List Terminal) → AreQuals all ts → MayRun may_run all ts → SoundAt (λ i rest. IsItem all i rest) (peek (r.qualified_at n inner may_run) ts)
unfolding peek fail skip
qualified_step n all inner k may_run [] quals run = tt
qualified_step n all inner k may_run (t ∷ ts) quals run = by may_run t.symbol t.at t.spelling quals run
  where
    by : (may_run : Bool) (s : Symbol) (p : At) (x : List ℕ) → AreQuals all (terminal s p x ∷ ts) → MayRun may_run all (terminal s p x ∷ ts) → SoundAt (λ i rest. IsItem all i rest) (r.qualified_by n inner may_run s (terminal s p x ∷ ts))
    by may_run (Keyword reserved.Static) p x quals run = k ts (static_behind _ refl quals)
    by may_run (Keyword reserved.Volatile) p x quals run = k ts (volatile_behind _ refl quals)
    by may_run (Keyword reserved.Int) p x quals run = int_sound n all false may_run p x ts (record { quals = quals; ask = tt; run = run })
    by may_run (Keyword reserved.Mutex) p x quals run = mutexes_sound n all p x ts quals
    by may_run (Keyword reserved.Thread) p x quals run = threads_sound n all p x ts quals
    by true (Keyword reserved.Void) p x quals run = void_sound n all p x ts run
    by false (Keyword reserved.Void) p x quals run = tt
    by may_run _ p x quals run = tt

qualified_sound : (n : ℕ) (all : List Terminal) (may_run : Bool) (ts : List Terminal) → AreQuals all ts → MayRun may_run all ts → SoundAt (λ i rest. IsItem all i rest) (r.qualified n may_run ts)
unfolding r.qualified fail
qualified_sound zero all may_run ts quals run = tt
qualified_sound (suc n) all may_run ts quals run = qualified_step n all (r.qualified n) (λ us d. qualified_sound n all false us d tt) may_run ts quals run

void_or_not_sound : (ts : List Terminal) → SoundAt (λ u rest. IsOptional reserved.Void ts rest) (r.void_or_not ts)
unfolding r.void_or_not peek skip pure
void_or_not_sound [] = g.absent
void_or_not_sound (t ∷ ts) = by t.symbol t.at t.spelling
  where
    by : (s : Symbol) (p : At) (x : List ℕ) → SoundAt (λ u rest. IsOptional reserved.Void (terminal s p x ∷ ts) rest) (r.void_or_not_by s (terminal s p x ∷ ts))
    by (Keyword reserved.Void) p x = g.present
    by _ p x = g.absent

external_sound : (p : At) (x : List ℕ) (ts : List Terminal) → SoundAt (λ i rest. IsItem (terminal (Keyword reserved.Extern) p x ∷ ts) i rest) (r.external ts)
unfolding r.external int_word open_mark close semicolon pure
external_sound p x ts = sound_mark is_int (Keyword reserved.Int) tells_int (λ ts i rest. IsItem (terminal (Keyword reserved.Extern) p x ∷ ts) i rest) _
    (λ q y us. sound_name (λ us i rest. IsItem (terminal (Keyword reserved.Extern) p x ∷ terminal (Keyword reserved.Int) q y ∷ us) i rest) (λ w. open_mark >> (r.void_or_not >> (close >> (semicolon >> pure (item.InputDecl w.at w.name)))))
    (λ i z vs. sound_mark is_open Open tells_open (λ vs u rest. IsItem (terminal (Keyword reserved.Extern) p x ∷ terminal (Keyword reserved.Int) q y ∷ terminal Name i z ∷ vs) u rest) _
    (λ j w ws. sound_until is_close Close tells_close (λ u rest. IsOptional reserved.Void ws rest) (λ u rest. IsItem (terminal (Keyword reserved.Extern) p x ∷ terminal (Keyword reserved.Int) q y ∷ terminal Name i z ∷ terminal Open j w ∷ ws) u rest) (r.void_or_not ws) (λ u. semicolon >> pure (item.InputDecl i z)) (void_or_not_sound ws)
    (λ u k v xs d. sound_until is_semicolon Semicolon tells_semicolon (λ (u : Unit {0}) rest. IsOptional reserved.Void ws (terminal Close k v ∷ rest)) (λ u rest. IsItem (terminal (Keyword reserved.Extern) p x ∷ terminal (Keyword reserved.Int) q y ∷ terminal Name i z ∷ terminal Open j w ∷ ws) u rest) (Parsed tt xs) (λ u. pure (item.InputDecl i z)) d
    (λ u l a rest d. g.input g.present d))) vs) us) ts

item_sound : (n : ℕ) (s : Symbol) (p : At) (x : List ℕ) (ts : List Terminal) → SoundMaybe (λ i rest. IsItem (terminal s p x ∷ ts) i rest) (r.item_by n s) ts
item_sound n (Keyword reserved.Extern) p x ts = external_sound p x ts
item_sound n (Keyword reserved.Static) p x ts = qualified_sound n (terminal (Keyword reserved.Static) p x ∷ ts) true ts (g.static g.no_quals) g.present
item_sound n (Keyword reserved.Volatile) p x ts = qualified_sound n (terminal (Keyword reserved.Volatile) p x ∷ ts) false ts (g.volatile g.no_quals) tt
item_sound n (Keyword reserved.Int) p x ts = int_sound n (terminal (Keyword reserved.Int) p x ∷ ts) true true p x ts (record { quals = g.no_quals; ask = g.absent; run = g.absent })
item_sound n (Keyword reserved.Mutex) p x ts = mutexes_sound n (terminal (Keyword reserved.Mutex) p x ∷ ts) p x ts g.no_quals
item_sound n (Keyword reserved.Thread) p x ts = threads_sound n (terminal (Keyword reserved.Thread) p x ∷ ts) p x ts g.no_quals
item_sound n (Keyword reserved.Void) p x ts = void_sound n (terminal (Keyword reserved.Void) p x ∷ ts) p x ts g.absent
item_sound n _ p x ts = tt

items_begun_sound : (s : Symbol) (p : At) (x : List ℕ) (ts : List Terminal) (o : Option (Reader Item)) (inner : Reader (List Item)) → SoundMaybe (λ i rest. IsItem (terminal s p x ∷ ts) i rest) o ts → ((us : List Terminal) → SoundAt (λ is rest. AreItems us is rest) (inner us)) → SoundAt (λ is rest. AreItems (terminal s p x ∷ ts) is rest) (r.items_begun o inner (terminal s p x ∷ ts))
unfolding fail skip pure
items_begun_sound s p x ts None inner h k = tt
items_begun_sound s p x ts (Some q) inner h k = sound_after (λ i mid. IsItem (terminal s p x ∷ ts) i mid) _ (q ts) (λ i. inner >>= λ is. pure (i ∷ is)) h
    (λ i mid d. sound_after (λ is rest. AreItems mid is rest) (λ is rest. AreItems (terminal s p x ∷ ts) is rest) (inner mid) (λ is. pure (i ∷ is)) (k mid) (λ is rest f. g.more_items d f))

items_sound : (n : ℕ) (ts : List Terminal) → SoundAt (λ is rest. AreItems ts is rest) (r.items n ts)
unfolding r.items peek fail pure
items_sound zero ts = tt
items_sound (suc n) [] = g.no_items
items_sound (suc n) (t ∷ ts) = items_begun_sound t.symbol t.at t.spelling ts (r.item_by n t.symbol) (r.items n) (item_sound n t.symbol t.at t.spelling ts) (items_sound n)

-- what the reader of programs gives is a program
pub program_sound : (n : ℕ) (ts : List Terminal) (program : Tree) → r.program n ts ≡ Parsed program [] → IsProgram ts program
unfolding r.program pure
program_sound n ts program e = subst (λ (o : Outcome Terminal Tree). SoundAt (λ tree rest. AreItems ts tree.items rest) o) e
    (sound_after (λ is rest. AreItems ts is rest) (λ tree rest. AreItems ts tree.items rest) (r.items n ts) (λ is. pure (r.program_of is)) (items_sound n ts) (λ is rest d. d))
