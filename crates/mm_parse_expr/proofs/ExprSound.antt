-- What the readers give is in the grammar.
use Rattle.std.proofs.Common.{◌≡◌, ℕ, zero, suc, ◌==◌, Bool, true, false, if◌then◌else◌, List, [], ◌∷◌, Option, Some, None, refl, sym, ap, subst, arith}
use Rattle.std.proofs.lemmas.Bool.Decides.{nat_tests}
use Rattle.mm_goto.specs.declared.ident.At.{At}
use Rattle.mm_goto.specs.declared.pure.Binary.{Binary}
use Rattle.mm_goto.specs.declared.pure.Binary.TheVariants as bin
use Rattle.mm_goto.specs.declared.pure.Unary.{Unary}
use Rattle.mm_goto.specs.declared.pure.Unary.TheVariants as un
use Rattle.mm_tree.specs.declared.expr.Expr.{Expr}
use Rattle.mm_tree.specs.declared.expr.Node.TheVariants as node
use Rattle.mm_tree.specs.declared.expr.Word.{Word}
use Rattle.mm_reading.specs.Parsing.{◌>>=◌, ◌>>◌, pure, fail, peek, skip, when, after}
use Rattle.mm_reading.proofs.Sounding.{SoundAt, sound_after, sound_weaken, sound_token}
use Rattle.mm_parse_expr.specs.declared.symbol.Symbol.{Symbol}
use Rattle.mm_parse_expr.specs.declared.symbol.Symbol.TheVariants.{Name, Number, Null, Operator, Not, Flip, Question, Colon, Open, Close, OpenBracket, CloseBracket}
use Rattle.mm_parse_expr.specs.declared.terminal.Terminal.{Terminal}
use Rattle.mm_parse_expr.specs.Grammar as g
use Rattle.mm_parse_expr.specs.Grammar.{IsExpr, IsLevel, IsMore, IsUnary, IsPrimary, terminal, binary_tree, choice_tree, looseness}
use Rattle.mm_tree.specs.Trees.{expr as tree, word}
use Rattle.mm_parse_expr.specs.reading.ExprReading.{Reader, Lower, is_close, is_close_bracket, is_colon, close, close_bracket, colon, named, name_word, index_by, index, element_tree, address_tree, primary_by, signed, pointed, address, unary_by, unary, joins, more_by, more_of, more, level, choice_by, choice, expr, lower}

pub record Sound (r : Lower) : Type 0 where
  pub expr : (ts : List Terminal) → SoundAt (λ e rest. IsExpr ts e rest) (r.expr ts)
  pub more : (n : ℕ) (a : Expr) (ts : List Terminal) → SoundAt (λ e rest. IsMore n a ts e rest) (r.more n a ts)
  pub unary : (ts : List Terminal) → SoundAt (λ e rest. IsUnary ts e rest) (r.unary ts)

-- ---- one token

closes : (s : Symbol) → is_close s ≡ true → s ≡ Close
closes Close e = refl
closes _ e = cc

closes_bracket : (s : Symbol) → is_close_bracket s ≡ true → s ≡ CloseBracket
closes_bracket CloseBracket e = refl
closes_bracket _ e = cc

is_a_colon : (s : Symbol) → is_colon s ≡ true → s ≡ Colon
is_a_colon Colon e = refl
is_a_colon _ e = cc

pub holds : (b : Bool) (u : Unit {0}) → when b ≡ Some u → b ≡ true
holds true u e = refl
holds false u e = cc

-- a terminal whose symbol is known
pub as_terminal : (t : Terminal) (s : Symbol) → t.symbol ≡ s → t ≡ terminal s t.at t.spelling
as_terminal t s e = ap (λ s. terminal s t.at t.spelling) e

-- what is taken as a name is one
pub is_a_name : (s : Symbol) (t : Terminal) (w : Word) → named s t ≡ Some w → (s ≡ Name) × (word t.at t.spelling ≡ w)
is_a_name Name t w e = (refl, cc)
is_a_name _ t w e = cc

pub sound_close : {B : Type 0} (K : B → List Terminal → Type 0) (f : Reader B) (ts : List Terminal) → ((p : At) (x : List ℕ) (rest : List Terminal) → ts ≡ terminal Close p x ∷ rest → SoundAt K (f rest)) → SoundAt K ((close >> f) ts)
unfolding close
sound_close K f ts k = sound_token K (λ t. when (is_close t.symbol)) (λ _. f) ts
    (λ t u rest e same. k t.at t.spelling rest (subst (λ (v : Terminal). ts ≡ v ∷ rest) (as_terminal t Close (closes t.symbol (holds _ _ e))) same))

pub sound_close_bracket : {B : Type 0} (K : B → List Terminal → Type 0) (f : Reader B) (ts : List Terminal) → ((p : At) (x : List ℕ) (rest : List Terminal) → ts ≡ terminal CloseBracket p x ∷ rest → SoundAt K (f rest)) → SoundAt K ((close_bracket >> f) ts)
unfolding close_bracket
sound_close_bracket K f ts k = sound_token K (λ t. when (is_close_bracket t.symbol)) (λ _. f) ts
    (λ t u rest e same. k t.at t.spelling rest (subst (λ (v : Terminal). ts ≡ v ∷ rest) (as_terminal t CloseBracket (closes_bracket t.symbol (holds _ _ e))) same))

pub sound_colon : {B : Type 0} (K : B → List Terminal → Type 0) (f : Reader B) (ts : List Terminal) → ((p : At) (x : List ℕ) (rest : List Terminal) → ts ≡ terminal Colon p x ∷ rest → SoundAt K (f rest)) → SoundAt K ((colon >> f) ts)
unfolding colon
sound_colon K f ts k = sound_token K (λ t. when (is_colon t.symbol)) (λ _. f) ts
    (λ t u rest e same. k t.at t.spelling rest (subst (λ (v : Terminal). ts ≡ v ∷ rest) (as_terminal t Colon (is_a_colon t.symbol (holds _ _ e))) same))

-- ---- primary and unary

-- an index in brackets
pub record Bracketed (ts : List Terminal) (e : Expr) (rest : List Terminal) : Type 0 where
  pub open_at : At
  pub open_spelt : List ℕ
  pub close_at : At
  pub close_spelt : List ℕ
  pub inside : List Terminal
  pub begins : ts ≡ terminal OpenBracket open_at open_spelt ∷ inside
  pub index : IsExpr inside e (terminal CloseBracket close_at close_spelt ∷ rest)

-- no index, or one in brackets
abbrev pub HasIndex : List Terminal → Option Expr → List Terminal → Type 0
HasIndex ts None rest = ts ≡ rest
HasIndex ts (Some e) rest = Bracketed ts e rest

same_level : (o op : Binary) (n : ℕ) → (looseness o == n) ≡ true → Some o ≡ Some op → looseness op ≡ n
same_level o op n is e = subst (λ (b : Binary). looseness b ≡ n) (same e) (is_level (looseness o) is)
  where
    same : Some o ≡ Some op → o ≡ op
    same e = cc

    is_level : (k : ℕ) → (k == n) ≡ true → k ≡ n
    is_level k h = grind (arith, nat_tests)

module _ (r : Lower) (S : Sound r) where
  index_by_sound : (s : Symbol) (p : At) (x : List ℕ) (ts : List Terminal) → SoundAt (λ i rest. HasIndex (terminal s p x ∷ ts) i rest) (index_by r s (terminal s p x ∷ ts))
  unfolding skip pure
  index_by_sound OpenBracket p x ts = sound_after (λ e rest. IsExpr ts e rest) _ (r.expr ts) (λ e. close_bracket >> pure (Some e)) (S.expr ts)
      (λ e mid d. sound_close_bracket (λ i rest. HasIndex (terminal OpenBracket p x ∷ ts) i rest) (pure (Some e)) mid (λ q y rest same. record { open_at = p; open_spelt = x; close_at = q; close_spelt = y; inside = ts; begins = refl; index = subst (λ (us : List Terminal). IsExpr ts e us) same d }))
  index_by_sound _ p x ts = refl

  pub index_sound : (ts : List Terminal) → SoundAt (λ i rest. HasIndex ts i rest) (index r ts)
  unfolding index peek pure
  index_sound [] = refl
  index_sound (t ∷ ts) = index_by_sound t.symbol t.at t.spelling ts

  element_of : (p : At) (x : List ℕ) (ts : List Terminal) (i : Option Expr) (rest : List Terminal) → HasIndex ts i rest → IsPrimary (terminal Name p x ∷ ts) (element_tree p x i) rest
  element_of p x ts None rest h = subst (λ (us : List Terminal). IsPrimary (terminal Name p x ∷ ts) (tree p (node.Name x)) us) h g.name
  element_of p x ts (Some e) rest h = subst (λ (us : List Terminal). IsPrimary (terminal Name p x ∷ us) (tree p (node.Index x e)) rest) (sym h.begins) (g.element h.index)

  address_of : (p q : At) (x y : List ℕ) (ts : List Terminal) (i : Option Expr) (rest : List Terminal) → HasIndex ts i rest → IsUnary (terminal (Operator bin.And) p x ∷ terminal Name q y ∷ ts) (address_tree p (word q y) i) rest
  address_of p q x y ts None rest h = subst (λ (us : List Terminal). IsUnary (terminal (Operator bin.And) p x ∷ terminal Name q y ∷ ts) (tree p (node.AddrName (word q y))) us) h g.address
  address_of p q x y ts (Some e) rest h = subst (λ (us : List Terminal). IsUnary (terminal (Operator bin.And) p x ∷ terminal Name q y ∷ us) (tree p (node.AddrIndex (word q y) e)) rest) (sym h.begins) (g.element_address h.index)

  primary_by_sound : (s : Symbol) (p : At) (x : List ℕ) (ts : List Terminal) → SoundAt (λ e rest. IsPrimary (terminal s p x ∷ ts) e rest) (primary_by r s (terminal s p x) (terminal s p x ∷ ts))
  unfolding skip pure fail
  primary_by_sound (Number n) p x ts = g.number
  primary_by_sound Null p x ts = g.null
  primary_by_sound Name p x ts = sound_after (λ i rest. HasIndex ts i rest) _ (index r ts) (λ i. pure (element_tree p x i)) (index_sound ts) (λ i rest h. element_of p x ts i rest h)
  primary_by_sound Open p x ts = sound_after (λ e rest. IsExpr ts e rest) _ (r.expr ts) (λ e. close >> pure e) (S.expr ts)
      (λ e mid d. sound_close (λ e rest. IsPrimary (terminal Open p x ∷ ts) e rest) (pure e) mid (λ q y rest same. g.group (subst (λ (us : List Terminal). IsExpr ts e us) same d)))
  primary_by_sound _ p x ts = tt

  signed_sound : (s : Symbol) (p : At) (x : List ℕ) (op : Unary) (ts : List Terminal) → ((e : Expr) (rest : List Terminal) → IsUnary ts e rest → IsUnary (terminal s p x ∷ ts) (tree p (node.Un op e)) rest) → SoundAt (λ e rest. IsUnary (terminal s p x ∷ ts) e rest) (signed r p op ts)
  unfolding signed pure
  signed_sound s p x op ts k = sound_after (λ e rest. IsUnary ts e rest) _ (r.unary ts) (λ e. pure (tree p (node.Un op e))) (S.unary ts) k

  address_sound : (p : At) (x : List ℕ) (ts : List Terminal) → SoundAt (λ e rest. IsUnary (terminal (Operator bin.And) p x ∷ ts) e rest) (address r p ts)
  unfolding address name_word pure
  address_sound p x ts = sound_token (λ e rest. IsUnary (terminal (Operator bin.And) p x ∷ ts) e rest) (λ t. named t.symbol t) (λ w. index r >>= λ i. pure (address_tree p w i)) ts behind
    where
      behind : (t : Terminal) (w : Word) (rest : List Terminal) → named t.symbol t ≡ Some w → ts ≡ t ∷ rest → SoundAt (λ e end. IsUnary (terminal (Operator bin.And) p x ∷ ts) e end) ((index r >>= λ i. pure (address_tree p w i)) rest)
      behind t w rest e same =
          let found = is_a_name t.symbol t w e in
          let is : ts ≡ terminal Name t.at t.spelling ∷ rest = subst (λ (v : Terminal). ts ≡ v ∷ rest) (as_terminal t Name found.0) same in
          subst (λ (us : List Terminal). SoundAt (λ e end. IsUnary (terminal (Operator bin.And) p x ∷ us) e end) ((index r >>= λ i. pure (address_tree p w i)) rest)) (sym is)
          (subst (λ (v : Word). SoundAt (λ e end. IsUnary (terminal (Operator bin.And) p x ∷ terminal Name t.at t.spelling ∷ rest) e end) ((index r >>= λ i. pure (address_tree p v i)) rest)) found.1
          (sound_after (λ i end. HasIndex rest i end) _ (index r rest) (λ i. pure (address_tree p (word t.at t.spelling) i)) (index_sound rest) (λ i end h. address_of p t.at x t.spelling rest i end h)))

  pointed_sound : (p : At) (x : List ℕ) (ts : List Terminal) → SoundAt (λ e rest. IsUnary (terminal (Operator bin.Mul) p x ∷ ts) e rest) (pointed r p ts)
  unfolding pointed pure
  pointed_sound p x ts = sound_after (λ e rest. IsUnary ts e rest) _ (r.unary ts) (λ e. pure (tree p (node.Deref e))) (S.unary ts) (λ e rest d. g.deref d)

  as_primary : (s : Symbol) (p : At) (x : List ℕ) (ts : List Terminal) → SoundAt (λ e rest. IsUnary (terminal s p x ∷ ts) e rest) (primary_by r s (terminal s p x) (terminal s p x ∷ ts))
  as_primary s p x ts = sound_weaken (λ e rest. IsPrimary (terminal s p x ∷ ts) e rest) (λ e rest. IsUnary (terminal s p x ∷ ts) e rest) _ (primary_by_sound s p x ts) (λ e rest d. g.primary d)

  unary_by_sound : (s : Symbol) (p : At) (x : List ℕ) (ts : List Terminal) → SoundAt (λ e rest. IsUnary (terminal s p x ∷ ts) e rest) (unary_by r s (terminal s p x) (terminal s p x ∷ ts))
  unfolding skip
  unary_by_sound (Operator bin.Sub) p x ts = signed_sound (Operator bin.Sub) p x un.Neg ts (λ e rest d. g.minus d)
  unary_by_sound (Operator bin.Add) p x ts = signed_sound (Operator bin.Add) p x un.Plus ts (λ e rest d. g.plus d)
  unary_by_sound Not p x ts = signed_sound Not p x un.Not ts (λ e rest d. g.not d)
  unary_by_sound Flip p x ts = signed_sound Flip p x un.Flip ts (λ e rest d. g.flip d)
  unary_by_sound (Operator bin.Mul) p x ts = pointed_sound p x ts
  unary_by_sound (Operator bin.And) p x ts = address_sound p x ts
  unary_by_sound s p x ts = as_primary s p x ts

  unary_sound : (ts : List Terminal) → SoundAt (λ e rest. IsUnary ts e rest) (unary r ts)
  unfolding unary peek fail
  unary_sound [] = tt
  unary_sound (t ∷ ts) = unary_by_sound t.symbol t.at t.spelling ts

  -- ---- binary operators and the choice

  more_of_sound : (n : ℕ) (operand : Reader Expr) → ((ts : List Terminal) → SoundAt (λ e rest. IsLevel n ts e rest) (operand ts)) → (a : Expr) (ts : List Terminal) → SoundAt (λ e rest. IsMore n a ts e rest) (more_of r n operand a ts)
  unfolding more_of peek pure skip
  more_of_sound n operand h a [] = g.done
  more_of_sound n operand h a (t ∷ ts) = by_operator t.symbol (joins n t.symbol) refl
    where
      joined : (op : Binary) (b : Expr) (mid : List Terminal) → looseness op ≡ n → IsLevel n ts b mid → SoundAt (λ e rest. IsMore n a (terminal (Operator op) t.at t.spelling ∷ ts) e rest) (r.more n (binary_tree op a b) mid)
      joined op b mid is d = sound_weaken (λ e rest. IsMore n (binary_tree op a b) mid e rest) (λ e rest. IsMore n a (terminal (Operator op) t.at t.spelling ∷ ts) e rest) _ (S.more n (binary_tree op a b) mid) (λ e rest m. g.more is d m)

      found : (s : Symbol) (op : Binary) → joins n s ≡ Some op → (s ≡ Operator op) × (looseness op ≡ n)
      found (Operator o) op e = by_test (looseness o == n) refl e
        where
          by_test : (b : Bool) → (looseness o == n) ≡ b → (if b then Some o else None) ≡ Some op → (Operator o ≡ Operator op) × (looseness op ≡ n)
          by_test true is e = (cc, same_level o op n is e)
          by_test false is e = cc
      found _ op e = cc

      by_operator : (s : Symbol) (o : Option Binary) → joins n t.symbol ≡ o → SoundAt (λ e rest. IsMore n a (t ∷ ts) e rest) (more_by r n operand a (joins n t.symbol) (t ∷ ts))
      by_operator s None e = subst (λ (o : Option Binary). SoundAt (λ e rest. IsMore n a (t ∷ ts) e rest) (more_by r n operand a o (t ∷ ts))) (sym e) g.done
      by_operator s (Some op) e =
          let is = found t.symbol op e in
          subst (λ (o : Option Binary). SoundAt (λ e rest. IsMore n a (t ∷ ts) e rest) (more_by r n operand a o (t ∷ ts))) (sym e)
          (subst (λ (v : Terminal). SoundAt (λ e rest. IsMore n a (v ∷ ts) e rest) (after (operand ts) (λ b. r.more n (binary_tree op a b)))) (sym (as_terminal t (Operator op) is.0))
          (sound_after (λ b mid. IsLevel n ts b mid) _ (operand ts) (λ b. r.more n (binary_tree op a b)) (h ts) (λ b mid d. joined op b mid is.1 d)))

  level_sound : (n : ℕ) (ts : List Terminal) → SoundAt (λ e rest. IsLevel n ts e rest) (level r n ts)
  unfolding level
  level_sound zero ts = sound_weaken (λ e rest. IsUnary ts e rest) (λ e rest. IsLevel zero ts e rest) _ (unary_sound ts) (λ e rest d. g.unary d)
  level_sound (suc n) ts = sound_after (λ a mid. IsLevel n ts a mid) (λ e rest. IsLevel (suc n) ts e rest) (level r n ts) (more_of r n (level r n)) (level_sound n ts)
      (λ a mid d. sound_weaken (λ e rest. IsMore n a mid e rest) (λ e rest. IsLevel (suc n) ts e rest) _ (more_of_sound n (level r n) (level_sound n) a mid) (λ e rest m. g.joined d m))

  more_sound : (n : ℕ) (a : Expr) (ts : List Terminal) → SoundAt (λ e rest. IsMore n a ts e rest) (more r n a ts)
  unfolding more
  more_sound n a ts = more_of_sound n (level r n) (level_sound n) a ts

  choice_by_sound : (c : Expr) (ts : List Terminal) (s : Symbol) (p : At) (x : List ℕ) (us : List Terminal) → IsLevel 10 ts c (terminal s p x ∷ us) → SoundAt (λ e rest. IsExpr ts e rest) (choice_by r c s (terminal s p x ∷ us))
  unfolding skip pure
  choice_by_sound c ts Question p x us d = sound_after (λ a mid. IsExpr us a mid) _ (r.expr us) (λ a. colon >> (r.expr >>= λ b. pure (choice_tree c a b))) (S.expr us)
      (λ a mid f. sound_colon (λ e rest. IsExpr ts e rest) (r.expr >>= λ b. pure (choice_tree c a b)) mid
      (λ q y vs same. sound_after (λ b rest. IsExpr vs b rest) _ (r.expr vs) (λ b. pure (choice_tree c a b)) (S.expr vs) (λ b rest h. g.choice d (subst (λ (ws : List Terminal). IsExpr us a ws) same f) h)))
  choice_by_sound c ts _ p x us d = g.plain d

  choice_sound : (c : Expr) (ts mid : List Terminal) → IsLevel 10 ts c mid → SoundAt (λ e rest. IsExpr ts e rest) (choice r c mid)
  unfolding choice peek pure
  choice_sound c ts [] d = g.plain d
  choice_sound c ts (t ∷ us) d = choice_by_sound c ts t.symbol t.at t.spelling us d

  expr_sound : (ts : List Terminal) → SoundAt (λ e rest. IsExpr ts e rest) (expr r ts)
  unfolding expr
  expr_sound ts = sound_after (λ c mid. IsLevel 10 ts c mid) _ (level r 10 ts) (choice r) (level_sound 10 ts) (λ c mid d. choice_sound c ts mid d)

pub all_sound : (n : ℕ) → Sound (lower n)
unfolding lower fail pure
all_sound zero = record { expr = λ ts. tt; more = λ n a ts. g.done; unary = λ ts. tt }
all_sound (suc n) =
    let S = all_sound n in
    record { expr = expr_sound (lower n) S; more = more_sound (lower n) S; unary = unary_sound (lower n) S }
