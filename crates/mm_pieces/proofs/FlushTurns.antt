-- The loop of wm_flush does the flushes that its inputs ask for, whatever the rows are.
use Rattle.std.proofs.Common.{◌-◌, arith, ◌≡◌, ℕ, zero, suc, ◌+◌, ◌^◌, ◌<◌, ◌≤◌, ◌≢◌, ℤ, pos, negsuc, Bool, true, false, not, ◌&&◌, List, [], ◌∷◌, length, Option, Some, None, refl, ◌∙◌, ap, subst, slice_set, nat_lt}
use Rattle.std.specs.Prelude.{◌==◌, int_lt}
use Rattle.std.specs.Int.{w32, cast_unsigned}
use Rattle.std.proofs.lemmas.Int.{ints}
use Rattle.std.proofs.lemmas.List.{length-set, get_or-set_same, get_or-set_other}
use Rattle.std.proofs.lemmas.Bool.{lt-ltb}
use Rattle.mm_goto.specs.Value.{is_zero, truth, binary_value}
use Rattle.mm_goto.specs.declared.pure.Binary.TheVariants as binary
use Rattle.mm_sched.specs.State.{State, Pending}
use Rattle.mm_sched.specs.Event.{is_int, flushed}
use Rattle.mm_tree.specs.declared.expr.Expr.{Expr}
use Rattle.mm_tree.specs.declared.expr.Node.TheOpen as node
use Rattle.mm_tree.specs.declared.stmt.Stmt.{Stmt}
use Rattle.mm_words.specs.Words.{while, num, var, elem, minus, greater, at_most, differ, both, block, assume, call, assign_call}
use Rattle.mm_helpers.specs.Helpers.{flush, wm_n, wm_len, wm_pop, nondet_wm}
use Rattle.mm_flow.specs.declared.names.Named.{Named}
use Rattle.mm_flow.specs.declared.names.Seen.{Seen}
use Rattle.mm_flow.specs.declared.names.Joining.TheVariants.{Both}
use Rattle.mm_flow.specs.Scopes.{named, spot_of}
use Rattle.mm_flow.specs.Expressions.{joining, reading}
use Rattle.mm_flow.specs.Statements.{Within, scope}
use Rattle.mm_meaning.specs.Meaning.{View, Outcome, Done, Left, Failed, Halted, Other, pick}
use Rattle.mm_meaning.specs.Acting.{at_slot, let_local, with_input}
use Rattle.mm_meaning.proofs.Lowering.{has_code_is}
use Rattle.mm_meaning.proofs.Numbers.{less_one, truth_zero}
use Rattle.mm_meaning.proofs.Gets.{Gets, num_gets, var_gets, bin_gets, elem_gets, gets_as}
use Rattle.mm_meaning.proofs.Sized.{Sized, KnowsOne, num_sized, var_sized, bin_sized, elem_sized, knows_nil, knows_cons, assume_knows, block_knows}
use Rattle.mm_meaning.proofs.Does.{Does, DoesAll, Knows, nil, cons, ends, passes, halts, assigns}
use Rattle.mm_meaning.proofs.Loops.{blocks, declares, whiles, Turns, stop, turn, leave}
use Rattle.mm_meaning.proofs.Calls.{Plain, num_plain, var_plain, bin_plain, input_computes, input_halts}
use Rattle.mm_pieces.specs.Calling.{body_of}
use Rattle.mm_pieces.specs.Mirroring.{array_at}
use Rattle.mm_pieces.specs.Flushing.{AllRows, Rest, flushing, with_oldest, asked}
use Rattle.mm_pieces.proofs.Taking.{while_knows, input_knows}
use Rattle.mm_pieces.proofs.Get.{above_zero}

-- ---- tests

ne_zero : (t : ℕ) → suc t < 2 ^ 31 → is_zero (binary_value binary.Ne (pos (suc t)) (pos 0)) ≡ false
ne_zero t h = truth_zero _ ∙ ap not (let x : not (cast_unsigned w32 (pos (suc t)) == cast_unsigned w32 (pos 0)) ≡ true = grind (arith, ints) in x)

ne_negative : (k : ℕ) → k < 2 ^ 31 → is_zero (binary_value binary.Ne (negsuc k) (pos 0)) ≡ false
ne_negative k h = truth_zero _ ∙ ap not (let x : not (cast_unsigned w32 (negsuc k) == cast_unsigned w32 (pos 0)) ≡ true = grind (arith, ints) in x)

-- the value names one of so many rows
valid : (t n : ℕ) (x : Bool) → nat_lt t n ≡ x → is_zero (binary_value binary.Land (binary_value binary.Gt (pos (suc t)) (pos 0)) (binary_value binary.Le (pos (suc t)) (pos n))) ≡ not x
valid t n x e = rw (let f : int_lt (pos 0) (pos (suc t)) ≡ true = grind arith in f) (rw (by x e) (last x))
  where
    by : (x : Bool) → nat_lt t n ≡ x → int_lt (pos n) (pos (suc t)) ≡ not x
    by true e = grind arith
    by false e = grind arith

    last : (x : Bool) → is_zero (truth (not (is_zero (truth true)) && not (is_zero (truth (not (not x)))))) ≡ not x
    last true = refl
    last false = refl

negative_invalid : (k n : ℕ) → is_zero (binary_value binary.Land (binary_value binary.Gt (negsuc k) (pos 0)) (binary_value binary.Le (negsuc k) (pos n))) ≡ true
negative_invalid k n = refl

abbrev pub on_oldest : List Pending → (Pending → List Pending → List ℤ) → List ℤ → List ℤ
on_oldest [] go memory = memory
on_oldest (q ∷ rest) go memory = go q rest

-- the length of row b
abbrev pub Has_length : View → (lens b : ℕ) → List Pending → Type 0
Has_length a lens b ps = at_slot a.memory (lens + b) ≡ pos (length ps)

module _ (rows : AllRows) (lens : ℕ) (R : View → State → Type 0) (Ok : State → Type 0) (popped : List ℤ → (b n c : ℕ) → ℤ → List ℤ) where
  -- memory behind the flushes that the inputs ask for
  abbrev pub drained : List ℤ → State → ℤ → List ℤ → List ℤ
  drained memory s (pos zero) ins = memory
  drained memory s (pos (suc t)) [] = memory
  drained memory s (pos (suc t)) (v ∷ vs) = on_oldest (rows.stores s t) (λ q rest. drained (popped memory t (length rest) q.0 q.1) (flushed s (rows.thread t) q.0 q.1) v vs) memory
  drained memory s (negsuc k) ins = memory

  abbrev pub asked_memory : List ℤ → State → List ℤ → List ℤ
  asked_memory memory s [] = memory
  asked_memory memory s (v ∷ vs) = drained memory s v vs

  -- the body of wm_flush ends so, and leaves the locals below its own
  abbrev pub Emptied : ℕ → View → List ℤ → Outcome → Option Rest → Type 0
  Emptied slot a memory (Done b) (Some r) = R b r.state × (b.memory ≡ memory) × (b.inputs ≡ r.inputs) × (length b.locals ≡ length a.locals) × ((i : ℕ) → i < slot → at_slot b.locals i ≡ at_slot a.locals i)
  Emptied slot a memory Halted None = Unit {0}
  Emptied slot a memory o r = ⊥

  module _ (few : rows.count < 2 ^ 15) (fuel slot : ℕ) (w : Within) (seen : Seen) (len_is : spot_of w.parts.spots wm_len ≡ Some (array_at wm_len lens rows.count)) (after : ℕ → ℕ) (grows : (k : ℕ) → k + 1 ≤ after k)
      (as_memory : (l b : View) (s : State) → l.memory ≡ b.memory → R b s → R l s)
      (length_is : (a : View) (s : State) (b : ℕ) → R a s → b < rows.count → at_slot a.memory (lens + b) ≡ pos (length (rows.stores s b)))
      (call_knows : (a : View) (k : ℕ) (x : ℤ) → Plain fuel (slot + 1) a (scope w (named wm_n slot ∷ [])) (minus (var wm_n) (num 1)) x → KnowsOne w (named wm_n slot ∷ []) seen (k + 1) seen (after k) (call wm_pop (minus (var wm_n) (num 1) ∷ [])))
      (call_does : (a : View) (s : State) (b c k : ℕ) (x : ℤ) (rest : List Pending) → R a s → Ok s → b < rows.count → rows.stores s b ≡ (c, x) ∷ rest → slot + 1 ≤ k + 1 → after k ≤ length a.locals → Plain fuel (slot + 1) a (scope w (named wm_n slot ∷ [])) (minus (var wm_n) (num 1)) (pos b) →
      Does fuel (slot + 1) w (named wm_n slot ∷ []) a seen (k + 1) seen (after k) (call wm_pop (minus (var wm_n) (num 1) ∷ [])) (Done (record { memory = popped a.memory b (length rest) c x; locals = a.locals; inputs = a.inputs })) × R (record { memory = popped a.memory b (length rest) c x; locals = a.locals; inputs = a.inputs }) (flushed s (rows.thread b) c x))
      (ok_flushed : (a : View) (s : State) (b c : ℕ) (x : ℤ) (rest : List Pending) → R a s → Ok s → b < rows.count → rows.stores s b ≡ (c, x) ∷ rest → Ok (flushed s (rows.thread b) c x)) where
    abbrev names : List Named
    names = named wm_n slot ∷ []

    abbrev m : ℕ
    m = slot + 1

    abbrev condition : Expr
    condition = differ (var wm_n) (num 0)

    abbrev names_row : Expr
    names_row = both (greater (var wm_n) (num 0)) (at_most (var wm_n) (num rows.count))

    abbrev is_pending : Expr
    is_pending = greater (elem wm_len (minus (var wm_n) (num 1))) (num 0)

    abbrev body : List Stmt
    body = assume names_row ∷ assume is_pending ∷ call wm_pop (minus (var wm_n) (num 1) ∷ []) ∷ assign_call wm_n nondet_wm [] ∷ []

    -- the next fresh local behind a turn
    abbrev turn_next : ℕ → ℕ
    turn_next k = after k + 1

    no_code : joining binary.Land ((reading (at_most (var wm_n) (num rows.count))).has_code (scope w names)) ≡ Both
    no_code = rw (has_code_is (node.Bin binary.Le (var wm_n) (num rows.count)) (scope w names)) (rw (has_code_is (node.Name wm_n) (scope w names)) (rw (has_code_is (node.Number (pos rows.count)) (scope w names)) refl))

    pub record Ready (a : View) (s : State) (v : ℤ) (k : ℕ) : Type 0 where
      pub like : R a s
      pub safe : Ok s
      pub is_n : at_slot a.locals slot ≡ v
      pub int : is_int v ≡ true
      pub wide : turn_next k ≤ length a.locals

    module _ (k : ℕ) (mk : m ≤ k) where
      n_gets : (a : View) (v : ℤ) (i : ℕ) → at_slot a.locals slot ≡ v → Gets fuel m a (scope w names) i i (var wm_n) v
      n_gets a v i e = gets_as e (var_gets i wm_n slot (omega arith) refl)

      condition_gets : (a : View) (v : ℤ) → at_slot a.locals slot ≡ v → Gets fuel m a (scope w names) k k condition (binary_value binary.Ne v (pos 0))
      condition_gets a v e = bin_gets binary.Ne refl (λ p. refl) (n_gets a v k e) (num_gets k 0)

      row_gets : (a : View) (v : ℤ) → at_slot a.locals slot ≡ v → Gets fuel m a (scope w names) k k names_row (binary_value binary.Land (binary_value binary.Gt v (pos 0)) (binary_value binary.Le v (pos rows.count)))
      row_gets a v e = bin_gets binary.Land no_code (λ p. refl) (bin_gets binary.Gt refl (λ p. refl) (n_gets a v k e) (num_gets k 0)) (bin_gets binary.Le refl (λ p. refl) (n_gets a v k e) (num_gets k rows.count))

      one_less : (t : ℕ) → t < rows.count → binary_value binary.Sub (pos (suc t)) (pos 1) ≡ pos t
      one_less t h = (let f = few in let same : suc t - 1 ≡ t = omega arith in less_one (suc t) (omega arith) (omega arith) ∙ ap pos same)

      pending_gets : (a : View) (t n : ℕ) → t < rows.count → at_slot a.locals slot ≡ pos (suc t) → at_slot a.memory (lens + t) ≡ pos n → Gets fuel m a (scope w names) k (k + 1) is_pending (binary_value binary.Gt (pos n) (pos 0))
      pending_gets a t n below e h = bin_gets binary.Gt refl (λ p. refl) (gets_as h (elem_gets wm_len (array_at wm_len lens rows.count) t len_is below (gets_as (one_less t below) (bin_gets binary.Sub refl (λ p. refl) (n_gets a (pos (suc t)) k e) (num_gets k 1))))) (num_gets (k + 1) 0)

      row_plain : (a : View) (t : ℕ) → t < rows.count → at_slot a.locals slot ≡ pos (suc t) → Plain fuel m a (scope w names) (minus (var wm_n) (num 1)) (pos t)
      row_plain a t below e = subst (λ x. Plain fuel m a (scope w names) (minus (var wm_n) (num 1)) x) (ap (λ x. binary_value binary.Sub x (pos 1)) e ∙ one_less t below)
          (bin_plain binary.Sub refl (λ p l h. refl) (var_plain wm_n slot (omega arith) refl) (num_plain 1))

      -- the call's argument takes no fresh local, whatever it is
      row_anyhow : (a : View) → Plain fuel m a (scope w names) (minus (var wm_n) (num 1)) (binary_value binary.Sub (at_slot a.locals slot) (pos 1))
      row_anyhow a = bin_plain binary.Sub refl (λ p l h. refl) (var_plain wm_n slot (omega arith) refl) (num_plain 1)

      n_sized : (i : ℕ) → Sized (scope w names) i i (var wm_n)
      n_sized i = var_sized i wm_n slot refl

      pending_knows : KnowsOne w names seen k seen (k + 1) (assume is_pending)
      pending_knows = assume_knows (bin_sized binary.Gt refl (elem_sized wm_len (bin_sized binary.Sub refl (n_sized k) (num_sized k 1))) (num_sized (k + 1) 0))

      pop_knows : (a : View) → KnowsOne w names seen (k + 1) seen (after k) (call wm_pop (minus (var wm_n) (num 1) ∷ []))
      pop_knows a = call_knows a k _ (row_anyhow a)

      behind_pop : Knows w names seen (after k) seen (turn_next k) (assign_call wm_n nondet_wm [] ∷ [])
      behind_pop = knows_cons (input_knows (after k) wm_n nondet_wm refl refl) (knows_nil (turn_next k))

      -- ---- turns that do not come to their end

      no_row : (a : View) (v : ℤ) (turns : ℕ) → at_slot a.locals slot ≡ v → is_zero (binary_value binary.Ne v (pos 0)) ≡ false → is_zero (binary_value binary.Land (binary_value binary.Gt v (pos 0)) (binary_value binary.Le v (pos rows.count))) ≡ true → Turns fuel m w names seen k k (turn_next k) condition (block body) (suc turns) a Halted
      no_row a v turns e z h = leave turns (condition_gets a v e) z (blocks (ends (halts h (row_gets a v e)) (λ go. refl) (knows_cons pending_knows (knows_cons (pop_knows a) behind_pop)))) (λ g. refl)

      nothing_pending : (a : View) (t turns : ℕ) → t < rows.count → at_slot a.locals slot ≡ pos (suc t) → at_slot a.memory (lens + t) ≡ pos 0 → Turns fuel m w names seen k k (turn_next k) condition (block body) (suc turns) a Halted
      nothing_pending a t turns below e h = leave turns (condition_gets a (pos (suc t)) e) (ne_zero t (let f = few in omega arith))
          (blocks (cons (passes (valid t rows.count true (lt-ltb t rows.count below)) (row_gets a (pos (suc t)) e)) refl (ends (halts refl (pending_gets a t 0 below e h)) (λ go. refl) (knows_cons (pop_knows a) behind_pop)))) (λ g. refl)

      -- ---- a flush

      -- the view behind the call of wm_pop
      abbrev emptied : View → (t n c : ℕ) → ℤ → View
      emptied a t n c x = record { memory = popped a.memory t n c x; locals = a.locals; inputs = a.inputs }

      popped_does : (a : View) (s : State) (t c : ℕ) (x : ℤ) (rest : List Pending) → Ready a s (pos (suc t)) k → t < rows.count → rows.stores s t ≡ (c, x) ∷ rest →
          Does fuel m w names a seen (k + 1) seen (after k) (call wm_pop (minus (var wm_n) (num 1) ∷ [])) (Done (emptied a t (length rest) c x)) × R (emptied a t (length rest) c x) (flushed s (rows.thread t) c x)
      popped_does a s t c x rest r below is = call_does a s t c k x rest r.like r.safe below is (omega arith) (let f = r.wide in omega (arith, grows k)) (row_plain a t below r.is_n)

      tested : (a : View) (s : State) (t c : ℕ) (x : ℤ) (rest : List Pending) → Ready a s (pos (suc t)) k → t < rows.count → rows.stores s t ≡ (c, x) ∷ rest → Does fuel m w names a seen k seen (k + 1) (assume is_pending) (Done a)
      tested a s t c x rest r below is = passes (above_zero (length rest)) (pending_gets a t (suc (length rest)) below r.is_n (length_is a s t r.like below ∙ ap pos (ap length is ∙ (let e : length ((c, x) ∷ rest) ≡ suc (length rest) = omega arith in e))))

      starved : (a : View) (s : State) (t c : ℕ) (x : ℤ) (rest : List Pending) (turns : ℕ) → Ready a s (pos (suc t)) k → t < rows.count → rows.stores s t ≡ (c, x) ∷ rest → ((l : View) (i : ℕ) → with_input a.inputs l i ≡ Halted) → Turns fuel m w names seen k k (turn_next k) condition (block body) (suc turns) a Halted
      starved a s t c x rest turns r below is none = leave turns (condition_gets a (pos (suc t)) r.is_n) (ne_zero t (let f = few in omega arith))
          (blocks (cons (passes (valid t rows.count true (lt-ltb t rows.count below)) (row_gets a (pos (suc t)) r.is_n)) refl (cons (tested a s t c x rest r below is) refl (cons (popped_does a s t c x rest r below is).0 refl
          (ends (input_halts wm_n nondet_wm refl refl (λ l. none l (after k))) (λ go. refl) (knows_nil (turn_next k))))))) (λ g. refl)

      -- the view before the next turn
      abbrev flushed_view : View → (t n c : ℕ) → ℤ → ℤ → List ℤ → View
      flushed_view a t n c x v vs = record { memory = popped a.memory t n c x; locals = slice_set a.locals slot v; inputs = vs }

      one_flush : (a : View) (s : State) (t c : ℕ) (x v : ℤ) (vs : List ℤ) (rest : List Pending) (turns : ℕ) (o : Outcome) → Ready a s (pos (suc t)) k → t < rows.count → rows.stores s t ≡ (c, x) ∷ rest → a.inputs ≡ v ∷ vs → is_int v ≡ true →
          Turns fuel m w names seen k k (turn_next k) condition (block body) turns (flushed_view a t (length rest) c x v vs) o → Turns fuel m w names seen k k (turn_next k) condition (block body) (suc turns) a o
      one_flush a s t c x v vs rest turns o r below is ins int next = turn turns (condition_gets a (pos (suc t)) r.is_n) (ne_zero t (let f = few in omega arith))
          (blocks (cons (passes (valid t rows.count true (lt-ltb t rows.count below)) (row_gets a (pos (suc t)) r.is_n)) refl (cons (tested a s t c x rest r below is) refl (cons (popped_does a s t c x rest r below is).0 refl
          (cons (assigns wm_n slot refl (let f = r.wide in omega (arith, grows k)) (input_computes nondet_wm refl ins int)) (length-set a.locals slot v) (nil (turn_next k))))))) (λ g. refl) (length-set a.locals slot v) next

      ready_next : (a : View) (s : State) (t c : ℕ) (x v : ℤ) (vs : List ℤ) (rest : List Pending) → Ready a s (pos (suc t)) k → t < rows.count → rows.stores s t ≡ (c, x) ∷ rest → is_int v ≡ true → Ready (flushed_view a t (length rest) c x v vs) (flushed s (rows.thread t) c x) v k
      ready_next a s t c x v vs rest r below is int =
          let like = (popped_does a s t c x rest r below is).1 in
          record {
            like = as_memory _ _ (flushed s (rows.thread t) c x) refl like;
            safe = ok_flushed a s t c x rest r.like r.safe below is;
            is_n = get_or-set_same a.locals slot v (pos 0) (let f = r.wide in omega (arith, grows k));
            int = int;
            wide = let f = r.wide in omega (arith, length-set a.locals slot v);
          }

      -- ---- the loop

      -- it ends where the inputs ask for flushes that there are, and no other local changes
      abbrev pub Flushed : View → List ℤ → Outcome → Option Rest → Type 0
      Flushed a memory (Done b) (Some r) = R b r.state × (b.memory ≡ memory) × (b.inputs ≡ r.inputs) × (length b.locals ≡ length a.locals) × ((i : ℕ) → i ≢ slot → at_slot b.locals i ≡ at_slot a.locals i)
      Flushed a memory Halted None = Unit {0}
      Flushed a memory o r = ⊥

      abbrev pub Result : View → ℕ → List ℤ → Option Rest → Type 0
      Result a turns memory r = (o : Outcome) × Turns fuel m w names seen k k (turn_next k) condition (block body) turns a o × Flushed a memory o r

      by_row : (a : View) (s : State) (t turns : ℕ) → Ready a s (pos (suc t)) k → (next : Pending → Option Rest) (memory : Pending → List Pending → List ℤ) → ((c : ℕ) (x : ℤ) (rest : List Pending) → t < rows.count → rows.stores s t ≡ (c, x) ∷ rest → Result a (suc turns) (memory (c, x) rest) (next (c, x))) → (b : Bool) → nat_lt t rows.count ≡ b → (ps : List Pending) → rows.stores s t ≡ ps → Result a (suc turns) (on_oldest ps memory a.memory) (pick b (with_oldest ps next) None)
      by_row a s t turns r next memory go false e ps is = (Halted, no_row a (pos (suc t)) turns r.is_n (ne_zero t (int_small t r.int)) (valid t rows.count false e), tt)
        where
          int_small : (t : ℕ) → is_int (pos (suc t)) ≡ true → suc t < 2 ^ 31
          int_small t e = grind arith
      by_row a s t turns r next memory go true e [] is = (Halted, nothing_pending a t turns (let q : t < rows.count = grind arith in q) r.is_n (length_is a s t r.like (let q : t < rows.count = grind arith in q) ∙ ap pos (ap length is)), tt)
      by_row a s t turns r next memory go true e (q ∷ rest) is = go q.0 q.1 rest (let q : t < rows.count = grind arith in q) is

      all_none : (b : Bool) (ps : List Pending) → pick b (with_oldest ps (λ q. None)) None ≡ None
      all_none false ps = refl
      all_none true [] = refl
      all_none true (q ∷ ps) = refl

      none_any : (a : View) (turns : ℕ) (memory other : List ℤ) → Result a turns memory None → Result a turns other None
      none_any a turns memory other (Halted, t, f) = (Halted, t, tt)
      none_any a turns memory other (Done b, t, f) = absurd f
      none_any a turns memory other (Left w2 b, t, f) = absurd f
      none_any a turns memory other (Failed n, t, f) = absurd f
      none_any a turns memory other (Other, t, f) = absurd f

      widen : (a b : View) (turns : ℕ) (memory : List ℤ) (o : Outcome) (r : Option Rest) → Turns fuel m w names seen k k (turn_next k) condition (block body) turns a o → Flushed b memory o r → length b.locals ≡ length a.locals → ((i : ℕ) → i ≢ slot → at_slot b.locals i ≡ at_slot a.locals i) → Result a turns memory r
      widen a b turns memory (Done z) (Some r) t f e h = (Done z, t, (f.0, f.1, f.2, f.3 ∙ e, λ i d. f.4 i d ∙ h i d))
      widen a b turns memory Halted None t f e h = (Halted, t, tt)
      widen a b turns memory (Done z) None t f e h = absurd f
      widen a b turns memory Halted (Some r) t f e h = absurd f
      widen a b turns memory (Left w2 z) r t f e h = absurd f
      widen a b turns memory (Failed n) r t f e h = absurd f
      widen a b turns memory Other r t f e h = absurd f

      pub flushes : (ins : List ℤ) (turns : ℕ) (a : View) (s : State) (v : ℤ) → Ready a s v k → a.inputs ≡ ins → length ins < turns → Result a turns (drained a.memory s v ins) (flushing rows s v ins)
      flushes ins zero a s v r e h = absurd (omega arith)
      flushes ins (suc turns) a s (pos zero) r e h = (Done a, stop turns (condition_gets a (pos 0) r.is_n) (omega arith) refl, (r.like, refl, e, refl, λ i d. refl))
      flushes ins (suc turns) a s (negsuc i) r e h = (Halted, no_row a (negsuc i) turns r.is_n (ne_negative i (int_small i r.int)) (negative_invalid i rows.count), tt)
        where
          int_small : (i : ℕ) → is_int (negsuc i) ≡ true → i < 2 ^ 31
          int_small i e = grind arith
      flushes [] (suc turns) a s (pos (suc t)) r e h = none_any a (suc turns) _ a.memory (subst (λ x. Result a (suc turns) (on_oldest (rows.stores s t) (λ q rest. a.memory) a.memory) x) (all_none (nat_lt t rows.count) (rows.stores s t))
          (by_row a s t turns r (λ q. None) (λ q rest. a.memory) (λ c x rest below is. (Halted, starved a s t c x rest turns r below is (λ l i. ap (λ z. with_input z l i) e), tt)) (nat_lt t rows.count) refl (rows.stores s t) refl))
      flushes (v ∷ vs) (suc turns) a s (pos (suc t)) r e h =
          by_row a s t turns r (λ q. pick (is_int v) (flushing rows (flushed s (rows.thread t) q.0 q.1) v vs) None) (λ q rest. drained (popped a.memory t (length rest) q.0 q.1) (flushed s (rows.thread t) q.0 q.1) v vs) (λ c x rest below is. go c x rest below is (λ p. flushes vs turns (flushed_view a t (length rest) c x v vs) (flushed s (rows.thread t) c x) v p refl (omega arith)) (is_int v) refl) (nat_lt t rows.count) refl (rows.stores s t) refl
        where
          go : (c : ℕ) (x : ℤ) (rest : List Pending) → t < rows.count → rows.stores s t ≡ (c, x) ∷ rest → (Ready (flushed_view a t (length rest) c x v vs) (flushed s (rows.thread t) c x) v k → Result (flushed_view a t (length rest) c x v vs) turns (drained (popped a.memory t (length rest) c x) (flushed s (rows.thread t) c x) v vs) (flushing rows (flushed s (rows.thread t) c x) v vs)) → (b : Bool) → is_int v ≡ b → Result a (suc turns) (drained (popped a.memory t (length rest) c x) (flushed s (rows.thread t) c x) v vs) (pick b (flushing rows (flushed s (rows.thread t) c x) v vs) None)
          go c x rest below is on false d = (Halted, starved a s t c x rest turns r below is (λ l i. ap (λ z. with_input z l i) e ∙ rw d refl), tt)
          go c x rest below is on true d =
              let y = on (ready_next a s t c x v vs rest r below is d) in
              widen a (flushed_view a t (length rest) c x v vs) (suc turns) (drained (popped a.memory t (length rest) c x) (flushed s (rows.thread t) c x) v vs) y.0 (flushing rows (flushed s (rows.thread t) c x) v vs) (one_flush a s t c x v vs rest turns y.0 r below is e d y.1) y.2 (length-set a.locals slot v) (λ i q. get_or-set_other a.locals slot i v (pos 0) q)

      condition_sized : Sized (scope w names) k k condition
      condition_sized = bin_sized binary.Ne refl (n_sized k) (num_sized k 0)

      loop_knows : (a : View) → KnowsOne w names seen k seen (turn_next k) (block body)
      loop_knows a = block_knows (knows_cons (assume_knows (bin_sized binary.Land no_code (bin_sized binary.Gt refl (n_sized k) (num_sized k 0)) (bin_sized binary.Le refl (n_sized k) (num_sized k rows.count)))) (knows_cons pending_knows (knows_cons (pop_knows a) behind_pop)))

    -- ---- the body of wm_flush

    abbrev pub flush_next : ℕ
    flush_next = turn_next (slot + 1 + 1)

    pub flush_does : (a : View) (s : State) (ins : List ℤ) → R a s → Ok s → a.inputs ≡ ins → flush_next ≤ length a.locals → length ins ≤ fuel →
        (o : Outcome) × DoesAll fuel slot w [] a seen slot seen flush_next (body_of (flush rows.count)) o × Emptied slot a (asked_memory a.memory s ins) o (asked rows s ins)
    flush_does a s [] like safe e room h = (Halted, declares false wm_n (ends (input_halts wm_n nondet_wm refl refl (λ l. ap (λ z. with_input z l m) e)) (λ go. refl) (knows_cons (while_knows (condition_sized (m + 1) (omega arith)) (loop_knows (m + 1) (omega arith) a)) (knows_nil flush_next))), tt)
    flush_does a s (v ∷ vs) like safe e room h = by (is_int v) refl
      where
        by : (b : Bool) → is_int v ≡ b → (o : Outcome) × DoesAll fuel slot w [] a seen slot seen flush_next (body_of (flush rows.count)) o × Emptied slot a (drained a.memory s v vs) o (pick b (flushing rows s v vs) None)
        by false d = (Halted, declares false wm_n (ends (input_halts wm_n nondet_wm refl refl (λ l. ap (λ z. with_input z l m) e ∙ rw d refl)) (λ go. refl) (knows_cons (while_knows (condition_sized (m + 1) (omega arith)) (loop_knows (m + 1) (omega arith) a)) (knows_nil flush_next))), tt)
        by true d = last (flushes (m + 1) (omega arith) vs fuel begun s v ready refl (omega arith))
          where
            locals1 : List ℤ
            locals1 = slice_set a.locals slot (pos 0)

            begun : View
            begun = record { memory = a.memory; locals = slice_set (slice_set a.locals slot (pos 0)) slot v; inputs = vs }

            wide : length (slice_set (slice_set a.locals slot (pos 0)) slot v) ≡ length a.locals
            wide = length-set (slice_set a.locals slot (pos 0)) slot v ∙ length-set a.locals slot (pos 0)

            ready : Ready begun s v (m + 1)
            ready = record {
              like = as_memory _ _ s refl like;
              safe = safe;
              is_n = get_or-set_same (slice_set a.locals slot (pos 0)) slot v (pos 0) (omega (arith, length-set a.locals slot (pos 0)));
              int = d;
              wide = omega (arith, wide);
            }

            first : Does fuel m w names (let_local a slot (pos 0)) seen m seen (m + 1) (assign_call wm_n nondet_wm []) (Done (let_local (record { memory = a.memory; locals = slice_set a.locals slot (pos 0); inputs = vs }) slot v))
            first = assigns wm_n slot refl (omega (arith, length-set a.locals slot (pos 0))) (input_computes nondet_wm refl e d)

            looped : {o : Outcome} → Turns fuel m w names seen (m + 1) (m + 1) (turn_next (m + 1)) condition (block body) fuel begun o → Does fuel m w names begun seen (m + 1) seen flush_next (while condition body) o
            looped t = whiles (condition_sized (m + 1) (omega arith)).is (omega arith) (omega arith) (loop_knows (m + 1) (omega arith) a).known t

            same : (i : ℕ) → i < slot → at_slot (slice_set (slice_set a.locals slot (pos 0)) slot v) i ≡ at_slot a.locals i
            same i q = get_or-set_other (slice_set a.locals slot (pos 0)) slot i v (pos 0) (omega arith) ∙ get_or-set_other a.locals slot i (pos 0) (pos 0) (omega arith)

            on : (o : Outcome) (r : Option Rest) → Turns fuel m w names seen (m + 1) (m + 1) (turn_next (m + 1)) condition (block body) fuel begun o → Flushed (m + 1) (omega arith) begun (drained a.memory s v vs) o r → (z : Outcome) × DoesAll fuel slot w [] a seen slot seen flush_next (body_of (flush rows.count)) z × Emptied slot a (drained a.memory s v vs) z r
            on (Done b) (Some r) t f = (Done b, declares false wm_n (cons first (length-set (slice_set a.locals slot (pos 0)) slot v) (cons (looped t) f.3 (nil flush_next))), (f.0, f.1, f.2, f.3 ∙ wide, λ i q. f.4 i (omega arith) ∙ same i q))
            on Halted None t f = (Halted, declares false wm_n (cons first (length-set (slice_set a.locals slot (pos 0)) slot v) (ends (looped t) (λ go. refl) (knows_nil flush_next))), tt)
            on (Done b) None t f = absurd f
            on Halted (Some r) t f = absurd f
            on (Left w2 b) r t f = absurd f
            on (Failed n) r t f = absurd f
            on Other r t f = absurd f

            last : Result (m + 1) (omega arith) begun fuel (drained a.memory s v vs) (flushing rows s v vs) → (z : Outcome) × DoesAll fuel slot w [] a seen slot seen flush_next (body_of (flush rows.count)) z × Emptied slot a (drained a.memory s v vs) z (flushing rows s v vs)
            last (o, t, f) = on o (flushing rows s v vs) t f
