-- Where nothing may be pending: wm_empty and wm_set in the woven program.
use Rattle.std.proofs.Common.{arith, ◌≡◌, ℕ, ◌+◌, ◌*◌, ◌<◌, ◌≤◌, ◌≢◌, ℤ, pos, Bool, true, false, not, List, [], ◌∷◌, length, Some, refl, sym, ◌∙◌, ap, subst, slice_set, if◌then◌else◌}
use Rattle.std.specs.Prelude.{◌==◌}
use Rattle.std.proofs.lemmas.List.{length-set, get_or-set_same, get_or-set_other}
use Rattle.mm_goto.specs.Value.{is_zero, binary_value}
use Rattle.mm_goto.specs.declared.pure.Binary.TheVariants as binary
use Rattle.mm_sched.specs.State.{State, Pending, pending_of}
use Rattle.mm_sched.specs.Buffer.{is_empty}
use Rattle.mm_sched.specs.Event.{written}
use Rattle.mm_tree.specs.declared.expr.Expr.{Expr}
use Rattle.mm_words.specs.Words.{num, var, elem, equal, call, assign_elem}
use Rattle.mm_helpers.specs.Helpers.{wm_t, wm_c, wm_v, wm_mem, wm_len, wm_empty, wm_set, tso_empty, tso_set}
use Rattle.mm_flow.specs.declared.names.Named.{Named}
use Rattle.mm_flow.specs.declared.names.Seen.{Seen}
use Rattle.mm_flow.specs.Scopes.{named, spot_of}
use Rattle.mm_flow.specs.Statements.{Within, function_of, bound, scope}
use Rattle.mm_meaning.specs.Meaning.{View, Outcome, Done, Halted}
use Rattle.mm_meaning.specs.Acting.{at_slot, let_cell}
use Rattle.mm_meaning.proofs.Looks.{Looks}
use Rattle.mm_meaning.proofs.Gets.{Gets, num_gets, var_gets, bin_gets, elem_gets, gets_as}
use Rattle.mm_meaning.proofs.Does.{Does, DoesAll, nil, cons, ends, passes, halts, assigns_elem}
use Rattle.mm_meaning.proofs.Sized.{var_sized, knows_nil, knows_cons, assign_elem_knows}
use Rattle.mm_meaning.proofs.Calls.{Plain, num_plain, PlainAll, no_args, arg, BodyDoes, Called, entered, counted_before, length_set_all, set_all_below, calls}
use Rattle.mm_pieces.specs.Calling.{Inlines, body_of, empty_function, set_function}
use Rattle.mm_pieces.specs.Mirroring.{Table, IsSmall, array_at, HasArrays, Homes, Mirrors}
use Rattle.mm_pieces.proofs.Held.{is_b, not_b}
use Rattle.mm_pieces.proofs.Get.{is_equal}

-- whether the list is empty, by its length
pub empty_is : (ps : List Pending) → (length ps == 0) ≡ is_empty ps
empty_is [] = refl
empty_is (p ∷ ps) = grind arith

-- ---- the state behind a store that reaches its cell at once

module _ (tb : Table) (count size : ℕ) (home : ℕ → ℕ) (homes : Homes tb count size home) where
  pub mirrors_set : (a : View) (s : State) (c : ℕ) (v : ℤ) → Mirrors tb count size home a s → c < count → c < length s.memory →
      (b : View) → b.memory ≡ slice_set a.memory (home c) v → Mirrors tb count size home b (written s c v)
  mirrors_set a s c v like lc lm b e = record {
    size_is = ap length e ∙ length-set a.memory (home c) v ∙ like.size_is;
    threads = like.threads;
    memory = λ i li. ap (λ (x : List ℤ). at_slot x (home i)) e ∙ at_home i li (i == c) refl;
    held = record {
      fits = like.held.fits;
      lens = λ i q. other (tb.lens + i) (λ f. (let h = homes.before c lc in omega arith)) ∙ like.held.lens i q;
      cells = λ i k q l g. other (tb.cells + (i * tb.places + k)) (λ f. (let h = homes.before c lc in let h1 = homes.lens in omega arith)) ∙ like.held.cells i k q l g;
      vals = λ i k q l g. other (tb.vals + (i * tb.places + k)) (λ f. (let h = homes.before c lc in let h1 = homes.lens in let h2 = homes.cells in omega arith)) ∙ like.held.vals i k q l g;
    };
  }
    where
      other : (p : ℕ) → p ≢ home c → at_slot b.memory p ≡ at_slot a.memory p
      other p d = ap (λ (x : List ℤ). at_slot x p) e ∙ get_or-set_other a.memory (home c) p v (pos 0) d

      at_home : (i : ℕ) → i < count → (x : Bool) → (i == c) ≡ x → at_slot (slice_set a.memory (home c) v) (home i) ≡ at_slot (slice_set s.memory c v) i
      at_home i li true f = subst (λ j. at_slot (slice_set a.memory (home c) v) (home j) ≡ at_slot (slice_set s.memory c v) j) (sym (is_b i c f))
          (get_or-set_same a.memory (home c) v (pos 0) (let w = like.size_is in let hc = homes.before c lc in let h1 = homes.lens in let h2 = homes.cells in let h3 = homes.vals in omega arith) ∙ sym (get_or-set_same s.memory c v (pos 0) lm))
      at_home i li false f = let d = not_b i c f in
          get_or-set_other a.memory (home c) (home i) v (pos 0) (λ g. d (homes.apart i c li lc g)) ∙ like.memory i li ∙ sym (get_or-set_other s.memory c i v (pos 0) d)

-- ---- the test that both begin with

module _ (tb : Table) (small : IsSmall tb) (fuel m : ℕ) (w : Within) (arrays : HasArrays tb w.parts.spots) (names : List Named) (lt : ℕ) (t_below : lt < m) (a : View) (row n : ℕ) (below : row < tb.rows) (few : n ≤ tb.places) where
  -- wm_len[wm_t] == 0
  empty_gets : (k : ℕ) → Gets fuel m a (scope w names) k k (var wm_t) (pos row) → at_slot a.memory (tb.lens + row) ≡ pos n → Gets fuel m a (scope w names) k (k + 1) (equal (elem wm_len (var wm_t)) (num 0)) (binary_value binary.Eq (pos n) (pos 0))
  empty_gets k g is_len = bin_gets binary.Eq refl (λ p. refl) (gets_as is_len (elem_gets wm_len (array_at wm_len tb.lens tb.rows) row arrays.lens below g)) (num_gets (k + 1) 0)

  empty_test : is_zero (binary_value binary.Eq (pos n) (pos 0)) ≡ not (n == 0)
  empty_test = is_equal n 0 (let h = small.places in omega arith) (omega arith)

module _ (tb : Table) (count size : ℕ) (home : ℕ → ℕ) (homes : Homes tb count size home) (small : IsSmall tb) (fuel m asserts : ℕ) (w : Within) (inner : ℕ → Within) (inlines : Inlines w inner) (arrays : (r : ℕ) → HasArrays tb (inner r).parts.spots) where
  -- the next fresh local behind the call of wm_empty
  abbrev pub empty_next : ℕ → ℕ
  empty_next k = k + 1 + 1 + 1

  pub empty_agrees : function_of w.items w.parts.asserts wm_empty ≡ Some (empty_function asserts) → (names : List Named) (seen : Seen) (a : View) (s : State) (t k : ℕ) → Mirrors tb count size home a s → t < tb.rows → m ≤ k → empty_next k ≤ length a.locals →
      Does fuel m w names a seen k seen (empty_next k) (call wm_empty (num t ∷ [])) (if is_empty (pending_of s t) then Done a else Halted)
  empty_agrees items names seen a s t k like below mk room = calls wm_empty (empty_function asserts) refl items args (λ l look. called l look (is_empty (pending_of s t)) refl)
    where
      args : PlainAll fuel m a (scope w names) (num t ∷ []) (pos t ∷ [])
      args = arg (num_plain t) no_args

      into : View → View
      into l = entered l k (pos t ∷ []) 1

      inside : List Named
      inside = named wm_t k ∷ []

      wide : (l : View) → Looks m l a → length (into l).locals ≡ length a.locals
      wide l look = length-set (slice_set l.locals k (pos t)) (k + 1) (pos 0) ∙ length-set l.locals k (pos t) ∙ look.many

      old : (l : View) → Looks m l a → (r : ℕ) → r < m → at_slot (into l).locals r ≡ at_slot a.locals r
      old l look r q = get_or-set_other (slice_set l.locals k (pos t)) (k + 1) r (pos 0) (pos 0) (omega arith) ∙ get_or-set_other l.locals k r (pos t) (pos 0) (omega arith) ∙ look.locals r q

      is_t : (l : View) → Looks m l a → at_slot (into l).locals k ≡ pos t
      is_t l look = get_or-set_other (slice_set l.locals k (pos t)) (k + 1) k (pos 0) (pos 0) (omega arith) ∙ get_or-set_same l.locals k (pos t) (pos 0) (omega (arith, look.many))

      length_is : (l : View) → Looks m l a → at_slot (into l).memory (tb.lens + t) ≡ pos (length (pending_of s t))
      length_is l look = ap (λ (x : List ℤ). at_slot x (tb.lens + t)) look.memory ∙ like.held.lens t below

      test : (l : View) → Looks m l a → Gets fuel (k + 1 + 1) (into l) (scope (inner (k + 1)) (named wm_t k ∷ [])) (k + 1 + 1) (k + 1 + 1 + 1) (equal (elem wm_len (var wm_t)) (num 0)) (binary_value binary.Eq (pos (length (pending_of s t))) (pos 0))
      test l look = empty_gets tb small fuel (k + 1 + 1) (inner (k + 1)) (arrays (k + 1)) (named wm_t k ∷ []) k (omega arith) (into l) t (length (pending_of s t)) below (like.held.fits t below) (k + 1 + 1) (gets_as (is_t l look) (var_gets (k + 1 + 1) wm_t k (omega arith) refl)) (length_is l look)

      zero_is : (x : Bool) → is_empty (pending_of s t) ≡ x → is_zero (binary_value binary.Eq (pos (length (pending_of s t))) (pos 0)) ≡ not x
      zero_is x e = empty_test tb small fuel (k + 1 + 1) (inner (k + 1)) (arrays (k + 1)) (named wm_t k ∷ []) k (omega arith) a t (length (pending_of s t)) below (like.held.fits t below) ∙ ap not (empty_is (pending_of s t) ∙ e)

      body : (l : View) (o : Outcome) → DoesAll fuel (k + 1 + 1) (inner (k + 1)) (named wm_t k ∷ []) (into l) (counted_before (empty_function asserts)) (k + 1 + 1) (counted_before (empty_function asserts)) (k + 1 + 1 + 1) (body_of tso_empty) o → BodyDoes fuel w (empty_function asserts) k (empty_next k) (pos t ∷ []) l o
      body l o d = record { inner = inner (k + 1); later = counted_before (empty_function asserts); is = inlines.by (empty_function asserts) (named wm_t k ∷ []) (k + 1 + 1) (k + 1); does = d }

      called : (l : View) → Looks m l a → (x : Bool) → is_empty (pending_of s t) ≡ x → Called fuel m w (empty_function asserts) k (empty_next k) (pos t ∷ []) l (if x then Done a else Halted)
      called l look true e = record { end = Done (into l); body = body l (Done (into l)) (cons (passes (zero_is true e) (test l look)) refl (nil (k + 1 + 1 + 1))); like = record { memory = look.memory; inputs = look.inputs; many = wide l look; locals = old l look } }
      called l look false e = record { end = Halted; body = body l Halted (ends (halts (zero_is false e) (test l look)) (λ go. refl) (knows_nil (k + 1 + 1 + 1))); like = tt }

  -- the next fresh local behind the call of wm_set
  abbrev pub set_next : ℕ → ℕ
  set_next k = k + 3 + 1 + 1

  -- the view behind the call
  abbrev pub set_view : View → ℕ → ℤ → View
  set_view a c v = record { memory = slice_set a.memory (home c) v; locals = a.locals; inputs = a.inputs }

  pub set_agrees : (mem : ℕ) → ((r : ℕ) → spot_of (inner r).parts.spots wm_mem ≡ Some (array_at wm_mem mem count)) → function_of w.items w.parts.asserts wm_set ≡ Some (set_function asserts) →
      (names : List Named) (seen : Seen) (a : View) (s : State) (t c k : ℕ) (v : ℤ) (number value : Expr) → Mirrors tb count size home a s → t < tb.rows → m ≤ k → set_next k ≤ length a.locals → Plain fuel m a (scope w names) number (pos c) → Plain fuel m a (scope w names) value v → c < count → home c ≡ mem + c → c < length s.memory →
      Does fuel m w names a seen k seen (set_next k) (call wm_set (num t ∷ number ∷ value ∷ [])) (if is_empty (pending_of s t) then Done (set_view a c v) else Halted) × Mirrors tb count size home (set_view a c v) (written s c v)
  set_agrees mem is_mem items names seen a s t c k v number value like below mk room pc pv c_below moved in_memory = (
    calls wm_set (set_function asserts) refl items args (λ l look. called l look (is_empty (pending_of s t)) refl),
    mirrors_set tb count size home homes a s c v like c_below in_memory (set_view a c v) refl,
  )
    where
      args : PlainAll fuel m a (scope w names) (num t ∷ number ∷ value ∷ []) (pos t ∷ pos c ∷ v ∷ [])
      args = arg (num_plain t) (arg pc (arg pv no_args))

      into : View → View
      into l = entered l k (pos t ∷ pos c ∷ v ∷ []) 3

      wide : (l : View) → Looks m l a → length (into l).locals ≡ length a.locals
      wide l look = length-set _ (k + 3) (pos 0) ∙ length_set_all l.locals k (pos t ∷ pos c ∷ v ∷ []) ∙ look.many

      old : (l : View) → Looks m l a → (r : ℕ) → r < m → at_slot (into l).locals r ≡ at_slot a.locals r
      old l look r q = get_or-set_other _ (k + 3) r (pos 0) (pos 0) (omega arith) ∙ set_all_below l.locals k (pos t ∷ pos c ∷ v ∷ []) r (omega arith) ∙ look.locals r q

      l1 : View → List ℤ
      l1 l = slice_set l.locals k (pos t)

      l2 : View → List ℤ
      l2 l = slice_set (l1 l) (k + 1) (pos c)

      first : (l : View) → Looks m l a → at_slot (into l).locals k ≡ pos t
      first l look = get_or-set_other _ (k + 3) k (pos 0) (pos 0) (omega arith) ∙ get_or-set_other (l2 l) (k + 1 + 1) k v (pos 0) (omega arith) ∙ get_or-set_other (l1 l) (k + 1) k (pos c) (pos 0) (omega arith) ∙ get_or-set_same l.locals k (pos t) (pos 0) (omega (arith, look.many))

      second : (l : View) → Looks m l a → at_slot (into l).locals (k + 1) ≡ pos c
      second l look = get_or-set_other _ (k + 3) (k + 1) (pos 0) (pos 0) (omega arith) ∙ get_or-set_other (l2 l) (k + 1 + 1) (k + 1) v (pos 0) (omega arith) ∙ get_or-set_same (l1 l) (k + 1) (pos c) (pos 0) (omega (arith, look.many, length-set l.locals k (pos t)))

      third : (l : View) → Looks m l a → at_slot (into l).locals (k + 1 + 1) ≡ v
      third l look = get_or-set_other _ (k + 3) (k + 1 + 1) (pos 0) (pos 0) (omega arith) ∙ get_or-set_same (l2 l) (k + 1 + 1) v (pos 0) (omega (arith, look.many, length-set (l1 l) (k + 1) (pos c), length-set l.locals k (pos t)))

      length_is : (l : View) → Looks m l a → at_slot (into l).memory (tb.lens + t) ≡ pos (length (pending_of s t))
      length_is l look = ap (λ (x : List ℤ). at_slot x (tb.lens + t)) look.memory ∙ like.held.lens t below

      inside : List Named
      inside = bound (set_function asserts).params k

      test : (l : View) → Looks m l a → Gets fuel (k + 3 + 1) (into l) (scope (inner (k + 3)) (bound (set_function asserts).params k)) (k + 3 + 1) (k + 3 + 1 + 1) (equal (elem wm_len (var wm_t)) (num 0)) (binary_value binary.Eq (pos (length (pending_of s t))) (pos 0))
      test l look = empty_gets tb small fuel (k + 3 + 1) (inner (k + 3)) (arrays (k + 3)) (bound (set_function asserts).params k) k (omega arith) (into l) t (length (pending_of s t)) below (like.held.fits t below) (k + 3 + 1) (gets_as (first l look) (var_gets (k + 3 + 1) wm_t k (omega arith) refl)) (length_is l look)

      zero_is : (x : Bool) → is_empty (pending_of s t) ≡ x → is_zero (binary_value binary.Eq (pos (length (pending_of s t))) (pos 0)) ≡ not x
      zero_is x e = is_equal (length (pending_of s t)) 0 (let h = small.places in let f = like.held.fits t below in omega arith) (omega arith) ∙ ap not (empty_is (pending_of s t) ∙ e)

      stored : (l : View) → Looks m l a → Does fuel (k + 3 + 1) (inner (k + 3)) (bound (set_function asserts).params k) (into l) (counted_before (set_function asserts)) (k + 3 + 1 + 1) (counted_before (set_function asserts)) (k + 3 + 1 + 1) (assign_elem wm_mem (var wm_c) (var wm_v)) (Done (let_cell (into l) (mem + c) v))
      stored l look = assigns_elem wm_mem (array_at wm_mem mem count) c (is_mem (k + 3)) c_below (gets_as (second l look) (var_gets (k + 3 + 1 + 1) wm_c (k + 1) (omega arith) refl)) (gets_as (third l look) (var_gets (k + 3 + 1 + 1) wm_v (k + 1 + 1) (omega arith) refl))

      body : (l : View) (o : Outcome) → DoesAll fuel (k + 3 + 1) (inner (k + 3)) (bound (set_function asserts).params k) (into l) (counted_before (set_function asserts)) (k + 3 + 1) (counted_before (set_function asserts)) (k + 3 + 1 + 1) (body_of tso_set) o → BodyDoes fuel w (set_function asserts) k (set_next k) (pos t ∷ pos c ∷ v ∷ []) l o
      body l o d = record { inner = inner (k + 3); later = counted_before (set_function asserts); is = inlines.by (set_function asserts) (bound (set_function asserts).params k) (k + 3 + 1) (k + 3); does = d }

      called : (l : View) → Looks m l a → (x : Bool) → is_empty (pending_of s t) ≡ x → Called fuel m w (set_function asserts) k (set_next k) (pos t ∷ pos c ∷ v ∷ []) l (if x then Done (set_view a c v) else Halted)
      called l look true e = record {
        end = Done (let_cell (into l) (mem + c) v);
        body = body l (Done (let_cell (into l) (mem + c) v)) (cons (passes (zero_is true e) (test l look)) refl (cons (stored l look) refl (nil (k + 3 + 1 + 1))));
        like = record { memory = ap (λ (x : List ℤ). slice_set x (mem + c) v) look.memory ∙ ap (λ i. slice_set a.memory i v) (sym moved); inputs = look.inputs; many = wide l look; locals = old l look };
      }
      called l look false e = record {
        end = Halted;
        body = body l Halted (ends (halts (zero_is false e) (test l look)) (λ go. refl) (knows_cons (assign_elem_knows wm_mem (var_sized (k + 3 + 1 + 1) wm_c (k + 1) refl) (var_sized (k + 3 + 1 + 1) wm_v (k + 1 + 1) refl)) (knows_nil (k + 3 + 1 + 1))));
        like = tt;
      }
