-- What wm_empty does under PSO: no store of the thread is pending to any cell.
use Rattle.std.proofs.Common.{arith, ◌≡◌, ℕ, zero, suc, ◌+◌, ◌*◌, ◌^◌, ◌<◌, ◌≤◌, ◌≢◌, ⊎_elim, ℤ, pos, Bool, true, false, not, List, [], ◌∷◌, length, Some, refl, sym, ◌∙◌, ap, subst, slice_get, slice_set, nat_lt, ◌==◌, if◌then◌else◌}
use Rattle.std.specs.List.{filter}
use Rattle.std.proofs.lemmas.List.{length-set, get_or-set_same, get_or-set_other}
use Rattle.std.proofs.lemmas.Bool.{lt-ltb, le-ltb, eq-eqb, cases_eq}
use Rattle.mm_goto.specs.Value.{is_zero, binary_value}
use Rattle.mm_goto.specs.declared.pure.Binary.TheVariants as binary
use Rattle.mm_sched.specs.State.{State, Pending, pending_of}
use Rattle.mm_sched.specs.Buffer.{is_empty, is_to}
use Rattle.mm_tree.specs.declared.expr.Expr.{Expr}
use Rattle.mm_tree.specs.declared.stmt.Stmt.{Stmt}
use Rattle.mm_words.specs.Words.{num, var, elem, equal, less, call, while, block, assume, assign}
use Rattle.mm_helpers.specs.Helpers.{wm_t, wm_c, wm_len, wm_empty, in_row, step, pso_empty}
use Rattle.mm_flow.specs.declared.names.Named.{Named}
use Rattle.mm_flow.specs.declared.names.Seen.{Seen}
use Rattle.mm_flow.specs.Scopes.{named}
use Rattle.mm_flow.specs.Statements.{Within, function_of, bound, scope}
use Rattle.mm_meaning.specs.Meaning.{View, Outcome, Done, Halted}
use Rattle.mm_meaning.specs.Acting.{at_slot, let_local}
use Rattle.mm_meaning.proofs.Looks.{Looks}
use Rattle.mm_meaning.proofs.Numbers.{sum_is, truth_zero}
use Rattle.mm_meaning.proofs.Gets.{Gets, num_gets, var_gets, bin_gets, elem_gets, gets_as}
use Rattle.mm_meaning.proofs.Does.{Does, DoesAll, nil, cons, ends, passes, halts, assigns, plain}
use Rattle.mm_meaning.proofs.Loops.{blocks, declares, whiles, Turns, stop, turn, leave}
use Rattle.mm_meaning.proofs.Sized.{KnowsOne, num_sized, var_sized, bin_sized, elem_sized, knows_nil, knows_cons, assume_knows, assign_knows, block_knows}
use Rattle.mm_meaning.proofs.Calls.{num_plain, PlainAll, no_args, arg, Called, entered, counted_before, calls}
use Rattle.mm_pieces.specs.Calling.{Inlines, body_of}
use Rattle.mm_pieces.specs.Mirroring.{array_at}
use Rattle.mm_pieces.specs.Parts.{PartTable, AreFew, HasPartArrays, SeesParts, MirrorsParts, parts_of, pso_empty_function}
use Rattle.mm_pieces.proofs.Get.{is_equal}
use Rattle.mm_pieces.proofs.PutPart.{in_row_gets, rows_fit, row_below}
use Rattle.mm_pieces.proofs.Entering.{entered_wide, entered_old, entered_arg}

-- the d rows from i on are empty, by their lengths
abbrev pub none_from : (ℕ → ℕ) → (i d : ℕ) → Bool
none_from ns i zero = true
none_from ns i (suc d) = if ns i == 0 then none_from ns (i + 1) d else false

module _ (tb : PartTable) (few : AreFew tb) (fuel : ℕ) (w : Within) (seen : Seen) (arrays : HasPartArrays tb w.parts.spots) (lt slot : ℕ) (t_below : lt < slot) (t : ℕ) (lt_t : t < tb.threads) (ns : ℕ → ℕ) (ns_small : (d : ℕ) → d < tb.cells → ns d < 2 ^ 31) where
  abbrev names : List Named
  names = named wm_t lt ∷ named wm_c slot ∷ []

  abbrev m : ℕ
  m = slot + 1

  -- the view before the turn i
  abbrev pub scanned : View → ℕ → View
  scanned a zero = let_local (let_local a slot (pos 0)) slot (pos 0)
  scanned a (suc i) = let_local (scanned a i) slot (pos (i + 1))

  abbrev test : Expr
  test = equal (elem wm_len (in_row wm_t tb.cells (var wm_c))) (num 0)

  abbrev body : List Stmt
  body = assume test ∷ step wm_c ∷ []

  abbrev condition : Expr
  condition = less (var wm_c) (num tb.cells)

  pub record Ready (a : View) (i : ℕ) : Type 0 where
    pub is_t : at_slot a.locals lt ≡ pos t
    pub is_c : at_slot a.locals slot ≡ pos i
    pub lens : (d : ℕ) → d < tb.cells → at_slot a.memory (tb.lens + (t * tb.cells + d)) ≡ pos (ns d)
    pub wide : m ≤ length a.locals

  ready_on : (a : View) (i j : ℕ) → j ≡ i + 1 → Ready a i → Ready (let_local a slot (pos (i + 1))) j
  ready_on a i j e r = record {
    is_t = get_or-set_other a.locals slot lt (pos (i + 1)) (pos 0) (omega arith) ∙ r.is_t;
    is_c = get_or-set_same a.locals slot (pos (i + 1)) (pos 0) (let h = r.wide in omega arith) ∙ ap pos (sym e);
    lens = r.lens;
    wide = let h = r.wide in omega (arith, length-set a.locals slot (pos (i + 1)));
  }

  condition_gets : (a : View) (i k : ℕ) → Ready a i → Gets fuel m a (scope w names) k k condition (binary_value binary.Lt (pos i) (pos tb.cells))
  condition_gets a i k r = bin_gets binary.Lt refl (λ p. refl) (gets_as r.is_c (var_gets k wm_c slot (omega arith) refl)) (num_gets k tb.cells)

  test_gets : (a : View) (i k : ℕ) → i < tb.cells → Ready a i → Gets fuel m a (scope w names) k (k + 1) test (binary_value binary.Eq (pos (ns i)) (pos 0))
  test_gets a i k h r = bin_gets binary.Eq refl (λ p. refl) (gets_as (r.lens i h) (elem_gets wm_len (array_at wm_len tb.lens (tb.threads * tb.cells)) (t * tb.cells + i) arrays.lens (row_below tb t i lt_t h)
      (in_row_gets wm_t tb.threads tb.cells t i refl lt_t h few.threads few.cells (rows_fit few) (gets_as r.is_t (var_gets k wm_t lt (omega arith) refl)) (gets_as r.is_c (var_gets k wm_c slot (omega arith) refl))))) (num_gets (k + 1) 0)

  step_does : (a : View) (i k : ℕ) → i < tb.cells → Ready a i → Does fuel m w names a seen k seen k (step wm_c) (Done (let_local a slot (pos (i + 1))))
  step_does a i k h r = (let f = few.cells in assigns wm_c slot refl r.wide (plain (gets_as (sum_is i 1 (omega arith)) (bin_gets binary.Add refl (λ p. refl) (gets_as r.is_c (var_gets k wm_c slot (omega arith) refl)) (num_gets k 1)))))

  step_knows : (k : ℕ) → KnowsOne w names seen k seen k (step wm_c)
  step_knows k = assign_knows wm_c slot refl (bin_sized binary.Add refl (var_sized k wm_c slot refl) (num_sized k 1))

  body_knows : (k : ℕ) → KnowsOne w names seen k seen (k + 1) (block body)
  body_knows k = block_knows (knows_cons (assume_knows (bin_sized binary.Eq refl (elem_sized wm_len (bin_sized binary.Add refl (bin_sized binary.Mul refl (var_sized k wm_t lt refl) (num_sized k tb.cells)) (var_sized k wm_c slot refl))) (num_sized (k + 1) 0)))
      (knows_cons (step_knows (k + 1)) (knows_nil (k + 1))))

  -- d turns are left
  turns_do : (d i k turns : ℕ) (a : View) → i + d ≡ tb.cells → d < turns → Ready (scanned a i) i → Turns fuel m w names seen k k (k + 1) condition (block body) turns (scanned a i) (if none_from ns i d then Done (scanned a tb.cells) else Halted)
  turns_do d i k zero a e h r = absurd (omega arith)
  turns_do zero i k (suc turns) a e h r =
      let same : tb.cells ≡ i = omega arith in
      subst (λ z. Turns fuel m w names seen k k (k + 1) condition (block body) (suc turns) (scanned a i) (Done (scanned a z))) (sym same)
      (stop turns (condition_gets (scanned a i) i k r) (omega arith) (truth_zero (nat_lt i tb.cells) ∙ ap not (le-ltb i tb.cells (omega arith))))
  turns_do (suc d) i k (suc turns) a e h r = by (ns i == 0) refl (λ q. turns_do d (suc i) k turns a (omega arith) (omega arith) q)
    where
      inside : i < tb.cells
      inside = omega arith

      goes : is_zero (binary_value binary.Lt (pos i) (pos tb.cells)) ≡ false
      goes = truth_zero (nat_lt i tb.cells) ∙ ap not (lt-ltb i tb.cells (omega arith))

      by : (x : Bool) → (ns i == 0) ≡ x → (Ready (scanned a (suc i)) (suc i) → Turns fuel m w names seen k k (k + 1) condition (block body) turns (scanned a (suc i)) (if none_from ns (suc i) d then Done (scanned a tb.cells) else Halted)) →
          Turns fuel m w names seen k k (k + 1) condition (block body) (suc turns) (scanned a i) (if (if x then none_from ns (i + 1) d else false) then Done (scanned a tb.cells) else Halted)
      by true f on = turn turns (condition_gets (scanned a i) i k r) goes (blocks (cons (passes (is_equal (ns i) 0 (ns_small i inside) (omega arith) ∙ ap not f) (test_gets (scanned a i) i k inside r)) refl (cons (step_does (scanned a i) i (k + 1) inside r) (length-set (scanned a i).locals slot (pos (i + 1))) (nil (k + 1))))) (λ g. refl) (length-set (scanned a i).locals slot (pos (i + 1)))
          (let same : suc i ≡ i + 1 = omega arith in subst (λ z. Turns fuel m w names seen k k (k + 1) condition (block body) turns (scanned a (suc i)) (if none_from ns z d then Done (scanned a tb.cells) else Halted)) same (on (ready_on (scanned a i) i (suc i) same r)))
      by false f on = leave turns (condition_gets (scanned a i) i k r) goes (blocks (ends (halts (is_equal (ns i) 0 (ns_small i inside) (omega arith) ∙ ap not f) (test_gets (scanned a i) i k inside r)) (λ go. refl) (knows_cons (step_knows (k + 1)) (knows_nil (k + 1))))) (λ g. refl)

  pub length_scanned : (a : View) (i : ℕ) → length (scanned a i).locals ≡ length a.locals
  length_scanned a zero = length-set (slice_set a.locals slot (pos 0)) slot (pos 0) ∙ length-set a.locals slot (pos 0)
  length_scanned a (suc i) = length-set (scanned a i).locals slot (pos (i + 1)) ∙ length_scanned a i

  pub scanned_local : (a : View) (i r : ℕ) → r ≢ slot → at_slot (scanned a i).locals r ≡ at_slot a.locals r
  scanned_local a zero r d = get_or-set_other (slice_set a.locals slot (pos 0)) slot r (pos 0) (pos 0) d ∙ get_or-set_other a.locals slot r (pos 0) (pos 0) d
  scanned_local a (suc i) r d = get_or-set_other (scanned a i).locals slot r (pos (i + 1)) (pos 0) d ∙ scanned_local a i r d

  pub scanned_memory : (a : View) (i : ℕ) → (scanned a i).memory ≡ a.memory
  scanned_memory a zero = refl
  scanned_memory a (suc i) = scanned_memory a i

  pub scanned_inputs : (a : View) (i : ℕ) → (scanned a i).inputs ≡ a.inputs
  scanned_inputs a zero = refl
  scanned_inputs a (suc i) = scanned_inputs a i

  pub empty_part_does : (a : View) → at_slot a.locals lt ≡ pos t → ((d : ℕ) → d < tb.cells → at_slot a.memory (tb.lens + (t * tb.cells + d)) ≡ pos (ns d)) → slot + 1 ≤ length a.locals → tb.cells < fuel →
      DoesAll fuel slot w (named wm_t lt ∷ []) a seen slot seen (slot + 1 + 1) (body_of (pso_empty tb.cells)) (if none_from ns 0 tb.cells then Done (scanned a tb.cells) else Halted)
  empty_part_does a is_t is_len wide fueled = declares false wm_c (cons first (length-set (slice_set a.locals slot (pos 0)) slot (pos 0)) (last (none_from ns 0 tb.cells) (turns_do tb.cells 0 m fuel a (omega arith) fueled ready)))
    where
      ready : Ready (scanned a zero) 0
      ready = record {
        is_t = get_or-set_other (slice_set a.locals slot (pos 0)) slot lt (pos 0) (pos 0) (omega arith) ∙ get_or-set_other a.locals slot lt (pos 0) (pos 0) (omega arith) ∙ is_t;
        is_c = get_or-set_same (slice_set a.locals slot (pos 0)) slot (pos 0) (pos 0) (omega (arith, length-set a.locals slot (pos 0)));
        lens = is_len;
        wide = omega (arith, length-set (slice_set a.locals slot (pos 0)) slot (pos 0), length-set a.locals slot (pos 0));
      }

      first : Does fuel m w names (let_local a slot (pos 0)) seen m seen m (assign wm_c (num 0)) (Done (scanned a zero))
      first = assigns wm_c slot refl (omega (arith, length-set a.locals slot (pos 0))) (plain (num_gets m 0))

      looped : {o : Outcome} → Turns fuel m w names seen m m (m + 1) condition (block body) fuel (scanned a zero) o → Does fuel m w names (scanned a zero) seen m seen (m + 1) (while condition body) o
      looped q = whiles (condition_gets (scanned a zero) 0 m ready).is.next (omega arith) (omega arith) (body_knows m).known q

      last : (x : Bool) → Turns fuel m w names seen m m (m + 1) condition (block body) fuel (scanned a zero) (if x then Done (scanned a tb.cells) else Halted) → DoesAll fuel m w names (scanned a zero) seen m seen (m + 1) (while condition body ∷ []) (if x then Done (scanned a tb.cells) else Halted)
      last true q = cons (looped q) (length_scanned a tb.cells ∙ sym (length_scanned a zero)) (nil (m + 1))
      last false q = ends (looped q) (λ go. refl) (knows_nil (m + 1))

-- ---- nothing is pending where nothing is pending to any cell

none_all : (ns : ℕ → ℕ) (i d : ℕ) → ((j : ℕ) → ns j ≡ 0) → none_from ns i d ≡ true
none_all ns i zero h = refl
none_all ns i (suc d) h = rw (eq-eqb (ns i) 0 (h i)) (none_all ns (i + 1) d h)

some_none : (ns : ℕ → ℕ) (i d j : ℕ) → i ≤ j → j < i + d → (ns j == 0) ≡ false → none_from ns i d ≡ false
some_none ns i zero j h g e = absurd (omega arith)
some_none ns i (suc d) j h g e = ⊎_elim (λ (q : i ≡ j). here q) (λ q. by (ns i == 0) (some_none ns (i + 1) d j (omega arith) (omega arith) e)) (cases_eq i j)
  where
    here : i ≡ j → (if ns i == 0 then none_from ns (i + 1) d else false) ≡ false
    here q = ap (λ b. if b then none_from ns (i + 1) d else false) (ap (λ z. ns z == 0) q ∙ e)

    by : (x : Bool) → none_from ns (i + 1) d ≡ false → (if x then none_from ns (i + 1) d else false) ≡ false
    by true f = f
    by false f = refl

pub none_is : (ps : List Pending) (cells : ℕ) → ((i : ℕ) (q : Pending) → slice_get ps i ≡ Some q → q.0 < cells) → none_from (λ d. length (filter (is_to d) ps)) 0 cells ≡ is_empty ps
none_is [] cells h = none_all (λ d. 0) 0 cells (λ j. refl)
none_is (x ∷ ps) cells h = some_none (λ d. length (filter (is_to d) (x ∷ ps))) 0 cells x.0 (omega arith) (let f = h 0 x refl in omega arith) (rw (eq-eqb x.0 x.0 refl) (let e : (suc (length (filter (is_to x.0) ps)) == 0) ≡ false = grind arith in e))

-- ---- the call

module _ (tb : PartTable) (size : ℕ) (home : ℕ → ℕ) (few : AreFew tb) (fuel m asserts mem : ℕ) (w : Within) (inner : ℕ → Within) (inlines : Inlines w inner) (sees : SeesParts tb mem inner) (items : function_of w.items w.parts.asserts wm_empty ≡ Some (pso_empty_function tb asserts)) where
  -- the next fresh local behind the call
  abbrev pub empty_part_next : ℕ → ℕ
  empty_part_next k = k + 1 + 1 + 1 + 1

  pub empty_part_agrees : (names : List Named) (seen : Seen) (a : View) (s : State) (t k : ℕ) → MirrorsParts tb size home a s → t < tb.threads → m ≤ k → empty_part_next k ≤ length a.locals → tb.cells < fuel → ((i : ℕ) (q : Pending) → slice_get (pending_of s t) i ≡ Some q → q.0 < tb.cells) →
      Does fuel m w names a seen k seen (empty_part_next k) (call wm_empty (num t ∷ [])) (if is_empty (pending_of s t) then Done a else Halted)
  empty_part_agrees names seen a s t k like lt mk room fueled inside = subst (λ x. Does fuel m w names a seen k seen (empty_part_next k) (call wm_empty (num t ∷ [])) (if x then Done a else Halted)) (none_is (pending_of s t) tb.cells inside)
      (calls wm_empty (pso_empty_function tb asserts) refl items args (λ l look. called l look (none_from (λ d. length (parts_of s t d)) 0 tb.cells)
      (empty_part_does tb few fuel (inner (k + 1)) counted (sees.arrays (k + 1)) k (k + 1 + 1) (omega arith) t lt (λ d. length (parts_of s t d)) small (into l)
      (entered_arg mk (pos t ∷ []) (omega arith) l look k 0 (pos t) (omega arith) (omega arith) refl) (λ d q. ap (λ (x : List ℤ). at_slot x (tb.lens + (t * tb.cells + d))) look.memory ∙ like.held.lens t d lt q) (omega (arith, entered_wide mk (pos t ∷ []) (omega arith) l look)) fueled)))
    where
      counted : Seen
      counted = counted_before (pso_empty_function tb asserts)

      args : PlainAll fuel m a (scope w names) (num t ∷ []) (pos t ∷ [])
      args = arg (num_plain t) no_args

      into : View → View
      into l = entered l k (pos t ∷ []) 1

      small : (d : ℕ) → d < tb.cells → length (parts_of s t d) < 2 ^ 31
      small d q = let h = few.places in let f = like.held.fits t d lt q in omega arith

      end : View → View
      end l = scanned tb few fuel (inner (k + 1)) counted (sees.arrays (k + 1)) k (k + 1 + 1) (omega arith) t lt (λ d. length (parts_of s t d)) small (into l) tb.cells

      reached : (l : View) → Looks m l a → Looks m (end l) a
      reached l look = record {
        memory = scanned_memory tb few fuel (inner (k + 1)) counted (sees.arrays (k + 1)) k (k + 1 + 1) (omega arith) t lt (λ d. length (parts_of s t d)) small (into l) tb.cells ∙ look.memory;
        inputs = scanned_inputs tb few fuel (inner (k + 1)) counted (sees.arrays (k + 1)) k (k + 1 + 1) (omega arith) t lt (λ d. length (parts_of s t d)) small (into l) tb.cells ∙ look.inputs;
        many = length_scanned tb few fuel (inner (k + 1)) counted (sees.arrays (k + 1)) k (k + 1 + 1) (omega arith) t lt (λ d. length (parts_of s t d)) small (into l) tb.cells ∙ entered_wide mk (pos t ∷ []) (omega arith) l look;
        locals = λ r q. scanned_local tb few fuel (inner (k + 1)) counted (sees.arrays (k + 1)) k (k + 1 + 1) (omega arith) t lt (λ d. length (parts_of s t d)) small (into l) tb.cells r (omega arith) ∙ entered_old mk (pos t ∷ []) (omega arith) l look r q;
      }

      called : (l : View) → Looks m l a → (x : Bool) → DoesAll fuel (k + 1 + 1) (inner (k + 1)) (bound (pso_empty_function tb asserts).params k) (into l) counted (k + 1 + 1) counted (empty_part_next k) (body_of (pso_empty tb.cells)) (if x then Done (end l) else Halted) → Called fuel m w (pso_empty_function tb asserts) k (empty_part_next k) (pos t ∷ []) l (if x then Done a else Halted)
      called l look true d = record { end = Done (end l); body = record { inner = inner (k + 1); later = counted; is = inlines.by (pso_empty_function tb asserts) (bound (pso_empty_function tb asserts).params k) (k + 1 + 1) (k + 1); does = d }; like = reached l look }
      called l look false d = record { end = Halted; body = record { inner = inner (k + 1); later = counted; is = inlines.by (pso_empty_function tb asserts) (bound (pso_empty_function tb asserts).params k) (k + 1 + 1) (k + 1); does = d }; like = tt }
