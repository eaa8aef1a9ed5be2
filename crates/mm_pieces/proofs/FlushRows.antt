-- The body of wm_flush under PSO, where each row is of a thread and a cell.
use Rattle.std.proofs.Common.{arith, ◌≡◌, ℕ, zero, suc, ◌+◌, ◌*◌, ◌<◌, ◌≤◌, ⊎_elim, ℤ, pos, Bool, true, false, List, [], ◌∷◌, length, Some, refl, sym, ◌∙◌, ap, subst, cond, ◌==◌, ◌/◌, ◌%◌}
use Rattle.std.specs.List.{filter}
use Rattle.std.proofs.lemmas.Nat.{mod_below, div-add-mod'}
use Rattle.std.proofs.lemmas.Bool.{cases_lt}
use Rattle.std.proofs.lemmas.List.{length-set}
use Rattle.std.proofs.Math.Nat.{mul-le-mul_right}
use Rattle.mm_goto.specs.declared.pure.Binary.TheVariants as binary
use Rattle.mm_sched.specs.State.{State, Pending}
use Rattle.mm_sched.specs.Buffer.{is_to}
use Rattle.mm_sched.specs.Event.{flushed}
use Rattle.mm_words.specs.Words.{num, var, minus, times, block, call}
use Rattle.mm_helpers.specs.Helpers.{flush, wm_n, wm_b, wm_j, wm_mem, wm_len, wm_val, wm_pop, in_row, shift, step, pso_pop}
use Rattle.mm_flow.specs.declared.names.Seen.{Seen}
use Rattle.mm_flow.specs.Scopes.{named}
use Rattle.mm_flow.specs.Statements.{Within, Did, function_of, bound, scope}
use Rattle.mm_meaning.specs.Meaning.{View, Outcome, Done}
use Rattle.mm_meaning.proofs.Sized.{Sized, KnowsOne, num_sized, var_sized, bin_sized, elem_sized, knows_nil, knows_cons, assign_knows, assign_elem_knows, block_knows}
use Rattle.mm_meaning.proofs.Does.{Does, DoesAll}
use Rattle.mm_meaning.proofs.Calls.{Plain, no_args, arg, counted_before}
use Rattle.mm_pieces.specs.Calling.{Inlines, body_of}
use Rattle.mm_pieces.specs.Flushing.{asked}
use Rattle.mm_pieces.specs.Parts.{PartTable, AreFew, HasPartArrays, SeesParts, PartHomes, MirrorsParts, SafeParts, parts_of, cell_rows, pso_pop_function}
use Rattle.mm_pieces.proofs.Held.{is_b}
use Rattle.mm_pieces.proofs.Taking.{Takes, takes, takes_declared, while_knows, call_knows}
use Rattle.mm_pieces.proofs.Parting.{parts_flushed, row_same}
use Rattle.mm_pieces.proofs.PoppedPart.{popped_part, mirrors_pop_part}
use Rattle.mm_pieces.proofs.FlushPart.{pop_part_agrees}
use Rattle.mm_pieces.proofs.Mirrored.{mirrors_part_as}
use Rattle.mm_pieces.proofs.FlushTurns as turns

-- ---- how many fresh locals wm_pop takes

module _ (tb : PartTable) (w : Within) (seen : Seen) (lt slot : ℕ) where
  base_sized : (k : ℕ) → Sized (scope w (named wm_b lt ∷ named wm_j slot ∷ [])) k k (times (var wm_b) (num tb.places))
  base_sized k = bin_sized binary.Mul refl (var_sized k wm_b lt refl) (num_sized k tb.places)

  place_sized : (k : ℕ) → Sized (scope w (named wm_b lt ∷ named wm_j slot ∷ [])) k k (in_row wm_b tb.places (var wm_j))
  place_sized k = bin_sized binary.Add refl (base_sized k) (var_sized k wm_j slot refl)

  turn_knows : (k : ℕ) → KnowsOne w (named wm_b lt ∷ named wm_j slot ∷ []) seen k seen (k + 1) (block (shift wm_val wm_b tb.places ∷ step wm_j ∷ []))
  turn_knows k = block_knows
      (knows_cons (assign_elem_knows wm_val (place_sized k) (elem_sized wm_val (bin_sized binary.Add refl (place_sized k) (num_sized k 1))))
      (knows_cons (assign_knows wm_j slot refl (bin_sized binary.Add refl (var_sized (k + 1) wm_j slot refl) (num_sized (k + 1) 1)))
      (knows_nil (k + 1))))

  pop_part_takes : Takes w (named wm_b lt ∷ []) seen slot (slot + 1 + 1 + 1 + 1 + 1) (body_of (pso_pop tb.cells tb.places))
  pop_part_takes = takes_declared false wm_j (takes
      (knows_cons (assign_elem_knows wm_mem (bin_sized binary.Rem refl (var_sized (slot + 1) wm_b lt refl) (num_sized (slot + 1) tb.cells)) (elem_sized wm_val (base_sized (slot + 1))))
      (knows_cons (assign_elem_knows wm_len (var_sized (slot + 1 + 1) wm_b lt refl) (bin_sized binary.Sub refl (elem_sized wm_len (var_sized (slot + 1 + 1) wm_b lt refl)) (num_sized (slot + 1 + 1 + 1) 1)))
      (knows_cons (assign_knows wm_j slot refl (num_sized (slot + 1 + 1 + 1) 0))
      (knows_cons (while_knows (bin_sized binary.Lt refl (var_sized (slot + 1 + 1 + 1) wm_j slot refl) (elem_sized wm_len (var_sized (slot + 1 + 1 + 1) wm_b lt refl))) (turn_knows (slot + 1 + 1 + 1 + 1)))
      (knows_nil (slot + 1 + 1 + 1 + 1 + 1)))))))

-- ---- rows by their numbers

positive : (n K b : ℕ) → b < n * K → 0 < K
positive n zero b h = absurd (omega arith)
positive n (suc k) b h = omega arith

pub cell_below : (n K b : ℕ) → b < n * K → b % K < K
cell_below n K b h = mod_below b K (positive n K b h)

pub thread_below : (n K b : ℕ) → b < n * K → b / K < n
thread_below n K b h = ⊎_elim (λ q. q) (λ q. absurd (let f : n * K ≤ b / K * K = mul-le-mul_right K q in let g = div-add-mod' b K in omega arith)) (cases_lt (b / K) n)

-- the stores of a row are to its cell
part_cell : (ps : List Pending) (c : ℕ) (q : Pending) (rest : List Pending) → filter (is_to c) ps ≡ q ∷ rest → q.0 ≡ c
part_cell [] c q rest e = cc
part_cell (x ∷ ps) c q rest e = by (x.0 == c) refl e (part_cell ps c q rest)
  where
    by : (b : Bool) → (x.0 == c) ≡ b → cond b (x ∷ filter (is_to c) ps) (filter (is_to c) ps) ≡ q ∷ rest → (filter (is_to c) ps ≡ q ∷ rest → q.0 ≡ c) → q.0 ≡ c
    by true d f ih = let same : x ≡ q = cc in ap (λ (z : Pending). z.0) (sym same) ∙ is_b x.0 c d
    by false d f ih = ih f

memory_flushed : (s : State) (t c : ℕ) (v : ℤ) → length (flushed s t c v).memory ≡ length s.memory
unfolding flushed
memory_flushed s t c v = length-set s.memory c v

module _ (tb : PartTable) (size : ℕ) (home : ℕ → ℕ) (homes : PartHomes tb size home) (mem shorter : ℕ) where
  -- memory behind a flush of row b to cell c
  abbrev pub popped_row : List ℤ → (b n c : ℕ) → ℤ → List ℤ
  popped_row memory b n c x = popped_part tb memory b n (home c) x

  safe_flushed : (s : State) (u c : ℕ) (x : ℤ) (rest : List Pending) → u < length s.pending → c < tb.cells → parts_of s u c ≡ (c, x) ∷ rest → u < tb.threads → SafeParts tb home mem shorter s → SafeParts tb home mem shorter (flushed s u c x)
  safe_flushed s u c x rest there lc is lu h = record {
    to = λ v d lv ld some. to_at v d lv ld some (v * tb.cells + d == u * tb.cells + c) refl;
    short = λ v d lv ld. short_at v d lv ld (v * tb.cells + d == u * tb.cells + c) refl;
  }
    where
      still : (d : ℕ) → (home d ≡ mem + d) × (d < length s.memory) → (home d ≡ mem + d) × (d < length (flushed s u c x).memory)
      still d y = (y.0, (let e = y.1 in omega (arith, memory_flushed s u c x)))

      to_at : (v d : ℕ) → v < tb.threads → d < tb.cells → 0 < length (parts_of (flushed s u c x) v d) → (z : Bool) → (v * tb.cells + d == u * tb.cells + c) ≡ z → (home d ≡ mem + d) × (d < length (flushed s u c x).memory)
      to_at v d lv ld some true e = still d (subst (λ i. (home i ≡ mem + i) × (i < length s.memory)) (sym (row_same tb.cells v d u c ld lc (is_b (v * tb.cells + d) (u * tb.cells + c) e)).1) (h.to u c lu lc (let many = ap length is in omega arith)))
      to_at v d lv ld some false e = still d (h.to v d lv ld (subst (λ ps. 0 < length ps) (sym (parts_flushed tb s u c x rest v d there lc ld is false e)) some))

      short_at : (v d : ℕ) → v < tb.threads → d < tb.cells → (z : Bool) → (v * tb.cells + d == u * tb.cells + c) ≡ z → length (parts_of (flushed s u c x) v d) < shorter
      short_at v d lv ld true e = (let a = h.short u c lu lc in let b = ap length is in let f = ap length (parts_flushed tb s u c x rest v d there lc ld is true e) in omega arith)
      short_at v d lv ld false e = subst (λ ps. length ps < shorter) (parts_flushed tb s u c x rest v d there lc ld is false e) (h.short v d lv ld)

  module _ (few : AreFew tb) (fuel asserts slot : ℕ) (fueled : shorter ≤ fuel) (w : Within) (seen : Seen) (inner : ℕ → Within) (inlines : Inlines w inner) (here : HasPartArrays tb w.parts.spots) (sees : SeesParts tb mem inner) (mem_len : mem + tb.cells ≤ tb.lens) (items : function_of w.items w.parts.asserts wm_pop ≡ Some (pso_pop_function tb asserts)) where
    -- the next fresh local behind the call of wm_pop
    abbrev after : ℕ → ℕ
    after k = k + 1 + 1 + 1 + 1 + 1 + 1 + 1 + 1

    abbrev pub flush_rows_next : ℕ
    flush_rows_next = after (slot + 1 + 1) + 1

    -- a call of wm_pop for row b to cell c
    abbrev Pops : View → State → (u b c k : ℕ) → ℤ → List Pending → Type 0
    Pops a s u b c k x rest = Does fuel (slot + 1) w (named wm_n slot ∷ []) a seen (k + 1) seen (after k) (call wm_pop (minus (var wm_n) (num 1) ∷ [])) (Done (record { memory = popped_row a.memory b (length rest) c x; locals = a.locals; inputs = a.inputs })) × MirrorsParts tb size home (record { memory = popped_row a.memory b (length rest) c x; locals = a.locals; inputs = a.inputs }) (flushed s u c x)

    at_row : (a : View) (s : State) (u c k : ℕ) (x : ℤ) (rest : List Pending) → MirrorsParts tb size home a s → SafeParts tb home mem shorter s → u < tb.threads → c < tb.cells → parts_of s u c ≡ (c, x) ∷ rest → slot + 1 ≤ k + 1 → after k ≤ length a.locals → Plain fuel (slot + 1) a (scope w (named wm_n slot ∷ [])) (minus (var wm_n) (num 1)) (pos (u * tb.cells + c)) → Pops a s u (u * tb.cells + c) c k x rest
    at_row a s u c k x rest like safe lu lc is mk room plain =
        let short = safe.short u c lu lc in let many = ap length is in let moved = safe.to u c lu lc (let h = many in omega arith) in (
          pop_part_agrees tb size home homes few fuel (slot + 1) asserts mem w inner inlines sees mem_len items (named wm_n slot ∷ []) seen a s u c (k + 1) x rest (minus (var wm_n) (num 1)) like lu lc mk room plain is moved.0 (omega arith),
          mirrors_pop_part tb size home homes a s u c x rest like lu lc moved.1 is (record { memory = popped_row a.memory (u * tb.cells + c) (length rest) c x; locals = a.locals; inputs = a.inputs }) refl,
        )

    does : (a : View) (s : State) (b c k : ℕ) (x : ℤ) (rest : List Pending) → MirrorsParts tb size home a s → SafeParts tb home mem shorter s → b < tb.threads * tb.cells → parts_of s (b / tb.cells) (b % tb.cells) ≡ (c, x) ∷ rest → slot + 1 ≤ k + 1 → after k ≤ length a.locals → Plain fuel (slot + 1) a (scope w (named wm_n slot ∷ [])) (minus (var wm_n) (num 1)) (pos b) → Pops a s (b / tb.cells) b c k x rest
    does a s b c k x rest like safe below is mk room plain =
        let same : c ≡ b % tb.cells = part_cell _ (b % tb.cells) (c, x) rest is in
        let e : b / tb.cells * tb.cells + b % tb.cells ≡ b = div-add-mod' b tb.cells in
        subst (λ z. Pops a s (b / tb.cells) b z k x rest) (sym same) (subst (λ z. Pops a s (b / tb.cells) z (b % tb.cells) k x rest) e
        (at_row a s (b / tb.cells) (b % tb.cells) k x rest like safe (thread_below tb.threads tb.cells b below) (cell_below tb.threads tb.cells b below) (subst (λ z. parts_of s (b / tb.cells) (b % tb.cells) ≡ (z, x) ∷ rest) same is) mk room
        (subst (λ z. Plain fuel (slot + 1) a (scope w (named wm_n slot ∷ [])) (minus (var wm_n) (num 1)) (pos z)) (sym e) plain)))

    ok_flushed : (a : View) (s : State) (b c : ℕ) (x : ℤ) (rest : List Pending) → MirrorsParts tb size home a s → SafeParts tb home mem shorter s → b < tb.threads * tb.cells → parts_of s (b / tb.cells) (b % tb.cells) ≡ (c, x) ∷ rest → SafeParts tb home mem shorter (flushed s (b / tb.cells) c x)
    ok_flushed a s b c x rest like safe below is =
        let same : c ≡ b % tb.cells = part_cell _ (b % tb.cells) (c, x) rest is in
        let lu = thread_below tb.threads tb.cells b below in
        subst (λ z. SafeParts tb home mem shorter (flushed s (b / tb.cells) z x)) (sym same) (safe_flushed s (b / tb.cells) (b % tb.cells) x rest (let f = like.threads in omega arith) (cell_below tb.threads tb.cells b below) (subst (λ z. parts_of s (b / tb.cells) (b % tb.cells) ≡ (z, x) ∷ rest) same is) lu safe)

    length_is : (a : View) (s : State) (b : ℕ) → MirrorsParts tb size home a s → b < tb.threads * tb.cells → turns.Has_length a tb.lens b (parts_of s (b / tb.cells) (b % tb.cells))
    length_is a s b like below = subst (λ z. turns.Has_length a tb.lens z (parts_of s (b / tb.cells) (b % tb.cells))) (div-add-mod' b tb.cells) (like.held.lens (b / tb.cells) (b % tb.cells) (thread_below tb.threads tb.cells b below) (cell_below tb.threads tb.cells b below))

    pub flush_rows_does : (a : View) (s : State) (ins : List ℤ) → MirrorsParts tb size home a s → SafeParts tb home mem shorter s → a.inputs ≡ ins → flush_rows_next ≤ length a.locals → length ins ≤ fuel →
        (o : Outcome) × DoesAll fuel slot w [] a seen slot seen flush_rows_next (body_of (flush (tb.threads * tb.cells))) o × turns.Emptied (cell_rows tb) tb.lens (MirrorsParts tb size home) (SafeParts tb home mem shorter) popped_row slot a (turns.asked_memory (cell_rows tb) tb.lens (MirrorsParts tb size home) (SafeParts tb home mem shorter) popped_row a.memory s ins) o (asked (cell_rows tb) s ins)
    flush_rows_does = turns.flush_does (cell_rows tb) tb.lens (MirrorsParts tb size home) (SafeParts tb home mem shorter) popped_row few.rows fuel slot w seen here.lens after (λ k. omega arith)
        (mirrors_part_as tb size home) length_is
        (λ a k x plain. call_knows wm_pop (pso_pop_function tb asserts) refl items (arg plain no_args)
        (ap (λ (d : Did). d.known.next) (inlines.by (pso_pop_function tb asserts) (bound (pso_pop_function tb asserts).params (k + 1)) (k + 1 + 1 + 1) (k + 1 + 1))
        ∙ (pop_part_takes tb (inner (k + 1 + 1)) (counted_before (pso_pop_function tb asserts)) (k + 1) (k + 1 + 1 + 1)).next) (omega arith))
        does ok_flushed
