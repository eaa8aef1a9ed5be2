-- A woven program keeps the limits of the output side.
use Rattle.std.proofs.Common.{arith, ◌≡◌, ◌≢◌, ℕ, zero, suc, ◌+◌, ◌≤◌, ◌<◌, nat_eq, ◌⊎◌, inl, inr, Bool, true, false, ◌||◌, List, [], ◌∷◌, ◌++◌, length, map, refl, sym, ◌∙◌, ap, subst, Some, None, slice_get}
use Rattle.std.specs.Prelude.{codes, sum_by}
use Rattle.std.specs.List.{AllByRecursion, list_any}
use Rattle.std.proofs.lemmas.Bool.Decides.{nat_tests}
use Rattle.std.proofs.lemmas.List.Elements.{recursion_from_All}
use Rattle.std.proofs.lemmas.List.Sums.{sum_by-cons}
use Rattle.mm_goto.specs.declared.ident.Ident.{Ident}
use Rattle.mm_goto.specs.declared.shape.Shape.{Shape}
use Rattle.mm_goto.specs.declared.program.Instr.{Instr}
use Rattle.mm_goto.specs.declared.program.Instr.TheVariants as instr
use Rattle.mm_goto.specs.declared.program.Thread.{Thread}
use Rattle.mm_goto.specs.Bounds.{IsBound}
use Rattle.mm_goto.specs.Listing.{Listing}
use Rattle.mm_goto.specs.Shapes.{Fits}
use Rattle.mm_goto.specs.Sourcelike.{IsSourcelike}
use Rattle.mm_goto.specs.Valid.{IsThreadIn, IsInstrIn, code_of}
use Rattle.mm_graph.specs.Graphs.{IsSmall}
use Rattle.mm_tree.specs.declared.item.Item.{Item}
use Rattle.mm_tree.specs.declared.item.Tree.{Tree}
use Rattle.mm_tree.specs.declared.side.Side.TheVariants.{Output}
use Rattle.mm_tree.specs.Places.{without_places}
use Rattle.mm_flow.specs.declared.names.Started.{Started}
use Rattle.mm_flow.specs.Programs.{body_in, most_calls, nests, limit_passed}
use Rattle.mm_flow.specs.Text.{creates_in, calls_in}
use Rattle.mm_templates.specs.Names.{handle_name, thread_name}
use Rattle.mm_instr.specs.Woven.{woven_body, has_buffers, has_address, woven_items, woven}
use Rattle.mm_sourcelike.specs.Checks.{ChecksStandAlone}
use Rattle.mm_within.proofs.Accounts.{calls_at, account, threads_named, total_weight, IsWithin, none_passed, one_account}
use Rattle.mm_within.proofs.Weights.{Weight, body_weight}
use Rattle.mm_within.proofs.HelperCosts.{IsQuiet, none_nested, quiet_input}
use Rattle.mm_within.proofs.Standing.{Stands, stands}
use Rattle.mm_within.proofs.TemplateCosts.{starts_of, Sized}
use Rattle.mm_within.proofs.ThreadCosts.{at_place, from_places, part_of_sum, sized, code_fresh, starts_in, local_names, has_locals, body_runs, thread_size, size_sum, fresh_sum}

-- ---- the threads that main starts

-- the thread of a number, as it is started
abbrev started : ℕ → Started
started u = record { variable = handle_name u; function = thread_name u }

-- an instruction starts a thread, or none
start_or_none : (it : Instr) → ((u : ℕ) × (it ≡ instr.Start u)) ⊎ (starts_of it ≡ [])
start_or_none (instr.Start u) = inl (u, refl)
start_or_none (instr.Set l e) = inr refl
start_or_none (instr.Load l a) = inr refl
start_or_none (instr.Store a e) = inr refl
start_or_none (instr.Input l) = inr refl
start_or_none (instr.Jump k) = inr refl
start_or_none (instr.Branch e k) = inr refl
start_or_none (instr.Assert e n) = inr refl
start_or_none (instr.Assume e) = inr refl
start_or_none instr.Fence = inr refl
start_or_none (instr.Lock m) = inr refl
start_or_none (instr.Unlock m) = inr refl
start_or_none (instr.Add l a e) = inr refl
start_or_none (instr.Cas l a e f) = inr refl
start_or_none (instr.Join u) = inr refl
start_or_none instr.AtomBegin = inr refl
start_or_none instr.AtomEnd = inr refl
start_or_none instr.End = inr refl

-- numbers that rise from a on, below n
abbrev Rising : ℕ → ℕ → List ℕ → Type 0
Rising a n [] = Unit {0}
Rising a n (u ∷ us) = ((a ≤ u) × (u < n)) × Rising (u + 1) n us

-- a later Start is of a greater thread
abbrev InOrder : List Instr → Type 0
InOrder code = (j k u v : ℕ) → j < k → slice_get code j ≡ Some (instr.Start u) → slice_get code k ≡ Some (instr.Start v) → u < v

-- the code starts threads whose numbers rise
abbrev Numbered : ℕ → ℕ → List Instr → Type 0
Numbered a n code = (us : List ℕ) × (starts_in code ≡ map started us) × Rising a n us

-- the threads that the code starts have numbers that rise
rising : (a n : ℕ) (code : List Instr) → InOrder code → ((k v : ℕ) → slice_get code k ≡ Some (instr.Start v) → (a ≤ v) × (v < n)) → Numbered a n code
rising a n [] order within = ([], refl, tt)
rising a n (it ∷ code) order within =
    let below : InOrder code = λ j k u v h d e. order (suc j) (suc k) u v (omega (arith, h)) d e in
    by (start_or_none it)
    (λ u e. rising (u + 1) n code below (λ k v d. (let h = order 0 (suc k) u v (omega arith) (ap Some e) d in omega (arith, h), (within (suc k) v d).1)))
    (rising a n code below (λ k v d. within (suc k) v d))
  where
    by : ((u : ℕ) × (it ≡ instr.Start u)) ⊎ (starts_of it ≡ []) → ((u : ℕ) → it ≡ instr.Start u → Numbered (u + 1) n code) → Numbered a n code → Numbered a n (it ∷ code)
    by (inl (u, e)) h k = let r = h u e in (u ∷ r.0, (λ i. starts_of (e i) ++ r.1 i), (within 0 u (ap Some e), r.2))
    by (inr e) h k = (k.0, (λ i. e i ++ k.1 i), k.2)

-- there are few numbers that rise below n
few_rise : (a n : ℕ) (us : List ℕ) → Rising a n us → a ≤ n → length us + a ≤ n
few_rise a n [] h k = omega (arith, k)
few_rise a n (u ∷ us) h k = let r = few_rise (u + 1) n us h.1 (let b = h.0.1 in omega (arith, b)) in let b = h.0.0 in omega (arith, r, b)

-- threads with numbers that rise weigh no more than all from the first number on
rising_total : (w : Ident → Weight) (ts : List Thread) (a n : ℕ) (us : List ℕ) → Rising a n us → n ≡ a + length ts
    → ((d : ℕ) (it : Thread) → slice_get ts d ≡ Some it → (w (thread_name (a + d))).size + 1 ≤ thread_size it) → total_weight w (map thread_name us) ≤ sum_by thread_size ts
rising_total w [] a n [] h e each = omega arith
rising_total w [] a n (u ∷ us) h e each = absurd (let b = h.0.0 in let c = h.0.1 in omega (arith, b, c, e))
rising_total w (it ∷ ts) a n [] h e each = omega arith
rising_total w (it ∷ ts) a n (u ∷ us) h e each =
    let later : (d : ℕ) (jt : Thread) → slice_get ts d ≡ Some jt → (w (thread_name (a + 1 + d))).size + 1 ≤ thread_size jt = λ d jt g. let s : a + suc d ≡ a + 1 + d = omega arith in
    subst (λ m. (w (thread_name m)).size + 1 ≤ thread_size jt) s (each (suc d) jt g) in
    by (nat_eq u a) refl
    (λ s. rising_total w ts (a + 1) n us (subst (λ m. Rising (m + 1) n us) s h.1) (omega (arith, e)) later)
    (λ g. rising_total w ts (a + 1) n (u ∷ us) ((g, h.0.1), h.1) (omega (arith, e)) later)
  where
    by : (b : Bool) → nat_eq u a ≡ b → (u ≡ a → total_weight w (map thread_name us) ≤ sum_by thread_size ts) → (a + 1 ≤ u → total_weight w (map thread_name (u ∷ us)) ≤ sum_by thread_size ts)
        → total_weight w (map thread_name (u ∷ us)) ≤ sum_by thread_size (it ∷ ts)
    by true t f g =
        let s : u ≡ a = grind (arith, nat_tests) in
        let z : a + 0 ≡ u = omega (arith, s) in
        let own : (w (thread_name u)).size + 1 ≤ thread_size it = subst (λ m. (w (thread_name m)).size + 1 ≤ thread_size it) z (each 0 it refl) in
        omega (arith, own, f s, sum_by-cons thread_size it ts)
    by false t f g =
        let s : u ≢ a = grind (arith, nat_tests) in
        let low = h.0.0 in
        omega (arith, g (omega (arith, low, s)), sum_by-cons thread_size it ts)

-- there is an element at each place below the length
there : {X : Type 0} (xs : List X) (k : ℕ) → k < length xs → (x : X) × (slice_get xs k ≡ Some x)
there [] k h = absurd (omega (arith, h))
there (x ∷ xs) zero h = (x, refl)
there (x ∷ xs) (suc k) h = there xs k (omega (arith, h))

-- what holds of each other thread holds of those whose numbers rise
rising_all : (P : Ident → Type 0) (ts : List Thread) (a n : ℕ) (us : List ℕ) → Rising a n us → 1 ≤ a → n ≡ 1 + length ts
    → ((d : ℕ) (it : Thread) → slice_get ts d ≡ Some it → P (thread_name (1 + d))) → AllByRecursion P (map thread_name us)
rising_all P ts a n [] h low e each = tt
rising_all P ts a n (u ∷ us) h low e each =
    let b = h.0.0 in let c = h.0.1 in
    (one u (omega (arith, low, b)) (omega (arith, c, e)), rising_all P ts (u + 1) n us h.1 (omega arith) e each)
  where
    one : (u : ℕ) → 1 ≤ u → u < 1 + length ts → P (thread_name u)
    one zero i j = absurd (omega (arith, i))
    one (suc d) i j =
        let x = there ts d (omega (arith, j)) in
        let s : 1 + d ≡ suc d = omega arith in
        subst (λ m. P (thread_name m)) s (each d x.0 x.1)

-- the functions that are started are those of the numbers
names_started : (us : List ℕ) → map (λ (s : Started). s.function) (map started us) ≡ map thread_name us
names_started [] = refl
names_started (u ∷ us) = ap (λ xs. thread_name u ∷ xs) (names_started us)

-- there are as many as numbers
length_started : (us : List ℕ) → length (map started us) ≡ length us
length_started [] = refl
length_started (u ∷ us) = ap suc (length_started us)

-- none passes the test where each fails it
none_of : (p : Ident → Bool) (fs : List Ident) → AllByRecursion (λ f. p f ≡ false) fs → list_any p fs ≡ false
none_of p [] h = refl
none_of p (f ∷ fs) h = λ i. h.0 i || none_of p fs h.1 i

-- calls nest at most 64 deep
depth : most_calls ≡ 64
unfolding most_calls
depth = refl

-- ---- the whole

module _ (p : Listing) (shape : Shape) (source : IsSourcelike p) (alone : ChecksStandAlone p) (small : IsSmall p) (bound : IsBound shape.bound) (main : Thread) (others : List Thread)
    (threads : p.threads ≡ main ∷ others) where
  -- the items of the woven program
  abbrev items : List Item
  items = woven_items p shape

  -- where they stand
  where_all : Stands p shape main others
  where_all = stands p shape main others threads source.limits.threads small.cells bound.1

  -- main and the others
  count : length p.threads ≡ 1 + length others
  count = ap (λ (ts : List Thread). length ts) threads ∙ omega arith

  -- each thread is in range
  at_thread : (t : ℕ) (it : Thread) → slice_get p.threads t ≡ Some it → IsThreadIn p it
  at_thread t it e = at_place (IsThreadIn p) p.threads (recursion_from_All (IsThreadIn p) p.threads source.valid.each_thread) t it e

  -- so is each instruction
  at_instr : (t k : ℕ) (it : Thread) (i : Instr) → slice_get p.threads t ≡ Some it → slice_get it.code k ≡ Some i → IsInstrIn p it i
  at_instr t k it i e d = at_place (IsInstrIn p it) it.code (recursion_from_All (IsInstrIn p it) it.code (at_thread t it e).instructions) k i d

  -- each instruction is of a source's size
  sized_thread : (t : ℕ) (it : Thread) → slice_get p.threads t ≡ Some it → AllByRecursion (Sized (local_names 0 it.locals)) it.code
  sized_thread t it e =
      from_places (Sized (local_names 0 it.locals)) it.code
      (λ k i d. sized p it (local_names 0 it.locals) (has_locals it.locals) i (at_instr t k it i e d) (alone t k it i e d) (source.each t k it i e d).size)

  -- a thread's function keeps to what the thread may weigh
  record Good (f : Ident) (it : Thread) : Type 0 where
    size : ((account items).weights f).size + 1 ≤ thread_size it
    fresh : ((account items).weights f).fresh ≤ 524288
    shallow : (account items).nested f ≡ false
    starts : creates_in (body_in items f) ≡ starts_in it.code

  -- a function with the body of a thread keeps to what the thread may weigh
  good : (f : Ident) (t : ℕ) (it : Thread) → slice_get p.threads t ≡ Some it → body_in items f ≡ woven_body p shape (has_buffers shape) (has_address p) t it → Good f it
  good f t it e body =
      let r = body_runs (calls_at items 64) (IsQuiet items 63) p shape (has_buffers shape) (has_address p) where_all.helped (quiet_input items where_all.input 62) t it (sized_thread t it e) in
      let w : (account items).weights f ≡ body_weight (woven_body p shape (has_buffers shape) (has_address p) t it) (calls_at items 64) [] = λ i. body_weight (body i) (calls_at items (depth i)) [] in
      let own : it.locals ≤ 4096 = at_place (λ (t : Thread). t.locals ≤ 4096) p.threads (recursion_from_All (λ (t : Thread). t.locals ≤ 4096) p.threads source.limits.locals) t it e in
      let all : sum_by (λ (t : Thread). code_fresh t.code) p.threads ≤ 430080 = omega (arith, fresh_sum 0 p.threads, source.limits.instructions, small.sites) in
      let part : code_fresh it.code ≤ 430080 = at_place (λ (t : Thread). code_fresh t.code ≤ 430080) p.threads (part_of_sum (λ (t : Thread). code_fresh t.code) p.threads 430080 all) t it e in
      record {
        size = omega (arith, ap (λ (x : Weight). x.size) w, r.size);
        fresh = omega (arith, ap (λ (x : Weight). x.fresh) w, r.fresh, own, part);
        shallow = (λ i. nests items (depth i) (calls_in (body i))) ∙ none_nested items 63 _ r.quiet;
        starts = ap creates_in body ∙ r.starts;
      }

  -- main does
  good_main : Good (codes "main") main
  good_main = good (codes "main") 0 main (ap (λ (ts : List Thread). slice_get ts 0) threads) where_all.main

  -- so does each other thread's function
  good_other : (d : ℕ) (it : Thread) → slice_get others d ≡ Some it → Good (thread_name (1 + d)) it
  good_other d it e =
      let at : slice_get p.threads (suc d) ≡ Some it = ap (λ (ts : List Thread). slice_get ts (suc d)) threads ∙ e in
      let s : suc d ≡ 1 + d = omega arith in
      good (thread_name (1 + d)) (1 + d) it (subst (λ m. slice_get p.threads m ≡ Some it) s at) (where_all.other d it e)

  -- the code of thread 0 is main's
  main_code : code_of p 0 ≡ main.code
  main_code = ap (λ (ts : List Thread). code_of (record { cells = p.cells; mutexes = p.mutexes; threads = ts }) 0) threads

  -- main is thread 0
  first_there : slice_get p.threads 0 ≡ Some main
  first_there = ap (λ (ts : List Thread). slice_get ts 0) threads

  -- what main starts is another thread
  start_within : (k v : ℕ) → slice_get main.code k ≡ Some (instr.Start v) → (1 ≤ v) × (v < length p.threads)
  start_within k v e = (positive v (source.each 0 k main (instr.Start v) first_there e).not_main.0, at_instr 0 k main (instr.Start v) first_there e)
    where
      positive : (v : ℕ) → instr.Start v ≢ instr.Start 0 → 1 ≤ v
      positive zero n = absurd (n refl)
      positive (suc v) n = omega arith

  -- the numbers of the threads that main starts
  numbers : Numbered 1 (length p.threads) main.code
  numbers = rising 1 (length p.threads) main.code
      (λ j k u v h d e. source.order.order j k u v h (ap (λ c. slice_get c j) main_code ∙ d) (ap (λ c. slice_get c k) main_code ∙ e))
      start_within

  -- main starts the threads of these numbers
  starts_are : (account items).starts ≡ map started numbers.0
  starts_are = good_main.starts ∙ numbers.1

  -- the functions of the threads are main and theirs
  named_are : threads_named (account items) ≡ codes "main" ∷ map thread_name numbers.0
  named_are = ap (λ ss. codes "main" ∷ map (λ (s : Started). s.function) ss) starts_are ∙ ap (λ fs. codes "main" ∷ fs) (names_started numbers.0)

  -- in all they weigh no more than the limit
  total : total_weight (account items).weights (codes "main" ∷ map thread_name numbers.0) ≤ 8388608
  total =
      let rest = rising_total (account items).weights others 1 (length p.threads) numbers.0 numbers.2 count (λ d it e. (good_other d it e).size) in
      let all = size_sum 0 p.threads (recursion_from_All (λ (t : Thread). t.locals ≤ 4096) p.threads source.limits.locals) in
      let sum : sum_by thread_size p.threads ≡ thread_size main + sum_by thread_size others = ap (λ (ts : List Thread). sum_by thread_size ts) threads ∙ sum_by-cons thread_size main others in
      omega (arith, good_main.size, rest, sum, all, source.limits.threads, source.limits.instructions, small.sites)

  -- there are at most 16 threads
  few_starts : length numbers.0 + 1 ≤ 16
  few_starts = let h = few_rise 1 (length p.threads) numbers.0 numbers.2 source.valid.main in omega (arith, h, source.limits.threads)

  -- the account is within the limits
  within : IsWithin (account items)
  within = record {
    threads = omega (arith, ap (λ (ss : List Started). length ss) starts_are, length_started numbers.0, few_starts);
    nesting = none_of (account items).nested (threads_named (account items))
        (subst (AllByRecursion (λ f. (account items).nested f ≡ false)) (sym named_are)
        (good_main.shallow, rising_all (λ f. (account items).nested f ≡ false) others 1 (length p.threads) numbers.0 numbers.2 (omega arith) count (λ d it e. (good_other d it e).shallow)));
    instructions = subst (λ fs. total_weight (account items).weights fs ≤ 8388608) (sym named_are) total;
    locals = subst (AllByRecursion (λ f. ((account items).weights f).fresh ≤ 524288)) (sym named_are)
        (good_main.fresh, rising_all (λ f. ((account items).weights f).fresh ≤ 524288) others 1 (length p.threads) numbers.0 numbers.2 (omega arith) count (λ d it e. (good_other d it e).fresh));
    mutexes = omega (arith, where_all.mutexes, source.limits.mutexes);
    cells = where_all.cells;
  }

-- the account of a woven program is
woven_within : (p : Listing) (shape : Shape) → IsSourcelike p → ChecksStandAlone p → IsSmall p → IsBound shape.bound → IsWithin (account (woven p shape).items)
unfolding woven
woven_within p shape source alone small bound = by p.threads refl source.valid.main
  where
    by : (ts : List Thread) → p.threads ≡ ts → 1 ≤ length ts → IsWithin (account (woven_items p shape))
    by [] e h = absurd (omega (arith, h))
    by (main ∷ others) e h = within p shape source alone small bound main others e

-- a tree that is a woven one, but for the places, passes no limit of a woven program
pub keeps_the_limits : (p : Listing) (shape : Shape) (u : Tree) → IsSourcelike p → ChecksStandAlone p → IsSmall p → IsBound shape.bound → Fits p shape
    → without_places u ≡ without_places (woven p shape) → limit_passed Output u ≡ None
keeps_the_limits p shape u source alone small bound fits same =
    none_passed u (subst IsWithin (sym (one_account u (woven p shape) same)) (woven_within p shape source alone small bound))
