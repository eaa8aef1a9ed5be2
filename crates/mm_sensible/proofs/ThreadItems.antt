-- The threads' functions of a woven program and its main are well behind its variables and helpers.
use Rattle.std.proofs.Common.{◌≡◌, ℕ, zero, suc, ◌+◌, ◌<◌, ◌≤◌, ◌^◌, Bool, true, false, not, ◌&&◌, ◌||◌, List, [], ◌∷◌, ◌++◌, map, length, slice_get, is_some, codes, arith, refl, ◌∙◌, sym, ap, subst, Some, None}
use Rattle.std.specs.Prelude.{sum_by}
use Rattle.std.proofs.lemmas.List.Sums.{sum_by-cons}
use Rattle.std.specs.List.{range_with_len}
use Rattle.mm_goto.specs.declared.ident.Ident.{Ident}
use Rattle.mm_goto.specs.declared.shape.Shape.{Shape}
use Rattle.mm_goto.specs.declared.program.Instr.{Instr}
use Rattle.mm_goto.specs.declared.program.Instr.TheVariants as i
use Rattle.mm_goto.specs.declared.program.Thread.{Thread}
use Rattle.mm_goto.specs.Listing.{Listing}
use Rattle.mm_goto.specs.Shapes.{Fits}
use Rattle.mm_goto.specs.Sourcelike.{IsSourcelike, is_start_or_join}
use Rattle.mm_goto.specs.Valid.{IsInstrIn, IsThreadIn, code_of, is_start, is_join}
use Rattle.mm_tree.specs.declared.item.Gives.{Gives}
use Rattle.mm_tree.specs.declared.item.Gives.TheVariants as gives
use Rattle.mm_tree.specs.declared.item.Item.{Item}
use Rattle.mm_tree.specs.declared.item.Param.{Param}
use Rattle.mm_tree.specs.declared.side.Side.TheVariants.{Output}
use Rattle.mm_tree.specs.declared.stmt.Stmt.{Stmt}
use Rattle.mm_scope.specs.declared.table.Meaning.TheVariants as meaning
use Rattle.mm_scope.specs.Notes.{Use}
use Rattle.mm_scope.specs.Scopes.{Names, Named, Table, named_as, meaning_in}
use Rattle.mm_scope.specs.Statements.{all_at, said_stmt}
use Rattle.mm_names.specs.Items.{declared_param, is_main, labels_of, function_notes}
use Rattle.mm_names.specs.Labels.{with_labels, labels_notes}
use Rattle.mm_scope.specs.Steps.{in_turn}
use Rattle.mm_words.specs.Words as words
use Rattle.mm_helpers.specs.Helpers.{wm_mem}
use Rattle.mm_templates.specs.Names.{local_name, label_name, thread_name}
use Rattle.mm_templates.specs.Instructions.{reaches_by_pointer, woven_instr}
use Rattle.mm_instr.specs.Woven.{has_buffers, has_address, woven_code, woven_body, thread_item, thread_items}
use Rattle.mm_sensible.proofs.IntExpressions.{IsArrayName}
use Rattle.mm_sensible.proofs.QuietStatements.{AreFine, Tells, fine_nothing, stand}
use Rattle.mm_sensible.proofs.WordStatements.{Quiet, AllQuiet, quiet_append, all_quiet, return_nothing}
use Rattle.mm_sensible.proofs.QuietTemplates.{IsHome, IsReady, Calm, woven_calm}
use Rattle.mm_sensible.proofs.FunctionNotes.{Opens, pointer_opens, function_fine}
use Rattle.mm_sensible.proofs.ItemWalk.{Knows, AreApart}
use Rattle.mm_sensible.proofs.WellItems.{function_well}
use Rattle.mm_sensible.proofs.MovedMemory.{at_place, moved_where_addressed}
use Rattle.mm_sensible.proofs.CodeLabels.{labels_from, code_labels, declared_labels, labels_none, labels_known}
use Rattle.mm_sensible.proofs.ReadyInstructions.{ready}
use Rattle.mm_sensible.proofs.UsesOrder.{told}
use Rattle.mm_sensible.proofs.StartsOrder.{counts_one, same_number}
use Rattle.mm_sensible.proofs.ThreadLocals.{thread_names, locals_fresh}
use Rattle.mm_sensible.proofs.ThreadHomes.{IsPlainFront, HasBefore, memory_name, home_here}
use Rattle.mm_sensible.proofs.DataItems.{IsGood, AreGood, good_none, good_more}

-- a function of no parameters hides nothing, and one of wm_arg no global name
pub main_front : IsPlainFront []
main_front = record { front = λ l. refl; none = λ x e. refl }

thread_front : IsPlainFront (named_as (codes "wm_arg") meaning.Handed ∷ [])
thread_front = record { front = λ l. refl; none = λ x e. rw e refl }

declared_each : (a n : ℕ) → map (λ l. words.declare (local_name l)) (range_with_len a n) ≡ map words.declare (map local_name (range_with_len a n))
declared_each a zero = refl
declared_each a (suc n) = ap (λ ss. words.declare (local_name a) ∷ ss) (declared_each (a + 1) n)

-- each thread has its part of the instructions
part_of : (threads : List Thread) (t : ℕ) (thread : Thread) → slice_get threads t ≡ Some thread → length thread.code ≤ sum_by (λ (d : Thread). length d.code) threads
part_of [] t thread e = absurd (nothing e)
  where
    nothing : None ≡ Some thread → ⊥
    nothing q = cc
part_of (x ∷ threads) zero thread e =
    let c = sum_by-cons (λ (d : Thread). length d.code) x threads in
    let q : length x.code ≡ length thread.code = ap (λ (d : Thread). length d.code) (same e) in
    omega (arith, c, q)
  where
    same : Some x ≡ Some thread → x ≡ thread
    same q = cc
part_of (x ∷ threads) (suc t) thread e = (let c = sum_by-cons (λ (d : Thread). length d.code) x threads in let r = part_of threads t thread e in omega (arith, c, r))

module _ (p : Listing) (shape : Shape) (s : IsSourcelike p) (fits : Fits p shape) (items : List Item) (apart : AreApart items) (b : ℕ) (before : HasBefore p shape items b) where
  abbrev pub on : Bool
  on = has_buffers shape

  abbrev pub addressed : Bool
  addressed = has_address p

  module _ (t : ℕ) (thread : Thread) (at : slice_get p.threads t ≡ Some thread) (g : Gives) (ps : List Param) (ds : List Named) (plain : IsPlainFront ds) where
    abbrev pub code : List Stmt
    code = woven_code p shape on addressed t 0 thread.code

    abbrev pub ys : List Ident
    ys = map local_name (range_with_len 0 thread.locals)

    abbrev pub labels : Table
    labels = with_labels [] (labels_of (map words.declare ys ++ code))

    pub in_bounds : IsThreadIn p thread
    in_bounds = at_place (IsThreadIn p) p.threads t thread s.valid.each_thread at

    short : thread.locals ≤ 4096
    short = at_place (λ (d : Thread). d.locals ≤ 4096) p.threads t thread s.limits.locals at

    labels_are : labels_of (map words.declare ys ++ code) ≡ labels_from 0 (length thread.code)
    labels_are = declared_labels ys code ∙ code_labels p shape on addressed t 0 thread.code (λ k it here. (s.each t k thread it at here).sections)

    module _ (k : ℕ) (low : b ≤ k) (table : Table) (knows : Knows items (k + 1) table) where
      abbrev pub names : Names
      names = thread_names table ds thread.locals

      pub home : IsHome p shape on items labels k names thread.locals (length thread.code)
      home = home_here p shape s items b before k low table knows ds plain thread.locals labels (length thread.code)
          (λ j less. ap (λ ws. is_some (meaning_in (with_labels [] ws) (label_name j))) labels_are ∙ labels_known [] 0 (length thread.code) j (omega arith) (omega (arith, less)))

      memory : (reaches_by_pointer : Bool) → (reaches_by_pointer && not addressed) ≡ false → reaches_by_pointer ≡ true → IsArrayName names wm_mem
      memory r e q = memory_name p shape s items b before k low table knows ds plain thread.locals
          (ap (λ d. d || on) (moved_where_addressed p shape fits s.valid (known r addressed e q)))
        where
          known : (r a : Bool) → (r && not a) ≡ false → r ≡ true → a ≡ true
          known r true e q = refl
          known true false e q = cc
          known false false e q = cc

      -- an instruction that starts no thread and waits for none
      pub instr_ready : (j : ℕ) (it : Instr) → slice_get thread.code j ≡ Some it → is_start_or_join it ≡ false → (reaches_by_pointer it && not addressed) ≡ false → IsReady p shape on items labels k g names thread.locals (length thread.code) home it
      instr_ready j it here other e = ready p shape on items labels k g names thread home j it (at_place (IsInstrIn p thread) thread.code j it in_bounds.instructions here) (s.each t j thread it at here) other (memory (reaches_by_pointer it) e)

      pub fine_with : (us : List Use) (f : Ident) → length thread.code < 2 ^ 32
          → Opens ds (in_turn (declared_param (stand k g 0 false (is_main (words.function g f ps (map words.declare ys ++ code))))) ps (record { globals = table; locals = [] }))
          → Tells us (all_at (stand k g 0 false (is_main (words.function g f ps (map words.declare ys ++ code)))) (map (said_stmt items labels) code) names)
          → AreFine us (function_notes Output items k (words.function g f ps (woven_body p shape on addressed t thread)) g ps (woven_body p shape on addressed t thread) (record { globals = table; locals = [] }))
      fine_with us f few opens told =
          subst (λ ss. AreFine us (function_notes Output items k (words.function g f ps ss) g ps ss (record { globals = table; locals = [] }))) (sym (ap (λ ss. ss ++ code) (declared_each 0 thread.locals)))
          (function_fine us items k g f table ps ds ys code
          (fine_nothing (ap (labels_notes Output []) labels_are ∙ labels_none [] 0 (length thread.code) (omega (arith, few)) (λ l above below. refl)))
          opens (locals_fresh ds thread.locals (omega (arith, short)) plain.front) told)

      -- code in which no thread is started and none is waited for
      code_quiet : Quiet items labels k g names (words.return (words.num 0)) → (j : ℕ) (its : List Instr) → ((l : ℕ) (it : Instr) → slice_get its l ≡ Some it → (reaches_by_pointer it && not addressed) ≡ false → IsReady p shape on items labels k g names thread.locals (length thread.code) home it)
          → AllQuiet items labels k g names (woven_code p shape on addressed t j its)
      unfolding Calm AllQuiet
      code_quiet ends j [] h = tt
      code_quiet ends j (it ∷ its) h =
          quiet_append items labels k g names (woven_instr p shape on addressed t j it) (woven_code p shape on addressed t (j + 1) its)
          (woven_calm p shape on items labels k g names thread.locals (length thread.code) home ends addressed t j it (h 0 it refl))
          (code_quiet ends (j + 1) its (λ l o here. h (suc l) o here))

  pub few_instructions : (t : ℕ) (thread : Thread) → slice_get p.threads t ≡ Some thread → length thread.code < 2 ^ 32
  few_instructions t thread at = (let a = part_of p.threads t thread at in let h = s.limits.instructions in omega (arith, a, h))

  -- ---- the other threads

  code_at : (t : ℕ) (thread : Thread) → slice_get p.threads t ≡ Some thread → code_of p t ≡ thread.code
  code_at t thread at = rw at refl

  -- they start no thread and wait for none
  none_started : (t : ℕ) (thread : Thread) → 1 ≤ t → slice_get p.threads t ≡ Some thread → (j : ℕ) (it : Instr) → slice_get thread.code j ≡ Some it → is_start_or_join it ≡ false
  none_started t thread some at j it here = by it here
    where
      bounds : (it : Instr) → slice_get thread.code j ≡ Some it → IsInstrIn p thread it
      bounds it here = at_place (IsInstrIn p thread) thread.code j it (at_place (IsThreadIn p) p.threads t thread s.valid.each_thread at).instructions here

      in_code : (it : Instr) → slice_get thread.code j ≡ Some it → slice_get (code_of p t) j ≡ Some it
      in_code it here = ap (λ c. slice_get c j) (code_at t thread at) ∙ here

      no_start : (u : ℕ) → slice_get thread.code j ≡ Some (i.Start u) → ⊥
      no_start zero here = (s.each t j thread (i.Start 0) at here).not_main.0 refl
      no_start (suc u) here =
          let none = ((s.valid.each_start (suc u) (omega arith) (bounds (i.Start (suc u)) here)).no_other t some).0 in
          let one = counts_one (is_start (suc u)) (code_of p t) j (i.Start (suc u)) (in_code (i.Start (suc u)) here) (same_number (suc u)) in
          omega (arith, none, one)

      no_join : (u : ℕ) → slice_get thread.code j ≡ Some (i.Join u) → ⊥
      no_join zero here = (s.each t j thread (i.Join 0) at here).not_main.1 refl
      no_join (suc u) here =
          let none = ((s.valid.each_start (suc u) (omega arith) (bounds (i.Join (suc u)) here)).no_other t some).1 in
          let one = counts_one (is_join (suc u)) (code_of p t) j (i.Join (suc u)) (in_code (i.Join (suc u)) here) (same_number (suc u)) in
          omega (arith, none, one)

      by : (it : Instr) → slice_get thread.code j ≡ Some it → is_start_or_join it ≡ false
      by (i.Start u) here = absurd (no_start u here)
      by (i.Join u) here = absurd (no_join u here)
      by (i.Set l e) here = refl
      by (i.Load l a) here = refl
      by (i.Store a e) here = refl
      by (i.Input l) here = refl
      by (i.Jump m) here = refl
      by (i.Branch e m) here = refl
      by (i.Assert e m) here = refl
      by (i.Assume e) here = refl
      by i.Fence here = refl
      by (i.Lock m) here = refl
      by (i.Unlock m) here = refl
      by (i.Add l a e) here = refl
      by (i.Cas l a e g) here = refl
      by i.AtomBegin here = refl
      by i.AtomEnd here = refl
      by i.End here = refl

  thread_good : (t : ℕ) (thread : Thread) → 1 ≤ t → slice_get p.threads t ≡ Some thread → IsGood items b (thread_item p shape on addressed t thread)
  unfolding thread_item
  thread_good t thread some at k low here =
      let ps : List Param = words.pointer_param (codes "wm_arg") ∷ [] in
      let ds : List Named = named_as (codes "wm_arg") meaning.Handed ∷ [] in
      let g : Gives = gives.Thread in (
        refl,
        function_well items [] k g (thread_name t) ps (woven_body p shape on addressed t thread) apart here refl (λ table knows.
            fine_with t thread at g ps ds thread_front k low table knows [] (thread_name t) (few_instructions t thread at)
            (pointer_opens items [] k g table _ (codes "wm_arg") (refl, refl))
            (all_quiet items (labels t thread at g ps ds thread_front) k g (thread_names table ds thread.locals) (woven_code p shape on addressed t 0 thread.code)
            (code_quiet t thread at g ps ds thread_front k low table knows (return_nothing items (labels t thread at g ps ds thread_front) k (thread_names table ds thread.locals)) 0 thread.code
            (λ j it there. instr_ready t thread at g ps ds thread_front k low table knows j it there (none_started t thread some at j it there))) 0 false _)),
      )

  pub threads_good : (t : ℕ) (threads : List Thread) → 1 ≤ t → ((j : ℕ) → slice_get p.threads (t + j) ≡ slice_get threads j) → AreGood items b (thread_items p shape on addressed t threads)
  threads_good t [] some h = good_none items b
  threads_good t (thread ∷ threads) some h =
      good_more items b (thread_item p shape on addressed t thread) (thread_items p shape on addressed (t + 1) threads)
      (thread_good t thread some (ap (slice_get p.threads) (let e : t ≡ t + 0 = omega arith in e) ∙ h 0))
      (threads_good (t + 1) threads (omega arith) (λ j. ap (slice_get p.threads) (let e : (t + 1) + j ≡ t + suc j = omega arith in e) ∙ h (suc j)))
