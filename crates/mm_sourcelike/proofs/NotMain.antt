-- No thread starts main, and none waits for it.
use Rattle.std.proofs.Common.{arith, ◌≡◌, ◌≢◌, ℕ, ◌+◌, ◌≤◌, Bool, true, false, ◌&&◌, ◌||◌, if◌then◌else◌, is_some, List, [], ◌∷◌, ◌++◌, length, take, map, codes, refl, ◌∙◌, sym, ap, subst, append_assoc, Option, Some, None}
use Rattle.std.specs.List.{AllByRecursion, filter, list_any, slice_get}
use Rattle.std.specs.Str.{bytes_eq}
use Rattle.std.proofs.Math.Seq.{take-append_seam}
use Rattle.std.proofs.lemmas.List.{append-nil, length-append}
use Rattle.mm_goto.specs.declared.ident.Ident.{Ident}
use Rattle.mm_goto.specs.declared.program.Instr.{Instr}
use Rattle.mm_goto.specs.declared.program.Instr.TheVariants as instr
use Rattle.mm_goto.specs.declared.program.Thread.{Thread}
use Rattle.mm_goto.specs.Listing.{Listing}
use Rattle.mm_goto.specs.Sourcelike.{is_start_or_join}
use Rattle.mm_tree.specs.declared.item.Item.{Item}
use Rattle.mm_tree.specs.declared.item.Tree.{Tree}
use Rattle.mm_tree.specs.declared.side.Side.{Side}
use Rattle.mm_flow.specs.declared.names.Parts.{Parts}
use Rattle.mm_flow.specs.declared.names.Started.{Started}
use Rattle.mm_flow.specs.Flow.{Body, Flow, Placed, Ways, lay, placed, size}
use Rattle.mm_flow.specs.Programs.{all_to, end_of, flow_of, limit_passed, named_function, parts_of, place_in, program_of, thread_code, thread_of}
use Rattle.mm_flow.specs.Scopes.{last_with, thread_in}
use Rattle.mm_flow.specs.Statements.{or_0}
use Rattle.mm_flow.specs.Text.{labels_in}
use Rattle.mm_scope.specs.Notes.{Use}
use Rattle.mm_names.specs.Programs.{IsAccepted}
use Rattle.mm_names.specs.Threads.{are_same, is_misused, is_start_of, starts}
use Rattle.mm_sourcelike.specs.Ints.{AreInts}
use Rattle.mm_sourcelike.specs.Shapes.{IsScoped}
use Rattle.mm_sourcelike.proofs.Cells.{both_all}
use Rattle.mm_sourcelike.proofs.Counting.{steps}
use Rattle.mm_sourcelike.proofs.Inlining.{AcceptedText}
use Rattle.mm_sourcelike.proofs.Law.{events_are, main_uses, proper_uses, starts_fine}
use Rattle.mm_sourcelike.proofs.Laying.{EachPlaced, LeadsIn, TakesJumps, laid_each, weaker}
use Rattle.mm_sourcelike.proofs.Numbers.{Proper, only_start}
use Rattle.mm_sourcelike.proofs.Ordering.{in_rest, laid_events}
use Rattle.mm_sourcelike.proofs.SafeThreads.{each_at}
use Rattle.mm_sourcelike.proofs.Standing.{IsInstrAt}
use Rattle.mm_sourcelike.proofs.Starts.{behind_use, events, filter_append, next_count, numbered, start_of, started_append, started_in, use_instr}
use Rattle.mm_sourcelike.proofs.Tables.{itself, same_names, true_is_not}
use Rattle.mm_sourcelike.proofs.Threading.{ThreadFunction, flow_at}
use Rattle.mm_goto.specs.Valid.{IsPureIn}
use Rattle.mm_sourcelike.proofs.Validity.{IsThreadFunction, all_at_index, main_flow, text, thread_function}
use Rattle.mm_sourcelike.proofs.Valuing.{test_first, test_second}

abbrev pub NotMain : Instr → Type 0
NotMain i = (i ≢ instr.Start 0) × (i ≢ instr.Join 0)

-- ---- a variable whose thread is started holds a thread that is not main

record Positive (o : Option ℕ) : Type 0 where
  value : ℕ
  is : o ≡ Some value
  low : 1 ≤ value

stays : (ss : List Started) (c : ℕ) (x : Ident) (old : Option ℕ) → 1 ≤ c → Positive old → Positive (last_with ss c x old)
stays [] c x old l h = h
stays (s ∷ ss) c x old l h = stays ss (c + 1) x (if bytes_eq s.variable x then Some c else old) (omega (arith, l)) (by (bytes_eq s.variable x))
  where
    by : (b : Bool) → Positive (if b then Some c else old)
    by true = record { value = c; is = refl; low = l }
    by false = h

-- it starts a thread with the variable of this use
record IsStartWith (u w : Use) : Type 0 where
  function : Ident
  is : w.function ≡ Some function
  same : bytes_eq w.variable u.variable ≡ true

start_with : (u w : Use) → is_start_of u w ≡ true → IsStartWith u w
unfolding is_start_of
start_with u w e = by w.function refl (test_second (are_same u.local w.local && bytes_eq u.variable w.variable) (starts w) e)
  where
    names : u.variable ≡ w.variable
    names = same_names u.variable w.variable (test_second (are_same u.local w.local) (bytes_eq u.variable w.variable) (test_first (are_same u.local w.local && bytes_eq u.variable w.variable) (starts w) e))

    by : (f : Option Ident) → w.function ≡ f → starts w ≡ true → IsStartWith u w
    by (Some f) q r = record { function = f; is = q; same = subst (λ x. bytes_eq w.variable x ≡ true) (sym names) (itself w.variable) }
    by None q r = true_is_not (sym r ∙ ap (λ (f : Option Ident). is_some f) q)

found_start : (us : List Use) (u : Use) (c : ℕ) (old : Option ℕ) → 1 ≤ c → list_any (is_start_of u) us ≡ true → Positive (last_with (started_in us) c u.variable old)
found_start [] u c old l e = true_is_not (sym e)
found_start (w ∷ us) u c old l e = by (is_start_of u w) refl e (λ d o m q. found_start us u d o m q)
  where
    here : (h : IsStartWith u w) → Positive (last_with (started_in (w ∷ us)) c u.variable old)
    here h = subst (λ (f : Option Ident). Positive (last_with (start_of w.variable f ++ started_in us) c u.variable old)) (sym h.is)
        (stays (started_in us) (c + 1) u.variable (if bytes_eq w.variable u.variable then Some c else old) (omega (arith, l))
        (subst (λ b. Positive (if b then Some c else old)) (sym h.same) (record { value = c; is = refl; low = l })))

    further : (f : Option Ident) → ((d : ℕ) (o : Option ℕ) → 1 ≤ d → list_any (is_start_of u) us ≡ true → Positive (last_with (started_in us) d u.variable o)) → list_any (is_start_of u) us ≡ true → Positive (last_with (start_of w.variable f ++ started_in us) c u.variable old)
    further None g q = g c old l q
    further (Some f) g q = g (c + 1) (if bytes_eq w.variable u.variable then Some c else old) (omega (arith, l)) q

    by : (b : Bool) → is_start_of u w ≡ b → (b || list_any (is_start_of u) us) ≡ true → ((d : ℕ) (o : Option ℕ) → 1 ≤ d → list_any (is_start_of u) us ≡ true → Positive (last_with (started_in us) d u.variable o)) → Positive (last_with (started_in (w ∷ us)) c u.variable old)
    by true q r g = here (start_with u w q)
    by false q r g = further w.function g r

-- ---- the Starts and Joins of main

no_start_main : (n : ℕ) → NotMain (instr.Start (n + 1))
no_start_main n = ((λ e. absurd (omega (arith, same e))), (λ e. other e))
  where
    same : instr.Start (n + 1) ≡ instr.Start 0 → n + 1 ≡ 0
    same e = cc

    other : instr.Start (n + 1) ≡ instr.Join 0 → ⊥
    other e = cc

no_join_main : (m : ℕ) → 1 ≤ m → NotMain (instr.Join m)
no_join_main m l = ((λ e. other e), (λ e. absurd (omega (arith, l, same e))))
  where
    same : instr.Join m ≡ instr.Join 0 → m ≡ 0
    same e = cc

    other : instr.Join m ≡ instr.Start 0 → ⊥
    other e = cc

positive_or_0 : (o : Option ℕ) → Positive o → 1 ≤ or_0 o
positive_or_0 o h = subst (λ q. 1 ≤ or_0 q) (sym h.is) h.low

use_not_main : (whole before rest : List Use) (u : Use) (n : ℕ) → whole ≡ before ++ u ∷ rest → n ≡ length (started_in before) → is_misused before u ≡ false → (f : Option Ident) → u.function ≡ f → NotMain (use_instr (started_in whole) n u.variable f)
use_not_main whole before rest u n e c proper (Some f) q = no_start_main n
use_not_main whole before rest u n e c proper None q =
    no_join_main (or_0 (thread_in (started_in whole) n u.variable)) (positive_or_0 (thread_in (started_in whole) n u.variable) positive)
  where
    split : started_in whole ≡ started_in before ++ started_in (u ∷ rest)
    split = ap started_in e ∙ started_append before (u ∷ rest)

    front_of : take n (started_in whole) ≡ started_in before
    front_of = ap (λ m. take m (started_in whole)) c ∙ (ap (take (length (started_in before))) split ∙ take-append_seam (started_in before) (started_in (u ∷ rest)))

    positive : Positive (thread_in (started_in whole) n u.variable)
    positive = subst (λ (ss : List Started). Positive (last_with ss 1 u.variable None)) (sym front_of) (found_start before u 1 None (omega arith) (only_start before u q proper).0)

uses_not_main : (whole before us : List Use) (n : ℕ) → whole ≡ before ++ us → n ≡ length (started_in before) → Proper before us → AllByRecursion NotMain (numbered (started_in whole) n us)
uses_not_main whole before [] n e c h = tt
uses_not_main whole before (u ∷ us) n e c h =
    let m : ℕ = behind_use n u.function in
    let count : m ≡ length (started_in (before ++ u ∷ [])) = next_count n u.variable u.function ∙ (omega (arith, c, length-append (started_in before) (started_in (u ∷ [])), length-append (start_of u.variable u.function) (started_in [])) ∙ sym (ap length (started_append before (u ∷ [])))) in
    (use_not_main whole before us u n e c h.0 u.function refl, uses_not_main whole (before ++ u ∷ []) us m (e ∙ sym (append_assoc before (u ∷ []) us)) count h.1)

-- ---- the whole

-- what neither starts nor joins is not of main
calm_not_main : (i : Instr) → is_start_or_join i ≡ false → NotMain i
calm_not_main i h = ((λ e. true_is_not (sym (ap is_start_or_join e) ∙ h)), (λ e. true_is_not (sym (ap is_start_or_join e) ∙ h)))

record NotMainThread (t : Thread) : Type 0 where
  each : (k : ℕ) (i : Instr) → slice_get t.code k ≡ Some i → NotMain i

module _ (p : Listing) (items : List Item) (parts : Parts) (text_fine : AcceptedText p items parts) (f : Ident) (h : ThreadFunction p items parts text_fine false f) where
  abbrev t : Thread
  t = thread_of parts items f

  abbrev body_flow : Flow
  body_flow = (thread_code parts items (named_function parts items f)).flow

  abbrev whole_body : Flow
  whole_body = Body (labels_in (named_function parts items f).body) body_flow

  abbrev ways : Ways
  ways = all_to (end_of parts items f)

  takes : TakesJumps (λ i. is_start_or_join i ≡ false) (λ e. Unit {0}) (size body_flow + 1)
  takes = record { jump = λ k l. refl; branch = λ e k q l. refl }

  ways_in : LeadsIn (size body_flow + 1) ways
  ways_in = record { behind = omega arith; next = omega arith; home = omega arith; label = λ y. omega arith }

  all_calm : EachPlaced (λ i. is_start_or_join i ≡ false) (lay ways (flow_of parts items f) 0)
  all_calm =
      both_all (λ (q : Placed). is_start_or_join q.instr ≡ false) (lay ways whole_body 0) (placed (place_in items f) instr.End ∷ [])
      (laid_each (λ i. is_start_or_join i ≡ false) (λ e. Unit {0}) (size body_flow + 1) takes ways whole_body 0 ways_in (omega arith)
      (weaker (IsInstrAt p t false) (λ i. is_start_or_join i ≡ false) (IsPureIn p t) (λ e. Unit {0}) (λ i g. g.1 refl) (λ e g. tt) body_flow (flow_at p items parts text_fine false f h)))
      (refl, tt)

  other_not_main : NotMainThread t
  other_not_main = record { each = λ k i e. calm_not_main i (each_at (λ j. is_start_or_join j ≡ false) (lay ways (flow_of parts items f) 0) all_calm k i e) }

module _ (side : Side) (tree : Tree) (ints : AreInts tree) (scoped : IsScoped tree) (accepted : IsAccepted side tree) (none : limit_passed side tree ≡ None) where
  abbrev the_program : Listing
  the_program = program_of side tree

  abbrev the_parts : Parts
  the_parts = parts_of side tree.items

  abbrev main_thread : Thread
  main_thread = thread_of the_parts tree.items (codes "main")

  main_events : AllByRecursion NotMain (filter is_start_or_join main_thread.code)
  main_events =
      subst (AllByRecursion NotMain) (sym (laid_events (all_to (end_of the_parts tree.items (codes "main"))) (flow_of the_parts tree.items (codes "main")) 0 ∙ (filter_append (steps (main_flow the_parts tree.items)) (instr.End ∷ []) ∙ append-nil (events (main_flow the_parts tree.items)))))
      (subst (AllByRecursion NotMain) (sym (events_are side tree ints scoped accepted none))
      (uses_not_main (main_uses side tree ints scoped accepted none) [] (main_uses side tree ints scoped accepted none) 0 refl refl (proper_uses side tree ints scoped accepted none)))

  main_not_main : NotMainThread main_thread
  main_not_main = record { each = λ k i e. by k i e (is_start_or_join i) refl }
    where
      by : (k : ℕ) (i : Instr) → slice_get main_thread.code k ≡ Some i → (b : Bool) → is_start_or_join i ≡ b → NotMain i
      by k i e true q = in_rest NotMain main_thread.code k i main_events e q
      by k i e false q = calm_not_main i q

  others : (ss : List Started) → AllByRecursion (λ (s : Started). IsThreadFunction tree.items s.function) ss → AllByRecursion NotMainThread (map (thread_of the_parts tree.items) (map (λ (s : Started). s.function) ss))
  others [] h = tt
  others (s ∷ ss) h =
      (other_not_main the_program tree.items the_parts (text side tree ints scoped accepted none) s.function (thread_function side tree ints scoped accepted none s.function h.0), others ss h.1)

  all_not_main : AllByRecursion NotMainThread the_program.threads
  all_not_main = (main_not_main, others the_parts.starts (starts_fine side tree ints scoped accepted none).threads)

  pub never_main : (t k : ℕ) (thread : Thread) (i : Instr) → slice_get the_program.threads t ≡ Some thread → slice_get thread.code k ≡ Some i → NotMain i
  never_main t k thread i e f = (all_at_index NotMainThread the_program.threads t thread all_not_main e).each k i f
