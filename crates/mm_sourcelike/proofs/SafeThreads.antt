-- The code of the threads of an accepted source is guarded.
use Rattle.std.proofs.Common.{arith, ◌≡◌, ℕ, zero, suc, ◌+◌, ◌<◌, ◌≤◌, Bool, true, false, List, [], ◌∷◌, length, reverse, refl, ◌∙◌, sym, ap, subst, zero-add, Option, Some, None}
use Rattle.std.specs.List.{AllByRecursion, find, slice_get}
use Rattle.std.specs.Option.{option_map}
use Rattle.std.specs.Str.{bytes_eq}
use Rattle.std.proofs.lemmas.List.{reverse-append}
use Rattle.mm_goto.specs.declared.ident.Ident.{Ident}
use Rattle.mm_goto.specs.declared.program.Instr.{Instr}
use Rattle.mm_goto.specs.declared.program.Instr.TheVariants as instr
use Rattle.mm_goto.specs.declared.program.Thread.{Thread}
use Rattle.mm_goto.specs.Listing.{Listing}
use Rattle.mm_goto.specs.Sourcelike.{IsGuarded, UpdatesApart, is_section}
use Rattle.mm_tree.specs.declared.item.Gives.{Gives}
use Rattle.mm_tree.specs.declared.item.Item.{Item}
use Rattle.mm_tree.specs.declared.item.Param.{Param}
use Rattle.mm_tree.specs.declared.side.Side.TheVariants.{Source}
use Rattle.mm_tree.specs.declared.stmt.Stmt.{Stmt}
use Rattle.mm_flow.specs.declared.names.Named.{Named}
use Rattle.mm_flow.specs.declared.names.Parts.{Parts}
use Rattle.mm_flow.specs.Flow.{Flow, Body, Behind, Next, Home, Ways, Placed, lay, placed, size}
use Rattle.mm_flow.specs.Programs.{all_to, at_entry, end_of, flow_of, in_thread, most_calls, named_function, place_in, the_function, thread_code, thread_of}
use Rattle.mm_flow.specs.Statements.{Function, Known, Within, bound, function_of, inline_at}
use Rattle.mm_flow.specs.Text.{labels_in}
use Rattle.mm_scope.specs.Values.{can_be_called}
use Rattle.mm_sourcelike.proofs.Carrying.{carries, guarded, stands_all}
use Rattle.mm_sourcelike.proofs.Cells.{both_all}
use Rattle.mm_sourcelike.proofs.Counting.{code_in}
use Rattle.mm_sourcelike.proofs.Deeds.{AllFit, deeds_in}
use Rattle.mm_sourcelike.proofs.Fitting.{body_fits, seen_good}
use Rattle.mm_sourcelike.proofs.Guarding.{nothing, Fine, Stands, Exits, end_fine, split}
use Rattle.mm_sourcelike.proofs.Inlining.{AcceptedBody, AcceptedFunction, AcceptedText}
use Rattle.mm_sourcelike.proofs.Laying.{EachPlaced, LeadsIn, TakesJumps, laid_each, weaker}
use Rattle.mm_sourcelike.proofs.Resolving.{found_passes}
use Rattle.mm_sourcelike.proofs.SafeExpressions.{Step}
use Rattle.mm_sourcelike.proofs.SafeStatements.{NamesIn, SafeDid, body_safe}
use Rattle.mm_sourcelike.proofs.SafeValues.{CallsSafe}
use Rattle.mm_sourcelike.proofs.Scoping.{HasFunction, none_is_not, same_some}
use Rattle.mm_sourcelike.proofs.Threading.{ThreadFunction}

-- ---- parameters

all_reverse : {A : Type 0} (P : A → Type 0) (xs : List A) → AllByRecursion P xs → AllByRecursion P (reverse xs)
all_reverse P [] h = tt
all_reverse {A = A} P (x ∷ xs) h = subst (AllByRecursion P) (sym (reverse-append (x ∷ []) xs)) (both_all P (reverse xs) (x ∷ []) (all_reverse P xs h.1) (h.0, tt))

abbrev IsIn : ℕ → ℕ → Named → Type 0
IsIn b n k = (b ≤ k.number) × (k.number < n)

bound_in : (ps : List Param) (b m n : ℕ) → b ≤ m → m + length ps ≤ n → AllByRecursion (IsIn b n) (bound ps m)
bound_in [] b m n g h = tt
bound_in (p ∷ ps) b m n g h = ((g, omega (arith, h)), bound_in ps b (m + 1) n (omega (arith, g)) (omega (arith, h)))

number_in : (b n : ℕ) (o : Option Named) (l : ℕ) → ((k : Named) → o ≡ Some k → IsIn b n k) → option_map (λ (k : Named). k.number) o ≡ Some l → (b ≤ l) × (l < n)
number_in b n None l h e = absurd (none_is_not l e)
number_in b n (Some k) l h e = let is : k.number ≡ l = same_some k.number l e in let r : IsIn b n k = h k refl in (omega (arith, is, r.0), omega (arith, is, r.1))

bound_names : (ps : List Param) (m n : ℕ) → m + length ps ≤ n → NamesIn m n (bound ps m)
bound_names ps m n h = record {
  each = λ x l e. number_in m n (find (λ (k : Named). bytes_eq k.name x) (reverse (bound ps m))) l
      (λ k f. found_passes (IsIn m n) (λ (j : Named). bytes_eq j.name x) (reverse (bound ps m)) k (all_reverse (IsIn m n) (bound ps m) (bound_in ps m m n (omega arith) h)) f) e;
}

no_names : (b n : ℕ) → NamesIn b n []
no_names b n = record { each = λ x l e. absurd (none_is_not l e) }

-- ---- called functions

-- its code is guarded, no locked instruction reads the local that it writes, and no section begins or ends in it
pub record GuardedThread (t : Thread) : Type 0 where
  pub guarded : (k : ℕ) (i : Instr) → slice_get t.code k ≡ Some i → IsGuarded t.code k i
  pub apart : (k : ℕ) (i : Instr) → slice_get t.code k ≡ Some i → UpdatesApart i
  pub sections : (k : ℕ) (i : Instr) → slice_get t.code k ≡ Some i → is_section i ≡ false

pub each_at : (P : Instr → Type 0) (ps : List Placed) → EachPlaced P ps → (k : ℕ) (i : Instr) → slice_get (code_in ps) k ≡ Some i → P i
each_at P [] h k i e = absurd (none_is_not i e)
each_at P (p ∷ ps) h zero i e = subst P (same_some p.instr i e) h.0
each_at P (p ∷ ps) h (suc k) i e = each_at P ps h.1 k i e

module _ (p : Listing) (items : List Item) (parts : Parts) (text : AcceptedText p items parts) (source : parts.side ≡ Source) where
  -- a function that is accepted
  record IsAcceptedFunction (f : Function) : Type 0 where
    params : List Param
    gives : Gives
    accepted : AcceptedFunction p items parts f params gives

  callable : (x : Ident) (k : ℕ) (h : HasFunction items x k) (f : Function) → can_be_called x h.gives ≡ true → function_of items parts.asserts x ≡ Some f → (length h.params ≡ length f.params) × IsAcceptedFunction f
  callable x k h f c e = let a = text.functions x k h f c e in (sym a.count, record { params = h.params; gives = h.gives; accepted = a })

  fits : (outermost : Bool) (named_at : ℕ → List Named) (body : List Stmt) → AcceptedBody p items parts outermost named_at body → AllFit parts items IsAcceptedFunction (deeds_in body)
  fits outermost named_at body b =
      body_fits items parts p.mutexes IsAcceptedFunction callable b.labels body b.around b.names (b.side ∙ source) (seen_good items parts p.mutexes b.names (named_at 0) b.globals (b.sees 0)) b.fine

  abbrev at_depth : ℕ → Option ℕ → Within
  at_depth d ret = record { parts = parts; items = items; inline = inline_at parts items d; ret = ret }

  calls_at : (d : ℕ) (r : Option ℕ) → CallsSafe IsAcceptedFunction (at_depth d r)
  calls_at zero r f a m q ret le lt = record { grows = omega arith; safe = tt; steps = tt }
  calls_at (suc d) r f a m q ret le lt =
      let w : Within = at_depth d (Some ret) in
      let k : Known = record { names = bound f.params m; next = q; seen = record { asserts = f.asserts; starts = 0 } } in
      let done : SafeDid m k _ = body_safe IsAcceptedFunction f.body w m k (record {
        below = omega (arith, le, lt);
        names = bound_names f.params m q (omega (arith, le, lt));
        ret = λ l e. let is : ret ≡ l = same_some ret l e in omega (arith, le, is);
        calls = calls_at d (Some ret);
      }) (fits false (bound f.params) f.body a.accepted.body) in
      record { grows = done.grows; safe = done.safe; steps = done.steps }

  -- ---- threads

  module _ (outermost : Bool) (f : Ident) (h : ThreadFunction p items parts text outermost f) where
    abbrev t : Thread
    t = thread_of parts items f

    abbrev function : Function
    function = named_function parts items f

    abbrev body_flow : Flow
    body_flow = (thread_code parts items function).flow

    abbrev entry : Known
    entry = at_entry function.asserts

    body_accepted : AcceptedBody p items parts outermost (λ n. []) function.body
    body_accepted = subst (λ (g : Function). AcceptedBody p items parts outermost (λ n. []) g.body) (sym (ap the_function h.is)) h.body

    pub body_done : SafeDid 0 entry (thread_code parts items function)
    body_done = body_safe IsAcceptedFunction function.body (in_thread parts items) 0 entry (record {
      below = omega arith;
      names = no_names 0 0;
      ret = λ l e. absurd (none_is_not l e);
      calls = calls_at most_calls None;
    }) (fits outermost (λ n. []) function.body body_accepted)

    abbrev whole_body : Flow
    whole_body = Body (labels_in function.body) body_flow

    abbrev ways : Ways
    ways = all_to (end_of parts items f)

    abbrev all : List Placed
    all = lay ways (flow_of parts items f) 0

    stands : Stands t.code 0 all
    stands = stands_all [] all t.code refl

    pub halves : Stands t.code 0 (lay ways whole_body 0) × Stands t.code (0 + size whole_body) (placed (place_in items f) instr.End ∷ [])
    halves = split t.code 0 ways whole_body (placed (place_in items f) instr.End ∷ []) stands

    pub end_at : slice_get t.code (end_of parts items f) ≡ Some instr.End
    end_at = let is : 0 + size whole_body ≡ end_of parts items f = zero-add (size body_flow) in subst (λ k. slice_get t.code k ≡ Some instr.End) is halves.1.0

    exits : (n : ℕ) → Exits t.code n nothing ways whole_body
    exits n Behind = end_fine t.code n _ (end_of parts items f) end_at
    exits n Next = end_fine t.code n _ (end_of parts items f) end_at
    exits n Home = end_fine t.code n _ (end_of parts items f) end_at

    fine : (n : ℕ) → Fine t.code n nothing 0
    fine n = carries t.code ways whole_body 0 halves.0 n nothing body_done.safe (end_fine t.code n _ (0 + size whole_body) halves.1.0) (exits n)

    -- of no section, and with its locals apart
    abbrev Quiet : Instr → Type 0
    Quiet i = UpdatesApart i × (is_section i ≡ false)

    takes : TakesJumps Quiet (λ e. Unit {0}) (size body_flow + 1)
    takes = record { jump = λ k l. (tt, refl); branch = λ e k q l. (tt, refl) }

    ways_in : LeadsIn (size body_flow + 1) ways
    ways_in = record { behind = omega arith; next = omega arith; home = omega arith; label = λ y. omega arith }

    each_quiet : EachPlaced Quiet all
    each_quiet =
        both_all (λ (q : Placed). Quiet q.instr) (lay ways whole_body 0) (placed (place_in items f) instr.End ∷ [])
        (laid_each Quiet (λ e. Unit {0}) (size body_flow + 1) takes ways whole_body 0 ways_in (omega arith)
        (weaker (Step 0) Quiet (λ e. Unit {0}) (λ e. Unit {0}) (λ i s. (s.1, s.2)) (λ e s. tt) body_flow body_done.steps))
        ((tt, refl), tt)

    pub thread_guarded : GuardedThread t
    thread_guarded = record {
      guarded = λ k i e. guarded t.code fine k i e;
      apart = λ k i e. (each_at Quiet all each_quiet k i e).0;
      sections = λ k i e. (each_at Quiet all each_quiet k i e).1;
    }
