-- A thread of an accepted text is in range, and how often it starts others.
use Rattle.std.proofs.Common.{arith, ◌≡◌, ℕ, ◌+◌, ◌-◌, ◌<◌, ◌≤◌, ◌^◌, Bool, true, false, cond, List, [], ◌∷◌, ◌++◌, length, refl, ◌∙◌, sym, ap, subst, Some, IsSomeAnd}
use Rattle.std.specs.List.{AllByRecursion, slice_get, count_by}
use Rattle.std.proofs.lemmas.List.{length-append, length-map}
use Rattle.std.proofs.lemmas.List.Elements.{All-from_recursion}
use Rattle.std.proofs.lemmas.List.Sums.{sum_by-cons}
use Rattle.mm_goto.specs.declared.ident.Ident.{Ident}
use Rattle.mm_goto.specs.declared.limits.TheConstants.{MAX_LOCALS}
use Rattle.mm_goto.specs.declared.program.Instr.{Instr}
use Rattle.mm_goto.specs.declared.program.Instr.TheVariants as instr
use Rattle.mm_goto.specs.declared.program.Thread.{Thread}
use Rattle.mm_goto.specs.declared.pure.Pure.{Pure}
use Rattle.mm_goto.specs.Listing.{Listing}
use Rattle.mm_goto.specs.Sourcelike.{is_start_or_join}
use Rattle.mm_goto.specs.Valid.{IsInstrIn, IsPureIn, IsThreadIn, IsLast, is_start, is_join}
use Rattle.mm_tree.specs.declared.item.Item.{Item}
use Rattle.mm_flow.specs.declared.names.Parts.{Parts}
use Rattle.mm_flow.specs.Flow.{Flow, Empty, Do, Then, When, Either, While, DoWhile, For, Body, Leave, Mark, Goto, Placed, placed, lay, size, Ways}
use Rattle.mm_flow.specs.Programs.{thread_code, all_to, named_function, the_function, place_in, flow_of, end_of, thread_of}
use Rattle.mm_flow.specs.Statements.{Function, function_of}
use Rattle.mm_flow.specs.Text.{asserts_in, creates_in, labels_in}
use Rattle.mm_sourcelike.proofs.Counting.{steps, code_in, code_append, count_append, laid_count, PassesNoJump, last_of}
use Rattle.mm_sourcelike.proofs.Inlining.{AcceptedBody, AcceptedText, thread_flow_in}
use Rattle.mm_sourcelike.proofs.Laying.{Each, EachPlaced, LeadsIn, TakesJumps, laid_each, laid_size, weaker}
use Rattle.mm_sourcelike.proofs.Standing.{FlowAt, IsInstrAt}
use Rattle.mm_sourcelike.proofs.Cells.{both_all}

-- ---- how many instructions pass

none_pass : (test : Instr → Bool) (xs : List Instr) → AllByRecursion (λ i. test i ≡ false) xs → count_by test xs ≡ 0
none_pass test [] h = refl
none_pass test (x ∷ xs) h = sum_by-cons (λ i. cond (test i) 1 0) x xs ∙ omega (arith, ap {B = ℕ} (λ b. cond b 1 0) h.0, none_pass test xs h.1)

-- what the flow's instructions are, its steps are
pub steps_are : (P : Instr → Type 0) (Q : Pure → Type 0) (f : Flow) → Each P Q f → AllByRecursion P (steps f)
steps_are P Q Empty h = tt
steps_are P Q (Do at i) h = (h, tt)
steps_are P Q (Then a b) h = both_all P (steps a) (steps b) (steps_are P Q a h.0) (steps_are P Q b h.1)
steps_are P Q (When at e a) h = steps_are P Q a h.1
steps_are P Q (Either at e a b) h = both_all P (steps a) (steps b) (steps_are P Q a h.1) (steps_are P Q b h.2)
steps_are P Q (While at c e a) h = both_all P (steps c) (steps a) (steps_are P Q c h.0) (steps_are P Q a h.2)
steps_are P Q (DoWhile at a c e) h = both_all P (steps a) (steps c) (steps_are P Q a h.0) (steps_are P Q c h.1)
steps_are P Q (For at c e a j) h = both_all P (steps c) (steps a ++ steps j) (steps_are P Q c h.0) (both_all P (steps a) (steps j) (steps_are P Q a h.2) (steps_are P Q j h.3))
steps_are P Q (Body names a) h = steps_are P Q a h
steps_are P Q (Leave at w) h = tt
steps_are P Q (Mark y) h = tt
steps_are P Q (Goto at y) h = tt

pub no_start : (u : ℕ) (i : Instr) → is_start_or_join i ≡ false → is_start u i ≡ false
no_start u (instr.Set l e) h = refl
no_start u (instr.Load l t) h = refl
no_start u (instr.Store t e) h = refl
no_start u (instr.Input l) h = refl
no_start u (instr.Jump k) h = refl
no_start u (instr.Branch e k) h = refl
no_start u (instr.Assert e n) h = refl
no_start u (instr.Assume e) h = refl
no_start u instr.Fence h = refl
no_start u (instr.Lock m) h = refl
no_start u (instr.Unlock m) h = refl
no_start u (instr.Add l t e) h = refl
no_start u (instr.Cas l t e f) h = refl
no_start u (instr.Start v) h = absurd (by h)
  where
    by : true ≡ false → ⊥
    by q = cc
no_start u (instr.Join v) h = refl
no_start u instr.AtomBegin h = refl
no_start u instr.AtomEnd h = refl
no_start u instr.End h = refl

pub no_join : (u : ℕ) (i : Instr) → is_start_or_join i ≡ false → is_join u i ≡ false
no_join u (instr.Set l e) h = refl
no_join u (instr.Load l t) h = refl
no_join u (instr.Store t e) h = refl
no_join u (instr.Input l) h = refl
no_join u (instr.Jump k) h = refl
no_join u (instr.Branch e k) h = refl
no_join u (instr.Assert e n) h = refl
no_join u (instr.Assume e) h = refl
no_join u instr.Fence h = refl
no_join u (instr.Lock m) h = refl
no_join u (instr.Unlock m) h = refl
no_join u (instr.Add l t e) h = refl
no_join u (instr.Cas l t e f) h = refl
no_join u (instr.Start v) h = refl
no_join u (instr.Join v) h = absurd (by h)
  where
    by : true ≡ false → ⊥
    by q = cc
no_join u instr.AtomBegin h = refl
no_join u instr.AtomEnd h = refl
no_join u instr.End h = refl

starts_no_jump : (u : ℕ) → PassesNoJump (is_start u)
starts_no_jump u = record { jump = λ k. refl; branch = λ e k. refl }

joins_no_jump : (u : ℕ) → PassesNoJump (is_join u)
joins_no_jump u = record { jump = λ k. refl; branch = λ e k. refl }

-- ---- a thread

all_map : (P : Instr → Type 0) (ps : List Placed) → EachPlaced P ps → AllByRecursion P (code_in ps)
all_map P [] h = tt
all_map P (q ∷ ps) h = (h.0, all_map P ps h.1)

module _ (p : Listing) (items : List Item) (parts : Parts) (text : AcceptedText p items parts) where
  -- the function of a thread, whose body is accepted
  pub record ThreadFunction (outermost : Bool) (f : Ident) : Type 0 where
    pub function : Function
    pub is : function_of items parts.asserts f ≡ Some function
    pub body : AcceptedBody p items parts outermost (λ n. []) function.body
    pub untyped : body.typed_params ≡ []
    pub asserts : function.asserts + asserts_in function.body < 2 ^ 32
    pub main : outermost ≡ true → creates_in function.body ≡ parts.starts

  module _ (outermost : Bool) (f : Ident) (h : ThreadFunction outermost f) where
    abbrev t : Thread
    t = thread_of parts items f

    abbrev body_flow : Flow
    body_flow = (thread_code parts items (named_function parts items f)).flow

    abbrev whole_body : Flow
    whole_body = Body (labels_in (named_function parts items f).body) body_flow

    named_is : named_function parts items f ≡ h.function
    named_is = ap the_function h.is

    pub flow_at : FlowAt p t outermost body_flow
    flow_at = subst (λ (g : Function). FlowAt p t outermost (thread_code parts items g).flow) (sym named_is)
        (thread_flow_in p t items parts text outermost h.function h.body h.asserts (omega (arith, ap (λ (g : Function). (thread_code parts items g).known.next) named_is)) h.main)

    abbrev ways : Ways
    ways = all_to (end_of parts items f)

    abbrev front : List Placed
    front = lay ways whole_body 0

    pub code_is : t.code ≡ code_in front ++ instr.End ∷ []
    code_is = code_append front (placed (place_in items f) instr.End ∷ [])

    front_size : length (code_in front) ≡ size body_flow
    front_size = length-map front (λ (q : Placed). q.instr) ∙ laid_size ways whole_body 0

    pub code_size : length t.code ≡ size body_flow + 1
    code_size = ap length code_is ∙ (length-append (code_in front) (instr.End ∷ []) ∙ omega (arith, front_size))

    ways_in : LeadsIn (length t.code) ways
    ways_in = record { behind = omega (arith, code_size); next = omega (arith, code_size); home = omega (arith, code_size); label = λ y. omega (arith, code_size) }

    takes : TakesJumps (IsInstrIn p t) (IsPureIn p t) (length t.code)
    takes = record { jump = λ k l. l; branch = λ e k q l. (q, l) }

    front_in : EachPlaced (IsInstrIn p t) front
    front_in = laid_each (IsInstrIn p t) (IsPureIn p t) (length t.code) takes ways whole_body 0 ways_in (omega (arith, code_size))
        (weaker (IsInstrAt p t outermost) (IsInstrIn p t) (IsPureIn p t) (IsPureIn p t) (λ i g. g.0) (λ e g. g) body_flow flow_at)

    pub thread_in : t.locals ≤ MAX_LOCALS → IsThreadIn p t
    thread_in l = record {
      locals = l;
      instructions = All-from_recursion (IsInstrIn p t) t.code (subst (AllByRecursion (IsInstrIn p t)) (sym code_is) (both_all (IsInstrIn p t) (code_in front) (instr.End ∷ []) (all_map (IsInstrIn p t) front front_in) (tt, tt)));
      last = subst (λ (is : List Instr). IsSomeAnd (slice_get is (length is - 1)) IsLast) (sym code_is) (subst (λ o. IsSomeAnd o IsLast) (sym (last_of (code_in front) instr.End)) tt);
      places = length-map (lay ways (flow_of parts items f) 0) (λ (q : Placed). q.at) ∙ sym (length-map (lay ways (flow_of parts items f) 0) (λ (q : Placed). q.instr));
    }

    count_is : (test : Instr → Bool) → PassesNoJump test → test instr.End ≡ false → count_by test t.code ≡ count_by test (steps body_flow)
    count_is test n e = laid_count test n ways (flow_of parts items f) 0 ∙ (count_append test (steps body_flow) (instr.End ∷ []) ∙ omega (arith, ap {B = ℕ} (λ b. cond b 1 0) e))

    pub starts_are : (u : ℕ) → count_by (is_start u) t.code ≡ count_by (is_start u) (steps body_flow)
    starts_are u = count_is (is_start u) (starts_no_jump u) refl

    pub joins_are : (u : ℕ) → count_by (is_join u) t.code ≡ count_by (is_join u) (steps body_flow)
    joins_are u = count_is (is_join u) (joins_no_jump u) refl

    idle_steps : outermost ≡ false → AllByRecursion (λ i. is_start_or_join i ≡ false) (steps body_flow)
    idle_steps e = steps_are (λ i. is_start_or_join i ≡ false) (λ q. Unit {0}) body_flow (weaker (IsInstrAt p t outermost) (λ i. is_start_or_join i ≡ false) (IsPureIn p t) (λ q. Unit {0}) (λ i g. g.1 e) (λ q g. tt) body_flow flow_at)

    pub idle_starts : outermost ≡ false → (u : ℕ) → count_by (is_start u) t.code ≡ 0
    idle_starts e u = starts_are u ∙ none_pass (is_start u) (steps body_flow) (each (steps body_flow) (idle_steps e))
      where
        each : (is : List Instr) → AllByRecursion (λ i. is_start_or_join i ≡ false) is → AllByRecursion (λ i. is_start u i ≡ false) is
        each [] g = tt
        each (i ∷ is) g = (no_start u i g.0, each is g.1)

    pub idle_joins : outermost ≡ false → (u : ℕ) → count_by (is_join u) t.code ≡ 0
    idle_joins e u = joins_are u ∙ none_pass (is_join u) (steps body_flow) (each (steps body_flow) (idle_steps e))
      where
        each : (is : List Instr) → AllByRecursion (λ i. is_start_or_join i ≡ false) is → AllByRecursion (λ i. is_join u i ≡ false) is
        each [] g = tt
        each (i ∷ is) g = (no_join u i g.0, each is g.1)
