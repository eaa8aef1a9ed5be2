-- The instructions of a source's threads are small, have numbers without a sign, and divide in time.
use Rattle.std.proofs.Common.{arith, ◌≡◌, ◌⊎◌, inl, inr, false, ℕ, ◌+◌, ◌≤◌, List, [], ◌∷◌, All, sum_by, ap, sym, subst, Some, None}
use Rattle.std.specs.List.{AllByRecursion, flat_map, slice_get}
use Rattle.std.proofs.lemmas.List.Elements.{All-from_recursion}
use Rattle.std.proofs.lemmas.List.Sums.{sum_by-cons}
use Rattle.mm_goto.specs.declared.ident.Ident.{Ident}
use Rattle.mm_goto.specs.declared.pure.Pure.{Pure}
use Rattle.mm_goto.specs.declared.program.Instr.{Instr}
use Rattle.mm_goto.specs.declared.program.Instr.TheVariants as instr
use Rattle.mm_goto.specs.declared.program.Target.{Target}
use Rattle.mm_goto.specs.declared.program.Target.TheVariants as target
use Rattle.mm_goto.specs.declared.program.Thread.{Thread}
use Rattle.mm_goto.specs.Checks.{DividesInTime, IsRangeCheck, Late, late_parts, target_exprs, value_exprs}
use Rattle.mm_sourcelike.specs.Checks.{DividesAlone}
use Rattle.mm_goto.specs.Parts.{divides, levels, nodes, numbers}
use Rattle.mm_goto.specs.Sourcelike.{exprs_of, target_nodes}
use Rattle.mm_tree.specs.declared.item.Tree.{Tree}
use Rattle.mm_tree.specs.declared.side.Side.TheVariants.{Source}
use Rattle.mm_flow.specs.Programs.{limit_passed, named_function, parts_of, program_of, the_function, thread_code, thread_of}
use Rattle.mm_flow.specs.Statements.{Function, function_of}
use Rattle.mm_names.specs.Programs.{IsAccepted}
use Rattle.mm_sourcelike.specs.Grammatical.{IsGrammatical, IsUnsigned}
use Rattle.mm_sourcelike.proofs.Cells.{both_all}
use Rattle.mm_sourcelike.proofs.EachThread.{each_thread, thread_each}
use Rattle.mm_sourcelike.proofs.PlainExpressions.{PlainTarget, IsPlain, IsPlainBeside, PlainInstr, PlainFlow}
use Rattle.mm_sourcelike.proofs.PlainPures.{Asserted, IsAlone, plain_asserted, plain_up}
use Rattle.mm_sourcelike.proofs.PlainStatements.{code_plain}

-- ---- the expressions of an instruction

module _ (R : Pure → Type 0) (asserted : (e : Pure) → Asserted 410 210 e → R e) where
  each : (e : Pure) → IsPlain e → R e
  each e h = asserted e (plain_asserted 410 210 e h)

  target_part : (t : Target) → PlainTarget t → AllByRecursion R (flat_map target_exprs (t ∷ []))
  target_part (target.Cell c) h = tt
  target_part (target.Elem first len e) h = (each e (plain_up 200 410 200 210 e (omega arith) (omega arith) h), tt)
  target_part (target.Deref e) h = (each e (plain_up 200 410 200 210 e (omega arith) (omega arith) h), tt)

  beside : (e : Pure) → IsPlainBeside e → R e
  beside e h = each e (plain_up 205 410 205 210 e (omega arith) (omega arith) h)

  -- what each plain expression is, each expression of a plain instruction is
  parts_are : (i : Instr) → PlainInstr i → AllByRecursion R (exprs_of i)
  parts_are (instr.Set l e) h = (each e h, tt)
  parts_are (instr.Load l t) h = both_all R (flat_map target_exprs (t ∷ [])) [] (target_part t h) tt
  parts_are (instr.Store t e) h = both_all R (flat_map target_exprs (t ∷ [])) (e ∷ []) (target_part t h.0) (beside e h.1, tt)
  parts_are (instr.Input l) h = tt
  parts_are (instr.Jump k) h = tt
  parts_are (instr.Branch e k) h = (each e h, tt)
  parts_are (instr.Assert e n) h = (asserted e h, tt)
  parts_are (instr.Assume e) h = (each e h, tt)
  parts_are instr.Fence h = tt
  parts_are (instr.Lock m) h = tt
  parts_are (instr.Unlock m) h = tt
  parts_are (instr.Add l t e) h = both_all R (flat_map target_exprs (t ∷ [])) (e ∷ []) (target_part t h.0) (beside e h.1, tt)
  parts_are (instr.Cas l t e f) h = both_all R (flat_map target_exprs (t ∷ [])) (e ∷ f ∷ []) (target_part t h.0) (beside e h.1, (beside f h.2, tt))
  parts_are (instr.Start u) h = tt
  parts_are (instr.Join u) h = tt
  parts_are instr.AtomBegin h = tt
  parts_are instr.AtomEnd h = tt
  parts_are instr.End h = tt

  pub all_are : (i : Instr) → PlainInstr i → All R (exprs_of i)
  all_are i h = All-from_recursion R (exprs_of i) (parts_are i h)

-- ---- how large an instruction is

target_small : (t : Target) → PlainTarget t → sum_by nodes (flat_map target_exprs (t ∷ [])) ≤ 200
target_small (target.Cell c) h = omega arith
target_small (target.Elem first len e) h = omega (arith, sum_by-cons nodes e [], h.size)
target_small (target.Deref e) h = omega (arith, sum_by-cons nodes e [], h.size)

abbrev IsSmall : Instr → Type 0
IsSmall i = (target_nodes i ≤ 410) × All (λ e. target_nodes i + nodes e ≤ 410) (value_exprs i)

small_by : (i : Instr) → target_nodes i ≤ 410 → AllByRecursion (λ e. target_nodes i + nodes e ≤ 410) (value_exprs i) → IsSmall i
small_by i l h = (l, All-from_recursion (λ e. target_nodes i + nodes e ≤ 410) (value_exprs i) h)

pub is_small : (i : Instr) → PlainInstr i → IsSmall i
is_small (instr.Set l e) h = small_by (instr.Set l e) (omega arith) (omega (arith, h.size), tt)
is_small (instr.Load l t) h = small_by (instr.Load l t) (omega (arith, target_small t h)) tt
is_small (instr.Store t e) h = small_by (instr.Store t e) (omega (arith, target_small t h.0)) (omega (arith, target_small t h.0, h.1.size), tt)
is_small (instr.Input l) h = small_by (instr.Input l) (omega arith) tt
is_small (instr.Jump k) h = small_by (instr.Jump k) (omega arith) tt
is_small (instr.Branch e k) h = small_by (instr.Branch e k) (omega arith) (omega (arith, h.size), tt)
is_small (instr.Assert e n) h = small_by (instr.Assert e n) (omega arith) (omega (arith, h.size), tt)
is_small (instr.Assume e) h = small_by (instr.Assume e) (omega arith) (omega (arith, h.size), tt)
is_small instr.Fence h = small_by instr.Fence (omega arith) tt
is_small (instr.Lock m) h = small_by (instr.Lock m) (omega arith) tt
is_small (instr.Unlock m) h = small_by (instr.Unlock m) (omega arith) tt
is_small (instr.Add l t e) h = small_by (instr.Add l t e) (omega (arith, target_small t h.0)) (omega (arith, target_small t h.0, h.1.size), tt)
is_small (instr.Cas l t e f) h = small_by (instr.Cas l t e f) (omega (arith, target_small t h.0)) (omega (arith, target_small t h.0, h.1.size), (omega (arith, target_small t h.0, h.2.size), tt))
is_small (instr.Start u) h = small_by (instr.Start u) (omega arith) tt
is_small (instr.Join u) h = small_by (instr.Join u) (omega arith) tt
is_small instr.AtomBegin h = small_by instr.AtomBegin (omega arith) tt
is_small instr.AtomEnd h = small_by instr.AtomEnd (omega arith) tt
is_small instr.End h = small_by instr.End (omega arith) tt

-- ---- where it divides

in_time : (e : Pure) (ls : List Late) → AllByRecursion (IsAlone e) ls → AllByRecursion (λ late. (divides late.part ≡ false) ⊎ IsRangeCheck late.whole) ls
in_time e [] h = tt
in_time e (l ∷ ls) h = (elim h.0 [ inl a ↦ inl a | inr b ↦ inr (subst IsRangeCheck (sym b.0) b.1) ], in_time e ls h.1)

by_itself : (e : Pure) (ls : List Late) → AllByRecursion (IsAlone e) ls → AllByRecursion (λ late. (divides late.part ≡ false) ⊎ (late.whole ≡ e)) ls
by_itself e [] h = tt
by_itself e (l ∷ ls) h = (elim h.0 [ inl a ↦ inl a | inr b ↦ inr b.0 ], by_itself e ls h.1)

-- ---- the whole

module _ (tree : Tree) (g : IsGrammatical Source tree) (accepted : IsAccepted Source tree) (none : limit_passed Source tree ≡ None) where
  plain_flow : (f : Ident) (function : Function) → function_of tree.items (parts_of Source tree.items).asserts f ≡ Some function → PlainFlow (thread_code (parts_of Source tree.items) tree.items (named_function (parts_of Source tree.items) tree.items f)).flow
  plain_flow f function e =
      subst (λ (q : Function). PlainFlow (thread_code (parts_of Source tree.items) tree.items q).flow) (sym (ap the_function e))
      (code_plain (parts_of Source tree.items) tree.items g.phrases f function e)

  plain_thread : (f : Ident) (function : Function) → function_of tree.items (parts_of Source tree.items).asserts f ≡ Some function
      → (k : ℕ) (i : Instr) → slice_get (thread_of (parts_of Source tree.items) tree.items f).code k ≡ Some i → PlainInstr i
  plain_thread f function e = thread_each (parts_of Source tree.items) tree.items f PlainInstr IsPlain (λ k. tt) (λ d k h. h) tt (plain_flow f function e)

  abbrev IsPlainThread : Thread → Type 0
  IsPlainThread t = (k : ℕ) (i : Instr) → slice_get t.code k ≡ Some i → PlainInstr i

  pub plain_at : (t k : ℕ) (thread : Thread) (i : Instr) → slice_get (program_of Source tree).threads t ≡ Some thread → slice_get thread.code k ≡ Some i → PlainInstr i
  plain_at t k thread i e f =
      each_thread Source tree g.ints g.scoped accepted none IsPlainThread
      (λ h. plain_thread _ h.function h.is) (λ x h. plain_thread x h.function h.is) t thread e k i f

  pub unsigned_numbers : (t k : ℕ) (thread : Thread) (i : Instr) → slice_get (program_of Source tree).threads t ≡ Some thread → slice_get thread.code k ≡ Some i → All (λ e. All IsUnsigned (numbers e)) (exprs_of i)
  unsigned_numbers t k thread i e f = all_are (λ d. All IsUnsigned (numbers d)) (λ d h. All-from_recursion IsUnsigned (numbers d) h.signs) i (plain_at t k thread i e f)

  pub divides_in_time : (t k : ℕ) (thread : Thread) (i : Instr) → slice_get (program_of Source tree).threads t ≡ Some thread → slice_get thread.code k ≡ Some i → All DividesInTime (exprs_of i)
  divides_in_time t k thread i e f = all_are DividesInTime (λ d h. All-from_recursion _ (late_parts d) (in_time d (late_parts d) h.alone)) i (plain_at t k thread i e f)

  pub checks_alone : (t k : ℕ) (thread : Thread) (i : Instr) → slice_get (program_of Source tree).threads t ≡ Some thread → slice_get thread.code k ≡ Some i → All DividesAlone (exprs_of i)
  checks_alone t k thread i e f = all_are DividesAlone (λ d h. All-from_recursion _ (late_parts d) (by_itself d (late_parts d) h.alone)) i (plain_at t k thread i e f)

  pub few_nodes : (t k : ℕ) (thread : Thread) (i : Instr) → slice_get (program_of Source tree).threads t ≡ Some thread → slice_get thread.code k ≡ Some i → (target_nodes i ≤ 410) × All (λ e. target_nodes i + nodes e ≤ 410) (value_exprs i)
  few_nodes t k thread i e f = is_small i (plain_at t k thread i e f)

  pub few_levels : (t k : ℕ) (thread : Thread) (i : Instr) → slice_get (program_of Source tree).threads t ≡ Some thread → slice_get thread.code k ≡ Some i → All (λ e. levels e ≤ 210) (exprs_of i)
  few_levels t k thread i e f = all_are (λ d. levels d ≤ 210) (λ d h. h.height) i (plain_at t k thread i e f)
