-- What is sourcelike of the program of an accepted source: its limits, and that each thread ends at its End.
use Rattle.std.proofs.Common.{arith, ◌≡◌, ◌+◌, ◌-◌, ◌≤◌, List, [], ◌∷◌, ◌++◌, length, map, sym, subst, Some, None}
use Rattle.std.specs.List.{AllByRecursion, All, slice_get}
use Rattle.std.proofs.lemmas.List.{length-map}
use Rattle.std.proofs.lemmas.List.Elements.{All-from_recursion}
use Rattle.mm_goto.specs.declared.ident.Ident.{Ident}
use Rattle.mm_goto.specs.declared.program.Instr.{Instr}
use Rattle.mm_goto.specs.declared.program.Instr.TheVariants as instr
use Rattle.mm_goto.specs.declared.program.Thread.{Thread}
use Rattle.mm_goto.specs.Sourcelike.{IsWithinSource}
use Rattle.mm_tree.specs.declared.item.Item.{Item}
use Rattle.mm_tree.specs.declared.item.Tree.{Tree}
use Rattle.mm_tree.specs.declared.side.Side.{Side}
use Rattle.mm_tree.specs.declared.side.Side.TheVariants.{Source}
use Rattle.mm_flow.specs.declared.names.Parts.{Parts}
use Rattle.mm_flow.specs.declared.names.Started.{Started}
use Rattle.mm_flow.specs.Flow.{Body, lay, Placed, placed}
use Rattle.mm_flow.specs.Programs.{all_to, end_of, most_instructions, most_locals, most_mutexes, most_threads, named_function, parts_of, place_in, program_of, limit_passed, size_in, thread_code, thread_of, threads_in}
use Rattle.mm_flow.specs.Text.{labels_in}
use Rattle.mm_sourcelike.proofs.Counting.{code_append, code_in, last_of}
use Rattle.mm_sourcelike.proofs.Validity.{at_most, code_sum, few_locals, limits_kept}

-- the limits of a source are kept
pub within_source : (tree : Tree) → limit_passed Source tree ≡ None → IsWithinSource (program_of Source tree)
within_source tree none =
    let parts : Parts = parts_of Source tree.items in
    let kept = limits_kept Source tree.items parts none in
    record {
      threads = omega (arith, length-map (threads_in parts) (thread_of parts tree.items), length-map parts.starts (λ (s : Started). s.function), at_most most_threads (1 + length parts.starts) kept.threads);
      instructions = omega (arith, code_sum parts tree.items (threads_in parts), at_most (most_instructions Source) (size_in parts tree.items (threads_in parts)) kept.instructions);
      locals = All-from_recursion (λ (t : Thread). t.locals ≤ 4096) (program_of Source tree).threads (few_locals (most_locals Source) (program_of Source tree).threads kept.locals);
      mutexes = at_most most_mutexes (length parts.mutexes) kept.mutexes;
    }

-- a thread ends at its End
abbrev pub IsEnded : Thread → Type 0
IsEnded t = slice_get t.code (length t.code - 1) ≡ Some instr.End

thread_ends : (parts : Parts) (items : List Item) (f : Ident) → IsEnded (thread_of parts items f)
thread_ends parts items f =
    let front : List Placed = lay (all_to (end_of parts items f)) (Body (labels_in (named_function parts items f).body) (thread_code parts items (named_function parts items f)).flow) 0 in
    let is : (thread_of parts items f).code ≡ code_in front ++ instr.End ∷ [] = code_append front (placed (place_in items f) instr.End ∷ []) in
    subst (λ (c : List Instr). slice_get c (length c - 1) ≡ Some instr.End) (sym is) (last_of (code_in front) instr.End)

each_ends : (parts : Parts) (items : List Item) (fs : List Ident) → AllByRecursion IsEnded (map (thread_of parts items) fs)
each_ends parts items [] = tt
each_ends parts items (f ∷ fs) = (thread_ends parts items f, each_ends parts items fs)

pub threads_end : (side : Side) (tree : Tree) → All IsEnded (program_of side tree).threads
threads_end side tree = All-from_recursion IsEnded (program_of side tree).threads (each_ends (parts_of side tree.items) tree.items (threads_in (parts_of side tree.items)))
