use Rattle.std.proofs.Common.{◌≡◌, ◌++◌, map}
use Rattle.std.specs.List.{range_with_len}
use Rattle.mm_words.specs.Words.{thread_variable}
use Rattle.mm_templates.specs.Names.{handle_name}
use Rattle.mm_instr.proofs.items.put_handles.Given as goal

abbrev pub invariant-loop-k : goal.invariant-loop-k
invariant-loop-k l = l.out.items ≡ l.initial.out.items ++ map (λ u. thread_variable (handle_name u)) (range_with_len 1 l.k)
