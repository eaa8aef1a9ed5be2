use Rattle.std.proofs.Common.{◌≡◌, map}
use Rattle.std.specs.List.{range_with_len}
use Rattle.mm_words.specs.Words.{declare}
use Rattle.mm_templates.specs.Names.{local_name}
use Rattle.mm_instr.proofs.functions.declarations.Given as goal

abbrev pub invariant-loop-l : goal.invariant-loop-l
invariant-loop-l l = l.stmts.items ≡ map (λ k. declare (local_name k)) (range_with_len 0 l.l)
