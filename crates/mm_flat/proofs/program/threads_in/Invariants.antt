use Rattle.std.proofs.Common.{◌≡◌, ◌∷◌, ◌++◌, drop, map, codes}
use Rattle.mm_flow.specs.declared.names.Started.{Started}
use Rattle.mm_flat.proofs.program.threads_in.Given as goal

abbrev pub invariant-loop-start : goal.invariant-loop-start
invariant-loop-start l = codes "main" ∷ map (λ (s : Started). s.function) l.parts.starts ≡ l.out.items ++ map (λ (s : Started). s.function) (drop l.start-index l.start-items)
