use Rattle.std.proofs.Common.{◌≡◌, ◌++◌, drop, map}
use Rattle.mm_tree.specs.declared.expr.Word.{Word}
use Rattle.mm_flat.proofs.gather.add_names.Given as goal

abbrev pub invariant-loop-word : goal.invariant-loop-word
invariant-loop-word l = l.fn.out.items ++ map (λ (w : Word). w.name) l.words ≡ l.out.items ++ map (λ (w : Word). w.name) (drop l.word-index l.words)
