use Rattle.std.proofs.Common.{◌≤◌, arith}
use Rattle.std.proofs.lemmas.Grind.{common_steps}
use Rattle.std.proofs.lemmas.List.Elements.{All-take, All-drop}
use Rattle.mm_goto.specs.declared.program.Cell.{Cell}
use Rattle.mm_goto.specs.Locals.{local_bound}
use Rattle.mm_instr.proofs.variables.put_variables.Goals as goal

pub loop-rest-preserved : goal.loop-rest-preserved
loop-rest-preserved c = record {
  localless = All-take (λ (cell : Cell). local_bound cell.init ≤ 0) _ _ (All-drop (λ (cell : Cell). local_bound cell.init ≤ 0) 1 _ c.loop-rest.invariant.localless);
  written = grind (arith, common_steps);
}
