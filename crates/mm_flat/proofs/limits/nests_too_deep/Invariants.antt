use Rattle.std.proofs.Common.{◌≡◌, drop}
use Rattle.mm_flow.specs.Programs.{most_calls, nests_too_deep}
use Rattle.mm_flat.specs.reading.Nesting.{deep_after, graph}
use Rattle.mm_flat.proofs.limits.nests_too_deep.Given as goal

abbrev pub invariant-loop-f : goal.invariant-loop-f
invariant-loop-f l = record {
  table : l.deep.items ≡ deep_after (graph l.items) most_calls;
  same : nests_too_deep l.items l.functions ≡ nests_too_deep l.items (drop l.f-index l.functions);
}
