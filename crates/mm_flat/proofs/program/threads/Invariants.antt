use Rattle.std.proofs.Common.{◌≡◌, ◌+◌, ◌++◌, drop, map}
use Rattle.mm_flow.specs.Programs.{size_in, thread_of}
use Rattle.mm_flat.proofs.program.threads.Given as goal

abbrev pub invariant-loop-f : goal.invariant-loop-f
invariant-loop-f l = record {
  threads : map (thread_of l.parts l.items) l.functions ≡ l.out.items ++ map (thread_of l.parts l.items) (drop l.f-index l.functions);
  room : size_in l.parts l.items l.functions + l.left ≡ l.limit + size_in l.parts l.items (drop l.f-index l.functions);
}
