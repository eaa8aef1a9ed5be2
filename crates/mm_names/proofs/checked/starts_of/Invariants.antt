use Rattle.std.proofs.Common.{◌≡◌, take}
use Rattle.std.specs.List.{filter_map}
use Rattle.mm_names.specs.Results.{function_of}
use Rattle.mm_names.proofs.checked.starts_of.Given as goal

abbrev pub invariant-loop-thread : goal.invariant-loop-thread
invariant-loop-thread l = l.names.items ≡ filter_map function_of (take l.thread-index l.uses)
