use Rattle.std.proofs.Common.{◌≡◌, take}
use Rattle.mm_runkeys.specs.reading.Tables.{linked}
use Rattle.mm_runkeys.proofs.since.link_all.Given as goal

abbrev pub invariant-loop-a : goal.invariant-loop-a
invariant-loop-a l = l.edges.items ≡ linked l.initial.edges.items l.kind (take l.a-index l.from) l.n
