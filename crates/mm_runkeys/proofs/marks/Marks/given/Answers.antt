use Rattle.std.proofs.Common.{refl, subst}
use Rattle.mm_runkeys.specs.reading.Marks.{Marks}
use Rattle.mm_runkeys.specs.reading.Behind.{Given}
use Rattle.mm_runkeys.proofs.marks.Marks.given.Goals as goal

pub returns : goal.returns
returns c = subst (λ (g : Marks). Given g c.self.inside.nodes.items c.add_behind.new.edges.items) c.self.view_is (record {
  flushes = c.in_ok-flushes.flushes.items;
  nexts = c.in_ok-writes.writes.items;
  are_flushes = rw c.as_slice.ensures.value at c.in_ok-flushes.ensures;
  are_nexts = rw c.as_slice-2.ensures.value at c.in_ok-writes.ensures;
  nodes_are = refl;
  edges_are = rw (c.as_slice-3.ensures.value, c.as_slice-4.ensures.value, c.as_slice-5.ensures.value) at c.in_ok-add_behind.ensures;
})
