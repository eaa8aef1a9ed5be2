use Rattle.std.proofs.Common.{rules}
use Rattle.mm_bits.proofs.Wordwise.{none_linked}
use Rattle.mm_bits.proofs.table.Bits.new.Goals as goal

pub invariant_of-result-clause-within : goal.invariant_of-result-clause-within
invariant_of-result-clause-within c = rw (c.in_ok-vec.ensures.items_if_clones_equal (search rules)) (λ a b h. absurd (none_linked c.args.side c.empty.result c.empty.ensures a b h))

pub returns-clause-empty : goal.returns-clause-empty
returns-clause-empty c = rw (c.in_ok-vec.ensures.items_if_clones_equal (search rules)) (none_linked c.args.side c.empty.result c.empty.ensures)
