use Rattle.std.proofs.Common.{arith}
use Rattle.mm_bits.proofs.Wordwise.{linked_below}
use Rattle.mm_bits.proofs.table.Bits.turned.Goals as goal

pub returns-clause-turned : goal.returns-clause-turned
returns-clause-turned c = λ a b. (
  λ h. ((c.rows.invariant.turned b a).0 h).1,
  λ h. (c.rows.invariant.turned b a).1 ((let w = linked_below c.args.self.now.rows.items a b h in let size = c.args.self.now.sized in omega arith), h),
)
