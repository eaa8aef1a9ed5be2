use Rattle.std.proofs.Common.{arith}
use Rattle.mm_bits.proofs.Wordwise.{linked_below}
use Rattle.mm_bits.proofs.levels.before.Goals as goal

pub returns : goal.returns
returns c = λ x. (
  λ h. let p = (c.nodes.invariant x).0 h in (p.0, p.2, p.3),
  λ p. (c.nodes.invariant x).1 (p.0, (let w = linked_below c.args.back.now p.0 x p.1 in omega arith), p.1, p.2),
)
