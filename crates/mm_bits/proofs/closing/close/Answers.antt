use Rattle.std.proofs.Common.{refl, arith}
use Rattle.mm_bits.specs.Table.{Linked}
use Rattle.mm_bits.proofs.Closures.{closing_none, closing_more, closing_all, leads_within}
use Rattle.mm_bits.proofs.Wordwise.{linked_below}
use Rattle.mm_bits.proofs.closing.close.Goals as goal

pub through-init : goal.through-init
through-init c = record { length = refl; closing = closing_none (Linked c.args.rows.now) }

pub through-preserved : goal.through-preserved
through-preserved c = record {
  length = omega arith;
  closing = closing_more (Linked c.args.rows.now) (Linked c.through.rows) (Linked c.link_through.new.rows) c.through.k c.link_through.ensures c.through.invariant.closing;
}

pub returns-clause-closed : goal.returns-clause-closed
returns-clause-closed c = closing_all (Linked c.args.rows.now) (Linked c.through.rows) c.through.k c.through.invariant.closing
    (λ a b h. let w = linked_below c.through.rows a b h in omega (arith, c.through.invariant.length))

pub returns-clause-within : goal.returns-clause-within
returns-clause-within c = λ n within a b h. leads_within (Linked c.args.rows.now) n within a b (c.through.invariant.closing.only a b h)
