use Rattle.mm_delay.proofs.Gathering.{adds_both, adds_all, iff_chain, either_left}
use Rattle.mm_delay.proofs.Takes.{in_store, in_add, in_cas}
use Rattle.mm_delay.proofs.addressed.add_instr.Goals as goal

pub returns-in-Store : goal.returns-in-Store
returns-in-Store c = λ n. adds_both (c.add_target-in-Store.ensures n) (c.add_expr.ensures n) (in_store c.args.it.now n _ _ c.in-Store.is)

pub returns-in-Add : goal.returns-in-Add
returns-in-Add c = λ n. adds_both (c.add_target-in-Add.ensures n) (c.add_expr-in-Add.ensures n) (in_add c.args.it.now n _ _ _ c.in-Add.is)

pub returns-in-Cas : goal.returns-in-Cas
returns-in-Cas c = λ n. adds_all (c.add_target-in-Cas.ensures n) (c.add_expr-in-Cas.ensures n) (c.add_expr-in-Cas-2.ensures n) (iff_chain (in_cas c.args.it.now n _ _ _ _ c.in-Cas.is) either_left)
