use Rattle.std.proofs.Common.{ap, ◌∙◌}
use Rattle.mm_goto.specs.PointsTo.{aims_of}
use Rattle.mm_delay.proofs.Gathering.{adds, adds_both, adds_all}
use Rattle.mm_delay.proofs.Takes.{at_addr, at_elem, at_un, at_bin, at_cond}
use Rattle.mm_delay.proofs.addressed.+add_expr.Goals as goal

pub returns-in-Addr : goal.returns-in-Addr
returns-in-Addr t c = λ n. adds (c.add_row.ensures n) (at_addr c.args.e.now n _ c.in-Addr.is)

pub returns-in-AddrElem : goal.returns-in-AddrElem
returns-in-AddrElem t c = λ n. adds_both (c.add_element.ensures n) (c.add_expr.ensures n)
    (at_elem c.args.e.now n _ _ _ _ _ c.in-AddrElem.is c.get-in-AddrElem.ensures (c.constant_of.ensures ∙ ap (λ x. (aims_of x).constant) c.get.ensures))

pub returns-in-Un : goal.returns-in-Un
returns-in-Un t c = λ n. adds (c.add_expr-in-Un.ensures n) (at_un c.args.e.now n _ _ _ c.in-Un.is c.get-in-Un.ensures)

pub returns-in-Bin : goal.returns-in-Bin
returns-in-Bin t c = λ n. adds_both (c.add_expr-in-Bin.ensures n) (c.add_expr-in-Bin-2.ensures n) (at_bin c.args.e.now n _ _ _ _ _ c.in-Bin.is c.get-in-Bin.ensures c.get-in-Bin-2.ensures)

pub returns-in-Cond : goal.returns-in-Cond
returns-in-Cond t c = λ n. adds_all (c.add_expr-in-Cond.ensures n) (c.add_expr-in-Cond-2.ensures n) (c.add_expr-in-Cond-3.ensures n)
    (at_cond c.args.e.now n _ _ _ _ _ _ c.in-Cond.is c.get-in-Cond.ensures c.get-in-Cond-2.ensures c.get-in-Cond-3.ensures)
