use Rattle.std.proofs.Common.{◌-◌, List, length, take, drop, arith, ap}
use Rattle.std.proofs.lemmas.List.{nil_from_length}
use Rattle.mm_reading.specs.Gives.{left_at}
use Rattle.mm_parse_expr.specs.declared.terminal.Terminal.{Terminal}
use Rattle.mm_parse_expr.proofs.Operators.{whole}
use Rattle.mm_parse.proofs.Items.{qualified_read, qualified_none, qualified_empty}
use Rattle.mm_parse.proofs.reading.item.+qualified.Goals as goal

pub read_qualified-returns-then-bound-eq0 : goal.read_qualified-returns-then-bound-eq0
read_qualified-returns-then-bound-eq0 t c = ap left_at (qualified_none c.args.bound c.args.may_run c.args.ts.now c.if-bound-eq0.true)

pub read_qualified-returns-in-empty : goal.read_qualified-returns-in-empty
read_qualified-returns-in-empty t c =
    ap left_at (qualified_empty c.args.bound (c.args.bound - 1) c.args.may_run c.args.ts.now (omega arith) (nil_from_length c.args.ts.now (omega arith)))

pub read_qualified-returns-in-len1-up : goal.read_qualified-returns-in-len1-up
read_qualified-returns-in-len1-up t c =
    let rest : List Terminal = take (length c.args.ts.now - 1) (drop 1 c.args.ts.now) in
    let whole = whole c.first-item.result c.args.ts.now c.in-len1-up.len_at_least c.first-item.is in
    let read = qualified_read c.args.bound (c.args.bound - 1) c.args.may_run c.args.ts.now rest c.first-item.result (omega arith) whole in
    rw read c.read_qualified_by.ensures
