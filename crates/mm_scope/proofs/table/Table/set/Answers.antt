use Rattle.std.proofs.Common.{◌∙◌, ap, map}
use Rattle.mm_scope.proofs.Seen.{seen, insert-seen}
use Rattle.mm_scope.proofs.table.Table.set.Goals as goal

pub returns : goal.returns
returns c = record { set = rw (← c.self.view_is) (ap (map seen) c.in_ok-insert.ensures.entries ∙ insert-seen c.args.name c.args.meaning c.self.inside.map.entries); same = tt }
