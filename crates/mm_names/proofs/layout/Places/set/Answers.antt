use Rattle.std.proofs.Common.{◌∙◌, ap, map}
use Rattle.mm_scope.proofs.Seen.{seen, insert-seen}
use Rattle.mm_names.proofs.layout.Places.set.Goals as goal

pub returns : goal.returns
returns c = rw (← c.self.view_is) (ap (map seen) c.in_ok-insert.ensures.entries ∙ insert-seen c.args.name c.args.place c.self.inside.map.entries)
