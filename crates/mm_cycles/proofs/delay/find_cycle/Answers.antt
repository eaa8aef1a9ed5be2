use Rattle.std.proofs.lemmas.Option.{slice_get_within}
use Rattle.std.proofs.Common.{◌≡◌}
use Rattle.std.specs.Prelude.{slice_get}
use Rattle.mm_graph.specs.declared.site.SiteKind.TheVariants as kind
use Rattle.mm_graph.proofs.Filling.{some_and}
use Rattle.mm_cycles.proofs.delay.find_cycle.Goals as goal

pub first_cycle-requires : goal.first_cycle-requires
first_cycle-requires c =
    let site = some_and (slice_get c.args.graph.now.sites c.args.store) (λ x. x.kind ≡ kind.Store) c.requires in
    slice_get_within c.args.graph.now.sites c.args.store site.0 site.1
