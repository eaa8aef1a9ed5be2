use Rattle.std.proofs.Common.{rules, ◌≡◌, ◌∙◌}
use Rattle.std.specs.Map.{lookup}
use Rattle.std.specs.Str.{bytes_eq}
use Rattle.mm_scope.proofs.Seen.{lookup-seen}
use Rattle.mm_names.proofs.layout.Places.place_of.Goals as goal

pub returns : goal.returns
returns c =
    let found : c.copied.result ≡ lookup (λ k. bytes_eq c.args.name.now k.now) c.self.inside.map.entries = search rules in
    rw (← c.self.view_is) (found ∙ lookup-seen c.args.name.now c.self.inside.map.entries)
