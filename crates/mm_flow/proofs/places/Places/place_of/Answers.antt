use Rattle.std.proofs.Common.{rules, ◌≡◌, ◌∙◌, Bor}
use Rattle.std.specs.Map.{lookup}
use Rattle.std.specs.Str.{bytes_eq}
use Rattle.mm_goto.specs.declared.ident.Ident.{Ident}
use Rattle.mm_flow.proofs.Finds.{lookup-view}
use Rattle.mm_flow.proofs.places.Places.place_of.Goals as goal

pub returns : goal.returns
returns c =
    let found : c.copied.result ≡ lookup (λ k. bytes_eq c.args.name.now k.now) c.self.inside.map.entries = search rules in
    rw (← c.self.view_is) (found ∙ lookup-view (λ (k : Bor Ident). k.now) c.args.name.now c.self.inside.map.entries)
