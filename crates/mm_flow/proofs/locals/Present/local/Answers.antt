use Rattle.std.proofs.Common.{rules, ◌≡◌, ◌∙◌, ap}
use Rattle.std.specs.Map.{lookup}
use Rattle.std.specs.Str.{bytes_eq}
use Rattle.std.specs.String.{string_bytes}
use Rattle.mm_flow.specs.reading.Finding.{joined}
use Rattle.mm_flow.proofs.Finds.{lookup-view}
use Rattle.mm_flow.proofs.locals.Present.local.Goals as goal

pub returns : goal.returns
returns c =
    let found : c.copied.result ≡ lookup (λ k. bytes_eq c.args.name.now (string_bytes k)) c.self.inside.map.entries = search rules in
    let joint : c.flatten.result ≡ joined c.copied.result = search rules in
    rw (← c.self.view_is) (joint ∙ ap joined (found ∙ lookup-view string_bytes c.args.name.now c.self.inside.map.entries))
