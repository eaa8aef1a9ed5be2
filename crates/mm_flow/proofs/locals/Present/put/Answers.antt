use Rattle.std.proofs.Common.{rules, ◌≡◌, ◌∙◌, ap, map}
use Rattle.std.specs.Str.{bytes_eq}
use Rattle.std.specs.String.{string_bytes}
use Rattle.indexmap.specs.IndexMap.{insert_entry}
use Rattle.mm_flow.proofs.Finds.{view, insert-view}
use Rattle.mm_flow.proofs.locals.Present.put.Goals as goal

pub returns-clause-put : goal.returns-clause-put
returns-clause-put c =
    let text : string_bytes c.in_ok-name.name ≡ c.args.name.now = search rules in
    rw (← c.self.view_is) (
    ap (map (view string_bytes)) c.in_ok-insert.ensures.entries
    ∙ insert-view string_bytes c.in_ok-name.name c.args.local c.self.inside.map.entries
    ∙ ap (λ x. insert_entry bytes_eq (map (view string_bytes) c.self.inside.map.entries) x c.args.local) text
    )
