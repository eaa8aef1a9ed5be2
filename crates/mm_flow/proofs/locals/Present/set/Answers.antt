use Rattle.std.proofs.Common.{rules, ◌≡◌, ◌∙◌, ap, map, sym, None}
use Rattle.std.specs.Map.{lookup}
use Rattle.std.specs.Str.{bytes_eq}
use Rattle.std.specs.String.{string_bytes}
use Rattle.mm_flow.proofs.Finds.{view, lookup-view, set-view, set_none}
use Rattle.mm_flow.specs.contracts.locals.Present.{the_view}
use Rattle.mm_flow.proofs.locals.Present.set.Goals as goal
use Rattle.mm_flow.proofs.locals.Present.set.Goals.{in-Some, in_default}

pub returns : goal.returns
returns c = elim c.match-get_mut.branch [
  | in-Some w ↦
      rw (← c.self.view_is) (
      ap the_view w.self-inside-is
      ∙ ap (map (view string_bytes)) (c.get_mut.follows.holds c.args.local).0
      ∙ set-view string_bytes c.args.name.now c.args.local c.self.inside.map.entries
      )
  | in_default w ↦
      let absent : lookup (λ k. bytes_eq c.args.name.now (string_bytes k)) c.self.inside.map.entries ≡ None = search (rules, w.in_default.is, w.in_default.ensures.value) in
      rw (← c.self.view_is) (
      ap the_view w.self-inside-is
      ∙ ap (λ m. the_view (record { map = m })) c.get_mut.follows.holds-at-none
      ∙ sym (set_none c.args.name.now c.args.local (map (view string_bytes) c.self.inside.map.entries) (sym (lookup-view string_bytes c.args.name.now c.self.inside.map.entries) ∙ absent))
      )
]
