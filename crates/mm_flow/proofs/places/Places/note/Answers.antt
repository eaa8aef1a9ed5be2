use Rattle.std.proofs.Common.{rules, ◌≡◌, ◌∙◌, refl, ap, map, false, true, is_some, Bor}
use Rattle.std.specs.Map.{lookup}
use Rattle.std.specs.Str.{bytes_eq}
use Rattle.mm_goto.specs.declared.ident.Ident.{Ident}
use Rattle.mm_flow.proofs.Finds.{view, insert-view}
use Rattle.mm_flow.proofs.places.Places.note.Goals as goal

pub returns-in_ok-insert : goal.returns-in_ok-insert
returns-in_ok-insert c =
    let none : is_some (lookup (bytes_eq c.args.name.now) c.args.self.now) ≡ false = search (rules, c.place_of.ensures, c.is_none.ensures, c.if-is_none.true) in
    let put = ap (map (view (λ (k : Bor Ident). k.now))) c.in_ok-insert.ensures.entries ∙ insert-view (λ (k : Bor Ident). k.now) c.args.name c.args.place c.self.inside.map.entries in
    rw (none) (rw (← c.self.view_is) put)

pub returns-else-is_none : goal.returns-else-is_none
returns-else-is_none c =
    let some : is_some (lookup (bytes_eq c.args.name.now) c.args.self.now) ≡ true = search (rules, c.place_of.ensures, c.is_none.ensures, c.if-is_none.false) in
    rw some refl
