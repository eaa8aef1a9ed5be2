use Rattle.std.proofs.Common.{rules, ◌≡◌, false, is_some, sym}
use Rattle.mm_scope.specs.Scopes.{meaning_in}
use Rattle.mm_scope.proofs.LocalNames.{not_found}
use Rattle.mm_scope.proofs.locals.Locals.meaning_of.Goals as goal

pub returns-then-is_none : goal.returns-then-is_none
returns-then-is_none c =
    let none : is_some (meaning_in c.self.inside.seen c.args.name.now) ≡ false = search (rules, c.meaning_of.ensures, c.is_none.ensures, c.if-is_none) in
    rw (← c.self.view_is) (sym (not_found c.args.name.now c.self.invariant none))
