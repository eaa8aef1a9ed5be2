use Rattle.std.proofs.Common.{sym, subst}
use Rattle.mm_scope.specs.Scopes.{AreSeen}
use Rattle.mm_scope.proofs.LocalNames.{seen-fewer}
use Rattle.mm_scope.proofs.locals.Locals.close.Goals as goal

pub invariant_of-self : goal.invariant_of-self
invariant_of-self c = subst (AreSeen c.self.inside.seen) (sym c.truncate.ensures.items) (seen-fewer c.args.len c.self.invariant)
