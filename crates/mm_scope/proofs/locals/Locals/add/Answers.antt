use Rattle.std.proofs.Common.{arith, ◌≡◌, ◌++◌, ◌∷◌, [], sym, subst}
use Rattle.std.proofs.lemmas.Grind.{common_steps}
use Rattle.mm_scope.specs.Scopes.{AreSeen, with_name, named_as}
use Rattle.mm_scope.proofs.LocalNames.{seen-kept, seen-more}
use Rattle.mm_scope.proofs.locals.Locals.add.Goals as goal

pub invariant_of-self-in_err-push : goal.invariant_of-self-in_err-push
invariant_of-self-in_err-push c =
    let table : c.set.new.self ≡ with_name c.self.inside.seen c.args.name.now c.args.meaning = grind (arith, common_steps) in
    let same : c.push.new.self.items ≡ c.self.inside.entries.items = grind (arith, common_steps) in
    subst (λ t. AreSeen t c.push.new.self.items) (sym table) (subst (AreSeen (with_name c.self.inside.seen c.args.name.now c.args.meaning)) (sym same) (seen-kept c.args.name.now c.args.meaning c.self.invariant))

pub invariant_of-self-2 : goal.invariant_of-self-2
invariant_of-self-2 c =
    let table : c.set.new.self ≡ with_name c.self.inside.seen c.args.name.now c.args.meaning = grind (arith, common_steps) in
    let more : c.push.new.self.items ≡ c.self.inside.entries.items ++ named_as c.args.name.now c.args.meaning ∷ [] = grind (arith, common_steps) in
    subst (λ t. AreSeen t c.push.new.self.items) (sym table) (subst (AreSeen (with_name c.self.inside.seen c.args.name.now c.args.meaning)) (sym more) (seen-more c.args.name.now c.args.meaning c.self.invariant))
