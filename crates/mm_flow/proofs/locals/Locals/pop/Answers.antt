use Rattle.std.proofs.Common.{rules, ◌≡◌, ◌++◌, ◌∷◌, [], subst}
use Rattle.mm_flow.specs.reading.Finding.{IsPresent}
use Rattle.mm_flow.proofs.Finds.{pop_present}
use Rattle.mm_flow.proofs.locals.Locals.pop.Goals as goal

pub invariant_of-self : goal.invariant_of-self
invariant_of-self c =
    let last : c.self.inside.entries.items ≡ c.pop.new.self.items ++ c.in-Some.entry ∷ [] = search (rules, c.in-Some.ensures.items) in
    rw (c.set.ensures, c.text.ensures) (pop_present c.in-Some.entry (subst (IsPresent c.self.inside.present) last c.self.invariant))
