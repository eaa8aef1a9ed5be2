use Rattle.std.proofs.Common.{arith, ◌≡◌, ◌++◌, ◌∷◌, [], Some, subst, sym}
use Rattle.std.specs.Map.{set_value}
use Rattle.std.specs.Str.{bytes_eq}
use Rattle.std.proofs.lemmas.Grind.{common_steps}
use Rattle.indexmap.specs.IndexMap.{insert_entry}
use Rattle.mm_flow.specs.reading.Finding.{IsPresent, present}
use Rattle.mm_flow.proofs.Finds.{put_present, push_present}
use Rattle.mm_flow.proofs.locals.Locals.push.Goals as goal

pub invariant_of-self-in_err-name : goal.invariant_of-self-in_err-name
invariant_of-self-in_err-name c =
    let table : c.put.new.self ≡ insert_entry bytes_eq c.self.inside.present c.args.x.now (present c.self.inside.present c.args.x.now) = grind (arith, common_steps) in
    subst (λ t. IsPresent t c.self.inside.entries.items) (sym table) (put_present c.args.x.now c.self.invariant)

pub invariant_of-self-in_err-push : goal.invariant_of-self-in_err-push
invariant_of-self-in_err-push c =
    let table : c.put.new.self ≡ insert_entry bytes_eq c.self.inside.present c.args.x.now (present c.self.inside.present c.args.x.now) = grind (arith, common_steps) in
    let same : c.push.new.self.items ≡ c.self.inside.entries.items = grind (arith, common_steps) in
    subst (λ t. IsPresent t c.push.new.self.items) (sym table) (subst (IsPresent _) (sym same) (put_present c.args.x.now c.self.invariant))

pub invariant_of-self-2 : goal.invariant_of-self-2
invariant_of-self-2 c =
    let table : c.set.new.self ≡ set_value (bytes_eq c.args.x.now) (insert_entry bytes_eq c.self.inside.present c.args.x.now (present c.self.inside.present c.args.x.now)) (Some c.args.number) = grind (arith, common_steps) in
    let more : c.push.new.self.items ≡ c.self.inside.entries.items ++ record { name = c.args.x.now; number = c.args.number; hidden = present c.self.inside.present c.args.x.now } ∷ [] = grind (arith, common_steps) in
    subst (λ t. IsPresent t c.push.new.self.items) (sym table) (subst (IsPresent _) (sym more) (push_present c.args.x.now c.args.number c.self.invariant))
