-- Runs in parts.
use Rattle.std.proofs.Common.{◌≡◌, List, [], ◌∷◌, ◌++◌, refl, sym, ◌∙◌}
use Rattle.mm_sched.specs.declared.entry.Entry.{Entry}
use Rattle.mm_sched.specs.declared.entry.Rules.{Rules}
use Rattle.mm_sched.specs.Guarded.{◌>>=◌}
use Rattle.mm_goto.specs.Listing.{Listing}
use Rattle.mm_sched.specs.State.{State}
use Rattle.mm_sched.specs.Event.{next}
use Rattle.mm_sched.specs.Runs.{run}
use Rattle.mm_sched.proofs.Steps.{bind-assoc, bind-same}

pub run-append : (r : Rules) (p : Listing) (s : State) (xs ys : List Entry) → run r p s (xs ++ ys) ≡ (run r p s xs >>= λ mid. run r p mid ys)
run-append r p s [] ys = refl
run-append r p s (x ∷ xs) ys = bind-same (next r p s x) _ _ (λ a. run-append r p a xs ys) ∙ sym (bind-assoc (next r p s x) (λ a. run r p a xs) (λ mid. run r p mid ys))
