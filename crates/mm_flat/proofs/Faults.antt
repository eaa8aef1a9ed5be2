-- A fault that is passed on.
use Rattle.std.proofs.Common.{◌≡◌, sym, subst, Result, Ok, Err, IsErr, IsErrAnd, IfErr}
use Rattle.mm_flow.specs.declared.fault.Stop.{Stop}
use Rattle.mm_flow.specs.declared.fault.Stop.TheVariants.{Full, NoMemory}
use Rattle.mm_flow.specs.reading.Assembling.{WhenFull}

-- where there is no room for a part there is none for the whole
when_full : {P Q : Type 0} (e : Stop) → (P → Q) → WhenFull e P → WhenFull e Q
when_full Full f p = f p
when_full NoMemory f p = tt

-- an error that is passed on is the same
pub passed_on : {A P Q : Type 0} (r : Result A Stop) (x : Stop) → IsErr r × IsErrAnd r (λ e. e ≡ x) → WhenFull x P → (P → Q) → IfErr r (λ e. WhenFull e Q)
passed_on (Ok a) x h g f = tt
passed_on {Q = Q} (Err e) x h g f = subst (λ (s : Stop). WhenFull s Q) (sym h.1) (when_full x f g)
