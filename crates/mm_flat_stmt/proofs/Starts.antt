-- One more create.
use Rattle.std.proofs.Common.{arith, ◌≡◌, ℕ, suc, ◌+◌, ◌-◌, ◌<◌, List, ◌∷◌, length, take, drop, get_or, ◌∙◌, ap, Option, Some, if◌then◌else◌}
use Rattle.std.specs.Str.{bytes_eq}
use Rattle.mm_goto.specs.declared.ident.Ident.{Ident}
use Rattle.mm_flow.specs.declared.names.Started.{Started}
use Rattle.mm_flow.specs.Scopes.{last_with}
use Rattle.mm_flat_stmt.proofs.Order.{split_at}

pub next_start : (ss : List Started) (i count u : ℕ) (s : Started) (x : Ident) (found : Option ℕ) → i < length ss → s ≡ get_or ss i s → i < count
    → last_with (take (count - i) (drop i ss)) u x found ≡ last_with (take (count - (i + 1)) (drop (i + 1) ss)) (u + 1) x (if bytes_eq s.variable x then Some u else found)
next_start ss i count u s x found within is room =
    let more : count - i ≡ suc (count - (i + 1)) = omega arith in
    ap (λ ts. last_with (take (count - i) ts) u x found) (split_at ss i s within is)
    ∙ ap (λ n. last_with (take n (s ∷ drop (i + 1) ss)) u x found) more
