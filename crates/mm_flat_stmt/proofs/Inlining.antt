-- One level of calls.
use Rattle.std.proofs.Common.{arith, ◌≡◌, ℕ, zero, suc, ◌+◌, List, refl, Some, subst}
use Rattle.mm_tree.specs.declared.item.Item.{Item}
use Rattle.mm_flow.specs.declared.names.Named.{Named}
use Rattle.mm_flow.specs.declared.names.Parts.{Parts}
use Rattle.mm_flow.specs.Statements.{Function, inline_at, body_code}

pub inline_at_is : (parts : Parts) (items : List Item) (d c : ℕ) (f : Function) (names : List Named) (n ret : ℕ) → d ≡ c + 1 → inline_at parts items d f names n ret ≡ body_code f.body (record { parts = parts; items = items; inline = inline_at parts items c; ret = Some ret }) (record { names = names; next = n; seen = record { asserts = f.asserts; starts = 0 } })
inline_at_is parts items zero c f names n ret e = absurd (omega arith)
inline_at_is parts items (suc d) c f names n ret e =
    let same : d ≡ c = omega arith in
    subst (λ m. inline_at parts items (suc d) f names n ret ≡ body_code f.body (record { parts = parts; items = items; inline = inline_at parts items m; ret = Some ret }) (record { names = names; next = n; seen = record { asserts = f.asserts; starts = 0 } })) same refl
