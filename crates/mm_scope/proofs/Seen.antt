-- What names stand for, by the map that holds it.
use Rattle.std.proofs.Common.{◌≡◌, refl, ap, List, [], ◌∷◌, map, true, false, cond, if◌then◌else◌, Some, Bor}
use Rattle.std.specs.Map.{lookup}
use Rattle.indexmap.specs.IndexMap.{insert_entry}
use Rattle.std.specs.Str.{bytes_eq}
use Rattle.mm_goto.specs.declared.ident.Ident.{Ident}

abbrev pub seen : {M : Type 0} → Bor Ident × M → Ident × M
seen e = (e.0.now, e.1)

pub lookup-seen : {M : Type 0} (x : Ident) (es : List (Bor Ident × M)) → lookup (λ k. bytes_eq x k.now) es ≡ lookup (bytes_eq x) (map seen es)
lookup-seen x [] = refl
lookup-seen x (e ∷ es) = ap (cond (bytes_eq x e.0.now) (Some e.1)) (lookup-seen x es)

pub insert-seen : {M : Type 0} (x : Bor Ident) (m : M) (es : List (Bor Ident × M)) → map seen (insert_entry (λ a b. bytes_eq a.now b.now) es x m) ≡ insert_entry bytes_eq (map seen es) x.now m
insert-seen x m [] = refl
insert-seen x m (e ∷ es) =
    elim (bytes_eq x.now e.0.now) as (λ b. map seen (if b then (e.0, m) ∷ es else e ∷ insert_entry (λ c d. bytes_eq c.now d.now) es x m) ≡ (if b then (e.0.now, m) ∷ map seen es else seen e ∷ insert_entry bytes_eq (map seen es) x.now m)) [
      | true ↦ refl
      | false ↦ ap (λ l. seen e ∷ l) (insert-seen x m es)
    ]
