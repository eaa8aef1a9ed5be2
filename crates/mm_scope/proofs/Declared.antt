-- What is behind the declaration of a local.
use Rattle.std.proofs.Common.{◌≡◌, refl, ap, ◌∙◌, List, Option, Some, None}
use Rattle.std.proofs.lemmas.List.{append-nil}
use Rattle.mm_goto.specs.declared.ident.At.{At}
use Rattle.mm_goto.specs.declared.ident.Ident.{Ident}
use Rattle.mm_tree.specs.declared.stmt.Local.{Local}
use Rattle.mm_tree.specs.declared.stmt.Value.{Value}
use Rattle.mm_tree.specs.declared.item.Item.{Item}
use Rattle.mm_scope.specs.declared.around.Around.{Around}
use Rattle.mm_scope.specs.declared.table.Meaning.{Meaning}
use Rattle.mm_scope.specs.declared.walk.Walk.{Walk}
use Rattle.mm_scope.specs.Declarations.{meaning_of_local, initialiser, declared_name, declared_local}
use Rattle.mm_scope.specs.Notes.{Note}
use Rattle.mm_scope.specs.Scopes.{Names, is_taken}
use Rattle.mm_scope.specs.Steps.{noting, skip, closed, reserved, declaring, declaring_where, after}
use Rattle.mm_scope.proofs.Steps.{after-and_then}

scope-noted : (notes : List Note) (w : Walk) → (after (λ names. noting notes) w).scope ≡ w.scope
unfolding after
scope-noted notes w = simp append-nil

scope-initialiser : (items : List Item) (a : Around) (l : Local) (v : Option Value) (w : Walk) → (after (initialiser items a l v) w).scope ≡ w.scope
unfolding after skip closed
scope-initialiser items a l None w = simp append-nil
scope-initialiser items a l (Some v) w = simp append-nil

-- the name is judged where it stands
judged-there : (a : Around) (at : At) (x : Ident) (m : Meaning) (w : Walk) → after (declaring a.from at x m) w ≡ after (declaring_where (is_taken w.scope a.from x) at x m) w
unfolding after declaring
judged-there a at x m w = refl

pub after-declared : (items : List Item) (a : Around) (l : Local) (w : Walk) → after (declared_local items a l) w ≡ after (declaring_where (is_taken w.scope a.from l.name) l.at l.name (meaning_of_local l.pointer)) (after (λ names. noting (reserved a.side l.at l.name)) (after (initialiser items a l l.value) w))
unfolding declared_local
after-declared items a l w =
    after-and_then (initialiser items a l l.value) (declared_name a l.at l.name (meaning_of_local l.pointer)) w
    ∙ after-and_then (λ names. noting notes) (declaring a.from l.at l.name (meaning_of_local l.pointer)) first
    ∙ judged-there a l.at l.name (meaning_of_local l.pointer) second
    ∙ ap (λ (s : Names). after (declaring_where (is_taken s a.from l.name) l.at l.name (meaning_of_local l.pointer)) second) same
  where
    notes : List Note
    notes = reserved a.side l.at l.name

    first : Walk
    first = after (initialiser items a l l.value) w

    second : Walk
    second = after (λ names. noting notes) first

    same : second.scope ≡ w.scope
    same = scope-noted notes first ∙ scope-initialiser items a l l.value w

pub ruleset in_declarations = after-declared
