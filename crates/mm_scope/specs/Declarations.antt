-- Names and types of declarations in a block.
use Rattle.std.specs.Prelude.{Bool, true, false, List, Option, Some, None}
use Rattle.mm_goto.specs.declared.ident.At.{At}
use Rattle.mm_goto.specs.declared.ident.Ident.{Ident}
use Rattle.mm_tree.specs.declared.expr.Word.{Word}
use Rattle.mm_tree.specs.declared.stmt.Local.{Local}
use Rattle.mm_tree.specs.declared.stmt.Value.{Value}
use Rattle.mm_tree.specs.declared.item.Item.{Item}
use Rattle.mm_scope.specs.declared.table.Meaning.{Meaning}
use Rattle.mm_scope.specs.declared.table.Meaning.TheVariants as meaning
use Rattle.mm_scope.specs.declared.around.Around.{Around}
use Rattle.mm_scope.specs.Parts.{noted_value}
use Rattle.mm_scope.specs.Steps.{Step, skip, noting, and_then, closed, reserved, declaring, adding}
use Rattle.mm_scope.specs.Values.{kind_if_pointer}

abbrev pub meaning_of_local : Bool → Meaning
meaning_of_local true = meaning.Pointer
meaning_of_local false = meaning.Int

-- in its own initialiser a local is not yet known
abbrev pub initialiser : List Item → Around → Local → Option Value → Step
initialiser items a l None = skip
initialiser items a l (Some v) =
    closed (and_then (adding l.name meaning.Unready) (noted_value items a (Some (kind_if_pointer l.pointer)) v))

abbrev pub declared_name : Around → At → Ident → Meaning → Step
declared_name a at x m = and_then (λ names. noting (reserved a.side at x)) (declaring a.from at x m)

unfoldable pub declared_local : List Item → Around → Local → Step
declared_local items a l = and_then (initialiser items a l l.value) (declared_name a l.at l.name (meaning_of_local l.pointer))

unfoldable pub declared_thread : Around → Word → Step
declared_thread a w = declared_name a w.at w.name meaning.Thread
