-- The limits in their order.
use Rattle.std.proofs.Common.{◌≡◌, ◌+◌, Bool, true, false, if◌then◌else◌, List, length, refl, subst, nat_lt, Option, Some, None}
use Rattle.mm_goto.specs.declared.ident.Ident.{Ident}
use Rattle.mm_tree.specs.declared.item.Item.{Item}
use Rattle.mm_tree.specs.declared.side.Side.{Side}
use Rattle.mm_flow.specs.declared.fault.Limit.{Limit}
use Rattle.mm_flow.specs.declared.fault.Limit.TheVariants.{Threads, NestedCalls}
use Rattle.mm_flow.specs.declared.names.Parts.{Parts}
use Rattle.mm_flow.specs.Programs.{first_passed, most_threads, nests_too_deep, parts_of, threads_in, threads_of}
use Rattle.mm_flat.specs.reading.Refusal.{passed_before, passed_within}

in_order : (t u : Bool) (o : Option Limit) → (if t then Some Threads else if u then Some NestedCalls else None) ≡ None → (if t then Some Threads else if u then Some NestedCalls else o) ≡ o
in_order true u o e = absurd (cc)
in_order false true o e = absurd (cc)
in_order false false o e = refl

found : (t u : Bool) (o : Option Limit) (l : Limit) → (if t then Some Threads else if u then Some NestedCalls else None) ≡ Some l → (if t then Some Threads else if u then Some NestedCalls else o) ≡ Some l
found true u o l e = e
found false true o l e = e
found false false o l e = absurd (cc)

-- where none is passed before any code is made, the first is the first from the instructions on
pub then_within : (side : Side) (items : List Item) (parts : Parts) → passed_before items parts (threads_in parts) ≡ None
    → first_passed side items parts ≡ passed_within side items parts (threads_in parts) (threads_of parts items)
then_within side items parts e = in_order (nat_lt most_threads (1 + length parts.starts)) (nests_too_deep items (threads_in parts)) (passed_within side items parts (threads_in parts) (threads_of parts items)) e

-- one that is passed before is the first
pub passed_first : (side : Side) (items : List Item) (parts : Parts) (l : Limit) → passed_before items parts (threads_in parts) ≡ Some l → first_passed side items parts ≡ Some l
passed_first side items parts l e = found (nat_lt most_threads (1 + length parts.starts)) (nests_too_deep items (threads_in parts)) (passed_within side items parts (threads_in parts) (threads_of parts items)) l e

-- what holds of the parts of a text and its threads
pub of_tree : (side : Side) (items is : List Item) (parts : Parts) (fs : List Ident) (P : List Item → Parts → List Ident → Type 0)
    → is ≡ items → parts ≡ parts_of side is → fs ≡ threads_in parts → P is parts fs → P items (parts_of side items) (threads_in (parts_of side items))
of_tree side items is parts fs P same are named h =
    let one : P is parts (threads_in parts) = subst (P is parts) named h in
    let two : P is (parts_of side is) (threads_in (parts_of side is)) = subst (λ q. P is q (threads_in q)) are one in
    subst (λ js. P js (parts_of side js) (threads_in (parts_of side js))) same two
