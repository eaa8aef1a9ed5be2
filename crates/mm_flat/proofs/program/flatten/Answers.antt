use Rattle.std.proofs.Common.{◌≡◌, ◌∙◌, ap, sym, subst, List, map, None, Some, IfErr, IfOk, OnOk}
use Rattle.mm_goto.specs.declared.ident.Ident.{Ident}
use Rattle.mm_goto.specs.Listing.{Listing}
use Rattle.mm_goto.specs.Valid.{IsValid}
use Rattle.mm_tree.specs.declared.item.Item.{Item}
use Rattle.mm_flow.specs.declared.names.Parts.{Parts}
use Rattle.mm_flow.specs.Programs.{limit_passed, parts_of, thread_of, threads_in, threads_of}
use Rattle.mm_flat.specs.reading.Refusal.{WhenTooMany, passed_before, passed_within}
use Rattle.mm_flat.specs.reading.Threading.{listing}
use Rattle.mm_flat.proofs.Limiting.{of_tree, passed_first, then_within}
use Rattle.mm_flat.proofs.program.flatten.Goals as goal

pub within_instructions-requires : goal.within_instructions-requires
within_instructions-requires c =
    let items : List Item = c.args.tree.now.items in
    let is : List Item = c.in_ok-places.places in
    let p : Parts = c.in_ok-tables.tables in
    let I : is ≡ items = c.in_ok-places.ensures ∙ c.items-items.ensures in
    let P : p ≡ parts_of c.args.side is = c.in_ok-tables.ensures ∙ c.in_ok-parts.ensures ∙ ap (parts_of c.args.side) (sym c.in_ok-places.ensures) in
    let Q : c.in_ok-functions.functions.items ≡ threads_in p = c.in_ok-functions.ensures ∙ ap threads_in (sym c.in_ok-tables.ensures) in
    let fs : List Ident = c.deref-in-None.result.now in
    let T : c.deref.result.now ≡ threads_in p = c.deref.ensures.value ∙ Q in
    let U : fs ≡ threads_in p = c.deref-in-None.ensures.value ∙ Q in
    let none : passed_before is p c.deref.result.now ≡ None = sym c.in_ok-limit.ensures ∙ c.in-None.is in
    let E : limit_passed c.args.side c.args.tree.now ≡ passed_within c.args.side items (parts_of c.args.side items) (threads_in (parts_of c.args.side items)) (threads_of (parts_of c.args.side items) items) =
    then_within c.args.side items (parts_of c.args.side items)
    (of_tree c.args.side items is p c.deref.result.now (λ js q gs. passed_before js q gs ≡ None) I P T none) in
    let Sound : List Item → Parts → List Ident → Type 0 = λ js q gs. passed_within c.args.side js q gs (map (thread_of q js) gs) ≡ None → IsValid (listing q js (map (thread_of q js) gs)) in
    let back : Sound items (parts_of c.args.side items) (threads_in (parts_of c.args.side items)) → Sound is p fs =
    of_tree c.args.side items is p fs (λ js q gs. Sound js q gs → Sound is p fs) I P U (λ h. h) in
    record { valid = back (λ h. c.requires.valid (E ∙ h)) }

pub returns-clause-program : goal.returns-clause-program
returns-clause-program c =
    let items : List Item = c.args.tree.now.items in
    let is : List Item = c.in_ok-places.places in
    let p : Parts = c.in_ok-tables.tables in
    let I : is ≡ items = c.in_ok-places.ensures ∙ c.items-items.ensures in
    let P : p ≡ parts_of c.args.side is = c.in_ok-tables.ensures ∙ c.in_ok-parts.ensures ∙ ap (parts_of c.args.side) (sym c.in_ok-places.ensures) in
    let Q : c.in_ok-functions.functions.items ≡ threads_in p = c.in_ok-functions.ensures ∙ ap threads_in (sym c.in_ok-tables.ensures) in
    let T : c.deref.result.now ≡ threads_in p = c.deref.ensures.value ∙ Q in
    let U : c.deref-in-None.result.now ≡ threads_in p = c.deref-in-None.ensures.value ∙ Q in
    of_tree c.args.side items is p c.deref-in-None.result.now (λ js q fs. IfOk c.within_instructions.result (λ (l : Listing). l ≡ listing q js (map (thread_of q js) fs))) I P U c.within_instructions.ensures.program

pub returns-clause-within : goal.returns-clause-within
returns-clause-within c =
    let items : List Item = c.args.tree.now.items in
    let is : List Item = c.in_ok-places.places in
    let p : Parts = c.in_ok-tables.tables in
    let I : is ≡ items = c.in_ok-places.ensures ∙ c.items-items.ensures in
    let P : p ≡ parts_of c.args.side is = c.in_ok-tables.ensures ∙ c.in_ok-parts.ensures ∙ ap (parts_of c.args.side) (sym c.in_ok-places.ensures) in
    let Q : c.in_ok-functions.functions.items ≡ threads_in p = c.in_ok-functions.ensures ∙ ap threads_in (sym c.in_ok-tables.ensures) in
    let T : c.deref.result.now ≡ threads_in p = c.deref.ensures.value ∙ Q in
    let U : c.deref-in-None.result.now ≡ threads_in p = c.deref-in-None.ensures.value ∙ Q in
    let none : passed_before is p c.deref.result.now ≡ None = sym c.in_ok-limit.ensures ∙ c.in-None.is in
    let E : limit_passed c.args.side c.args.tree.now ≡ passed_within c.args.side items (parts_of c.args.side items) (threads_in (parts_of c.args.side items)) (threads_of (parts_of c.args.side items) items) =
    then_within c.args.side items (parts_of c.args.side items)
    (of_tree c.args.side items is p c.deref.result.now (λ js q fs. passed_before js q fs ≡ None) I P T none) in
    subst (λ o. OnOk c.within_instructions.result (o ≡ None)) (sym E)
    (of_tree c.args.side items is p c.deref-in-None.result.now (λ js q fs. OnOk c.within_instructions.result (passed_within c.args.side js q fs (map (thread_of q js) fs) ≡ None)) I P U c.within_instructions.ensures.within)

pub returns-clause-too_many : goal.returns-clause-too_many
returns-clause-too_many c =
    let items : List Item = c.args.tree.now.items in
    let is : List Item = c.in_ok-places.places in
    let p : Parts = c.in_ok-tables.tables in
    let I : is ≡ items = c.in_ok-places.ensures ∙ c.items-items.ensures in
    let P : p ≡ parts_of c.args.side is = c.in_ok-tables.ensures ∙ c.in_ok-parts.ensures ∙ ap (parts_of c.args.side) (sym c.in_ok-places.ensures) in
    let Q : c.in_ok-functions.functions.items ≡ threads_in p = c.in_ok-functions.ensures ∙ ap threads_in (sym c.in_ok-tables.ensures) in
    let T : c.deref.result.now ≡ threads_in p = c.deref.ensures.value ∙ Q in
    let U : c.deref-in-None.result.now ≡ threads_in p = c.deref-in-None.ensures.value ∙ Q in
    let none : passed_before is p c.deref.result.now ≡ None = sym c.in_ok-limit.ensures ∙ c.in-None.is in
    let E : limit_passed c.args.side c.args.tree.now ≡ passed_within c.args.side items (parts_of c.args.side items) (threads_in (parts_of c.args.side items)) (threads_of (parts_of c.args.side items) items) =
    then_within c.args.side items (parts_of c.args.side items)
    (of_tree c.args.side items is p c.deref.result.now (λ js q fs. passed_before js q fs ≡ None) I P T none) in
    subst (λ o. IfErr c.within_instructions.result (λ e. WhenTooMany e (λ l. o ≡ Some l))) (sym E)
    (of_tree c.args.side items is p c.deref-in-None.result.now (λ js q fs. IfErr c.within_instructions.result (λ e. WhenTooMany e (λ l. passed_within c.args.side js q fs (map (thread_of q js) fs) ≡ Some l))) I P U c.within_instructions.ensures.too_many)

pub returns-in-Some-clause-too_many : goal.returns-in-Some-clause-too_many
returns-in-Some-clause-too_many c =
    let items : List Item = c.args.tree.now.items in
    let is : List Item = c.in_ok-places.places in
    let p : Parts = c.in_ok-tables.tables in
    let I : is ≡ items = c.in_ok-places.ensures ∙ c.items-items.ensures in
    let P : p ≡ parts_of c.args.side is = c.in_ok-tables.ensures ∙ c.in_ok-parts.ensures ∙ ap (parts_of c.args.side) (sym c.in_ok-places.ensures) in
    let Q : c.in_ok-functions.functions.items ≡ threads_in p = c.in_ok-functions.ensures ∙ ap threads_in (sym c.in_ok-tables.ensures) in
    let T : c.deref.result.now ≡ threads_in p = c.deref.ensures.value ∙ Q in
    let some : passed_before is p c.deref.result.now ≡ Some c.in-Some.limit = sym c.in_ok-limit.ensures ∙ c.in-Some.is in
    passed_first c.args.side items (parts_of c.args.side items) c.in-Some.limit
    (of_tree c.args.side items is p c.deref.result.now (λ js q fs. passed_before js q fs ≡ Some c.in-Some.limit) I P T some)
