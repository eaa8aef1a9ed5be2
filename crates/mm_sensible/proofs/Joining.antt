-- What is left of the whole, once each item of a woven program is well and its starts and joins are in a good order.
use Rattle.std.proofs.Common.{◌≡◌, Bool, true, false, ◌||◌, if◌then◌else◌, List, [], ◌∷◌, ◌++◌, ◌-◌, map, length, codes, refl, ◌∙◌, sym, ap, subst}
use Rattle.std.specs.List.{list_any, range_with_len}
use Rattle.mm_goto.specs.declared.program.Thread.{Thread}
use Rattle.mm_goto.specs.declared.shape.Shape.{Shape}
use Rattle.mm_goto.specs.Listing.{Listing}
use Rattle.mm_goto.specs.Sourcelike.{IsSourcelike}
use Rattle.mm_tree.specs.Places.{without_places}
use Rattle.mm_tree.specs.declared.item.Item.{Item}
use Rattle.mm_tree.specs.declared.item.Tree.{Tree}
use Rattle.mm_tree.specs.declared.side.Side.TheVariants.{Output}
use Rattle.mm_scope.specs.Notes.{Use}
use Rattle.mm_names.specs.Items.{is_main}
use Rattle.mm_names.specs.Programs.{has_main, notes_of, IsAccepted}
use Rattle.mm_words.specs.Words as words
use Rattle.mm_helpers.specs.Helpers.{nondet_wm, helpers, arrays}
use Rattle.mm_templates.specs.Names.{handle_name}
use Rattle.mm_instr.specs.Woven.{has_buffers, has_address, variables, memory, sizes, thread_items, functions, woven_body, woven_items, woven}
use Rattle.mm_sensible.proofs.SoundNotes.{are_orderly, accepted_but_for_places}
use Rattle.mm_sensible.proofs.QuietStatements.{AreFine}
use Rattle.mm_sensible.proofs.ItemWalk.{AreWell, walked}
use Rattle.mm_sensible.proofs.DistinctItems.{distinct_apart}
use Rattle.mm_sensible.proofs.DistinctWoven.{woven_distinct}

any_behind : (is js : List Item) → list_any is_main js ≡ true → list_any is_main (is ++ js) ≡ true
any_behind [] js h = h
any_behind (i ∷ is) js h = by (is_main i) (any_behind is js h)
  where
    by : (b : Bool) → list_any is_main (is ++ js) ≡ true → (b || list_any is_main (is ++ js)) ≡ true
    by true q = refl
    by false q = q

functions_main : (p : Listing) (shape : Shape) (b c : Bool) (main : Thread) (others : List Thread) → list_any is_main (functions p shape b c (main ∷ others)) ≡ true
functions_main p shape b c main others = any_behind (thread_items p shape b c 1 others) (words.int (codes "main") [] (woven_body p shape b c 0 main) ∷ []) refl

-- the items before the functions
abbrev pub before_functions : Listing → Shape → List Item
before_functions p shape =
    words.input nondet_wm
    ∷ variables shape.moved 0 p.cells
    ++ memory p shape
    ++ (if has_buffers shape then arrays shape.model (sizes p shape) else [])
    ++ map words.mutex p.mutexes
    ++ map (λ u. words.thread_variable (handle_name u)) (range_with_len 1 (length p.threads - 1))
    ++ (if has_buffers shape then helpers shape.model (sizes p shape) else [])

-- a woven program has a main
woven_main : (p : Listing) (shape : Shape) (main : Thread) (others : List Thread) → p.threads ≡ main ∷ others → has_main (woven p shape) ≡ true
unfolding woven
woven_main p shape main others e = any_behind (before_functions p shape) (functions p shape (has_buffers shape) (has_address p) p.threads)
    (subst (λ ts. list_any is_main (functions p shape (has_buffers shape) (has_address p) ts) ≡ true) (sym e) (functions_main p shape (has_buffers shape) (has_address p) main others))

pub accepted_where_well : (p : Listing) (shape : Shape) (u : Tree) (us : List Use) (main : Thread) (others : List Thread) → p.threads ≡ main ∷ others → IsSourcelike p
    → without_places u ≡ without_places (woven p shape)
    → AreWell (woven_items p shape) us 0 (woven_items p shape)
    → are_orderly [] us ≡ true
    → IsAccepted Output u
unfolding woven
accepted_where_well p shape u us main others e s same well orderly =
    let items : List Item = woven_items p shape in
    let fine : AreFine us (notes_of Output (record { items = items })) = walked items (distinct_apart items (woven_distinct p shape s main others e)) well in
    accepted_but_for_places Output u (woven p shape) same (woven_main p shape main others e) (record { fine = fine.fine; orderly = ap (are_orderly []) fine.uses ∙ orderly })
