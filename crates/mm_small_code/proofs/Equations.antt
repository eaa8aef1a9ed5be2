-- The goto program of a tree, by the relation, is that of the equations.
use Rattle.std.proofs.Common.{◌≡◌, ℕ, ◌<◌, ◌^◌, List, [], ◌∷◌, length, map, codes, Option, Some, None, refl, sym, ◌∙◌, ap, arith}
use Rattle.mm_goto.specs.declared.ident.At.{At}
use Rattle.mm_goto.specs.declared.ident.Ident.{Ident}
use Rattle.mm_goto.specs.declared.program.Cell.{Cell}
use Rattle.mm_goto.specs.declared.program.Instr.{Instr}
use Rattle.mm_goto.specs.declared.program.Instr.TheVariants.{End}
use Rattle.mm_goto.specs.declared.program.Thread.{Thread}
use Rattle.mm_goto.specs.Listing.{Listing}
use Rattle.mm_tree.specs.declared.item.Item.{Item}
use Rattle.mm_tree.specs.declared.item.Tree.{Tree}
use Rattle.mm_tree.specs.declared.side.Side.{Side}
use Rattle.mm_tree.specs.declared.stmt.Stmt.{Stmt}
use Rattle.mm_flow.specs.declared.names.Parts.{Parts}
use Rattle.mm_flow.specs.declared.names.Spot.{Spot}
use Rattle.mm_flow.specs.declared.names.Started.{Started}
use Rattle.mm_flow.specs.Flow.{size, later, mark_of, lay, place_of_label, in_body}
use Rattle.mm_flow.specs.Programs.{globals_in, spots, cells_of, mutexes_in, asserts_before, body_in, place_in, parts_of, most_calls, thread_code, thread_flow, all_to, laid, the_function, threads_of, thread_of, program_of}
use Rattle.mm_flow.specs.Scopes.{index_of}
use Rattle.mm_flow.specs.Statements.{Did, Known as Equated, Function, function_of, inline_at}
use Rattle.mm_flow.specs.Text.{creates_in, labels_in, mentions}
use Rattle.mm_small_code.specs.reading.Flattening.{Placed, placed, number_of, Known, around, nothing_known, IsMain, IsFlat}
use Rattle.mm_small_code.proofs.EquationsNames.{spots_from, no_index}
use Rattle.mm_small_code.proofs.EquationsSteps.{Leads, StepIs}
use Rattle.mm_small_code.proofs.EquationsStatements.{codes_are}
use Rattle.mm_small_code.proofs.EquationsItems.{ItemsAre, main_function, items_are}

-- ---- main

label_place : (i o n : Option ℕ) (m : ℕ) → n ≡ Some m → n ≡ later None o → (i ≡ None → o ≡ None) → place_of_label i o ≡ m
label_place (Some j) (Some k) n m h g f = cc
label_place (Some j) None n m h g f = cc
label_place None o n m h g f = let none = f refl in absurd (wrong o n m h g none)
  where
    wrong : (o n : Option ℕ) (m : ℕ) → n ≡ Some m → n ≡ later None o → o ≡ None → ⊥
    wrong (Some k) n m h g e = cc
    wrong None n m h g e = cc

main_leads : (side : Side) (cells : List Cell) (code : List Placed) (last : Known) (d : Did) (body : List Stmt) (at : At) → StepIs (around side cells code last.labels) nothing_known last d (mentions body) code (placed at End ∷ []) → Leads (around side cells code last.labels) (in_body (all_to (size d.flow)) (labels_in body) d.flow 0)
main_leads side cells code last d body at s = record {
  home = omega (arith, s.lengths);
  labels = λ y m h. label_place (index_of (labels_in body) y) (mark_of y d.flow 0) (number_of last.labels y) m h (s.marks y 0 (omega arith)) (λ e. s.named y 0 (no_index (mentions body) y e));
}

-- what the statements of a text without creates and mutexes speak of
main_parts : Side → List Item → List Cell → Parts
main_parts side items cells = record { side = side; spots = spots_from 0 cells; mutexes = []; starts = []; asserts = asserts_before items 0 }

-- the thread of a function at a place
thread_by : Parts → List Item → At → Function → Thread
thread_by parts items at f = laid (thread_code parts items f).known.next (lay (all_to (size (thread_code parts items f).flow)) (thread_flow parts items at f) 0)

thread_of_parts : ℕ → List Instr → List At → Thread
thread_of_parts l c p = record { locals = l; code = c; places = p }

thread_same : (t : Thread) (l : ℕ) (is : List Placed) → t.locals ≡ l → t.code ≡ map (λ (i : Placed). i.instr) is → t.places ≡ map (λ (i : Placed). i.at) is → t ≡ laid l is
unfolding thread_of_parts
thread_same t l is e f g = made t.locals l t.code (map (λ (i : Placed). i.instr) is) t.places (map (λ (i : Placed). i.at) is) e f g
  where
    made : (l m : ℕ) (c d : List Instr) (p q : List At) → l ≡ m → c ≡ d → p ≡ q → thread_of_parts l c p ≡ thread_of_parts m d q
    made l m c d p q e f g = cc

-- what is said of the code of main, and of its creates
record MainIs (side : Side) (items : List Item) (cells : List Cell) (at : At) (body : List Stmt) (thread : Thread) : Type 0 where
  thread_is : thread ≡ thread_by (main_parts side items cells) items at (main_function body)
  no_creates : creates_in body ≡ []

main_is : (side : Side) (items : List Item) (cells : List Cell) (at : At) (body : List Stmt) (thread : Thread) → IsMain side cells at body thread → MainIs side items cells at body thread
unfolding main_parts thread_by
main_is side items cells at body thread m =
    let parts = main_parts side items cells in
    let d = thread_code parts items (main_function body) in
    let s : StepIs (around side cells m.code m.last.labels) nothing_known m.last d (mentions body) m.code (placed at End ∷ []) = codes_are [] (asserts_before items 0) items (inline_at parts items most_calls) m.body_code in
    let code : m.code ≡ lay (all_to (size d.flow)) (thread_flow parts items at (main_function body)) 0 = s.code (in_body (all_to (size d.flow)) (labels_in body) d.flow 0) 0 (main_leads side cells m.code m.last d body at s) in
    record {
      thread_is = thread_same thread d.known.next (lay (all_to (size d.flow)) (thread_flow parts items at (main_function body)) 0)
          (m.locals ∙ sym (ap (λ (k : Equated). k.next) s.known))
          (m.instrs ∙ ap (map (λ (i : Placed). i.instr)) code)
          (m.places ∙ ap (map (λ (i : Placed). i.at)) code);
      no_creates = s.no_creates;
    }

-- ---- the whole

-- the program of a text that speaks of these
listing_by : Parts → List Item → Listing
listing_by parts items = record { cells = cells_of parts.spots (globals_in items); mutexes = parts.mutexes; threads = threads_of parts items }

parts_by : Side → List Spot → List Ident → List Started → List ℕ → Parts
parts_by side spots mutexes starts asserts = record { side = side; spots = spots; mutexes = mutexes; starts = starts; asserts = asserts }

parts_are : (side : Side) (items : List Item) (cells : List Cell) (at : At) (body : List Stmt) → length cells < 2 ^ 32 → ItemsAre items cells at body → creates_in body ≡ [] → parts_of side items ≡ main_parts side items cells
unfolding main_parts parts_by
parts_are side items cells at body h r e = made (spots (globals_in items) 0) (spots_from 0 cells) (mutexes_in items) [] (creates_in (body_in items (codes "main"))) [] (r.globals.numbers 0 (omega (arith, h))) r.mutexes (ap creates_in r.statements ∙ e)
  where
    made : (s t : List Spot) (m n : List Ident) (c d : List Started) → s ≡ t → m ≡ n → c ≡ d → parts_by side s m c (asserts_before items 0) ≡ parts_by side t n d (asserts_before items 0)
    made s t m n c d e f g = cc

main_thread : (parts : Parts) (items : List Item) (cells : List Cell) (at : At) (body : List Stmt) → parts.asserts ≡ asserts_before items 0 → ItemsAre items cells at body → thread_of parts items (codes "main") ≡ thread_by parts items at (main_function body)
unfolding thread_by
main_thread parts items cells at body e r =
    let function : function_of items parts.asserts (codes "main") ≡ Some (main_function body) = ap (λ ns. function_of items ns (codes "main")) e ∙ r.function in
    ap (λ f. thread_by parts items (place_in items (codes "main")) (the_function f)) function ∙ ap (λ at. thread_by parts items at (main_function body)) r.place

listing_of_parts : List Cell → List Ident → List Thread → Listing
listing_of_parts c m t = record { cells = c; mutexes = m; threads = t }

listing_same : (p q : Listing) → p.cells ≡ q.cells → p.mutexes ≡ q.mutexes → p.threads ≡ q.threads → p ≡ q
unfolding listing_of_parts
listing_same p q e f g = made p.cells q.cells p.mutexes q.mutexes p.threads q.threads e f g
  where
    made : (c d : List Cell) (m n : List Ident) (t u : List Thread) → c ≡ d → m ≡ n → t ≡ u → listing_of_parts c m t ≡ listing_of_parts d n u
    made c d m n t u e f g = cc

listing_is : (side : Side) (items : List Item) (p : Listing) (at : At) (body : List Stmt) (thread : Thread) → ItemsAre items p.cells at body → p.mutexes ≡ [] → p.threads ≡ thread ∷ [] → MainIs side items p.cells at body thread → p ≡ listing_by (main_parts side items p.cells) items
unfolding listing_by main_parts
listing_is side items p at body thread r e f m =
    let parts = main_parts side items p.cells in
    listing_same p (listing_by parts items)
    (sym (r.globals.values parts.spots))
    e
    (f ∙ ap (λ t. t ∷ []) (m.thread_is ∙ sym (main_thread parts items p.cells at body refl r)))

-- the goto program of a tree is by the equations
pub by_the_equations : (side : Side) (tree : Tree) (p : Listing) → IsFlat side tree p → p ≡ program_of side tree
unfolding listing_by
by_the_equations side tree p d =
    let r = items_are d.at d.body d.cells refl in
    let m = main_is side tree.items p.cells d.at d.body d.thread d.main in
    listing_is side tree.items p d.at d.body d.thread r d.mutexes d.threads m
    ∙ ap (λ parts. listing_by parts tree.items) (sym (parts_are side tree.items p.cells d.at d.body d.few r m.no_creates))
