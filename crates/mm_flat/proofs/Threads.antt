-- The thread whose labels have got their places is the thread of the equations.
use Rattle.std.proofs.Common.{arith, ◌≡◌, ℕ, ◌+◌, ◌<◌, List, [], ◌∷◌, ◌++◌, length, map, get_or, refl, ◌∙◌, sym, ap, subst, zero-add, drop, None}
use Rattle.std.proofs.lemmas.List.{length-map}
use Rattle.mm_goto.specs.declared.ident.At.{At}
use Rattle.mm_goto.specs.declared.ident.Ident.{Ident}
use Rattle.mm_goto.specs.declared.program.Instr.TheVariants as instr
use Rattle.mm_tree.specs.declared.item.Item.{Item}
use Rattle.mm_flow.specs.declared.names.Parts.{Parts}
use Rattle.mm_flow.specs.Flow.{Flow, Then, Do, Body, size, lay, Placed}
use Rattle.mm_flow.specs.Programs.{all_to, at_entry, in_thread, laid, most_calls, named_function, place_in, thread_code, thread_flow, thread_of, flow_of, size_in}
use Rattle.mm_flow.specs.Statements.{Function, body_code, inline_at}
use Rattle.mm_flow.specs.Text.{labels_in}
use Rattle.mm_flow.specs.reading.Assembling.{Assembly, count, with_label, with_labels}
use Rattle.mm_flow.specs.reading.Emission.{Made, emit, labelled}
use Rattle.mm_flow.specs.reading.Settling.{place_at, settled, piece_place, settled_thread, no_code, no_exits}
use Rattle.mm_flow.proofs.Grows.{emit_size, reserved_pieces}
use Rattle.mm_flat.specs.reading.Threading.{thread_made}
use Rattle.mm_flat.proofs.Marks.{table, sets, sets_length, emit_marks}
use Rattle.mm_flat.proofs.Order.{split_at}
use Rattle.mm_flat.proofs.Settles.{Agrees, Covers, settled_piece, settles}

nothing : {A : Type 0} (xs : List A) → length xs ≡ 0 → xs ≡ []
nothing [] e = refl
nothing (x ∷ xs) e = absurd (omega arith)

map_twice : {A B C : Type 0} (f : B → C) (g : A → B) (xs : List A) → map f (map g xs) ≡ map (λ x. f (g x)) xs
map_twice f g [] = refl
map_twice f g (x ∷ xs) = ap (λ ys. f (g x) ∷ ys) (map_twice f g xs)

abbrev whole : List Ident → Flow → At → Flow
whole names f at = Then (Body names f) (Do at instr.End)

marks_are : (names : List Ident) (f : Flow) (at : At) → (emit [] no_exits (whole names f at) no_code).marks ≡ table (whole names f at) 0
marks_are names f at =
    emit_marks [] no_exits (whole names f at) no_code 0 refl (omega arith)
    ∙ ap (λ ms. ms ++ table (whole names f at) 0) (nothing (sets [] 0 (whole names f at) 0 []) (sets_length [] 0 (whole names f at) 0 []))

laid_is : (names : List Ident) (f : Flow) (at : At) (marks : List ℕ) → marks ≡ (emit [] no_exits (whole names f at) no_code).marks
    → map (settled_piece marks) (emit [] no_exits (whole names f at) no_code).pieces ≡ lay (all_to (size f)) (whole names f at) 0
laid_is names f at marks e =
    let ts : List ℕ = table (whole names f at) 0 in
    let is_table : marks ≡ ts = e ∙ marks_are names f at in
    let home : place_at marks 0 ≡ size f = ap (λ ms. get_or ms 0 0) is_table ∙ zero-add (size f) in
    let agrees : Agrees marks [] no_exits (all_to (size f)) = record { behind = home; next = home; home = home; label = λ y. refl } in
    let covers : Covers marks 0 ts = λ i h. ap (place_at marks) (zero-add i) ∙ ap (λ ms. get_or ms i 0) is_table in
    settles marks [] no_exits (all_to (size f)) (whole names f at) no_code 0 refl (omega arith) agrees covers

-- the code of the whole, with its labels
abbrev whole_made : List Ident → Flow → At → Made
whole_made names f at = emit [] no_exits (whole names f at) no_code

-- as many instructions as its flow has
whole_size : (names : List Ident) (f : Flow) (at : At) → length (whole_made names f at).pieces ≡ size (whole names f at)
whole_size names f at = emit_size [] no_exits (whole names f at) no_code ∙ zero-add (size (whole names f at))

thread_is : (names : List Ident) (f : Flow) (at : At) (code : Assembly) → code.made ≡ whole_made names f at
    → settled_thread code ≡ laid code.known.next (lay (all_to (size f)) (whole names f at) 0)
thread_is names f at code e =
    let marks : List ℕ = code.made.marks in
    let all : map (settled_piece marks) code.made.pieces ≡ lay (all_to (size f)) (whole names f at) 0 =
    ap (λ (m : Made). map (settled_piece marks) m.pieces) e ∙ laid_is names f at marks (ap (λ (m : Made). m.marks) e) in
    let instrs : map (settled marks) code.made.pieces ≡ map (λ (p : Placed). p.instr) (lay (all_to (size f)) (whole names f at) 0) =
    sym (map_twice (λ (p : Placed). p.instr) (settled_piece marks) code.made.pieces) ∙ ap (map (λ (p : Placed). p.instr)) all in
    let places : map piece_place code.made.pieces ≡ map (λ (p : Placed). p.at) (lay (all_to (size f)) (whole names f at) 0) =
    sym (map_twice (λ (p : Placed). p.at) (settled_piece marks) code.made.pieces) ∙ ap (map (λ (p : Placed). p.at)) all in
    rw (instrs, places) refl

-- ---- the thread of a function

abbrev flow_for : Parts → List Item → Ident → Function → Flow
flow_for parts items f r = thread_flow parts items (place_in items f) r

pub thread_of_is : (parts : Parts) (items : List Item) (f : Ident) (r : Function) (code : Assembly) → r ≡ named_function parts items f → code ≡ thread_made parts items f r
    → settled_thread code ≡ thread_of parts items f
thread_of_is parts items f r code e made =
    ap settled_thread made
    ∙ thread_is (labels_in r.body) (thread_code parts items r).flow (place_in items f) (thread_made parts items f r) refl
    ∙ ap (λ q. laid (thread_code parts items q).known.next (lay (all_to (size (thread_code parts items q).flow)) (flow_for parts items f q) 0)) e

pub count_is : (parts : Parts) (items : List Item) (f : Ident) (r : Function) (code : Assembly) → r ≡ named_function parts items f → code ≡ thread_made parts items f r
    → count code ≡ size (flow_of parts items f)
count_is parts items f r code e made =
    ap count made
    ∙ whole_size (labels_in r.body) (thread_code parts items r).flow (place_in items f)
    ∙ ap (λ q. size (flow_for parts items f q)) e

pub code_size : (code : Assembly) → length (settled_thread code).code ≡ count code
code_size code = length-map code.made.pieces (settled code.made.marks)

-- where there is no room for the body there is none for its thread
pub full_thread : (parts : Parts) (items : List Item) (f : Ident) (r : Function) (limit : ℕ) → r ≡ named_function parts items f
    → limit < size (thread_code parts items r).flow
    → limit < size (flow_of parts items f)
full_thread parts items f r limit e h =
    let more : limit < size (flow_for parts items f r) = omega arith in
    subst (λ q. limit < size (flow_for parts items f q)) e more

-- where there is no room behind the labels for what the statements do there is none for the body
pub full_body : (parts : Parts) (items : List Item) (r : Function) (limit calls : ℕ) (names : List Ident) (code : Assembly)
    → code ≡ with_labels names (with_label (record { known = at_entry r.asserts; made = no_code })) → calls ≡ most_calls
    → limit < count code + size (body_code r.body (record { parts = parts; items = items; inline = inline_at parts items calls; ret = None }) code.known).flow
    → limit < size (thread_code parts items r).flow
full_body parts items r limit calls names code e most h =
    let none : count code ≡ 0 = ap count e ∙ ap length (reserved_pieces names (labelled no_code)) in
    let known : code.known ≡ at_entry r.asserts = ap (λ (a : Assembly). a.known) e in
    let one = subst (λ n. limit < count code + size (body_code r.body (record { parts = parts; items = items; inline = inline_at parts items n; ret = None }) code.known).flow) most h in
    let two : limit < count code + size (thread_code parts items r).flow = subst (λ q. limit < count code + size (body_code r.body (in_thread parts items) q).flow) known one in
    omega (arith, two, none)

-- ---- the threads in their order

pub next_thread : (parts : Parts) (items : List Item) (fs : List Ident) (i : ℕ) (f : Ident) → i < length fs → f ≡ get_or fs i f
    → map (thread_of parts items) (drop i fs) ≡ thread_of parts items f ∷ map (thread_of parts items) (drop (i + 1) fs)
next_thread parts items fs i f within is = ap (map (thread_of parts items)) (split_at fs i f within is)

pub next_size : (parts : Parts) (items : List Item) (fs : List Ident) (i : ℕ) (f : Ident) → i < length fs → f ≡ get_or fs i f
    → size_in parts items (drop i fs) ≡ size (flow_of parts items f) + size_in parts items (drop (i + 1) fs)
next_size parts items fs i f within is = ap (size_in parts items) (split_at fs i f within is)
