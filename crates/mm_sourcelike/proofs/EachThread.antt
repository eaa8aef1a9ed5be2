-- What holds of each thread of an accepted text, and of each instruction of a thread.
use Rattle.std.proofs.Common.{arith, ◌≡◌, ℕ, ◌+◌, true, false, List, [], ◌∷◌, map, codes, Some, None}
use Rattle.std.specs.List.{AllByRecursion, slice_get}
use Rattle.mm_goto.specs.declared.ident.Ident.{Ident}
use Rattle.mm_goto.specs.declared.program.Instr.{Instr}
use Rattle.mm_goto.specs.declared.program.Instr.TheVariants as instr
use Rattle.mm_goto.specs.declared.program.Thread.{Thread}
use Rattle.mm_goto.specs.declared.pure.Pure.{Pure}
use Rattle.mm_goto.specs.Listing.{Listing}
use Rattle.mm_tree.specs.declared.item.Item.{Item}
use Rattle.mm_tree.specs.declared.item.Tree.{Tree}
use Rattle.mm_tree.specs.declared.side.Side.{Side}
use Rattle.mm_flow.specs.declared.names.Parts.{Parts}
use Rattle.mm_flow.specs.declared.names.Started.{Started}
use Rattle.mm_flow.specs.Flow.{Flow, Body, Placed, Ways, lay, placed, size}
use Rattle.mm_flow.specs.Programs.{all_to, end_of, flow_of, limit_passed, named_function, parts_of, place_in, program_of, thread_code, thread_of}
use Rattle.mm_flow.specs.Text.{labels_in}
use Rattle.mm_names.specs.Programs.{IsAccepted}
use Rattle.mm_sourcelike.specs.Ints.{AreInts}
use Rattle.mm_sourcelike.specs.Shapes.{IsScoped}
use Rattle.mm_sourcelike.proofs.Cells.{both_all}
use Rattle.mm_sourcelike.proofs.Laying.{Each, EachPlaced, LeadsIn, TakesJumps, laid_each}
use Rattle.mm_sourcelike.proofs.Law.{starts_fine}
use Rattle.mm_sourcelike.proofs.SafeThreads.{each_at}
use Rattle.mm_sourcelike.proofs.Threading.{ThreadFunction}
use Rattle.mm_sourcelike.proofs.Validity.{IsThreadFunction, all_at_index, main_function, text, thread_function}

-- ---- instructions

-- the code of the function's body
abbrev pub body_flow : Parts → List Item → Ident → Flow
body_flow parts items f = (thread_code parts items (named_function parts items f)).flow

-- what each instruction of the body is, and each jump, each instruction of the thread is
pub thread_each : (parts : Parts) (items : List Item) (f : Ident) (P : Instr → Type 0) (Q : Pure → Type 0) → ((k : ℕ) → P (instr.Jump k)) → ((e : Pure) (k : ℕ) → Q e → P (instr.Branch e k)) → P instr.End → Each P Q (body_flow parts items f)
    → (k : ℕ) (i : Instr) → slice_get (thread_of parts items f).code k ≡ Some i → P i
thread_each parts items f P Q jump branch end h = each_at P all placed_each
  where
    whole_body : Flow
    whole_body = Body (labels_in (named_function parts items f).body) (body_flow parts items f)

    ways : Ways
    ways = all_to (end_of parts items f)

    all : List Placed
    all = lay ways (flow_of parts items f) 0

    takes : TakesJumps P Q (size (body_flow parts items f) + 1)
    takes = record { jump = λ k l. jump k; branch = λ e k q l. branch e k q }

    ways_in : LeadsIn (size (body_flow parts items f) + 1) ways
    ways_in = record { behind = omega arith; next = omega arith; home = omega arith; label = λ y. omega arith }

    placed_each : EachPlaced P all
    placed_each =
        both_all (λ (q : Placed). P q.instr) (lay ways whole_body 0) (placed (place_in items f) instr.End ∷ [])
        (laid_each P Q (size (body_flow parts items f) + 1) takes ways whole_body 0 ways_in (omega arith) h)
        (end, tt)

-- ---- threads

module _ (side : Side) (tree : Tree) (ints : AreInts tree) (scoped : IsScoped tree) (accepted : IsAccepted side tree) (none : limit_passed side tree ≡ None) where
  abbrev p : Listing
  p = program_of side tree

  abbrev items : List Item
  items = tree.items

  abbrev parts : Parts
  parts = parts_of side items

  module _ (R : Thread → Type 0) where
    others : (ss : List Started) → AllByRecursion (λ (s : Started). IsThreadFunction items s.function) ss → ((f : Ident) → ThreadFunction p items parts (text side tree ints scoped accepted none) false f → R (thread_of parts items f))
        → AllByRecursion R (map (thread_of parts items) (map (λ (s : Started). s.function) ss))
    others [] h each = tt
    others (s ∷ ss) h each = (each s.function (thread_function side tree ints scoped accepted none s.function h.0), others ss h.1 each)

    -- what the thread of main is, and the thread of each function that is started
    pub each_thread : (ThreadFunction p items parts (text side tree ints scoped accepted none) true (codes "main") → R (thread_of parts items (codes "main")))
        → ((f : Ident) → ThreadFunction p items parts (text side tree ints scoped accepted none) false f → R (thread_of parts items f))
        → (t : ℕ) (thread : Thread) → slice_get p.threads t ≡ Some thread → R thread
    each_thread main each t thread e =
        all_at_index R p.threads t thread (main (main_function side tree ints scoped accepted none), others parts.starts (starts_fine side tree ints scoped accepted none).threads each) e
