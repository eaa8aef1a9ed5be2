-- The main of a woven program is well behind the threads' functions, and tells of the starts and waits of its code.
use Rattle.std.proofs.Common.{◌≡◌, ℕ, zero, suc, ◌+◌, ◌<◌, ◌≤◌, Bool, false, not, ◌&&◌, List, [], ◌∷◌, length, slice_get, codes, arith, refl, ◌∙◌, ap, Some}
use Rattle.mm_goto.specs.declared.shape.Shape.{Shape}
use Rattle.mm_goto.specs.declared.program.Instr.{Instr}
use Rattle.mm_goto.specs.declared.program.Instr.TheVariants as i
use Rattle.mm_goto.specs.declared.program.Thread.{Thread}
use Rattle.mm_goto.specs.Listing.{Listing}
use Rattle.mm_goto.specs.Shapes.{Fits}
use Rattle.mm_goto.specs.Sourcelike.{IsSourcelike}
use Rattle.mm_goto.specs.Valid.{IsInstrIn}
use Rattle.mm_tree.specs.declared.item.Gives.TheVariants as gives
use Rattle.mm_tree.specs.declared.item.Item.{Item}
use Rattle.mm_scope.specs.declared.table.Meaning.TheVariants as meaning
use Rattle.mm_scope.specs.Scopes.{Names, Table, meaning_of}
use Rattle.mm_scope.specs.Steps.{in_turn, skip}
use Rattle.mm_scope.specs.Threads.{gives_thread}
use Rattle.mm_sensible.proofs.QuietTemplates.{IsHome}
use Rattle.mm_words.specs.Words as words
use Rattle.mm_templates.specs.Names.{handle_name, thread_name}
use Rattle.mm_templates.specs.Instructions.{reaches_by_pointer}
use Rattle.mm_instr.specs.Woven.{has_buffers, has_address, woven_code, woven_body, thread_item}
use Rattle.mm_sensible.proofs.IntExpressions.{num_int}
use Rattle.mm_sensible.proofs.WordStatements.{Quiet, return_int}
use Rattle.mm_sensible.proofs.ItemWalk.{Stands, Knows, AreApart, IsWell}
use Rattle.mm_sensible.proofs.WellItems.{function_well}
use Rattle.mm_sensible.proofs.MovedMemory.{at_place}
use Rattle.mm_sensible.proofs.MainTemplates.{AllTell, no_more, tell_append, all_told, IsThreadName, IsReadyInMain, main_tells}
use Rattle.mm_sensible.proofs.UsesOrder.{told}
use Rattle.mm_sensible.proofs.ThreadLocals.{thread_names, global_means}
use Rattle.mm_sensible.proofs.ThreadHomes.{HasBefore, before_means}
use Rattle.mm_sensible.proofs.HelperItems.{known_item}
use Rattle.mm_sensible.proofs.ThreadItems.{main_front, in_bounds, home, labels, instr_ready, fine_with, few_instructions}

module _ (p : Listing) (shape : Shape) (s : IsSourcelike p) (fits : Fits p shape) (items : List Item) (apart : AreApart items) (b : ℕ) (before : HasBefore p shape items b) (main : Thread) (at : slice_get p.threads 0 ≡ Some main) (k : ℕ) (low : b ≤ k)
    (bodies : (u : ℕ) → 1 ≤ u → u < length p.threads → (thread : Thread) × Stands items k (thread_item p shape (has_buffers shape) (has_address p) u thread)) where
  abbrev on : Bool
  on = has_buffers shape

  abbrev addressed : Bool
  addressed = has_address p

  abbrev marks : Table
  marks = labels p shape s fits items apart b before 0 main at gives.Int [] [] main_front

  module _ (table : Table) (knows : Knows items (k + 1) table) where
    abbrev names : Names
    names = thread_names table [] main.locals

    ends : Quiet items marks k gives.Int names (words.return (words.num 0))
    ends = return_int items marks k names (words.num 0) (num_int names 0)

    abbrev here : IsHome p shape on items marks k names main.locals (length main.code)
    here = home p shape s fits items apart b before 0 main at gives.Int [] [] main_front k low table knows

    abbrev Ready : Instr → Type 0
    Ready it = IsReadyInMain p shape on items marks k names main.locals (length main.code) here ends it

    handle_means : (u : ℕ) → 1 ≤ u → u < length p.threads → meaning_of names (handle_name u) ≡ Some meaning.SharedThread
    handle_means u some less = (before_means p shape s items b before k low table knows [] main_front main.locals (words.thread_variable (handle_name u)) (before.handles u some less) (refl, λ l. refl)).3

    body_means : (u : ℕ) → 1 ≤ u → u < length p.threads → IsThreadName items marks k names (thread_name u)
    unfolding thread_item
    body_means u some less =
        let f = bodies u some less in
        let it = known_item items k (k + 1) (thread_item p shape on addressed u f.0) table (omega arith) f.1 knows in
        (it.0, global_means table [] main.locals (thread_name u) (refl, λ l. refl) ∙ it.3, ap gives_thread it.2)

    instr_in : (j : ℕ) (it : Instr) → slice_get main.code j ≡ Some it → IsInstrIn p main it
    instr_in j it there = at_place (IsInstrIn p main) main.code j it (in_bounds p shape s fits items apart b before 0 main at gives.Int [] [] main_front).instructions there

    some_start : (j u : ℕ) → slice_get main.code j ≡ Some (i.Start u) → 1 ≤ u
    some_start j zero there = absurd ((s.each 0 j main (i.Start 0) at there).not_main.0 refl)
    some_start j (suc u) there = omega arith

    some_join : (j u : ℕ) → slice_get main.code j ≡ Some (i.Join u) → 1 ≤ u
    some_join j zero there = absurd ((s.each 0 j main (i.Join 0) at there).not_main.1 refl)
    some_join j (suc u) there = omega arith

    main_ready : (j : ℕ) (it : Instr) → slice_get main.code j ≡ Some it → (reaches_by_pointer it && not addressed) ≡ false → Ready it
    unfolding IsReadyInMain
    main_ready j (i.Start u) there e = (handle_means u (some_start j u there) (instr_in j (i.Start u) there), body_means u (some_start j u there) (instr_in j (i.Start u) there))
    main_ready j (i.Join u) there e = handle_means u (some_join j u there) (instr_in j (i.Join u) there)
    main_ready j (i.Set l x) there e = instr_ready p shape s fits items apart b before 0 main at gives.Int [] [] main_front k low table knows j (i.Set l x) there refl e
    main_ready j (i.Load l a) there e = instr_ready p shape s fits items apart b before 0 main at gives.Int [] [] main_front k low table knows j (i.Load l a) there refl e
    main_ready j (i.Store a x) there e = instr_ready p shape s fits items apart b before 0 main at gives.Int [] [] main_front k low table knows j (i.Store a x) there refl e
    main_ready j (i.Input l) there e = instr_ready p shape s fits items apart b before 0 main at gives.Int [] [] main_front k low table knows j (i.Input l) there refl e
    main_ready j (i.Jump m) there e = instr_ready p shape s fits items apart b before 0 main at gives.Int [] [] main_front k low table knows j (i.Jump m) there refl e
    main_ready j (i.Branch x m) there e = instr_ready p shape s fits items apart b before 0 main at gives.Int [] [] main_front k low table knows j (i.Branch x m) there refl e
    main_ready j (i.Assert x m) there e = instr_ready p shape s fits items apart b before 0 main at gives.Int [] [] main_front k low table knows j (i.Assert x m) there refl e
    main_ready j (i.Assume x) there e = instr_ready p shape s fits items apart b before 0 main at gives.Int [] [] main_front k low table knows j (i.Assume x) there refl e
    main_ready j i.Fence there e = instr_ready p shape s fits items apart b before 0 main at gives.Int [] [] main_front k low table knows j i.Fence there refl e
    main_ready j (i.Lock m) there e = instr_ready p shape s fits items apart b before 0 main at gives.Int [] [] main_front k low table knows j (i.Lock m) there refl e
    main_ready j (i.Unlock m) there e = instr_ready p shape s fits items apart b before 0 main at gives.Int [] [] main_front k low table knows j (i.Unlock m) there refl e
    main_ready j (i.Add l a x) there e = instr_ready p shape s fits items apart b before 0 main at gives.Int [] [] main_front k low table knows j (i.Add l a x) there refl e
    main_ready j (i.Cas l a x y) there e = instr_ready p shape s fits items apart b before 0 main at gives.Int [] [] main_front k low table knows j (i.Cas l a x y) there refl e
    main_ready j i.AtomBegin there e = instr_ready p shape s fits items apart b before 0 main at gives.Int [] [] main_front k low table knows j i.AtomBegin there refl e
    main_ready j i.AtomEnd there e = instr_ready p shape s fits items apart b before 0 main at gives.Int [] [] main_front k low table knows j i.AtomEnd there refl e
    main_ready j i.End there e = instr_ready p shape s fits items apart b before 0 main at gives.Int [] [] main_front k low table knows j i.End there refl e

    -- what the code of main tells of
    code_tells : (j : ℕ) (its : List Instr) → ((l : ℕ) (it : Instr) → slice_get its l ≡ Some it → (reaches_by_pointer it && not addressed) ≡ false → Ready it) → AllTell items marks k names (told its) (woven_code p shape on addressed 0 j its)
    unfolding told
    code_tells j [] h = no_more
    code_tells j (it ∷ its) h =
        tell_append items marks k names
        (main_tells p shape on items marks k names main.locals (length main.code) here ends addressed 0 j it (h 0 it refl))
        (code_tells (j + 1) its (λ l o there. h (suc l) o there))

  pub main_well : slice_get items k ≡ Some (words.int (codes "main") [] (woven_body p shape on addressed 0 main)) → IsWell items (told main.code) k (words.int (codes "main") [] (woven_body p shape on addressed 0 main))
  unfolding in_turn skip
  main_well stands = function_well items (told main.code) k gives.Int (codes "main") [] (woven_body p shape on addressed 0 main) apart stands refl (λ table knows.
      fine_with p shape s fits items apart b before 0 main at gives.Int [] [] main_front k low table knows (told main.code) (codes "main") (few_instructions p shape s fits items apart b before 0 main at)
      refl
      (all_told items marks k (names table knows) (code_tells table knows 0 main.code (main_ready table knows))))
