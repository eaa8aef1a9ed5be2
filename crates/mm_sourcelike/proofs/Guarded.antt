-- The threads of an accepted source are guarded.
use Rattle.std.proofs.Common.{◌≡◌, ℕ, true, false, List, [], ◌∷◌, map, codes, refl, Some, None}
use Rattle.std.specs.List.{AllByRecursion, slice_get}
use Rattle.mm_goto.specs.declared.program.Instr.{Instr}
use Rattle.mm_goto.specs.declared.program.Thread.{Thread}
use Rattle.mm_goto.specs.Listing.{Listing}
use Rattle.mm_goto.specs.Sourcelike.{IsGuarded, UpdatesApart, is_section}
use Rattle.mm_tree.specs.declared.item.Item.{Item}
use Rattle.mm_tree.specs.declared.item.Tree.{Tree}
use Rattle.mm_tree.specs.declared.side.Side.TheVariants.{Source}
use Rattle.mm_flow.specs.declared.names.Parts.{Parts}
use Rattle.mm_flow.specs.declared.names.Started.{Started}
use Rattle.mm_flow.specs.Programs.{parts_of, program_of, limit_passed, thread_of}
use Rattle.mm_names.specs.Programs.{IsAccepted}
use Rattle.mm_sourcelike.specs.Ints.{AreInts}
use Rattle.mm_sourcelike.specs.Shapes.{IsScoped}
use Rattle.mm_sourcelike.proofs.Law.{starts_fine}
use Rattle.mm_sourcelike.proofs.SafeThreads.{GuardedThread, thread_guarded}
use Rattle.mm_sourcelike.proofs.Validity.{IsThreadFunction, all_at_index, main_function, text, thread_function}

module _ (tree : Tree) (ints : AreInts tree) (scoped : IsScoped tree) (accepted : IsAccepted Source tree) (none : limit_passed Source tree ≡ None) where
  abbrev p : Listing
  p = program_of Source tree

  abbrev items : List Item
  items = tree.items

  abbrev parts : Parts
  parts = parts_of Source items

  others : (ss : List Started) → AllByRecursion (λ (s : Started). IsThreadFunction items s.function) ss → AllByRecursion GuardedThread (map (thread_of parts items) (map (λ (s : Started). s.function) ss))
  others [] h = tt
  others (s ∷ ss) h =
      (thread_guarded p items parts (text Source tree ints scoped accepted none) refl false s.function (thread_function Source tree ints scoped accepted none s.function h.0), others ss h.1)

  all_guarded : AllByRecursion GuardedThread p.threads
  all_guarded = (
    thread_guarded p items parts (text Source tree ints scoped accepted none) refl true (codes "main") (main_function Source tree ints scoped accepted none),
    others parts.starts (starts_fine Source tree ints scoped accepted none).threads,
  )

  guarded_thread : (t : ℕ) (thread : Thread) → slice_get p.threads t ≡ Some thread → GuardedThread thread
  guarded_thread t thread e = all_at_index GuardedThread p.threads t thread all_guarded e

  pub checks_passed : (t k : ℕ) (thread : Thread) (i : Instr) → slice_get p.threads t ≡ Some thread → slice_get thread.code k ≡ Some i → IsGuarded thread.code k i
  checks_passed t k thread i e f = (guarded_thread t thread e).guarded k i f

  pub updates_apart : (t k : ℕ) (thread : Thread) (i : Instr) → slice_get p.threads t ≡ Some thread → slice_get thread.code k ≡ Some i → UpdatesApart i
  updates_apart t k thread i e f = (guarded_thread t thread e).apart k i f

  pub no_section : (t k : ℕ) (thread : Thread) (i : Instr) → slice_get p.threads t ≡ Some thread → slice_get thread.code k ≡ Some i → is_section i ≡ false
  no_section t k thread i e f = (guarded_thread t thread e).sections k i f
