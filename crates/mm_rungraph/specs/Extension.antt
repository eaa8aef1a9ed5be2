-- The end of a run: what is pending reaches memory, by thread, the oldest first.
use Rattle.std.specs.Prelude.{ℕ, suc, List, [], ◌∷◌, ◌++◌, map}
use Rattle.mm_goto.specs.declared.model.Model.{Model}
use Rattle.mm_goto.specs.declared.model.Model.TheVariants.{Tso, Pso}
use Rattle.mm_sched.specs.declared.entry.Entry.{Entry}
use Rattle.mm_sched.specs.declared.entry.Entry.TheVariants.{Flush, FlushCell}
use Rattle.mm_sched.specs.State.{Pending, State}

abbrev pub flush_entry : Model → ℕ → Pending → Entry
flush_entry Tso t q = Flush t
flush_entry Pso t q = FlushCell t q.0

-- the flushes of all that thread t has pending
abbrev pub thread_flushes : Model → List (List Pending) → ℕ → List Entry
thread_flushes m [] t = []
thread_flushes m (ps ∷ lists) t = map (flush_entry m t) ps ++ thread_flushes m lists (suc t)

-- those of all threads
abbrev pub extension : Model → State → List Entry
extension m s = thread_flushes m s.pending 0
