-- A failing run with partial buffers has one with store buffers that fails alike.
use Rattle.std.proofs.Common.{◌≡◌, ℕ, ℤ, Bool, List, length, Some, arith}
use Rattle.std.proofs.lemmas.List.{take_all}
use Rattle.mm_goto.specs.Bounds.{Bounding, IsBound}
use Rattle.mm_goto.specs.declared.model.Model.{Model}
use Rattle.mm_goto.specs.Listing.{Listing}
use Rattle.mm_goto.specs.Valid.{IsValid}
use Rattle.mm_sched.specs.declared.entry.Entry.{Entry}
use Rattle.mm_sched.specs.declared.entry.Rules.TheVariants.{Buffered, Partial}
use Rattle.mm_sched.specs.Runs.{run, Fails, FailAlike, locals_of}
use Rattle.mm_sched.specs.State.{State, initial}
use Rattle.mm_sched.proofs.Fitting.{initial_fits}
use Rattle.mm_part.proofs.Spreading.{spread, same_thread}

pub a_full_run : (m : Model) (bound : Bounding) (set : List (List Bool)) (p : Listing) (es : List Entry) (last : State) → IsValid p → IsBound bound → run (Partial m bound set) p (initial p) es ≡ Some last → (fs : List Entry) × (run (Buffered m bound) p (initial p) fs ≡ Some last)
a_full_run m bound set p es last valid b runs =
    let it = spread m bound b.0 set p es (initial p) last (initial_fits (Partial m bound set) p valid) runs in
    (it.entries, it.goes)

pub fails_alike : (m : Model) (bound : Bounding) (set : List (List Bool)) (p : Listing) (n : ℕ) (es : List Entry) → IsValid p → IsBound bound → Fails (Partial m bound set) p n es → (fs : List Entry) × FailAlike (Partial m bound set) (Buffered m bound) p p n es fs
fails_alike m bound set p n es valid b fails =
    let it = spread m bound b.0 set p es (initial p) fails.last (initial_fits (Partial m bound set) p valid) fails.runs in (
      it.entries,
      record {
        one = fails;
        other = record { last = fails.last; runs = it.goes; verdict = fails.verdict };
        thread = same_thread es it.entries it.steps;
        locals = λ t e. let xs : List ℤ = locals_of fails.last t in take_all (length xs) xs (omega arith);
      },
    )
