-- Two failing runs in which a store outlives its overtaking: store buffering under TSO and message passing under PSO.
use Rattle.std.specs.Prelude.{pos, List, [], ◌∷◌}
use Rattle.mm_sched.specs.declared.entry.Act.TheVariants.{Loads, Pushes, Starts}
use Rattle.mm_sched.specs.declared.entry.Entry.{Entry}
use Rattle.mm_sched.specs.declared.entry.Entry.TheVariants.{Step, Flush, FlushCell}
use Rattle.mm_sched.specs.declared.entry.Event.{Event}
use Rattle.mm_sched.specs.declared.entry.Event.TheVariants.{Does, Flushes}

-- each thread stores and loads before a store is flushed
abbrev pub both_late : List Entry
both_late = Step 0 ∷ Step 0 ∷ Step 1 ∷ Step 0 ∷ Step 1 ∷ Flush 0 ∷ Flush 1 ∷ []

abbrev pub both_late_events : List Event
both_late_events =
    Does 0 (Starts 1) ∷ Does 0 (Pushes 0 (pos 1)) ∷ Does 1 (Pushes 1 (pos 1)) ∷ Does 0 (Loads 0 1 (pos 0)) ∷ Does 1 (Loads 0 0 (pos 0))
    ∷ Flushes 0 0 (pos 1) ∷ Flushes 1 1 (pos 1) ∷ []

-- the flag is flushed before the message, and the other thread reads both between
abbrev pub message_late : List Entry
message_late = Step 0 ∷ Step 0 ∷ Step 0 ∷ FlushCell 0 1 ∷ Step 1 ∷ Step 1 ∷ FlushCell 0 0 ∷ []

abbrev pub message_late_events : List Event
message_late_events =
    Does 0 (Starts 1) ∷ Does 0 (Pushes 0 (pos 5)) ∷ Does 0 (Pushes 1 (pos 1)) ∷ Flushes 0 1 (pos 1) ∷ Does 1 (Loads 0 1 (pos 1))
    ∷ Does 1 (Loads 1 0 (pos 0)) ∷ Flushes 0 0 (pos 5) ∷ []
