-- This mirrors the code: nothing that a reader believes rests on it.
-- How lines are written, once along them: steps of one thread are held back until something else comes.
use Rattle.std.specs.Prelude.{ℕ, ◌+◌, ◌-◌, ◌==◌, nat_lt, if◌then◌else◌, List, [], ◌∷◌, ◌++◌, replicate}
use Rattle.std.specs.List.{flat_map}
use Rattle.mm_sched.specs.declared.entry.Entry.{Entry}
use Rattle.mm_sched.specs.declared.entry.Entry.TheVariants.{Step}
use Rattle.mm_sched.specs.declared.schedule.Line.{Line}
use Rattle.mm_sched.specs.declared.schedule.TheConstants.{FULL}
use Rattle.mm_sched.specs.declared.write.Held.{Held}
use Rattle.mm_sched.specs.ScheduleText.{times, newline}
use Rattle.mm_sched.specs.Spelling.{last_part, line_text}

abbrev pub held : ℕ → ℕ → Held
held t n = record { thread = t; steps = n }

-- the line of what is held
abbrev pub held_line : Held → List Line
held_line o = last_part (Step o.thread) o.steps

-- what is written before steps of the thread
abbrev pub closed : Held → ℕ → List Line
closed o t = if t == o.thread then [] else held_line o

-- what is held before steps of the thread
abbrev pub joined : Held → ℕ → Held
joined o t = if t == o.thread then o else held t 0

-- the line that so many more steps fill
abbrev pub filled : Held → ℕ → List Line
filled o n = if nat_lt (o.steps + n) FULL then [] else times (Step o.thread) FULL ∷ []

-- what is held behind them
abbrev pub grown : Held → ℕ → Held
grown o n = if nat_lt (o.steps + n) FULL then held o.thread (o.steps + n) else held o.thread (o.steps + n - FULL)

abbrev pub written_some : Held → Entry → ℕ → List Line
written_some o (Step t) n = closed o t ++ filled (joined o t) n
written_some o e n = held_line o ++ replicate n (times e 1)

abbrev pub held_some : Held → Entry → ℕ → Held
held_some o (Step t) n = grown (joined o t) n
held_some o e n = held o.thread 0

-- what is written for a line
abbrev pub written : Held → Line → List Line
written o l = if l.count == 0 then [] else written_some o l.item l.count

-- what is held behind a line
abbrev pub held_behind : Held → Line → Held
held_behind o l = if l.count == 0 then o else held_some o l.item l.count

-- the text of lines, each with its newline
abbrev pub lines_text : List Line → List ℕ
lines_text = flat_map (λ l. line_text l ++ newline ∷ [])
