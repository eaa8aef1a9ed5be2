-- The one text that is written for a list of entries: neighbouring steps of one thread stand in one line.
use Rattle.std.specs.Prelude.{ℕ, ◌+◌, ◌/◌, ◌%◌, Bool, false, ◌==◌, if◌then◌else◌, List, [], ◌∷◌, ◌++◌, map, replicate}
use Rattle.std.specs.List.{flat_map}
use Rattle.mm_sched.specs.declared.entry.Entry.{Entry}
use Rattle.mm_sched.specs.declared.entry.Entry.TheVariants.{Step, In, Flush, FlushCell}
use Rattle.mm_sched.specs.declared.schedule.Line.{Line}
use Rattle.mm_sched.specs.declared.schedule.TheConstants.{FULL}
use Rattle.mm_sched.specs.ScheduleText.{times, step_text, steps_text, in_text, flush_text, flush_cell_text, first_line, last_line, whole}

-- ---- runs

abbrev pub is_same_step : Entry → Entry → Bool
is_same_step (Step t) (Step u) = t == u
is_same_step (Step t) (In u v) = false
is_same_step (Step t) (Flush u) = false
is_same_step (Step t) (FlushCell u c) = false
is_same_step (In t v) f = false
is_same_step (Flush t) f = false
is_same_step (FlushCell t c) f = false

-- an entry in front of runs: it joins the first one, where both are steps of one thread
abbrev pub in_front : Entry → List Line → List Line
in_front e [] = times e 1 ∷ []
in_front e (r ∷ rs) = if is_same_step e r.item then times e (r.count + 1) ∷ rs else times e 1 ∷ r ∷ rs

-- the longest runs of neighbouring steps of one thread, each other entry by itself
abbrev pub runs : List Entry → List Line
runs [] = []
runs (e ∷ es) = in_front e (runs es)

-- ---- lines

abbrev pub last_part : Entry → ℕ → List Line
last_part e n = if n == 0 then [] else times e n ∷ []

-- a run in lines: each is full but the last
abbrev pub run_lines : Line → List Line
run_lines r = replicate (r.count / FULL) (times r.item FULL) ++ last_part r.item (r.count % FULL)

abbrev pub spelled_lines : List Entry → List Line
spelled_lines es = flat_map run_lines (runs es)

-- ---- text

abbrev pub text_of : Entry → ℕ → List ℕ
text_of (Step t) n = if n == 1 then step_text t else steps_text t n
text_of (In t v) n = in_text t v
text_of (Flush t) n = flush_text t
text_of (FlushCell t c) n = flush_cell_text t c

abbrev pub line_text : Line → List ℕ
line_text l = text_of l.item l.count

-- the first line, the lines, and the last one
unfoldable pub spell : List Entry → List ℕ
spell es = whole (first_line ∷ map line_text (spelled_lines es) ++ last_line ∷ [])
