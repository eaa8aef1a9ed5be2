-- The text of a schedule.
use Rattle.std.specs.Prelude.{◌≡◌, ◌≢◌, ℕ, ℤ, ◌+◌, ◌^◌, ◌<◌, ◌≤◌, ◌⊎◌, List, [], ◌∷◌, ◌++◌, length, replicate, codes, FitsSigned}
use Rattle.std.specs.List.{flat_map, All, AllZip}
use Rattle.std.specs.Fmt.{decimal, signed_decimal}
use Rattle.std.specs.Int.{w32}
use Rattle.mm_sched.specs.declared.entry.Entry.{Entry}
use Rattle.mm_sched.specs.declared.entry.Entry.TheVariants.{Step, In, Flush, FlushCell}
use Rattle.mm_sched.specs.declared.schedule.Line.{Line}
use Rattle.mm_sched.specs.declared.schedule.Schedule.{Schedule}
use Rattle.mm_sched.specs.declared.schedule.SchedFault.{SchedFault}
use Rattle.mm_sched.specs.declared.schedule.SchedFault.TheVariants.{BadLine, NoMemory}
use Rattle.mm_sched.specs.declared.schedule.TheConstants.{MAX_ENTRIES}

-- ---- what lines stand for

-- the line of n times the entry
abbrev pub times : Entry → ℕ → Line
times e n = record { item = e; count = n }

-- the item of each line, as many times as the line counts
abbrev pub entries_in : List Line → List Entry
entries_in = flat_map (λ l. replicate l.count l.item)

abbrev pub entries_of : Schedule → List Entry
entries_of s = entries_in s.lines

-- ---- one line

abbrev pub step_text : ℕ → List ℕ
step_text t = codes "step " ++ decimal t

abbrev pub steps_text : ℕ → ℕ → List ℕ
steps_text t n = codes "steps " ++ decimal t ++ codes " " ++ decimal n

abbrev pub in_text : ℕ → ℤ → List ℕ
in_text t v = codes "in " ++ decimal t ++ codes " " ++ signed_decimal v

abbrev pub flush_text : ℕ → List ℕ
flush_text t = codes "flush " ++ decimal t

abbrev pub flush_cell_text : ℕ → ℕ → List ℕ
flush_cell_text t c = codes "flush " ++ decimal t ++ codes " " ++ decimal c

-- the numbers of an entry have 32 bits
abbrev pub IsEntry : Entry → Type 0
IsEntry (Step t) = t < 2 ^ 32
IsEntry (In t v) = (t < 2 ^ 32) × FitsSigned w32 v
IsEntry (Flush t) = t < 2 ^ 32
IsEntry (FlushCell t c) = (t < 2 ^ 32) × (c < 2 ^ 32)

-- w, without its newline, says n times the entry
abbrev pub Says : List ℕ → Entry → ℕ → Type 0
Says w (Step t) n = ((w ≡ step_text t) × (n ≡ 1)) ⊎ ((w ≡ steps_text t n) × (1 ≤ n) × (n < 2 ^ 32))
Says w (In t v) n = (w ≡ in_text t v) × (n ≡ 1)
Says w (Flush t) n = (w ≡ flush_text t) × (n ≡ 1)
Says w (FlushCell t c) n = (w ≡ flush_cell_text t c) × (n ≡ 1)

abbrev pub IsLine : List ℕ → Line → Type 0
IsLine w l = IsEntry l.item × Says w l.item l.count

-- ---- the whole text

abbrev pub first_line : List ℕ
first_line = codes "schedule 1"

abbrev pub last_line : List ℕ
last_line = codes "end"

abbrev pub newline : ℕ
newline = 10

-- the text of whole lines: each has its newline
abbrev pub whole : List (List ℕ) → List ℕ
whole = flat_map (λ w. w ++ newline ∷ [])

-- ws are the whole lines of the schedule: the first line, a line for each of its own, and the last line; it has at most so
-- many entries
pub record AreLines (ws : List (List ℕ)) (lines : List Line) : Type 0 where
  pub between : List (List ℕ)
  pub are : ws ≡ first_line ∷ between ++ last_line ∷ []
  pub fit : AllZip IsLine between lines
  pub few : length (entries_in lines) ≤ MAX_ENTRIES

-- the text is that of the lines
pub record IsSchedule (text : List ℕ) (lines : List Line) : Type 0 where
  pub ws : List (List ℕ)
  pub is_text : text ≡ whole ws
  pub are_lines : AreLines ws lines

-- ---- the bad line

-- whole lines of which each fits after those before it: some more make them the lines of a schedule
pub record Begin (ws : List (List ℕ)) : Type 0 where
  pub more : List (List ℕ)
  pub lines : List Line
  pub are_lines : AreLines (ws ++ more) lines

-- a text without a newline
abbrev pub IsUnfinished : List ℕ → Type 0
IsUnfinished w = All (λ b. b ≢ newline) w

-- behind the whole lines ws, what is left of a text does not go on with a schedule: a whole line does not fit after them,
-- or the line has no newline, or nothing is left and the last line has not come
pub data Stops (ws : List (List ℕ)) (left : List ℕ) : Type 0 where
  bad : (w behind : List ℕ)
      → IsUnfinished w
      → left ≡ w ++ newline ∷ behind
      → ¬ (Begin (ws ++ w ∷ []))
      → Stops ws left
  unfinished : IsUnfinished left
      → left ≢ []
      → Stops ws left
  missing : left ≡ []
      → ((lines : List Line) → ¬ (AreLines ws lines))
      → Stops ws left

-- the first line that does not fit has the number k, from 1
pub record IsBadLine (text : List ℕ) (k : ℕ) : Type 0 where
  pub ws : List (List ℕ)
  pub left : List ℕ
  pub is_text : text ≡ whole ws ++ left
  pub begin : Begin ws
  pub stops : Stops ws left
  pub number : k ≡ length ws + 1

-- the text has lines to keep: it is a schedule that has some, or its bad line stands behind two that fit
abbrev pub HasKept : List ℕ → Type 0
HasKept text = ((lines : List Line) × IsSchedule text lines × (1 ≤ length lines)) ⊎ ((k : ℕ) × IsBadLine text k × (3 ≤ k))

-- why a text is not read; memory is wanted for lines that are kept alone
abbrev pub IsFault : List ℕ → SchedFault → Type 0
IsFault text (BadLine k) = IsBadLine text k
IsFault text NoMemory = HasKept text
