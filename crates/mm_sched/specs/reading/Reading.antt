-- This mirrors the code: nothing that a reader believes rests on it.
-- How a text is read, once along it. The definitions of ScheduleText say what that comes to.
use Rattle.std.specs.Prelude.{◌≡◌, ℕ, ◌+◌, ◌≤◌, ℤ, pos, neg_ℤ, Bool, true, false, not, ◌&&◌, ◌||◌, ◌==◌, nat_lt, nat_le, ◌^◌, if◌then◌else◌, List, [], ◌∷◌, ◌++◌, length, codes, slice_index, Option, Some, None, option_and_then, Result, Ok, Err}
use Rattle.std.specs.List.{list_all}
use Rattle.std.specs.Option.{option_map}
use Rattle.std.specs.Str.{bytes_eq}
use Rattle.std.specs.Str.Parse.{digits_value}
use Rattle.std.specs.Char.{is_ascii_digit}
use Rattle.mm_sched.specs.declared.entry.Entry.TheVariants.{Step, In, Flush, FlushCell}
use Rattle.mm_sched.specs.declared.schedule.Line.{Line}
use Rattle.mm_sched.specs.declared.schedule.SchedFault.{SchedFault}
use Rattle.mm_sched.specs.declared.schedule.SchedFault.TheVariants.{BadLine, NoMemory}
use Rattle.mm_sched.specs.declared.schedule.TheConstants.{MAX_ENTRIES}
use Rattle.mm_sched.specs.declared.read.Stage.{Stage}
use Rattle.mm_sched.specs.declared.read.Stage.TheVariants.{First, Within, Behind}
use Rattle.mm_sched.specs.declared.read.Passed.{Passed}
use Rattle.mm_sched.specs.Guarded.{◌>>=◌, guarded}
use Rattle.mm_sched.specs.ScheduleText.{times, first_line, last_line, newline}

-- ---- cutting

-- two parts of a text
pub record Cut : Type 0 where
  pub before : List ℕ
  pub behind : List ℕ

abbrev pub longer : ℕ → Cut → Cut
longer b c = record { before = b ∷ c.before; behind = c.behind }

-- what stands before the first mark, and behind it
abbrev pub cut : ℕ → List ℕ → Option Cut
cut mark [] = None
cut mark (b ∷ bs) = if b == mark then Some (record { before = []; behind = bs }) else option_map (longer b) (cut mark bs)

-- ---- numbers

-- digits without a leading zero, of a number below 2^32
abbrev pub is_number : List ℕ → Bool
is_number w = (list_all is_ascii_digit w && not (slice_index w 0 == 48 && not (length w == 1))) && nat_lt (digits_value 10 w) (2 ^ 32)

abbrev pub number_of : List ℕ → Option ℕ
number_of [] = None
number_of (b ∷ bs) = if is_number (b ∷ bs) then Some (digits_value 10 (b ∷ bs)) else None

-- the int of that many below zero
abbrev pub negative : ℕ → Option ℤ
negative n = if n == 0 || nat_lt (2 ^ 31) n then None else Some (neg_ℤ (pos n))

abbrev pub positive : ℕ → Option ℤ
positive n = if nat_lt n (2 ^ 31) then Some (pos n) else None

abbrev pub int_of : List ℕ → Option ℤ
int_of [] = None
int_of (b ∷ bs) = if b == 45 then option_and_then negative (number_of bs) else option_and_then positive (number_of (b ∷ bs))

-- ---- lines

abbrev pub blank : ℕ
blank = 32

abbrev pub step_of : List ℕ → Option Line
step_of w = do
  t ← number_of w
  Some (times (Step t) 1)

abbrev pub steps_of : List ℕ → Option Line
steps_of w = do
  c ← cut blank w
  t ← number_of c.before
  n ← number_of c.behind
  guarded (not (n == 0)) (Some (times (Step t) n))

abbrev pub in_of : List ℕ → Option Line
in_of w = do
  c ← cut blank w
  t ← number_of c.before
  v ← int_of c.behind
  Some (times (In t v) 1)

abbrev pub flush_all_of : List ℕ → Option Line
flush_all_of w = do
  t ← number_of w
  Some (times (Flush t) 1)

abbrev pub flush_cell_of : Cut → Option Line
flush_cell_of c = do
  t ← number_of c.before
  cell ← number_of c.behind
  Some (times (FlushCell t cell) 1)

abbrev pub flush_of : List ℕ → Option Line
flush_of w = by_cut (cut blank w)
  where
    by_cut : Option Cut → Option Line
    by_cut None = flush_all_of w
    by_cut (Some c) = flush_cell_of c

abbrev pub form_of : List ℕ → List ℕ → Option Line
form_of word w = if bytes_eq word (codes "step") then step_of w
    else if bytes_eq word (codes "steps") then steps_of w
    else if bytes_eq word (codes "in") then in_of w
    else if bytes_eq word (codes "flush") then flush_of w
    else None

-- the line that a text without its newline is
unfoldable pub line_of : List ℕ → Option Line
line_of w = do
  c ← cut blank w
  form_of c.before c.behind

-- ---- the whole text

abbrev pub passed : Stage → Option Line → Passed
passed s l = record { stage = s; line = l }

abbrev pub counted : ℕ → Line → Option Passed
counted n l = guarded (nat_le (n + l.count) MAX_ENTRIES) (Some (passed (Within (n + l.count)) (Some l)))

-- what comes of a whole line
abbrev pub next : Stage → List ℕ → Option Passed
next First w = guarded (bytes_eq w first_line) (Some (passed (Within 0) None))
next (Within n) w = if bytes_eq w last_line then Some (passed Behind None) else option_and_then (counted n) (line_of w)
next Behind w = None

abbrev pub lines_of : Option Line → List Line
lines_of None = []
lines_of (Some l) = l ∷ []

-- whole lines, and the line after them, which has no newline
pub record Parts : Type 0 where
  pub ws : List (List ℕ)
  pub left : List ℕ

abbrev pub first_longer : ℕ → List (List ℕ) → List ℕ → Parts
first_longer b [] left = record { ws = []; left = b ∷ left }
first_longer b (w ∷ ws) left = record { ws = (b ∷ w) ∷ ws; left = left }

abbrev pub on_first : ℕ → Parts → Parts
on_first b p = first_longer b p.ws p.left

abbrev pub new_line : Parts → Parts
new_line p = record { ws = [] ∷ p.ws; left = p.left }

abbrev pub parts : List ℕ → Parts
parts [] = record { ws = []; left = [] }
parts (b ∷ bs) = if b == newline then new_line (parts bs) else on_first b (parts bs)

-- the lines in front of what was read behind them, or the bad line there
abbrev pub onto : List Line → Result (List Line) ℕ → Result (List Line) ℕ
onto ls (Ok more) = Ok (ls ++ more)
onto ls (Err k) = Err k

-- a text may end where this is left of it
abbrev pub is_ended : Stage → List ℕ → Bool
is_ended First left = false
is_ended (Within n) left = false
is_ended Behind [] = true
is_ended Behind (b ∷ left) = false

-- the end of the text in the line of number k
abbrev pub ended : Stage → ℕ → List ℕ → Result (List Line) ℕ
ended s k left = if is_ended s left then Ok [] else Err k

abbrev pub continued : ℕ → Option Passed → (Stage → Result (List Line) ℕ) → Result (List Line) ℕ
continued k None go = Err k
continued k (Some p) go = onto (lines_of p.line) (go p.stage)

-- the lines of the rest of a text, which begins with the line of number k, or the number of the bad line
abbrev pub read_on : Stage → ℕ → List (List ℕ) → List ℕ → Result (List Line) ℕ
read_on s k [] left = ended s k left
read_on s k (w ∷ ws) left = continued k (next s w) (λ t. read_on t (k + 1) ws left)

abbrev pub read_text : Stage → ℕ → List ℕ → Result (List Line) ℕ
read_text s k text = read_on s k (parts text).ws (parts text).left

-- some lines are read, or the bad line is the third or a later one
abbrev pub HasSome : Result (List Line) ℕ → Type 0
HasSome (Ok ls) = 1 ≤ length ls
HasSome (Err k) = 3 ≤ k

-- the fault is that of what is read
abbrev pub IsRead : Result (List Line) ℕ → SchedFault → Type 0
IsRead r (BadLine k) = r ≡ Err k
IsRead r NoMemory = HasSome r
