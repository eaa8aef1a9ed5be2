-- The number of a line is small, since each line before it but two has an entry. A line of an entry is not the first.
use Rattle.std.proofs.Common.{◌≡◌, ℕ, ◌+◌, ◌≤◌, List, Some, None, ap, arith, subst, sym, ⊎_elim}
use Rattle.std.specs.Str.{bytes_eq}
use Rattle.mm_sched.specs.declared.entry.Entry.{Entry}
use Rattle.mm_sched.specs.declared.entry.Entry.TheVariants.{Step, In, Flush, FlushCell}
use Rattle.mm_sched.specs.declared.schedule.Line.{Line}
use Rattle.mm_sched.specs.declared.schedule.TheConstants.{MAX_ENTRIES}
use Rattle.mm_sched.specs.declared.read.Stage.{Stage}
use Rattle.mm_sched.specs.declared.read.Stage.TheVariants.{First, Within, Behind}
use Rattle.mm_sched.specs.declared.read.Passed.{Passed}
use Rattle.mm_sched.specs.ScheduleText.{Says, first_line}
use Rattle.mm_sched.specs.reading.Reading.{next, passed}
use Rattle.mm_sched.proofs.Forms.{line_is}
use Rattle.mm_sched.proofs.Advancing.{IsNext, next_is, guarded_some}

-- the next line has a number that is right for what came before it
abbrev pub IsInTime : Stage → ℕ → Type 0
IsInTime First k = k ≡ 1
IsInTime (Within n) k = (k ≤ n + 2) × (n ≤ MAX_ENTRIES) × (2 ≤ k)
IsInTime Behind k = k ≤ MAX_ENTRIES + 3

one_at_least : (w : List ℕ) (e : Entry) (n : ℕ) → Says w e n → 1 ≤ n
one_at_least w (Step t) n s = ⊎_elim (λ p. omega (arith, p.1)) (λ p. p.1) s
one_at_least w (In t v) n s = omega (arith, s.1)
one_at_least w (Flush t) n s = omega (arith, s.1)
one_at_least w (FlushCell t c) n s = omega (arith, s.1)

pub in_time : (s : Stage) (w : List ℕ) (p : Passed) (k : ℕ) → IsInTime s k → next s w ≡ Some p → IsInTime p.stage (k + 1)
in_time First w p k t h =
    let e = guarded_some (bytes_eq w first_line) (passed (Within 0) None) p h in
    subst (λ (x : Passed). IsInTime x.stage (k + 1)) e.1 (omega (arith, t), omega arith, omega (arith, t))
in_time (Within n) w p k t h = elim (next_is n w p h) [
  | IsNext.last is q ↦ subst (λ (x : Passed). IsInTime x.stage (k + 1)) (sym q) (omega (arith, t.0, t.1))
  | IsNext.one l is few q ↦ let some = one_at_least w l.item l.count (line_is w l is).1 in subst (λ (x : Passed). IsInTime x.stage (k + 1)) (sym q) (omega (arith, t.0), few, omega (arith, t.2))
]
in_time Behind w p k t h = cc

-- a line of an entry is the second or a later one
pub line_is_behind : (s : Stage) (w : List ℕ) (p : Passed) (l : Line) (k : ℕ) → IsInTime s k → next s w ≡ Some p → p.line ≡ Some l → 2 ≤ k
line_is_behind First w p l k t h e =
    let g = guarded_some (bytes_eq w first_line) (passed (Within 0) None) p h in
    let none : p.line ≡ None = sym (ap (λ (x : Passed). x.line) g.1) in
    cc
line_is_behind (Within n) w p l k t h e = t.2
line_is_behind Behind w p l k t h e = cc
