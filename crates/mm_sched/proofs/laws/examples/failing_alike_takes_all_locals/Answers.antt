use Rattle.std.proofs.Common.{arith, ◌≡◌, ℕ, ℤ, pos, true, false, List, [], ◌∷◌, length, replicate, slice_set, Some, refl, sym, ◌∙◌, ap, subst}
use Rattle.mm_goto.specs.Value.{value_of}
use Rattle.mm_goto.proofs.Folding.{fold_constant}
use Rattle.mm_sched.specs.declared.entry.Entry.{Entry}
use Rattle.mm_sched.specs.declared.entry.Entry.TheVariants.{Step}
use Rattle.mm_sched.specs.declared.entry.Rules.TheVariants.{Sc}
use Rattle.mm_sched.specs.State.{State, initial}
use Rattle.mm_sched.specs.Event.{act, acted, event}
use Rattle.mm_sched.specs.Runs.{FailAlike, Fails, IsFront, locals_of, run}
use Rattle.mm_sched.specs.Tiny.{failing}
use Rattle.mm_sched.proofs.laws.examples.failing_alike_takes_all_locals.Goals as goal

abbrev two : List Entry
two = Step 0 ∷ Step 0 ∷ []

abbrev locals : ℕ → ℤ → List ℤ
locals n z = slice_set (replicate n (pos 0)) 0 z

abbrev failed : ℕ → ℤ → State
failed n z = record (initial (failing n z)) { verdict = Some 3; threads = record { place = 2; locals = locals n z; started = true; ended = false } ∷ [] }

runs : (n : ℕ) (z : ℤ) → run Sc (failing n z) (initial (failing n z)) two ≡ Some (failed n z)
unfolding initial event act acted value_of
runs n z = simp (fold_constant) refl

ends : (n : ℕ) (z : ℤ) (f : Fails Sc (failing n z) 3 two) → locals_of f.last 0 ≡ locals n z
ends n z f = let same : failed n z ≡ f.last = let whole = sym (runs n z) ∙ f.runs in cc in ap (λ s. locals_of s 0) (sym same)

alike : (m n : ℕ) (y z : ℤ) → FailAlike Sc Sc (failing m y) (failing n z) 3 two two → IsFront (locals m y) (locals n z)
alike m n y z h = subst (λ xs. IsFront xs (locals n z)) (ends m y h.one) (subst (λ ys. IsFront (locals_of h.one.last 0) ys) (ends n z h.other) (h.locals 0 refl))

pub returns-clause-more : goal.returns-clause-more
returns-clause-more c = record {
  one = record { last = failed 1 (pos 7); runs = runs 1 (pos 7); verdict = refl };
  other = record { last = failed 2 (pos 7); runs = runs 2 (pos 7); verdict = refl };
  thread = refl;
  locals = λ t e. let main : 0 ≡ t = cc in subst (λ k. IsFront (locals_of (failed 1 (pos 7)) k) (locals_of (failed 2 (pos 7)) k)) main refl;
}

pub returns-clause-missing : goal.returns-clause-missing
returns-clause-missing c = λ h.
    let front : pos 7 ∷ [] ≡ pos 7 ∷ pos 0 ∷ [] = alike 2 1 (pos 7) (pos 7) h in
    let few : ◌≡◌ {A = ℕ} 1 2 = ap length front in
    omega arith

pub returns-clause-another : goal.returns-clause-another
returns-clause-another c = λ h.
    let front : pos 8 ∷ [] ≡ pos 7 ∷ [] = alike 1 1 (pos 7) (pos 8) h in
    let same : ◌≡◌ {A = ℕ} 8 7 = cc in
    omega arith
