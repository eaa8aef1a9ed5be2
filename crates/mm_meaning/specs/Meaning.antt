-- What structured code means for the thread that runs it while no other thread steps: a function of what the thread sees
-- before. Each loop makes at most a given number of turns.
use Rattle.std.specs.Prelude.{ℕ, zero, suc, ℤ, Bool, true, false, List}
use Rattle.mm_goto.specs.Value.{value_of, is_zero}
use Rattle.mm_goto.specs.declared.pure.Pure.{Pure}
use Rattle.mm_goto.specs.declared.program.Instr.{Instr}
use Rattle.mm_flow.specs.Flow.{Flow, Empty, Do, Then, When, Either, While, DoWhile, For, Body, Leave, Mark, Goto, Way, Behind, Next, Home}

-- what a thread sees: memory, its locals, and the values that its inputs will give, the next one first
pub record View : Type 0 where
  pub memory : List ℤ
  pub locals : List ℤ
  pub inputs : List ℤ

-- how code ends
pub data Outcome : Type 0 where
  -- at its end
  Done : View → Outcome
  -- by a break, a continue or a return that it does not catch
  Left : Way → View → Outcome
  -- at an assertion that does not hold, which has this number
  Failed : ℕ → Outcome
  -- nowhere: at an assumption that does not hold, at an access of no cell, at an input where none is left that is an int, or
  -- since a loop would make more turns
  Halted : Outcome
  -- at an instruction that waits for other threads or speaks to them, or at a goto
  Other : Outcome

-- one after another
abbrev pub then_do : Outcome → (View → Outcome) → Outcome
then_do (Done s) go = go s
then_do (Left w s) go = Left w s
then_do (Failed n) go = Failed n
then_do Halted go = Halted
then_do Other go = Other

-- behind the body of a loop, where go is the rest of the loop: continue goes to it, and break to the loop's end
abbrev pub again : Outcome → (View → Outcome) → Outcome
again (Done s) go = go s
again (Left Next s) go = go s
again (Left Behind s) go = Done s
again (Left Home s) go = Left Home s
again (Failed n) go = Failed n
again Halted go = Halted
again Other go = Other

-- behind the body of a function, which a return leads to
abbrev pub caught : Outcome → Outcome
caught (Done s) = Done s
caught (Left Home s) = Done s
caught (Left Behind s) = Left Behind s
caught (Left Next s) = Left Next s
caught (Failed n) = Failed n
caught Halted = Halted
caught Other = Other

-- the first where it is true, else the second
abbrev pub pick : {A : Type 0} → Bool → A → A → A
pick true a b = a
pick false a b = b

-- the first where the value is not 0, else the second
abbrev pub where_not_zero : ℤ → Outcome → Outcome → Outcome
where_not_zero z a b = pick (is_zero z) b a

-- at most so many turns of a loop, each of its test, its body and its step
abbrev pub while_turns : ℕ → (View → Outcome) → Pure → (View → Outcome) → (View → Outcome) → View → Outcome
while_turns zero test e body step s = Halted
while_turns (suc n) test e body step s = then_do (test s) (λ m. where_not_zero (value_of e m.locals)
    (again (body m) (λ b. then_do (step b) (while_turns n test e body step)))
    (Done m))

-- at most so many turns of a loop, each of its body and its test
abbrev pub do_turns : ℕ → (View → Outcome) → (View → Outcome) → Pure → View → Outcome
do_turns zero body test e s = Halted
do_turns (suc n) body test e s = again (body s) (λ b. then_do (test b) (λ m. where_not_zero (value_of e m.locals)
    (do_turns n body test e m)
    (Done m)))

-- what the code does where each loop makes at most n turns, and act is what one instruction does
abbrev pub meaning : (Instr → View → Outcome) → Flow → ℕ → View → Outcome
meaning act Empty n s = Done s
meaning act (Do at i) n s = act i s
meaning act (Then a b) n s = then_do (meaning act a n s) (meaning act b n)
meaning act (When at e a) n s = where_not_zero (value_of e s.locals) (meaning act a n s) (Done s)
meaning act (Either at e a b) n s = where_not_zero (value_of e s.locals) (meaning act a n s) (meaning act b n s)
meaning act (While at c e a) n s = while_turns n (meaning act c n) e (meaning act a n) Done s
meaning act (DoWhile at a c e) n s = do_turns n (meaning act a n) (meaning act c n) e s
meaning act (For at c e a j) n s = while_turns n (meaning act c n) e (meaning act a n) (meaning act j n) s
meaning act (Body names a) n s = caught (meaning act a n s)
meaning act (Leave at w) n s = Left w s
meaning act (Mark y) n s = Done s
meaning act (Goto at y) n s = Other
