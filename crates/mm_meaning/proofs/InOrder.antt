-- Statements one behind another stand one behind another.
use Rattle.std.proofs.Common.{arith, ◌≡◌, ℕ, ◌+◌, List, [], ◌∷◌, ◌++◌, subst, refl}
use Rattle.mm_goto.specs.declared.program.Instr.{Instr}
use Rattle.mm_tree.specs.declared.stmt.Stmt.{Stmt}
use Rattle.mm_flow.specs.Flow.{Ways, size}
use Rattle.mm_flow.specs.Statements.{Within, Known, stmt_code, body_code}
use Rattle.mm_meaning.specs.Standing.{Stands}

pub known_append : (xs ys : List Stmt) (w : Within) (k : Known) → (body_code (xs ++ ys) w k).known ≡ (body_code ys w (body_code xs w k).known).known
known_append [] ys w k = refl
known_append (x ∷ xs) ys w k = known_append xs ys w (stmt_code x w k).known

pub stands_append : (code : List Instr) (e : Ways) (xs ys : List Stmt) (w : Within) (k : Known) (p : ℕ) → Stands code e (body_code (xs ++ ys) w k).flow p → Stands code e (body_code xs w k).flow p × Stands code e (body_code ys w (body_code xs w k).known).flow (p + size (body_code xs w k).flow)
stands_append code e [] ys w k p h = (tt, subst (λ q. Stands code e (body_code ys w k).flow q) (let x : p ≡ p + 0 = omega arith in x) h)
stands_append code e (x ∷ xs) ys w k p h =
    let r = stands_append code e xs ys w (stmt_code x w k).known (p + size (stmt_code x w k).flow) h.1 in
    ((h.0, r.0), subst (λ q. Stands code e (body_code ys w (body_code xs w (stmt_code x w k).known).known).flow q) (let s : p + size (stmt_code x w k).flow + size (body_code xs w (stmt_code x w k).known).flow ≡ p + (size (stmt_code x w k).flow + size (body_code xs w (stmt_code x w k).known).flow) = omega arith in s) r.1)
