-- Where there is no room for a part of the code there is none for the whole.
use Rattle.std.proofs.Common.{arith, ◌≡◌, ℕ, ◌+◌, ◌<◌, List, ◌∷◌, length, drop, get_or, ◌∙◌, ap, sym, subst, Result, Ok, Err, IsErr, IsErrAnd, IfErr}
use Rattle.mm_tree.specs.declared.stmt.Stmt.{Stmt}
use Rattle.mm_flow.specs.declared.fault.Stop.{Stop}
use Rattle.mm_flow.specs.declared.fault.Stop.TheVariants.{Full, NoMemory}
use Rattle.mm_tree.specs.declared.stmt.Value.{Value}
use Rattle.mm_flow.specs.Expressions.{Aim, Val}
use Rattle.mm_flow.specs.Flow.{size}
use Rattle.mm_flow.specs.Statements.{Did, body_code, stmt_code, value_of}
use Rattle.mm_flow.specs.reading.Assembling.{Assembly, Context, aimed, count, doing, valued, within, WhenFull}
use Rattle.mm_flow.proofs.Grows.{emit_size}
use Rattle.mm_flat_stmt.specs.reading.Bodies.{Remains, value_at}
use Rattle.mm_flat_stmt.proofs.Order.{split_at}

pub full_stmt : (x : Context) (whole : Did) (ss : List Stmt) (i : ℕ) (s : Stmt) (old new : Assembly) (limit : ℕ) → i < length ss → s ≡ get_or ss i s
    → Remains x whole (doing x (body_code (drop i ss)) new) old new
    → limit < count new + size (doing x (stmt_code s) new).flow
    → limit < count old + size whole.flow
full_stmt x whole ss i s old new limit within is r h =
    let room : count old + size whole.flow ≡ count new + size (doing x (body_code (s ∷ drop (i + 1) ss)) new).flow =
    subst (λ ts. count old + size whole.flow ≡ count new + size (doing x (body_code ts) new).flow) (split_at ss i s within is) r.room in
    omega (arith, room, h)

when_full : {P Q : Type 0} (e : Stop) → (P → Q) → WhenFull e P → WhenFull e Q
when_full Full f p = f p
when_full NoMemory f p = tt

-- an error that is passed on is the same
pub passed_on : {A P Q : Type 0} (r : Result A Stop) (x : Stop) → IsErr r × IsErrAnd r (λ e. e ≡ x) → WhenFull x P → (P → Q) → IfErr r (λ e. WhenFull e Q)
passed_on (Ok a) x h g f = tt
passed_on {Q = Q} (Err e) x h g f = subst (λ (s : Stop). WhenFull s Q) (sym h.1) (when_full x f g)

-- a label takes no place
pub size_of_mark : {A : Type 0} (limit n k : ℕ) (r : Result A Stop) → IfErr r (λ e. WhenFull e (limit < n + k)) → IfErr r (λ e. WhenFull e (limit < n + (0 + k)))
size_of_mark limit n k (Ok a) h = tt
size_of_mark limit n k (Err e) h = when_full e (λ l. omega (arith, l)) h

aim_size : (x : Context) (aim : Aim) (a b : Assembly) → b ≡ aimed x aim a → count b ≡ count a + size aim.flow
aim_size x aim a b e = ap count e ∙ emit_size x.labels x.exits aim.flow a.made

-- the value behind the code before an access
abbrev pub value_behind : Context → Aim → Assembly → Value → Val
value_behind x aim a v = value_of (within x) a.known.names aim.next v

pub aim_full : (x : Context) (aim : Aim) (a b : Assembly) (v : Value) (e : Stop) → b ≡ aimed x aim a
    → WhenFull e (x.limit < count b + size (value_at x b v).flow)
    → WhenFull e (x.limit < count a + (size aim.flow + (size (value_behind x aim a v).flow + 1)))
aim_full x aim a b v e is h =
    let same : size (value_at x b v).flow ≡ size (value_behind x aim a v).flow = ap (λ (m : Assembly). size (value_at x m v).flow) is in
    when_full e (λ l. omega (arith, l, same, aim_size x aim a b is)) h

pub aim_count : (x : Context) (aim : Aim) (a b c : Assembly) (v : Value) → b ≡ aimed x aim a
    → count c ≡ count b + size (value_at x b v).flow
    → count c + 1 ≡ count a + (size aim.flow + (size (value_behind x aim a v).flow + 1))
aim_count x aim a b c v is h =
    let same : size (value_at x b v).flow ≡ size (value_behind x aim a v).flow = ap (λ (m : Assembly). size (value_at x m v).flow) is in
    omega (arith, h, same, aim_size x aim a b is)

pub count_valued : (x : Context) (v : Val) (a b : Assembly) → b ≡ valued x v a → count b ≡ count a + size v.flow
count_valued x v a b e = ap count e ∙ emit_size x.labels x.exits v.flow a.made
