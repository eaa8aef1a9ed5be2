-- Marking what is reached through calls.
use Rattle.std.proofs.Common.{arith, ◌≡◌, sym, ap, subst, ℕ, ◌<◌, ◌≤◌, Bool, true, false, List, length, get_or, set, replicate, Contains, sum_by}
use Rattle.std.proofs.lemmas.Grind.{common_steps}
use Rattle.std.proofs.lemmas.List.Sums.{sum_by-set}
use Rattle.mm_scope.specs.declared.notes.Call.{Call}
use Rattle.mm_names.specs.Calls.{Reaches, itself, through}
use Rattle.mm_names.specs.reading.Marks.{AreReached, IsClosed, AreClosed, IsMarkedBy, unmarked, Descends, AllDescend}

reaches-on : {calls : List Call} {f g h : ℕ} → Reaches calls f g → Reaches calls g h → Reaches calls f h
reaches-on itself s = s
reaches-on (through c is r) s = through c is (reaches-on r s)

-- a call behind those through which a function is reached
pub reaches-call : {calls : List Call} {f : ℕ} (c : Call) → Contains calls c → Reaches calls f c.caller → Reaches calls f c.callee
reaches-call c is r = reaches-on r (through c is itself)

-- fewer are unmarked behind a mark
pub fewer : {c : Call} {old new : List Bool} → c.callee < length old → IsMarkedBy c old new → sum_by unmarked new < sum_by unmarked old
fewer {c} {old} {new} in_range is =
    let e = sum_by-set unmarked old c.callee true false in_range in
    let u : unmarked (get_or old c.callee false) ≡ 1 = ap unmarked is.callee in
    let s : sum_by unmarked new ≡ sum_by unmarked (set old c.callee true) = ap (sum_by unmarked) is.new_is in
    omega arith

-- what is marked behind a mark is reached too
pub reached-more : {calls : List Call} {from : ℕ} {c : Call} {old new : List Bool} → AreReached calls from old → Contains calls c → c.callee < length old → IsMarkedBy c old new → AreReached calls from new
reached-more {calls} {from} {c} {old} {new} reached in_calls in_range is = record { each = λ k m. at k m }
  where
    at : (k : ℕ) → get_or new k false ≡ true → Reaches calls from k
    at k m = grind (arith, common_steps, reached.each, reaches-call c in_calls (reached.each c.caller is.caller), is.new_is)

pub kept : {c : Call} {old new : List Bool} (k : ℕ) → c.callee < length old → IsMarkedBy c old new → get_or old k false ≡ true → get_or new k false ≡ true
kept k in_range is m = grind (arith, common_steps, is.new_is)

-- what is closed and has the start marked has all marked that is reached
pub all_marked : {calls : List Call} (marks : List Bool) {f g : ℕ} → AreClosed marks calls → Reaches calls f g → get_or marks f false ≡ true → get_or marks g false ≡ true
all_marked marks closed itself m = m
all_marked {calls} marks closed (through c is r) m = all_marked marks closed r (here m)
  where
    here : IsClosed marks c
    here = subst (IsClosed marks) is.2 ((closed.each is.0 is.1).it c)

pub start_reached : {calls : List Call} (marks : List Bool) (n from : ℕ) → marks ≡ replicate n false → AreReached calls from (set marks from true)
start_reached {calls} marks n from is = record { each = λ k m. at k m }
  where
    at : (k : ℕ) → get_or (set marks from true) k false ≡ true → Reaches calls from k
    at k m = let e : k ≡ from = grind (arith, common_steps, is) in subst (λ x. Reaches calls from x) (sym e) itself

pub ruleset in_search = (all_marked, start_reached)

-- ---- ranks

call_descends : {calls : List Call} {limit : ℕ} {c : Call} (ranks : List ℕ) → AllDescend limit ranks calls → Contains calls c → Descends limit ranks c
call_descends {calls} {limit} {c} ranks descend is = subst (Descends limit ranks) is.2 ((descend.each is.0 is.1).it c)

-- below the limit what is reached is not higher
no_higher : {calls : List Call} {limit : ℕ} (ranks : List ℕ) {f g : ℕ} → AllDescend limit ranks calls → Reaches calls f g → get_or ranks f 0 < limit → get_or ranks g 0 ≤ get_or ranks f 0
no_higher ranks descend itself low = omega arith
no_higher {calls} {limit} ranks descend (through c is r) low =
    let down : get_or ranks c.callee 0 < get_or ranks c.caller 0 = call_descends ranks descend is low in
    let behind = no_higher ranks descend r (omega (arith, down, low)) in
    omega (arith, down, behind)

pub not_recursive : {calls : List Call} {limit : ℕ} {c : Call} (ranks : List ℕ) → AllDescend limit ranks calls → Contains calls c → get_or ranks c.callee 0 < limit → Reaches calls c.callee c.caller → ⊥
not_recursive {calls} {limit} {c} ranks descend is low r =
    let back : get_or ranks c.caller 0 ≤ get_or ranks c.callee 0 = no_higher ranks descend r low in
    let down : get_or ranks c.callee 0 < get_or ranks c.caller 0 = call_descends ranks descend is (omega (arith, back, low)) in
    omega (arith, back, down)
