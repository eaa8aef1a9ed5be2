-- The code of values and statements.
use Rattle.std.specs.Prelude.{ℕ, zero, suc, ◌+◌, ◌-◌, ◌*◌, nat_eq, Bool, true, false, if◌then◌else◌, List, [], ◌∷◌, ◌++◌, length, map, drop, codes, Option, Some, None}
use Rattle.std.specs.List.{starts_with, fold}
use Rattle.std.specs.Str.{bytes_eq}
use Rattle.mm_goto.specs.declared.ident.At.{At}
use Rattle.mm_goto.specs.declared.ident.Ident.{Ident}
use Rattle.mm_goto.specs.declared.pure.Pure.{Pure}
use Rattle.mm_goto.specs.declared.pure.Binary.{Binary}
use Rattle.mm_goto.specs.declared.program.Instr.TheVariants as instr
use Rattle.mm_goto.specs.Terms.{the_local, combined}
use Rattle.mm_tree.specs.declared.expr.Expr.{Expr}
use Rattle.mm_tree.specs.declared.expr.Node.{Node}
use Rattle.mm_tree.specs.declared.expr.Node.TheOpen as node
use Rattle.mm_tree.specs.declared.expr.Node.TheOpen.{Node-F}
use Rattle.mm_tree.specs.declared.stmt.Left.{Left}
use Rattle.mm_tree.specs.declared.stmt.LeftNode.{LeftNode}
use Rattle.mm_tree.specs.declared.stmt.LeftNode.TheVariants as left
use Rattle.mm_tree.specs.declared.stmt.Local.{Local}
use Rattle.mm_tree.specs.declared.stmt.Value.{Value}
use Rattle.mm_tree.specs.declared.stmt.Value.TheVariants as value
use Rattle.mm_tree.specs.declared.stmt.Stmt.{Stmt, fold-Stmt}
use Rattle.mm_tree.specs.declared.stmt.StmtNode.TheOpen as stmt
use Rattle.mm_tree.specs.declared.stmt.StmtNode.TheOpen.{StmtNode-F, Stmt-F}
use Rattle.mm_tree.specs.declared.item.Param.{Param}
use Rattle.mm_tree.specs.declared.item.Item.{Item}
use Rattle.mm_tree.specs.declared.item.Item.TheVariants as item
use Rattle.mm_tree.specs.declared.side.Side.{Side}
use Rattle.mm_tree.specs.declared.side.Side.TheVariants.{Source, Output}
use Rattle.mm_tree.specs.Trees.{node_of}
use Rattle.mm_flow.specs.declared.names.Named.{Named}
use Rattle.mm_flow.specs.declared.names.Parts.{Parts}
use Rattle.mm_flow.specs.declared.names.Seen.{Seen}
use Rattle.mm_flow.specs.Flow.{Flow, Empty, Do, Then, When, Either, While, DoWhile, For, Body, Leave, Mark, Goto, Behind, Next, Home}
use Rattle.mm_flow.specs.Scopes.{named, local_of, spot_of, index_of, thread_in}
use Rattle.mm_flow.specs.Text.{labels_in}
use Rattle.mm_flow.specs.Expressions.{Val, no_code, zero_value, one_value, Scope, Aim, the_spot, cell, indexed, followed, division_check, expr_value, values}

-- what is known before a statement: the locals by their names, the next fresh local, and what stands before it
pub record Known : Type 0 where
  pub names : List Named
  pub next : ℕ
  pub seen : Seen

pub record Did : Type 0 where
  pub flow : Flow
  pub known : Known

-- a function that is called, with the number of assertions that stand before it
pub record Function : Type 0 where
  pub params : List Param
  pub body : List Stmt
  pub asserts : ℕ

-- what a statement stands in: what names speak of, the items with the functions, the code of a called function's body by the
-- names of its parameters, the next fresh local and the local for what it returns, and that local here
pub record Within : Type 0 where
  pub parts : Parts
  pub items : List Item
  pub inline : Function → List Named → ℕ → ℕ → Did
  pub ret : Option ℕ

abbrev pub Doing : Type 0
Doing = Within → Known → Did

abbrev pub scope : Within → List Named → Scope
scope w names = record { spots = w.parts.spots; names = names }

abbrev pub reads : Within → List Named → Expr → ℕ → Val
reads w names e n = expr_value e (scope w names) n

abbrev pub from : Known → ℕ → Known
from k n = record { names = k.names; next = n; seen = k.seen }

-- ---- functions

abbrev pub is_function : Ident → Item → Bool
is_function f (item.Globals gs) = false
is_function f (item.Mutexes ws) = false
is_function f (item.Threads ws) = false
is_function f (item.InputDecl at x) = false
is_function f (item.Function at gives x ps ss) = bytes_eq x f

abbrev pub as_function : Item → ℕ → Option Function
as_function (item.Globals gs) n = None
as_function (item.Mutexes ws) n = None
as_function (item.Threads ws) n = None
as_function (item.InputDecl at x) n = None
as_function (item.Function at gives x ps ss) n = Some (record { params = ps; body = ss; asserts = n })

-- the function of a name, where so many assertions stand before each item
abbrev pub function_of : List Item → List ℕ → Ident → Option Function
function_of [] ns f = None
function_of (i ∷ is) [] f = None
function_of (i ∷ is) (n ∷ ns) f = if is_function f i then as_function i n else function_of is ns f

abbrev pub bound : List Param → ℕ → List Named
bound [] n = []
bound (p ∷ ps) n = named p.name.name n ∷ bound ps (n + 1)

-- ---- values

-- the name is of a function that gives any int
abbrev pub is_input : Ident → Bool
is_input f = starts_with nat_eq f (codes "nondet_")

abbrev pub input : At → ℕ → Val
input at n = record { flow = Do at (instr.Input n); pure = the_local n; next = n + 1 }

abbrev pub sets : At → List Pure → ℕ → Flow
sets at [] n = Empty
sets at (e ∷ es) n = Then (Do at (instr.Set n e)) (sets at es (n + 1))

abbrev pub called : Within → At → List Expr → List Named → ℕ → Function → Val
called w at es names n f =
    let ret = n + length f.params in
    let args = values (scope w names) es (ret + 1) in
    let body = w.inline f (bound f.params n) args.next ret in
    record {
      flow = Then args.flow (Then (sets at args.pures n) (Then (Do at (instr.Set ret zero_value)) (Body (labels_in f.body) body.flow)));
      pure = the_local ret;
      next = body.known.next;
    }

abbrev pub call_of : Within → At → List Expr → List Named → ℕ → Option Function → Val
call_of w at es names n (Some f) = called w at es names n f
call_of w at es names n None = no_code zero_value n

abbrev pub call_value : Within → At → Ident → List Expr → List Named → ℕ → Bool → Val
call_value w at f es names n true = input at n
call_value w at f es names n false = call_of w at es names n (function_of w.items w.parts.asserts f)

-- what a locked instruction accesses, by its first argument
abbrev pub aim_of : Scope → At → Expr → Node-F Node Expr → ℕ → Aim
aim_of s at p (node.AddrName x) n = cell (the_spot (spot_of s.spots x.name)) n
aim_of s at p (node.AddrIndex x e) n = indexed at (the_spot (spot_of s.spots x.name)) (expr_value e s n)
aim_of s at p other n = followed at (expr_value p s n)

abbrev pub aim_at : Scope → At → Expr → ℕ → Aim
aim_at s at p n = aim_of s at p (node_of p) n

abbrev pub added : At → Aim → (ℕ → Val) → Val
added at a read =
    let v = read a.next in
    let t = v.next in
    record { flow = Then a.flow (Then v.flow (Do at (instr.Add t a.target v.pure))); pure = the_local t; next = t + 1 }

abbrev pub swapped : At → Aim → (ℕ → Val) → (ℕ → Val) → Val
swapped at a read other =
    let v = read a.next in
    let u = other v.next in
    let t = u.next in
    record {
      flow = Then a.flow (Then v.flow (Then u.flow (Do at (instr.Cas t a.target v.pure u.pure))));
      pure = the_local t;
      next = t + 1;
    }

abbrev pub value_of : Within → List Named → ℕ → Value → Val
value_of w names n (value.Plain e) = reads w names e n
value_of w names n (value.Call at f es) = call_value w at f es names n (is_input f)
value_of w names n (value.FetchAdd at p e) = added at (aim_at (scope w names) at p n) (reads w names e)
value_of w names n (value.CompareSwap at p e f) = swapped at (aim_at (scope w names) at p n) (reads w names e) (reads w names f)

-- ---- declarations and assignments

abbrev pub first_value : Within → List Named → ℕ → Option Value → Val
first_value w names n None = no_code zero_value n
first_value w names n (Some v) = value_of w names n v

abbrev pub declared_one : Within → Known → Local → Did
declared_one w k l =
    let v = first_value w k.names (k.next + 1) l.value in
    record {
      flow = Then v.flow (Do l.at (instr.Set k.next v.pure));
      known = record { names = k.names ++ named l.name k.next ∷ []; next = v.next; seen = k.seen };
    }

abbrev pub declared : Within → List Local → Known → Did
declared w [] k = record { flow = Empty; known = k }
declared w (l ∷ ls) k =
    let a = declared_one w k l in
    let b = declared w ls a.known in
    record { flow = Then a.flow b.flow; known = b.known }

-- the local that a left side names
abbrev pub local_left : List Named → LeftNode → Option ℕ
local_left names (left.Name x) = local_of names x
local_left names (left.Index x e) = None
local_left names (left.Deref e) = None

-- what a left side that names no local accesses
abbrev pub left_aim : Scope → At → LeftNode → ℕ → Aim
left_aim s at (left.Name x) n = cell (the_spot (spot_of s.spots x)) n
left_aim s at (left.Index x e) n = indexed at (the_spot (spot_of s.spots x)) (expr_value e s n)
left_aim s at (left.Deref e) n = followed at (expr_value e s n)

abbrev pub set_to : At → ℕ → Val → Val
set_to at l v = record { flow = Then v.flow (Do at (instr.Set l v.pure)); pure = v.pure; next = v.next }

abbrev pub stored : At → Aim → (ℕ → Val) → Val
stored at a read =
    let v = read a.next in
    record { flow = Then a.flow (Then v.flow (Do at (instr.Store a.target v.pure))); pure = v.pure; next = v.next }

abbrev pub assigned_to : Within → List Named → ℕ → Left → Value → Option ℕ → Val
assigned_to w names n l v (Some t) = set_to l.at t (value_of w names n v)
assigned_to w names n l v None = stored l.at (left_aim (scope w names) l.at l.node n) (λ m. value_of w names m v)

unfoldable pub assigned : Within → List Named → ℕ → Left → Value → Val
assigned w names n l v = assigned_to w names n l v (local_left names l.node)

-- l op= e for a local
abbrev pub set_by : At → ℕ → Binary → Val → Val
set_by at l op v = record {
  flow = Then v.flow (Then (division_check op at v.pure) (Do at (instr.Set l (combined op (the_local l) v.pure))));
  pure = v.pure;
  next = v.next;
}

-- the target op= e
abbrev pub stored_by : At → Aim → Binary → (ℕ → Val) → Val
stored_by at a op read =
    let t = a.next in
    let v = read (t + 1) in
    record {
      flow = Then a.flow (Then (Do at (instr.Load t a.target)) (Then v.flow (Then (division_check op at v.pure)
          (Do at (instr.Store a.target (combined op (the_local t) v.pure))))));
      pure = v.pure;
      next = v.next;
    }

abbrev pub updated_to : Within → List Named → ℕ → Left → Binary → Expr → Option ℕ → Val
updated_to w names n l op e (Some t) = set_by l.at t op (reads w names e n)
updated_to w names n l op e None = stored_by l.at (left_aim (scope w names) l.at l.node n) op (reads w names e)

abbrev pub updated : Within → List Named → ℕ → Left → Binary → Expr → Val
updated w names n l op e = updated_to w names n l op e (local_left names l.node)

-- ---- other statements

abbrev pub nothing : Known → Did
nothing k = record { flow = Empty; known = k }

abbrev pub just : Flow → Known → Did
just f k = record { flow = f; known = k }

-- the value is let go
abbrev pub effect : Known → Val → Did
effect k v = record { flow = v.flow; known = from k v.next }

abbrev pub set_ret : At → Option ℕ → Pure → Flow
set_ret at None e = Empty
set_ret at (Some l) e = Do at (instr.Set l e)

abbrev pub returned : Within → At → List Named → ℕ → Option Value → Val
returned w at names n None = record { flow = Leave at Home; pure = zero_value; next = n }
returned w at names n (Some v) =
    let a = value_of w names n v in
    record { flow = Then a.flow (Then (set_ret at w.ret a.pure) (Leave at Home)); pure = a.pure; next = a.next }

-- the number at the end of "assertion n"
abbrev pub digit_step : ℕ → ℕ → ℕ
digit_step n d = n * 10 + (d - 48)

abbrev pub stated : Option Ident → ℕ
stated None = 0
stated (Some text) = fold digit_step 0 (drop 10 text)

-- the assertions of a source are numbered by the order of the text, those of an output by their texts
abbrev pub assert_number : Side → ℕ → Option Ident → ℕ
assert_number Source before text = before + 1
assert_number Output before text = stated text

abbrev pub asserted : Within → At → Expr → Option Ident → Known → Did
asserted w at e text k =
    let v = reads w k.names e k.next in
    record {
      flow = Then v.flow (Do at (instr.Assert v.pure (assert_number w.parts.side k.seen.asserts text)));
      known = record { names = k.names; next = v.next; seen = record { asserts = k.seen.asserts + 1; starts = k.seen.starts } };
    }

abbrev pub assumed : Within → At → Expr → Known → Did
assumed w at e k =
    let v = reads w k.names e k.next in
    record { flow = Then v.flow (Do at (instr.Assume v.pure)); known = from k v.next }

abbrev pub or_0 : Option ℕ → ℕ
or_0 (Some n) = n
or_0 None = 0

-- the threads have the numbers of their creates, from 1
abbrev pub started : At → Known → Did
started at k = record {
  flow = Do at (instr.Start (k.seen.starts + 1));
  known = record { names = k.names; next = k.next; seen = record { asserts = k.seen.asserts; starts = k.seen.starts + 1 } };
}

-- statements in order
abbrev pub in_order : List Doing → Doing
in_order [] w k = nothing k
in_order (d ∷ ds) w k =
    let a = d w k in
    let b = in_order ds w a.known in
    record { flow = Then a.flow b.flow; known = b.known }

-- a statement whose names end with it
abbrev pub inner : Doing → Doing
inner d w k =
    let a = d w k in
    record { flow = a.flow; known = record { names = k.names; next = a.known.next; seen = a.known.seen } }

abbrev pub if_code : At → Expr → Doing → Doing
if_code at c d w k =
    let v = reads w k.names c k.next in
    let a = inner d w (from k v.next) in
    record { flow = Then v.flow (When at v.pure a.flow); known = a.known }

abbrev pub choice_code : At → Expr → Doing → Doing → Doing
choice_code at c d e w k =
    let v = reads w k.names c k.next in
    let a = inner d w (from k v.next) in
    let b = inner e w a.known in
    record { flow = Then v.flow (Either at v.pure a.flow b.flow); known = b.known }

abbrev pub if_or_choice : At → Expr → Doing → Option Doing → Doing
if_or_choice at c d None = if_code at c d
if_or_choice at c d (Some e) = choice_code at c d e

unfoldable pub while_code : At → Expr → Doing → Doing
while_code at c d w k =
    let v = reads w k.names c k.next in
    let a = inner d w (from k v.next) in
    record { flow = While at v.flow v.pure a.flow; known = a.known }

abbrev pub do_code : At → Doing → Expr → Doing
do_code at d c w k =
    let a = inner d w k in
    let v = reads w k.names c a.known.next in
    record { flow = DoWhile at a.flow v.flow v.pure; known = from a.known v.next }

abbrev pub optional : Option Doing → Doing
optional None w k = nothing k
optional (Some d) w k = d w k

-- a condition that is left out is 1
abbrev pub condition : Scope → Option Expr → ℕ → Val
condition s None n = no_code one_value n
condition s (Some c) n = expr_value c s n

-- the loop behind the first part of a for
abbrev pub turns : At → Option Expr → Option Doing → Doing → Doing
turns at c j d w k =
    let v = condition (scope w k.names) c k.next in
    let a = inner d w (from k v.next) in
    let b = inner (optional j) w a.known in
    record { flow = For at v.flow v.pure a.flow b.flow; known = b.known }

unfoldable pub for_code : At → Option Doing → Option Expr → Option Doing → Doing → Doing
for_code at i c j d w k =
    let a = optional i w k in
    let b = turns at c j d w a.known in
    record { flow = Then a.flow b.flow; known = b.known }

abbrev pub labelled : Ident → Doing → Doing
labelled x d w k =
    let a = d w k in
    record { flow = Then (Mark x) a.flow; known = a.known }

abbrev pub stmt_step : StmtNode-F (At → Doing) Doing → At → Doing
stmt_step stmt.Empty at w k = nothing k
stmt_step (stmt.Block ds) at w k = inner (in_order ds) w k
stmt_step (stmt.Declare ls) at w k = declared w ls k
stmt_step (stmt.DeclareThread xs) at w k = nothing k
stmt_step (stmt.Assign l v) at w k = effect k (assigned w k.names k.next l v)
stmt_step (stmt.Update l op e) at w k = effect k (updated w k.names k.next l op e)
stmt_step (stmt.Do v) at w k = effect k (value_of w k.names k.next v)
stmt_step (stmt.If c d e) at w k = if_or_choice at c d e w k
stmt_step (stmt.While c d) at w k = while_code at c d w k
stmt_step (stmt.DoWhile d c) at w k = do_code at d c w k
stmt_step (stmt.For i c j d) at w k = inner (for_code at i c j d) w k
stmt_step stmt.Break at w k = just (Leave at Behind) k
stmt_step stmt.Continue at w k = just (Leave at Next) k
stmt_step (stmt.Return v) at w k = effect k (returned w at k.names k.next v)
stmt_step (stmt.Assert e text) at w k = asserted w at e text k
stmt_step (stmt.Assume e) at w k = assumed w at e k
stmt_step stmt.Fence at w k = just (Do at instr.Fence) k
stmt_step (stmt.Lock x) at w k = just (Do at (instr.Lock (or_0 (index_of w.parts.mutexes x.name)))) k
stmt_step (stmt.Unlock x) at w k = just (Do at (instr.Unlock (or_0 (index_of w.parts.mutexes x.name)))) k
stmt_step (stmt.Start x f) at w k = started at k
stmt_step (stmt.Join x) at w k = just (Do at (instr.Join (or_0 (thread_in w.parts.starts k.seen.starts x.name)))) k
stmt_step (stmt.Goto x) at w k = just (Goto at x.name) k
stmt_step (stmt.Label x d) at w k = labelled x.name d w k
stmt_step stmt.AtomBegin at w k = just (Do at instr.AtomBegin) k
stmt_step stmt.AtomEnd at w k = just (Do at instr.AtomEnd) k

abbrev pub placed_step : Stmt-F (At → Doing) Doing → Doing
placed_step layer = layer.node layer.at

unfoldable pub stmt_code : Stmt → Doing
stmt_code s = fold-Stmt (At → Doing) Doing stmt_step placed_step s

abbrev pub body_code : List Stmt → Doing
body_code ss = in_order (map stmt_code ss)

-- the code of a called function's body, where calls nest at most so many deep
abbrev pub inline_at : Parts → List Item → ℕ → Function → List Named → ℕ → ℕ → Did
inline_at parts items zero f names n ret = nothing (record { names = names; next = n; seen = record { asserts = f.asserts; starts = 0 } })
inline_at parts items (suc d) f names n ret =
    body_code f.body
    (record { parts = parts; items = items; inline = inline_at parts items d; ret = Some ret })
    (record { names = names; next = n; seen = record { asserts = f.asserts; starts = 0 } })
