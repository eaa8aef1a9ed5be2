-- The code of a statement that is accepted stands in its thread, and the names behind it stand for its locals.
use Rattle.std.proofs.Common.{arith, ◌≡◌, ℕ, ℤ, ◌<◌, ◌≤◌, ◌^◌, Bool, true, false, if◌then◌else◌, List, [], ◌∷◌, ◌++◌, length, refl, ◌∙◌, sym, ap, subst, Option, Some, None}
use Rattle.std.specs.List.{AllByRecursion}
use Rattle.std.specs.Str.{bytes_eq}
use Rattle.std.proofs.lemmas.List.{append-nil}
use Rattle.mm_goto.specs.declared.ident.Ident.{Ident}
use Rattle.mm_goto.specs.declared.program.Instr.{Instr}
use Rattle.mm_goto.specs.declared.program.Thread.{Thread}
use Rattle.mm_goto.specs.Kinds.{kinds_of}
use Rattle.mm_goto.specs.Listing.{Listing}
use Rattle.mm_goto.specs.Sourcelike.{is_start_or_join}
use Rattle.mm_goto.specs.Valid.{IsInt, IsPureIn, IsInstrIn}
use Rattle.mm_tree.specs.declared.expr.Expr.{Expr}
use Rattle.mm_tree.specs.declared.item.Gives.{Gives}
use Rattle.mm_tree.specs.declared.item.Gives.TheVariants as gives
use Rattle.mm_tree.specs.declared.item.Item.{Item}
use Rattle.mm_flow.specs.declared.names.Named.{Named}
use Rattle.mm_flow.specs.declared.names.Spot.{Spot}
use Rattle.mm_flow.specs.Expressions.{Val}
use Rattle.mm_flow.specs.Flow.{Flow}
use Rattle.mm_flow.specs.Scopes.{named, local_of}
use Rattle.mm_flow.specs.Statements.{Known, Did, Doing, Within, declared, reads, scope}
use Rattle.mm_scope.specs.declared.around.Around.{Around}
use Rattle.mm_scope.specs.declared.operand.Operand.{Operand}
use Rattle.mm_scope.specs.declared.table.Meaning.{Meaning}
use Rattle.mm_scope.specs.declared.table.Meaning.TheVariants as meaning
use Rattle.mm_scope.specs.Declarations.{meaning_of_local}
use Rattle.mm_scope.specs.Expressions.{judged_expr}
use Rattle.mm_scope.specs.Notes.{Note}
use Rattle.mm_scope.specs.Scopes.{Names, Named as NamedAs, named_as, found}
use Rattle.mm_scope.specs.Steps.{Said, noting}
use Rattle.mm_scope.specs.Statements.{Placed}
use Rattle.mm_sourcelike.specs.Shapes.{Shape}
use Rattle.mm_sourcelike.proofs.Evaluating.{IsStepIn, FlowIn}
use Rattle.mm_sourcelike.proofs.Judging.{typed_of}
use Rattle.mm_sourcelike.proofs.Laying.{Each, weaker}
use Rattle.mm_sourcelike.proofs.Lengthening.{Lengthens}
use Rattle.mm_sourcelike.proofs.Scoping.{NoFault, Stands, Sees, AreLocals, Reads, found_push, local_push, same_some}
use Rattle.mm_sourcelike.proofs.TypedExpressions.{FitsFlow, FitsTest, FitsVal, expr_typed}
use Rattle.mm_sourcelike.proofs.TypedNames.{GlobalsFit, SeesTypes, types_nil}
use Rattle.mm_sourcelike.proofs.TypedValues.{TypedCalls}
use Rattle.mm_sourcelike.proofs.Typing.{Typing, still, over}
use Rattle.mm_sourcelike.proofs.Valuing.{IsGood}

-- there is room for what is known behind a statement
pub record HasRoom (p : Listing) (t : Thread) (outermost : Bool) (k : Known) : Type 0 where
  pub next : k.next ≤ t.locals
  pub asserts : k.seen.asserts < 2 ^ 32
  pub starts : outermost ≡ true → k.seen.starts < length p.threads

-- only in the outermost block threads are started and waited for
abbrev pub IsInstrAt : Listing → Thread → Bool → Instr → Type 0
IsInstrAt p t outermost i = IsInstrIn p t i × (outermost ≡ false → is_start_or_join i ≡ false)

abbrev pub FlowAt : Listing → Thread → Bool → Flow → Type 0
FlowAt p t outermost f = Each (IsInstrAt p t outermost) (IsPureIn p t) f

-- the local for what a function gives has its type
abbrev pub RetFits : (ℕ → Bool) → Option ℕ → Gives → Type 0
RetFits q None g = Unit {0}
RetFits q (Some l) gives.Int = q l ≡ false
RetFits q (Some l) gives.Pointer = q l ≡ true
RetFits q (Some l) gives.Nothing = q l ≡ false
RetFits q (Some l) gives.Thread = ⊥

-- where globals have cells of their types and the code of called functions has types, there are types for the fresh locals
abbrev pub FlowTyped : Listing → List Item → Within → Around → Names → Known → Flow → ℕ → Type 0
FlowTyped p items w a names k f next =
    GlobalsFit p items w.parts.spots → TypedCalls p items w → Typing k.next next (λ q. RetFits q w.ret a.gives → SeesTypes q names.locals k.names → FitsFlow p q f)

-- under which the names behind have their types too
abbrev pub DidTyped : Listing → List Item → Within → Around → Names → Known → Said → Did → Type 0
DidTyped p items w a names k said d =
    GlobalsFit p items w.parts.spots → TypedCalls p items w
    → Typing k.next d.known.next (λ q. RetFits q w.ret a.gives → SeesTypes q names.locals k.names → FitsFlow p q d.flow × SeesTypes q (names.locals ++ said.declared) d.known.names)

pub record Done (p : Listing) (t : Thread) (items : List Item) (w : Within) (a : Around) (names : Names) (k : Known) (said : Said) (d : Did) : Type 0 where
  pub flow : FlowAt p t a.outermost d.flow
  pub starts : a.outermost ≡ false → d.known.seen.starts ≡ k.seen.starts
  pub sees : Sees (names.locals ++ said.declared) d.known.names
  pub thread : AreLocals t d.known.names
  pub typed : DidTyped p items w a names k said d

-- a statement is accepted, its numbers are ints, its declarations stand where the grammar has them and there is room
pub record Accepted (p : Listing) (t : Thread) (items : List Item) (s : Placed) (d : Doing) (zs : List ℤ) (is_scoped : Bool) (a : Around) (names : Names) (w : Within) (k : Known) : Type 0 where
  pub good : IsGood p t items w
  pub side : a.side ≡ w.parts.side
  pub reads : Reads p t items w.parts.spots k.names names
  pub ints : AllByRecursion IsInt zs
  pub scoped : is_scoped ≡ true
  pub fine : NoFault (s a names).notes
  pub room : HasRoom p t a.outermost (d w k).known

abbrev pub Does : Listing → Thread → List Item → Placed → Doing → List ℤ → Bool → Type 0
Does p t items s d zs b = (a : Around) (names : Names) (w : Within) (k : Known) → Accepted p t items s d zs b a names w k → Done p t items w a names k (s a names) (d w k)

-- what is said of a statement and what is done by it
pub record Agrees (p : Listing) (t : Thread) (items : List Item) (s : Placed) (d : Doing) (zs : List ℤ) (shape : Shape) : Type 0 where
  pub quiet : shape.declares ≡ false → shape.is_scoped ≡ true → (a : Around) (names : Names) → (s a names).declared ≡ []
  pub does : Does p t items s d zs shape.is_scoped

-- ---- names that are seen

pub sees_nil : (locals : List NamedAs) (ns : List Named) → Sees locals ns → Sees (locals ++ []) ns
sees_nil locals ns h = subst (λ (ls : List NamedAs). Sees ls ns) (sym (append-nil locals)) h

pub reads_with : (p : Listing) (t : Thread) (items : List Item) (spots : List Spot) (ns ms : List Named) (names : Names) (declared : List NamedAs) → Reads p t items spots ns names → Sees (names.locals ++ declared) ms → AreLocals t ms → Reads p t items spots ms (record names { locals = names.locals ++ declared })
reads_with p t items spots ns ms names declared r s l = record { few = r.few; rows = r.rows; sees = s; locals = l; globals = r.globals }

pub reads_nil : (p : Listing) (t : Thread) (items : List Item) (spots : List Spot) (ns : List Named) (names : Names) → Reads p t items spots ns names → Reads p t items spots ns (record names { locals = names.locals ++ [] })
reads_nil p t items spots ns names r = reads_with p t items spots ns ns names [] r (sees_nil names.locals ns r.sees) r.locals

-- a name that is no variable is declared
abbrev pub IsNoVariable : Meaning → Type 0
IsNoVariable m = (ns : List Named) (x : Ident) → Stands ns x m

chosen_meaning : (b : Bool) (ns : List Named) (m : Meaning) (old : Option Meaning) (y : Ident) (q : Meaning) → Stands ns y m → ((r : Meaning) → old ≡ Some r → Stands ns y r) → (if b then Some m else old) ≡ Some q → Stands ns y q
chosen_meaning true ns m old y q h g e = subst (Stands ns y) (same_some m q e) h
chosen_meaning false ns m old y q h g e = g q e

pub sees_thread : (locals : List NamedAs) (ns : List Named) (x : Ident) (m : Meaning) → IsNoVariable m → Sees locals ns → Sees (locals ++ named_as x m ∷ []) ns
sees_thread locals ns x m v h = record { each = λ y q e. chosen_meaning (bytes_eq x y) ns m (found locals y) y q (v ns y) (h.each y) (sym (found_push locals x m y) ∙ e) }

-- a variable is declared, and its local too
more_locals : (b : Bool) (ns : List Named) (x y : Ident) (l : ℕ) (m : Meaning) → bytes_eq x y ≡ b → Stands ns y m → Stands (ns ++ named x l ∷ []) y m
more_locals b ns x y l meaning.Int e h = record { local = picked b l h.local; is = local_push ns x l y ∙ by b e }
  where
    picked : Bool → ℕ → ℕ → ℕ
    picked true i j = i
    picked false i j = j

    by : (c : Bool) → bytes_eq x y ≡ c → (if bytes_eq x y then Some l else local_of ns y) ≡ Some (picked c l h.local)
    by true q = ap (λ d. if d then Some l else local_of ns y) q
    by false q = ap (λ d. if d then Some l else local_of ns y) q ∙ h.is
more_locals b ns x y l meaning.Pointer e h = record { local = picked b l h.local; is = local_push ns x l y ∙ by b e }
  where
    picked : Bool → ℕ → ℕ → ℕ
    picked true i j = i
    picked false i j = j

    by : (c : Bool) → bytes_eq x y ≡ c → (if bytes_eq x y then Some l else local_of ns y) ≡ Some (picked c l h.local)
    by true q = ap (λ d. if d then Some l else local_of ns y) q
    by false q = ap (λ d. if d then Some l else local_of ns y) q ∙ h.is
more_locals b ns x y l meaning.Thread e h = tt
more_locals b ns x y l meaning.Handed e h = tt
more_locals b ns x y l meaning.Unready e h = tt
more_locals b ns x y l meaning.Shared e h = h
more_locals b ns x y l (meaning.Array n) e h = h
more_locals b ns x y l meaning.Mutex e h = h
more_locals b ns x y l meaning.SharedThread e h = h
more_locals b ns x y l (meaning.Function k) e h = h
more_locals b ns x y l (meaning.Ahead k) e h = h
more_locals b ns x y l meaning.Input e h = h
more_locals b ns x y l meaning.Label e h = h

-- a local name stands for a local, whichever type it has
pub data IsVariable : Meaning → Type 0 where
  int : IsVariable meaning.Int
  pointer : IsVariable meaning.Pointer

pub sees_local : (locals : List NamedAs) (ns : List Named) (x : Ident) (l : ℕ) (m : Meaning) → ((y : Ident) → bytes_eq x y ≡ true → Stands (ns ++ named x l ∷ []) y m) → Sees locals ns → Sees (locals ++ named_as x m ∷ []) (ns ++ named x l ∷ [])
sees_local locals ns x l m v h = record { each = λ y q e. by y (bytes_eq x y) refl q (sym (found_push locals x m y) ∙ e) }
  where
    by : (y : Ident) (b : Bool) → bytes_eq x y ≡ b → (q : Meaning) → (if bytes_eq x y then Some m else found locals y) ≡ Some q → Stands (ns ++ named x l ∷ []) y q
    by y true e q f = subst (Stands (ns ++ named x l ∷ []) y) (same_some m q (sym (ap (λ d. if d then Some m else found locals y) e) ∙ f)) (v y e)
    by y false e q f = more_locals false ns x y l q e (h.each y q (sym (ap (λ d. if d then Some m else found locals y) e) ∙ f))

pub locals_push : (t : Thread) (ns : List Named) (x : Ident) (l : ℕ) → l < t.locals → AreLocals t ns → AreLocals t (ns ++ named x l ∷ [])
locals_push t ns x l below h = record { each = λ y m e. by y (bytes_eq x y) m (sym (local_push ns x l y) ∙ e) }
  where
    by : (y : Ident) (b : Bool) (m : ℕ) → (if b then Some l else local_of ns y) ≡ Some m → m < t.locals
    by y true m e = subst (λ n. n < t.locals) (same_some l m e) below
    by y false m e = h.each y m e

-- the name that was declared stands for its local
pub stands_for : (ns : List Named) (x : Ident) (l : ℕ) (pointer : Bool) (y : Ident) → bytes_eq x y ≡ true → Stands (ns ++ named x l ∷ []) y (meaning_of_local pointer)
stands_for ns x l true y e = record { local = l; is = local_push ns x l y ∙ ap (λ d. if d then Some l else local_of ns y) e }
stands_for ns x l false y e = record { local = l; is = local_push ns x l y ∙ ap (λ d. if d then Some l else local_of ns y) e }

-- ---- flows

pub at_once : (p : Listing) (t : Thread) (b : Bool) (f : Flow) → FlowIn p t f → FlowAt p t b f
at_once p t b f h = weaker (IsStepIn p t) (IsInstrAt p t b) (IsPureIn p t) (IsPureIn p t) (λ i g. (g.0, λ e. g.1)) (λ e g. g) f h

-- what stands further inside starts nothing
pub within : (p : Listing) (t : Thread) (b : Bool) (f : Flow) → FlowAt p t false f → FlowAt p t b f
within p t b f h = weaker (IsInstrAt p t false) (IsInstrAt p t b) (IsPureIn p t) (IsPureIn p t) (λ i g. (g.0, λ e. g.1 refl)) (λ e g. g) f h

-- ---- room

pub room_before : (p : Listing) (t : Thread) (b : Bool) (k : Known) (d : Did) → Lengthens k d → HasRoom p t b d.known → HasRoom p t b k
room_before p t b k d l h = record { next = omega (arith, l.next, h.next); asserts = omega (arith, l.asserts, h.asserts); starts = λ e. omega (arith, l.starts, h.starts e) }

pub room_inside : (p : Listing) (t : Thread) (b : Bool) (k j : Known) → j.next ≤ k.next → j.seen.asserts ≤ k.seen.asserts → HasRoom p t b k → HasRoom p t false j
room_inside p t b k j n m h = record { next = omega (arith, n, h.next); asserts = omega (arith, m, h.asserts); starts = λ e. absurd (impossible e) }
  where
    impossible : false ≡ true → ⊥
    impossible e = cc

-- ---- what changes no names

-- with the names as they were
pub names_kept : (p : Listing) (items : List Item) (w : Within) (a : Around) (names : Names) (k : Known) (f : Flow) (next : ℕ) (declared : List NamedAs) → declared ≡ [] → FlowTyped p items w a names k f next
    → GlobalsFit p items w.parts.spots → TypedCalls p items w → Typing k.next next (λ q. RetFits q w.ret a.gives → SeesTypes q names.locals k.names → FitsFlow p q f × SeesTypes q (names.locals ++ declared) k.names)
names_kept p items w a names k f next declared e h g c =
    over k.next next (λ q. RetFits q w.ret a.gives → SeesTypes q names.locals k.names → FitsFlow p q f) _
    (λ q r ret sees. (r ret sees, subst (λ (ds : List NamedAs). SeesTypes q (names.locals ++ ds) k.names) (sym e) (types_nil q names.locals k.names sees))) (h g c)

pub kept : (p : Listing) (t : Thread) (items : List Item) (w : Within) (a : Around) (names : Names) (k : Known) (ns : List Note) (f : Flow) (next asserts : ℕ)
    → Reads p t items w.parts.spots k.names names → FlowAt p t a.outermost f → FlowTyped p items w a names k f next
    → Done p t items w a names k (noting ns) (record { flow = f; known = record { names = k.names; next = next; seen = record { asserts = asserts; starts = k.seen.starts } } })
kept p t items w a names k ns f next asserts r h typed = record {
  flow = h;
  starts = λ e. refl;
  sees = sees_nil names.locals k.names r.sees;
  thread = r.locals;
  typed = names_kept p items w a names k f next [] refl typed;
}

-- no fresh local
pub no_locals : (p : Listing) (items : List Item) (w : Within) (a : Around) (names : Names) (k : Known) (f : Flow) → ((q : ℕ → Bool) → FitsFlow p q f) → FlowTyped p items w a names k f k.next
no_locals p items w a names k f h g c = still k.next _ (λ q ret sees. h q)

-- a test has a type
pub test_typed : (p : Listing) (t : Thread) (items : List Item) (w : Within) (ns : List Named) (names : Names) (e : Expr) (n : ℕ) → Reads p t items w.parts.spots ns names → NoFault (judged_expr names e).notes → GlobalsFit p items w.parts.spots
    → Typing n (reads w ns e n).next (λ q. SeesTypes q names.locals ns → FitsFlow p q (reads w ns e n).flow × FitsTest p q (reads w ns e n).pure)
test_typed p t items w ns names e n r f g =
    let o : Operand = (judged_expr names e).operand in
    let v : Val = reads w ns e n in
    over n v.next (λ q. SeesTypes q names.locals ns → FitsVal p q o v) _ (λ q h seen. let z = h seen in (z.flow, (typed_of (kinds_of q v.pure) o.kind o.zero z.kind, z.tidy)))
    (expr_typed p items names e (scope w ns) n g r.globals f)
