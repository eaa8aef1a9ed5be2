-- What an accepted operand's type says of its value.
use Rattle.std.proofs.Common.{◌≡◌, Bool, true, false, ◌&&◌, ◌||◌, IsTrue, refl, ◌∙◌, sym, ap, subst, Option, Some, None}
use Rattle.mm_goto.specs.declared.ident.At.{At}
use Rattle.mm_goto.specs.declared.pure.Unary.{Unary}
use Rattle.mm_goto.specs.declared.pure.Unary.TheVariants as un
use Rattle.mm_goto.specs.declared.pure.Binary.{Binary}
use Rattle.mm_goto.specs.declared.pure.Binary.TheVariants as bin
use Rattle.mm_goto.specs.Kinds.{Kinds, is_typed, are_alike, unary_kinds, binary_kinds}
use Rattle.mm_scope.specs.declared.operand.Kind.{Kind}
use Rattle.mm_scope.specs.declared.operand.Kind.TheVariants.{Int, Pointer, Nothing}
use Rattle.mm_scope.specs.declared.operand.Operand.{Operand}
use Rattle.mm_scope.specs.Operands.{Judged, fits, fit, made, if_known, one, two, fine, never, join, unary, binary, arithmetic, deref, element, address, choice, fetch_add, compare_swap}
use Rattle.mm_scope.specs.Values.{kind_if_pointer}
use Rattle.mm_sourcelike.proofs.Scoping.{NoFault, fault_left, fault_right}
use Rattle.mm_sourcelike.proofs.Tables.{true_is_not}

-- ---- kinds

-- an expression of these kinds may stand where the operand stands
abbrev pub KindFits : Kinds → Option Kind → Bool → Type 0
KindFits ks (Some Int) false = IsTrue ks.int
KindFits ks (Some Int) true = IsTrue ks.int × IsTrue ks.pointer
KindFits ks (Some Pointer) z = IsTrue ks.pointer × (z ≡ false)
KindFits ks (Some Nothing) z = ⊥
KindFits ks None z = ⊥

abbrev pub OperandFits : Kinds → Operand → Type 0
OperandFits ks o = KindFits ks o.kind o.zero

-- a value too, but that it may be none
abbrev pub ValueFits : Kinds → Option Kind → Bool → Type 0
ValueFits ks (Some Int) z = KindFits ks (Some Int) z
ValueFits ks (Some Pointer) z = KindFits ks (Some Pointer) z
ValueFits ks (Some Nothing) z = z ≡ false
ValueFits ks None z = ⊥

-- it is no part of something refused
abbrev pub Known : Option Kind → Type 0
Known None = ⊥
Known (Some k) = Unit {0}

abbrev pub is_pointer : Option Kind → Bool
is_pointer (Some Pointer) = true
is_pointer (Some Int) = false
is_pointer (Some Nothing) = false
is_pointer None = false

-- the kinds are those of a pointer, or of an int
abbrev pub KindIs : Kinds → Bool → Type 0
KindIs ks true = IsTrue ks.pointer
KindIs ks false = IsTrue ks.int

pub known_of : (ks : Kinds) (k : Option Kind) (z : Bool) → KindFits ks k z → Known k
known_of ks (Some k) z h = tt
known_of ks None z h = h

pub known_value : (ks : Kinds) (k : Option Kind) (z : Bool) → ValueFits ks k z → Known k
known_value ks (Some k) z h = tt
known_value ks None z h = h

pub as_value : (ks : Kinds) (k : Option Kind) (z : Bool) → KindFits ks k z → ValueFits ks k z
as_value ks (Some Int) z h = h
as_value ks (Some Pointer) z h = h
as_value ks (Some Nothing) z h = absurd h
as_value ks None z h = h

if_known_is : (k x : Option Kind) → Known k → if_known k x ≡ x
if_known_is (Some k) x h = refl
if_known_is None x h = absurd h

or_left : (a b : Bool) → a ≡ true → (a || b) ≡ true
or_left true b e = refl
or_left false b e = true_is_not (sym e)

or_right : (a b : Bool) → b ≡ true → (a || b) ≡ true
or_right true b e = refl
or_right false b e = e

pub and_true : (a b : Bool) → a ≡ true → b ≡ true → (a && b) ≡ true
and_true true b e f = f
and_true false b e f = e

pub typed_of : (ks : Kinds) (k : Option Kind) (z : Bool) → KindFits ks k z → IsTrue (is_typed ks)
typed_of ks (Some Int) false h = or_left ks.int ks.pointer h
typed_of ks (Some Int) true h = or_left ks.int ks.pointer h.0
typed_of ks (Some Pointer) z h = or_right ks.int ks.pointer h.0
typed_of ks (Some Nothing) z h = absurd h
typed_of ks None z h = absurd h

-- where the type of a place is wanted
pub kind_is : (ks : Kinds) (k : Option Kind) (z : Bool) → KindFits ks k z → KindIs ks (is_pointer k)
kind_is ks (Some Int) false h = h
kind_is ks (Some Int) true h = h.0
kind_is ks (Some Pointer) z h = h.0
kind_is ks (Some Nothing) z h = absurd h
kind_is ks None z h = absurd h

-- ---- one operand

abbrev operand : At → Bool → Option Kind → Operand
operand at z k = record { at = at; zero = z; kind = k }

fit_int_by : (at : At) (z : Bool) (k : Option Kind) (ks : Kinds) → NoFault (fit Int (operand at z k)).notes → ValueFits ks k z → IsTrue ks.int × OperandFits ks (fit Int (operand at z k)).operand
unfolding fit fits
fit_int_by at false (Some Int) ks f h = (h, h)
fit_int_by at true (Some Int) ks f h = (h.0, h)
fit_int_by at z (Some Pointer) ks f h = absurd f
fit_int_by at z (Some Nothing) ks f h = absurd f
fit_int_by at z None ks f h = absurd h

pub fit_int : (o : Operand) (ks : Kinds) → NoFault (fit Int o).notes → ValueFits ks o.kind o.zero → IsTrue ks.int × OperandFits ks (fit Int o).operand
fit_int o ks f h = fit_int_by o.at o.zero o.kind ks f h

fit_pointer_by : (at : At) (z : Bool) (k : Option Kind) (ks : Kinds) → NoFault (fit Pointer (operand at z k)).notes → ValueFits ks k z → IsTrue ks.pointer × OperandFits ks (fit Pointer (operand at z k)).operand
unfolding fit fits
fit_pointer_by at false (Some Int) ks f h = absurd f
fit_pointer_by at true (Some Int) ks f h = (h.1, h)
fit_pointer_by at false (Some Pointer) ks f h = (h.0, h)
fit_pointer_by at true (Some Pointer) ks f h = (h.0, h)
fit_pointer_by at false (Some Nothing) ks f h = absurd f
fit_pointer_by at true (Some Nothing) ks f h = true_is_not h
fit_pointer_by at z None ks f h = absurd h

pub fit_pointer : (o : Operand) (ks : Kinds) → NoFault (fit Pointer o).notes → ValueFits ks o.kind o.zero → IsTrue ks.pointer × OperandFits ks (fit Pointer o).operand
fit_pointer o ks f h = fit_pointer_by o.at o.zero o.kind ks f h

-- a value at a place of this type
pub fit_as : (b : Bool) (o : Operand) (ks : Kinds) → NoFault (fit (kind_if_pointer b) o).notes → ValueFits ks o.kind o.zero → KindIs ks b
fit_as true o ks f h = (fit_pointer o ks f h).0
fit_as false o ks f h = (fit_int o ks f h).0

pub fit_known : (b : Bool) (o : Operand) (ks : Kinds) → NoFault (fit (kind_if_pointer b) o).notes → ValueFits ks o.kind o.zero → Known (fit (kind_if_pointer b) o).operand.kind
fit_known true o ks f h = known_of ks _ _ (fit_pointer o ks f h).1
fit_known false o ks f h = known_of ks _ _ (fit_int o ks f h).1

-- no value may stand where one is never wanted
never_known_by : (at : At) (z : Bool) (k : Option Kind) → NoFault (never (operand at z k)).notes → Known k → ⊥
unfolding never
never_known_by at z (Some k) f h = f
never_known_by at z None f h = h

pub never_known : (o : Operand) → NoFault (never o).notes → Known o.kind → ⊥
never_known o f h = never_known_by o.at o.zero o.kind f h

one_made : (at : At) (k : Kind) (j : Judged) → Known j.operand.kind → (one at k j).operand ≡ made at (Some k)
unfolding one
one_made at k j h = ap (made at) (if_known_is j.operand.kind (Some k) h)

two_made : (at : At) (k : Kind) (i j : Judged) → Known i.operand.kind → Known j.operand.kind → (two at k i j).operand ≡ made at (Some k)
unfolding two
two_made at k i j h g = ap (made at) (if_known_is i.operand.kind (if_known j.operand.kind (Some k)) h ∙ if_known_is j.operand.kind (Some k) g)

two_notes : (at : At) (k : Kind) (i j : Judged) → NoFault (two at k i j).notes → NoFault i.notes × NoFault j.notes
unfolding two
two_notes at k i j f = (fault_left i.notes j.notes f, fault_right i.notes j.notes f)

-- ---- operators before their operand

-- what is made is an int
abbrev pub MakesInt : At → Bool → Judged → Type 0
MakesInt at b j = IsTrue b × (j.operand ≡ made at (Some Int))

unary_int : (at : At) (o : Operand) (ks : Kinds) → NoFault (one at Int (fit Int o)).notes → OperandFits ks o → MakesInt at ks.int (one at Int (fit Int o))
unfolding one
unary_int at o ks f h = let r = fit_int o ks f (as_value ks o.kind o.zero h) in (r.0, one_made at Int (fit Int o) (known_of ks _ _ r.1))

pub unary_makes : (at : At) (op : Unary) (o : Operand) (ks : Kinds) → NoFault (unary at op o).notes → OperandFits ks o → MakesInt at (unary_kinds op ks).int (unary at op o)
unfolding unary
unary_makes at un.Not o ks f h = (typed_of ks o.kind o.zero h, one_made at Int (fine o) (known_of ks o.kind o.zero h))
unary_makes at un.Neg o ks f h = unary_int at o ks f h
unary_makes at un.Plus o ks f h = unary_int at o ks f h
unary_makes at un.Flip o ks f h = unary_int at o ks f h

pub deref_makes : (at : At) (o : Operand) (ks : Kinds) → NoFault (deref at o).notes → OperandFits ks o → MakesInt at ks.pointer (deref at o)
unfolding deref one
deref_makes at o ks f h = let r = fit_pointer o ks f (as_value ks o.kind o.zero h) in (r.0, one_made at Int (fit Pointer o) (known_of ks _ _ r.1))

pub address_made : (at : At) (o : Operand) → Known o.kind → (address at o).operand ≡ made at (Some Pointer)
unfolding address
address_made at o h = one_made at Pointer (fine o) h

pub element_makes : (at : At) (k : Kind) (a i : Operand) (ks : Kinds) → NoFault (element at k a i).notes → Known a.kind → OperandFits ks i → IsTrue ks.int × ((element at k a i).operand ≡ made at (Some k))
unfolding element
element_makes at k a i ks f g h =
    let r = fit_int i ks (two_notes at k (fine a) (fit Int i) f).1 (as_value ks i.kind i.zero h) in
    (r.0, two_made at k (fine a) (fit Int i) g (known_of ks _ _ r.1))

-- ---- operators between their operands

-- both are of the type that the joined operand has
abbrev pub JoinKind : Kinds → Kinds → Option Kind → Type 0
JoinKind x y (Some Int) = IsTrue x.int × IsTrue y.int
JoinKind x y (Some Pointer) = IsTrue x.pointer × IsTrue y.pointer
JoinKind x y (Some Nothing) = ⊥
JoinKind x y None = ⊥

pub known_join : (x y : Kinds) (k : Option Kind) → JoinKind x y k → Known k
known_join x y (Some k) h = tt
known_join x y None h = h

pub join_first : (x y : Kinds) (k : Option Kind) → JoinKind x y k → KindIs x (is_pointer k)
join_first x y (Some Int) h = h.0
join_first x y (Some Pointer) h = h.0
join_first x y (Some Nothing) h = absurd h
join_first x y None h = absurd h

pub join_second : (x y : Kinds) (k : Option Kind) → JoinKind x y k → KindIs y (is_pointer k)
join_second x y (Some Int) h = h.1
join_second x y (Some Pointer) h = h.1
join_second x y (Some Nothing) h = absurd h
join_second x y None h = absurd h

join_alike : (x y : Kinds) (k : Option Kind) → JoinKind x y k → IsTrue (are_alike x y)
join_alike x y (Some Int) h = or_left (x.int && y.int) (x.pointer && y.pointer) (and_true x.int y.int h.0 h.1)
join_alike x y (Some Pointer) h = or_right (x.int && y.int) (x.pointer && y.pointer) (and_true x.pointer y.pointer h.0 h.1)
join_alike x y (Some Nothing) h = absurd h
join_alike x y None h = absurd h

abbrev Joins : Kinds → Kinds → Judged → Type 0
Joins x y j = JoinKind x y j.operand.kind × (j.operand.zero ≡ false)

join_by : (at s t : At) (c d : Bool) (k l : Option Kind) (x y : Kinds) → NoFault (join at (operand s c k) (operand t d l)).notes → KindFits x k c → KindFits y l d → Joins x y (join at (operand s c k) (operand t d l))
unfolding join
join_by at s t false false (Some Int) (Some Int) x y f h g = ((h, g), refl)
join_by at s t false true (Some Int) (Some Int) x y f h g = ((h, g.0), refl)
join_by at s t true false (Some Int) (Some Int) x y f h g = ((h.0, g), refl)
join_by at s t true true (Some Int) (Some Int) x y f h g = ((h.0, g.0), refl)
join_by at s t false false (Some Pointer) (Some Pointer) x y f h g = ((h.0, g.0), refl)
join_by at s t false true (Some Pointer) (Some Pointer) x y f h g = true_is_not g.1
join_by at s t true d (Some Pointer) (Some Pointer) x y f h g = true_is_not h.1
join_by at s t true false (Some Int) (Some Pointer) x y f h g = ((h.1, g.0), refl)
join_by at s t false false (Some Int) (Some Pointer) x y f h g = absurd f
join_by at s t c true (Some Int) (Some Pointer) x y f h g = true_is_not g.1
join_by at s t false true (Some Pointer) (Some Int) x y f h g = ((h.0, g.1), refl)
join_by at s t false false (Some Pointer) (Some Int) x y f h g = absurd f
join_by at s t true d (Some Pointer) (Some Int) x y f h g = true_is_not h.1
join_by at s t c d (Some Nothing) l x y f h g = absurd h
join_by at s t c d None l x y f h g = absurd h
join_by at s t c d (Some Int) (Some Nothing) x y f h g = absurd g
join_by at s t c d (Some Int) None x y f h g = absurd g
join_by at s t c d (Some Pointer) (Some Nothing) x y f h g = absurd g
join_by at s t c d (Some Pointer) None x y f h g = absurd g

join_makes : (at : At) (a b : Operand) (x y : Kinds) → NoFault (join at a b).notes → OperandFits x a → OperandFits y b → Joins x y (join at a b)
join_makes at a b x y f h g = join_by at a.at b.at a.zero b.zero a.kind b.kind x y f h g

lazy_makes : (at : At) (a b : Operand) (x y : Kinds) → OperandFits x a → OperandFits y b → MakesInt at (is_typed x && is_typed y) (two at Int (fine a) (fine b))
lazy_makes at a b x y h g =
    (and_true (is_typed x) (is_typed y) (typed_of x a.kind a.zero h) (typed_of y b.kind b.zero g), two_made at Int (fine a) (fine b) (known_of x a.kind a.zero h) (known_of y b.kind b.zero g))

equal_makes : (at : At) (a b : Operand) (x y : Kinds) → NoFault (one at Int (join at a b)).notes → OperandFits x a → OperandFits y b → MakesInt at (are_alike x y) (one at Int (join at a b))
unfolding one
equal_makes at a b x y f h g =
    let r = join_makes at a b x y f h g in
    (join_alike x y _ r.0, one_made at Int (join at a b) (known_join x y _ r.0))

arithmetic_makes : (at : At) (a b : Operand) (x y : Kinds) → NoFault (arithmetic at a b).notes → OperandFits x a → OperandFits y b → MakesInt at (x.int && y.int) (arithmetic at a b)
arithmetic_makes at a b x y f h g =
    let notes = two_notes at Int (fit Int a) (fit Int b) f in
    let r = fit_int a x notes.0 (as_value x a.kind a.zero h) in
    let s = fit_int b y notes.1 (as_value y b.kind b.zero g) in
    (and_true x.int y.int r.0 s.0, two_made at Int (fit Int a) (fit Int b) (known_of x _ _ r.1) (known_of y _ _ s.1))

pub binary_makes : (at : At) (op : Binary) (a b : Operand) (x y : Kinds) → NoFault (binary at op a b).notes → OperandFits x a → OperandFits y b → MakesInt at (binary_kinds op x y).int (binary at op a b)
unfolding binary
binary_makes at bin.Land a b x y f h g = lazy_makes at a b x y h g
binary_makes at bin.Lor a b x y f h g = lazy_makes at a b x y h g
binary_makes at bin.Eq a b x y f h g = equal_makes at a b x y f h g
binary_makes at bin.Ne a b x y f h g = equal_makes at a b x y f h g
binary_makes at bin.Add a b x y f h g = arithmetic_makes at a b x y f h g
binary_makes at bin.Sub a b x y f h g = arithmetic_makes at a b x y f h g
binary_makes at bin.Mul a b x y f h g = arithmetic_makes at a b x y f h g
binary_makes at bin.Div a b x y f h g = arithmetic_makes at a b x y f h g
binary_makes at bin.Rem a b x y f h g = arithmetic_makes at a b x y f h g
binary_makes at bin.Shl a b x y f h g = arithmetic_makes at a b x y f h g
binary_makes at bin.Shr a b x y f h g = arithmetic_makes at a b x y f h g
binary_makes at bin.Lt a b x y f h g = arithmetic_makes at a b x y f h g
binary_makes at bin.Le a b x y f h g = arithmetic_makes at a b x y f h g
binary_makes at bin.Gt a b x y f h g = arithmetic_makes at a b x y f h g
binary_makes at bin.Ge a b x y f h g = arithmetic_makes at a b x y f h g
binary_makes at bin.And a b x y f h g = arithmetic_makes at a b x y f h g
binary_makes at bin.Xor a b x y f h g = arithmetic_makes at a b x y f h g
binary_makes at bin.Or a b x y f h g = arithmetic_makes at a b x y f h g

-- two ints give an int, whatever operator stands between them
pub ints_make : (op : Binary) (x y : Kinds) → IsTrue x.int → IsTrue y.int → IsTrue (binary_kinds op x y).int
ints_make bin.Land x y h g = and_true (is_typed x) (is_typed y) (or_left x.int x.pointer h) (or_left y.int y.pointer g)
ints_make bin.Lor x y h g = and_true (is_typed x) (is_typed y) (or_left x.int x.pointer h) (or_left y.int y.pointer g)
ints_make bin.Eq x y h g = or_left (x.int && y.int) (x.pointer && y.pointer) (and_true x.int y.int h g)
ints_make bin.Ne x y h g = or_left (x.int && y.int) (x.pointer && y.pointer) (and_true x.int y.int h g)
ints_make bin.Add x y h g = and_true x.int y.int h g
ints_make bin.Sub x y h g = and_true x.int y.int h g
ints_make bin.Mul x y h g = and_true x.int y.int h g
ints_make bin.Div x y h g = and_true x.int y.int h g
ints_make bin.Rem x y h g = and_true x.int y.int h g
ints_make bin.Shl x y h g = and_true x.int y.int h g
ints_make bin.Shr x y h g = and_true x.int y.int h g
ints_make bin.Lt x y h g = and_true x.int y.int h g
ints_make bin.Le x y h g = and_true x.int y.int h g
ints_make bin.Gt x y h g = and_true x.int y.int h g
ints_make bin.Ge x y h g = and_true x.int y.int h g
ints_make bin.And x y h g = and_true x.int y.int h g
ints_make bin.Xor x y h g = and_true x.int y.int h g
ints_make bin.Or x y h g = and_true x.int y.int h g

pub choice_makes : (at : At) (t a b : Operand) (w x y : Kinds) → NoFault (choice at t a b).notes → OperandFits w t → OperandFits x a → OperandFits y b → JoinKind x y (choice at t a b).operand.kind × ((choice at t a b).operand.zero ≡ false)
unfolding choice
choice_makes at t a b w x y f e h g =
    let r = join_makes at a b x y f h g in
    (subst (JoinKind x y) (sym (if_known_is t.kind (join at a b).operand.kind (known_of w t.kind t.zero e))) r.0, r.1)

-- the kinds of a choice between the two
pub chosen_fits : (x y : Kinds) (c : Bool) (k : Option Kind) → IsTrue c → JoinKind x y k → KindFits (record { int = c && (x.int && y.int); pointer = c && (x.pointer && y.pointer) }) k false
chosen_fits x y c (Some Int) e h = and_true c (x.int && y.int) e (and_true x.int y.int h.0 h.1)
chosen_fits x y c (Some Pointer) e h = (and_true c (x.pointer && y.pointer) e (and_true x.pointer y.pointer h.0 h.1), refl)
chosen_fits x y c (Some Nothing) e h = absurd h
chosen_fits x y c None e h = absurd h

-- ---- locked updates

pub fetch_makes : (at : At) (p e : Operand) (x y : Kinds) → NoFault (fetch_add at p e).notes → OperandFits x p → OperandFits y e → IsTrue x.pointer × IsTrue y.int × ((fetch_add at p e).operand ≡ made at (Some Int))
unfolding fetch_add
fetch_makes at p e x y f h g =
    let notes = two_notes at Int (fit Pointer p) (fit Int e) f in
    let r = fit_pointer p x notes.0 (as_value x p.kind p.zero h) in
    let s = fit_int e y notes.1 (as_value y e.kind e.zero g) in
    (r.0, s.0, two_made at Int (fit Pointer p) (fit Int e) (known_of x _ _ r.1) (known_of y _ _ s.1))

pub swap_makes : (at : At) (p e o : Operand) (x y z : Kinds) → NoFault (compare_swap at p e o).notes → OperandFits x p → OperandFits y e → OperandFits z o → IsTrue x.pointer × IsTrue y.int × IsTrue z.int × ((compare_swap at p e o).operand ≡ made at (Some Int))
unfolding compare_swap
swap_makes at p e o x y z f h g i =
    let notes = two_notes at Int (two at Int (fit Pointer p) (fit Int e)) (fit Int o) f in
    let first = two_notes at Int (fit Pointer p) (fit Int e) notes.0 in
    let r = fit_pointer p x first.0 (as_value x p.kind p.zero h) in
    let s = fit_int e y first.1 (as_value y e.kind e.zero g) in
    let t = fit_int o z notes.1 (as_value z o.kind o.zero i) in
    let both = two_made at Int (fit Pointer p) (fit Int e) (known_of x _ _ r.1) (known_of y _ _ s.1) in
    (r.0, s.0, t.0, two_made at Int (two at Int (fit Pointer p) (fit Int e)) (fit Int o) (subst (λ (q : Operand). Known q.kind) (sym both) tt) (known_of z _ _ t.1))
