-- Types of operands.
use Rattle.std.specs.Prelude.{Bool, true, false, ◌||◌, if◌then◌else◌, List, [], ◌∷◌, ◌++◌, Option, Some, None}
use Rattle.mm_goto.specs.declared.ident.At.{At}
use Rattle.mm_goto.specs.declared.pure.Unary.{Unary}
use Rattle.mm_goto.specs.declared.pure.Unary.TheVariants as un
use Rattle.mm_goto.specs.declared.pure.Binary.{Binary}
use Rattle.mm_goto.specs.declared.pure.Binary.TheVariants as bin
use Rattle.mm_scope.specs.declared.fault.Rule.TheVariants.{WrongType}
use Rattle.mm_scope.specs.declared.operand.Kind.{Kind}
use Rattle.mm_scope.specs.declared.operand.Kind.TheVariants.{Int, Pointer, Nothing}
use Rattle.mm_scope.specs.declared.operand.Operand.{Operand}
use Rattle.mm_scope.specs.Notes.{Note, refusal}

abbrev pub is_kind : Kind → Kind → Bool
is_kind Int Int = true
is_kind Pointer Pointer = true
is_kind Nothing Nothing = true
is_kind _ _ = false

abbrev pub fits_kind : Kind → Bool → Option Kind → Bool
fits_kind wanted zero None = true
fits_kind Pointer true (Some k) = true
fits_kind wanted zero (Some k) = is_kind k wanted

-- It may stand where this type is wanted: it has the type, or it is the number 0 and a pointer is wanted. What has a part
-- that is refused has no type, and is not refused again.
unfoldable pub fits : Kind → Operand → Bool
fits wanted o = fits_kind wanted o.zero o.kind

-- what is known of an expression, and what is noted in it
pub record Judged : Type 0 where
  pub operand : Operand
  pub notes : List Note

abbrev pub without : Operand → Operand
without o = record o { kind = None }

-- the operand at a place of this type
unfoldable pub fit : Kind → Operand → Judged
fit wanted o =
    if fits wanted o
    then record { operand = o; notes = [] }
    else record { operand = without o; notes = refusal WrongType o.at ∷ [] }

abbrev pub if_known : Option Kind → Option Kind → Option Kind
if_known None k = None
if_known (Some _) k = k

abbrev pub made : At → Option Kind → Operand
made at k = record { at = at; zero = false; kind = k }

-- what is made of one operand has this type
unfoldable pub one : At → Kind → Judged → Judged
one at k a = record { operand = made at (if_known a.operand.kind (Some k)); notes = a.notes }

-- and of two
unfoldable pub two : At → Kind → Judged → Judged → Judged
two at k a b = record { operand = made at (if_known a.operand.kind (if_known b.operand.kind (Some k))); notes = a.notes ++ b.notes }

abbrev pub fine : Operand → Judged
fine o = record { operand = o; notes = [] }

abbrev pub never_of : Operand → Option Kind → Judged
never_of o None = fine o
never_of o (Some k) = record { operand = without o; notes = refusal WrongType o.at ∷ [] }

-- the operand at a place where no value may stand
unfoldable pub never : Operand → Judged
never o = never_of o o.kind

abbrev pub joined : At → Bool → At → Kind → Kind → Judged
joined at zero second Int Int = fine (made at (Some Int))
joined at zero second Pointer Pointer = fine (made at (Some Pointer))
joined at true second _ _ = fine (made at (Some Pointer))
joined at false second _ _ = record { operand = made at None; notes = refusal WrongType second ∷ [] }

abbrev pub joined_if : At → Bool → At → Option Kind → Option Kind → Judged
joined_if at zero second (Some k) (Some l) = joined at zero second k l
joined_if at zero second _ _ = fine (made at None)

-- Two operands that must have one type, where the number 0 is a pointer beside a pointer. The second is the one that does not
-- fit.
unfoldable pub join : At → Operand → Operand → Judged
join at a b = joined_if at (a.zero || b.zero) b.at a.kind b.kind

-- ---- operators

unfoldable pub unary : At → Unary → Operand → Judged
unary at un.Not a = one at Int (fine a)
unary at _ a = one at Int (fit Int a)

abbrev pub arithmetic : At → Operand → Operand → Judged
arithmetic at a b = two at Int (fit Int a) (fit Int b)

unfoldable pub binary : At → Binary → Operand → Operand → Judged
binary at bin.Land a b = two at Int (fine a) (fine b)
binary at bin.Lor a b = two at Int (fine a) (fine b)
binary at bin.Eq a b = one at Int (join at a b)
binary at bin.Ne a b = one at Int (join at a b)
binary at _ a b = arithmetic at a b

unfoldable pub deref : At → Operand → Judged
deref at a = one at Int (fit Pointer a)

-- an element of an array, or its address
unfoldable pub element : At → Kind → Operand → Operand → Judged
element at k a i = two at k (fine a) (fit Int i)

unfoldable pub address : At → Operand → Judged
address at a = one at Pointer (fine a)

-- the two updates in one step: of what a pointer names, by an int, or by a second int where it is the first
unfoldable pub fetch_add : At → Operand → Operand → Judged
fetch_add at p e = two at Int (fit Pointer p) (fit Int e)

unfoldable pub compare_swap : At → Operand → Operand → Operand → Judged
compare_swap at p e f = two at Int (two at Int (fit Pointer p) (fit Int e)) (fit Int f)

abbrev pub if_tested : Option Kind → Judged → Judged
if_tested test j = record j { operand = record j.operand { kind = if_known test j.operand.kind } }

unfoldable pub choice : At → Operand → Operand → Operand → Judged
choice at test a b = if_tested test.kind (join at a b)

-- ---- parts: what is noted in them is noted in the whole

abbrev pub behind : List Note → Judged → Judged
behind notes j = record j { notes = notes ++ j.notes }

abbrev pub of_one : (Operand → Judged) → Judged → Judged
of_one rule a = behind a.notes (rule a.operand)

abbrev pub of_two : (Operand → Operand → Judged) → Judged → Judged → Judged
of_two rule a b = behind (a.notes ++ b.notes) (rule a.operand b.operand)

abbrev pub of_three : (Operand → Operand → Operand → Judged) → Judged → Judged → Judged → Judged
of_three rule a b c = behind ((a.notes ++ b.notes) ++ c.notes) (rule a.operand b.operand c.operand)
