-- Names and types of programs: what is noted in a tree, which faults it has, and which of them is refused.
use Rattle.std.specs.Prelude.{◌≡◌, ℕ, Bool, true, false, List, [], filter_map, Contains, Option, Some, None}
use Rattle.std.specs.List.{list_any}
use Rattle.mm_goto.specs.declared.ident.At.{At}
use Rattle.mm_goto.specs.Place.{start}
use Rattle.mm_tree.specs.declared.item.Tree.{Tree}
use Rattle.mm_tree.specs.declared.side.Side.{Side}
use Rattle.mm_scope.specs.declared.fault.Fault.{Fault}
use Rattle.mm_scope.specs.declared.fault.Rule.{Rule}
use Rattle.mm_scope.specs.declared.fault.Rule.TheVariants as rule
use Rattle.mm_scope.specs.declared.notes.Call.{Call}
use Rattle.mm_scope.specs.Faults.{is_before}
use Rattle.mm_scope.specs.Notes.{Note, Use, a_fault, a_call, a_use, an_assertion}
use Rattle.mm_scope.specs.Scopes.{Names}
use Rattle.mm_names.specs.declared.refusal.NameFault.{NameFault}
use Rattle.mm_names.specs.declared.refusal.NameFault.TheVariants.{NoMain, ReservedName, OutputOnly, TwiceDeclared, UnknownName, WrongType, BadThread, Recursion}
use Rattle.mm_names.specs.Calls.{IsRecursion}
use Rattle.mm_names.specs.Items.{is_main, ahead, listed_items}
use Rattle.mm_names.specs.Threads.{IsMisuse}

-- the names that are known before the text
abbrev pub known_ahead : Tree → Names
known_ahead tree = record { globals = ahead [] 0 tree.items; locals = [] }

-- what is noted in a program
unfoldable pub notes_of : Side → Tree → List Note
notes_of side tree = (listed_items side tree.items 0 tree.items (known_ahead tree)).notes

abbrev pub call_in : Note → Option Call
call_in (a_call c) = Some c
call_in (a_fault f) = None
call_in (a_use u) = None
call_in an_assertion = None

abbrev pub use_in : Note → Option Use
use_in (a_use u) = Some u
use_in (a_fault f) = None
use_in (a_call c) = None
use_in an_assertion = None

abbrev pub is_assertion : Note → Bool
is_assertion an_assertion = true
is_assertion (a_fault f) = false
is_assertion (a_call c) = false
is_assertion (a_use u) = false

abbrev pub calls_of : Side → Tree → List Call
calls_of side tree = filter_map call_in (notes_of side tree)

abbrev pub uses_of : Side → Tree → List Use
uses_of side tree = filter_map use_in (notes_of side tree)

-- the faults of a program: in a part of the text, in a start or join behind others, in a call among all calls
pub data IsFault (side : Side) (tree : Tree) (f : Fault) : Type 0 where
  noted : Contains (notes_of side tree) (a_fault f) → IsFault side tree f
  misused : (k : ℕ) → IsMisuse (uses_of side tree) k f → IsFault side tree f
  recursive : (k : ℕ) → IsRecursion (calls_of side tree) k f → IsFault side tree f

abbrev pub has_main : Tree → Bool
has_main tree = list_any is_main tree.items

-- a program is accepted where it has a main and no fault
pub record IsAccepted (side : Side) (tree : Tree) : Type 0 where
  pub main : has_main tree ≡ true
  pub no_fault : (f : Fault) → IsFault side tree f → ⊥

-- the refusal of a fault
abbrev pub refusal_of : Fault → NameFault
refusal_of f = named f.rule f.at
  where
    named : Rule → At → NameFault
    named rule.ReservedName at = ReservedName at
    named rule.OutputOnly at = OutputOnly at
    named rule.TwiceDeclared at = TwiceDeclared at
    named rule.UnknownName at = UnknownName at
    named rule.WrongType at = WrongType at
    named rule.BadThread at = BadThread at
    named rule.Recursion at = Recursion at

-- and else it is refused: for want of a main before all, and else for the least of its faults
pub data IsRefused (side : Side) (tree : Tree) : NameFault → Type 0 where
  no_main : has_main tree ≡ false → IsRefused side tree (NoMain start)
  at_fault : (f : Fault)
      → has_main tree ≡ true
      → IsFault side tree f
      → ((g : Fault) → IsFault side tree g → is_before g f ≡ false)
      → IsRefused side tree (refusal_of f)
