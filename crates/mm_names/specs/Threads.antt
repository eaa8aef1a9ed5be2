-- Which starts and joins of threads are refused for those that stand before them.
use Rattle.std.specs.Prelude.{◌≡◌, ℕ, Bool, true, false, not, ◌||◌, ◌&&◌, if◌then◌else◌, is_some, List, take, slice_get, Some}
use Rattle.std.specs.List.{list_any}
use Rattle.std.specs.Str.{bytes_eq}
use Rattle.mm_scope.specs.declared.fault.Fault.{Fault}
use Rattle.mm_scope.specs.declared.fault.Rule.TheVariants.{BadThread}
use Rattle.mm_scope.specs.Faults.{fault}
use Rattle.mm_scope.specs.Notes.{Use}

abbrev pub starts : Use → Bool
starts u = is_some u.function

abbrev pub are_same : Bool → Bool → Bool
are_same true b = b
are_same false b = not b

-- both are of one variable
abbrev pub is_of_one : Use → Use → Bool
is_of_one u v = are_same u.local v.local && bytes_eq u.variable v.variable

-- the variable's thread is started in these
unfoldable pub is_start_of : Use → Use → Bool
is_start_of u v = is_of_one u v && starts v

unfoldable pub is_join_of : Use → Use → Bool
is_join_of u v = is_of_one u v && not (starts v)

-- behind these a thread is started a second time, joined a second time, or joined and not yet started
unfoldable pub is_misused : List Use → Use → Bool
is_misused before u =
    if starts u
    then list_any (is_start_of u) before
    else not (list_any (is_start_of u) before) || list_any (is_join_of u) before

-- so it is for start or join k
pub record IsMisuse (uses : List Use) (k : ℕ) (f : Fault) : Type 0 where
  pub it : Use
  pub is_k : slice_get uses k ≡ Some it
  pub misused : is_misused (take k uses) it ≡ true
  pub is : f ≡ fault BadThread it.at
