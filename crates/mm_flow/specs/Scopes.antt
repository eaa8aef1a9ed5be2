-- What names stand for.
use Rattle.std.specs.Prelude.{ℕ, ◌+◌, if◌then◌else◌, List, [], ◌∷◌, find, position, reverse, take, Option, Some, None, option_map}
use Rattle.std.specs.Str.{bytes_eq}
use Rattle.mm_goto.specs.declared.ident.Ident.{Ident}
use Rattle.mm_flow.specs.declared.names.Named.{Named}
use Rattle.mm_flow.specs.declared.names.Spot.{Spot}
use Rattle.mm_flow.specs.declared.names.Started.{Started}

abbrev pub named : Ident → ℕ → Named
named x n = record { name = x; number = n }

-- the local of a name, the innermost where there are several
abbrev pub local_of : List Named → Ident → Option ℕ
local_of names x = option_map (λ n. n.number) (find (λ n. bytes_eq n.name x) (reverse names))

-- the global of a name
abbrev pub spot_of : List Spot → Ident → Option Spot
spot_of spots x = find (λ s. bytes_eq s.name x) spots

-- where a name stands among others
abbrev pub index_of : List Ident → Ident → Option ℕ
index_of names x = position (λ y. bytes_eq y x) names

-- the number of the thread that was started last with the variable, where these creates begin with that of thread u
abbrev pub last_with : List Started → ℕ → Ident → Option ℕ → Option ℕ
last_with [] u x found = found
last_with (s ∷ ss) u x found = last_with ss (u + 1) x (if bytes_eq s.variable x then Some u else found)

-- the thread that a variable holds behind the first n creates
abbrev pub thread_in : List Started → ℕ → Ident → Option ℕ
thread_in starts n x = last_with (take n starts) 1 x None
