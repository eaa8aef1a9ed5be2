-- What the printed text of a small program means as a goto program: each local is declared and set to 0, a shared access
-- reads into a local of its own first, and `return 0` goes to the end.
use Rattle.std.specs.Prelude.{ℕ, ◌+◌, pos, List, [], ◌∷◌, ◌++◌, map, take, sum_by}
use Rattle.std.specs.List.{range_with_len}
use Rattle.mm_goto.specs.declared.program.Instr.{Instr}
use Rattle.mm_goto.specs.declared.program.Instr.TheVariants.{Set, Load, Jump, End}
use Rattle.mm_goto.specs.declared.program.Thread.{Thread}
use Rattle.mm_goto.specs.Listing.{Listing}
use Rattle.mm_goto.specs.Terms.{constant, the_local}

-- how many locals of its own the statement of an instruction has
abbrev pub fresh : Instr → ℕ
fresh (Load l target) = 1
fresh i = 0

-- how many instructions the statement has
abbrev pub size : Instr → ℕ
size (Load l target) = 2
size i = 1

-- the place of the statement of instruction k, behind the declarations of the locals
abbrev pub place_of : Thread → ℕ → ℕ
place_of main k = main.locals + sum_by size (take k main.code)

-- the place of the end
abbrev pub end_of : Thread → ℕ
end_of main = main.locals + sum_by size main.code

-- the instructions of a statement, where t is the next fresh local
abbrev pub statement : Thread → ℕ → Instr → List Instr
statement main t (Load l target) = Load t target ∷ Set l (the_local t) ∷ []
statement main t (Jump k) = Jump (place_of main k) ∷ []
statement main t End = Jump (end_of main) ∷ []
statement main t i = i ∷ []

abbrev pub statements : Thread → ℕ → List Instr → List Instr
statements main t [] = []
statements main t (i ∷ is) = statement main t i ++ statements main (t + fresh i) is

-- the declaration of a local
abbrev pub declaration : ℕ → Instr
declaration l = Set l (constant (pos 0))

-- main of the woven program; no machine reads the places
abbrev pub woven_main : Thread → Thread
woven_main main = record {
  locals = main.locals + sum_by fresh main.code;
  code = map declaration (range_with_len 0 main.locals) ++ statements main main.locals main.code ++ End ∷ [];
  places = [];
}

-- the woven program: the same cells, and each thread woven
abbrev pub woven : Listing → Listing
woven p = record { cells = p.cells; mutexes = p.mutexes; threads = map woven_main p.threads }
