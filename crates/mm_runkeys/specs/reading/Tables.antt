-- How the edges are found, once along a run: for each key, the steps that it marks and nothing has erased.
use Rattle.std.specs.Prelude.{ℕ, List, [], ◌∷◌, ◌++◌, map, slice_index_or, slice_set, Option, Some, None}
use Rattle.mm_runkeys.specs.declared.graph.EdgeKind.{EdgeKind}
use Rattle.mm_runkeys.specs.declared.graph.RunEdge.{RunEdge}

-- what is marked with the key x
abbrev pub row : List (List ℕ) → ℕ → List ℕ
row rows x = slice_index_or rows x []

-- what is marked with the key, if there is one
abbrev pub asked_row : List (List ℕ) → Option ℕ → List ℕ
asked_row rows None = []
asked_row rows (Some x) = row rows x

abbrev pub erased_rows : List (List ℕ) → Option ℕ → List (List ℕ)
erased_rows rows None = rows
erased_rows rows (Some x) = slice_set rows x []

abbrev pub marked_rows : List (List ℕ) → Option ℕ → ℕ → List (List ℕ)
marked_rows rows None n = rows
marked_rows rows (Some x) n = slice_set rows x (row rows x ++ n ∷ [])

-- the step n erases the one key, and then is marked with the other
abbrev pub stepped : List (List ℕ) → Option ℕ → Option ℕ → ℕ → List (List ℕ)
stepped rows erased marked n = marked_rows (erased_rows rows erased) marked n

abbrev pub edge : ℕ → EdgeKind → ℕ → RunEdge
edge n kind a = record { from = a; to = n; kind = kind }

-- edges of the kind from each of the list to n
abbrev pub linked : List RunEdge → EdgeKind → List ℕ → ℕ → List RunEdge
linked edges kind xs n = edges ++ map (edge n kind) xs
