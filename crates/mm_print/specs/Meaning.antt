-- What a text means: its goto program.
use Rattle.std.specs.Prelude.{◌≡◌, ℕ, List}
use Rattle.mm_goto.specs.Listing.{Listing}
use Rattle.mm_tree.specs.declared.item.Tree.{Tree}
use Rattle.mm_tree.specs.declared.side.Side.{Side}
use Rattle.mm_flow.specs.Programs.{program_of}
use Rattle.mm_grammar.specs.Meaning.{IsTreeOf}

-- the text has a tree, and flattened that is this goto program
pub record IsProgramOf (side : Side) (text : List ℕ) (p : Listing) : Type 0 where
  pub tree : Tree
  pub read : IsTreeOf side text tree
  pub flat : p ≡ program_of side tree
