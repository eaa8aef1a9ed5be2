-- Which trees are those of small programs.
use Rattle.std.specs.Prelude.{◌≡◌, Some}
use Rattle.mm_tree.specs.declared.item.Tree.{Tree}
use Rattle.mm_small.specs.declared.tree.Small.{Small}
use Rattle.mm_small.specs.SmallTree.{small_of, IsWithinLimits}

-- the tree is that of a small program
pub record IsSmall (tree : Tree) : Type 0 where
  pub small : Small
  pub is_small : small_of tree ≡ Some small
  pub within : IsWithinLimits small
