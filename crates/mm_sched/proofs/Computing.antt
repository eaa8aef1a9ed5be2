-- How an expression of a small program computes.
use Rattle.mm_goto.proofs.Folding.{fold_constant, fold_local, fold_combined}

pub ruleset folds = (fold_constant, fold_local, fold_combined)
