use Rattle.std.proofs.Common.{◌≡◌, ◌++◌, map, take}
use Rattle.mm_names.specs.Results.{name_of}
use Rattle.mm_names.proofs.checked.add_words.Given as goal

abbrev pub invariant-loop-word : goal.invariant-loop-word
invariant-loop-word l = l.names.items ≡ l.initial.names.items ++ map name_of (take l.word-index l.words)
