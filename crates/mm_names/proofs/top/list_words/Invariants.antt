use Rattle.std.proofs.Common.{◌≡◌, take}
use Rattle.mm_names.specs.Tops.{after_top, tops}
use Rattle.mm_names.specs.Items.{listed_word}
use Rattle.mm_names.proofs.top.list_words.Given as goal

abbrev pub invariant-loop-word : goal.invariant-loop-word
invariant-loop-word l = l.walk ≡ after_top (tops (listed_word l.side l.meaning) (take l.word-index l.words)) l.initial.walk
