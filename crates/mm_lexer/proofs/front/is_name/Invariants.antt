use Rattle.std.proofs.Common.{◌≡◌, length}
use Rattle.std.specs.List.{list_all}
use Rattle.std.specs.Str.{chars, IsUtf8}
use Rattle.mm_goto.specs.Names.{is_name_char}
use Rattle.mm_lexer.proofs.front.is_name.Given as goal

abbrev pub invariant-loop-c : goal.invariant-loop-c
invariant-loop-c l = (list_all is_name_char (chars l.rest) ≡ list_all is_name_char (chars l.initial.rest)) × IsUtf8 l.rest

abbrev pub decreases-loop-c : goal.decreases-loop-c
decreases-loop-c l = length l.rest
