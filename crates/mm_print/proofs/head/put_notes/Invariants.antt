use Rattle.std.proofs.Common.{◌≡◌, ◌++◌, take, string_bytes}
use Rattle.std.specs.List.{flat_map}
use Rattle.mm_print.specs.HeadLines.{note_line}
use Rattle.mm_print.proofs.head.put_notes.Given as goal

abbrev pub invariant-loop-note : goal.invariant-loop-note
invariant-loop-note l = string_bytes l.out ≡ string_bytes l.fn.out ++ flat_map note_line (take l.note-index l.notes)
