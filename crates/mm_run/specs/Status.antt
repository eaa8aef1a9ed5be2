-- The exit status of each way to end.
use Rattle.std.specs.Prelude.{ℕ}
use Rattle.mm_run.specs.declared.status.Status.{Status}
use Rattle.mm_run.specs.declared.status.Status.TheVariants.{Done, Words, ReadFault, TooLong, Refused, BadSchedule, Stuck, NotFailing, WriteFault, NoMemory}

abbrev pub number_of : Status → ℕ
number_of Done = 0
number_of Words = 1
number_of ReadFault = 2
number_of TooLong = 3
number_of Refused = 4
number_of BadSchedule = 5
number_of Stuck = 6
number_of NotFailing = 7
number_of WriteFault = 8
number_of NoMemory = 9
