use Rattle.mm_sched.proofs.ReadingOn.{one_schedule, one_bad_line, not_both, one_of_them}
use Rattle.mm_sched.proofs.text.a_text_is_read_in_one_way.Goals as goal

pub returns : goal.returns
returns c = record { one_schedule = one_schedule; one_bad_line = one_bad_line; not_both = not_both; one_of_them = one_of_them }
