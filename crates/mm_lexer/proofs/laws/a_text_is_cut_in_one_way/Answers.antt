use Rattle.mm_lexer.proofs.Unique.{tokens_unique, fault_unique, tokens_or_fault, tokens_and_fault}
use Rattle.mm_lexer.proofs.laws.a_text_is_cut_in_one_way.Goals as goal

pub returns-clause-one_list : goal.returns-clause-one_list
returns-clause-one_list c = tokens_unique

pub returns-clause-one_fault : goal.returns-clause-one_fault
returns-clause-one_fault c = fault_unique

pub returns-clause-not_both : goal.returns-clause-not_both
returns-clause-not_both c = tokens_or_fault

pub returns-clause-one_of_them : goal.returns-clause-one_of_them
returns-clause-one_of_them c = tokens_and_fault
