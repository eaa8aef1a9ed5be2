use Rattle.mm_parse_expr.proofs.WordNames.{name_symbol, word_is_no_name}
use Rattle.mm_parse_expr.proofs.laws.names_are_no_words.Goals as goal

pub returns-clause-name : goal.returns-clause-name
returns-clause-name c = name_symbol

pub returns-clause-word : goal.returns-clause-word
returns-clause-word c = word_is_no_name
