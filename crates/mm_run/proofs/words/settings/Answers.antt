use Rattle.mm_run.proofs.Wording.{not_asked}
use Rattle.mm_run.proofs.words.settings.Goals as goal

pub returns-clause-none : goal.returns-clause-none
returns-clause-none c = not_asked _ _ c.read_words.ensures
