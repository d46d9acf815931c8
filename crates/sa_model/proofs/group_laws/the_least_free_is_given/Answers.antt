use Rattle.sa_model.proofs.FreeMlidLemmas.{the_least_free_is_given}
use Rattle.sa_model.proofs.group_laws.the_least_free_is_given.Goals as goal

pub returns : goal.returns
returns c = the_least_free_is_given
