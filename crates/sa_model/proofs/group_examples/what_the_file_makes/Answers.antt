use Rattle.sa_model.proofs.GroupExampleLemmas.{what_the_file_makes}
use Rattle.sa_model.proofs.group_examples.what_the_file_makes.Goals as goal

pub returns : goal.returns
returns c = what_the_file_makes
