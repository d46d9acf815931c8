use Rattle.subnet_model.proofs.WrongLemmas.{destinations_are_no_sources, not_all_comes_from_near}
use Rattle.subnet_model.proofs.laws.far_sources_are_far.Goals as goal

pub returns-clause-all : goal.returns-clause-all
returns-clause-all c = not_all_comes_from_near

pub returns-clause-destinations : goal.returns-clause-destinations
returns-clause-destinations c = destinations_are_no_sources
