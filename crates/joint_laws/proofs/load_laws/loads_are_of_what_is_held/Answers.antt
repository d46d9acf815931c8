use Rattle.joint_laws.proofs.OwnRowLemmas.{loads_are_of_what_is_held}
use Rattle.joint_laws.proofs.load_laws.loads_are_of_what_is_held.Goals as goal

pub returns : goal.returns
returns c = loads_are_of_what_is_held
