use Rattle.joint_laws.proofs.AlikeLemmas.{loads_are_of_entries}
use Rattle.joint_laws.proofs.load_laws.loads_are_of_entries.Goals as goal

pub returns : goal.returns
returns c = loads_are_of_entries
