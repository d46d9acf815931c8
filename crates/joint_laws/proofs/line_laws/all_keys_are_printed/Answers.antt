use Rattle.joint_laws.proofs.KeysLemmas.{all_keys_are_printed}
use Rattle.joint_laws.proofs.line_laws.all_keys_are_printed.Goals as goal

pub returns : goal.returns
returns c = all_keys_are_printed
