use Rattle.joint_laws.proofs.ShareLemmas.{all_shares_are_printed}
use Rattle.joint_laws.proofs.line_laws.all_shares_are_printed.Goals as goal

pub returns : goal.returns
returns c = all_shares_are_printed
