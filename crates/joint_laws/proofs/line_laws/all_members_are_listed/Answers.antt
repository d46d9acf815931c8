use Rattle.joint_laws.proofs.ListingLemmas.{all_members_are_listed}
use Rattle.joint_laws.proofs.line_laws.all_members_are_listed.Goals as goal

pub returns : goal.returns
returns c = all_members_are_listed
