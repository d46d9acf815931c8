use Rattle.partition_file.proofs.MembershipLemmas.{keys_report_membership}
use Rattle.partition_file.proofs.laws.keys_report_membership.Goals as goal

pub returns : goal.returns
returns c = keys_report_membership
