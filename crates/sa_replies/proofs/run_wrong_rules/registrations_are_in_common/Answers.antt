use Rattle.sa_replies.proofs.RunWrongLemmas.{registrations_are_in_common}
use Rattle.sa_replies.proofs.run_wrong_rules.registrations_are_in_common.Goals as goal

pub returns : goal.returns
returns c = registrations_are_in_common
