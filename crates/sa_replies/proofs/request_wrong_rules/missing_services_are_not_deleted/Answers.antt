use Rattle.sa_replies.proofs.WrongRefusalLemmas.{missing_services_are_not_deleted}
use Rattle.sa_replies.proofs.request_wrong_rules.missing_services_are_not_deleted.Goals as goal

pub returns : goal.returns
returns c = missing_services_are_not_deleted
