use Rattle.sa_replies.proofs.NamedAnswerLemmas.{only_named_fields_count}
use Rattle.sa_replies.proofs.request_laws.only_named_fields_count.Goals as goal

pub returns : goal.returns
returns c = only_named_fields_count
