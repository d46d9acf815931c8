use Rattle.sa_replies.proofs.RequestWrongLemmas.{new_groups_have_their_maker}
use Rattle.sa_replies.proofs.request_wrong_rules.new_groups_have_their_maker.Goals as goal

pub returns : goal.returns
returns c = new_groups_have_their_maker
