use Rattle.sa_model.proofs.QueryWrongPairLemmas.{own_first_is_out_of_order}
use Rattle.sa_model.proofs.query_wrong_rules.own_first_is_out_of_order.Goals as goal

pub returns : goal.returns
returns c = own_first_is_out_of_order
