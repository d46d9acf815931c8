use Rattle.sa_model.proofs.ShareLemmas.{sharing_is_one_thing}
use Rattle.sa_model.proofs.query_laws.sharing_is_one_thing.Goals as goal

pub returns : goal.returns
returns c = sharing_is_one_thing
