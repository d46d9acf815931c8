use Rattle.pkey_rules.proofs.StoredKeyLemmas.{keys_are_stored}
use Rattle.pkey_rules.proofs.laws.keys_are_stored.Goals as goal

pub returns : goal.returns
returns c = keys_are_stored
