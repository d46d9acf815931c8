use Rattle.audit_keys.proofs.WrongLemmas.{empty_places_are_no_keys}
use Rattle.audit_keys.proofs.wrong_rules.empty_places_are_no_keys.Goals as goal

pub returns : goal.returns
returns c = empty_places_are_no_keys
