use Rattle.switch_model.proofs.ForwardingLemmas.{goes_by_entries}
use Rattle.switch_model.proofs.laws.unicast_goes_by_entries.Goals as goal

pub returns : goal.returns
returns c = goes_by_entries
