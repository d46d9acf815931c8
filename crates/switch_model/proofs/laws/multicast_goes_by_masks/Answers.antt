use Rattle.switch_model.proofs.MulticastLemmas.{goes_by_masks}
use Rattle.switch_model.proofs.laws.multicast_goes_by_masks.Goals as goal

pub returns : goal.returns
returns c = goes_by_masks
