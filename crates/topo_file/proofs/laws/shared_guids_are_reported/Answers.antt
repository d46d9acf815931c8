use Rattle.topo_file.proofs.GuidLemmas.{shared_guids_are_reported}
use Rattle.topo_file.proofs.laws.shared_guids_are_reported.Goals as goal

pub returns : goal.returns
returns c = shared_guids_are_reported
