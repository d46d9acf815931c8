use Rattle.agent_rules.proofs.TakenLemmas.{node_infos_name_guids}
use Rattle.agent_rules.proofs.laws.node_infos_name_guids.Goals as goal

pub returns : goal.returns
returns c = node_infos_name_guids
