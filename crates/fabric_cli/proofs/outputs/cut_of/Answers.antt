use Rattle.fabric_cli.proofs.CutLemmas.{can_be}
use Rattle.fabric_cli.proofs.outputs.cut_of.Goals as goal

pub cut_text-requires-clause-cable : goal.cut_text-requires-clause-cable
cut_text-requires-clause-cable c = can_be c.topology-topology.result.now c.in-Ok.cable c.in-Ok.ensures.there
