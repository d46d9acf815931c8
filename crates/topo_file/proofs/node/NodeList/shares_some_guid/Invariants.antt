use Rattle.topo_file.specs.NewNode.{seen}
use Rattle.topo_file.proofs.KnownGuidLemmas.{NoneIsFound}
use Rattle.topo_file.proofs.node.NodeList.shares_some_guid.Given as goal

abbrev pub invariant-loop-number : goal.invariant-loop-number
invariant-loop-number l = NoneIsFound (seen l.node) l.number l.self
