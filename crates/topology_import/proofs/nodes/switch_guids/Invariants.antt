use Rattle.std.proofs.Common.{take}
use Rattle.topology_import.specs.Nodes.{KnowsSwitches}
use Rattle.topology_import.proofs.nodes.switch_guids.Given as goal

abbrev pub invariant-loop-node : goal.invariant-loop-node
invariant-loop-node l = KnowsSwitches l.guids.keys (take l.node-index l.nodes)
