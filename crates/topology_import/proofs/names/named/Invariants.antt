use Rattle.std.proofs.Common.{◌≡◌, [], drop}
use Rattle.topology_import.specs.Names.{named}
use Rattle.topology_import.specs.Tried.{KnowsTried}
use Rattle.topology_import.proofs.names.named.Given as goal

abbrev pub invariant-loop-node : goal.invariant-loop-node
invariant-loop-node l = record {
  same : named l.found [] l.nodes ≡ named l.found l.list (drop l.node-index l.nodes);
  knows : KnowsTried l.tried l.list;
}
