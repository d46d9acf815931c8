use Rattle.fabric_cli.proofs.LoadLemmas.{load_comes}
use Rattle.fabric_cli.proofs.outputs.loads_drawn.Goals as goal

pub returns-clause-exact : goal.returns-clause-exact
returns-clause-exact c =
    let text =
    rw (
      c.as_slice.ensures.value,
      c.in_ok-looks.ensures,
      c.topology-topology.ensures,
      c.ports-ports.ensures,
      c.lids.ensures,
      c.fabric-fabric.ensures.value,
      c.configuration-configuration.ensures,
      c.routes-routes.ensures,
      c.inventory-inventory.ensures,
    )
    at c.graph_text.ensures in
    load_comes _ c.graph_text.result c.text_or_stop.result text c.text_or_stop.ensures.made c.text_or_stop.ensures.fault
