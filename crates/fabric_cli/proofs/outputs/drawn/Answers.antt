use Rattle.fabric_cli.proofs.LoadLemmas.{load_comes}
use Rattle.fabric_cli.proofs.outputs.drawn.Goals as goal

pub returns-clause-exact : goal.returns-clause-exact
returns-clause-exact c =
    let text =
    rw (c.topology.ensures, c.fabric.ensures.value, c.configuration.ensures, c.routes.ensures, c.inventory-inventory.ensures) at c.graph_text.ensures in
    load_comes _ c.graph_text.result c.text_or_stop.result text c.text_or_stop.ensures.made c.text_or_stop.ensures.fault
