use Rattle.fabric_cli.proofs.LoadLemmas.{load_comes}
use Rattle.fabric_cli.proofs.outputs.loaded.Goals as goal

pub returns-clause-exact : goal.returns-clause-exact
returns-clause-exact c =
    let text =
    rw (c.topology.ensures, c.ports.ensures, c.lids.ensures, c.fabric.ensures.value, c.configuration.ensures, c.routes.ensures, c.inventory-inventory.ensures)
    at c.own_load_text.ensures in
    load_comes _ c.own_load_text.result c.text_or_stop.result text c.text_or_stop.ensures.made c.text_or_stop.ensures.fault
