use Rattle.updn_routes.proofs.AdapterNumberLemmas.{adapters_are_numbered}
use Rattle.updn_routes.proofs.tie_laws.adapters_ports_are_numbered.Goals as goal

pub returns : goal.returns
returns c = adapters_are_numbered
