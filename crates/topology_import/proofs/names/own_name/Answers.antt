use Rattle.topology_import.proofs.NameLemmas.{tried_more}
use Rattle.topology_import.proofs.names.own_name.Goals as goal

pub returns-clause-tried : goal.returns-clause-tried
returns-clause-tried c =
    tried_more c.args.tried.now c.insert.new.self c.args.nodes.now c.args.name c.in_ok-number.number c.requires
    (rw c.as_slice-2.ensures.value at c.in_ok-number.ensures.taken) c.in_ok-insert.ensures.updates.0
