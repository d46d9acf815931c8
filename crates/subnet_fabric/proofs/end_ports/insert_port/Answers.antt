use Rattle.subnet_fabric.proofs.PlacedLemmas.{insert_in_order, rises_with}
use Rattle.subnet_fabric.proofs.end_ports.insert_port.Goals as goal

pub returns-clause-placed : goal.returns-clause-placed
returns-clause-placed c = rw (c.in_ok-insert.ensures.items, c.place_for-place.ensures.value, c.deref.ensures.value) (insert_in_order c.args.ports.now.items c.args.port)

pub returns-clause-rise : goal.returns-clause-rise
returns-clause-rise c =
    rw (c.in_ok-insert.ensures.items, c.place_for-place.ensures.value, c.deref.ensures.value, insert_in_order c.args.ports.now.items c.args.port)
    (rises_with c.args.ports.now.items c.args.port c.requires)
