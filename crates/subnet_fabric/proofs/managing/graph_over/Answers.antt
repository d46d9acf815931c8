use Rattle.subnet_fabric.proofs.managing.graph_over.Goals as goal

pub returns-clause-found : goal.returns-clause-found
returns-clause-found g c fabric is sweepable =
    let finds = c.in_ok-sweep.ensures.found fabric is sweepable in
    record { of = finds.graph_is; joined = c.in_ok-sweep.ensures.joined; near = finds.near; small = finds.small }
