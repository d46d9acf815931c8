use Rattle.std.proofs.Common.{refl}
use Rattle.subnet_fabric.proofs.setting_up.graph_of.Goals as goal

pub returns-clause-found : goal.returns-clause-found
returns-clause-found c =
    let finds = c.in_ok-sweep.ensures.found c.args.fabric.now refl c.requires in
    record { of = finds.graph_is; joined = c.in_ok-sweep.ensures.joined; near = finds.near; small = finds.small }
