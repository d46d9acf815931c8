use Rattle.std.proofs.Common.{◌≡◌, ◌<◌, ap, length, arith}
use Rattle.std.proofs.lemmas.List.{map_more}
use Rattle.updn_routes.specs.Subnet.{home_in}
use Rattle.updn_routes.proofs.GraphLemmas.{lids_count}
use Rattle.updn_routes.proofs.cabling.homes_of.Goals as goal

pub loop-before-preserved : goal.loop-before-preserved
loop-before-preserved c =
    let switches : length c.switches.result.now ≡ length c.args.graph.now.switches = ap length c.switches.ensures in
    let ports : length c.ports.result.now ≡ length c.args.graph.now.ports = ap length c.ports.ensures in
    let count = lids_count c.args.graph.now c.args.lids.now c.requires in
    let less : c.loop-before.before < length c.args.lids.now = omega (arith, switches, ports, count) in
    let more = map_more (home_in c.args.graph.now) c.args.lids.now c.loop-before.before 0 less in
    cc (more, c.in_ok-push.ensures.items, c.home_of.ensures, c.switches.ensures, c.ports.ensures, c.loop-before.invariant)
