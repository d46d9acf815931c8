use Rattle.std.proofs.Common.{◌<◌, ◌*◌, ◌∙◌, length, sym, arith}
use Rattle.smp_wire.proofs.WayLemmas.{begins, goes_on, goes_round}
use Rattle.fabric_wire.proofs.carrying.end_of_way.Goals as goal

pub loop-hops-init : goal.loop-hops-init
loop-hops-init c = begins c.args.nodes.now c.args.cabling.now.cables c.args.packet.now c.args.first

pub loop-hops-preserved : goal.loop-hops-preserved
loop-hops-preserved c =
    goes_on c.args.nodes.now c.args.cabling.now.cables c.args.packet.now c.args.first c.loop-hops.here c.in-Some.next c.loop-hops._hops
    c.requires.unicast c.loop-hops.invariant (sym c.next_port.ensures ∙ c.in-Some.is)

pub returns-clause-none : goal.returns-clause-none
returns-clause-none c =
    let ended = c.loop-hops-test.false in
    let ends = c.count_ends-hops-end.ensures in
    let many : 2 * length c.args.cabling.now.cables < c.loop-hops._hops = omega (arith, ended, ends) in
    λ none last end. goes_round c.args.nodes.now c.args.cabling.now.cables c.args.packet.now c.args.first c.loop-hops.here last c.loop-hops._hops
    c.requires.unicast c.loop-hops.invariant many end
