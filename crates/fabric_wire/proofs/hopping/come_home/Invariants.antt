use Rattle.smp_route.specs.HopFields.{count}
use Rattle.fabric_wire.specs.Hopping.{leads_home}
use Rattle.fabric_wire.proofs.ReturnLemmas.{IsComing}
use Rattle.fabric_wire.proofs.hopping.come_home.Given as goal

abbrev pub invariant-loop-hops : goal.invariant-loop-hops
invariant-loop-hops l =
    IsComing l.nodes l.cabling.cables l.fn.manager.node (leads_home l.nodes l.cabling.cables l.fn.manager.node l.fn.smp
    (count l.fn.smp) l.fn.agent.node) l.fn.smp l._hops l.at l.came_by l.smp
