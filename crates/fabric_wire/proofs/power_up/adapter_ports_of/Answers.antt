use Rattle.std.proofs.Common.{arith}
use Rattle.fabric_wire.specs.OfTopology.{adapter_port_of}
use Rattle.fabric_wire.proofs.PowerUpLemmas.{one_port_more}
use Rattle.fabric_wire.proofs.power_up.adapter_ports_of.Goals as goal

pub loop-number-preserved : goal.loop-number-preserved
loop-number-preserved c =
    record {
      first = omega arith;
      ports = one_port_more (adapter_port_of c.args.topology.now.cables c.args.place c.args.node.now)
          c.loop-number.number c.loop-number.ports.items c.push.new.self.items c.adapter_port_of.result
          c.loop-number.invariant.first c.loop-number.invariant.ports c.adapter_port_of.ensures
          c.in_ok-push.ensures.items;
    }
