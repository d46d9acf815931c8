use Rattle.std.specs.List.{zip}
use Rattle.subnet_fabric.specs.GuidOrder.{AreGuidsOf}
use Rattle.subnet_fabric.specs.Ports.{in_order, Rise}
use Rattle.subnet_fabric.proofs.PortLemmas.{IsLeft, end_places_and_keys}
use Rattle.subnet_fabric.proofs.end_ports.in_order.Given as goal

abbrev pub invariant-loop-end_place : goal.invariant-loop-end_place
invariant-loop-end_place l = record {
  order : AreGuidsOf l.all l.order-inside.guids.items;
  rise : Rise l.ports.items;
  left : IsLeft end_places_and_keys (λ both. (both.0.now, both.1)) l.nodes l.all l.ports.items l.end_place-iterator (in_order l.nodes l.all (zip l.end_places l.fn.keys.items));
}
