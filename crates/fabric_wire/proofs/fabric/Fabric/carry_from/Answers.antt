use Rattle.std.proofs.Common.{◌≡◌, ◌∙◌, nat_eq, subst, sym, Some}
use Rattle.indexmap.specs.IndexMap.{get}
use Rattle.smp_wire.specs.Deliveries.{guid_at}
use Rattle.smp_wire.specs.FabricState.{FabricState}
use Rattle.fabric_wire.specs.Cabling.{fabric_over}
use Rattle.fabric_wire.proofs.KeptPortLemmas.{is_delivered, reaches_nobody}
use Rattle.fabric_wire.proofs.fabric.Fabric.carry_from.Goals as goal
use Rattle.fabric_wire.proofs.fabric.Fabric.carry_from.Goals.{in-Some+in_ok-at+in_ok-push, in_default}

pub returns : goal.returns
returns c =
    let fabric = fabric_over c.self.inside.nodes.items c.self.inside.cabling c.self.inside.manager in
    elim c.match-receiver.branch [
      | in-Some+in_ok-at+in_ok-push w ↦ λ port sends.
          rw (w.deliveries-is, w.in_ok-push.ensures.items, c.in_ok-deliveries.ensures.items, w.in_ok-at.ensures, w.port_guid.ensures, ← c.self.view_is)
          (is_delivered fabric (get nat_eq c.self.inside.adapter_ports) port c.args.packet.now c.args.from w.in-Some.receiver.now
          (sym c.is_multicast.ensures ∙ c.if-is_multicast.false) c.self.invariant.found (subst (λ (state : FabricState). guid_at state.nodes c.args.from ≡ Some port) (sym c.self.view_is) sends) (rw (← c.deref.ensures.value) w.in-Some.ensures.some))
      | in_default w ↦ λ port sends.
          rw (w.deliveries-is, c.in_ok-deliveries.ensures.items, ← c.self.view_is)
          (reaches_nobody fabric (get nat_eq c.self.inside.adapter_ports) port c.args.packet.now c.args.from
          c.self.invariant.found (subst (λ (state : FabricState). guid_at state.nodes c.args.from ≡ Some port) (sym c.self.view_is) sends) (rw (← c.deref.ensures.value) (c.receiver.ensures.none w.in_default.is)))
    ]
