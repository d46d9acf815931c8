use Rattle.std.proofs.Common.{◌≡◌, ◌∙◌, ap, map, nat_eq, subst, sym, Some}
use Rattle.std.proofs.lemmas.Result.{IfOk-weaker}
use Rattle.indexmap.specs.IndexMap.{get}
use Rattle.smp_wire.specs.Deliveries.{DeliveryState, guid_at}
use Rattle.smp_wire.specs.declared.numbers.Numbers.{Numbers}
use Rattle.smp_wire.specs.FabricState.{FabricState}
use Rattle.fabric_wire.specs.Cabling.{fabric_over}
use Rattle.fabric_wire.proofs.ReceiverLemmas.{are_deliveries}
use Rattle.fabric_wire.proofs.fabric.Fabric.spread_from.Goals as goal

pub returns : goal.returns
returns c =
    let fabric = fabric_over c.self.inside.nodes.items c.self.inside.cabling c.self.inside.manager in
    let receivers = c.in_ok-receivers.receivers.items in
    let at : Numbers → DeliveryState = λ one. record { port = one.guid; packet = c.args.packet.now } in
    IfOk-weaker c.at_each.result _ _
    (λ deliveries are port sends.
    let all : deliveries.items ≡ map at receivers = are ∙ ap (map at) c.deref-2.ensures.value in
    rw (all, ← c.self.view_is)
    (are_deliveries fabric (get nat_eq c.self.inside.adapter_ports) port c.args.packet.now c.args.from receivers c.self.invariant.found
    (subst (λ (state : FabricState). guid_at state.nodes c.args.from ≡ Some port) (sym c.self.view_is) sends)
    (rw c.deref.ensures.value at c.in_ok-receivers.ensures.each) c.in_ok-receivers.ensures.order))
    c.at_each.ensures
