use Rattle.std.proofs.Common.{◌≡◌, ◌∙◌, ap, drop, length, nat_eq, subst, sym, Bool, List, true}
use Rattle.std.proofs.Math.Seq.{take-append_seam}
use Rattle.indexmap.specs.IndexMap.{get}
use Rattle.smp_wire.specs.FabricState.{FabricState}
use Rattle.smp_wire.specs.declared.node.Node.{Node}
use Rattle.fabric_wire.specs.Cabling.{fabric_over}
use Rattle.fabric_wire.specs.Recabling.{cabling_with, can_change, nodes_linked}
use Rattle.fabric_wire.proofs.RecablingLemmas.{are_ports}
use Rattle.fabric_wire.proofs.RecablingLinkLemmas.{stays_kept}
use Rattle.fabric_wire.proofs.fabric.Fabric.set_cable.Goals as goal

pub set_links-requires-clause-first : goal.set_links-requires-clause-first
set_links-requires-clause-first c =
    let fabric : FabricState = fabric_over c.self.inside.nodes.items c.self.inside.cabling c.self.inside.manager in
    let can : can_change c.args.a c.args.b c.args.up fabric ≡ true =
    subst (λ (state : FabricState). can_change c.args.a c.args.b c.args.up state ≡ true) (sym c.self.view_is)
    (sym c.can_change.ensures ∙ c.if-not-can_change.false) in
    rw c.deref_mut.ensures.value (are_ports c.args.a c.args.b c.args.up fabric c.self.invariant.good can).0

pub set_links-requires-clause-second : goal.set_links-requires-clause-second
set_links-requires-clause-second c =
    let fabric : FabricState = fabric_over c.self.inside.nodes.items c.self.inside.cabling c.self.inside.manager in
    let can : can_change c.args.a c.args.b c.args.up fabric ≡ true =
    subst (λ (state : FabricState). can_change c.args.a c.args.b c.args.up state ≡ true) (sym c.self.view_is)
    (sym c.can_change.ensures ∙ c.if-not-can_change.false) in
    rw c.deref_mut.ensures.value (are_ports c.args.a c.args.b c.args.up fabric c.self.invariant.good can).1

-- the vector holds the nodes that the slice holds
pub invariant_of-self : goal.invariant_of-self
invariant_of-self c =
    let fabric : FabricState = fabric_over c.self.inside.nodes.items c.self.inside.cabling c.self.inside.manager in
    let can : can_change c.args.a c.args.b c.args.up fabric ≡ true =
    subst (λ (state : FabricState). can_change c.args.a c.args.b c.args.up state ≡ true) (sym c.self.view_is)
    (sym c.can_change.ensures ∙ c.if-not-can_change.false) in
    let nodes_are : c.set_links.new.nodes ≡ nodes_linked c.args.up c.args.a (nodes_linked c.args.up c.args.b fabric.nodes) =
    c.set_links.ensures
    ∙ ap (λ (nodes : List Node). nodes_linked c.args.up c.args.a (nodes_linked c.args.up c.args.b nodes)) c.deref_mut.ensures.value in
    let long : length c.set_links.new.nodes ≡ length c.self.inside.nodes.items = search in
    let same : c.self.inside.nodes.len ≡ length c.set_links.new.nodes = sym c.deref_mut.ensures.len ∙ ap length c.deref_mut.ensures.value ∙ sym long in
    let stands = take-append_seam c.set_links.new.nodes (drop (length c.set_links.new.nodes) c.self.inside.nodes.items) in
    let cabling : c.mend.new.self ≡ cabling_with c.args.up c.args.a c.args.b c.self.inside.cabling =
    c.mend.ensures ∙ ap (λ (up : Bool). cabling_with up c.args.a c.args.b c.self.inside.cabling) (sym c.if-up.true) in
    rw (same, stands)
    (stays_kept c.args.a c.args.b c.args.up fabric (get nat_eq c.self.inside.adapter_ports) c.set_links.new.nodes c.mend.new.self can nodes_are cabling
    c.self.invariant)

-- the vector holds the nodes that the slice holds
pub invariant_of-self-else-up : goal.invariant_of-self-else-up
invariant_of-self-else-up c =
    let fabric : FabricState = fabric_over c.self.inside.nodes.items c.self.inside.cabling c.self.inside.manager in
    let can : can_change c.args.a c.args.b c.args.up fabric ≡ true =
    subst (λ (state : FabricState). can_change c.args.a c.args.b c.args.up state ≡ true) (sym c.self.view_is)
    (sym c.can_change.ensures ∙ c.if-not-can_change.false) in
    let nodes_are : c.set_links.new.nodes ≡ nodes_linked c.args.up c.args.a (nodes_linked c.args.up c.args.b fabric.nodes) =
    c.set_links.ensures
    ∙ ap (λ (nodes : List Node). nodes_linked c.args.up c.args.a (nodes_linked c.args.up c.args.b nodes)) c.deref_mut.ensures.value in
    let long : length c.set_links.new.nodes ≡ length c.self.inside.nodes.items = search in
    let same : c.self.inside.nodes.len ≡ length c.set_links.new.nodes = sym c.deref_mut.ensures.len ∙ ap length c.deref_mut.ensures.value ∙ sym long in
    let stands = take-append_seam c.set_links.new.nodes (drop (length c.set_links.new.nodes) c.self.inside.nodes.items) in
    let cabling : c.cut.new.self ≡ cabling_with c.args.up c.args.a c.args.b c.self.inside.cabling =
    c.cut.ensures ∙ ap (λ (up : Bool). cabling_with up c.args.a c.args.b c.self.inside.cabling) (sym c.if-up.false) in
    rw (same, stands)
    (stays_kept c.args.a c.args.b c.args.up fabric (get nat_eq c.self.inside.adapter_ports) c.set_links.new.nodes c.cut.new.self can nodes_are cabling
    c.self.invariant)
