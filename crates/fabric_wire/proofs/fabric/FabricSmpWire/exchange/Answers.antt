use Rattle.std.proofs.Common.{◌≡◌, ◌∙◌, ap, drop, length, nat_eq, subst, sym}
use Rattle.std.proofs.Math.Seq.{take-append_seam}
use Rattle.smp_wire.specs.FabricState.{FabricState}
use Rattle.smp_wire.specs.Good.{ShowsLinks}
use Rattle.smp_wire.proofs.KeptLemmas.{good, links}
use Rattle.indexmap.specs.IndexMap.{get}
use Rattle.fabric_wire.specs.Cabling.{fabric_over}
use Rattle.fabric_wire.proofs.KeptPortLemmas.{still_finds}
use Rattle.fabric_wire.proofs.fabric.FabricSmpWire.exchange.Goals as goal

-- the vector holds the nodes that the slice holds
pub invariant_of-self : goal.invariant_of-self
invariant_of-self c =
    let fabric : FabricState = fabric_over c.deref_mut.result.now c.self.inside.cabling c.self.inside.manager in
    let long : length c.exchange.new.nodes ≡ length c.self.inside.nodes.items = search in
    let same : c.self.inside.nodes.len ≡ length c.exchange.new.nodes = sym c.deref_mut.ensures.len ∙ ap length c.deref_mut.ensures.value ∙ sym long in
    let stands = take-append_seam c.exchange.new.nodes (drop (length c.exchange.new.nodes) c.self.inside.nodes.items) in
    record {
      good = rw (same, stands, c.exchange.ensures.change) (good fabric c.args.smp.now (rw c.deref_mut.ensures.value c.self.invariant.good));
      links = rw (same, stands)
          (subst ShowsLinks (sym c.exchange.ensures.change) (links fabric c.args.smp.now (rw c.deref_mut.ensures.value c.self.invariant.links)));
      found = rw (same, stands, ap (λ (state : FabricState). state.nodes) c.exchange.ensures.change)
          (still_finds fabric c.args.smp.now (get nat_eq c.self.inside.adapter_ports) (rw c.deref_mut.ensures.value c.self.invariant.found));
    }
