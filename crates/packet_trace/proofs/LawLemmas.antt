-- The laws of traces, of packets to one port and to groups.
use Rattle.std.proofs.Common.{◌≡◌, ◌∙◌, inl, inr, refl, sym, subst, true, false, List, Some}
use Rattle.std.specs.Prelude.{◌↔◌}
use Rattle.std.specs.List.{Contains}
use Rattle.std.proofs.lemmas.Bool.{cases_Bool}
use Rattle.std.proofs.lemmas.Option.{same_Some}
use Rattle.data_packet.specs.declared.packet.Packet.{Packet}
use Rattle.fabric_parts.specs.Cable.{far_end}
use Rattle.fabric_parts.specs.Lid.{is_multicast}
use Rattle.fabric_parts.specs.declared.cable.PortRef.{PortRef}
use Rattle.packet_trace.proofs.DeliveryLemmas.{adapter_of, delivered_of, reported_of}
use Rattle.packet_trace.proofs.EndLemmas.{way_has_an_end}
use Rattle.packet_trace.proofs.ShownLemmas.{way_shows}
use Rattle.packet_trace.proofs.SpreadLemmas.{spread_reports_all}
use Rattle.packet_trace.specs.Laws.{AdaptersAccept, HasEnd, TracesHaveAnEnd, TracesShowAllWays, TracesReportDeliveries}
use Rattle.packet_trace.specs.Spread.{spread_of}
use Rattle.packet_trace.specs.Steps.{steps_of}
use Rattle.packet_trace.specs.Trace.{step, way_of}
use Rattle.packet_trace.specs.declared.turn.Step.{Step}
use Rattle.packet_trace.specs.declared.turn.Turn.{Turn}
use Rattle.packet_trace.specs.declared.turn.Turn.TheVariants.{Accepts}
use Rattle.smp_wire.specs.Deliveries.{Goes, IsDelivered, adapter_at}
use Rattle.port_model.specs.AdapterState.{AdapterState}
use Rattle.port_model.specs.Packets.{accepts_packet}
use Rattle.smp_wire.specs.FabricState.{FabricState}

module _ (fabric : FabricState) (packet : Packet) (first : PortRef) where
  by_way : is_multicast packet.dlid ≡ false → steps_of fabric packet first ≡ way_of fabric packet first
  by_way unicast = rw unicast refl

  by_spread : is_multicast packet.dlid ≡ true → steps_of fabric packet first ≡ (spread_of fabric packet first).steps
  by_spread multicast = rw multicast refl

-- ---- packets to multicast LIDs
module _ (fabric : FabricState) (packet : Packet) (first at : PortRef) (multicast : is_multicast packet.dlid ≡ true) where
  abbrev Reported : Turn → Type 0
  Reported turn = Contains (spread_of fabric packet first).steps (step at turn)

  shows : ((turn : Turn) × Reported turn) ↔ ((way : List PortRef) × Goes fabric.nodes fabric.cables packet first way at)
  shows =
      let all = spread_reports_all fabric packet first multicast in
      (λ reported. (all.reached at).0 (all.sound (step at reported.0) reported.1), λ goes. all.each at ((all.reached at).1 goes))

  spread_reported_of : (from : PortRef) (port : AdapterState) → far_end fabric.cables from ≡ Some first → adapter_at fabric.nodes at ≡ Some port
      → IsDelivered fabric.nodes fabric.cables from packet at port → Reported Accepts
  spread_reported_of from port cable there is =
      let all = spread_reports_all fabric packet first multicast in
      let same = same_Some is.first first (sym is.cable ∙ cable) in
      let goes = subst (λ (p : PortRef). Goes fabric.nodes fabric.cables packet p is.way at) same is.goes in
      all.reported at port ((all.reached at).1 (is.way, goes)) there is.accepts

  spread_delivered_of : (from : PortRef) (port : AdapterState) → far_end fabric.cables from ≡ Some first → adapter_at fabric.nodes at ≡ Some port
      → Reported Accepts → IsDelivered fabric.nodes fabric.cables from packet at port
  spread_delivered_of from port cable there reported =
      let all = spread_reports_all fabric packet first multicast in
      let way = (all.reached at).0 (all.sound (step at Accepts) reported) in
      let taken = all.taken (step at Accepts) reported refl in
      let same : taken.0 ≡ port = same_Some taken.0 port (sym taken.1.0 ∙ there) in
      record {
        first = first;
        cable = cable;
        way = way.0;
        goes = way.1;
        there = there;
        accepts = subst (λ (p : AdapterState). accepts_packet p packet ≡ true) same taken.1.1;
      }

-- ---- all packets
pub traces_report_deliveries : TracesReportDeliveries
traces_report_deliveries fabric packet from first at port cable there = elim (cases_Bool (is_multicast packet.dlid)) [
  | inl multicast ↦
      subst (λ (steps : List Step). IsDelivered fabric.nodes fabric.cables from packet at port ↔ Contains steps (step at Accepts))
      (sym (by_spread fabric packet first multicast))
      (spread_reported_of fabric packet first at multicast from port cable there, spread_delivered_of fabric packet first at multicast from port cable there)
  | inr unicast ↦
      subst (λ (steps : List Step). IsDelivered fabric.nodes fabric.cables from packet at port ↔ Contains steps (step at Accepts))
      (sym (by_way fabric packet first unicast))
      (reported_of fabric packet unicast first at from port cable there, delivered_of fabric packet unicast first at from port cable there)
]

pub adapters_accept : AdaptersAccept
adapters_accept fabric packet first at reported = elim (cases_Bool (is_multicast packet.dlid)) [
  | inl multicast ↦
      let there = subst (λ (steps : List Step). Contains steps (step at Accepts)) (by_spread fabric packet first multicast) reported in
      let taken = (spread_reports_all fabric packet first multicast).taken (step at Accepts) there refl in
      (taken.0, taken.1.0)
  | inr unicast ↦
      adapter_of fabric packet unicast first at
      (subst (λ (steps : List Step). Contains steps (step at Accepts)) (by_way fabric packet first unicast) reported)
]

pub traces_have_an_end : TracesHaveAnEnd
traces_have_an_end fabric packet from first unicast cable =
    subst (λ (steps : List Step). HasEnd steps) (sym (by_way fabric packet first unicast)) (way_has_an_end fabric packet from first cable)

pub traces_show_all_ways : TracesShowAllWays
traces_show_all_ways fabric packet first at = elim (cases_Bool (is_multicast packet.dlid)) [
  | inl multicast ↦
      subst (λ (steps : List Step). ((turn : Turn) × Contains steps (step at turn)) ↔ ((way : List PortRef) × Goes fabric.nodes fabric.cables packet first way at))
      (sym (by_spread fabric packet first multicast)) (shows fabric packet first at multicast)
  | inr unicast ↦
      subst (λ (steps : List Step). ((turn : Turn) × Contains steps (step at turn)) ↔ ((way : List PortRef) × Goes fabric.nodes fabric.cables packet first way at))
      (sym (by_way fabric packet first unicast)) (way_shows fabric packet unicast first at)
]
