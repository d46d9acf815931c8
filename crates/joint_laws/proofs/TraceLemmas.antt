-- What `trace` prints has the line of each step.
use Rattle.std.proofs.Common.{◌≡◌, sym, subst, ℕ, List, [], flat_map, Option, Some, Result, Ok, Err}
use Rattle.std.specs.List.{Contains}
use Rattle.std.specs.Option.{option_map_or}
use Rattle.std.specs.Str.Iter.{HasSubslice}
use Rattle.audit_plan.proofs.SubsliceLemmas.{stands_behind, stands_itself, stands_longer}
use Rattle.data_packet.specs.declared.packet.Packet.{Packet}
use Rattle.data_packet.specs.declared.refusal.Refusal.{Refusal}
use Rattle.smp_wire.specs.Deliveries.{adapter_at}
use Rattle.fabric_parts.specs.Cable.{far_end}
use Rattle.fabric_parts.specs.declared.cable.PortRef.{PortRef}
use Rattle.packet_trace.specs.Lines.{refuses_line, stamps_line, step_line, text_from, text_of_sent, trace_text, way_text}
use Rattle.packet_trace.specs.Steps.{steps_of}
use Rattle.packet_trace.specs.declared.turn.Step.{Step}
use Rattle.port_model.specs.AdapterState.{AdapterState}
use Rattle.port_model.specs.Packets.{stamped}
use Rattle.joint_laws.proofs.StandingLemmas.{stands_if_there}
use Rattle.joint_laws.specs.LineLaws.{AllStepsArePrinted, data_qp}
use Rattle.smp_wire.specs.FabricState.{FabricState}
use Rattle.topo_file.specs.declared.node.Node.{Node as PlannedNode}

module _ (nodes : List PlannedNode) (fabric : FabricState) (from : PortRef) (dlid p_key : ℕ) (port : AdapterState)
    (there : adapter_at fabric.nodes from ≡ Some port) where
  in_trace : (sent : Result Packet Refusal) (line : List ℕ) → stamped port dlid p_key data_qp [] ≡ sent
      → HasSubslice (text_of_sent nodes fabric from sent) line → HasSubslice (trace_text nodes fabric from dlid p_key) line
  in_trace sent line is stands =
      subst (λ (o : Option AdapterState). HasSubslice (option_map_or (text_from nodes fabric from dlid p_key) o []) line) (sym there)
      (subst (λ (one : Result Packet Refusal). HasSubslice (text_of_sent nodes fabric from one) line) (sym is) stands)

  stamp_printed : (packet : Packet) → stamped port dlid p_key data_qp [] ≡ Ok packet
      → HasSubslice (trace_text nodes fabric from dlid p_key) (stamps_line nodes from packet)
  stamp_printed packet is =
      let line = stamps_line nodes from packet in
      in_trace (Ok packet) line is (stands_longer line (way_text nodes fabric from packet) (stands_itself line))

  step_printed : (packet : Packet) (first : PortRef) (step : Step) → stamped port dlid p_key data_qp [] ≡ Ok packet
      → far_end fabric.cables from ≡ Some first → Contains (steps_of fabric packet first) step
      → HasSubslice (trace_text nodes fabric from dlid p_key) (step_line nodes step)
  step_printed packet first step is leads listed =
      let line = step_line nodes step in
      let own = stands_if_there (step_line nodes) line (steps_of fabric packet first) step listed (stands_itself line) in
      in_trace (Ok packet) line is
      (stands_behind line (stamps_line nodes from packet)
      (subst (λ (o : Option PortRef). HasSubslice (flat_map (step_line nodes) (option_map_or (steps_of fabric packet) o [])) line) (sym leads) own))

  refusal_printed : (refusal : Refusal) → stamped port dlid p_key data_qp [] ≡ Err refusal
      → HasSubslice (trace_text nodes fabric from dlid p_key) (refuses_line nodes from refusal)
  refusal_printed refusal is = let line = refuses_line nodes from refusal in in_trace (Err refusal) line is (stands_itself line)

pub all_steps_are_printed : AllStepsArePrinted
all_steps_are_printed = record {
  stamps = λ nodes fabric from dlid p_key port packet there is. stamp_printed nodes fabric from dlid p_key port there packet is;
  steps = λ nodes fabric from dlid p_key port packet first step there is leads listed.
      step_printed nodes fabric from dlid p_key port there packet first step is leads listed;
  refusals = λ nodes fabric from dlid p_key port refusal there is. refusal_printed nodes fabric from dlid p_key port there refusal is;
}
