-- What is printed has a line for each thing that it is printed of: the statements of the laws of `src/line_laws.rt`.
use Rattle.std.specs.Prelude.{ℕ, ◌≡◌, ◌≢◌, ◌⊎◌, ◌<◌, ◌≤◌, ◌+◌, true, false, List, ◌++◌, codes, length, slice_get, Option, Some, None, Ok, Err, []}
use Rattle.std.specs.List.{Contains, zip}
use Rattle.std.specs.Str.Iter.{HasSubslice}
use Rattle.agent_rules.specs.declared.power_up.TheConstants.{MULTICAST_TABLE}
use Rattle.cable_cuts.specs.Changes.{changes, entry_by}
use Rattle.cable_cuts.specs.Outcomes.{IsOutcome}
use Rattle.cable_cuts.specs.Texts.{ReportsAll, change_line, lines_of_one, loss_line}
use Rattle.cable_cuts.specs.declared.changes.Change.{Change as EntryChange}
use Rattle.cable_cuts.specs.declared.fate.Cut.{Cut}
use Rattle.cable_cuts.specs.declared.fate.Cut.TheVariants.{Keeps}
use Rattle.cable_cuts.specs.declared.outcome.Outcome.{Outcome}
use Rattle.data_packet.specs.declared.packet.Packet.{Packet}
use Rattle.data_packet.specs.declared.refusal.Refusal.{Refusal}
use Rattle.smp_wire.specs.Deliveries.{adapter_at}
use Rattle.fabric_graph.specs.Graph.{edge_at, rank_text, text_of}
use Rattle.fabric_graph.specs.Lists.{attachments_of, place_text}
use Rattle.fabric_graph.specs.Ranks.{rank_count}
use Rattle.fabric_graph.specs.Rows.{Picture, thick_edges}
use Rattle.fabric_graph.specs.ThickEdges.{thick_edge}
use Rattle.fabric_parts.specs.Cable.{far_end}
use Rattle.fabric_parts.specs.declared.cable.Cable.{Cable}
use Rattle.fabric_parts.specs.declared.cable.PortRef.{PortRef}
use Rattle.fabric_parts.specs.declared.lid.TheConstants.{FIRST_MULTICAST_LID}
use Rattle.fabric_tables.specs.Keys.{keys_line, keys_text, words_in}
use Rattle.fabric_tables.specs.Multicast.{mlid_line, tables_text}
use Rattle.fabric_tables.specs.Tables.{entry_line}
use Rattle.partition_reports.specs.Lines.{heading_line, member_line}
use Rattle.packet_trace.specs.Lines.{refuses_line, stamps_line, step_line, trace_text}
use Rattle.packet_trace.specs.Steps.{steps_of}
use Rattle.packet_trace.specs.declared.turn.Step.{Step}
use Rattle.partition_reports.specs.Changes.{Change, bases_named, change_of_member_line, group_changes, group_line, member_changes, partition_changes}
use Rattle.partition_reports.specs.Changes.{partition_line, share_changes, sign}
use Rattle.partition_reports.specs.ChangedSums.{listed_changes}
use Rattle.partition_file.specs.declared.heading.Heading.{Heading}
use Rattle.pkey_rules.specs.KeyTable.{find_base, shares_base}
use Rattle.port_model.specs.AdapterState.{AdapterState}
use Rattle.port_model.specs.Packets.{stamped}
use Rattle.partition_reports.specs.Shares.{Share, share_line}
use Rattle.partition_reports.specs.Sums.{are_few, listed_shares, sum_line, sum_of}
use Rattle.smp_wire.specs.FabricState.{FabricState, is_switch_at as is_node_switch}
use Rattle.smp_wire.specs.declared.node.Node.{Node}
use Rattle.smp_wire.specs.declared.node.Node.TheVariants.{Switch}
use Rattle.subnet_core.specs.Listing.{listing_text, port_line}
use Rattle.subnet_model.specs.Configuration.{ConfigurationState}
use Rattle.subnet_model.specs.declared.subnet_port.SubnetPort.{SubnetPort}
use Rattle.sweep.specs.declared.graph.GraphSwitch.{GraphSwitch}
use Rattle.switch_model.specs.Forwarding.{linear_entry_of}
use Rattle.switch_model.specs.Multicast.{is_in_masks}
use Rattle.switch_model.specs.SwitchState.{SwitchState, num_ports}
use Rattle.topo_file.specs.Node.{is_switch_at, place_of}
use Rattle.topo_file.specs.Topology.{TopologyState}
use Rattle.topo_file.specs.declared.node.Node.{Node as PlannedNode}
use Rattle.updn_routes.specs.Subnet.{RoutesState}

-- ---- `check`: each end port, each partition, and each member of one
pub record ListsAll (text : ConfigurationState → List ℕ) : Type 0 where
  pub ports : (subnet : ConfigurationState) (port : SubnetPort) → Contains subnet.ports port → HasSubslice (text subnet) (port_line port)
  pub partitions : (subnet : ConfigurationState) (number : ℕ) (heading : Heading) → slice_get subnet.partitions number ≡ Some heading
      → HasSubslice (text subnet) (heading_line number heading)
  pub members : (subnet : ConfigurationState) (heading : Heading) (port : SubnetPort) (key : ℕ) → Contains subnet.partitions heading
      → Contains subnet.ports port → find_base heading.base port.keys ≡ Some key → HasSubslice (text subnet) (member_line port key)

abbrev pub AllMembersAreListed : Type 0
AllMembersAreListed = ListsAll listing_text

-- ---- `shares`
-- two end ports, of which one stands behind the other, may talk in the partition of this base
pub record MayTalk (ports : List SubnetPort) (share : Share) : Type 0 where
  pub place : ℕ
  pub later : ℕ
  pub behind : place < later
  pub first_is : slice_get ports place ≡ Some share.first
  pub second_is : slice_get ports later ≡ Some share.second
  pub base_above : 1 ≤ share.base
  pub base_below : share.base < 32768
  pub match : shares_base share.base share.first.keys share.second.keys ≡ true

-- each such pair has its line, if one of the two is asked for, or if no port is and they are few; of more ports each partition has one
pub record PrintsShares (text : Option ℕ → ConfigurationState → List ℕ) : Type 0 where
  pub asked : (guid : ℕ) (subnet : ConfigurationState) (share : Share) → MayTalk subnet.ports share
      → (share.first.guid ≡ guid) ⊎ (share.second.guid ≡ guid) → HasSubslice (text (Some guid) subnet) (share_line share)
  pub pairs : (subnet : ConfigurationState) (share : Share) → are_few subnet.ports ≡ true → MayTalk subnet.ports share
      → HasSubslice (text None subnet) (share_line share)
  pub sums : (subnet : ConfigurationState) (heading : Heading) → are_few subnet.ports ≡ false → Contains subnet.partitions heading
      → HasSubslice (text None subnet) (sum_line (sum_of subnet.ports heading.base))

abbrev pub AllSharesArePrinted : Type 0
AllSharesArePrinted = PrintsShares listed_shares

-- ---- `diff`
abbrev pub signed_line : {X : Type 0} → (X → List ℕ) → Change X → List ℕ
signed_line line change = sign change.comes ++ line change.what

-- each partition, group, member and pair that goes or comes; of many ports the sums of a partition that differ, in place of pairs
pub record PrintsChanges (text : ConfigurationState → ConfigurationState → List ℕ) : Type 0 where
  pub partitions : (before after : ConfigurationState) (change : Change (ℕ × Heading))
      → Contains (partition_changes before.partitions after.partitions) change → HasSubslice (text before after) (signed_line partition_line change)
  pub groups : (before after : ConfigurationState) (change : Change Heading)
      → Contains (group_changes before.partitions after.partitions) change → HasSubslice (text before after) (signed_line group_line change)
  pub members : (before after : ConfigurationState) (change : Change (SubnetPort × ℕ))
      → Contains (member_changes (bases_named before.partitions after.partitions) (zip before.ports after.ports)) change
      → HasSubslice (text before after) (signed_line change_of_member_line change)
  pub pairs : (before after : ConfigurationState) (change : Change Share) → are_few before.ports ≡ true
      → Contains (share_changes (zip before.ports after.ports)) change → HasSubslice (text before after) (signed_line share_line change)
  pub sums : (before after : ConfigurationState) (heading : Heading) → are_few before.ports ≡ false
      → Contains (before.partitions ++ after.partitions) heading
      → sum_of before.ports heading.base ≢ sum_of after.ports heading.base
      → HasSubslice (text before after) (codes "- " ++ sum_line (sum_of before.ports heading.base))
      × HasSubslice (text before after) (codes "+ " ++ sum_line (sum_of after.ports heading.base))

abbrev pub AllChangesArePrinted : Type 0
AllChangesArePrinted = PrintsChanges listed_changes

-- ---- `cuts`
-- each cable between switches has the line of what its loss does
abbrev pub PrintsCuts : (TopologyState → ConfigurationState → RoutesState → List ℕ → Type 0) → Type 0
PrintsCuts reports =
    (plan : TopologyState) (configuration : ConfigurationState) (routes : RoutesState) (text : List ℕ) (cable : Cable)
    → reports plan configuration routes text → Contains plan.cables cable → is_switch_at plan.nodes cable.first.node ≡ true
    → is_switch_at plan.nodes cable.second.node ≡ true
    → (outcome : Outcome) × IsOutcome plan configuration routes cable outcome
    × HasSubslice text (loss_line plan.nodes configuration.ports cable outcome)

abbrev pub AllCutsArePrinted : Type 0
AllCutsArePrinted = PrintsCuts ReportsAll

-- of one cable each entry that differs has its line
abbrev pub PrintsEntries : (List PlannedNode → ConfigurationState → RoutesState → Cable → Cut → List ℕ) → Type 0
PrintsEntries text =
    (nodes : List PlannedNode) (configuration : ConfigurationState) (routes others : RoutesState) (cable : Cable) (change : EntryChange)
    → Contains (changes configuration.ports (entry_by routes) (entry_by others)) change
    → HasSubslice (text nodes configuration routes cable (Keeps others)) (change_line configuration.ports change)

abbrev pub AllEntriesArePrinted : Type 0
AllEntriesArePrinted = PrintsEntries lines_of_one

-- ---- `tables`: of each switch the LFT row of each end port to which an entry leads, and the MFT row of each MLID of which a bit is set
pub record PrintsTables (text : List PlannedNode → List SubnetPort → List GraphSwitch → FabricState → List ℕ) : Type 0 where
  pub entries : (nodes : List PlannedNode) (ports : List SubnetPort) (switches : List GraphSwitch) (fabric : FabricState) (switch : SubnetPort)
      (place : ℕ) (held : SwitchState) (port : SubnetPort) (entry : ℕ) → Contains ports switch → place_of switch.node_name nodes ≡ Some place
      → slice_get fabric.nodes place ≡ Some (Switch held) → Contains ports port → linear_entry_of held port.lid ≡ Some entry → entry ≤ num_ports held
      → HasSubslice (text nodes ports switches fabric) (entry_line port entry)
  pub masks : (nodes : List PlannedNode) (ports : List SubnetPort) (switches : List GraphSwitch) (fabric : FabricState) (switch : SubnetPort)
      (place : ℕ) (held : SwitchState) (mlid number : ℕ) → Contains ports switch → place_of switch.node_name nodes ≡ Some place
      → slice_get fabric.nodes place ≡ Some (Switch held) → FIRST_MULTICAST_LID ≤ mlid → mlid < FIRST_MULTICAST_LID + MULTICAST_TABLE
      → number ≤ num_ports held → is_in_masks held.masks mlid number ≡ true
      → HasSubslice (text nodes ports switches fabric) (mlid_line held mlid)

abbrev pub AllTablesArePrinted : Type 0
AllTablesArePrinted = PrintsTables tables_text

-- ---- `keys`: the P_Key table of each end port, and of each port of a switch that faces a channel adapter
pub record PrintsKeys (text : List PlannedNode → List SubnetPort → FabricState → List ℕ) : Type 0 where
  pub own : (nodes : List PlannedNode) (ports : List SubnetPort) (fabric : FabricState) (port : SubnetPort) (place : ℕ) (node : Node)
      → Contains ports port → place_of port.node_name nodes ≡ Some place → slice_get fabric.nodes place ≡ Some node
      → HasSubslice (text nodes ports fabric) (keys_line port.node_name port.number (words_in node port.number))
  pub facing : (nodes : List PlannedNode) (ports : List SubnetPort) (fabric : FabricState) (port : SubnetPort) (place : ℕ)
      (held : SwitchState) (number : ℕ) (there : PortRef) → Contains ports port → place_of port.node_name nodes ≡ Some place
      → slice_get fabric.nodes place ≡ Some (Switch held) → 1 ≤ number → number ≤ num_ports held
      → far_end fabric.cables (record { node = place; port = number }) ≡ Some there → is_node_switch fabric.nodes there.node ≡ false
      → HasSubslice (text nodes ports fabric) (keys_line port.node_name number (words_in (Switch held) number))

abbrev pub AllKeysArePrinted : Type 0
AllKeysArePrinted = PrintsKeys keys_text

-- ---- a queue pair for data
abbrev pub data_qp : ℕ
data_qp = 2

-- ---- `trace`: what a port stamps, and each step of the packet; or why the port refuses to send it
pub record PrintsSteps (text : List PlannedNode → FabricState → PortRef → (dlid p_key : ℕ) → List ℕ) : Type 0 where
  pub stamps : (nodes : List PlannedNode) (fabric : FabricState) (from : PortRef) (dlid p_key : ℕ) (port : AdapterState) (packet : Packet)
      → adapter_at fabric.nodes from ≡ Some port → stamped port dlid p_key data_qp [] ≡ Ok packet
      → HasSubslice (text nodes fabric from dlid p_key) (stamps_line nodes from packet)
  pub steps : (nodes : List PlannedNode) (fabric : FabricState) (from : PortRef) (dlid p_key : ℕ) (port : AdapterState) (packet : Packet)
      (first : PortRef) (step : Step) → adapter_at fabric.nodes from ≡ Some port → stamped port dlid p_key data_qp [] ≡ Ok packet
      → far_end fabric.cables from ≡ Some first → Contains (steps_of fabric packet first) step
      → HasSubslice (text nodes fabric from dlid p_key) (step_line nodes step)
  pub refusals : (nodes : List PlannedNode) (fabric : FabricState) (from : PortRef) (dlid p_key : ℕ) (port : AdapterState) (refusal : Refusal)
      → adapter_at fabric.nodes from ≡ Some port → stamped port dlid p_key data_qp [] ≡ Err refusal
      → HasSubslice (text nodes fabric from dlid p_key) (refuses_line nodes from refusal)

abbrev pub AllStepsArePrinted : Type 0
AllStepsArePrinted = PrintsSteps trace_text

-- ---- `graph`: what is drawn where each node stands, each row, each thick edge, and what is drawn of each cable
pub record DrawsAll (text : TopologyState → ConfigurationState → RoutesState → Picture → List ℕ) : Type 0 where
  pub nodes : (plan : TopologyState) (subnet : ConfigurationState) (routes : RoutesState) (picture : Picture) (place : ℕ) → place < length plan.nodes
      → HasSubslice (text plan subnet routes picture) (place_text plan subnet (attachments_of plan subnet) place)
  pub rows : (plan : TopologyState) (subnet : ConfigurationState) (routes : RoutesState) (picture : Picture) (rank : ℕ) → rank < rank_count routes
      → let thick = thick_edges picture (rank_count routes) in
      HasSubslice (text plan subnet routes picture) (rank_text plan.nodes picture.ranks thick rank)
      × HasSubslice (text plan subnet routes picture) (thick_edge plan.nodes picture.ranks thick rank)
  pub cables : (plan : TopologyState) (subnet : ConfigurationState) (routes : RoutesState) (picture : Picture) (place : ℕ) → place < length plan.cables
      → HasSubslice (text plan subnet routes picture)
      (edge_at plan.nodes (attachments_of plan subnet) (thick_edges picture (rank_count routes)) picture place)

abbrev pub AllIsDrawn : Type 0
AllIsDrawn = DrawsAll text_of
