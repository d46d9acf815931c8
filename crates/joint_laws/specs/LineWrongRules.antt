-- Wrong rules for what is printed of all, and the law that each breaks.
use Rattle.std.specs.Prelude.{ℕ, ◌≡◌, ◌==◌, ◌++◌, not, if◌then◌else◌, List, [], All, filter, flat_map, length, take, Option, Result, Ok, Err}
use Rattle.std.specs.List.{enumerate_from, range_with_len}
use Rattle.std.specs.Option.{option_map_or}
use Rattle.cable_cuts.specs.Changes.{changes, entry_by}
use Rattle.cable_cuts.specs.Outcomes.{IsOutcome}
use Rattle.cable_cuts.specs.Texts.{change_line, lines_of}
use Rattle.cable_cuts.specs.declared.fate.Cut.{Cut}
use Rattle.cable_cuts.specs.declared.fate.Cut.TheVariants.{Keeps, Stops}
use Rattle.cable_cuts.specs.declared.loss.Loss.{Loss}
use Rattle.data_packet.specs.declared.packet.Packet.{Packet}
use Rattle.data_packet.specs.declared.refusal.Refusal.{Refusal}
use Rattle.smp_wire.specs.Deliveries.{adapter_at}
use Rattle.fabric_graph.specs.Graph.{edge_at, head}
use Rattle.fabric_graph.specs.Lists.{attachments_of}
use Rattle.fabric_graph.specs.Ranks.{rank_count}
use Rattle.fabric_graph.specs.Rows.{Picture, thick_edges}
use Rattle.fabric_parts.specs.declared.cable.Cable.{Cable}
use Rattle.fabric_parts.specs.declared.cable.PortRef.{PortRef}
use Rattle.fabric_tables.specs.Keys.{keys_text}
use Rattle.fabric_tables.specs.Multicast.{tables_text}
use Rattle.packet_trace.specs.Lines.{text_from}
use Rattle.partition_reports.specs.Changes.{changes_text, partition_changes, partition_line}
use Rattle.port_model.specs.AdapterState.{AdapterState}
use Rattle.port_model.specs.Packets.{stamped}
use Rattle.partition_reports.specs.Shares.{shares_text}
use Rattle.partition_reports.specs.Sums.{are_few}
use Rattle.joint_laws.specs.LineLaws.{DrawsAll, ListsAll, PrintsChanges, PrintsCuts, PrintsEntries, PrintsKeys, PrintsShares, PrintsSteps, PrintsTables, data_qp}
use Rattle.smp_wire.specs.FabricState.{FabricState}
use Rattle.subnet_core.specs.Listing.{partition_text}
use Rattle.subnet_model.specs.Configuration.{ConfigurationState}
use Rattle.subnet_model.specs.declared.subnet_port.SubnetPort.{SubnetPort}
use Rattle.sweep.specs.declared.graph.GraphSwitch.{GraphSwitch}
use Rattle.topo_file.specs.Topology.{TopologyState}
use Rattle.topo_file.specs.declared.node.Node.{Node as PlannedNode}
use Rattle.updn_routes.specs.Subnet.{RoutesState}

-- ---- partitions alone are listed
abbrev pub partitions_alone : ConfigurationState → List ℕ
partitions_alone subnet = flat_map (partition_text subnet.ports) (enumerate_from 0 subnet.partitions)

abbrev pub AllPortsAreListed : Type 0
AllPortsAreListed = ListsAll partitions_alone → ⊥

-- ---- of many ports nothing is printed, unless one is asked for
abbrev pub of_few_alone : Option ℕ → ConfigurationState → List ℕ
of_few_alone asked subnet = if are_few subnet.ports then shares_text asked subnet.ports else []

abbrev pub ManyPortsHaveSums : Type 0
ManyPortsHaveSums = PrintsShares of_few_alone → ⊥

-- ---- partitions that come are printed, and those that go are not
abbrev pub comings_alone : (before after : ConfigurationState) → List ℕ
comings_alone before after =
    changes_text partition_line (filter (λ change. change.comes) (partition_changes before.partitions after.partitions))

abbrev pub WhatGoesIsPrintedToo : Type 0
WhatGoesIsPrintedToo = PrintsChanges comings_alone → ⊥

-- ---- some cables are left out, and what is printed of the others is right
pub record ReportsSome (plan : TopologyState) (configuration : ConfigurationState) (routes : RoutesState) (text : List ℕ) : Type 0 where
  pub losses : List Loss
  pub each : All (λ loss. IsOutcome plan configuration routes loss.cable loss.outcome) losses
  pub text_is : text ≡ lines_of plan.nodes configuration.ports losses

abbrev pub NoCableIsLeftOut : Type 0
NoCableIsLeftOut = PrintsCuts ReportsSome → ⊥

-- ---- entries that lead nowhere without the cable are left out
abbrev pub leading_alone : List PlannedNode → ConfigurationState → RoutesState → Cable → Cut → List ℕ
leading_alone nodes configuration routes cable (Keeps others) =
    flat_map (change_line configuration.ports)
    (filter (λ change. not (change.becomes == 255)) (changes configuration.ports (entry_by routes) (entry_by others)))
leading_alone nodes configuration routes cable (Stops stop) = []

abbrev pub LostEntriesArePrinted : Type 0
LostEntriesArePrinted = PrintsEntries leading_alone → ⊥

-- ---- the tables of the first port alone are printed
abbrev pub tables_of_first : List PlannedNode → List SubnetPort → List GraphSwitch → FabricState → List ℕ
tables_of_first nodes ports switches fabric = tables_text nodes (take 1 ports) switches fabric

abbrev pub TablesOfAllSwitchesCount : Type 0
TablesOfAllSwitchesCount = PrintsTables tables_of_first → ⊥

-- ---- the keys of the first port alone are printed
abbrev pub of_first_port : List PlannedNode → List SubnetPort → FabricState → List ℕ
of_first_port nodes ports fabric = keys_text nodes (take 1 ports) fabric

abbrev pub KeysOfAllPortsCount : Type 0
KeysOfAllPortsCount = PrintsKeys of_first_port → ⊥

-- ---- of a packet that is not sent nothing is printed
abbrev pub of_sent_alone : List PlannedNode → FabricState → PortRef → (dlid p_key : ℕ) → AdapterState → Result Packet Refusal → List ℕ
of_sent_alone nodes fabric from dlid p_key sender (Ok packet) = text_from nodes fabric from dlid p_key sender
of_sent_alone nodes fabric from dlid p_key sender (Err refusal) = []

abbrev pub sent_alone : List PlannedNode → FabricState → PortRef → (dlid p_key : ℕ) → List ℕ
sent_alone nodes fabric from dlid p_key =
    option_map_or (λ sender. of_sent_alone nodes fabric from dlid p_key sender (stamped sender dlid p_key data_qp [])) (adapter_at fabric.nodes from) []

abbrev pub RefusalsArePrinted : Type 0
RefusalsArePrinted = PrintsSteps sent_alone → ⊥

-- ---- cables are drawn without their nodes
abbrev pub cables_alone : TopologyState → ConfigurationState → RoutesState → Picture → List ℕ
cables_alone plan subnet routes picture =
    head
    ++ flat_map (edge_at plan.nodes (attachments_of plan subnet) (thick_edges picture (rank_count routes)) picture) (range_with_len 0 (length plan.cables))

abbrev pub NodesAreDrawnToo : Type 0
NodesAreDrawnToo = DrawsAll cables_alone → ⊥
