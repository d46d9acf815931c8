-- Each wrong rule leaves a line out of some text.
use Rattle.std.proofs.Common.{◌≡◌, ◌≤◌, arith, refl, subst, ℕ, false, List, [], ◌∷◌, codes, length, replicate, None}
use Rattle.std.specs.Fmt.{digits}
use Rattle.std.specs.Str.Iter.{HasSubslice}
use Rattle.audit_plan.proofs.SubsliceLemmas.{no_longer}
use Rattle.agent_rules.specs.declared.link.PortLink.TheVariants.{Cabled}
use Rattle.data_packet.specs.declared.refusal.Refusal.TheVariants.{PortNotActive}
use Rattle.cable_cuts.proofs.ChangeLemmas.{first_in, later_in}
use Rattle.cable_cuts.specs.Texts.{change_line, loss_line}
use Rattle.cable_cuts.specs.declared.changes.Change.{Change as EntryChange}
use Rattle.fabric_graph.specs.Graph.{head}
use Rattle.fabric_graph.specs.Lists.{attachments_of, place_text}
use Rattle.fabric_graph.specs.Rows.{Picture, picture_with}
use Rattle.fabric_parts.specs.Cable.{port}
use Rattle.fabric_parts.specs.declared.cable.Cable.{Cable}
use Rattle.fabric_parts.specs.declared.node_type.NodeType.{NodeType}
use Rattle.fabric_parts.specs.declared.node_type.NodeType.TheVariants as node_type
use Rattle.fabric_tables.specs.Keys.{keys_line}
use Rattle.fabric_tables.specs.Tables.{entry_line}
use Rattle.fabric_tables.specs.Whole.{led_by}
use Rattle.partition_reports.specs.Changes.{Change, partition_line}
use Rattle.partition_file.specs.declared.heading.Heading.{Heading}
use Rattle.packet_trace.specs.Lines.{refuses_line}
use Rattle.port_model.specs.AdapterState.{AdapterState, at_power_up}
use Rattle.partition_reports.specs.Sums.{are_few, sum_line, sum_of}
use Rattle.joint_laws.specs.LineLaws.{PrintsShares, signed_line}
use Rattle.joint_laws.specs.LineWrongRules.{AllPortsAreListed, KeysOfAllPortsCount, LostEntriesArePrinted, ManyPortsHaveSums, NoCableIsLeftOut, NodesAreDrawnToo}
use Rattle.joint_laws.specs.LineWrongRules.{RefusalsArePrinted, TablesOfAllSwitchesCount, WhatGoesIsPrintedToo, of_few_alone}
use Rattle.smp_wire.specs.FabricState.{FabricState, fabric_with}
use Rattle.smp_wire.specs.declared.node.Node.TheVariants.{Adapter, Switch}
use Rattle.subnet_core.specs.Listing.{port_line}
use Rattle.subnet_model.specs.Configuration.{ConfigurationState}
use Rattle.subnet_model.specs.declared.subnet_port.SubnetPort.{SubnetPort}
use Rattle.sweep.specs.Graph.{graph_with}
use Rattle.topo_file.specs.Topology.{TopologyState}
use Rattle.topo_file.specs.declared.node.Node.{Node as PlannedNode}
use Rattle.updn_routes.specs.Routes.{routes_with}
use Rattle.updn_routes.specs.declared.tie_rule.TieRule.TheVariants.{LeastPort}
use Rattle.updn_routes.specs.Subnet.{RoutesState}

-- ---- what the texts are of
abbrev end_port : NodeType → (number : ℕ) → List ℕ → SubnetPort
end_port kind number name =
    record { lid = 1; guid = 16; node_name = name; node_guid = 16; num_ports = 1; number = number; node_type = kind; keys = [] }

abbrev host : List ℕ → SubnetPort
host name = end_port node_type.ChannelAdapter 1 name

abbrev planned : NodeType → List ℕ → PlannedNode
planned kind name = record { name = name; node_type = kind; guid = 16; ports = 1 }

abbrev long_name : List ℕ
long_name = replicate 200 65

abbrev heading : Heading
heading = record { base = 1; name = []; group = None }

abbrev subnet_of : List SubnetPort → List Heading → ConfigurationState
subnet_of ports partitions = record { ports = ports; partitions = partitions }

abbrev no_routes : RoutesState
no_routes = record { graph = graph_with 0 [] [] []; lids = []; between = routes_with [] [] [] [] [] [] [] LeastPort [] }

abbrev cable : Cable
cable = record { first = port 0 1; second = port 1 1 }

abbrev plan_of : List PlannedNode → List Cable → TopologyState
plan_of nodes cables = record { nodes = nodes; cables = cables; roots = []; sm = port 0 1 }

-- ---- a port that is in no partition
pub all_ports_are_listed : AllPortsAreListed
all_ports_are_listed law =
    let h = host (codes "h") in
    let most : length (port_line h) ≤ 0 = no_longer [] (port_line h) (law.ports (subnet_of (h ∷ []) []) h (first_in h [])) in
    absurd (omega (arith, most))

-- ---- a partition of more ports than are few
of_many : (ports : List SubnetPort) → are_few ports ≡ false → PrintsShares of_few_alone → ⊥
of_many ports many law =
    let subnet = subnet_of ports (heading ∷ []) in
    let line : List ℕ = sum_line (sum_of ports 1) in
    let none : of_few_alone None subnet ≡ [] = rw many refl in
    let most : length line ≤ 0 = no_longer [] line (subst (λ (t : List ℕ). HasSubslice t line) none (law.sums subnet heading many (first_in heading []))) in
    absurd (omega (arith, most))

pub many_ports_have_sums : ManyPortsHaveSums
many_ports_have_sums law = of_many (replicate 321 (host [])) refl law

-- ---- a partition that goes
pub what_goes_is_printed_too : WhatGoesIsPrintedToo
what_goes_is_printed_too law =
    let change : Change (ℕ × Heading) = record { comes = false; what = (0, heading) } in
    let line : List ℕ = signed_line partition_line change in
    let most : length line ≤ 0 = no_longer [] line (law.partitions (subnet_of [] (heading ∷ [])) (subnet_of [] []) change (first_in change [])) in
    absurd (omega (arith, most))

-- ---- two switches, of which one has a long name, and no line of their cable
abbrev two_switches : TopologyState
two_switches = plan_of (planned node_type.Switch long_name ∷ planned node_type.Switch (codes "B") ∷ []) (cable ∷ [])

pub no_cable_is_left_out : NoCableIsLeftOut
unfolding digits
no_cable_is_left_out law =
    let left_out = law two_switches (subnet_of [] []) no_routes _ cable (record { losses = []; each = λ k loss less. absurd (omega (arith, less)); text_is = refl }) (first_in cable []) refl refl in
    let line : List ℕ = loss_line two_switches.nodes [] cable left_out.0 in
    let most : length line ≤ 23 = no_longer _ line left_out.2 in
    absurd (omega (arith, most))

-- ---- a switch whose own LID has no entry any more
abbrev one_switch : RoutesState
one_switch = record {
  graph = graph_with 0 (record { guid = 16; num_ports = 1; name = []; path = [] } ∷ []) ([] ∷ []) [];
  lids = 1 ∷ [];
  between = routes_with ([] ∷ []) (16 ∷ []) [] [] [] [] (port 0 0 ∷ []) LeastPort [];
}

pub lost_entries_are_printed : LostEntriesArePrinted
lost_entries_are_printed law =
    let switch = end_port node_type.Switch 0 (codes "A") in
    let change : EntryChange = record { switch = 1; lid = 1; was = 0; becomes = 255 } in
    let line : List ℕ = change_line (switch ∷ []) change in
    let most : length line ≤ 0 = no_longer [] line (law [] (subnet_of (switch ∷ []) []) one_switch no_routes cable change (first_in change [])) in
    absurd (omega (arith, most))

-- ---- a CA port, and behind it a switch with an entry for its own LID
abbrev a_host_first : FabricState
a_host_first = fabric_with (Adapter [] ∷ Switch (led_by 16 1 (255 ∷ 0 ∷ [])) ∷ []) [] (port 0 1)

pub tables_of_all_switches_count : TablesOfAllSwitchesCount
tables_of_all_switches_count law =
    let h = host (codes "h") in
    let switch = end_port node_type.Switch 0 (codes "A") in
    let nodes : List PlannedNode = planned node_type.ChannelAdapter (codes "h") ∷ planned node_type.Switch (codes "A") ∷ [] in
    let there = later_in h (switch ∷ []) switch (first_in switch []) in
    let line : List ℕ = entry_line switch 0 in
    let most : length line ≤ 0 =
    no_longer [] line (law.entries nodes (h ∷ switch ∷ []) [] a_host_first switch 1 (led_by 16 1 (255 ∷ 0 ∷ [])) switch 0 there refl refl there refl (omega arith)) in
    absurd (omega (arith, most))

-- ---- a second port, of a node with a long name
abbrev two_hosts : FabricState
two_hosts = fabric_with (Adapter [] ∷ Adapter [] ∷ []) [] (port 0 1)

pub keys_of_all_ports_count : KeysOfAllPortsCount
unfolding digits
keys_of_all_ports_count law =
    let h = host (codes "h") in
    let second = host long_name in
    let nodes : List PlannedNode = planned node_type.ChannelAdapter (codes "h") ∷ planned node_type.ChannelAdapter long_name ∷ [] in
    let line : List ℕ = keys_line long_name 1 [] in
    let most : length line ≤ 9 =
    no_longer _ line (law.own nodes (h ∷ second ∷ []) two_hosts second 1 (Adapter []) (later_in h (second ∷ []) second (first_in second [])) refl refl) in
    absurd (omega (arith, most))

-- ---- a port at power-up, which sends nothing
abbrev at_rest : AdapterState
at_rest = at_power_up 16 1 1 16 [] Cabled

pub refusals_are_printed : RefusalsArePrinted
refusals_are_printed law =
    let nodes : List PlannedNode = planned node_type.ChannelAdapter (codes "h") ∷ [] in
    let line : List ℕ = refuses_line nodes (port 0 1) PortNotActive in
    let most : length line ≤ 0 = no_longer [] line (law.refusals nodes (fabric_with (Adapter (at_rest ∷ []) ∷ []) [] (port 0 1)) (port 0 1) 2 1 at_rest PortNotActive refl refl) in
    absurd (omega (arith, most))

-- ---- one switch, with a long name
abbrev alone : TopologyState
alone = plan_of (planned node_type.Switch long_name ∷ []) []

abbrev picture : Picture
picture = picture_with false alone [] (fabric_with [] [] (port 0 1)) []

pub nodes_are_drawn_too : NodesAreDrawnToo
unfolding head
nodes_are_drawn_too law =
    let subnet = subnet_of [] [] in
    let line : List ℕ = place_text alone subnet (attachments_of alone subnet) 0 in
    let most : length line ≤ 104 = no_longer _ line (law.nodes alone subnet no_routes picture 0 (omega arith)) in
    absurd (omega (arith, most))
