-- What the agents of a fabric have once ports, P_Key tables and LFTs are pushed, in the terms of the
-- routes and of the keys given, without any push.
use Rattle.std.specs.Prelude.{ℕ, ◌*◌, ◌-◌, ◌<◌, ◌^◌, ◌≡◌, ◌==◌, false, true, List, length, slice_get, Option, Some, option_map}
use Rattle.std.specs.Option.{option_and_then}
use Rattle.agent_rules.specs.declared.power_up.TheConstants.{LINEAR_TABLE}
use Rattle.attr_tables.specs.PortState.{port_state_code}
use Rattle.attr_tables.specs.declared.port_info.PortInfo.{PortInfo}
use Rattle.attr_tables.specs.declared.port_state.PortState.TheVariants.{Active}
use Rattle.fabric_parts.specs.declared.cable.PortRef.{PortRef}
use Rattle.lid_assign.specs.Lids.{lid_in}
use Rattle.smp_wire.specs.FabricState.{FabricState, adapter_port}
use Rattle.smp_wire.specs.Good.{info_at}
use Rattle.smp_wire.specs.declared.node.Node.{Node}
use Rattle.smp_wire.specs.declared.node.Node.TheVariants.{Switch, Adapter}
use Rattle.sweep.specs.Graph.{IsGraph}
use Rattle.sweep.specs.OfFabric.{IsGraphOf, guid_at}
use Rattle.sweep.specs.declared.graph.GraphPort.{GraphPort}
use Rattle.sweep.specs.declared.graph.GraphSwitch.{GraphSwitch}
use Rattle.sweep.specs.declared.graph.GraphLink.{GraphLink}
use Rattle.switch_model.specs.SwitchState.{SwitchState}
use Rattle.table_push.specs.Keys.{guid_of, key_table}
use Rattle.table_push.specs.Linear.{linear_entry}
use Rattle.table_push.specs.Pushed.{all_pushed}
use Rattle.updn_routes.specs.Subnet.{RoutesState}

-- ---- what a port has
-- its P_Key table
abbrev pub port_keys_at : Node → ℕ → Option (List ℕ)
port_keys_at (Switch held) number = option_map (λ port. port.keys) (slice_get held.ports number)
port_keys_at (Adapter ports) number = option_map (λ port. port.keys) (adapter_port ports number)

abbrev pub keys_at : FabricState → PortRef → Option (List ℕ)
keys_at fabric at = option_and_then (λ node. port_keys_at node at.port) (slice_get fabric.nodes at.node)

-- the PortInfo of that port of the node with that GUID, and its P_Key table
abbrev pub InfoIs : FabricState → (guid number : ℕ) → (PortInfo → Type 0) → Type 0
InfoIs fabric guid number Is =
    (at : PortRef) (info : PortInfo) → guid_at fabric at.node ≡ guid → at.port ≡ number → info_at fabric at ≡ Some info → Is info

abbrev pub KeysAre : FabricState → (guid number : ℕ) → List ℕ → Type 0
KeysAre fabric guid number table =
    (at : PortRef) (keys : List ℕ) → guid_at fabric at.node ≡ guid → at.port ≡ number → keys_at fabric at ≡ Some keys → keys ≡ table

-- an end port has the link-local prefix, that LID, and the subnet manager's LID
pub record IsEndPort (lid : ℕ) (info : PortInfo) : Type 0 where
  pub gid_prefix : info.gid_prefix ≡ 0xfe80 * 2 ^ 48
  pub lid_is : info.lid ≡ lid
  pub master_sm_lid : info.master_sm_lid ≡ 1

abbrev pub IsActive : PortInfo → Type 0
IsActive info = info.port_state ≡ port_state_code Active

-- it lets in and out what its P_Key table reports
abbrev pub Enforces : PortInfo → Type 0
Enforces info = (info.partition_enforcement_inbound ≡ true) × (info.partition_enforcement_outbound ≡ true)

-- ---- a port of an adapter, and the port of a switch that it is attached to
pub record IsServed (routes : RoutesState) (fabric : FabricState) (port : GraphPort) (lid : ℕ) (own : List ℕ) : Type 0 where
  pub end_port : InfoIs fabric port.node_guid port.number (IsEndPort lid)
  pub active : InfoIs fabric port.node_guid port.number IsActive
  pub keys : KeysAre fabric port.node_guid port.number (key_table false own)
  pub before_active : InfoIs fabric (guid_of routes.graph.switches port.at.node) port.at.port IsActive
  pub before_enforces : InfoIs fabric (guid_of routes.graph.switches port.at.node) port.at.port Enforces
  -- the full form of the same keys
  pub before_keys : KeysAre fabric (guid_of routes.graph.switches port.at.node) port.at.port (key_table true own)

-- with the keys that are given for its LID
abbrev pub EachPortIsServed : Type 0
EachPortIsServed =
    (routes : RoutesState) (keys : List (List ℕ)) (fabric : FabricState) (k : ℕ) (port : GraphPort) (lid : ℕ) (own : List ℕ)
    → IsGraph routes.graph → IsGraphOf routes.graph fabric → slice_get routes.graph.ports k ≡ Some port
    → lid_in routes.lids port.port_guid ≡ Some lid → slice_get keys (lid - 1) ≡ Some own
    → IsServed routes (all_pushed routes keys fabric) port lid own

-- ---- a switch of the graph
pub record IsSetUp (routes : RoutesState) (fabric : FabricState) (place : ℕ) (switch : GraphSwitch) (lid : ℕ) (own : List ℕ) : Type 0 where
  pub end_port : InfoIs fabric switch.guid 0 (IsEndPort lid)
  pub keys : KeysAre fabric switch.guid 0 (key_table false own)
  -- for each LID the port of the chosen way, and packets up to the greatest LID are forwarded
  pub entries : (node : ℕ) (held : SwitchState) → slice_get fabric.nodes node ≡ Some (Switch held) → held.node_guid ≡ switch.guid
      → (to : ℕ) → to < LINEAR_TABLE → slice_get held.linear to ≡ Some (linear_entry routes place to)
  -- each port with a cable to another switch is Active
  pub links : (k : ℕ) (row : List GraphLink) (link : GraphLink) → slice_get routes.graph.rows place ≡ Some row → slice_get row k ≡ Some link
      → (link.port == 0) ≡ false → InfoIs fabric switch.guid link.port IsActive
  pub top : (node : ℕ) (held : SwitchState) → slice_get fabric.nodes node ≡ Some (Switch held)
      → held.info.linear_fdb_top ≡ length routes.lids

abbrev pub EachSwitchIsSetUp : Type 0
EachSwitchIsSetUp =
    (routes : RoutesState) (keys : List (List ℕ)) (fabric : FabricState) (place : ℕ) (switch : GraphSwitch) (lid : ℕ) (own : List ℕ)
    → IsGraph routes.graph → IsGraphOf routes.graph fabric → slice_get routes.graph.switches place ≡ Some switch
    → lid_in routes.lids switch.guid ≡ Some lid → slice_get keys (lid - 1) ≡ Some own
    → IsSetUp routes (all_pushed routes keys fabric) place switch lid own
