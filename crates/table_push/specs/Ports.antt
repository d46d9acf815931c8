-- What is pushed into PortInfo (IBA volume 1, 14.2.5.6) and SwitchInfo (chapter 14): the prefix and the LIDs of each end
-- port, that each port with a cable carries packets, where partitions are enforced, and how far LFTs reach.
use Rattle.std.specs.Prelude.{ℕ, ◌*◌, ◌^◌, ◌≡◌, ◌==◌, ◌&&◌, ◌||◌, nat_le, nat_lt, Bool, true, false, if◌then◌else◌, List, [], get_or, length, Option, Some, None}
use Rattle.std.specs.List.{list_any, range_with_len}
use Rattle.std.specs.Option.{is_some, option_map_or}
use Rattle.attr_tables.specs.PortState.{port_state_code}
use Rattle.attr_tables.specs.declared.port_info.PortInfo.{PortInfo}
use Rattle.attr_tables.specs.declared.port_state.PortState.{PortState}
use Rattle.attr_tables.specs.declared.port_state.PortState.TheVariants.{NoChange, Initialize, Armed, Active}
use Rattle.attr_tables.specs.declared.switch_info.SwitchInfo.{SwitchInfo}
use Rattle.fabric_parts.specs.declared.lid.TheConstants.{LAST_UNICAST_LID}
use Rattle.lid_assign.specs.Lids.{lid_in}
use Rattle.smp_wire.specs.FabricState.{FabricState, is_switch_at}
use Rattle.smp_wire.specs.Good.{info_at, is_up}
use Rattle.fabric_parts.specs.Cable.{port}
use Rattle.sweep.specs.Graph.{GraphState}
use Rattle.table_push.specs.Keys.{guid_of, attached_at, port_of}
use Rattle.table_push.specs.Nodes.{with_infos, with_switches}
use Rattle.table_push.specs.Pushes.{LeadsToPort}
use Rattle.table_push.specs.declared.ports.PortChange.{PortChange}
use Rattle.table_push.specs.declared.ports.Round.{Round}
use Rattle.table_push.specs.declared.ports.Round.TheVariants.{Arming, Activating}
use Rattle.switch_model.specs.SwitchState.{SwitchState}
use Rattle.updn_routes.specs.Subnet.{RoutesState, place_of}

-- ---- what a port is set to
-- an end port has the link-local prefix and its LID, no other LID (LMC 0), and knows the subnet manager's LID, which is
-- always 1
abbrev pub with_end_set : Option ℕ → PortInfo → PortInfo
with_end_set None info = info
with_end_set (Some lid) info = record info { gid_prefix = 0xfe80 * 2 ^ 48; lid = lid; lmc = 0; master_sm_lid = 1 }

-- a port of a switch lets in and out what its P_Key table reports, or all
abbrev pub enforces : Option Bool → PortInfo → PortInfo
enforces None info = info
enforces (Some on) info = record info { partition_enforcement_inbound = on; partition_enforcement_outbound = on }

abbrev pub with_state : PortState → PortInfo → PortInfo
with_state state info = record info { port_state = port_state_code state }

-- all but the state
abbrev pub with_lid_and_enforcement : PortChange → PortInfo → PortInfo
with_lid_and_enforcement change info = enforces change.enforcement (with_end_set change.lid info)

-- a port that becomes Active carries packets, once both rounds are over
abbrev pub changed : PortChange → PortInfo → PortInfo
changed change info = if change.active then with_state Active (with_lid_and_enforcement change info) else with_lid_and_enforcement change info

-- ---- which port
abbrev pub stays : PortChange
stays = record { lid = None; enforcement = None; active = false }

-- that port of the switch at that place has a cable to another switch
abbrev pub has_link : GraphState → ℕ → ℕ → Bool
has_link graph place number = list_any (λ link. link.port == number) (get_or graph.rows place [])

-- port 0 is the end port; an adapter's port is attached to the port, or it has a link to a switch, or no cable
abbrev pub switch_change : RoutesState → (guid place number : ℕ) → PortChange
switch_change routes guid place number =
    if number == 0 then record stays { lid = lid_in routes.lids guid }
    else option_map_or (λ one. record stays { enforcement = Some true; active = true }) (attached_at routes.graph.ports place number)
    (if has_link routes.graph place number then record stays { enforcement = Some false; active = true } else stays)

-- a port of an adapter is an end port if it has a cable
abbrev pub adapter_change : RoutesState → (guid number : ℕ) → PortChange
adapter_change routes guid number =
    option_map_or (λ one. record stays { lid = lid_in routes.lids one.port_guid; active = true })
    (port_of routes.graph.ports guid number) stays

-- of that port of the node with that GUID
unfoldable pub change_wanted : RoutesState → (guid number : ℕ) → PortChange
change_wanted routes guid number =
    option_map_or (λ place. switch_change routes guid place number) (place_of routes.graph.switches guid)
    (adapter_change routes guid number)

-- ---- the fabric
-- the greatest LID that packets are forwarded to
abbrev pub with_top : ℕ → SwitchInfo → SwitchInfo
with_top lid info = record info { linear_fdb_top = lid }

abbrev pub set_top : ℕ → SwitchState → SwitchState
set_top lid held = record held { info = with_top lid held.info }

-- LIDs count from 1, so the greatest is their number
abbrev pub ports_pushed : RoutesState → FabricState → FabricState
ports_pushed routes fabric =
    with_switches (λ guid. set_top (length routes.lids)) (with_infos (λ guid number. changed (change_wanted routes guid number)) fabric)

-- ---- while it is written
-- from Initialize a port becomes Active by way of Armed, and becomes Active only while the port at the other end of its cable is
-- Armed or Active: so first all become Armed, and all else is set
abbrev pub armed : PortChange → PortInfo → PortInfo
armed change info =
    with_lid_and_enforcement change
    (if change.active && (info.port_state == port_state_code Initialize) then with_state Armed info else info)

-- and then Active
abbrev pub activated : PortChange → PortInfo → PortInfo
activated change info = if change.active then with_state Active info else info

abbrev pub in_round : Round → PortChange → PortInfo → PortInfo
in_round Arming change info = armed change info
in_round Activating change info = activated change info

-- the state that a port is asked for in the first round
abbrev pub first_state : Bool → ℕ → PortState
first_state active state = if active && (state == port_state_code Initialize) then Armed else NoChange

-- and first in the second, in which it becomes Active
abbrev pub state_asked : ℕ → PortState
state_asked state =
    if state == port_state_code Initialize then Armed else (if state == port_state_code Armed then Active else NoChange)

-- a path leads to the node with that GUID, whose port of that number is asked for and takes the change
pub record TakesChange (fabric : FabricState) (path : List ℕ) (asked guid number : ℕ) (change : PortChange) : Type 0 where
  pub leads : LeadsToPort fabric path asked guid number
  -- a unicast LID
  pub lid : option_map_or (λ lid. nat_le lid LAST_UNICAST_LID) change.lid true ≡ true
  -- only ports of switches from 1 on can enforce partitions
  pub enforces : is_some change.enforcement ≡ true → (is_switch_at fabric.nodes leads.at.node && nat_lt 0 number) ≡ true
  -- only a port whose link is up becomes Active
  pub up : change.active ≡ true → (info : PortInfo) → info_at fabric (port leads.at.node number) ≡ Some info → is_up info ≡ true

-- what a round makes of each port
abbrev pub changed_in : Round → RoutesState → (guid number : ℕ) → PortInfo → PortInfo
changed_in round routes guid number info = in_round round (change_wanted routes guid number) info

-- where it is reported
abbrev pub changed_where : Round → (ℕ → ℕ → Bool) → RoutesState → (guid number : ℕ) → PortInfo → PortInfo
changed_where round there routes guid number info = if there guid number then changed_in round routes guid number info else info

-- port 0 of the switch at that place, and its ports with links
abbrev pub at_switch : GraphState → ℕ → ℕ → ℕ → Bool
at_switch graph guid number place = (guid_of graph.switches place == guid) && ((0 == number) || has_link graph place number)

-- those of the switches at the first places
abbrev pub at_switches_before : GraphState → ℕ → ℕ → ℕ → Bool
at_switches_before graph count guid number = list_any (at_switch graph guid number) (range_with_len 0 count)
