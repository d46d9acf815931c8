-- What is pushed into P_Key tables (IBA volume 1, 14.2.5.7): the keys of each end port at that port, and their full
-- form at the port of a switch that it is attached to, which lets in and out what the end port may send and take.
use Rattle.std.specs.Prelude.{ℕ, ◌-◌, ◌==◌, ◌&&◌, ◌||◌, Bool, true, false, if◌then◌else◌, List, ◌++◌, find, length, map, replicate, slice_get, unwrap_or, Option, option_map, Result, Ok, Err}
use Rattle.std.specs.List.{list_any}
use Rattle.std.specs.Option.{option_and_then, option_map_or}
use Rattle.std.specs.Str.{bytes_eq}
use Rattle.fabric_parts.specs.Cable.{is_same_port, port}
use Rattle.lid_assign.specs.Lids.{lid_in}
use Rattle.pkey_rules.specs.PKey.{base_of, key_of}
use Rattle.pkey_rules.specs.declared.key_table.TheConstants.{PARTITIONS}
use Rattle.smp_wire.specs.FabricState.{FabricState}
use Rattle.smp_wire.specs.declared.reply.ReplyFault.{ReplyFault}
use Rattle.smp_wire.specs.declared.reply.ReplyFault.TheVariants as reply
use Rattle.sweep.specs.declared.graph.GraphPort.{GraphPort}
use Rattle.sweep.specs.declared.graph.GraphSwitch.{GraphSwitch}
use Rattle.table_push.specs.Nodes.{with_keys}
use Rattle.table_push.specs.declared.fault.PushFault.{PushFault}
use Rattle.table_push.specs.declared.fault.PushFault.TheVariants.{NoReply, NotAsSet}
use Rattle.updn_routes.specs.Subnet.{RoutesState, place_of}

-- ---- one table
-- a key as it is, or as a full member of its partition holds it
abbrev pub held_as : Bool → ℕ → ℕ
held_as full key = if full then key_of (base_of key) true else key

-- these keys, and empty places behind them
abbrev pub key_table : Bool → List ℕ → List ℕ
key_table full keys = map (held_as full) keys ++ replicate (PARTITIONS - length keys) 0

-- ---- which keys
-- those of the end port with that GUID, from the list by LIDs
abbrev pub keys_of : RoutesState → List (List ℕ) → ℕ → Option (List ℕ)
keys_of routes keys guid = option_and_then (λ lid. slice_get keys (lid - 1)) (lid_in routes.lids guid)

-- the port of an adapter that is attached to that port of a switch
abbrev pub attached_at : List GraphPort → ℕ → ℕ → Option GraphPort
attached_at ports place number = find (λ one. is_same_port one.at (port place number)) ports

-- that port of the adapter with that GUID
abbrev pub port_of : List GraphPort → ℕ → ℕ → Option GraphPort
port_of ports guid number = find (λ one. (one.node_guid == guid) && (one.number == number)) ports

abbrev pub switch_keys : RoutesState → List (List ℕ) → (guid place number : ℕ) → Option (List ℕ)
switch_keys routes keys guid place number =
    if number == 0 then option_map (key_table false) (keys_of routes keys guid)
    else option_and_then (λ one. option_map (key_table true) (keys_of routes keys one.port_guid))
    (attached_at routes.graph.ports place number)

abbrev pub adapter_keys : RoutesState → List (List ℕ) → (guid number : ℕ) → Option (List ℕ)
adapter_keys routes keys guid number =
    option_and_then (λ one. option_map (key_table false) (keys_of routes keys one.port_guid)) (port_of routes.graph.ports guid number)

-- the table of that port of the node with that GUID; none at a port that has no cable, or one to another switch
unfoldable pub keys_wanted : RoutesState → List (List ℕ) → (guid number : ℕ) → Option (List ℕ)
keys_wanted routes keys guid number =
    option_map_or (λ place. switch_keys routes keys guid place number) (place_of routes.graph.switches guid)
    (adapter_keys routes keys guid number)

-- if none is wanted the table stays
abbrev pub keys_pushed : RoutesState → List (List ℕ) → FabricState → FabricState
keys_pushed routes keys fabric = with_keys (λ guid number held. unwrap_or (keys_wanted routes keys guid number) held) fabric

-- ---- while they are written
-- whether a block that is to be empty is so already, by the reply to a Get of it: an agent that refuses it has no such block,
-- which then holds nothing
abbrev pub whether_there : List ℕ → Result (List ℕ) ReplyFault → Result Bool PushFault
whether_there wanted (Ok given) = Ok (bytes_eq given wanted)
whether_there wanted (Err reply.Refused) = Ok true
whether_there wanted (Err reply.NoReply) = Err NoReply
whether_there wanted (Err reply.WrongReply) = Err NotAsSet

-- where it is reported
abbrev pub keys_where : (ℕ → ℕ → Bool) → RoutesState → List (List ℕ) → (guid number : ℕ) → List ℕ → List ℕ
keys_where there routes keys guid number held = if there guid number then unwrap_or (keys_wanted routes keys guid number) held else held

-- port 0 of one of these switches
abbrev pub at_switches : List GraphSwitch → ℕ → ℕ → Bool
at_switches switches guid number = list_any (λ switch. (switch.guid == guid) && (0 == number)) switches

-- the GUID of the switch at that place
abbrev pub guid_of : List GraphSwitch → ℕ → ℕ
guid_of switches place = option_map_or (λ switch. switch.guid) (slice_get switches place) 0

-- either end of the cable of one of these ports
abbrev pub at_cable : List GraphSwitch → (guid number : ℕ) → GraphPort → Bool
at_cable switches guid number port =
    ((guid_of switches port.at.node == guid) && (port.at.port == number)) || ((port.node_guid == guid) && (port.number == number))

abbrev pub at_cables : List GraphSwitch → List GraphPort → ℕ → ℕ → Bool
at_cables switches ports guid number = list_any (at_cable switches guid number) ports
