-- Whether a packet may be sent, and whom it reaches.
use Rattle.std.specs.Prelude.{ℕ, Bool, true, false, not, ◌==◌, ◌&&◌, ◌||◌, List, Option, Some, None, if◌then◌else◌, find}
use Rattle.fabric_parts.specs.Lid.{is_reserved, manager_lid}
use Rattle.fabric_parts.specs.NodeType.{is_switch_type}
use Rattle.pkey_rules.specs.KeyTable.{accepts, holds}
use Rattle.pkey_rules.specs.PKey.{default_base, key_of, matches}
use Rattle.data_packet.specs.QueuePair.{general_services_qp, is_general_services, is_subnet_management}
use Rattle.data_packet.specs.declared.refusal.Refusal.{Refusal}
use Rattle.data_packet.specs.declared.refusal.Refusal.TheVariants.{KeyNotHeld, QpZero, ReservedDlid}
use Rattle.subnet_model.specs.declared.subnet_port.SubnetPort.{SubnetPort}
use Rattle.subnet_model.specs.declared.command.AskCommand.{AskCommand}
use Rattle.subnet_model.specs.declared.command.SendCommand.{SendCommand}

-- the port of this GUID, by which commands and events name it
abbrev pub port_with_guid : List SubnetPort → ℕ → Option SubnetPort
port_with_guid ports guid = find (λ port. port.guid == guid) ports

-- why a port will not send: it holds no such key, or the queue pair is 0, or the LID is 0 or the permissive one
abbrev pub refusal_of : SubnetPort → SendCommand → Option Refusal
refusal_of sender command =
    if not (holds command.p_key sender.keys)
    then Some KeyNotHeld
    else if is_subnet_management command.destination_qp
    then Some QpZero
    else if is_reserved command.dlid
    then Some ReservedDlid
    else None

-- a packet reaches a port of an adapter that holds a key which matches the packet's, if the port has the destination LID, or has
-- joined a multicast group of that LID and is not the sender
abbrev pub reaches_joined : (ℕ → Bool) → SendCommand → SubnetPort → Bool
reaches_joined has_joined command port =
    ((has_joined port.guid && not (port.guid == command.port_guid)) || (port.lid == command.dlid))
    && (not (is_switch_type port.node_type) && accepts command.p_key port.keys)

-- whom it reaches if no port has joined a group
abbrev pub reaches : SendCommand → SubnetPort → Bool
reaches command port = reaches_joined (λ guid. false) command port

-- ---- subnet administration
-- what is sent to the SM port, and to the queue pair of general services, is for it
abbrev pub is_for_sa : SendCommand → Bool
is_for_sa command = (command.dlid == manager_lid) && is_general_services command.destination_qp

-- the key by which the SM port answers what travels under this key: the one of its own that matches
abbrev pub key_that_matches : ℕ → Option SubnetPort → Option ℕ
key_that_matches key (Some manager) = find (λ held. matches held key) manager.keys
key_that_matches key None = None

abbrev pub manager_key : List SubnetPort → ℕ → Option ℕ
manager_key ports key = key_that_matches key (find (λ port. port.lid == manager_lid) ports)

-- a port asks under the key of the default partition that it holds
abbrev pub asking_key : List ℕ → Option ℕ
asking_key keys =
    if holds (key_of default_base true) keys
    then Some (key_of default_base true)
    else if holds (key_of default_base false) keys
    then Some (key_of default_base false)
    else None

-- the packet by which it asks
abbrev pub sent_to_ask : AskCommand → ℕ → SendCommand
sent_to_ask command key = record {
  port_guid = command.port_guid;
  dlid = manager_lid;
  p_key = key;
  destination_qp = general_services_qp;
  payload = command.mad;
}
