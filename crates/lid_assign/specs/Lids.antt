-- The LIDs of a graph's end ports.
use Rattle.std.specs.Prelude.{ℕ, ◌+◌, ◌-◌, ◌<◌, ◌≡◌, ◌==◌, true, false, if◌then◌else◌, List, ◌∷◌, map, ◌++◌, length, position, slice_get, Option, Some, None, option_map}
use Rattle.std.specs.List.{All, list_any}
use Rattle.std.specs.List.Sorted.{IsStrictlyIncreasing}
use Rattle.pkey_rules.specs.declared.end_port.EndPort.{EndPort}
use Rattle.subnet_model.specs.EndPorts.{lid_of}
use Rattle.sweep.specs.Graph.{GraphState}
use Rattle.sweep.specs.declared.graph.GraphPort.{GraphPort}
use Rattle.sweep.specs.declared.graph.GraphSwitch.{GraphSwitch}
use Rattle.fabric_parts.specs.declared.limits.TheConstants.{ADAPTER_PORTS, SWITCHES}

-- port 0 of a switch has the switch's GUID
abbrev pub switch_end : GraphSwitch → EndPort
switch_end switch = record { guid = switch.guid; is_switch = true; is_sm = false }

abbrev pub adapter_end : ℕ → GraphPort → EndPort
adapter_end manager port = record { guid = port.port_guid; is_switch = false; is_sm = port.port_guid == manager }

-- the end ports of a graph: port 0 of each switch, and each port of an adapter
abbrev pub end_ports : GraphState → List EndPort
end_ports graph = map switch_end graph.switches ++ map (adapter_end graph.manager) graph.ports

-- ---- LIDs are the places in a list of GUIDs, counted from 1
abbrev pub lid_in : List ℕ → ℕ → Option ℕ
lid_in guids guid = option_map (λ place. place + 1) (position (λ other. other == guid) guids)

abbrev pub guid_in : List ℕ → ℕ → Option ℕ
guid_in guids lid = if lid == 0 then None else slice_get guids (lid - 1)

-- the list of these end ports
pub record AreLids (ports : List EndPort) (guids : List ℕ) : Type 0 where
  -- each has the LID that the rule gives it
  pub each : All (λ port. lid_in guids port.guid ≡ Some (lid_of ports port)) ports
  -- no other GUID has one
  pub only : (guid : ℕ) → list_any (λ port. port.guid == guid) ports ≡ false → lid_in guids guid ≡ None
  -- as many LIDs as end ports
  pub count : length guids ≡ length ports

-- ---- how the list is kept: the subnet manager's GUID, and then the others, which rise
pub record StandInOrder (manager : ℕ) (others : List ℕ) : Type 0 where
  pub rising : IsStrictlyIncreasing others
  pub apart : list_any (λ guid. guid == manager) others ≡ false
  pub few : length others < SWITCHES + ADAPTER_PORTS

-- so it stands in the order of its LIDs
pub record IsInOrder (manager : ℕ) (guids : List ℕ) : Type 0 where
  pub others : List ℕ
  pub guids_are : guids ≡ manager ∷ others
  pub stand : StandInOrder manager others
