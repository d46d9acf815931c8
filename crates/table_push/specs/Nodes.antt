-- Changes of a fabric: of each node by itself, wherever it stands. A switch is named by its GUID.
use Rattle.std.specs.Prelude.{ℕ, ◌+◌, ◌==◌, ◌&&◌, if◌then◌else◌, List, [], ◌∷◌, map}
use Rattle.smp_wire.specs.FabricState.{FabricState}
use Rattle.smp_wire.specs.Good.{node_guid}
use Rattle.smp_wire.specs.declared.node.Node.{Node}
use Rattle.smp_wire.specs.declared.node.Node.TheVariants.{Switch, Adapter}
use Rattle.attr_tables.specs.declared.port_info.PortInfo.{PortInfo}
use Rattle.port_model.specs.AdapterState.{AdapterState}
use Rattle.switch_model.specs.SwitchState.{SwitchState}
use Rattle.switch_model.specs.declared.switch_port.SwitchPort.{SwitchPort}

abbrev pub with_nodes : (Node → Node) → FabricState → FabricState
with_nodes change fabric = record fabric { nodes = map change fabric.nodes }

-- ---- switches
abbrev pub switch_by : (ℕ → SwitchState → SwitchState) → Node → Node
switch_by change (Switch held) = Switch (change held.node_guid held)
switch_by change (Adapter ports) = Adapter ports

-- each switch changes by what its GUID says
abbrev pub with_switches : (ℕ → SwitchState → SwitchState) → FabricState → FabricState
with_switches change fabric = with_nodes (switch_by change) fabric

-- the switch of that GUID alone
abbrev pub on_switch : ℕ → (SwitchState → SwitchState) → ℕ → SwitchState → SwitchState
on_switch guid change other held = if guid == other then change held else held

-- ---- ports, by the GUID of their node and their number there
-- each element by its number, the first of which is this
abbrev pub numbered : {X : Type 0} → (ℕ → X → X) → ℕ → List X → List X
numbered change number [] = []
numbered change number (x ∷ xs) = change number x ∷ numbered change (number + 1) xs

-- each port of a switch, or of an adapter, changes so
abbrev pub ports_by : (ℕ → ℕ → SwitchPort → SwitchPort) → (ℕ → ℕ → AdapterState → AdapterState) → Node → Node
ports_by of_switch of_adapter (Switch held) = Switch (record held { ports = numbered (of_switch held.node_guid) 0 held.ports })
ports_by of_switch of_adapter (Adapter ports) = Adapter (numbered (of_adapter (node_guid (Adapter ports))) 1 ports)

-- each P_Key table changes by what its port says
abbrev pub keys_by : (ℕ → ℕ → List ℕ → List ℕ) → Node → Node
keys_by change =
    ports_by (λ guid number port. record port { keys = change guid number port.keys })
    (λ guid number port. record port { keys = change guid number port.keys })

abbrev pub with_keys : (ℕ → ℕ → List ℕ → List ℕ) → FabricState → FabricState
with_keys change fabric = with_nodes (keys_by change) fabric

-- the PortInfo of each port changes by what its port says
abbrev pub infos_by : (ℕ → ℕ → PortInfo → PortInfo) → Node → Node
infos_by change =
    ports_by (λ guid number port. record port { info = change guid number port.info })
    (λ guid number port. record port { info = change guid number port.info })

abbrev pub with_infos : (ℕ → ℕ → PortInfo → PortInfo) → FabricState → FabricState
with_infos change fabric = with_nodes (infos_by change) fabric

-- that port alone
abbrev pub on_port : {X : Type 0} → ℕ → ℕ → (X → X) → ℕ → ℕ → X → X
on_port guid number change of_guid of_number held = if (guid == of_guid) && (number == of_number) then change held else held
