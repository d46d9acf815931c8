-- What is pushed into linear forwarding tables: for each LID the port by which the switch sends what is for it.
use Rattle.std.specs.Prelude.{ℕ, ◌==◌, if◌then◌else◌, List, ◌++◌, take, drop, map, unwrap_or}
use Rattle.std.specs.List.{list_any, range_with_len}
use Rattle.std.specs.Option.{option_map_or}
use Rattle.agent_rules.specs.declared.power_up.TheConstants.{LINEAR_TABLE}
use Rattle.smp_wire.specs.FabricState.{FabricState}
use Rattle.switch_model.specs.SwitchState.{SwitchState}
use Rattle.table_push.specs.Nodes.{with_switches}
use Rattle.updn_routes.specs.Routes.{next_hop}
use Rattle.updn_routes.specs.Subnet.{RoutesState, place_of}

-- 0 for the switch's own LID, the port of an adapter that is attached to it, else the chosen way; and 0xFF, no port, if there
-- is none and if nobody has the LID
abbrev pub linear_entry : RoutesState → ℕ → ℕ → ℕ
linear_entry routes place lid = unwrap_or (next_hop routes.between place lid) 255

abbrev pub linear_table : RoutesState → ℕ → List ℕ
linear_table routes place = map (linear_entry routes place) (range_with_len 0 LINEAR_TABLE)

-- the switch of that GUID, which the graph has at some place
abbrev pub with_linear : RoutesState → ℕ → SwitchState → SwitchState
with_linear routes guid held =
    record held { linear = option_map_or (linear_table routes) (place_of routes.graph.switches guid) held.linear }

abbrev pub linear_pushed : RoutesState → FabricState → FabricState
linear_pushed routes fabric = with_switches (with_linear routes) fabric

-- ---- while they are written
-- the first entries of a switch are written
abbrev pub linear_to : ℕ → List ℕ → SwitchState → SwitchState
linear_to count table held = record held { linear = take count table ++ drop count held.linear }

abbrev pub set_linear : List ℕ → SwitchState → SwitchState
set_linear table held = record held { linear = table }

-- the switches at the first places of the graph are written
abbrev pub linear_before : RoutesState → ℕ → ℕ → SwitchState → SwitchState
linear_before routes count guid held =
    if list_any (λ switch. switch.guid == guid) (take count routes.graph.switches) then with_linear routes guid held else held
