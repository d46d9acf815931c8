-- The end port that a word names: its GUID or its place, or why there is none.
use Rattle.std.specs.Prelude.{ℕ, ◌==◌, List, slice_get, Result, Ok, Err, if◌then◌else◌}
use Rattle.std.specs.Option.{ok_or, option_map_or}
use Rattle.text_words.specs.Words.{port_in}
use Rattle.fabric_parts.specs.declared.cable.PortRef.{PortRef}
use Rattle.fabric_parts.specs.Cable.{is_cabled}
use Rattle.step_results.specs.Steps.{◌>>=◌}
use Rattle.topo_file.specs.Cable.{port_at}
use Rattle.topo_file.specs.Node.{is_switch_at, place_of, port_guid_at}
use Rattle.topo_file.specs.Topology.{TopologyState}
use Rattle.topo_file.specs.declared.node.Node.{Node}
use Rattle.script_lines.specs.declared.script_cause.ScriptCause.{ScriptCause}
use Rattle.script_lines.specs.declared.script_cause.ScriptCause.TheVariants.{UnknownPort, UncabledPort}

-- the place of the port of that name and number
unfoldable pub named_place : TopologyState → List ℕ → Result PortRef ScriptCause
named_place plan word = do
  port ← ok_or (port_in word) UnknownPort
  place ← ok_or (place_of port.name plan.nodes) UnknownPort
  ok_or (port_at plan.nodes place port.number) UnknownPort

-- ---- of all
-- of a switch port 0 alone, which has the GUID of the switch
abbrev pub switch_guid : List Node → ℕ → ℕ
switch_guid nodes place = option_map_or (λ node. node.guid) (slice_get nodes place) 0

abbrev pub switch_port : TopologyState → ℕ → ℕ → Result ℕ ScriptCause
switch_port plan place number = if number == 0 then Ok (switch_guid plan.nodes place) else Err UnknownPort

-- of a channel adapter each port that has a cable
abbrev pub cabled_port : TopologyState → PortRef → Result ℕ ScriptCause
cabled_port plan at = if is_cabled plan.cables at then Ok (port_guid_at plan.nodes at) else Err UncabledPort

abbrev pub adapter_port : TopologyState → ℕ → ℕ → Result ℕ ScriptCause
adapter_port plan place number = ok_or (port_at plan.nodes place number) UnknownPort >>= λ at. cabled_port plan at

unfoldable pub named_port : TopologyState → List ℕ → Result ℕ ScriptCause
named_port plan word = do
  port ← ok_or (port_in word) UnknownPort
  place ← ok_or (place_of port.name plan.nodes) UnknownPort
  if is_switch_at plan.nodes place then switch_port plan place port.number else adapter_port plan place port.number

-- ---- of channel adapters alone
-- the place of a port of a channel adapter that has a cable
abbrev pub place_if_cabled : TopologyState → PortRef → Result PortRef ScriptCause
place_if_cabled plan at =
    if is_switch_at plan.nodes at.node then Err UnknownPort
    else if is_cabled plan.cables at then Ok at
    else Err UncabledPort

unfoldable pub adapter_place : TopologyState → List ℕ → Result PortRef ScriptCause
adapter_place plan word = named_place plan word >>= λ at. place_if_cabled plan at

-- and its GUID
unfoldable pub named_adapter_port : TopologyState → List ℕ → Result ℕ ScriptCause
named_adapter_port plan word = adapter_place plan word >>= λ at. Ok (port_guid_at plan.nodes at)
