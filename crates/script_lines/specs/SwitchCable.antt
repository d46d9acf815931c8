-- What a line `cut PORT PORT` or `mend PORT PORT` stands for: the cable between two switches that has these two ends,
-- whichever of them a line of the topology names first.
use Rattle.std.specs.Prelude.{ℕ, Bool, ◌&&◌, List, [], ◌∷◌, Some, Result, Ok, Err, if◌then◌else◌}
use Rattle.std.specs.Option.{ok_or, option_eq}
use Rattle.std.specs.Result.{result_ok}
use Rattle.fabric_parts.specs.declared.cable.Cable.{Cable}
use Rattle.fabric_parts.specs.declared.cable.PortRef.{PortRef}
use Rattle.fabric_parts.specs.Cable.{far_end, is_same_port}
use Rattle.step_results.specs.Steps.{◌>>=◌}
use Rattle.subnet_model.specs.declared.command.Command.{Command}
use Rattle.topo_file.specs.Node.{is_switch_at}
use Rattle.topo_file.specs.Topology.{TopologyState}
use Rattle.script_lines.specs.NamedPort.{named_place}
use Rattle.script_lines.specs.declared.script_cause.ScriptCause.{ScriptCause}
use Rattle.script_lines.specs.declared.script_cause.ScriptCause.TheVariants.{Malformed, UnknownCable}

-- the place of the port that a word names: a switch has ports from 1
abbrev pub end_named : TopologyState → List ℕ → Result PortRef ScriptCause
end_named plan word = ok_or (result_ok (named_place plan word)) UnknownCable

-- both are of switches, and a cable of the topology goes from the one to the other
abbrev pub joins_switches : TopologyState → PortRef → PortRef → Bool
joins_switches plan here there =
    is_switch_at plan.nodes here.node
    && (is_switch_at plan.nodes there.node && option_eq is_same_port (far_end plan.cables here) (Some there))

abbrev pub cable_between : TopologyState → PortRef → PortRef → Result Cable ScriptCause
cable_between plan here there = if joins_switches plan here there then Ok (record { first = here; second = there }) else Err UnknownCable

-- that between the two ports that words name
unfoldable pub named_cable : TopologyState → (one other : List ℕ) → Result Cable ScriptCause
named_cable plan one other = do
  here ← end_named plan one
  there ← end_named plan other
  cable_between plan here there

-- ---- the line: the cable is mended by it, or else cut
unfoldable pub cable_encoded : TopologyState → Bool → (one other : List ℕ) → Result Command ScriptCause
cable_encoded plan mended one other = do
  cable ← named_cable plan one other
  Ok (Command.Cable (record { cable = cable; up = mended }))

unfoldable pub cable_of : TopologyState → Bool → List (List ℕ) → Result Command ScriptCause
cable_of plan mended (one ∷ other ∷ []) = cable_encoded plan mended one other
cable_of plan mended _ = Err Malformed
