-- The switches to which hosts are attached: packets of hosts enter the fabric there.
use Rattle.std.specs.Prelude.{ℕ, Bool, false, List, map}
use Rattle.std.specs.List.{list_any, range_with_len}
use Rattle.std.specs.Option.{option_map_or}
use Rattle.fabric_parts.specs.Cable.{far_end, port}
use Rattle.fabric_parts.specs.declared.cable.PortRef.{PortRef}
use Rattle.topo_file.specs.Node.{ports_at}
use Rattle.audit_plan.specs.Plan.{PlanState, is_host}

-- the ports of the node there that may have a cable
abbrev pub ports_of : PlanState → ℕ → List PortRef
ports_of plan place = map (port place) (range_with_len 1 (ports_at plan.nodes place))

-- the port's cable leads to a host
abbrev pub leads_to_host : PlanState → PortRef → Bool
leads_to_host plan at = option_map_or (λ there. is_host plan there.node) (far_end plan.cables at) false

-- a host is attached to the switch there
abbrev pub carries_host : PlanState → ℕ → Bool
carries_host plan place = list_any (leads_to_host plan) (ports_of plan place)
