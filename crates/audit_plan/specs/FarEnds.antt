-- Far ends of cables, looked up: by port, or by the place of a node and the number of its port. No definition of the subject
-- stands on these.
use Rattle.std.specs.Prelude.{ℕ, ◌+◌, ◌-◌, ◌==◌, ◌≡◌, List, [], length, map, get_or, slice_get, if◌then◌else◌, Option, None}
use Rattle.std.specs.List.{range_with_len}
use Rattle.indexmap.specs.IndexMap.{IndexMap, get}
use Rattle.fabric_parts.specs.Cable.{far_end, is_same_port, port}
use Rattle.fabric_parts.specs.declared.cable.Cable.{Cable}
use Rattle.fabric_parts.specs.declared.cable.PortRef.{PortRef}
use Rattle.topo_file.specs.Node.{ports_at}
use Rattle.audit_plan.specs.Plan.{PlanState}

-- the map has the other end of the cable at each port that has one
abbrev pub KnowsFarEnds : {S : Type 0} → IndexMap PortRef PortRef S → List Cable → Type 0
KnowsFarEnds far_ends cables = (port : PortRef) → get is_same_port far_ends port ≡ far_end cables port

-- ---- by port, from port 1 on
abbrev pub ends_at : PlanState → ℕ → List (Option PortRef)
ends_at plan place = map (λ number. far_end plan.cables (port place (number + 1))) (range_with_len 0 (ports_at plan.nodes place))

abbrev pub all_ends : PlanState → List (List (Option PortRef))
all_ends plan = map (ends_at plan) (range_with_len 0 (length plan.nodes))

abbrev pub ends_of : List (List (Option PortRef)) → ℕ → List (Option PortRef)
ends_of all place = get_or all place []

abbrev pub end_at : List (List (Option PortRef)) → PortRef → Option (Option PortRef)
end_at all here = if here.port == 0 then None else slice_get (ends_of all here.node) (here.port - 1)
