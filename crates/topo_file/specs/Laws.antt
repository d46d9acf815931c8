-- What is so of all nodes and cables: the statements of the laws of `src/laws.rt`.
use Rattle.std.specs.Prelude.{ℕ, ◌≡◌, ◌↔◌, true, false, List, [], ◌∷◌, ◌++◌}
use Rattle.fabric_parts.specs.declared.cable.Cable.{Cable}
use Rattle.topo_file.specs.declared.node.Node.{Node}
use Rattle.topo_file.specs.Connectivity.{AllJoined, is_connected}
use Rattle.fabric_parts.specs.declared.limits.Limits.{Limits}
use Rattle.topo_file.specs.Node.{IsGuidOf, IsWithin, is_one_too_many, shares_guid}

-- the test that computes says whether walks over cables join every two switches
abbrev pub ConnectedMeansJoined : Type 0
ConnectedMeansJoined = (nodes : List Node) (cables : List Cable) → is_connected nodes cables ≡ true ↔ AllJoined nodes cables

-- behind nodes within the limits one more is taken if and only if the limits then still hold: no sooner refused, and no later
abbrev pub LimitsAreMet : Type 0
LimitsAreMet =
    (limits : Limits) (nodes : List Node) (node : Node) → IsWithin limits nodes
    → is_one_too_many limits nodes node.node_type node.ports ≡ false ↔ IsWithin limits (nodes ++ node ∷ [])

-- two nodes are reported to share a GUID if and only if some GUID is one of both
abbrev pub SharedGuidsAreReported : Type 0
SharedGuidsAreReported = (a b : Node) → shares_guid a b ≡ true ↔ ((guid : ℕ) × IsGuidOf a guid × IsGuidOf b guid)
