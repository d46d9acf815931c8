-- Where the ports of channel adapters are, looked up by their GUIDs.
use Rattle.std.specs.Prelude.{ℕ, ◌≡◌, ◌<◌, ◌⊎◌, ◌↔◌, List, Option, Some}
use Rattle.fabric_parts.specs.declared.cable.PortRef.{PortRef}
use Rattle.smp_wire.specs.FabricState.{FabricState}
use Rattle.smp_wire.specs.Good.{IsGood, ShowsLinks}
use Rattle.smp_wire.specs.declared.node.Node.{Node}
use Rattle.smp_wire.specs.Deliveries.{guid_at}

-- the look-up finds the port of each GUID that one has, and no other
abbrev pub Finds : List Node → (ℕ → Option PortRef) → Type 0
Finds nodes place_of = (guid : ℕ) (at : PortRef) → place_of guid ≡ Some at ↔ (guid_at nodes at ≡ Some guid)

-- what a fabric is at all times: good, its links show, and its ports are found
pub record IsKept (fabric : FabricState) (place_of : ℕ → Option PortRef) : Type 0 where
  pub good : IsGood fabric
  pub links : ShowsLinks fabric
  pub found : Finds fabric.nodes place_of

-- ---- the look-up while it is made: it has the ports before this one, node by node
abbrev pub IsBefore : PortRef → ℕ → ℕ → Type 0
IsBefore at node port = (at.node < node) ⊎ ((at.node ≡ node) × (at.port < port))

pub record IsReported (nodes : List Node) (place_of : ℕ → Option PortRef) (node port : ℕ) : Type 0 where
  pub sound : (guid : ℕ) (at : PortRef) → place_of guid ≡ Some at → guid_at nodes at ≡ Some guid
  pub full : (guid : ℕ) (at : PortRef) → guid_at nodes at ≡ Some guid → IsBefore at node port → place_of guid ≡ Some at
