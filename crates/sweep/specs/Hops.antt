-- How far the parts of a fabric are from the SM port, in cables.
use Rattle.std.specs.Prelude.{ℕ, ◌≡◌, ◌≤◌, true, List, ◌∷◌, length, Some}
use Rattle.std.specs.List.{Contains}
use Rattle.fabric_parts.specs.declared.cable.Cable.{Cable}
use Rattle.fabric_parts.specs.declared.cable.PortRef.{PortRef}
use Rattle.smp_wire.specs.FabricState.{FabricState, is_switch_at}
use Rattle.smp_wire.specs.Walk.{end_of}

-- some path that leaves by the SM port ends at that switch after so many hops or less
pub record IsWithin (fabric : FabricState) (hops node : ℕ) : Type 0 where
  pub switch : is_switch_at fabric.nodes node ≡ true
  pub rest : List ℕ
  pub short : length (fabric.manager.port ∷ rest) ≤ hops
  pub at : PortRef
  pub ends : end_of fabric (fabric.manager.port ∷ rest) ≡ Some at
  pub node_is : at.node ≡ node

-- some cable has no end at a switch that is 62 hops away or less, so that no SMP of 63 hops goes over it
pub record IsTooFar (fabric : FabricState) : Type 0 where
  pub cable : Cable
  pub there : Contains fabric.cables cable
  pub first : IsWithin fabric 62 cable.first.node → ⊥
  pub second : IsWithin fabric 62 cable.second.node → ⊥
