-- Where a sweep begins: at the SM port, and the switch that its cable leads to.
use Rattle.std.specs.Prelude.{◌≡◌, true, [], ◌∷◌, Some, option_map, Result, Ok, Err}
use Rattle.fabric_parts.specs.Cable.{far_end}
use Rattle.fabric_parts.specs.declared.cable.PortRef.{PortRef}
use Rattle.smp_wire.specs.FabricState.{FabricState, is_switch_at}
use Rattle.sweep.specs.OfFabric.{switch_of}
use Rattle.sweep.specs.Seen.{seen_at}
use Rattle.sweep.specs.declared.discovery.Origin.{Origin}
use Rattle.sweep.specs.declared.fault.SweepFault.{SweepFault}

pub record IsStartOf (fabric : FabricState) (start : Origin) : Type 0 where
  -- the port by which the subnet manager's cable comes in
  pub there : PortRef
  pub cable : far_end fabric.cables fabric.manager ≡ Some there
  pub switch_there : is_switch_at fabric.nodes there.node ≡ true
  pub manager : option_map (λ seen. seen.port_guid) (seen_at fabric fabric.manager) ≡ Some start.manager
  pub switch : start.switch ≡ switch_of fabric (record { node = there.node; path = fabric.manager.port ∷ [] })

-- over a good fabric it is always found
abbrev pub Starts : FabricState → Result Origin SweepFault → Type 0
Starts fabric (Ok start) = IsStartOf fabric start
Starts fabric (Err fault) = ⊥
