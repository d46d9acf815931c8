-- What a push is over, and what it leaves.
use Rattle.std.specs.Prelude.{ℕ, ◌≡◌, ◌≤◌, Bool, true, false, List, Option, Some, Result, Ok}
use Rattle.std.specs.Result.{IsOk}
use Rattle.attr_tables.specs.declared.smp_attribute.SmpAttribute.{SmpAttribute}
use Rattle.fabric_parts.specs.declared.cable.PortRef.{PortRef}
use Rattle.smp_wire.specs.FabricState.{FabricState, is_switch_at}
use Rattle.smp_wire.specs.Get.{gives_along}
use Rattle.smp_wire.specs.Good.{IsGood}
use Rattle.smp_wire.specs.Shape.{IsSameShape}
use Rattle.smp_wire.specs.Walk.{end_of}
use Rattle.sweep.specs.OfFabric.{guid_at, ports_at}
use Rattle.table_push.specs.Fault.{compared}
use Rattle.table_push.specs.declared.fault.PushFault.{PushFault}

-- a path leads to the switch with that GUID
pub record LeadsToSwitch (fabric : FabricState) (path : List ℕ) (guid : ℕ) : Type 0 where
  pub at : PortRef
  pub ends : end_of fabric path ≡ Some at
  pub switch : is_switch_at fabric.nodes at.node ≡ true
  pub guid_is : guid_at fabric at.node ≡ guid

-- a wire stands for that fabric, which is good and of the same shape
pub record Stands (stood : Option FabricState) (was next : FabricState) : Type 0 where
  pub is : stood ≡ Some next
  pub good : IsGood next
  pub shape : IsSameShape was next

-- it is done, and leaves that fabric
pub record Leaves {X : Type 0} (result : Result X PushFault) (stood : Option FabricState) (was next : FabricState) : Type 0 where
  pub done : IsOk result
  pub stands : Stands stood was next

-- what the agent at the end of the path gives is what was wanted of it
pub record Gives (fabric : FabricState) (path : List ℕ) (attribute : SmpAttribute) (modifier : ℕ) (wanted : List ℕ) : Type 0 where
  pub bytes : List ℕ
  pub given : gives_along fabric path attribute modifier ≡ Some (Ok bytes)
  pub same : compared attribute wanted bytes ≡ wanted

-- a port of that number is asked for at a node of so many, by an SMP that comes in at `in_port`: a switch is asked for any
-- of its ports, a port of an adapter for itself
abbrev pub IsAskedFor : Bool → (count in_port asked number : ℕ) → Type 0
IsAskedFor true count in_port asked number = (asked ≡ number) × (number ≤ count)
IsAskedFor false count in_port asked number = (asked ≡ 0) × (in_port ≡ number) × (1 ≤ number) × (number ≤ count)

-- a path leads to the node with that GUID, and there that port is asked for
pub record LeadsToPort (fabric : FabricState) (path : List ℕ) (asked guid number : ℕ) : Type 0 where
  pub at : PortRef
  pub ends : end_of fabric path ≡ Some at
  pub guid_is : guid_at fabric at.node ≡ guid
  pub there : IsAskedFor (is_switch_at fabric.nodes at.node) (ports_at fabric at.node) at.port asked number
