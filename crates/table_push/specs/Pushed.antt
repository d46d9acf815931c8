-- A fabric to which ports, P_Key tables and LFTs are pushed, one after another.
use Rattle.std.specs.Prelude.{ℕ, ◌≡◌, List, Option, Some, Result}
use Rattle.std.specs.Result.{IsOk}
use Rattle.smp_wire.specs.FabricState.{FabricState}
use Rattle.smp_wire.specs.Good.{IsGood}
use Rattle.smp_wire.specs.Shape.{IsSameShape}
use Rattle.table_push.specs.Keys.{keys_pushed}
use Rattle.table_push.specs.Linear.{linear_pushed}
use Rattle.table_push.specs.Ports.{ports_pushed}
use Rattle.table_push.specs.declared.fault.PushFault.{PushFault}
use Rattle.updn_routes.specs.Subnet.{RoutesState}

abbrev pub ports_and_keys : RoutesState → List (List ℕ) → FabricState → FabricState
ports_and_keys routes keys fabric = keys_pushed routes keys (ports_pushed routes fabric)

abbrev pub all_pushed : RoutesState → List (List ℕ) → FabricState → FabricState
all_pushed routes keys fabric = linear_pushed routes (ports_and_keys routes keys fabric)

-- it is good, and of the same shape
pub record StaysGood (was next : FabricState) : Type 0 where
  pub good : IsGood next
  pub shape : IsSameShape was next

-- each push leaves it so, as `push_ports`, `push_keys` and `push_linear` promise
pub record ArePushed (routes : RoutesState) (keys : List (List ℕ)) (fabric : FabricState) : Type 0 where
  pub ports : StaysGood fabric (ports_pushed routes fabric)
  pub key_tables : StaysGood (ports_pushed routes fabric) (ports_and_keys routes keys fabric)
  pub linear : StaysGood (ports_and_keys routes keys fabric) (all_pushed routes keys fabric)

-- all of it is done, and the wire stands for that fabric
pub record LeavesAll {X : Type 0} (result : Result X PushFault) (left : Option FabricState) (routes : RoutesState)
    (keys : List (List ℕ)) (fabric : FabricState) : Type 0 where
  pub done : IsOk result
  pub stands : left ≡ Some (all_pushed routes keys fabric)
  pub pushed : ArePushed routes keys fabric
