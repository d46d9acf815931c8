-- How an answer depends on the fabric of a subnet: on whether something stops its bring-up, and on nothing else of it.
use Rattle.std.specs.Prelude.{◌≡◌, Option, Some, None, Result, Ok, Err}
use Rattle.step_results.specs.Steps.{◌>>=◌}
use Rattle.subnet_core.specs.Inventory.{InventoryState, fault_in}
use Rattle.subnet_core.specs.declared.fault.RunFault.{RunFault}

-- the inventory, unless this error stops its fabric
abbrev pub unless_stopped : Option RunFault → InventoryState → Result InventoryState RunFault
unless_stopped None inventory = Ok inventory
unless_stopped (Some fault) inventory = Err fault

unfoldable pub up_from : Result InventoryState RunFault → Option RunFault → Result InventoryState RunFault
up_from given stop = given >>= unless_stopped stop

-- some fate that the fabric may have, an error that stops its bring-up or none, is so
pub record WithFabric (Becomes : Option RunFault → Type 0) (Is : Option RunFault → Type 0) : Type 0 where
  pub stop : Option RunFault
  pub becomes : Becomes stop
  pub is : Is stop

-- it fails with this error by such a fate; with none it is out of memory, of which nothing is said
abbrev pub FailsWith : {Y : Type 0} → (Option RunFault → Type 0) → Option RunFault → (Option RunFault → Result Y RunFault) → Type 0
FailsWith Becomes None answer = Unit {0}
FailsWith Becomes (Some fault) answer = WithFabric Becomes (λ stop. answer stop ≡ Err fault)

-- the result is the answer by such a fate, unless an allocation failed
abbrev pub Answers : {X Y : Type 0} → (X → Y) → Result X RunFault → (Option RunFault → Type 0)
    → (Option RunFault → Result Y RunFault) → Type 0
Answers view (Ok x) Becomes answer = WithFabric Becomes (λ stop. answer stop ≡ Ok (view x))
Answers view (Err fault) Becomes answer = FailsWith Becomes (fault_in fault) answer
