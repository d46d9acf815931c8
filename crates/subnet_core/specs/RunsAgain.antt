-- One run of a comparison, in the subnet that is brought up again for it: each command names a sender of it.
use Rattle.std.specs.Prelude.{ℕ, ◌≡◌, List, Result, Ok, Err}
use Rattle.std.specs.List.{All}
use Rattle.subnet_core.specs.BringUp.{Becomes}
use Rattle.subnet_core.specs.Comparison.{PortRunState, port_run}
use Rattle.subnet_core.specs.Fate.{FailsWith, up_from}
use Rattle.subnet_core.specs.Inventory.{InventoryState, fault_in}
use Rattle.subnet_core.specs.Senders.{NamesSender}
use Rattle.subnet_core.specs.declared.fault.RunFault.{RunFault}
use Rattle.subnet_model.specs.declared.command.Command.{Command}

abbrev pub NameSenders : Result InventoryState RunFault → List Command → Type 0
NameSenders given commands = (inventory : InventoryState) → given ≡ Ok inventory → All (NamesSender inventory.configuration.ports) commands

abbrev pub RunsAgain : Result PortRunState RunFault → Result InventoryState RunFault → ℕ → List Command → Type 0
RunsAgain (Ok run) given p commands = (inventory : InventoryState) × (given ≡ Ok inventory) × (run ≡ port_run inventory.configuration p commands)
RunsAgain (Err fault) given p commands = FailsWith (Becomes given) (fault_in fault) (up_from given)
