-- What a run answers once its subnet is up.
use Rattle.std.proofs.Common.{ℕ, ◌≡◌, ◌∙◌, List, Option, Some, None, Ok, Err, refl, subst, sym}
use Rattle.step_results.proofs.StepLemmas.{same_ok}
use Rattle.step_results.specs.Gives.{Fails}
use Rattle.subnet_core.specs.BringUp.{Becomes}
use Rattle.subnet_core.specs.Fate.{FailsWith, WithFabric, up_from}
use Rattle.subnet_core.specs.Inventory.{GiveInventories, IsInventoried, InventoryState, of_text, inventory_of}
use Rattle.subnet_core.specs.Run.{report_of, reported_of}
use Rattle.script_lines.specs.Script.{commands_in}
use Rattle.subnet_core.specs.declared.fault.RunFault.{RunFault}
use Rattle.subnet_core.specs.declared.fault.RunFault.TheVariants.{Script}
use Rattle.subnet_model.specs.declared.command.Command.{Command}
use Rattle.subnet_core.proofs.BringUpLemmas.{fails_mapped, mapped, same_inventory}

-- texts of which a subnet came up give its inventory alone
pub inventories_given : (topology : List ℕ) (partitions : Option (List ℕ)) (up : InventoryState)
    → WithFabric (Becomes (inventory_of topology partitions)) (λ stop. up_from (inventory_of topology partitions) stop ≡ Ok up) → IsInventoried up
    → GiveInventories topology partitions
inventories_given topology partitions up so is = λ inventory given.
    subst IsInventoried (same_ok up inventory (sym (same_inventory (inventory_of topology partitions) so.stop up so.is) ∙ given)) is

module _ (topology : List ℕ) (partitions : Option (List ℕ)) (script : List ℕ) where
  -- it is not brought up
  not_up : (fault : RunFault) (stop : Option RunFault) → up_from (inventory_of topology partitions) stop ≡ Err fault → report_of topology partitions script stop ≡ Err fault
  unfolding report_of
  not_up fault stop is = rw is refl

  pub run_stops : (reported : Option RunFault) → FailsWith (Becomes (inventory_of topology partitions)) reported (up_from (inventory_of topology partitions))
      → FailsWith (Becomes (inventory_of topology partitions)) reported (report_of topology partitions script)
  run_stops reported fails = fails_mapped (inventory_of topology partitions) reported (up_from (inventory_of topology partitions)) (report_of topology partitions script) not_up fails

  -- its script is at fault
  with_fault : (inventory : InventoryState) (fault : RunFault) → of_text Script (commands_in inventory.plan script) ≡ Err fault
      → (stop : Option RunFault) → up_from (inventory_of topology partitions) stop ≡ Ok inventory → report_of topology partitions script stop ≡ Err fault
  unfolding report_of
  with_fault inventory fault fails stop is = rw (is, fails) refl

  pub script_fails : (inventory : InventoryState) (reported : Option RunFault) → WithFabric (Becomes (inventory_of topology partitions)) (λ stop. up_from (inventory_of topology partitions) stop ≡ Ok inventory)
      → Fails reported (of_text Script (commands_in inventory.plan script)) → FailsWith (Becomes (inventory_of topology partitions)) reported (report_of topology partitions script)
  script_fails inventory None up fails = tt
  script_fails inventory (Some fault) up fails =
      mapped (inventory_of topology partitions) (λ stop. up_from (inventory_of topology partitions) stop ≡ Ok inventory) (λ stop. report_of topology partitions script stop ≡ Err fault)
      (with_fault inventory fault fails) up

  -- its commands are carried out
  with_commands : (inventory : InventoryState) (commands : List Command) → of_text Script (commands_in inventory.plan script) ≡ Ok commands
      → (stop : Option RunFault) → up_from (inventory_of topology partitions) stop ≡ Ok inventory
      → report_of topology partitions script stop ≡ Ok (reported_of inventory.configuration commands)
  unfolding report_of
  with_commands inventory commands given stop is = rw (is, given) refl

  pub run_reports : (inventory : InventoryState) (commands : List Command) → WithFabric (Becomes (inventory_of topology partitions)) (λ stop. up_from (inventory_of topology partitions) stop ≡ Ok inventory)
      → of_text Script (commands_in inventory.plan script) ≡ Ok commands
      → WithFabric (Becomes (inventory_of topology partitions)) (λ stop. report_of topology partitions script stop ≡ Ok (reported_of inventory.configuration commands))
  run_reports inventory commands up given =
      mapped (inventory_of topology partitions) (λ stop. up_from (inventory_of topology partitions) stop ≡ Ok inventory)
      (λ stop. report_of topology partitions script stop ≡ Ok (reported_of inventory.configuration commands)) (with_commands inventory commands given) up
