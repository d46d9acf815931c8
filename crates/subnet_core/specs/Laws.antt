-- What holds of every script that is accepted, and of what becomes of every fabric: the statements of the laws of `src/laws.rt`.
use Rattle.std.specs.Prelude.{ℕ, ◌≡◌, ◌==◌, ◌&&◌, List, Option, Ok}
use Rattle.std.specs.List.{All, list_any}
use Rattle.subnet_model.specs.declared.command.Command.{Command}
use Rattle.sa_replies.specs.Administration.{subnet_administration}
use Rattle.subnet_core.specs.After.{IsUpAfter}
use Rattle.subnet_core.specs.BringUp.{Becomes}
use Rattle.subnet_core.specs.Headline.{RecordsComeFromNear}
use Rattle.subnet_core.specs.Inventory.{InventoryState, IsInventoried, inventory_by, inventory_of}
use Rattle.subnet_core.specs.Run.{ReportState, report_of, reported_of}
use Rattle.subnet_core.specs.Stream.{commands_before_fault}
use Rattle.subnet_fabric.specs.BringUp.{BroughtUpState}
use Rattle.subnet_model.specs.Isolation.{DependsOnNear}
use Rattle.subnet_model.specs.Near.{is_near, near}
use Rattle.subnet_model.specs.Restriction.{commands_of, events_at}
use Rattle.subnet_model.specs.declared.subnet_port.SubnetPort.{SubnetPort}
use Rattle.subnet_model.specs.Source.{ComesFromNear}
use Rattle.script_lines.specs.Script.{commands_in}
use Rattle.subnet_core.specs.Senders.{NamesSender}
use Rattle.subnet_core.specs.declared.fault.RunFault.{RunFault}
use Rattle.updn_routes.specs.declared.tie_rule.TieRule.{TieRule}

-- each command that a script gives names a port of a channel adapter that the inventory lists
abbrev pub EachCommandNamesASender : Type 0
EachCommandNamesASender =
    (inventory : InventoryState) → IsInventoried inventory → (script : List ℕ) (commands : List Command) → commands_in inventory.plan script ≡ Ok commands
    → All (NamesSender inventory.configuration.ports) commands

-- no inventory's fabric both comes up and is stopped, and no two faults stop it
abbrev pub OneThingBecomesOfAFabric : Type 0
OneThingBecomesOfAFabric =
    (rule : TieRule) (topology : List ℕ) (partitions : Option (List ℕ)) (inventory : InventoryState) (stop other : Option RunFault)
    → inventory_by rule topology partitions ≡ Ok inventory → Becomes (Ok inventory) stop → Becomes (Ok inventory) other → stop ≡ other

-- so what a run answers is one function of its texts
abbrev pub TextsHaveOneAnswer : Type 0
TextsHaveOneAnswer =
    (topology : List ℕ) (partitions : Option (List ℕ)) (script : List ℕ) (stop other : Option RunFault)
    → Becomes (inventory_of topology partitions) stop → Becomes (inventory_of topology partitions) other
    → report_of topology partitions script stop ≡ report_of topology partitions script other

-- what a stream reports, after whatever lines it ends, keeps partitions apart as a run does
abbrev pub StreamsKeepPartitionsApart : Type 0
StreamsKeepPartitionsApart =
    (inventory : InventoryState) → IsInventoried inventory → (taken : List (List ℕ)) (p : ℕ)
    → let commands = commands_before_fault inventory.plan taken in
    let events = (reported_of inventory.configuration commands).events in
    DependsOnNear subnet_administration inventory.configuration p commands events × ComesFromNear inventory.configuration.ports p events
    × RecordsComeFromNear inventory.configuration p commands events

-- and two scripts in which the ports near p do the same bring p the same events
abbrev pub TwoRunsAgree : Type 0
TwoRunsAgree =
    (topology : List ℕ) (partitions : Option (List ℕ)) (inventory : InventoryState) (first second : List ℕ) (one other : Option RunFault)
    (commands others : List Command) (report another : ReportState) (p : ℕ)
    → inventory_of topology partitions ≡ Ok inventory
    → commands_in inventory.plan first ≡ Ok commands → commands_in inventory.plan second ≡ Ok others
    → commands_of (is_near inventory.configuration.ports p) commands ≡ commands_of (is_near inventory.configuration.ports p) others
    → report_of topology partitions first one ≡ Ok report → report_of topology partitions second other ≡ Ok another
    → events_at p report.events ≡ events_at p another.events

-- a list of ports near p has a GUID if and only if that is the GUID of a port, and near p
abbrev pub ListsNear : (List SubnetPort → ℕ → List ℕ) → Type 0
ListsNear listed =
    (ports : List SubnetPort) (p q : ℕ)
    → list_any (λ guid. guid == q) (listed ports p) ≡ (is_near ports p q && list_any (λ port. port.guid == q) ports)

abbrev pub NearIsListed : Type 0
NearIsListed = ListsNear near

-- ---- what a script leaves
-- is one fabric
abbrev pub OneFabricIsLeft : Type 0
OneFabricIsLeft =
    (inventory : InventoryState) (commands : List Command) (one other : BroughtUpState) → IsInventoried inventory
    → IsUpAfter inventory commands one → IsUpAfter inventory commands other → one.fabric ≡ other.fabric
