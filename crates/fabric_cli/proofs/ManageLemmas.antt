-- Bring-up by SMPs, as a result of the program.
use Rattle.std.proofs.Common.{ℕ, ◌≡◌, inl, inr, refl, Bool, List, [], Option, Some, None, Result, Ok, Err}
use Rattle.std.specs.Borrow.{Bor}
use Rattle.std.specs.Global.{Global}
use Rattle.std.specs.Prelude.{Vec}
use Rattle.std.specs.Io.KnownBytes.{Keeps}
use Rattle.cli_args.specs.declared.call.Work.TheVariants as work
use Rattle.fabric_cli.proofs.JudgedLemmas.{manage_over, manage_stops}
use Rattle.fabric_cli.specs.Faults.{managed_stop, replies_stop}
use Rattle.fabric_cli.specs.Serving.{Answers, Ending, ForEnding, GoesOut, IsOfManage, ManageStop, OfScript, managed_by, of_fabric, of_line, texts_with, asked_inventory}
use Rattle.fabric_cli.specs.declared.answering.Answer.{Answer}
use Rattle.fabric_cli.specs.declared.answering.Answer.TheVariants.{Complete}
use Rattle.fabric_cli.specs.declared.faults.Stop.{Stop}
use Rattle.fabric_cli.specs.declared.faults.Stop.TheVariants.{NoMemory, Run, Unsent}
use Rattle.smp_lines.specs.declared.stop.SmpStop.{SmpStop}
use Rattle.smp_lines.specs.declared.stop.SmpStop.TheVariants as smp
use Rattle.step_results.specs.Gives.{Fails}
use Rattle.subnet_core.specs.Inventory.{InventoryState, fault_in}
use Rattle.subnet_core.specs.declared.fault.RunFault.{RunFault}
use Rattle.subnet_core.specs.declared.fault.RunFault.TheVariants as run

module _ (balanced : Bool) (topology : List ℕ) (partitions : Option (List ℕ)) (read : List ℕ) (sure : Bool) (out out' : Option (List ℕ)) where
  abbrev answers : Result Answer Stop → Type 0
  answers result = Answers (texts_with topology partitions (work.Manage read balanced)) result sure out out'

  module _ (inventory : InventoryState) (is : asked_inventory balanced topology partitions ≡ Ok inventory) where
    -- this is so of an ending with such a stop
    by : (stop : Option ManageStop) (Is : Ending → Type 0) → Is (managed_by stop) → ForEnding (texts_with topology partitions (work.Manage read balanced)) Is
    by stop Is so = manage_over balanced topology partitions read stop inventory is Is so

    pub manage_done : answers (Ok Complete)
    manage_done = by None (λ ending. GoesOut Complete ending out out') (refl, refl)

    ends : ForEnding (texts_with topology partitions (work.Manage read balanced)) IsOfManage
    ends = by None IsOfManage tt

    pub unsent : answers (Err Unsent)
    unsent = ends

    some : answers (Err NoMemory)
    some = inr (by None _ tt)

    pub replies_fail : (name : Bor (List ℕ)) (stop : SmpStop) → answers (Err (replies_stop name stop))
    replies_fail name (smp.Line line) = inr (by (Some (of_line line)) _ (refl, refl, refl))
    replies_fail name smp.Read = ends
    replies_fail name smp.NoMemory = some
    replies_fail name smp.Write = ends

    pub fabric_fails : (fault : RunFault) (place : Vec ℕ Global) → answers (Err (managed_stop fault place))
    fabric_fails run.NoMemory place = some
    fabric_fails (run.Topology line cause) place = inr (by (Some (of_fabric (run.Topology line cause) place.items)) _ (refl, refl, refl))
    fabric_fails (run.Partitions line cause) place = inr (by (Some (of_fabric (run.Partitions line cause) place.items)) _ (refl, refl, refl))
    fabric_fails (run.Sweep fault) place = inr (by (Some (of_fabric (run.Sweep fault) place.items)) _ (refl, refl, refl))
    fabric_fails (run.NoLegalPath switch node number) place = inr (by (Some (of_fabric (run.NoLegalPath switch node number) place.items)) _ (refl, refl, refl))
    fabric_fails (run.Push fault) place = inr (by (Some (of_fabric (run.Push fault) place.items)) _ (refl, refl, refl))
    fabric_fails (run.Port cause) place = inr (by (Some (of_fabric (run.Port cause) place.items)) _ (refl, refl, refl))
    fabric_fails (run.Script line cause) place = inr (by (Some (of_fabric (run.Script line cause) place.items)) _ (refl, refl, refl))
    fabric_fails (run.SecondScript line cause) place = inr (by (Some (of_fabric (run.SecondScript line cause) place.items)) _ (refl, refl, refl))
    fabric_fails run.Read place = inr (by (Some (of_fabric run.Read place.items)) _ (refl, refl, refl))
    fabric_fails run.Write place = inr (by (Some (of_fabric run.Write place.items)) _ (refl, refl, refl))

-- an error of the files, before any SMP
pub files_fail : (balanced : Bool) (topology : List ℕ) (partitions : Option (List ℕ)) (read : List ℕ) (sure : Bool) (out : Option (List ℕ)) (fault : RunFault) → Keeps out out
    → Fails (fault_in fault) (asked_inventory balanced topology partitions) → Answers (texts_with topology partitions (work.Manage read balanced)) (let result : Result Answer Stop = Err (Run fault) in result) sure out out
files_fail balanced topology partitions read sure out fault same fails = inl (manage_stops balanced topology partitions read fault fails, same)

-- what is so whatever is read
pub whatever_is_read : (known : Option (List ℕ)) (Is : List ℕ → Type 0) → ((read : List ℕ) → Is read) → OfScript known Is
whatever_is_read None Is so = ([], tt, so [])
whatever_is_read (Some all) Is so = (all, refl, so all)
