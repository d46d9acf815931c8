-- By which rule of ties the routes are that a command looks at.
use Rattle.std.proofs.Common.{ℕ, ◌≡◌, Bool, true, false, List, Option, Some, None, Result, Ok, Err, refl, subst}
use Rattle.step_results.specs.AtLine.{AtLine}
use Rattle.partition_file.specs.declared.partition.Partition.{Partition}
use Rattle.script_lines.specs.Script.{commands_in}
use Rattle.script_lines.specs.declared.script_cause.ScriptCause.{ScriptCause}
use Rattle.subnet_core.specs.After.{StandsAfter, TurnsAfter}
use Rattle.subnet_core.specs.BringUp.{Turns}
use Rattle.subnet_core.specs.Inventory.{InventoryState, inventoried, inventory_by, partitions_for}
use Rattle.subnet_core.specs.declared.fault.RunFault.{RunFault}
use Rattle.subnet_fabric.specs.BringUp.{BroughtUpState}
use Rattle.subnet_fabric.specs.SetUp.{IsByRule}
use Rattle.subnet_model.specs.declared.command.Command.{Command}
use Rattle.topo_file.specs.Topology.{TopologyState, topology_of}
use Rattle.updn_routes.specs.declared.tie_rule.TieRule.{TieRule}
use Rattle.updn_routes.specs.declared.tie_rule.TieRule.TheVariants.{LeastPort, Balanced}
use Rattle.fabric_cli.specs.Laws.{RoutesAreAsAsked}

module _ (rule : TieRule) (topology : List ℕ) (partitions : Option (List ℕ)) (plan : TopologyState) (all : List Partition) (up : BroughtUpState)
    (read : topology_of topology ≡ Ok plan) (named : partitions_for partitions ≡ Ok all) where
  is_given : inventory_by rule topology partitions ≡ Ok (inventoried rule plan all)
  unfolding inventory_by
  is_given = rw (read, named) refl

  when_up : Turns (inventory_by rule topology partitions) (Ok up) → IsByRule rule up.routes
  when_up turns =
      let here : Turns (Ok (inventoried rule plan all)) (Ok up) = subst (λ (given : Result InventoryState RunFault). Turns given (Ok up)) is_given turns in
      here.1

  behind : (script : Option (List ℕ)) → TurnsAfter (Ok (inventoried rule plan all)) script (Ok up) → IsByRule rule up.routes
  behind None turns = turns.1
  behind (Some script) turns = by (commands_in plan script) turns
    where
      by : (found : Result (List Command) (AtLine ScriptCause)) → StandsAfter (inventoried rule plan all) up found → IsByRule rule up.routes
      by (Ok commands) stands = stands.ruled
      by (Err at) stands = stands.1

  when_left : (script : Option (List ℕ)) → TurnsAfter (inventory_by rule topology partitions) script (Ok up) → IsByRule rule up.routes
  when_left script turns =
      behind script (subst (λ (given : Result InventoryState RunFault). TurnsAfter given script (Ok up)) is_given turns)

pub routes_are_as_asked : RoutesAreAsAsked
routes_are_as_asked = record {
  listed = λ topology partitions plan all up finding read named comes. when_up Balanced topology partitions plan all up read named comes;
  looked_at = λ what script topology partitions plan all up finding read named comes. when_left Balanced topology partitions plan all up read named script comes;
  cut = λ view topology partitions plan all up finding read named comes. when_up Balanced topology partitions plan all up read named comes.0;
  least_listed = λ topology partitions plan all up finding read named comes. when_up LeastPort topology partitions plan all up read named comes;
  least_looked_at = λ what script topology partitions plan all up finding read named comes.
      when_left LeastPort topology partitions plan all up read named script comes;
  least_cut = λ view topology partitions plan all up finding read named comes. when_up LeastPort topology partitions plan all up read named comes.0;
  run = λ script topology partitions plan all up finding read named comes. when_up LeastPort topology partitions plan all up read named comes;
}
