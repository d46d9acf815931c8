-- What runs print of a port depends only on the ports near it.
use Rattle.std.proofs.Common.{ℕ, ◌≡◌, ◌∙◌, ap, refl, sym, Bool, false, if◌then◌else◌, List, [], ◌∷◌, ◌++◌, map, Option, Some, None, Result, Ok, Err}
use Rattle.partition_file.specs.declared.partition.Partition.{Partition}
use Rattle.step_results.proofs.StepLemmas.{bind_ok, same_ok}
use Rattle.step_results.specs.AtLine.{AtLine}
use Rattle.sa_replies.proofs.ApartLemmas.{runs_are_isolated}
use Rattle.sa_replies.specs.Administration.{subnet_administration}
use Rattle.topo_file.proofs.TopologyLemmas.{topology_is_sound}
use Rattle.script_lines.specs.Script.{command_of}
use Rattle.script_lines.specs.declared.script_cause.ScriptCause.{ScriptCause}
use Rattle.subnet_core.specs.Fate.{up_from}
use Rattle.subnet_core.specs.EventLines.{line_text}
use Rattle.subnet_core.specs.Inventory.{InventoryState, of_text, partitions_for, inventory_by, inventory_of, inventoried}
use Rattle.updn_routes.specs.declared.tie_rule.TieRule.TheVariants.{LeastPort}
use Rattle.subnet_core.specs.Stream.{and_then_those, commands_before_fault, judged as judged_lines, reported_of_lines}
use Rattle.subnet_core.specs.declared.fault.RunFault.TheVariants.{Topology}
use Rattle.subnet_model.specs.Delivery.{port_with_guid}
use Rattle.subnet_model.specs.Near.{is_near}
use Rattle.subnet_model.specs.Report.{report_by}
use Rattle.subnet_model.specs.Restriction.{acts_in, commands_of, events_at}
use Rattle.subnet_model.specs.declared.command.Command.{Command}
use Rattle.subnet_model.specs.declared.event.PortEvent.{PortEvent}
use Rattle.subnet_model.specs.declared.subnet_port.SubnetPort.{SubnetPort}
use Rattle.subnet_fabric.specs.Ports.{ports_of}
use Rattle.text_words.specs.Lines.{lines}
use Rattle.topo_file.specs.Sound.{IsSound}
use Rattle.topo_file.specs.Topology.{TopologyState, topology_of}
use Rattle.topo_file.specs.declared.fault.TopologyCause.{TopologyCause}
use Rattle.fabric_cli.proofs.PortLineLemmas.{own_lines}
use Rattle.fabric_cli.proofs.RunLemmas.{script_output}
use Rattle.fabric_cli.specs.Printed.{APortsLinesAreItsEvents, FarLinesChangeNothing, PrintedLinesKeepPartitionsApart, lines_at, near_commands}
use Rattle.fabric_cli.specs.Serving.{output_in, run_in}

-- the inventory of two texts is that of a sound topology, under some partitions
record IsOf (inventory : InventoryState) : Type 0 where
  plan : TopologyState
  sound : IsSound plan
  partitions : List Partition
  is : inventory ≡ inventoried LeastPort plan partitions

read_as : (found : Result TopologyState (AtLine TopologyCause)) (plan : TopologyState) → of_text Topology found ≡ Ok plan → found ≡ Ok plan
read_as (Ok other) plan is = ap (λ (one : TopologyState). Ok one) (same_ok other plan is)
read_as (Err at) plan is = absurd cc

is_of : (topology : List ℕ) (partitions : Option (List ℕ)) (inventory : InventoryState) → inventory_of topology partitions ≡ Ok inventory → IsOf inventory
unfolding inventory_by
is_of topology partitions inventory given =
    let plan = bind_ok (of_text Topology (topology_of topology)) _ inventory given in
    let all = bind_ok (partitions_for partitions) _ inventory plan.2 in
    record {
      plan = plan.0;
      sound = topology_is_sound topology plan.0 (read_as (topology_of topology) plan.0 plan.1);
      partitions = all.0;
      is = sym (same_ok (inventoried LeastPort plan.0 all.0) inventory all.2);
    }

pub a_ports_lines_are_its_events : APortsLinesAreItsEvents
a_ports_lines_are_its_events topology partitions inventory p port events given found =
    let of = is_of topology partitions inventory given in
    let here : port_with_guid (ports_of of.partitions of.plan) p ≡ Some port = ap (λ (one : InventoryState). port_with_guid one.configuration.ports p) (sym of.is) ∙ found in
    rw of.is (own_lines of.plan of.partitions of.sound p port here events)

module _ (topology : List ℕ) (partitions : Option (List ℕ)) (inventory : InventoryState) (p : ℕ) (port : SubnetPort)
    (given : inventory_of topology partitions ≡ Ok inventory) (found : port_with_guid inventory.configuration.ports p ≡ Some port) where
  -- the events of the commands that a script gives up to its first fault
  abbrev events_of : List Command → List PortEvent
  events_of commands = report_by subnet_administration inventory.configuration commands

  abbrev printed : List ℕ → List ℕ
  printed script = output_in (run_in (Ok inventory) script)

  by_near : (script : List ℕ) → lines_at port (printed script) ≡ map (line_text inventory.configuration.ports) (events_at p (events_of (near_commands inventory p script)))
  by_near script =
      let commands = commands_before_fault inventory.plan (lines script) in
      ap (lines_at port) (script_output (reported_of_lines inventory (lines script)) (judged_lines inventory.plan (lines script)))
      ∙ a_ports_lines_are_its_events topology partitions inventory p port (events_of commands) given found
      ∙ ap (map (line_text inventory.configuration.ports)) (runs_are_isolated inventory.configuration commands p).0

pub printed_lines_keep_partitions_apart : PrintedLinesKeepPartitionsApart
unfolding up_from
printed_lines_keep_partitions_apart topology partitions None inventory p port first second given found same =
    rw given (by_near topology partitions inventory p port given found first
    ∙ ap (λ (commands : List Command). map (line_text inventory.configuration.ports) (events_at p (report_by subnet_administration inventory.configuration commands))) same
    ∙ sym (by_near topology partitions inventory p port given found second))
printed_lines_keep_partitions_apart topology partitions (Some fault) inventory p port first second given found same = rw given refl

-- ---- what a far port sends is none of the near commands
module _ (plan : TopologyState) (in_set : ℕ → Bool) (line : List ℕ) (command : Command) (after : List (List ℕ))
    (is : command_of plan line ≡ Ok (Some command)) (far : acts_in in_set command ≡ false) where
  abbrev given_by : List (List ℕ) → List Command
  given_by taken = commands_of in_set (commands_before_fault plan taken)

  at_once : given_by after ≡ given_by (line ∷ after)
  unfolding commands_before_fault
  at_once = rw (is, far) refl

  far_is_dropped : (before : List (List ℕ)) → given_by (before ++ after) ≡ given_by (before ++ (line ∷ after))
  unfolding commands_before_fault
  far_is_dropped [] = at_once
  far_is_dropped (one ∷ before) = by (command_of plan one) (far_is_dropped before)
    where
      by : (read : Result (Option Command) ScriptCause) → given_by (before ++ after) ≡ given_by (before ++ (line ∷ after))
          → commands_of in_set (and_then_those read (commands_before_fault plan (before ++ after)))
          ≡ commands_of in_set (and_then_those read (commands_before_fault plan (before ++ (line ∷ after))))
      by (Ok None) same = same
      by (Ok (Some other)) same = ap (λ (later : List Command). if acts_in in_set other then other ∷ later else later) same
      by (Err cause) same = refl

pub far_lines_change_nothing : FarLinesChangeNothing
far_lines_change_nothing topology partitions stop inventory p port first second before after line command given found parts longer is far =
    let near = is_near inventory.configuration.ports p in
    printed_lines_keep_partitions_apart topology partitions stop inventory p port first second given found
    (ap (λ (taken : List (List ℕ)). commands_of near (commands_before_fault inventory.plan taken)) parts
    ∙ far_is_dropped inventory.plan near line command after is far before
    ∙ sym (ap (λ (taken : List (List ℕ)). commands_of near (commands_before_fault inventory.plan taken)) longer))
