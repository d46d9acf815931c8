-- What a run prints of one port.
use Rattle.std.specs.Prelude.{ℕ, ◌≡◌, false, List, ◌∷◌, ◌++◌, codes, filter, map, nat_eq, Option, Some, Ok}
use Rattle.std.specs.List.{starts_with}
use Rattle.partition_reports.specs.Ports.{port_text}
use Rattle.script_lines.specs.Script.{command_of}
use Rattle.subnet_core.specs.Fate.{up_from}
use Rattle.subnet_core.specs.EventLines.{line_text, report_text}
use Rattle.subnet_core.specs.Inventory.{InventoryState, inventory_of}
use Rattle.subnet_core.specs.Stream.{commands_before_fault}
use Rattle.subnet_core.specs.declared.fault.RunFault.{RunFault}
use Rattle.subnet_model.specs.Delivery.{port_with_guid}
use Rattle.subnet_model.specs.Near.{is_near}
use Rattle.subnet_model.specs.Restriction.{acts_in, commands_of, events_at}
use Rattle.subnet_model.specs.declared.command.Command.{Command}
use Rattle.subnet_model.specs.declared.event.PortEvent.{PortEvent}
use Rattle.subnet_model.specs.declared.subnet_port.SubnetPort.{SubnetPort}
use Rattle.text_words.specs.Lines.{lines}
use Rattle.fabric_cli.specs.Serving.{output_in, run_in}

-- the lines of an output that begin with the name of the port, as `h1/1`, and a blank
abbrev pub lines_at : SubnetPort → List ℕ → List (List ℕ)
lines_at port output = filter (λ line. starts_with nat_eq line (port_text port ++ codes " ")) (lines output)

-- in a report these are the lines of the port's own events, one for each, in order
abbrev pub APortsLinesAreItsEvents : Type 0
APortsLinesAreItsEvents =
    (topology : List ℕ) (partitions : Option (List ℕ)) (inventory : InventoryState) (p : ℕ) (port : SubnetPort) (events : List PortEvent)
    → inventory_of topology partitions ≡ Ok inventory → port_with_guid inventory.configuration.ports p ≡ Some port
    → lines_at port (report_text inventory.configuration.ports events) ≡ map (line_text inventory.configuration.ports) (events_at p events)

-- the commands of the ports near a port in a script, up to its first error
abbrev pub near_commands : InventoryState → ℕ → List ℕ → List Command
near_commands inventory p script =
    commands_of (is_near inventory.configuration.ports p) (commands_before_fault inventory.plan (lines script))

-- if two scripts have the same of these, their runs print the same lines of that port, byte for byte
abbrev pub PrintedLinesKeepPartitionsApart : Type 0
PrintedLinesKeepPartitionsApart =
    (topology : List ℕ) (partitions : Option (List ℕ)) (stop : Option RunFault) (inventory : InventoryState) (p : ℕ) (port : SubnetPort)
    (first second : List ℕ)
    → inventory_of topology partitions ≡ Ok inventory → port_with_guid inventory.configuration.ports p ≡ Some port
    → near_commands inventory p first ≡ near_commands inventory p second
    → lines_at port (output_in (run_in (up_from (inventory_of topology partitions) stop) first))
    ≡ lines_at port (output_in (run_in (up_from (inventory_of topology partitions) stop) second))

-- and a line that a far port sends can be put anywhere into a script: no line of that port changes
abbrev pub FarLinesChangeNothing : Type 0
FarLinesChangeNothing =
    (topology : List ℕ) (partitions : Option (List ℕ)) (stop : Option RunFault) (inventory : InventoryState) (p : ℕ) (port : SubnetPort)
    (first second : List ℕ) (before after : List (List ℕ)) (line : List ℕ) (command : Command)
    → inventory_of topology partitions ≡ Ok inventory → port_with_guid inventory.configuration.ports p ≡ Some port
    → lines first ≡ before ++ after → lines second ≡ before ++ (line ∷ after)
    → command_of inventory.plan line ≡ Ok (Some command) → acts_in (is_near inventory.configuration.ports p) command ≡ false
    → lines_at port (output_in (run_in (up_from (inventory_of topology partitions) stop) first))
    ≡ lines_at port (output_in (run_in (up_from (inventory_of topology partitions) stop) second))
