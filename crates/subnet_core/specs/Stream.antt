-- What `run_stream` writes: a script is carried out while it is read, and what happens is reported line after line.
use Rattle.std.specs.Prelude.{ℕ, ◌≡◌, ◌⊎◌, List, [], ◌∷◌, ◌++◌, filter, Option, Result, Ok, Err}
use Rattle.std.specs.Io.KnownBytes.{Appends, Consumes, IsAtEnd}
use Rattle.std.specs.Option.{option_to_list}
use Rattle.step_results.specs.AtLine.{AtLine, after_lines}
use Rattle.sa_replies.specs.Administration.{subnet_administration}
use Rattle.script_lines.specs.Script.{command_of, with_line}
use Rattle.script_lines.specs.declared.script_cause.ScriptCause.{ScriptCause}
use Rattle.subnet_core.specs.BringUp.{Becomes}
use Rattle.subnet_core.specs.Fate.{FailsWith, WithFabric, up_from}
use Rattle.subnet_core.specs.EventLines.{report_text}
use Rattle.subnet_core.specs.Inventory.{IsInventoried, InventoryState, fault_in, of_text}
use Rattle.subnet_core.specs.declared.fault.RunFault.{RunFault}
use Rattle.subnet_core.specs.declared.fault.RunFault.TheVariants.{NoMemory, Script, Read, Write}
use Rattle.subnet_model.specs.Report.{report_by}
use Rattle.subnet_model.specs.declared.command.Command.{Command}
use Rattle.text_streams.specs.Writing.{AppendsPart}
use Rattle.text_words.specs.Lines.{ends_in, lines}
use Rattle.topo_file.specs.Topology.{TopologyState}

-- ---- what lines report
-- their commands, up to the first line that is at fault
abbrev pub and_then_those : Result (Option Command) ScriptCause → List Command → List Command
and_then_those (Ok command) rest = option_to_list command ++ rest
and_then_those (Err cause) rest = []

unfoldable pub commands_before_fault : TopologyState → List (List ℕ) → List Command
commands_before_fault plan [] = []
commands_before_fault plan (line ∷ rest) = and_then_those (command_of plan line) (commands_before_fault plan rest)

-- the report of these, as it is printed
abbrev pub reported_of_lines : InventoryState → List (List ℕ) → List ℕ
reported_of_lines inventory taken =
    report_text inventory.configuration.ports
    (report_by subnet_administration inventory.configuration (commands_before_fault inventory.plan taken))

-- all their commands, or the first fault: of the lines of a script this is what `run` reads
abbrev pub judged : TopologyState → List (List ℕ) → Result (List Command) (AtLine ScriptCause)
judged plan taken = after_lines (with_line plan) 1 [] taken

-- ---- the lines of what was read: those that LF ends, and at the end of the script the last, too, that may lack it
abbrev pub whole_lines : List ℕ → List (List ℕ)
whole_lines read = filter (ends_in 10) (lines read)

abbrev pub AreLinesOf : (read : List ℕ) → (left : Option (List ℕ)) → List (List ℕ) → Type 0
AreLinesOf read left taken = (taken ≡ whole_lines read) ⊎ ((taken ≡ lines read) × IsAtEnd left)

-- what is reported of the lines that end in what was read
abbrev pub report_so_far : InventoryState → List ℕ → List ℕ
report_so_far inventory read = reported_of_lines inventory (whole_lines read)

-- ---- how it ends over them, and what the writer has then
abbrev pub EndsSo : {X : Type 0} → InventoryState → Result X RunFault → (read : List ℕ) → (left : Option (List ℕ)) → (taken : List (List ℕ))
    → (old new : Option (List ℕ)) → Type 0
EndsSo inventory (Ok done) read left taken old new =
    (taken ≡ lines read) × IsAtEnd left × (judged inventory.plan taken ≡ Ok (commands_before_fault inventory.plan taken))
    × Appends old new (reported_of_lines inventory taken)
EndsSo inventory (Err (Script line cause)) read left taken old new =
    (of_text Script (judged inventory.plan taken) ≡ Err (Script line cause)) × Appends old new (reported_of_lines inventory taken)
-- a line that was begun is not taken
EndsSo inventory (Err Read) read left taken old new =
    (taken ≡ whole_lines read) × (judged inventory.plan taken ≡ Ok (commands_before_fault inventory.plan taken))
    × Appends old new (reported_of_lines inventory taken)
-- of what is reported some beginning went out
EndsSo inventory (Err Write) read left taken old new = AppendsPart old new (reported_of_lines inventory taken)
EndsSo inventory (Err NoMemory) read left taken old new = AppendsPart old new (reported_of_lines inventory taken)
EndsSo inventory (Err fault) read left taken old new = ⊥

-- a subnet that is up carries out what is read, from the reader's bytes and to the writer's
pub record CarriesOut (X : Type 0) (inventory : InventoryState) (answer : Result X RunFault) (script left old new : Option (List ℕ)) : Type 0 where
  pub read : List ℕ
  pub consumed : Consumes script left read
  pub taken : List (List ℕ)
  pub are_lines : AreLinesOf read left taken
  pub ends : EndsSo inventory answer read left taken old new

-- ---- from the texts of topology and partitions on
-- if no subnet comes up nothing is read and nothing is written
abbrev pub DoesNotBegin : {X : Type 0} → Result X RunFault → Result InventoryState RunFault → Type 0
DoesNotBegin (Ok done) given = ⊥
DoesNotBegin (Err fault) given = FailsWith (Becomes given) (fault_in fault) (up_from given)

abbrev pub Streams : {X : Type 0} → Result X RunFault → Result InventoryState RunFault → (script left old new : Option (List ℕ)) → Type 0
Streams {X} answer given script left old new =
    (DoesNotBegin answer given × (left ≡ script) × (new ≡ old))
    ⊎ ((inventory : InventoryState) × IsInventoried inventory × WithFabric (Becomes given) (λ stop. up_from given stop ≡ Ok inventory)
    × CarriesOut X inventory answer script left old new)
