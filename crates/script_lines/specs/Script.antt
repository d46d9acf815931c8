-- What a script stands for over a topology: a list of commands, or the first line that is at fault.
use Rattle.std.specs.Prelude.{ℕ, true, false, List, [], ◌∷◌, ◌++◌, codes, Option, Some, None, Result, Ok, Err, if◌then◌else◌}
use Rattle.std.specs.Option.{ok_or, option_to_list}
use Rattle.std.specs.Str.{bytes_eq}
use Rattle.text_words.specs.Lines.{lines, words_of}
use Rattle.step_results.specs.AtLine.{AtLine, after_lines}
use Rattle.step_results.specs.Steps.{◌>>=◌}
use Rattle.topo_file.specs.Topology.{TopologyState}
use Rattle.subnet_model.specs.declared.command.Command.{Command}
use Rattle.script_lines.specs.Ask.{ask_of}
use Rattle.script_lines.specs.Send.{send_of}
use Rattle.script_lines.specs.SwitchCable.{cable_of}
use Rattle.script_lines.specs.declared.script_cause.ScriptCause.{ScriptCause}
use Rattle.script_lines.specs.declared.script_cause.ScriptCause.TheVariants.{Malformed}

-- ---- a line: a command, or nothing
unfoldable pub command_in : TopologyState → List (List ℕ) → Result (Option Command) ScriptCause
command_in plan [] = Ok None
command_in plan (first ∷ rest) =
    if bytes_eq first (codes "send") then (send_of plan rest >>= λ command. Ok (Some command))
    else if bytes_eq first (codes "ask") then (ask_of plan rest >>= λ command. Ok (Some command))
    else if bytes_eq first (codes "cut") then (cable_of plan false rest >>= λ command. Ok (Some command))
    else if bytes_eq first (codes "mend") then (cable_of plan true rest >>= λ command. Ok (Some command))
    else Err Malformed

unfoldable pub command_of : TopologyState → List ℕ → Result (Option Command) ScriptCause
command_of plan line = do
  words ← ok_or (words_of line) Malformed
  command_in plan words

-- ---- the lines one after the other: the commands so far, and that of one more line
unfoldable pub with_line : TopologyState → ℕ → List Command → List ℕ → Result (List Command) ScriptCause
with_line plan number so_far line = command_of plan line >>= λ command. Ok (so_far ++ option_to_list command)

-- the commands of the whole script
abbrev pub commands_in : TopologyState → List ℕ → Result (List Command) (AtLine ScriptCause)
commands_in plan script = after_lines (with_line plan) 1 [] (lines script)
