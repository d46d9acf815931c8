use Rattle.std.specs.Prelude.{length}
use Rattle.step_results.proofs.LineLemmas.{IsLeft}
use Rattle.script_lines.specs.Script.{commands_in, with_line}
use Rattle.subnet_core.proofs.running.commands_in.Given as goal

abbrev pub invariant-loop-line : goal.invariant-loop-line
invariant-loop-line l =
    IsLeft (with_line l.subnet.inventory.plan) l.number l.commands.items l.line-iterator (length l.script) (commands_in l.subnet.inventory.plan l.script)
