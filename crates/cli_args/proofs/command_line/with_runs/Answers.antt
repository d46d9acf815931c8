use Rattle.std.proofs.Common.{refl}
use Rattle.cli_args.proofs.command_line.with_runs.Goals as goal

pub returns : goal.returns
returns c app is =
    let traces = c.with_command-traces.ensures _ _ is c.trace_command.ensures.words refl in
    let graphs = c.with_command-graphs.ensures _ _ traces c.graph_command.ensures.words refl in
    let runs = c.with_command-runs.ensures _ _ graphs c.run_command.ensures.words refl in
    let smps = c.with_command-smps.ensures _ _ runs c.smp_command.ensures.words refl in
    let managed = c.with_command-managed.ensures _ _ smps c.manage_command.ensures.words refl in
    c.with_command.ensures _ _ managed c.compare_command.ensures.words refl
