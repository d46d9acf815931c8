use Rattle.cli_args.proofs.command_line.subnet_command.Goals as goal

pub returns : goal.returns
returns c =
    let topology = c.with_arg-command.ensures _ _ c.new.ensures.app c.wanted_topology.ensures.rule in
    c.with_arg.ensures _ _ topology c.wanted_partitions.ensures.rule
