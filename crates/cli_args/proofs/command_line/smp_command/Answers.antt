use Rattle.cli_args.proofs.command_line.smp_command.Goals as goal

pub returns-clause-words : goal.returns-clause-words
returns-clause-words c =
    let smps = c.with_arg-smps.ensures _ _ c.subnet_command.ensures c.wanted_smps.ensures.rule in
    c.described.ensures.words _ (c.with_arg.ensures _ _ smps c.script_option.ensures.rule)
