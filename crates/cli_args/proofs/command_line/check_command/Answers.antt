use Rattle.cli_args.proofs.command_line.check_command.Goals as goal

pub returns-clause-words : goal.returns-clause-words
returns-clause-words c =
    c.described.ensures.words _ (c.with_arg-command.ensures _ _ c.subnet_command.ensures c.balanced_flag.ensures.rule)
